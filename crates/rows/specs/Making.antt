-- What is made of an entry, by a rule.
use Rattle.std.specs.Prelude.{ℕ}
use Rattle.path_trees.specs.declared.spots.Spot.{Spot}
use Rattle.path_trees.specs.Trees.{TreeMap}
use Rattle.rows.specs.declared.gathering.Rule.{Rule}
use Rattle.rows.specs.declared.gathering.Rule.TheVariants.{Carried, Through, Wanted}
use Rattle.rows.specs.Rules.{carried_entry, through_entry, wanted_entry}

abbrev pub entry_made : Rule → Spot → ℕ → TreeMap
entry_made Carried s d = carried_entry s d
entry_made (Through t) s d = through_entry t.now s d
entry_made (Wanted t) s d = wanted_entry t.now s d
