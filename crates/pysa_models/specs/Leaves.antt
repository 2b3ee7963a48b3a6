-- Leaves: the qualified names that declare a mark of a known kind, by number.
use Rattle.std.specs.Prelude.{◌≡◌, Bool, ◌&&◌, List}
use Rattle.std.specs.List.{list_any}
use Rattle.std.specs.List.Sorted.{IsStrictlySortedBy}
use Rattle.rv_names.specs.Keys.{Parts, parts_equal, parts_order}
use Rattle.taint_config.specs.Config.{ConfigParts}
use Rattle.pysa_models.specs.Marks.{is_known}
use Rattle.pysa_models.specs.Models.{ModelAt, marks_in}

-- some model of the name declares a mark of a known kind, also one without effect
abbrev pub is_leaf : ConfigParts → List ModelAt → Parts → Bool
is_leaf c models q = list_any (λ m. list_any (is_known c) (marks_in m.decl) && parts_equal m.decl.name q) models

-- the names are those for which this holds
pub record AreMembers (c : ConfigParts) (models : List ModelAt) (names : List Parts) : Type 0 where
  pub same : (q : Parts) → list_any (parts_equal q) names ≡ is_leaf c models q

-- The leaves are the names for which this holds, each once. They rise by their names, which is the order of the bytes in
-- which they are printed, since a dot is below every byte of an identifier.
pub record AreLeaves (c : ConfigParts) (models : List ModelAt) (leaves : List Parts) : Type 0 where
  pub rising : IsStrictlySortedBy parts_order leaves
  pub members : (q : Parts) → list_any (parts_equal q) leaves ≡ is_leaf c models q
