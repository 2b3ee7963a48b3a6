use Rattle.std.proofs.Common.{◌≡◌, Option, Some, None, refl, sym, ◌∙◌}
use Rattle.std.specs.Prelude.{option_map}
use Rattle.rv_names.specs.Keys.{Bytes}
use Rattle.project.specs.Paths.{kind_of_path, place_of}
use Rattle.project.specs.declared.path.PathKind.{PathKind}
use Rattle.project.specs.declared.path.Place.{Place}
use Rattle.front.specs.Reading.{StandsAs}
use Rattle.front.proofs.reading.place_at.Goals as goal

stands : (path : Bytes) (place : Place) (o : Option PathKind) → kind_of_path path ≡ o → Some place ≡ option_map place_of o → StandsAs path place
stands path place None e h = absurd cc
stands path place (Some kind) e h = (kind, e, cc)

none : (path : Bytes) (o : Option PathKind) → kind_of_path path ≡ o → None ≡ option_map place_of o → kind_of_path path ≡ None
none path None e h = e
none path (Some kind) e h = absurd cc

pub returns-in-Some-clause-place : goal.returns-in-Some-clause-place
returns-in-Some-clause-place c = stands c.args.path.now c.in-Some.place (kind_of_path c.args.path.now) refl (sym c.in-Some.is ∙ c.place_of_path.ensures)

pub returns-in-None-clause-refused : goal.returns-in-None-clause-refused
returns-in-None-clause-refused c unlike = none c.args.path.now (kind_of_path c.args.path.now) refl (sym c.in-None.is ∙ c.place_of_path.ensures)
