-- What is answered of a file, from what is answered of its path and its text.
use Rattle.std.proofs.Common.{◌≡◌, Some, subst}
use Rattle.rv_names.specs.Keys.{Bytes}
use Rattle.project.specs.Items.{Fits}
use Rattle.project.specs.Paths.{kind_of_path}
use Rattle.project.specs.declared.item.Item.{Item}
use Rattle.project.specs.declared.item.Item.TheVariants as items
use Rattle.project.specs.declared.path.PathKind.{PathKind}
use Rattle.project.specs.declared.path.PathKind.TheVariants as kinds
use Rattle.project.specs.declared.path.Place.{Place}
use Rattle.front.specs.Reading.{Accepted, FailsAs, FailsAt, IsText, Misplaced, ReadsAs, ReadsAt, Refused, StandsAs, Unread}
use Rattle.front.specs.declared.faults.ReadFault.{ReadFault}
use Rattle.front.specs.declared.faults.ReadFault.TheVariants as faults

fitting : (path bytes : Bytes) (kind : PathKind) (item : Item) → kind_of_path path ≡ Some kind → ReadsAs kind bytes item → Fits path item
fitting path bytes (kinds.Module name) (items.Module parsed) h r = (name, h)
fitting path bytes kinds.Models (items.Models decls) h r = h
fitting path bytes kinds.Config (items.Config config) h r = h
fitting path bytes _ _ h r = absurd r

misreading : (path bytes : Bytes) (kind : PathKind) (fault : ReadFault) → kind_of_path path ≡ Some kind → IsText bytes → FailsAs kind bytes fault → Refused path bytes fault
misreading path bytes kind (faults.Python fault) h t r = record { kind = kind; stands = h; text = t; fails = r }
misreading path bytes kind (faults.Models fault) h t r = record { kind = kind; stands = h; text = t; fails = r }
misreading path bytes kind (faults.Config fault) h t r = record { kind = kind; stands = h; text = t; fails = r }
misreading path bytes (kinds.Module name) _ h t r = absurd r
misreading path bytes kinds.Models _ h t r = absurd r
misreading path bytes kinds.Config _ h t r = absurd r

pub accepted : (path bytes : Bytes) (place : Place) (item : Item) → StandsAs path place → IsText bytes → ReadsAt place bytes item → Accepted path bytes item
accepted path bytes place item s t r = record { kind = s.0; stands = s.1; text = t; reads = subst (λ p. ReadsAt p bytes item) s.2 r }

pub fits : (path bytes : Bytes) (place : Place) (item : Item) → StandsAs path place → ReadsAt place bytes item → Fits path item
fits path bytes place item s r = fitting path bytes s.0 item s.1 (subst (λ p. ReadsAt p bytes item) s.2 r)

pub misplaced : (path bytes : Bytes) (fault : ReadFault) → Misplaced path fault → Refused path bytes fault
misplaced path bytes faults.BadPath m = m
misplaced path bytes _ m = absurd m

pub unreadable : (path bytes : Bytes) (place : Place) (fault : ReadFault) → StandsAs path place → Unread bytes fault → Refused path bytes fault
unreadable path bytes place faults.TooLarge s u = ((s.0, s.1), u)
unreadable path bytes place faults.NotUtf8 s u = ((s.0, s.1), u)
unreadable path bytes place _ s u = absurd u

-- the fault of a text, whichever the kind
pub misread : (path bytes : Bytes) (place : Place) (fault : ReadFault) → StandsAs path place → IsText bytes → FailsAt place bytes fault → Refused path bytes fault
misread path bytes place fault s t r = misreading path bytes s.0 fault s.1 t (subst (λ p. FailsAt p bytes fault) s.2 r)
