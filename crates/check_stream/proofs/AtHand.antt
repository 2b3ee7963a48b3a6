-- A command at hand, for which nothing is taken.
use Rattle.std.proofs.Common.{◌≡◌, [], length, drop, Option, sym, ap, subst, ◌∙◌, append-nil}
use Rattle.std.specs.Io.KnownBytes.{Consumes}
use Rattle.std.proofs.KnownBytes.{Consumes-nil}
use Rattle.std.proofs.Math.Seq.{drop-append_seam}
use Rattle.rv_names.specs.Keys.{Bytes}
use Rattle.stream.specs.State.{State, taken}
use Rattle.check_stream.specs.Turns.{StepsAtHand}

none_taken : (old new : State) → StepsAtHand old new → taken old new ≡ []
none_taken old new steps = ap (drop (length old.pending)) (steps.kept ∙ sym (append-nil old.pending)) ∙ drop-append_seam old.pending []

pub took_at_hand : (left : Option Bytes) (old new : State) → StepsAtHand old new → Consumes left left (taken old new)
took_at_hand left old new steps = subst (Consumes left left) (sym (none_taken old new steps)) (Consumes-nil left)
