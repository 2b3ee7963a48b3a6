-- The next command of a stream that a check takes.
use Rattle.std.proofs.Common.{◌≡◌, ◌≢◌, ◌⊎◌, ◌+◌, ◌≤◌, ℕ, Bool, true, false, [], ◌∷◌, ◌++◌, length, drop, Option, None, Some, Result, Ok, Err, refl, sym, ap, subst, ◌∙◌, arith, inl, inr, append_assoc, length-append}
use Rattle.std.specs.Prelude.{IfSome, IfErr, OnErr, IsErrOf, codes, decimal, slice_get}
use Rattle.std.specs.Io.KnownBytes.{Consumes}
use Rattle.std.proofs.KnownBytes.{Consumes-trans}
use Rattle.std.proofs.Math.Seq.{drop-append_seam}
use Rattle.rv_names.specs.Keys.{Bytes}
use Rattle.rv_io.specs.Counts.{Rises}
use Rattle.rv_io.proofs.Steps.{Rises-later}
use Rattle.script.specs.declared.command.Command.{Command}
use Rattle.script.specs.declared.command.Command.TheVariants as commands
use Rattle.script.specs.Grammar.{Spells, space, line_end}
use Rattle.script.specs.Stream.{BeginsNone}
use Rattle.stream.specs.declared.fault.StreamFault.{StreamFault}
use Rattle.stream.specs.declared.fault.StreamFault.TheVariants as faults
use Rattle.stream.specs.State.{State, bytes_of, taken, input_limit, IsCause, ConsumesOneMore}
use Rattle.check_stream.specs.Ends.{StartsTaken, run_byte}
use Rattle.check_stream.specs.Turns.{IsTaken, Stops}

-- ---- the first byte of a command

pub record BeginsSome (text : Bytes) : Type 0 where
  pub first : ℕ
  pub more : Bytes
  pub parts : text ≡ first ∷ more

pub spells_some : (text : Bytes) (command : Command) → Spells 0 text command → BeginsSome text
spells_some text (commands.Put path from len) h = record { first = 112; more = (codes "ut " ++ path ++ space ∷ decimal len ++ line_end ∷ []) ++ h.3 ++ line_end ∷ []; parts = h.5 }
spells_some text (commands.Drop path) h = record { first = 100; more = codes "rop " ++ path ++ line_end ∷ []; parts = h.1 }
spells_some text (commands.Ask session query) h = record { first = 97; more = codes "sk " ++ decimal session ++ space ∷ h.1 ++ line_end ∷ []; parts = h.3 }
spells_some text commands.Sync h = record { first = 115; more = codes "ync\n"; parts = h }
spells_some text (commands.Run fuel calls draws) h = record { first = 114; more = codes "un " ++ decimal fuel ++ space ∷ h.1 ++ line_end ∷ []; parts = h.4 }
spells_some text commands.End h = record { first = 101; more = codes "nd\n"; parts = h }

-- a text that spells a command isn't empty
pub spells_long : (text : Bytes) (command : Command) → Spells 0 text command → 1 ≤ length text
spells_long text command h = let some = spells_some text command h in omega (arith, ap length some.parts)

pub none_empty : BeginsNone 0 []
none_empty command rest begins =
    let some = spells_some begins.text command begins.spells in
    let parts : [] ≡ (some.first ∷ some.more) ++ rest = begins.parts ∙ ap (λ (t : Bytes). t ++ rest) some.parts in
    absurd cc

-- the command whose first byte isn't that of a `run` is taken
pub is_taken : (text rest more : Bytes) (byte : ℕ) (command : Command) → Spells 0 text command → text ++ rest ≡ byte ∷ more → byte ≢ run_byte → IsTaken command
is_taken text rest more byte (commands.Put path from len) h parts other = tt
is_taken text rest more byte (commands.Drop path) h parts other = tt
is_taken text rest more byte (commands.Ask session query) h parts other = tt
is_taken text rest more byte commands.Sync h parts other = tt
is_taken text rest more byte (commands.Run fuel calls draws) h parts other =
    let some = spells_some text (commands.Run fuel calls draws) h in
    let same : (some.first ∷ some.more) ++ rest ≡ byte ∷ more = ap (λ (t : Bytes). t ++ rest) (sym some.parts) ∙ parts in
    let is : byte ≡ 114 = cc in absurd (other is)
is_taken text rest more byte commands.End h parts other = tt

pub starts_taken : (rest more : Bytes) (byte : ℕ) → rest ≡ byte ∷ more → byte ≢ run_byte → StartsTaken rest
starts_taken rest more byte parts other = subst StartsTaken (sym parts) other

-- ---- two steps

-- what a first step that acts on nothing and a second one took
pub record Twice (old mid new : State) : Type 0 where
  pub still : mid.last ≡ []
  pub first : bytes_of mid ≡ old.pending ++ taken old mid
  pub second : bytes_of new ≡ mid.pending ++ taken mid new

held_twice : (old mid new : State) → Twice old mid new → bytes_of new ≡ old.pending ++ (taken old mid ++ taken mid new)
held_twice old mid new twice =
    let pending : mid.pending ≡ old.pending ++ taken old mid = ap (λ (l : Bytes). l ++ mid.pending) (sym twice.still) ∙ twice.first in
    twice.second ∙ ap (λ (l : Bytes). l ++ taken mid new) pending ∙ append_assoc old.pending (taken old mid) (taken mid new)

pub taken_twice : (old mid new : State) → Twice old mid new → taken old new ≡ taken old mid ++ taken mid new
taken_twice old mid new twice = ap (drop (length old.pending)) (held_twice old mid new twice) ∙ drop-append_seam old.pending (taken old mid ++ taken mid new)

pub kept_twice : (old mid new : State) → Twice old mid new → bytes_of new ≡ old.pending ++ taken old new
kept_twice old mid new twice = held_twice old mid new twice ∙ ap (λ (l : Bytes). old.pending ++ l) (sym (taken_twice old mid new twice))

pub took_twice : (a b c : Option Bytes) (old mid new : State) → Twice old mid new → Consumes a b (taken old mid) → Consumes b c (taken mid new) → Consumes a c (taken old new)
took_twice a b c old mid new twice first second = subst (Consumes a c) (sym (taken_twice old mid new twice)) (Consumes-trans a b c (taken old mid) (taken mid new) first second)

pub one_more_twice : (a b c : Option Bytes) (old mid new : State) → Twice old mid new → Consumes a b (taken old mid) → ConsumesOneMore b c (taken mid new) → ConsumesOneMore a c (taken old new)
one_more_twice a b c old mid new twice first second =
    let byte = second.0 ∷ [] in (
      second.0,
      subst (λ (l : Bytes). Consumes a c (l ++ byte)) (sym (taken_twice old mid new twice))
          (subst (Consumes a c) (sym (append_assoc (taken old mid) (taken mid new) byte)) (Consumes-trans a b c (taken old mid) (taken mid new ++ byte) first second.1)),
    )

-- all bytes that were left were taken, by the first step or by the second
all_first : (a : Option Bytes) (first second both : Bytes) → both ≡ first ++ second → IfSome a (λ left. first ≡ left) → IfSome a (λ left. length left ≤ length both)
all_first None first second both parts all = tt
all_first (Some x) first second both parts all = omega (arith, ap length all, ap length parts, length-append first second)

all_second : (a b : Option Bytes) (first second both : Bytes) → both ≡ first ++ second → Consumes a b first → IfSome b (λ left. second ≡ left) → IfSome a (λ left. length left ≤ length both)
all_second None b first second both parts took all = tt
all_second (Some x) None first second both parts took all = absurd took
all_second (Some x) (Some y) first second both parts took all = omega (arith, ap length took, ap length all, ap length parts, length-append first second, length-append first y)

pub ended_twice : (a b : Option Bytes) (old mid new : State) → Twice old mid new → Consumes a b (taken old mid)
    → (old.over ≡ false → mid.over ≡ true → IfSome a (λ left. taken old mid ≡ left)) → (mid.over ≡ false → new.over ≡ true → IfSome b (λ left. taken mid new ≡ left))
    → old.over ≡ false → new.over ≡ true → IfSome a (λ left. length left ≤ length (taken old new))
ended_twice a b old mid new twice took first second goes_on ends = by mid.over refl
  where
    by : (o : Bool) → mid.over ≡ o → IfSome a (λ left. length left ≤ length (taken old new))
    by true e = all_first a (taken old mid) (taken mid new) (taken old new) (taken_twice old mid new twice) (first goes_on e)
    by false e = all_second a b (taken old mid) (taken mid new) (taken old new) (taken_twice old mid new twice) took (second e ends)

-- ---- by the answer

is_too_long : {T : Type 0} (r : Result T StreamFault) → IsErrOf r faults.TooLong ⊎ (IsErrOf r faults.TooLong → ⊥)
is_too_long (Ok x) = inr (λ e. absurd cc)
is_too_long (Err (faults.Malformed at)) = inr (λ e. absurd cc)
is_too_long (Err faults.ReadFault) = inr (λ e. absurd cc)
is_too_long (Err faults.TooLong) = inl refl
is_too_long (Err faults.Memory) = inr (λ e. absurd cc)

pub total_at_limit : (rose : Type 0) (new : State) (r : Result Command StreamFault) → IfErr r (IsCause rose new.place new.pending new.over) → IsErrOf r faults.TooLong → new.place + length new.pending ≡ input_limit
total_at_limit rose new (Ok x) cause e = absurd cc
total_at_limit rose new (Err (faults.Malformed at)) cause e = absurd cc
total_at_limit rose new (Err faults.ReadFault) cause e = absurd cc
total_at_limit rose new (Err faults.TooLong) cause e = cause.0
total_at_limit rose new (Err faults.Memory) cause e = absurd cc

-- either way
pub took_either : {T : Type 0} (r : Result T StreamFault) (exact one_more : Type 0) → ((IsErrOf r faults.TooLong → ⊥) → exact) → (IsErrOf r faults.TooLong → one_more) → exact ⊎ one_more
took_either r exact one_more when_exact when_more = elim (is_too_long r) [
  | inl e ↦ inr (when_more e)
  | inr other ↦ inl (when_exact other)
]

-- why the second step gave none
pub stops_by : (old_faults mid_faults new_faults : ℕ) (new : State) (r : Result Command StreamFault) → old_faults ≤ mid_faults → StartsTaken new.pending
    → IfErr r (IsCause (Rises mid_faults new_faults) new.place new.pending new.over) → IfErr r (Stops (Rises old_faults new_faults) new)
stops_by old_faults mid_faults new_faults new (Ok x) falls_not starts cause = tt
stops_by old_faults mid_faults new_faults new (Err (faults.Malformed at)) falls_not starts cause = (cause.0, inr cause.1)
stops_by old_faults mid_faults new_faults new (Err faults.ReadFault) falls_not starts cause = (Rises-later old_faults mid_faults new_faults falls_not cause.0, starts, cause.1)
stops_by old_faults mid_faults new_faults new (Err faults.TooLong) falls_not starts cause = (cause.0, starts, cause.1)
stops_by old_faults mid_faults new_faults new (Err faults.Memory) falls_not starts cause = tt

-- ---- the first byte at hand

pub begins_with : (l : Bytes) (byte : ℕ) (first : Option ℕ) → first ≡ slice_get l 0 → first ≡ Some byte → (more : Bytes) × (l ≡ byte ∷ more)
begins_with [] byte first found is = absurd cc
begins_with (b ∷ l) byte first found is = let same : b ≡ byte = cc in (l, ap (λ (x : ℕ). x ∷ l) same)

-- what is held after a second step begins with the same byte
pub begins_still : (old mid new : State) (byte : ℕ) (more : Bytes) → Twice old mid new → mid.pending ≡ byte ∷ more → bytes_of new ≡ byte ∷ (more ++ taken mid new)
begins_still old mid new byte more twice parts = twice.second ∙ ap (λ (l : Bytes). l ++ taken mid new) parts

pub found_taken : (old mid new : State) (byte : ℕ) (more : Bytes) (command : Command) → Twice old mid new → mid.pending ≡ byte ∷ more → byte ≢ run_byte → Spells 0 new.last command
    → Spells 0 new.last command × IsTaken command
found_taken old mid new byte more command twice parts other spells = (spells, is_taken new.last new.pending (more ++ taken mid new) byte command spells (begins_still old mid new byte more twice parts) other)

-- no run stands at the front of the bytes that gave no command
pub pending_taken : (old mid new : State) (byte : ℕ) (more : Bytes) → Twice old mid new → mid.pending ≡ byte ∷ more → byte ≢ run_byte → new.last ≡ [] → StartsTaken new.pending
pending_taken old mid new byte more twice parts other none =
    starts_taken new.pending (more ++ taken mid new) byte (ap (λ (l : Bytes). l ++ new.pending) (sym none) ∙ begins_still old mid new byte more twice parts) other

pub stops_at : (old_faults mid_faults new_faults : ℕ) (old mid new : State) (byte : ℕ) (more : Bytes) (r : Result Command StreamFault) → Twice old mid new → mid.pending ≡ byte ∷ more → byte ≢ run_byte
    → OnErr r (new.last ≡ []) → old_faults ≤ mid_faults → IfErr r (IsCause (Rises mid_faults new_faults) new.place new.pending new.over) → IfErr r (Stops (Rises old_faults new_faults) new)
stops_at old_faults mid_faults new_faults old mid new byte more (Ok x) twice parts other none falls_not cause = tt
stops_at old_faults mid_faults new_faults old mid new byte more (Err e) twice parts other none falls_not cause =
    stops_by old_faults mid_faults new_faults new (Err e) falls_not (pending_taken old mid new byte more twice parts other none) cause
