-- How far the loop of a check has come, and what follows once it ends.
use Rattle.std.proofs.Common.{◌≡◌, ◌+◌, ◌-◌, ◌≤◌, Bool, true, false, [], ◌∷◌, ◌++◌, length, Option, None, Some, refl, sym, ap, subst, ◌∙◌, arith, append-nil, append_assoc, length-append}
use Rattle.std.specs.Prelude.{IfSome}
use Rattle.std.specs.Io.KnownBytes.{Consumes, Appends}
use Rattle.std.proofs.KnownBytes.{Consumes-nil, Consumes-trans, Appends-nil, Appends-trans}
use Rattle.rv_names.specs.Keys.{Bytes}
use Rattle.script.specs.declared.command.Command.{Command}
use Rattle.script.specs.Grammar.{Spells}
use Rattle.stream.specs.State.{State, bytes_of, taken, input_limit}
use Rattle.check_stream.specs.Acts.{Acts}
use Rattle.check_stream.specs.Checks.{Came, IsAll}
use Rattle.check_stream.specs.Progress.{Progress, at_first}
use Rattle.check_stream.specs.Sends.{Writes}
use Rattle.check_stream.specs.Turns.{Steps}
use Rattle.check_stream.proofs.Rows.{came_first, came_next}

-- the bytes that were taken and written so far, those that are due, and what they were for
pub record Reached (left_old left_now held_old held_now : Option Bytes) (due : Bytes) (state : State) (progress : Progress) : Type 0 where
  pub input : Bytes
  pub out : Bytes
  pub took : Consumes left_old left_now input
  pub wrote : Appends held_old held_now out
  pub came : Came input progress (out ++ due) state.pending
  pub size : length input ≡ state.place + length state.pending
  pub within : state.place + length state.pending ≤ input_limit
  pub all : state.over ≡ true → IsAll left_old input

pub reached_first : (left held : Option Bytes) (due : Bytes) (state : State) (progress : Progress) → due ≡ [] → state ≡ record { last = []; pending = []; place = 0; over = false } → progress ≡ at_first
    → Reached left left held held due state progress
reached_first left held due state progress due_is state_is progress_is =
    subst (λ (d : Bytes). Reached left left held held d state progress) (sym due_is) (subst (λ (s : State). Reached left left held held [] s progress) (sym state_is)
    (subst (λ (p : Progress). Reached left left held held [] (record { last = []; pending = []; place = 0; over = false }) p) (sym progress_is) (record {
      input = [];
      out = [];
      took = Consumes-nil left;
      wrote = Appends-nil held;
      came = came_first;
      size = refl;
      within = omega arith;
      all = λ e. absurd cc;
    })))

-- ---- sizes

pub size_after : (input : Bytes) (old new : State) → length input ≡ old.place + length old.pending → bytes_of new ≡ old.pending ++ taken old new → new.place ≡ old.place + length new.last
    → length (input ++ taken old new) ≡ new.place + length new.pending
size_after input old new size kept place =
    let held : length (new.last ++ new.pending) ≡ length (old.pending ++ taken old new) = ap length kept in
    omega (arith, held, length-append new.last new.pending, length-append old.pending (taken old new), length-append input (taken old new))

-- where the rest begins
pub place_after : (input : Bytes) (old new : State) → length input ≡ old.place + length old.pending → bytes_of new ≡ old.pending ++ taken old new
    → old.place ≡ length (input ++ taken old new) - length (bytes_of new)
place_after input old new size kept =
    let held : length (bytes_of new) ≡ length (old.pending ++ taken old new) = ap length kept in
    omega (arith, held, length-append old.pending (taken old new), length-append input (taken old new))

-- ---- all bytes of the source

no_more : (xs more ys : Bytes) → xs ≡ (xs ++ more) ++ ys → more ≡ []
no_more xs [] ys e = refl
no_more xs (m ∷ more) ys e = let same : length xs ≡ length ((xs ++ m ∷ more) ++ ys) = ap length e in absurd (omega (arith, length-append (xs ++ m ∷ more) ys, length-append xs (m ∷ more)))

all_still : (a b : Option Bytes) (input more : Bytes) → Consumes a b (input ++ more) → IsAll a input → IsAll a (input ++ more)
all_still None b input more took all = tt
all_still (Some x) None input more took all = absurd took
all_still (Some x) (Some y) input more took all =
    let none : more ≡ [] = no_more input more y (all ∙ took) in
    ap (λ (m : Bytes). input ++ m) none ∙ append-nil input ∙ all

all_now : (a b c : Option Bytes) (input more : Bytes) → Consumes a b input → Consumes b c more → IfSome b (λ left. length left ≤ length more) → IsAll a (input ++ more)
all_now None b c input more took gave all = tt
all_now (Some x) None c input more took gave all = absurd took
all_now (Some x) (Some y) None input more took gave all = absurd gave
all_now (Some x) (Some y) (Some z) input more took gave all =
    let none : z ≡ [] = nothing_left z (omega (arith, all, ap length gave, length-append more z)) in
    let same : y ≡ more = gave ∙ ap (λ (l : Bytes). more ++ l) none ∙ append-nil more in
    ap (λ (m : Bytes). input ++ m) (sym same) ∙ sym took
  where
    nothing_left : (l : Bytes) → length l ≤ 0 → l ≡ []
    nothing_left [] short = refl
    nothing_left (b ∷ l) short = absurd (omega arith)

pub all_after : (a b c : Option Bytes) (input : Bytes) (old new : State) → Consumes a b input → Consumes b c (taken old new) → (old.over ≡ true → IsAll a input) → Steps b c old new
    → new.over ≡ true → IsAll a (input ++ taken old new)
all_after a b c input old new took more all steps over = by old.over refl
  where
    by : (o : Bool) → old.over ≡ o → IsAll a (input ++ taken old new)
    by true e = all_still a c input (taken old new) (Consumes-trans a b c input (taken old new) took more) (all e)
    by false e = all_now a b c input (taken old new) took more (steps.ended e over)

-- ---- a turn more

-- the lines of one more command are due
pub reached_next : (left_old left_mid left_new held_old held_now : Option Bytes) (due : Bytes) (old new : State) (before come_to : Progress) (lines : Bytes) (command : Command)
    → Reached left_old left_mid held_old held_now due old before → Steps left_mid left_new old new → Consumes left_mid left_new (taken old new)
    → Spells 0 new.last command → Acts before new.last command lines come_to → Reached left_old left_new held_old held_now (due ++ lines) new come_to
reached_next left_old left_mid left_new held_old held_now due old new before come_to lines command reached steps took spells acts = record {
  input = reached.input ++ taken old new;
  out = reached.out;
  took = Consumes-trans left_old left_mid left_new reached.input (taken old new) reached.took took;
  wrote = reached.wrote;
  came = subst (λ (l : Bytes). Came (reached.input ++ taken old new) come_to l new.pending) (append_assoc reached.out due lines)
      (came_next reached.input (reached.out ++ due) lines before come_to old new command reached.came steps.kept spells acts);
  size = size_after reached.input old new reached.size steps.kept steps.place;
  within = steps.within;
  all = all_after left_old left_mid left_new reached.input old new reached.took took reached.all steps;
}

-- a front of what is due was written
pub reached_writes : (left_old left_now held_old held_mid held_new : Option Bytes) (due rest : Bytes) (state : State) (progress : Progress)
    → Reached left_old left_now held_old held_mid due state progress → Writes held_mid held_new due rest → Reached left_old left_now held_old held_new rest state progress
reached_writes left_old left_now held_old held_mid held_new due rest state progress reached writes = record {
  input = reached.input;
  out = reached.out ++ writes.front;
  took = reached.took;
  wrote = Appends-trans held_old held_mid held_new reached.out writes.front reached.wrote writes.wrote;
  came = subst (λ (l : Bytes). Came reached.input progress l state.pending) (ap (λ (l : Bytes). reached.out ++ l) writes.parts ∙ sym (append_assoc reached.out writes.front rest)) reached.came;
  size = reached.size;
  within = reached.within;
  all = reached.all;
}
