-- What a check did, once it ends.
use Rattle.std.proofs.Common.{◌≡◌, ◌≢◌, ◌+◌, ◌≤◌, ℕ, Bool, true, false, List, [], ◌∷◌, ◌++◌, length, Option, refl, sym, ap, subst, ◌∙◌, arith, inl, inr, append_assoc, append-nil}
use Rattle.std.specs.Io.KnownBytes.{Consumes, Appends}
use Rattle.std.proofs.KnownBytes.{Consumes-trans, Appends-trans}
use Rattle.rv_names.specs.Keys.{Bytes}
use Rattle.rv_io.specs.Counts.{Rises}
use Rattle.rv_io.proofs.Steps.{Rises-later}
use Rattle.script.specs.declared.command.Command.{Command}
use Rattle.stream.specs.State.{State, bytes_of, taken}
use Rattle.check_stream.specs.Checks.{Came, IsAll, IsOneOf, OneMore, Takes, Checked, Whole, Broken, Stopped, EndsAt}
use Rattle.check_stream.specs.Ends.{Closes, answered, unanswered, asked, Ends, closed, not_taken, malformed, unread, too_long, answer_status}
use Rattle.check_stream.specs.Progress.{Progress}
use Rattle.check_stream.specs.Sends.{IsFront, Sends, Breaks}
use Rattle.check_stream.specs.Turns.{Steps, TakesFor}
use Rattle.check_stream.specs.declared.turn.Turn.{Turn}
use Rattle.check_stream.proofs.Reached.{Reached, size_after, place_after, all_after}
use Rattle.check_stream.proofs.Rows.{came_more}

-- ---- what was taken

abbrev pub exact_statuses : List ℕ
exact_statuses = 0 ∷ 3 ∷ 4 ∷ 8 ∷ 9 ∷ 10 ∷ []

abbrev pub whole_statuses : List ℕ
whole_statuses = 0 ∷ 3 ∷ 4 ∷ 7 ∷ 8 ∷ 9 ∷ 10 ∷ []

abbrev pub all_statuses : List ℕ
all_statuses = 0 ∷ 3 ∷ 4 ∷ 5 ∷ 6 ∷ 7 ∷ 8 ∷ 9 ∷ 10 ∷ []

one_more_after : (a b c : Option Bytes) (total : ℕ) (input more : Bytes) → length (input ++ more) ≡ total → Consumes a b input → OneMore total b c more → OneMore (length (input ++ more)) a c (input ++ more)
one_more_after a b c total input more size took long =
    let byte = long.1.0 ∷ [] in
    (size ∙ long.0, (long.1.0, subst (Consumes a c) (sym (append_assoc input more byte)) (Consumes-trans a b c input (more ++ byte) took long.1.1)))

pub takes_after : (status : ℕ) (a b c : Option Bytes) (input : Bytes) (old new : State) → length input ≡ old.place + length old.pending → Consumes a b input → Steps b c old new
    → (IsOneOf exact_statuses status → Consumes b c (taken old new)) → (status ≡ 7 → OneMore (new.place + length new.pending) b c (taken old new)) → Takes status a c (input ++ taken old new)
takes_after status a b c input old new size took steps exact long =
    let more = taken old new in
    let total : length (input ++ taken old new) ≡ new.place + length new.pending = size_after input old new size steps.kept steps.place in
    record {
      exact = λ is. Consumes-trans a b c input more took (exact is);
      too_long = λ is. one_more_after a b c (new.place + length new.pending) input more total took (long is);
      taken = elim steps.took [
        | inl gave ↦ inl (Consumes-trans a b c input more took gave)
        | inr one ↦ inr (one_more_after a b c (new.place + length new.pending) input more total took one)
      ];
    }

-- what was taken for the last lines
abbrev pub TakesIn : Option Bytes → Option Bytes → State → State → Turn → Type 0
TakesIn left_old left_new old new turn = TakesFor (Consumes left_old left_new (taken old new)) (OneMore (new.place + length new.pending) left_old left_new (taken old new)) turn

-- ---- how it ends

ends_weaker : (place : ℕ) (over then failed later : Type 0) (progress : Progress) (rest last : Bytes) (status : ℕ) → (status ≢ 7 → over → then) → (failed → later)
    → Ends place over failed progress rest last status → Ends place then later progress rest last status
ends_weaker place over then failed later progress rest last status over_then failed_later (closed command behind l s begins closes) = closed command behind l s begins closes
ends_weaker place over then failed later progress rest last status over_then failed_later (not_taken more parts) = not_taken more parts
ends_weaker place over then failed later progress rest last status over_then failed_later (malformed none dead) = malformed none (λ unfinished. over_then (λ e. omega arith) (dead unfinished))
ends_weaker place over then failed later progress rest last status over_then failed_later (unread failed_now waits) = unread (failed_later failed_now) waits
ends_weaker place over then failed later progress rest last status over_then failed_later (too_long size waits) = too_long size waits

pub record IsEnding (status : ℕ) : Type 0 where
  pub whole : IsOneOf whole_statuses status
  pub known : IsOneOf all_statuses status
  pub not_five : status ≢ 5
  pub not_six : status ≢ 6

answer_ending : (refused has_issue : Bool) → IsEnding (answer_status refused has_issue)
answer_ending true has_issue = record { whole = refl; known = refl; not_five = λ e. omega arith; not_six = λ e. omega arith }
answer_ending false true = record { whole = refl; known = refl; not_five = λ e. omega arith; not_six = λ e. omega arith }
answer_ending false false = record { whole = refl; known = refl; not_five = λ e. omega arith; not_six = λ e. omega arith }

closes_ending : (progress : Progress) (command : Command) (last : Bytes) (status : ℕ) → Closes progress command last status → IsEnding status
closes_ending progress command last status (answered report is) = answer_ending progress.refused report.has_issues
closes_ending progress command last status (unanswered is) = record { whole = refl; known = refl; not_five = λ e. omega arith; not_six = λ e. omega arith }
closes_ending progress command last status (asked session query) = record { whole = refl; known = refl; not_five = λ e. omega arith; not_six = λ e. omega arith }

ends_ending : (place : ℕ) (over failed : Type 0) (progress : Progress) (rest last : Bytes) (status : ℕ) → Ends place over failed progress rest last status → IsEnding status
ends_ending place over failed progress rest last status (closed command behind l s begins closes) = closes_ending progress command l s closes
ends_ending place over failed progress rest last status (not_taken more parts) = record { whole = refl; known = refl; not_five = λ e. omega arith; not_six = λ e. omega arith }
ends_ending place over failed progress rest last status (malformed none dead) = record { whole = refl; known = refl; not_five = λ e. omega arith; not_six = λ e. omega arith }
ends_ending place over failed progress rest last status (unread failed_now waits) = record { whole = refl; known = refl; not_five = λ e. omega arith; not_six = λ e. omega arith }
ends_ending place over failed progress rest last status (too_long size waits) = record { whole = refl; known = refl; not_five = λ e. omega arith; not_six = λ e. omega arith }

-- ---- what a check did

whole_checked : (status : ℕ) (input out : Bytes) (over failed sink_failed : Type 0) → IsEnding status → Whole status input out over failed → Checked status input out over failed sink_failed
whole_checked status input out over failed sink_failed ending did = record {
  statuses = ending.known;
  whole = λ _. did;
  broken = λ e. absurd (ending.not_five e);
  memory = λ e. absurd (ending.not_six e);
}

pub broken_checked : (input out : Bytes) (over failed sink_failed : Type 0) → sink_failed → Broken input out over failed → Checked 5 input out over failed sink_failed
broken_checked input out over failed sink_failed fell did = record {
  statuses = refl;
  whole = λ one. absurd cc;
  broken = λ _. (fell, did);
  memory = λ e. absurd (omega arith);
}

pub stopped_checked : (input out : Bytes) (over failed sink_failed : Type 0) → Stopped input out → Checked 6 input out over failed sink_failed
stopped_checked input out over failed sink_failed did = record {
  statuses = refl;
  whole = λ one. absurd cc;
  broken = λ e. absurd (omega arith);
  memory = λ _. did;
}

-- what the call answers of a source and a sink
abbrev pub Did : ℕ → Option Bytes → Option Bytes → Option Bytes → Option Bytes → Type 0 → Type 0 → Type 0
Did status left_old left_new held_old held_new failed sink_failed =
    (input : Bytes) × (out : Bytes) × Takes status left_old left_new input × Appends held_old held_new out × Checked status input out (IsAll left_old input) failed sink_failed

-- all bytes behind the commands
came_still : (input out : Bytes) (progress : Progress) (old new : State) → Came input progress out old.pending → bytes_of new ≡ old.pending ++ taken old new → Came (input ++ taken old new) progress out (bytes_of new)
came_still input out progress old new came kept = subst (Came (input ++ taken old new) progress out) (sym kept) (came_more input (taken old new) old.pending out progress came)

-- ---- a sink that failed behind a front of what was due

broken_at : (due front rest lines : Bytes) → due ≡ front ++ rest → IsFront (lines ++ front) ((lines ++ due) ++ [])
broken_at due front rest lines parts = (rest, append-nil (lines ++ due) ∙ ap (λ (l : Bytes). lines ++ l) parts ∙ sym (append_assoc lines front rest))

pub ended_breaking : (a b h k m : Option Bytes) (due : Bytes) (state : State) (progress : Progress) (failed sink_failed later : Type 0)
    → Reached a b h k due state progress → Breaks k m due sink_failed → (sink_failed → later) → Did 5 a b h m failed later
ended_breaking a b h k m due state progress failed sink_failed later reached breaks sink_later =
    let writes = breaks.writes in (
      reached.input,
      reached.out ++ writes.front,
      record { exact = λ one. absurd cc; too_long = λ e. absurd (omega arith); taken = inl reached.took },
      Appends-trans h k m reached.out writes.front reached.wrote writes.wrote,
      broken_checked reached.input (reached.out ++ writes.front) (IsAll a reached.input) failed later (sink_later breaks.failed) (record {
        progress = progress;
        lines = reached.out ++ due;
        rest = state.pending;
        last = [];
        came = reached.came;
        due = inl refl;
        front = broken_at due writes.front breaks.rest reached.out writes.parts;
      }),
    )

pub record Sent (status result : ℕ) (text : Bytes) (held_old held_new : Option Bytes) (sink_failed : Type 0) : Type 0 where
  pub out : Bytes
  pub wrote : Appends held_old held_new out
  pub sends : Sends status text result out sink_failed

-- ---- want of memory, once what was due is sent

pub ended_memory : (a b c h k m : Option Bytes) (due : Bytes) (old new : State) (before : Progress) (result : ℕ) (failed sink_failed later : Type 0)
    → Reached a b h k due old before → Steps b c old new → (sink_failed → later) → Sent 6 result due k m sink_failed → Did result a c h m failed later
ended_memory a b c h k m due old new before result failed sink_failed later reached steps sink_later sent = by sent.sends
  where
    input : Bytes
    input = reached.input ++ taken old new

    came : Came input before (reached.out ++ due) (bytes_of new)
    came = came_still reached.input (reached.out ++ due) before old new reached.came steps.kept

    by : Sends 6 due result sent.out sink_failed → Did result a c h m failed later
    by (inl whole) =
        let same : reached.out ++ due ≡ reached.out ++ sent.out = ap (λ (l : Bytes). reached.out ++ l) (sym whole.1) in
        subst (λ (s : ℕ). Did s a c h m failed later) (sym whole.0) (
          input,
          reached.out ++ sent.out,
          takes_after 6 a b c reached.input old new reached.size reached.took steps (λ one. absurd cc) (λ e. absurd (omega arith)),
          Appends-trans h k m reached.out sent.out reached.wrote sent.wrote,
          stopped_checked input (reached.out ++ sent.out) (IsAll a input) failed later
              (record { progress = before; rest = bytes_of new; came = subst (λ (l : Bytes). Came input before l (bytes_of new)) same came }),
        )
    by (inr broke) =
        subst (λ (s : ℕ). Did s a c h m failed later) (sym broke.0) (
          input,
          reached.out ++ sent.out,
          takes_after 5 a b c reached.input old new reached.size reached.took steps (λ one. absurd cc) (λ e. absurd (omega arith)),
          Appends-trans h k m reached.out sent.out reached.wrote sent.wrote,
          broken_checked input (reached.out ++ sent.out) (IsAll a input) failed later (sink_later broke.1) (record {
            progress = before;
            lines = reached.out ++ due;
            rest = bytes_of new;
            last = [];
            came = came;
            due = inl refl;
            front = broken_at due sent.out broke.2.0 reached.out broke.2.1;
          }),
        )

-- ---- the last lines

ends_after : (a b c : Option Bytes) (input last : Bytes) (old new : State) (before : Progress) (failed later : Type 0) (status : ℕ) → length input ≡ old.place + length old.pending → Consumes a b input
    → (old.over ≡ true → IsAll a input) → Steps b c old new → (status ≢ 7 → Consumes b c (taken old new)) → (failed → later) → Ends old.place (new.over ≡ true) failed before (bytes_of new) last status
    → EndsAt (input ++ taken old new) (IsAll a (input ++ taken old new)) later before (bytes_of new) last status
ends_after a b c input last old new before failed later status size took all steps exact failed_later ends =
    subst (λ (p : ℕ). Ends p (IsAll a (input ++ taken old new)) later before (bytes_of new) last status) (place_after input old new size steps.kept)
    (ends_weaker old.place (new.over ≡ true) (IsAll a (input ++ taken old new)) failed later before (bytes_of new) last status
    (λ other over. all_after a b c input old new took (exact other) all steps over) failed_later ends)

not_seven : (status : ℕ) → IsOneOf exact_statuses status → status ≢ 7
not_seven status one is = let seven : IsOneOf exact_statuses 7 = subst (IsOneOf exact_statuses) is one in absurd cc

last_front : (lines due last out : Bytes) → IsFront out (due ++ last) → IsFront (lines ++ out) ((lines ++ due) ++ last)
last_front lines due last out front = (front.0, append_assoc lines due last ∙ ap (λ (l : Bytes). lines ++ l) front.1 ∙ sym (append_assoc lines out front.0))

pub ended_last : (a b c h k m : Option Bytes) (f0 f1 f2 : ℕ) (due : Bytes) (old new : State) (before : Progress) (last : Bytes) (status result : ℕ) (sink_failed later : Type 0)
    → Reached a b h k due old before → Steps b c old new → (status ≡ 7 → OneMore (new.place + length new.pending) b c (taken old new)) × (status ≢ 7 → Consumes b c (taken old new))
    → f0 ≤ f1 → Ends old.place (new.over ≡ true) (Rises f1 f2) before (bytes_of new) last status → (sink_failed → later) → Sent status result (due ++ last) k m sink_failed → Did result a c h m (Rises f0 f2) later
ended_last a b c h k m f0 f1 f2 due old new before last status result sink_failed later reached steps takes falls_not ends sink_later sent = by sent.sends
  where
    input : Bytes
    input = reached.input ++ taken old new

    ends_here : EndsAt input (IsAll a input) (Rises f0 f2) before (bytes_of new) last status
    ends_here = ends_after a b c reached.input last old new before (Rises f1 f2) (Rises f0 f2) status reached.size reached.took reached.all steps takes.1 (Rises-later f0 f1 f2 falls_not) ends

    came : Came input before (reached.out ++ due) (bytes_of new)
    came = came_still reached.input (reached.out ++ due) before old new reached.came steps.kept

    ending : IsEnding status
    ending = ends_ending old.place (new.over ≡ true) (Rises f1 f2) before (bytes_of new) last status ends

    took : (s : ℕ) → (IsOneOf exact_statuses s → Consumes b c (taken old new)) → (s ≡ 7 → OneMore (new.place + length new.pending) b c (taken old new)) → Takes s a c input
    took s exact long = takes_after s a b c reached.input old new reached.size reached.took steps exact long

    by : Sends status (due ++ last) result sent.out sink_failed → Did result a c h m (Rises f0 f2) later
    by (inl whole) =
        let whole_out : reached.out ++ sent.out ≡ (reached.out ++ due) ++ last = ap (λ (l : Bytes). reached.out ++ l) whole.1 ∙ sym (append_assoc reached.out due last) in
        subst (λ (s : ℕ). Did s a c h m (Rises f0 f2) later) (sym whole.0) (
          input,
          reached.out ++ sent.out,
          took status (λ one. takes.1 (not_seven status one)) takes.0,
          Appends-trans h k m reached.out sent.out reached.wrote sent.wrote,
          whole_checked status input (reached.out ++ sent.out) (IsAll a input) (Rises f0 f2) later ending
              (record { progress = before; lines = reached.out ++ due; rest = bytes_of new; last = last; came = came; ends = ends_here; out_is = whole_out }),
        )
    by (inr failed) =
        subst (λ (s : ℕ). Did s a c h m (Rises f0 f2) later) (sym failed.0) (
          input,
          reached.out ++ sent.out,
          took 5 (λ one. absurd cc) (λ e. absurd (omega arith)),
          Appends-trans h k m reached.out sent.out reached.wrote sent.wrote,
          broken_checked input (reached.out ++ sent.out) (IsAll a input) (Rises f0 f2) later (sink_later failed.1)
              (record { progress = before; lines = reached.out ++ due; rest = bytes_of new; last = last; came = came; due = inr (status, ends_here); front = last_front reached.out due last sent.out failed.2 }),
        )
