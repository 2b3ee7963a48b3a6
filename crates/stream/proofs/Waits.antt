-- What is known of bytes while one waits.
use Rattle.std.proofs.Common.{◌≡◌, ◌≢◌, ◌-◌, ◌<◌, ◌≤◌, ℕ, Bool, false, List, [], ◌++◌, length, take, drop, Result, Ok, Err, sym, ap, subst, ◌∙◌, arith, inl, inr, append-nil, take-append-drop, length-append, length-drop}
use Rattle.std.specs.Prelude.{All}
use Rattle.std.proofs.lemmas.List.Elements.{All-append}
use Rattle.std.proofs.lemmas.Bool.{cases_lt}
use Rattle.std.proofs.lemmas.List.{take_at}
use Rattle.script.specs.declared.command.Command.{Command}
use Rattle.script.specs.declared.command.Next.{Next}
use Rattle.script.specs.declared.command.Next.TheVariants as next
use Rattle.script.specs.declared.command.Wait.{Wait}
use Rattle.script.specs.declared.command.Wait.TheVariants as wait
use Rattle.script.specs.declared.faults.CommandError.{CommandError}
use Rattle.script.specs.declared.faults.CommandError.TheVariants as errors
use Rattle.script.specs.Grammar.{Spells, line_end}
use Rattle.script.specs.Stream.{BeginsWith, BeginsNone, IsUnfinished, IsUnlessMemory, WaitsWell}
use Rattle.stream.specs.State.{IsNeeded, IsWaiting}
use Rattle.stream.specs.Steps.{Waits, Starts, Lacks}
use Rattle.stream.proofs.Fronts.{front_of, inline_none}

-- ---- what `next_command` says, at the front of bytes

pub record Asked (bytes : List ℕ) (over : Bool) (result : Result (Next × ℕ) CommandError) : Type 0 where
  pub found : (command : Command) (after : ℕ) → result ≡ Ok (next.Command command, after) → (after ≤ length bytes) × BeginsWith 0 bytes command (drop after bytes)
  pub only : (command : Command) (rest : List ℕ) → BeginsWith 0 bytes command rest → IsUnlessMemory result (Ok (next.Command command, length bytes - length rest))
  pub need : (w : Wait) (after : ℕ) → result ≡ Ok (next.Need w, after) → IsUnfinished 0 bytes × (over ≡ false) × (after ≡ 0) × WaitsWell 0 bytes w

abbrev answer : Next → ℕ → Result (Next × ℕ) CommandError
answer n len = Ok (n, len)

abbrev answered : Next → ℕ → Next × ℕ
answered n len = (n, len)

abbrev given : Next × ℕ → Result (Next × ℕ) CommandError
given p = Ok p

ok_is : (p q : Next × ℕ) → given p ≡ given q → p ≡ q
ok_is p q e = cc

no_memory : (n : Next) (len : ℕ) → answer n len ≡ Err errors.Memory → ⊥
no_memory n len e = absurd cc

need_command : (w : Wait) (c : Command) (m n : ℕ) → answer (next.Need w) m ≡ answer (next.Command c) n → ⊥
need_command w c m n e =
    let pairs : answered (next.Need w) m ≡ answered (next.Command c) n = ok_is (answered (next.Need w) m) (answered (next.Command c) n) e in
    let nexts : next.Need w ≡ next.Command c = ap (λ (p : Next × ℕ). p.0) pairs in
    cc

pub starts : (bytes : List ℕ) (over : Bool) (result : Result (Next × ℕ) CommandError) → Asked bytes over result → (n : Next) (len : ℕ) → result ≡ Ok (n, len) → Starts bytes over n len
starts bytes over result asked (next.Command command) len e =
    let f = asked.found command len e in
    let b = f.1 in
    let size : length b.text ≡ len = omega (arith, f.0, ap length b.parts, length-append b.text (drop len bytes), length-drop len bytes) in
    (f.0, subst (λ (t : List ℕ). Spells 0 t command) (sym (take_at b.text (drop len bytes) len size) ∙ ap (take len) (sym b.parts)) b.spells)
starts bytes over result asked (next.Need w) len e =
    let n = asked.need w len e in
    let none : BeginsNone 0 bytes = λ command rest b. need_command w command len (length bytes - length rest) (sym e ∙ asked.only command rest b (λ m. no_memory (next.Need w) len (sym e ∙ m))) in
    (record { none = none; unfinished = n.0; goes_on = n.1 }, record { none = none; well = n.3 })

pub need_waits : (bytes : List ℕ) (over : Bool) (n : Next) (len : ℕ) (w : Wait) → n ≡ next.Need w → Starts bytes over n len → IsWaiting bytes over × Waits bytes w
need_waits bytes over n len w is starts = subst (λ (m : Next). Starts bytes over m len) is starts

-- ---- while what is waited for lacks

until_none : (bytes more : List ℕ) (until : ℕ) → BeginsNone 0 bytes → WaitsWell 0 bytes (wait.Text until) → length (bytes ++ more) < until → BeginsNone 0 (bytes ++ more)
until_none bytes more until none well short = λ command rest b.
    elim (cases_lt (length bytes) (length b.text)) [
      | inl longer ↦ (
          let is : b.text ≡ bytes ++ drop (length bytes) b.text = front_of bytes b.text more rest b.parts (omega arith) in
          let whole = well.1 (drop (length bytes) b.text) command (subst (λ (t : List ℕ). Spells 0 t command) is b.spells) in
          absurd (omega (arith, whole, short, ap length is, ap length b.parts, length-append b.text rest)))
      | inr within ↦ none command (drop (length b.text) bytes) (record { text = b.text; spells = b.spells; parts = front_of b.text bytes rest more (sym b.parts) within })
    ]

pub lacks_none : (bytes more : List ℕ) (w : Wait) → Waits bytes w → Lacks w (bytes ++ more) → BeginsNone 0 (bytes ++ more)
lacks_none bytes more (wait.Line from until) waits lacks = inline_none (bytes ++ more) lacks
lacks_none bytes more (wait.Text until) waits lacks = until_none bytes more until waits.none waits.well lacks

pub lacks_line : (w : Wait) (from until : ℕ) (bytes : List ℕ) (count : ℕ) → w ≡ wait.Line from until → Lacks w (take count bytes) → All (λ b. b ≢ line_end) (drop count bytes) → Lacks w bytes
lacks_line w from until bytes count is front back =
    let before : All (λ b. b ≢ line_end) (take count bytes) = subst (λ (v : Wait). Lacks v (take count bytes)) is front in
    let all : All (λ b. b ≢ line_end) bytes = subst (λ (x : List ℕ). All (λ b. b ≢ line_end) x) (take-append-drop count bytes) (All-append (λ b. b ≢ line_end) (take count bytes) (drop count bytes) before back) in
    subst (λ (v : Wait). Lacks v bytes) (sym is) all

-- a further piece in which it has not come
pub lacks_still : (w : Wait) (old more new seen : List ℕ) (from : ℕ) (come : Bool) → new ≡ old ++ more → length old ≡ from → seen ≡ new → Lacks w old
    → (Lacks w (take from seen) → come ≡ false → Lacks w seen) → come ≡ false → Lacks w new
lacks_still w old more new seen from come parts size same lacks told lacking =
    let front : take from seen ≡ old = ap (take from) (same ∙ parts) ∙ take_at old more from size in
    subst (λ (x : List ℕ). Lacks w x) same (told (subst (λ (x : List ℕ). Lacks w x) (sym front) lacks) lacking)

pub none_still : (old more now : List ℕ) (w : Wait) → Waits old w → now ≡ old ++ more → Lacks w now → BeginsNone 0 now
none_still old more now w waits parts lacks = subst (λ (x : List ℕ). BeginsNone 0 x) (sym parts) (lacks_none old more w waits (subst (λ (x : List ℕ). Lacks w x) parts lacks))

-- ---- reads that were needed

pub needed_none : (old new : List ℕ) → length old ≤ length new → BeginsNone 0 new → IsNeeded old new
needed_none old new le none = inr (record { front = new; piece = []; parts = sym (append-nil new); at_least = le; small = omega arith; none = none })

pub needed_piece : (old front piece new : List ℕ) → new ≡ front ++ piece → length old ≤ length front → length piece ≤ 65536 → BeginsNone 0 front → IsNeeded old new
needed_piece old front piece new parts le small none = inr (record { front = front; piece = piece; parts = parts; at_least = le; small = small; none = none })

pub needed_after : (old mid new : List ℕ) → length old ≤ length mid → BeginsNone 0 mid → IsNeeded mid new → IsNeeded old new
needed_after old mid new le none (inl same) = inr (record { front = mid; piece = []; parts = same ∙ sym (append-nil mid); at_least = le; small = omega arith; none = none })
needed_after old mid new le none (inr p) = inr (record { front = p.front; piece = p.piece; parts = p.parts; at_least = omega (arith, le, p.at_least); small = p.small; none = p.none })
