-- What other words than `check` do, and when the words are `check`.
use Rattle.std.proofs.Common.{◌≡◌, refl, ℕ, ◌+◌, ◌<◌, ◌≤◌, get_or, Bool, true, List, [], ◌∷◌, length, sym, ap, ◌∙◌, arith, inl, inr, ◌⊎◌}
use Rattle.std.specs.Prelude.{codes, map, String}
use Rattle.std.specs.Global.{Global}
use Rattle.std.specs.Str.{bytes_eq}
use Rattle.std.specs.String.{string_bytes}
use Rattle.std.proofs.lemmas.Slice.Eq.{bytes_eq-Decides}
use Rattle.check_stream.specs.Sends.{Sends}
use Rattle.review.specs.Words.{usage_line, Refuses}

pub sent_refuses : (result : ℕ) (out : List ℕ) (kf : Type 0) → Sends 2 usage_line result out kf → Refuses result out kf
sent_refuses result out kf (inl whole) = record { statuses = rw whole.0 refl; usage = λ _. whole.1; sink_fault = λ e. absurd (let w = whole.0 in omega arith) }
sent_refuses result out kf (inr failed) = record { statuses = rw failed.0 refl; usage = λ e. absurd (let w = failed.0 in omega arith); sink_fault = λ _. (failed.1, failed.2) }

-- one word, and its bytes compared
pub one_word : (words : List (String Global)) (w : String Global) (text : List ℕ) (b : Bool) → 1 ≤ length words → length words < 2 → w ≡ get_or words 0 w → text ≡ string_bytes w → b ≡ bytes_eq text (codes "check")
    → (b ≡ true → map string_bytes words ≡ codes "check" ∷ []) × (map string_bytes words ≡ codes "check" ∷ [] → b ≡ true)
one_word [] w text b some few at is_text is_eq = absurd (omega arith)
one_word (x ∷ y ∷ more) w text b some few at is_text is_eq = absurd (omega arith)
one_word (x ∷ []) w text b some few at is_text is_eq =
    let same = bytes_eq-Decides text (codes "check") in
    let bytes : text ≡ string_bytes x = is_text ∙ ap string_bytes at in
    (λ yes. ap (λ (t : List ℕ). t ∷ []) (sym bytes ∙ same.0 (sym is_eq ∙ yes)), λ e. (let head : string_bytes x ≡ codes "check" = cc in is_eq ∙ same.1 (bytes ∙ head)))
