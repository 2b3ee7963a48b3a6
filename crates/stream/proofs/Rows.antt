-- Commands in a row.
use Rattle.std.proofs.Common.{◌≡◌, ◌≤◌, ℕ, List, [], ◌∷◌, ◌++◌, length, refl, sym, ap, subst, ◌∙◌, arith, append_assoc, append-nil}
use Rattle.std.specs.List.{concat}
use Rattle.std.proofs.lemmas.List.{append_cancel_left}
use Rattle.std.proofs.lemmas.List.Folds.{concat-append}
use Rattle.script.specs.declared.command.Command.{Command}
use Rattle.script.specs.Grammar.{Spells}
use Rattle.script.proofs.Pieces.{one_reading}
use Rattle.stream.specs.Commands.{SpellEach, Commands}
use Rattle.stream.specs.State.{State, bytes_of, taken}

spelled_more : (texts : List (List ℕ)) (commands : List Command) (last : List ℕ) (command : Command) → SpellEach texts commands → Spells 0 last command → SpellEach (texts ++ last ∷ []) (commands ++ command ∷ [])
spelled_more [] [] last command each spells = (spells, tt)
spelled_more [] (c ∷ commands) last command each spells = absurd each
spelled_more (t ∷ texts) [] last command each spells = absurd each
spelled_more (t ∷ texts) (c ∷ commands) last command each spells = (each.0, spelled_more texts commands last command each.1 spells)

next_in_row : (input last pending : List ℕ) (texts : List (List ℕ)) (commands : List Command) (command : Command)
    → Commands input texts commands (last ++ pending) → Spells 0 last command → Commands input (texts ++ last ∷ []) (commands ++ command ∷ []) pending
next_in_row input last pending texts commands command row spells = record {
  spelled = spelled_more texts commands last command row.spelled spells;
  parts = row.parts ∙ sym (append_assoc (concat texts) last pending)
      ∙ ap (λ (x : List ℕ). x ++ pending) (ap (λ (x : List ℕ). concat texts ++ x) (sym (append-nil last)) ∙ sym (concat-append texts (last ∷ [])));
}

-- bytes behind all that was read
pub more_in_row : (input more rest : List ℕ) (texts : List (List ℕ)) (commands : List Command) → Commands input texts commands rest → Commands (input ++ more) texts commands (rest ++ more)
more_in_row input more rest texts commands row = record { spelled = row.spelled; parts = ap (λ (x : List ℕ). x ++ more) row.parts ∙ append_assoc (concat texts) rest more }

pub given_in_row : (input : List ℕ) (texts : List (List ℕ)) (commands : List Command) (old new : State) (command : Command) → Commands input texts commands old.pending
    → bytes_of new ≡ old.pending ++ taken old new → Spells 0 new.last command → Commands (input ++ taken old new) (texts ++ new.last ∷ []) (commands ++ command ∷ []) new.pending
given_in_row input texts commands old new command row kept spells =
    let more = taken old new in
    next_in_row (input ++ more) new.last new.pending texts commands command (subst (λ (x : List ℕ). Commands (input ++ more) texts commands x) (sym kept) (more_in_row input more old.pending texts commands row)) spells

abbrev pub GoesOn : List (List ℕ) → List (List ℕ) → List Command → List Command → Type 0
GoesOn texts lines commands others = (more : List (List ℕ)) × (further : List Command) × (lines ≡ texts ++ more) × (others ≡ commands ++ further)

rows_agree : (rest left : List ℕ) (texts lines : List (List ℕ)) (commands others : List Command) → SpellEach texts commands → SpellEach lines others
    → concat texts ++ rest ≡ concat lines ++ left → length texts ≤ length lines → GoesOn texts lines commands others
rows_agree rest left [] lines [] others a b same le = (lines, others, refl, refl)
rows_agree rest left [] lines (c ∷ commands) others a b same le = absurd a
rows_agree rest left (t ∷ texts) lines [] others a b same le = absurd a
rows_agree rest left (t ∷ texts) [] (c ∷ commands) others a b same le = absurd (omega arith)
rows_agree rest left (t ∷ texts) (l ∷ lines) (c ∷ commands) [] a b same le = absurd b
rows_agree rest left (t ∷ texts) (l ∷ lines) (c ∷ commands) (d ∷ others) a b same le =
    let joined : t ++ (concat texts ++ rest) ≡ l ++ (concat lines ++ left) = sym (append_assoc t (concat texts) rest) ∙ same ∙ append_assoc l (concat lines) left in
    let one = one_reading 0 t l (concat texts ++ rest) (concat lines ++ left) c d a.0 b.0 joined in
    let others_same = append_cancel_left t (concat texts ++ rest) (concat lines ++ left) (joined ∙ ap (λ (x : List ℕ). x ++ (concat lines ++ left)) (sym one.0)) in
    let on = rows_agree rest left texts lines commands others a.1 b.1 others_same (omega arith) in
    (on.0, on.1, ap (λ (x : List ℕ). x ∷ lines) (sym one.0) ∙ ap (λ (x : List (List ℕ)). t ∷ x) on.2, ap (λ (x : Command). x ∷ others) (sym one.1) ∙ ap (λ (x : List Command). c ∷ x) on.3)

pub same_row : (input rest left : List ℕ) (texts lines : List (List ℕ)) (commands others : List Command)
    → Commands input texts commands rest → Commands input lines others left → length texts ≤ length lines → GoesOn texts lines commands others
same_row input rest left texts lines commands others a b le = rows_agree rest left texts lines commands others a.spelled b.spelled (sym a.parts ∙ b.parts) le
