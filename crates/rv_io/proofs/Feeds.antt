-- A source in memory gives the front of what is left.
use Rattle.std.proofs.Common.{◌≡◌, ◌+◌, ℕ, List, ◌++◌, length, take, drop, sym, ap, ◌∙◌, take-append-drop}
use Rattle.std.proofs.lemmas.List.{drop-drop, take_at}

pub gives_front : (bytes given rest : List ℕ) (taken count : ℕ) → given ≡ take count (drop taken bytes) → length given ≡ count → drop taken bytes ≡ take count (given ++ rest) ++ drop (taken + count) bytes
gives_front bytes given rest taken count front size =
    sym (take-append-drop count (drop taken bytes))
    ∙ ap (λ x. x ++ drop count (drop taken bytes)) (sym (take_at given rest count size ∙ front))
    ∙ ap (λ x. take count (given ++ rest) ++ x) (drop-drop count taken bytes)
