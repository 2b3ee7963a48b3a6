-- What stands before the ending of a path.
use Rattle.std.proofs.Common.{◌≡◌, ℕ, ◌-◌, ◌≤◌, Bool, true, false, cond, List, [], ◌∷◌, ◌++◌, length, take, drop, Option, Some, None, refl, sym, ap, ◌∙◌, subst, arith, length-append}
use Rattle.std.specs.Prelude.{MatchOption, eqb}
use Rattle.std.specs.Option.{option_copied}
use Rattle.std.specs.List.{ends_with}
use Rattle.std.specs.Str.{IsCharBoundary}
use Rattle.std.specs.Str.Pattern.{FindsTextSuffix, StripsSuffix}
use Rattle.std.proofs.lemmas.List.{take-append-drop}
use Rattle.std.proofs.lemmas.Str.Pattern.{ends_text}
use Rattle.rv_names.specs.Keys.{Bytes, bytes_equal}
use Rattle.rv_names.proofs.KeyLemmas.{bytes_equal-decides}
use Rattle.project.specs.Paths.{before}
use denote.Ref.{Bor}

-- what `strip_suffix` gives
pub before_is : (r : Option (Bor (List ℕ))) (n s : List ℕ) → MatchOption r (FindsTextSuffix n s None) (λ x. StripsSuffix (FindsTextSuffix n) s x.now) → option_copied r ≡ before n s
before_is None n s h = ap (λ b. cond b (Some (take (length s - length n) s)) None) (ends_text false n s h)
before_is (Some x) n s h =
    let at : h.0 ≡ length n = h.1.0 in
    let within : h.0 ≤ length s = omega arith in
    let boundary : IsCharBoundary s (length s - h.0) = subst (λ k. IsCharBoundary s (length s - k)) (sym at) h.1.2 in
    ap Some (h.2 ∙ ap (λ k. take (length s - k) s) at)
    ∙ ap (λ b. cond b (Some (take (length s - length n) s)) None) (ends_text true n s (h.0, h.1, within, boundary))

front : (x e : Bytes) → take (length x) (x ++ e) ≡ x
front [] e = refl
front (b ∷ x) e = ap (λ z. b ∷ z) (front x e)

back : (x e : Bytes) → drop (length x) (x ++ e) ≡ e
back [] e = refl
back (b ∷ x) e = back x e

front_length : (x e : Bytes) → length (x ++ e) - length e ≡ length x
front_length x e = omega (arith, length-append x e)

pub before_joined : (e x : Bytes) → before e (x ++ e) ≡ Some x
before_joined e x =
    ap (λ k. cond (ends_at k) (Some (take k (x ++ e))) None) (front_length x e)
    ∙ ap (λ z. cond (same z) (Some (take (length x) (x ++ e))) None) (back x e)
    ∙ ap (λ b. cond b (Some (take (length x) (x ++ e))) None) ((bytes_equal-decides e e).1 refl)
    ∙ ap Some (front x e)
  where
    same : Bytes → Bool
    same z = bytes_equal e z

    ends_at : ℕ → Bool
    ends_at k = bytes_equal e (drop k (x ++ e))

pub joined_before : (e s x : Bytes) → before e s ≡ Some x → s ≡ x ++ e
joined_before e s x h = by (ends_with eqb s e) refl h
  where
    n : ℕ
    n = length s - length e

    by : (b : Bool) → ends_with eqb s e ≡ b → cond b (Some (take n s)) None ≡ Some x → s ≡ x ++ e
    by true is h =
        let taken : take n s ≡ x = cc in
        sym (take-append-drop n s) ∙ ap (λ z. take n s ++ z) (sym ((bytes_equal-decides e (drop n s)).0 is)) ∙ ap (λ z. z ++ e) taken
    by false is h = absurd cc
