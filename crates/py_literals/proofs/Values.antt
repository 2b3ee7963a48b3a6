-- Values of digits.
use Rattle.std.proofs.Common.{◌≡◌, ℕ, suc, ◌+◌, ◌*◌, ◌^◌, ◌<◌, ◌≤◌, Bool, true, false, cond, eqb, List, [], ◌∷◌, length, drop, get_or, drop-cons, refl, ap, ◌∙◌, arith}
use Rattle.std.specs.Char.{digit_value}
use Rattle.std.proofs.lemmas.Bool.{le-ltb, ne_eqb}
use Rattle.std.proofs.Math.Nat.{mul-le-mul_left}
use Rattle.py_literals.specs.declared.number.NumberValue.TheVariants.{Wide}
use Rattle.py_literals.specs.Number.{value_after, whole}

digit_ge : (base v d : ℕ) (t : Bool) → 0 < base → v ≤ (cond t v (v * base + d))
digit_ge base v d true h = omega arith
digit_ge base v d false h =
    let e = mul-le-mul_left v h in
    omega (arith, e)

-- more digits make a value no smaller
pub value_after_ge : (base v : ℕ) (cs : List ℕ) → 0 < base → v ≤ value_after base v cs
value_after_ge base v [] h = omega arith
value_after_ge base v (c ∷ cs) h =
    omega (arith, digit_ge base v (digit_value c) (eqb c 95) h, value_after_ge base (cond (eqb c 95) v (v * base + digit_value c)) cs h)

pub wide_after : (base v : ℕ) (cs : List ℕ) → 0 < base → 2 ^ 127 ≤ v → whole (value_after base v cs) ≡ Wide
wide_after base v cs h wide =
    let e = le-ltb (value_after base v cs) (2 ^ 127) (omega (arith, value_after_ge base v cs h)) in
    rw e refl

value_step : (base v c : ℕ) (cs : List ℕ) → eqb c 95 ≡ false → value_after base v (c ∷ cs) ≡ value_after base (v * base + digit_value c) cs
value_step base v c cs t = rw t refl

pub wide_turn : (base v i : ℕ) (cs : List ℕ) → i < length cs → (get_or cs i 0 ≡ 95 → ⊥) → 0 < base → 2 ^ 127 ≤ v * base + digit_value (get_or cs i 0) → whole (value_after base v (drop i cs)) ≡ Wide
wide_turn base v i cs l t h wide =
    let e = ap (λ ds. value_after base v ds) (drop-cons cs i 0 l) ∙ value_step base v (get_or cs i 0) (drop (suc i) cs) (ne_eqb (get_or cs i 0) 95 t) in
    ap (λ w. whole w) e ∙ wide_after base (v * base + digit_value (get_or cs i 0)) (drop (suc i) cs) h wide
