-- The order of steps is total, tells all steps apart, and agrees with their equality.
use Rattle.std.specs.Prelude.{◌≡◌, refl}
use Rattle.std.proofs.Common.{ap, ◌∙◌, sym}
use Rattle.std.specs.Ordering.{eq_by_cmp}
use Rattle.std.specs.Cmp.{IsTotalOrder, IsEquivalence, nat_cmp_total, on_total, then_total, eq_by_cmp_equiv}
use Rattle.std.specs.Cmp.Lexicographic.{nat_list_cmp_total, texts_ties}
use Rattle.std.specs.FinMap.{IsAntisymmetric, nat_cmp-IsAntisymmetric, slice_cmp-IsAntisymmetric}
use Rattle.path_trees.specs.declared.steps.Step.{Step}
use Rattle.path_trees.specs.declared.steps.Step.TheVariants.{Attr, Key, Any, Keys}
use Rattle.path_trees.specs.Steps.{step_equal, step_order, step_rank, step_text}

pub step_order-total : IsTotalOrder step_order
step_order-total = then_total (on_total step_rank nat_cmp_total) (on_total step_text nat_list_cmp_total)

pub step_order-exact : IsAntisymmetric step_order
step_order-exact (Attr a) (Attr b) e = ap Attr (slice_cmp-IsAntisymmetric nat_cmp-IsAntisymmetric a b e)
step_order-exact (Key a) (Key b) e = ap Key (slice_cmp-IsAntisymmetric nat_cmp-IsAntisymmetric a b e)
step_order-exact Any Any e = refl
step_order-exact Keys Keys e = refl
step_order-exact a b e = absurd (cc)

-- steps are the same exactly where they tie
pub step_equal-ties : (a b : Step) → step_equal a b ≡ eq_by_cmp step_order a b
step_equal-ties (Attr a) (Attr b) = texts_ties a b
step_equal-ties (Attr a) (Key b) = refl
step_equal-ties (Attr a) Any = refl
step_equal-ties (Attr a) Keys = refl
step_equal-ties (Key a) (Attr b) = refl
step_equal-ties (Key a) (Key b) = texts_ties a b
step_equal-ties (Key a) Any = refl
step_equal-ties (Key a) Keys = refl
step_equal-ties Any (Attr b) = refl
step_equal-ties Any (Key b) = refl
step_equal-ties Any Any = refl
step_equal-ties Any Keys = refl
step_equal-ties Keys (Attr b) = refl
step_equal-ties Keys (Key b) = refl
step_equal-ties Keys Any = refl
step_equal-ties Keys Keys = refl

pub step_equal-equivalence : IsEquivalence step_equal
step_equal-equivalence = record {
  refl = λ x. step_equal-ties x x ∙ (eq_by_cmp_equiv step_order-total).refl x;
  symm = λ x y. step_equal-ties x y ∙ (eq_by_cmp_equiv step_order-total).symm x y ∙ sym (step_equal-ties y x);
  congr = λ x y z h. step_equal-ties x z ∙ (eq_by_cmp_equiv step_order-total).congr x y z (sym (step_equal-ties x y) ∙ h) ∙ sym (step_equal-ties y z);
}
