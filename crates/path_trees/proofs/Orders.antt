-- The order of spots is total, and tells all spots apart.
use Rattle.std.proofs.Common.{◌≡◌, ℕ, Bool, true, false, List, [], refl, ap, ◌∙◌, sym}
use Rattle.std.specs.Ordering.{nat_cmp, bool_cmp, on, then_cmp, ordering_then}
use Rattle.std.specs.declared.cmp.Ordering.{Ordering}
use Rattle.std.specs.declared.cmp.Ordering.TheVariants.{Less, Equal, Greater}
use Rattle.std.specs.Cmp.{IsTotalOrder}
use Rattle.std.specs.FinMap.{IsAntisymmetric, nat_cmp-IsAntisymmetric, slice_cmp-IsAntisymmetric}
use Rattle.std.proofs.lemmas.Cmp.{on_total, then_total, nat_cmp_total, lists_total}
use Rattle.path_trees.specs.declared.steps.Step.{Step}
use Rattle.path_trees.specs.declared.steps.Step.TheVariants.{Any}
use Rattle.path_trees.specs.declared.marks.Port.{Port}
use Rattle.path_trees.specs.declared.marks.Port.TheVariants.{Result, Cell}
use Rattle.path_trees.specs.declared.marks.Mark.{Mark}
use Rattle.path_trees.specs.declared.marks.Mark.TheVariants.{Source, Sink, Out}
use Rattle.path_trees.specs.declared.spots.Spot.{Spot}
use Rattle.path_trees.specs.Steps.{step_order, path_order}
pub use Rattle.path_trees.specs.StepLaws.{step_order-total, step_order-exact}
use Rattle.path_trees.specs.Spots.{mark_rank, port_order, mark_order, spot_order}

-- an order that is another one at each pair
total_along : {K : Type 0} {R S : K → K → Ordering} → ((x y : K) → R x y ≡ S x y) → IsTotalOrder S → IsTotalOrder R
total_along {R = R} {S = S} h o = record {
  antisymm = λ x y. rw (h x y, h y x) (o.antisymm x y);
  trans = λ x y z p q. h x z ∙ o.trans x y z (sym (h x y) ∙ p) (sym (h y z) ∙ q);
  congr = λ x y z p. h x z ∙ o.congr x y z (sym (h x y) ∙ p) ∙ sym (h y z);
}

then_Equal : (a : Ordering) → ordering_then a Equal ≡ a
then_Equal Less = refl
then_Equal Equal = refl
then_Equal Greater = refl

both_Equal : (a b : Ordering) → ordering_then a b ≡ Equal → (a ≡ Equal) × (b ≡ Equal)
both_Equal Less b e = absurd (cc)
both_Equal Equal b e = (refl, e)
both_Equal Greater b e = absurd (cc)

pub path_order-total : IsTotalOrder path_order
path_order-total = lists_total step_order-total

pub path_order-exact : IsAntisymmetric path_order
path_order-exact = slice_cmp-IsAntisymmetric step_order-exact

abbrev port_rank : Port → ℕ
port_rank Result = 0
port_rank (Cell s) = 1

abbrev port_step : Port → Step
port_step Result = Any
port_step (Cell s) = s

port_by_parts : (a b : Port) → port_order a b ≡ then_cmp (on port_rank nat_cmp) (on port_step step_order) a b
port_by_parts Result Result = refl
port_by_parts Result (Cell b) = refl
port_by_parts (Cell a) Result = refl
port_by_parts (Cell a) (Cell b) = refl

pub port_order-total : IsTotalOrder port_order
port_order-total = total_along port_by_parts (then_total (on_total port_rank nat_cmp_total) (on_total port_step step_order-total))

pub port_order-exact : IsAntisymmetric port_order
port_order-exact Result Result e = refl
port_order-exact Result (Cell b) e = absurd (cc)
port_order-exact (Cell a) Result e = absurd (cc)
port_order-exact (Cell a) (Cell b) e = ap Cell (step_order-exact a b e)

abbrev kind_of : Mark → ℕ
kind_of (Source k l) = k
kind_of (Sink k l) = k
kind_of (Out port path flat) = 0

abbrev leaf_of : Mark → ℕ
leaf_of (Source k l) = l
leaf_of (Sink k l) = l
leaf_of (Out port path flat) = 0

abbrev port_of : Mark → Port
port_of (Source k l) = Result
port_of (Sink k l) = Result
port_of (Out port path flat) = port

abbrev path_of : Mark → List Step
path_of (Source k l) = []
path_of (Sink k l) = []
path_of (Out port path flat) = path

abbrev flag_of : Mark → ℕ
flag_of (Source k l) = 0
flag_of (Sink k l) = 0
flag_of (Out port path false) = 0
flag_of (Out port path true) = 1

-- marks, by all parts that any of them has
abbrev by_parts : Mark → Mark → Ordering
by_parts = then_cmp (on mark_rank nat_cmp) (then_cmp (on kind_of nat_cmp) (then_cmp (on leaf_of nat_cmp) (then_cmp (on port_of port_order) (then_cmp (on path_of path_order) (on flag_of nat_cmp)))))

flags_alike : (p q : Port) (r s : List Step) (f g : Bool) → bool_cmp f g ≡ on flag_of nat_cmp (Out p r f) (Out q s g)
flags_alike p q r s true true = refl
flags_alike p q r s true false = refl
flags_alike p q r s false true = refl
flags_alike p q r s false false = refl

mark_by_parts : (a b : Mark) → mark_order a b ≡ by_parts a b
mark_by_parts (Source k l) (Source m n) = ap (ordering_then (nat_cmp k m)) (sym (then_Equal (nat_cmp l n)))
mark_by_parts (Sink k l) (Sink m n) = ap (ordering_then (nat_cmp k m)) (sym (then_Equal (nat_cmp l n)))
mark_by_parts (Out p q f) (Out r s g) = ap (λ o. ordering_then (port_order p r) (ordering_then (path_order q s) o)) (flags_alike p r q s f g)
mark_by_parts a b = refl

pub mark_order-total : IsTotalOrder mark_order
mark_order-total =
    total_along mark_by_parts (then_total (on_total mark_rank nat_cmp_total) (then_total (on_total kind_of nat_cmp_total) (then_total (on_total leaf_of nat_cmp_total)
    (then_total (on_total port_of port_order-total) (then_total (on_total path_of path_order-total) (on_total flag_of nat_cmp_total))))))

bool_exact : (f g : Bool) → bool_cmp f g ≡ Equal → f ≡ g
bool_exact true true e = refl
bool_exact true false e = absurd (cc)
bool_exact false true e = absurd (cc)
bool_exact false false e = refl

pub mark_order-exact : IsAntisymmetric mark_order
mark_order-exact (Source k l) (Source m n) e =
    let b = both_Equal _ _ e in let p = nat_cmp-IsAntisymmetric k m b.0 in let q = nat_cmp-IsAntisymmetric l n b.1 in cc
mark_order-exact (Sink k l) (Sink m n) e =
    let b = both_Equal _ _ e in let p = nat_cmp-IsAntisymmetric k m b.0 in let q = nat_cmp-IsAntisymmetric l n b.1 in cc
mark_order-exact (Out p q f) (Out r s g) e =
    let b = both_Equal _ _ e in
    let c = both_Equal _ _ b.1 in
    let x = port_order-exact p r b.0 in let y = path_order-exact q s c.0 in let z = bool_exact f g c.1 in cc
mark_order-exact a b e = absurd (cc)

pub spot_order-total : IsTotalOrder spot_order
spot_order-total = then_total (on_total (λ (s : Spot). s.path) path_order-total) (on_total (λ (s : Spot). s.mark) mark_order-total)

same_spot : (p q : List Step) (m n : Mark) → p ≡ q → m ≡ n → (let s : Spot = record { path = p; mark = m } in s) ≡ (let s : Spot = record { path = q; mark = n } in s)
same_spot p q m n e f = ap (λ (z : List Step). let s : Spot = record { path = z; mark = m } in s) e ∙ ap (λ (z : Mark). let s : Spot = record { path = q; mark = z } in s) f

pub spot_order-exact : IsAntisymmetric spot_order
spot_order-exact a b e = let h = both_Equal _ _ e in same_spot a.path b.path a.mark b.mark (path_order-exact a.path b.path h.0) (mark_order-exact a.mark b.mark h.1)
