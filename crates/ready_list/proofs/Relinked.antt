-- Two writes to the links: what each place then leads to, and that the links back still undo those forth.
use Rattle.std.proofs.Common.{◌≡◌, ◌≢◌, ℕ, ◌<◌, List, length, slice_index, sym, ◌∙◌, ap, subst, arith, length-set, get_or-set_same, get_or-set_other, inl, inr}
use Rattle.std.proofs.lemmas.Bool.{cases_eq}
use Rattle.ready_list.specs.Ring.{IsUndoneBy, relinked}

pub length-relinked : (f : List ℕ) (a b x y : ℕ) → length (relinked f a b x y) ≡ length f
length-relinked f a b x y = simp length-set

pub relinked-last : (f : List ℕ) (a b x y : ℕ) → x < length f → slice_index (relinked f a b x y) x ≡ y
relinked-last f a b x y h = grind (arith, get_or-set_same, length-set)

pub relinked-first : (f : List ℕ) (a b x y : ℕ) → a < length f → a ≢ x → slice_index (relinked f a b x y) a ≡ b
relinked-first f a b x y h ne = grind (arith, get_or-set_same, get_or-set_other, length-set)

pub relinked-other : (f : List ℕ) (a b x y k : ℕ) → k ≢ a → k ≢ x → slice_index (relinked f a b x y) k ≡ slice_index f k
relinked-other f a b x y k na nx = grind (arith, get_or-set_other)

-- no two places lead to one
pub same_from_links : (back links : List ℕ) → IsUndoneBy back links → (j k : ℕ) → j < length links → k < length links
    → slice_index links j ≡ slice_index links k → j ≡ k
same_from_links back links u j k hj hk e =
    sym (u.returns j hj) ∙ ap (λ m. slice_index back m) e ∙ u.returns k hk

-- a step forth to v, from where the step back leads to k again
steps : (back links : List ℕ) (k v m : ℕ) → slice_index links k ≡ v → v < m → slice_index back v ≡ k
    → (slice_index links k < m) × (slice_index back (slice_index links k) ≡ k)
steps back links k v m e h r = (rw e h, rw e r)

-- Two writes forth and two back fit together where the steps back from the two new links return, and no other place
-- leads to where a step back was written.
pub record Fits (back links : List ℕ) (a b x y c d z : ℕ) : Type 0 where
  pub undone : IsUndoneBy back links
  pub a_in : a < length links
  pub b_in : b < length links
  pub x_in : x < length links
  pub y_in : y < length links
  pub apart : a ≢ x
  pub from_y : slice_index (relinked back c d x z) y ≡ x
  pub from_b : slice_index (relinked back c d x z) b ≡ a
  pub others_c : (k : ℕ) → k < length links → k ≢ a → k ≢ x → slice_index links k ≢ c
  pub others_x : (k : ℕ) → k < length links → k ≢ a → k ≢ x → slice_index links k ≢ x

relinked-step : (back links : List ℕ) (a b x y c d z : ℕ) → Fits back links a b x y c d z → (k : ℕ) → k < length links
    → (slice_index (relinked links a b x y) k < length links)
    × (slice_index (relinked back c d x z) (slice_index (relinked links a b x y) k) ≡ k)
relinked-step back links a b x y c d z f k h =
    let at = λ (j : ℕ). slice_index (relinked links a b x y) j in
    elim (cases_eq k x) [
      | inl e ↦ steps (relinked back c d x z) (relinked links a b x y) k y _
          (ap at e ∙ relinked-last links a b x y f.x_in) f.y_in (f.from_y ∙ sym e)
      | inr nx ↦ elim (cases_eq k a) [
        | inl e ↦ steps (relinked back c d x z) (relinked links a b x y) k b _
            (ap at e ∙ relinked-first links a b x y f.a_in f.apart) f.b_in (f.from_b ∙ sym e)
        | inr na ↦ steps (relinked back c d x z) (relinked links a b x y) k (slice_index links k) _
            (relinked-other links a b x y k na nx) (f.undone.within k h)
            (relinked-other back c d x z (slice_index links k) (f.others_c k h na nx) (f.others_x k h na nx)
            ∙ f.undone.returns k h)
      ]
    ]

pub relinked-undone : (back links : List ℕ) (a b x y c d z : ℕ) → Fits back links a b x y c d z
    → IsUndoneBy (relinked back c d x z) (relinked links a b x y)
relinked-undone back links a b x y c d z f =
    let len : length (relinked links a b x y) ≡ length links = length-relinked links a b x y in
    let step = relinked-step back links a b x y c d z f in
    record {
      lengths = length-relinked back c d x z ∙ f.undone.lengths ∙ sym len;
      within = λ k h. rw len (step k (subst (λ (m : ℕ). k < m) len h)).0;
      returns = λ k h. (step k (subst (λ (m : ℕ). k < m) len h)).1;
    }

-- x, taken out from between p and n
pub unlinked-undone : (back links : List ℕ) (p n x : ℕ) → IsUndoneBy back links → p < length links → x < length links
    → n < length links → slice_index links p ≡ x → slice_index links x ≡ n → p ≢ x → n ≢ x
    → IsUndoneBy (relinked back n p x x) (relinked links p n x x)
unlinked-undone back links p n x u hp hx hn lp lx np nn =
    relinked-undone back links p n x x n p x (record {
      undone = u;
      a_in = hp;
      b_in = hn;
      x_in = hx;
      y_in = hx;
      apart = np;
      from_y = relinked-last back n p x x (rw u.lengths hx);
      from_b = relinked-first back n p x x (rw u.lengths hn) nn;
      others_c = λ k h na nx e. nx (same_from_links back links u k x h hx (e ∙ sym lx));
      others_x = λ k h na nx e. na (same_from_links back links u k p h hp (e ∙ sym lp));
    })

-- x, which was alone, put in between p and h
pub linked-undone : (back links : List ℕ) (p h x : ℕ) → IsUndoneBy back links → p < length links → x < length links
    → h < length links → slice_index links p ≡ h → slice_index links x ≡ x → p ≢ x → h ≢ x
    → IsUndoneBy (relinked back h x x p) (relinked links p x x h)
linked-undone back links p h x u hp hx hh lp lx np nh =
    relinked-undone back links p x x h h x p (record {
      undone = u;
      a_in = hp;
      b_in = hx;
      x_in = hx;
      y_in = hh;
      apart = np;
      from_y = relinked-first back h x x p (rw u.lengths hh) nh;
      from_b = relinked-last back h x x p (rw u.lengths hx);
      others_c = λ k m na nx e. na (same_from_links back links u k p m hp (e ∙ sym lp));
      others_x = λ k m na nx e. nx (same_from_links back links u k x m hx (e ∙ sym lx));
    })
