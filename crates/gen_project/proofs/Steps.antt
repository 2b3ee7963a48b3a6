-- One step more of the draws, and one text more of many.
use Rattle.std.proofs.Common.{◌≡◌, ℕ, ◌+◌, List, ◌++◌, refl, ap, sym, ◌∙◌, add-one, append_assoc, append-nil}
use Rattle.gen_project.specs.Draws.{draw, next_draw}
use Rattle.gen_project.specs.Joined.{joined}

pub draw-zero : (number : ℕ) → draw number 0 ≡ number
unfolding draw
draw-zero number = refl

pub draw-next : (number steps : ℕ) → draw number (steps + 1) ≡ next_draw (draw number steps)
unfolding draw
draw-next number steps = rw add-one refl

joined-next : (f : ℕ → List ℕ) (first count : ℕ) → joined f first (count + 1) ≡ joined f first count ++ f (first + count)
unfolding joined
joined-next f first count = rw add-one refl

-- a text has none of the others at first
pub none-yet : (f : ℕ → List ℕ) (first count : ℕ) (text : List ℕ) → count ≡ 0 → text ≡ text ++ joined f first count
unfolding joined
none-yet f first count text none = sym (ap (λ n. text ++ joined f first n) none ∙ append-nil text)

-- a text that has the first `count` of the others has one more once the next is appended
pub one-more : (f : ℕ → List ℕ) (first count place more : ℕ) (start old new next : List ℕ) →
    more ≡ count + 1 → first + count ≡ place →
    old ≡ start ++ joined f first count → new ≡ old ++ next → next ≡ f place →
    new ≡ start ++ joined f first more
one-more f first count place more start old new next more-is place-is so_far appended next-is =
    appended
    ∙ ap (λ x. x ++ next) so_far
    ∙ append_assoc start (joined f first count) next
    ∙ ap (λ x. start ++ (joined f first count ++ x)) (next-is ∙ sym (ap f place-is))
    ∙ ap (λ x. start ++ x) (sym (joined-next f first count))
    ∙ ap (λ n. start ++ joined f first n) (sym more-is)
