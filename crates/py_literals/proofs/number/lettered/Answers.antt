use Rattle.std.proofs.Common.{◌≡◌, ℕ, ◌+◌, ◌<◌, ◌≤◌, cond, ltb, refl, ap, ◌∙◌, arith}
use Rattle.std.proofs.lemmas.Bool.{lt-ltb, le-ltb}
use Rattle.py_literals.specs.Number.{digits_len, lettered_len}
use Rattle.py_literals.proofs.number.lettered.Goals as goal

found : (r d : ℕ) → r ≡ d → 0 < r → 1 + r ≡ cond (ltb 0 d) (1 + d) 0
found r d e h = rw (lt-ltb 0 d (omega arith)) (omega arith)

missing : (r d : ℕ) → r ≡ d → r ≤ 0 → 0 ≡ cond (ltb 0 d) (1 + d) 0
missing r d e h = rw (le-ltb 0 d (omega arith)) refl

pub returns-then-len-gt0-clause-value : goal.returns-then-len-gt0-clause-value
unfolding lettered_len
returns-then-len-gt0-clause-value c =
    found _ _ (c.digits-len.ensures.value ∙ ap (λ b. digits_len b c.args.rest.now) c.base_at.ensures.value) (omega arith)

pub returns-else-len-gt0-clause-value : goal.returns-else-len-gt0-clause-value
unfolding lettered_len
returns-else-len-gt0-clause-value c =
    missing _ _ (c.digits-len.ensures.value ∙ ap (λ b. digits_len b c.args.rest.now) c.base_at.ensures.value) (omega arith)
