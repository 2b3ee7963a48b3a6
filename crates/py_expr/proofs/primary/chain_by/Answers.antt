use Rattle.std.proofs.Common.{◌∙◌, ap}
use Rattle.phrases.specs.Sets.{has}
use Rattle.py_ast.specs.Kinds.{class}
use Rattle.py_ast.specs.Grammar.{step_first, step_next, step, chain, Whole, nested}
use Rattle.py_expr.proofs.primary.chain_by.Goals as goal

pub returns-clause-read : goal.returns-clause-read
unfolding chain
returns-clause-read g c =
    c.series.ensures.read class (λ s. (step_first s)) (λ s. (step c.args.room (nested c.args.room Whole) s).read) (λ s i. step_next s i) (λ s k b h. h.2 ∙ ap (λ v. has (step_first s) (class v)) h.1) (λ s ts r h. (h.0, h.1.0))
