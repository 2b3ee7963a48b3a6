use Rattle.std.proofs.Common.{length, sym, arith}
use Rattle.std.proofs.lemmas.List.Sums.{prefix_len_is}
use Rattle.script.specs.Reading.{has}
use Rattle.script.proofs.fields.Kind.span.Goals as goal

pub returns-clause-value : goal.returns-clause-value
returns-clause-value c =
    sym (prefix_len_is (has c.args.self) c.args.bytes.now (length c.args.bytes.now) 0 (omega arith) (λ k lt. c.loop-i.invariant k (omega arith)) (λ lt. absurd (omega arith)))
