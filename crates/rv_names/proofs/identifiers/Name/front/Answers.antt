use Rattle.std.proofs.Common.{take, ◌∙◌}
use Rattle.rv_names.proofs.InlineLemmas.{ascii_identifier, read_identifier}
use Rattle.rv_names.proofs.identifiers.Name.front.Goals as goal

pub invariant_of-result : goal.invariant_of-result
invariant_of-result c = read_identifier (take c.args.len c.args.chars.now) c.of_inline-text.result (c.of_inline-text.ensures ∙ c.in-Some.ensures.kept) c.in-Some.ensures.ascii c.requires.spelled

pub returns-in-Some-clause-identifier : goal.returns-in-Some-clause-identifier
returns-in-Some-clause-identifier c = ascii_identifier (take c.args.len c.args.chars.now) c.in-Some.ensures.ascii c.requires.spelled
