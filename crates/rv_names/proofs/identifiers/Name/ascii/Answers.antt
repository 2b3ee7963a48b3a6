use Rattle.std.proofs.Common.{◌∙◌}
use Rattle.rv_names.proofs.InlineLemmas.{ascii_identifier, read_identifier}
use Rattle.rv_names.proofs.identifiers.Name.ascii.Goals as goal

pub invariant_of-result : goal.invariant_of-result
invariant_of-result c = read_identifier c.args.text.now c.of_inline-text.result (c.of_inline-text.ensures ∙ c.in-Some.ensures.kept) c.in-Some.ensures.ascii c.requires

pub returns-in-Some-clause-identifier : goal.returns-in-Some-clause-identifier
returns-in-Some-clause-identifier c = ascii_identifier c.args.text.now c.in-Some.ensures.ascii c.requires
