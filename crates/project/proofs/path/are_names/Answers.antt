use Rattle.std.proofs.Common.{sym, ◌∙◌, rules}
use Rattle.project.specs.Paths.{segments}
use Rattle.project.proofs.Segments.{identifiers_last, identifiers_more, identifiers_none, split_none, split_some}
use Rattle.project.proofs.path.are_names.Goals as goal

pub returns-then-not-is_ascii_identifier : goal.returns-then-not-is_ascii_identifier
returns-then-not-is_ascii_identifier c =
    identifiers_none c.each_name.rest.now c.args.path.now c.in-Some.first.now (segments c.in-Some.more.now) c.each_name.invariant.1
    (split_some c.each_name.rest.now c.split_once.result c.split_once.ensures.cases _ c.in-Some.is)
    (sym c.is_ascii_identifier.ensures ∙ c.if-not-is_ascii_identifier.true)

pub each_name-preserved : goal.each_name-preserved
each_name-preserved c =
    let more = identifiers_more c.each_name.rest.now c.args.path.now c.in-Some.first.now (segments c.in-Some.more.now) c.each_name.invariant.1 (split_some c.each_name.rest.now c.split_once.result c.split_once.ensures.cases _ c.in-Some.is) (sym c.is_ascii_identifier.ensures ∙ c.if-not-is_ascii_identifier.false) in
    (search rules, more)

pub returns : goal.returns
returns c =
    c.is_ascii_identifier-2.ensures
    ∙ identifiers_last c.each_name.rest.now c.args.path.now c.each_name.invariant.1 (split_none c.each_name.rest.now c.split_once.result c.split_once.ensures.cases c.in_default.is)
