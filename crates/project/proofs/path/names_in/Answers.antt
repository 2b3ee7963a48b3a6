use Rattle.std.proofs.Common.{◌++◌, [], ◌∷◌, sym, ◌∙◌, subst, rules}
use Rattle.project.specs.Paths.{segments}
use Rattle.project.proofs.Segments.{Reads, reads_last, reads_more, reads_none, split_none, split_some}
use Rattle.project.proofs.path.names_in.Goals as goal

pub returns-then-not-branch : goal.returns-then-not-branch
returns-then-not-branch c =
    reads_none c.each_name.names.items c.each_name.rest.now c.args.path.now c.in-Some.first.now (segments c.in-Some.more.now) c.each_name.invariant.1
    (split_some c.each_name.rest.now c.split_once.result c.split_once.ensures.cases _ c.in-Some.is)
    (sym c.in_ok-push_name.ensures.is ∙ c.if-not-branch.true)

pub each_name-preserved : goal.each_name-preserved
each_name-preserved c =
    let more = reads_more c.each_name.names.items c.each_name.rest.now c.args.path.now c.in-Some.first.now c.in-Some.more.now c.each_name.invariant.1
    (split_some c.each_name.rest.now c.split_once.result c.split_once.ensures.cases _ c.in-Some.is)
    (sym c.in_ok-push_name.ensures.is ∙ c.if-not-branch.false) in
    (search rules, subst (λ ns. Reads ns c.in-Some.more.now c.args.path.now) (sym (c.in_ok-push_name.ensures.pushed c.if-not-branch.false)) more)

pub returns-else-branch : goal.returns-else-branch
returns-else-branch c =
    reads_none c.each_name.names.items c.each_name.rest.now c.args.path.now c.each_name.rest.now [] c.each_name.invariant.1
    (split_none c.each_name.rest.now c.split_once.result c.split_once.ensures.cases c.in_default.is)
    (sym c.in_ok-push_name-2.ensures.is ∙ c.if-branch.false)

pub returns-then-branch : goal.returns-then-branch
returns-then-branch c =
    reads_last c.each_name.names.items _ c.each_name.rest.now c.args.path.now c.each_name.invariant.1
    (split_none c.each_name.rest.now c.split_once.result c.split_once.ensures.cases c.in_default.is)
    (sym c.in_ok-push_name-2.ensures.is ∙ c.if-branch.true)
    (c.in_ok-push_name-2.ensures.pushed c.if-branch.true)
