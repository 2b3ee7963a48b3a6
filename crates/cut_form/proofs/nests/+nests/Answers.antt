use Rattle.std.proofs.Common.{subst, sym}
use Rattle.cut_form.specs.Answers.{Gives}
use Rattle.cut_form.proofs.Chains.{chain_added}
use Rattle.cut_form.proofs.nests.+nests.Goals as goal

pub nest-returns-in_ok-push_call-in-len1-up : goal.nest-returns-in_ok-push_call-in-len1-up
nest-returns-in_ok-push_call-in-len1-up t c = subst (λ o. Gives (λ x. c.within.new.calls) c.within.result o)
    (sym (chain_added c.args.calls.now c.push_call.new.calls c.args.expr.now c.in-Postfix.base c.get.result.now c.in-Postfix.steps c.as_slice.result.now c.last-item.result
    c.in-Postfix.is c.get.ensures c.as_slice.ensures c.in-len1-up.len_at_least c.last-item.is c.in_ok-push_call-in-len1-up.ensures))
    c.within.ensures
