use Rattle.std.proofs.Common.{sym, ◌∙◌}
use Rattle.pysa_syntax.proofs.Verdict.{Stopped, stopped_at, stopped_behind, spelled, not_empty, empty}
use Rattle.pysa_syntax.proofs.reading.models_of.Goals as goal

behind : (c : goal.Else-is_empty) → Stopped c.args.tokens.now c.in-Ok.rest.now
behind c = stopped_behind _ _ _ c.in-Ok.ensures.read (not_empty _ (sym c.is_empty.ensures ∙ c.if-is_empty.false))

at : (c : goal.In-Err-Fault) → Stopped c.args.tokens.now c.in-Err-Fault.rest.now
at c = stopped_at _ _ _ (rw c.in-Err-Fault.field-0-is at c.in-Err-Fault.ensures.read)

pub fault_before-requires-clause-stops : goal.fault_before-requires-clause-stops
fault_before-requires-clause-stops c = (behind c).stops

pub fault_before-requires-in-Err-Fault-clause-some : goal.fault_before-requires-in-Err-Fault-clause-some
fault_before-requires-in-Err-Fault-clause-some c = (at c).some

pub fault_before-requires-in-Err-Fault-clause-left : goal.fault_before-requires-in-Err-Fault-clause-left
fault_before-requires-in-Err-Fault-clause-left c = (at c).left

pub fault_before-requires-in-Err-Fault-clause-stops : goal.fault_before-requires-in-Err-Fault-clause-stops
fault_before-requires-in-Err-Fault-clause-stops c = (at c).stops

pub returns-then-is_empty-clause-models : goal.returns-then-is_empty-clause-models
returns-then-is_empty-clause-models c = spelled _ _ _ c.in-Ok.ensures.read (empty _ (sym c.is_empty.ensures ∙ c.if-is_empty.true))
