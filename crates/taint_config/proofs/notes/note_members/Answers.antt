use Rattle.std.proofs.Common.{sym, ◌∙◌}
use Rattle.taint_config.specs.Shapes.{known_keys}
use Rattle.taint_config.proofs.Keys.{noted, passed, all_noted}
use Rattle.taint_config.proofs.notes.note_members.Goals as goal

pub loop-key-preserved-in_ok-push : goal.loop-key-preserved-in_ok-push
loop-key-preserved-in_ok-push c =
    let split = c.in-Some.ensures.steps in
    let unknown = sym c.is_known.ensures ∙ c.if-not-is_known.true in
    rw (c.in_ok-push.ensures.items, c.in_ok-read.ensures) (noted (known_keys c.args.shape) _ c.as_str-key.result.now _ _ _ _ split c.as_str-key.ensures.value unknown c.loop-key.invariant)

pub loop-key-preserved : goal.loop-key-preserved
loop-key-preserved c =
    let split = c.in-Some.ensures.steps in
    let is = sym c.is_known.ensures ∙ c.if-not-is_known.false in
    passed (known_keys c.args.shape) _ c.as_str-key.result.now _ _ _ _ split c.as_str-key.ensures.value is c.loop-key.invariant

pub returns : goal.returns
returns c = all_noted (known_keys c.args.shape) _ _ _ c.in-None.ensures.steps.0 c.loop-key.invariant
