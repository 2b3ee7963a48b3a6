use Rattle.std.proofs.Common.{◌++◌, ap, ◌∙◌, refl, arith}
use Rattle.gen_project.specs.Script.{put_fixed, put_module}
use Rattle.gen_project.proofs.Steps.{one-more, none-yet}
use Rattle.gen_project.proofs.script.make.Goals as goal

pub loop-own-init : goal.loop-own-init
loop-own-init c = record {
  text =
      c.in_ok-push_fixed.ensures
      ∙ ap (λ x. x ++ put_fixed) c.new-script.ensures.bytes
      ∙ none-yet (put_module c.args.number c.args.size) 0 0 put_fixed refl;
  place = omega arith;
  number = c.new-draws.ensures.number;
}

pub push_module-requires-clause-place : goal.push_module-requires-clause-place
push_module-requires-clause-place c = omega arith

pub loop-own-preserved : goal.loop-own-preserved
loop-own-preserved c =
    let own = c.loop-own.own in
    let number = c.loop-own.invariant.number in
    record {
      text = one-more (put_module c.args.number c.args.size) 0 own own _ _ _ _
          (put_module c.loop-own.draws.number c.args.size own)
          refl (omega arith) c.loop-own.invariant.text c.in_ok-push_module.ensures.script
          (ap (λ n. put_module n c.args.size own) number);
      place = c.in_ok-push_module.ensures.place;
      number = c.push_module.ensures.number ∙ number;
    }
