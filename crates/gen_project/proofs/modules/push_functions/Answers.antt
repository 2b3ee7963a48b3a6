use Rattle.std.proofs.Common.{◌≡◌, ◌+◌, ap, refl, arith}
use Rattle.gen_project.specs.Draws.{draw}
use Rattle.gen_project.specs.Modules.{function_at, function_text}
use Rattle.gen_project.proofs.Steps.{one-more, none-yet}
use Rattle.gen_project.proofs.modules.push_functions.Goals as goal

pub loop-index-init : goal.loop-index-init
loop-index-init c = record {
  text = none-yet _ _ _ _ (omega arith);
  place = omega arith;
  number = refl;
}

pub loop-index-preserved : goal.loop-index-preserved
loop-index-preserved c =
    let number = c.args.draws.now.number in
    let index = c.loop-index.index in
    let drawn : c.take-draw.result ≡ draw number (index + 1) = cc in
    record {
      text = one-more (function_at number c.args.size) _ _ index _ _ _ _ (function_text c.args.size index c.take-draw.result)
          (omega arith) (omega arith) c.loop-index.invariant.text c.in_ok-push_function.ensures
          (ap (function_text c.args.size index) drawn);
      place = omega arith;
      number = cc;
    }
