use Rattle.std.proofs.Common.{refl, arith}
use Rattle.gen_project.specs.Modules.{import_line}
use Rattle.gen_project.proofs.Steps.{one-more, none-yet}
use Rattle.gen_project.proofs.modules.push_imports.Goals as goal

pub loop-other-init : goal.loop-other-init
loop-other-init c = none-yet _ _ _ _ refl

pub loop-other-preserved : goal.loop-other-preserved
loop-other-preserved c =
    let other = c.loop-other.other in
    one-more (import_line c.args.own) 0 other other _ _ _ _ (import_line c.args.own other)
    refl (omega arith) c.loop-other.invariant c.in_ok-push_import.ensures refl
