use Rattle.std.proofs.Common.{refl, arith}
use Rattle.project.specs.Sums.{beneath}
use Rattle.project.proofs.Steps.{small_given, without_none, without_some}
use Rattle.project.proofs.files.Files.given_without.Goals as goal

pub overflow_sub-result : goal.overflow_sub-result
overflow_sub-result c =
    (without_some c.self.inside.live.entries c.self.inside.text c.self.inside.given c.args.self.now c.args.path.now c.in-Some.file.now c.given_by.result (beneath c.args.self.now c.in-Some.file.now.path) c.self.invariant.0 c.self.view_is c.in-Some.ensures.value c.given_by.ensures.value refl).1

pub overflow_add-result : goal.overflow_add-result
overflow_add-result c = omega (arith, small_given c.self.inside.live.entries c.self.inside.text c.self.inside.given c.args.self.now c.self.invariant.0 c.self.view_is, c.beneath.ensures.small)

pub returns-in-None : goal.returns-in-None
returns-in-None c = without_none c.self.inside.live.entries c.self.inside.text c.self.inside.given c.args.self.now c.args.path.now c.self.invariant.0 c.self.view_is c.in-None.ensures.value

pub returns-in-Some : goal.returns-in-Some
returns-in-Some c =
    let both = without_some c.self.inside.live.entries c.self.inside.text c.self.inside.given c.args.self.now c.args.path.now c.in-Some.file.now c.given_by.result c.beneath.result c.self.invariant.0 c.self.view_is c.in-Some.ensures.value c.given_by.ensures.value c.beneath.ensures.value in
    omega arith
