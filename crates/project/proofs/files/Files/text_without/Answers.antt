use Rattle.std.proofs.Common.{arith}
use Rattle.project.proofs.Steps.{text_without_none, text_without_some}
use Rattle.project.proofs.files.Files.text_without.Goals as goal

pub overflow_sub-result : goal.overflow_sub-result
overflow_sub-result c =
    let a = text_without_some c.self.inside.live.entries c.self.inside.text c.self.inside.given c.args.self.now c.args.path.now c.in-Some.file.now c.self.invariant.0 c.self.view_is c.in-Some.ensures.value in
    let b = c.len.ensures in
    omega arith

pub returns-in-None : goal.returns-in-None
returns-in-None c = text_without_none c.self.inside.live.entries c.self.inside.text c.self.inside.given c.args.self.now c.args.path.now c.self.invariant.0 c.self.view_is c.in-None.ensures.value

pub returns-in-Some : goal.returns-in-Some
returns-in-Some c =
    let a = text_without_some c.self.inside.live.entries c.self.inside.text c.self.inside.given c.args.self.now c.args.path.now c.in-Some.file.now c.self.invariant.0 c.self.view_is c.in-Some.ensures.value in
    let b = c.len.ensures in
    omega arith
