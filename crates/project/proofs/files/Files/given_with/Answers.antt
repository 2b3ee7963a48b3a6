use Rattle.std.proofs.Common.{ap, ◌∙◌, arith}
use Rattle.std.specs.Map.{lookup}
use Rattle.std.specs.BTreeMap.{is_at}
use Rattle.std.specs.Option.{option_copied}
use Rattle.rv_names.specs.Keys.{bytes_order}
use Rattle.project.proofs.Steps.{small_given, with_put}
use Rattle.project.proofs.files.Files.given_with.Goals as goal

pub overflow_add-result : goal.overflow_add-result
overflow_add-result c = omega (arith, small_given c.self.inside.live.entries c.self.inside.text c.self.inside.given c.args.self.now c.self.invariant.0 c.self.view_is, c.shown.ensures.small)

pub overflow_sub-result : goal.overflow_sub-result
overflow_sub-result c =
    let a = with_put c.self.inside.live.entries c.self.inside.text c.self.inside.given c.args.self.now c.args.file.now.path c.args.file.now (option_copied c.get-old.result) c.is_hidden-hidden.result c.beneath-beneath.result c.self.invariant.0 c.self.view_is (c.get-old.ensures.value ∙ ap (λ q. lookup (is_at (bytes_order q)) c.self.inside.live.entries) c.path.ensures) c.is_hidden-hidden.ensures c.beneath-beneath.ensures.value in
    let b = c.shown.ensures.value in
    let d = c.replaced.ensures.value in
    omega arith

pub returns : goal.returns
returns c =
    let a = with_put c.self.inside.live.entries c.self.inside.text c.self.inside.given c.args.self.now c.args.file.now.path c.args.file.now (option_copied c.get-old.result) c.is_hidden-hidden.result c.beneath-beneath.result c.self.invariant.0 c.self.view_is (c.get-old.ensures.value ∙ ap (λ q. lookup (is_at (bytes_order q)) c.self.inside.live.entries) c.path.ensures) c.is_hidden-hidden.ensures c.beneath-beneath.ensures.value in
    let b = c.shown.ensures.value in
    let d = c.replaced.ensures.value in
    omega arith
