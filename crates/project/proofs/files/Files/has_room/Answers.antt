use Rattle.std.proofs.Common.{◌+◌, ◌≤◌, ◌<◌, sym, ap, ◌∙◌, subst}
use Rattle.std.specs.Prelude.{nat_le, ◌&&◌}
use Rattle.std.specs.FinMap.{len}
use Rattle.project.specs.Files.{text_of}
use Rattle.project.specs.Limits.{text_limit}
use Rattle.project.proofs.Maps.{length_in, rises}
use Rattle.project.proofs.Steps.{is_fewer, is_many}
use Rattle.project.proofs.files.Files.has_room.Goals as goal

pub returns-then-len-lt-FILES_LIMIT : goal.returns-then-len-lt-FILES_LIMIT
returns-then-len-lt-FILES_LIMIT c =
    let count = c.len.ensures.len ∙ length_in c.self.inside.live.entries (rises c.self.inside.live.entries c.self.invariant.0.rising) ∙ ap len c.self.view_is in
    let fewer = is_fewer (len c.args.self.now) (subst (λ n. n < 4096) count c.if-len-lt-FILES_LIMIT.true) in
    ap (λ text. nat_le (text + c.args.len) text_limit) (c.self.invariant.0.text_is ∙ ap text_of c.self.view_is)
    ∙ sym (ap (λ b. b && nat_le (text_of c.args.self.now + c.args.len) text_limit) fewer)

pub returns-else-len-lt-FILES_LIMIT : goal.returns-else-len-lt-FILES_LIMIT
returns-else-len-lt-FILES_LIMIT c =
    let count = c.len.ensures.len ∙ length_in c.self.inside.live.entries (rises c.self.inside.live.entries c.self.invariant.0.rising) ∙ ap len c.self.view_is in
    is_many c.len.result c.if-len-lt-FILES_LIMIT.false
    ∙ sym (ap (λ b. b && nat_le (text_of c.args.self.now + c.args.len) text_limit) (is_many (len c.args.self.now) (subst (λ n. 4096 ≤ n) count c.if-len-lt-FILES_LIMIT.false)))
