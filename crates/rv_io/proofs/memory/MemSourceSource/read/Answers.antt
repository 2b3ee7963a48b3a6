use Rattle.std.proofs.Common.{◌≡◌, length, take, drop, arith, sym, ap, ◌∙◌, length-take}
use Rattle.std.proofs.lemmas.List.{take_rest}
use Rattle.rv_io.proofs.Feeds.{gives_front}
use Rattle.rv_io.proofs.memory.MemSourceSource.read.Goals as goal

pub returns-clause-taken : goal.returns-clause-taken
returns-clause-taken c =
    let bytes = c.self.inside.bytes.items in
    let taken = c.self.inside.taken in
    let count = c.min-count.result in
    let lent = c.deref-2.result.now in
    let given = c.copy_from_slice.new.self in
    let front : given ≡ take count (drop taken bytes) =
    c.copy_from_slice.ensures.after ∙ ap (take count) (take_rest lent taken) ∙ ap (λ x. take count (drop taken x)) c.deref-2.ensures.value in
    let size : length given ≡ count =
    omega (arith, c.copy_from_slice.ensures.len, length-take count c.args.buf.now, c.min.ensures, c.min-count.ensures) in
    sym (ap (λ feed. feed.left) c.self.view_is) ∙ gives_front bytes given (drop count c.args.buf.now) taken count front size
