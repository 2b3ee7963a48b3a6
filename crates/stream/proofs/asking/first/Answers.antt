use Rattle.std.proofs.Common.{Ok, Err, refl, ap}
use Rattle.stream.proofs.Waits.{Asked, starts}
use Rattle.stream.proofs.asking.first.Goals as goal

pub returns-in-Ok-clause-ok : goal.returns-in-Ok-clause-ok
returns-in-Ok-clause-ok c =
    let asked : Asked c.args.bytes.now c.args.over (Ok c.in-Ok.next) = record { found = c.in-Ok.ensures.found; only = c.in-Ok.ensures.only; need = c.in-Ok.ensures.need } in
    starts c.args.bytes.now c.args.over (Ok c.in-Ok.next) asked c.in-Ok.next.0 c.in-Ok.next.1 refl

pub returns-in-Err-Malformed-clause-err : goal.returns-in-Err-Malformed-clause-err
returns-in-Err-Malformed-clause-err c =
    let m = c.in-Err-Malformed.ensures.malformed c.in-Err-Malformed.field-0-0 (ap Err c.in-Err-Malformed.field-0-is) in
    (refl, record { none = m.1; dead = m.2 })
