use Rattle.std.proofs.Common.{◌≡◌, length, rules, arith}
use Rattle.later_forms.proofs.Along.{ended}
use Rattle.later_forms.proofs.later.told_along.Goals as goal

pub returns : goal.returns
returns c =
    let e : length c.line.rest.now ≡ 0 = first_of (omega arith, search rules) in
    ended c.line.nearest c.args.count c.line.at c.line.nesting c.line.rest.now _ e c.line.invariant.same
