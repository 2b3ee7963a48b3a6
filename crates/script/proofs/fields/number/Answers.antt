use Rattle.script.proofs.Digits.{front_digits}
use Rattle.script.proofs.fields.number.Goals as goal

pub value_of-requires-clause-digits : goal.value_of-requires-clause-digits
value_of-requires-clause-digits c = rw c.span-len.ensures.value (front_digits c.args.bytes.now)
