use Rattle.script.proofs.Digits.{front_path}
use Rattle.script.proofs.fields.path.Goals as goal

pub ascii-requires : goal.ascii-requires
ascii-requires c = rw c.span-len.ensures.value (front_path c.args.bytes.now)
