use Rattle.std.proofs.lemmas.Str.{IsUtf8-from_ascii}
use Rattle.script.proofs.Digits.{ascii_digits}
use Rattle.script.proofs.fields.value_of.Goals as goal

pub from_utf8_unchecked-digits-requires : goal.from_utf8_unchecked-digits-requires
from_utf8_unchecked-digits-requires c = IsUtf8-from_ascii c.args.digits.now (ascii_digits c.args.digits.now c.requires.digits)
