use Rattle.std.proofs.lemmas.Str.{IsUtf8-from_ascii}
use Rattle.py_lexer.proofs.spellings.spell_ascii.Goals as goal

pub from_utf8_unchecked-requires : goal.from_utf8_unchecked-requires
from_utf8_unchecked-requires c = IsUtf8-from_ascii _ c.push_ascii.ensures.ascii
