use Rattle.std.proofs.Common.{◌+◌, take, refl}
use Rattle.py_lexer.proofs.WordLemmas.{spelled_front}
use Rattle.py_lexer.proofs.quick.push_word.Goals as goal

pub push_name-requires-clause-spelled : goal.push_name-requires-clause-spelled
push_name-requires-clause-spelled c =
    let chars = c.args.chars.now in
    spelled_front c.args.first c.name_len-len.result c.args.rest.now chars (take (1 + c.name_len-len.result) chars) c.requires.parts c.name_len-len.ensures.value refl c.requires.letter
