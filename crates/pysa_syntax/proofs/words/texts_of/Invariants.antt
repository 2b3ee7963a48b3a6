use Rattle.std.proofs.Common.{◌≡◌, take}
use Rattle.pysa_syntax.specs.Grammar.{texts}
use Rattle.pysa_syntax.proofs.words.texts_of.Given as goal

abbrev pub invariant-loop-word : goal.invariant-loop-word
invariant-loop-word l = l.texts.items ≡ texts (take l.word-index l.words)
