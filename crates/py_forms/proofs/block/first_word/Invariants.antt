use Rattle.std.proofs.Common.{◌≡◌, length}
use Rattle.py_forms.specs.Parts.{kinds_back, first_word}
use Rattle.py_forms.proofs.block.first_word.Given as goal

abbrev pub invariant-back : goal.invariant-back
invariant-back l = first_word l.word (kinds_back l.rest) ≡ first_word l.fn.behind (kinds_back l.run)

abbrev pub decreases-back : goal.decreases-back
decreases-back l = length l.rest
