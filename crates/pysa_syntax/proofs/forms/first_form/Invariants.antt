use Rattle.pysa_syntax.specs.Forms.{NoForm}
use Rattle.pysa_syntax.proofs.forms.first_form.Given as goal

abbrev pub invariant-loop-index : goal.invariant-loop-index
invariant-loop-index l = NoForm l.tokens l.index
