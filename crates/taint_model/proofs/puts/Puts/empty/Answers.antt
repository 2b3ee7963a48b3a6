use Rattle.std.proofs.Common.{ap, ◌∙◌, subst, sym}
use Rattle.taint_model.specs.Puts.{IsPuts}
use Rattle.taint_model.proofs.PutFacts.{is_puts_nil, puts_nil, puts_of}
use Rattle.taint_model.proofs.puts.Puts.empty.Goals as goal

pub invariant_of-result : goal.invariant_of-result
invariant_of-result c = subst IsPuts (sym c.new.ensures.empty) is_puts_nil

pub returns : goal.returns
returns c = ap puts_of c.new.ensures.empty ∙ puts_nil
