use Rattle.std.proofs.Common.{◌∙◌, sym, true≢false}
use Rattle.rv_names.proofs.NumberingLemmas.{IsNumberOf-number_of, has_number-from_Contains}
use Rattle.rv_names.proofs.numbering.Names.find.Goals as goal

pub returns-in-None-clause-absent : goal.returns-in-None-clause-absent
returns-in-None-clause-absent c =
    rw (← c.self.view_is) (λ member. true≢false (sym (has_number-from_Contains c.self.inside.known.keys c.args.name.now member) ∙ sym c.in-None.ensures.found))

pub returns-in-Some-clause-number : goal.returns-in-Some-clause-number
returns-in-Some-clause-number c =
    rw (← c.self.view_is) (IsNumberOf-number_of c.self.inside.known.keys c.args.name.now c.in-Some.k (sym c.in-Some.ensures.index))
