use Rattle.std.proofs.Common.{◌∙◌, drop, sym, ap}
use Rattle.std.proofs.lemmas.List.{take_rest}
use Rattle.py_literals.specs.Formatted.{is_formed}
use Rattle.py_literals.proofs.Turns.{formed_doubled}
use Rattle.py_literals.proofs.formatted.is_text_and_fields.Goals as goal

pub pieces-preserved-then-has_doubled_brace : goal.pieces-preserved-then-has_doubled_brace
pieces-preserved-then-has_doubled_brace c =
    let rest = c.pieces.rest.now in
    ap (λ ds. is_formed c.pieces.inside ds) (take_rest rest 2)
    ∙ ap (λ b. is_formed b (drop 2 rest)) c.if-inside.false
    ∙ sym (formed_doubled rest (sym c.has_doubled_brace.ensures.value ∙ c.if-has_doubled_brace.true))
    ∙ sym (ap (λ b. is_formed b rest) c.if-inside.false)
    ∙ c.pieces.invariant
