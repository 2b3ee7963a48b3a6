use Rattle.std.proofs.Common.{List, drop, subst, sym}
use Rattle.std.specs.Borrow.{Bor}
use Rattle.std.proofs.lemmas.Result.{err_from_is_err_and}
use Rattle.phrases.specs.Loops.{Gives}
use Rattle.phrases.specs.Reading.{Outcome, Read}
use Rattle.py_lexer.specs.declared.token.Token.{Token}
use Rattle.py_ast.specs.declared.tree.Expr.{Expr}
use Rattle.py_ast.specs.Grammar.{binary, Whole, Inversion, Factor, nested, shaped}
use Rattle.py_expr.proofs.Alone.{binary_fails, comparison_fails, disjunction_fails, expr_fails}
use Rattle.py_expr.proofs.Ends.{Ends, power_fails, expr_leaf, expr_text, primary_stops, power_stops, comparison_stops, factor_alone, inversion_alone, expr_comparison}
use Rattle.py_expr.proofs.expr.+expr.Goals as goal

pub comparison_of-returns-in_err-first-clause-read : goal.comparison_of-returns-in_err-first-clause-read
comparison_of-returns-in_err-first-clause-read t c =
    let f = shaped Factor c.args.room in
    let p = err_from_is_err_and c.from_residual.result c.from_residual.ensures.1 in
    rw (p.1, p.2) (comparison_fails (binary 6 f) c.args.tokens.now c.in_err-first.field-0.0 (binary_fails 6 f c.args.tokens.now c.in_err-first.field-0.0 c.in_err-first.ensures.read))

pub disjunction_of-returns-in_err-first-clause-read : goal.disjunction_of-returns-in_err-first-clause-read
disjunction_of-returns-in_err-first-clause-read t c =
    let p = err_from_is_err_and c.from_residual.result c.from_residual.ensures.1 in
    rw (p.1, p.2) (disjunction_fails (shaped Inversion c.args.room) c.args.tokens.now c.in_err-first.field-0.0 c.in_err-first.ensures.read)

pub prefixed_of-returns-in_err-first-clause-read : goal.prefixed_of-returns-in_err-first-clause-read
prefixed_of-returns-in_err-first-clause-read t c =
    let p = err_from_is_err_and c.from_residual.result c.from_residual.ensures.1 in
    rw (p.1, p.2) (expr_fails c.args.room c.args.tokens.now c.in_err-first.field-0.0 (disjunction_fails (shaped Inversion c.args.room) c.args.tokens.now c.in_err-first.field-0.0 c.in_err-first.ensures.read))

pub whole_of-returns-in_err-first-clause-read : goal.whole_of-returns-in_err-first-clause-read
whole_of-returns-in_err-first-clause-read t c =
    let p = err_from_is_err_and c.from_residual.result c.from_residual.ensures.1 in
    let is = c.if-stands_prefix.false in
    rw (p.1, p.2) (primary_stops c.args.room c.args.tokens.now c.in_err-first.field-0.0 (c.stands_prefix.ensures.unary is) (c.stands_prefix.ensures.negation is) c.in_err-first.ensures.read)

pub wider_from-returns-in_err-first-clause-read : goal.wider_from-returns-in_err-first-clause-read
wider_from-returns-in_err-first-clause-read t c ts u n h =
    let p = err_from_is_err_and c.from_residual.result c.from_residual.ensures.1 in
    rw (p.1, p.2) (power_stops c.args.room ts c.in_err-first.field-0.0 u n (c.in_err-first.ensures.read ts h))

pub wider_from-returns-in_err-value-clause-read : goal.wider_from-returns-in_err-value-clause-read
wider_from-returns-in_err-value-clause-read t c ts u n h =
    let p = err_from_is_err_and c.from_residual-in_err-value.result c.from_residual-in_err-value.ensures.1 in
    let f = factor_alone c.args.room ts c.in_ok-first.first c.in_ok-first.rest.now u (c.in_ok-first.ensures.read ts h) in
    rw (p.1, p.2) (comparison_stops c.args.room ts c.in_err-value.field-0.0 n (c.in_err-value.ensures.read ts f))

pub wider_from-returns-then-not-stands_logic-clause-read : goal.wider_from-returns-then-not-stands_logic-clause-read
wider_from-returns-then-not-stands_logic-clause-read t c ts u n h =
    let is = c.if-not-stands_logic.true in
    let f = factor_alone c.args.room ts c.in_ok-first.first c.in_ok-first.rest.now u (c.in_ok-first.ensures.read ts h) in
    expr_comparison c.args.room ts c.in_ok-value.value c.in_ok-value.rest.now n (c.in_ok-value.ensures.read ts f) (c.stands_logic.ensures.conjunction is) (c.stands_logic.ensures.disjunction is) (c.stands_logic.ensures.choice is)

pub wider_from-returns-clause-read : goal.wider_from-returns-clause-read
wider_from-returns-clause-read t c ts u n h =
    let f = factor_alone c.args.room ts c.in_ok-first.first c.in_ok-first.rest.now u (c.in_ok-first.ensures.read ts h) in
    c.expr_from.ensures.read ts (inversion_alone c.args.room ts c.in_ok-value.value c.in_ok-value.rest.now n (c.in_ok-value.ensures.read ts f))

pub expr_of-returns-then-stands_alone-clause-read : goal.expr_of-returns-then-stands_alone-clause-read
expr_of-returns-then-stands_alone-clause-read t c =
    let ts = c.args.tokens.now in
    let h = c.stands_alone.ensures in
    let is = c.if-stands_alone.true in
    let ends : Ends (drop 1 ts) =
    record {
      step = h.step is;
      exponent = h.exponent is;
      binary = λ level. h.binary level is;
      comparison = h.comparison is;
      conjunction = h.conjunction is;
      disjunction = h.disjunction is;
      choice = h.choice is;
    } in
    subst (λ (o : Outcome Token Expr). Gives {X = Expr × Bor (List Token)} (λ x. Read x.0 x.1.now) c.leaf_here.result o) (sym (expr_leaf c.args.room ts (h.leaf is) ends)) c.leaf_here.ensures.read

pub expr_of-returns-then-stands_text_alone-clause-read : goal.expr_of-returns-then-stands_text_alone-clause-read
expr_of-returns-then-stands_text_alone-clause-read t c =
    let ts = c.args.tokens.now in
    let h = c.stands_text_alone.ensures in
    let is = c.if-stands_text_alone.true in
    let ends : Ends (drop 1 ts) =
    record {
      step = h.step is;
      exponent = h.exponent is;
      binary = λ level. h.binary level is;
      comparison = h.comparison is;
      conjunction = h.conjunction is;
      disjunction = h.disjunction is;
      choice = h.choice is;
    } in
    subst (λ (o : Outcome Token Expr). Gives {X = Expr × Bor (List Token)} (λ x. Read x.0 x.1.now) c.text_here.result o) (sym (expr_text c.args.room ts (h.text is) (h.string is) ends)) c.text_here.ensures.read

pub power_of-returns-in_err-base-clause-read : goal.power_of-returns-in_err-base-clause-read
power_of-returns-in_err-base-clause-read t c =
    let p = err_from_is_err_and c.from_residual.result c.from_residual.ensures.1 in
    rw (p.1, p.2) (power_fails c.args.room (nested c.args.room Whole) (nested c.args.room Factor) c.args.tokens.now c.in_err-base.field-0.0 c.in_err-base.ensures.read)
