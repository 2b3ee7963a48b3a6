-- Productions of statements that begin with expressions (Language Reference, 7.1 and 7.2).
--   target "=" exprs | annotated ["=" exprs] | single OP"=" exprs | exprs      annotated: (NAME | primary "." NAME) ":" expr
use Rattle.std.specs.Prelude.{◌≡◌, ℕ, List, Option}
use Rattle.py_literals.specs.declared.place.Pos.{Pos}
use Rattle.phrases.specs.Spelling.{One}
use Rattle.py_lexer.specs.declared.token.Kind.TheVariants as kinds
use Rattle.py_lexer.specs.declared.token.Token.{Token}
use Rattle.py_ast.specs.Grammar.{both, second}
use Rattle.py_ast.specs.Statements.{augment_of, write_at}
use Rattle.py_ast.specs.declared.tree.Expr.{Expr, out-Expr}
use Rattle.py_ast.specs.declared.statement.AugmentOperator.{AugmentOperator}
use Rattle.py_ast.specs.declared.statement.Stmt.{Stmt, roll-Stmt}
use Rattle.py_ast.specs.declared.statement.StmtForm.TheVariants as stmts
use Rattle.py_productions.specs.Rules.{Rule, Word, Row, Maybe}
use Rattle.py_productions.specs.Expressions.{Expression, Expressions}
use Rattle.py_productions.specs.Targets.{Annotable, Single, Target}

-- ---- their trees: each has the number of the token that makes it

abbrev pub assign_tree : Expr → Pos × Expr → Stmt
assign_tree target (at, value) = write_at at target (stmts.Assign target value)

abbrev pub annotate_tree : Expr → Pos × (Expr × Option Expr) → Stmt
annotate_tree target (at, (annotation, value)) = write_at at target (stmts.Annotate target annotation value)

abbrev pub augment_tree : Expr → (AugmentOperator × Pos) × Expr → Stmt
augment_tree target ((operator, at), value) = write_at at target (stmts.Augment target operator value)

abbrev pub expression_tree : Expr → Stmt
expression_tree e = roll-Stmt (record { node = (out-Expr e).node; anchor = (out-Expr e).anchor; form = stmts.Expression e })

-- ---- productions

-- "=" exprs
abbrev pub Assigned : ℕ → Rule (Pos × Expr)
Assigned room = Row (Word kinds.Equal) (Expressions (Expression room)) both

-- ":" expr ["=" exprs]
abbrev pub Annotated : ℕ → Rule (Pos × (Expr × Option Expr))
Annotated room = Row (Word kinds.Colon) (Row (Expression room) (Maybe (Row (Word kinds.Equal) (Expressions (Expression room)) second)) both) both

-- OP"=" exprs
abbrev pub Augmented : ℕ → Rule ((AugmentOperator × Pos) × Expr)
Augmented room = Row (One augment_of) (Expressions (Expression room)) both

pub record IsExpression (room : ℕ) (x : List Token) (s : Stmt) : Type 0 where
  pub expression : Expr
  pub spelled : Expressions (Expression room) x expression
  pub tree : s ≡ expression_tree expression

pub data Begun (room : ℕ) (x : List Token) (s : Stmt) : Type 0 where
  assignment : Row (Target room) (Assigned room) assign_tree x s → Begun room x s
  annotation : Row (Annotable room) (Annotated room) annotate_tree x s → Begun room x s
  augmentation : Row (Single room) (Augmented room) augment_tree x s → Begun room x s
  expression : IsExpression room x s → Begun room x s
