-- Productions of what a class holds, its decorators and its base (Language Reference, 8.7 and 8.8).
--   member: NAME "=" exprs | NAME ":" expr ["=" exprs] | "pass" | "..." | string+
--   decorator: "@" dotted ["(" literal arguments ")"] NEWLINE      base: ["(" [dotted] ")"]      dotted: NAME ("." NAME)*
-- `staticmethod`, `classmethod` and `property` alone are no decorators.
use Rattle.std.specs.Prelude.{◌≡◌, ℕ, true, false, List, [], Option, None}
use Rattle.py_literals.specs.declared.place.Pos.{Pos}
use Rattle.phrases.specs.Spelling.{One, Many}
use Rattle.py_lexer.specs.declared.token.Kind.TheVariants as kinds
use Rattle.py_lexer.specs.declared.token.Token.{Token}
use Rattle.py_ast.specs.Tokens.{text_of}
use Rattle.py_ast.specs.Trees.{leaf, strings_of}
use Rattle.py_ast.specs.Grammar.{both, first_of, second}
use Rattle.py_ast.specs.Statements.{all_of, dotted_of, word_of}
use Rattle.py_ast.specs.Files.{decorator_of, name_expr, is_left_out}
use Rattle.py_ast.specs.declared.tree.Argument.{Argument}
use Rattle.py_ast.specs.declared.tree.Constant.TheVariants as constants
use Rattle.py_ast.specs.declared.tree.Expr.{Expr}
use Rattle.py_ast.specs.declared.tree.Form.TheVariants as forms
use Rattle.py_ast.specs.declared.statement.Decorator.{Decorator}
use Rattle.py_ast.specs.declared.statement.Dotted.{Dotted}
use Rattle.py_ast.specs.declared.statement.Stmt.{Stmt}
use Rattle.py_productions.specs.Rules.{Rule, Word, Row, Maybe, Parenthesized}
use Rattle.py_productions.specs.Targets.{AnyName, Operand}
use Rattle.py_productions.specs.Parameters.{Arguments}
use Rattle.py_productions.specs.Assignments.{assign_tree, annotate_tree, expression_tree, Assigned, Annotated}

-- ---- members

-- "..."
pub record IsEllipsis (x : List Token) (s : Stmt) : Type 0 where
  pub at : Pos
  pub spelled : Word kinds.Ellipsis x at
  pub tree : s ≡ expression_tree (leaf at (forms.Constant constants.Ellipsis))

-- strings in a row, of which none is formatted
pub record IsText (x : List Token) (s : Stmt) : Type 0 where
  pub expression : Expr
  pub spelled : Row (One text_of) (Many (One text_of)) strings_of x expression
  pub tree : s ≡ expression_tree expression

pub data Member (room : ℕ) (x : List Token) (s : Stmt) : Type 0 where
  assigned_member : Row Operand (Assigned room) (λ n v. assign_tree (name_expr n) v) x s → Member room x s
  annotated_member : Row Operand (Annotated room) (λ n v. annotate_tree (name_expr n) v) x s → Member room x s
  pass_member : One (word_of false) x s → Member room x s
  ellipsis_member : IsEllipsis x s → Member room x s
  text_member : IsText x s → Member room x s

-- ---- names of decorators, and bases

-- NAME ("." NAME)*
abbrev pub DottedName : Rule Dotted
DottedName = Row AnyName (Many (Row (Word kinds.Dot) AnyName second)) dotted_of

pub record DecoratorName (x : List Token) (d : Dotted) : Type 0 where
  pub spelled : DottedName x d
  pub not_left_out : is_left_out d.first.name ≡ true → d.others ≡ [] → ⊥

-- the arguments between the parentheses, of which there may be none
pub record ArgumentPart (P : List Token → Expr → Type 0) (x : List Token) (list : List Argument) : Type 0 where
  pub inside : Option (List Argument)
  pub spelled : Parenthesized (Arguments P) x inside
  pub all : list ≡ all_of inside

-- of which P is a literal
abbrev pub IsDecorator : Rule Expr → Rule Decorator
IsDecorator P = Row (Word kinds.At) (Row (Row DecoratorName (Maybe (ArgumentPart P)) both) (Word kinds.Newline) first_of) decorator_of

pub data Base (x : List Token) (base : Option Dotted) : Type 0 where
  without : x ≡ [] → base ≡ None → Base x base
  within_parentheses : Parenthesized DottedName x base → Base x base
