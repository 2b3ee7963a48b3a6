-- Productions of parameters and of arguments (Language Reference, 8.7 and 6.3.4).
--   signature: "(" [param ("," param)* [","]] ")" ["->" expr]      param: NAME [":" expr] ["=" expr]
--   "(" [argument ("," argument)* [","]] ")"     argument: [NAME "="] expr
-- A parameter without a default doesn't follow one with a default, nor does an argument without a keyword one that has one.
use Rattle.std.specs.Prelude.{◌≡◌, List, Option, None}
use Rattle.py_lexer.specs.declared.token.Kind.TheVariants as kinds
use Rattle.py_lexer.specs.declared.token.Token.{Token}
use Rattle.py_ast.specs.Trees.{keyword_argument_of, argument_of, has_keyword}
use Rattle.py_ast.specs.Grammar.{both, second}
use Rattle.py_ast.specs.Statements.{parameter_of, has_default, all_of}
use Rattle.py_ast.specs.declared.tree.Argument.{Argument}
use Rattle.py_ast.specs.declared.tree.Expr.{Expr}
use Rattle.py_ast.specs.declared.statement.Parameter.{Parameter}
use Rattle.py_productions.specs.Rules.{Rule, Word, Row, Maybe, Items, Parenthesized}
use Rattle.py_productions.specs.Targets.{AnyName}
use Rattle.py_productions.specs.Orders.{AreLast}

-- NAME [":" expr] ["=" expr], where P is expr
abbrev pub IsParameter : Rule Expr → Rule Parameter
IsParameter P = Row (Row AnyName (Maybe (Row (Word kinds.Colon) P second)) both) (Maybe (Row (Word kinds.Equal) P second)) parameter_of

pub record Parameters (P : List Token → Expr → Type 0) (x : List Token) (ps : List Parameter) : Type 0 where
  pub spelled : Items kinds.Comma (IsParameter P) x ps
  pub ordered : AreLast has_default ps

-- the parameters between the parentheses, of which there may be none
pub record ParameterPart (P : List Token → Expr → Type 0) (x : List Token) (ps : List Parameter) : Type 0 where
  pub inside : Option (List Parameter)
  pub spelled : Parenthesized (Parameters P) x inside
  pub all : ps ≡ all_of inside

abbrev pub Signature : Rule Expr → Rule (List Parameter × Option Expr)
Signature P = Row (ParameterPart P) (Maybe (Row (Word kinds.Arrow) P second)) both

-- an expression alone
pub record IsPositional (P : List Token → Expr → Type 0) (x : List Token) (a : Argument) : Type 0 where
  pub value : Expr
  pub spelled : P x value
  pub tree : a ≡ argument_of value None

pub data IsArgument (P : List Token → Expr → Type 0) (x : List Token) (a : Argument) : Type 0 where
  positional : IsPositional P x a → IsArgument P x a
  keyword : Row AnyName (Row (Word kinds.Equal) P second) keyword_argument_of x a → IsArgument P x a

pub record Arguments (P : List Token → Expr → Type 0) (x : List Token) (given : List Argument) : Type 0 where
  pub spelled : Items kinds.Comma (IsArgument P) x given
  pub ordered : AreLast has_keyword given
