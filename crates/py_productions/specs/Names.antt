-- Productions of names that a statement binds (Language Reference, 7.11 and 8.3).
--   "from" dotted "import" (as ("," as)* | "(" as ("," as)* [","] ")")      as: NAME ["as" NAME]
--   "for" (NAME | names | "(" names ")") "in" ..                            names: NAME ("," NAME)+ [","]
-- These parentheses open no nesting.
use Rattle.std.specs.Prelude.{◌≡◌, List, [], ◌∷◌}
use Rattle.phrases.specs.Spelling.{Many}
use Rattle.py_lexer.specs.declared.token.Kind.TheVariants as kinds
use Rattle.py_lexer.specs.declared.token.Token.{Token}
use Rattle.py_ast.specs.Grammar.{first_of, second}
use Rattle.py_ast.specs.Statements.{cons, imported_name_of}
use Rattle.py_ast.specs.declared.tree.NameAt.{NameAt}
use Rattle.py_ast.specs.declared.statement.ImportedName.{ImportedName}
use Rattle.py_productions.specs.Rules.{Rule, Word, Row, Maybe, Items}
use Rattle.py_productions.specs.Targets.{AnyName, AllNames}

-- NAME ["as" NAME]
abbrev pub As : Rule ImportedName
As = Row AnyName (Maybe (Row (Word kinds.As) AnyName second)) imported_name_of

-- as ("," as)*
abbrev pub Imports : Rule (List ImportedName)
Imports = Row As (Many (Row (Word kinds.Comma) As second)) cons

pub data ImportedNames (x : List Token) (names : List ImportedName) : Type 0 where
  bare_imports : Imports x names → ImportedNames x names
  enclosed_imports : Row (Word kinds.LeftParen) (Row (Items kinds.Comma As) (Word kinds.RightParen) first_of) second x names → ImportedNames x names

-- one name
pub record OneName (x : List Token) (names : List NameAt) : Type 0 where
  pub name : NameAt
  pub spelled : AnyName x name
  pub alone : names ≡ name ∷ []

pub data LoopNames (x : List Token) (names : List NameAt) : Type 0 where
  one_name : OneName x names → LoopNames x names
  bare_names : AllNames AnyName x names → LoopNames x names
  enclosed_names : Row (Word kinds.LeftParen) (Row (AllNames AnyName) (Word kinds.RightParen) first_of) second x names → LoopNames x names
