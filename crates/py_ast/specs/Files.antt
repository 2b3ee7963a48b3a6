-- The grammar of decorators, blocks and files (Language Reference, chapters 7 to 9): which statements stand where.
--   decorator: "@" dotted ["(" literal arguments ")"] NEWLINE
-- A file has imports, definitions and all that a block has. A block has compound and simple statements: `return` where it stands in
-- a function, `break` and `continue` where it stands in a loop of that function. A class has functions, `NAME = exprs`,
-- `NAME: expr [= exprs]`, `pass`, `...` and strings that aren't formatted.
use Rattle.std.specs.Prelude.{◌≡◌, ℕ, Bool, true, false, cond, ◌||◌, List, [], ◌∷◌, ◌++◌, Option, Some, None}
use Rattle.std.specs.List.{flat_map}
use Rattle.rv_names.specs.Keys.{bytes_equal}
use Rattle.py_literals.specs.declared.place.Pos.{Pos}
use Rattle.phrases.specs.Phrases.{Phrase, token, nothing, sequence, either, many}
use Rattle.phrases.specs.Verdict.{Spelled}
use Rattle.py_lexer.specs.declared.token.Kind.TheVariants as kinds
use Rattle.py_lexer.specs.declared.token.Token.{Token}
use Rattle.py_ast.specs.Kinds.{class, code, mark_of, pick, place_of, name_code, text_code}
use Rattle.py_ast.specs.Nested.{nest_shapes}
use Rattle.py_ast.specs.Tokens.{name_of}
use Rattle.py_ast.specs.Trees.{leaf, optional_items}
use Rattle.py_ast.specs.Grammar.{both, second, mapped, past, ended, expr}
use Rattle.py_ast.specs.Literals.{literal_argument_first, literal_arguments, texts, literal}
use Rattle.py_ast.specs.Statements.{optional, cons, stmt_at, name, dotted_of, import_stmt, from_stmt, assigned, annotated, begun_stmt, word_codes, word_of, simple, simple_first, line, if_stmt, while_stmt, for_stmt, in_parentheses, function, class_stmt}
use Rattle.py_ast.specs.declared.tree.Argument.{Argument}
use Rattle.py_ast.specs.declared.tree.Constant.TheVariants as constants
use Rattle.py_ast.specs.declared.tree.Expr.{Expr}
use Rattle.py_ast.specs.declared.tree.Form.TheVariants as forms
use Rattle.py_ast.specs.declared.tree.NameAt.{NameAt}
use Rattle.py_ast.specs.declared.statement.Decorator.{Decorator}
use Rattle.py_ast.specs.declared.statement.Dotted.{Dotted}
use Rattle.py_ast.specs.declared.statement.Module.{Module}
use Rattle.py_ast.specs.declared.statement.Stmt.{Stmt}
use Rattle.py_ast.specs.declared.statement.Suite.{Suite}
use Rattle.py_ast.specs.declared.statement.Suite.TheVariants.{Body, Members}
use Rattle.py_ast.specs.declared.statement.Tail.{Tail}
use Rattle.py_ast.specs.declared.statement.Tail.TheVariants as tails

-- ---- decorators (8.7)

-- `staticmethod`, `classmethod` and `property`, which alone are no decorators of the subset
abbrev pub is_left_out : List ℕ → Bool
is_left_out n =
    bytes_equal n (115 ∷ 116 ∷ 97 ∷ 116 ∷ 105 ∷ 99 ∷ 109 ∷ 101 ∷ 116 ∷ 104 ∷ 111 ∷ 100 ∷ []) || bytes_equal n (99 ∷ 108 ∷ 97 ∷ 115 ∷ 115 ∷ 109 ∷ 101 ∷ 116 ∷ 104 ∷ 111 ∷ 100 ∷ [])
    || bytes_equal n (112 ∷ 114 ∷ 111 ∷ 112 ∷ 101 ∷ 114 ∷ 116 ∷ 121 ∷ [])

abbrev pub dot_first : List ℕ
dot_first = code kinds.Dot ∷ []

-- the names behind dots, of which there is one at least
unfoldable pub dots : Bool → Phrase Token (List NameAt)
dots false = many class dot_first (past (code kinds.Dot) name)
dots true = sequence (past (code kinds.Dot) name) (λ n. many class dot_first (past (code kinds.Dot) name)) cons

unfoldable pub decorator_name : Phrase Token Dotted
decorator_name = sequence name (λ n. dots (is_left_out n.name)) dotted_of

abbrev pub decorator_of : Pos → Dotted × Option (List Argument) → Decorator
decorator_of at (n, as_given) = record { at = at; name = n; arguments = as_given }

unfoldable pub decorator : Phrase Token Expr → Phrase Token Decorator
decorator literal =
    sequence (token (mark_of (code kinds.At)))
    (λ m. ended (sequence decorator_name (λ n. optional (code kinds.LeftParen ∷ []) (mapped (in_parentheses (literal_argument_first false) (literal_arguments literal)) optional_items)) both) (code kinds.Newline))
    decorator_of

unfoldable pub decorators : Phrase Token Expr → Phrase Token (List Decorator)
decorators literal = sequence (decorator literal) (λ d. many class (code kinds.At ∷ []) (decorator literal)) cons

-- ---- statements of blocks

abbrev pub single : Stmt → List Stmt
single s = s ∷ []

-- what stands behind the ":" of blocks
abbrev pub Suites : Type 1
Suites = Suite → Phrase Token (List Stmt)

abbrev pub compound_first : List ℕ
compound_first = code kinds.If ∷ code kinds.While ∷ code kinds.For ∷ []

unfoldable pub compound : Phrase Token Expr → ℕ → Suites → (returns loops : Bool) → Phrase Token Stmt
compound e room suite returns loops =
    either class (code kinds.If ∷ []) (if_stmt e room (suite (Body returns loops)))
    (either class (code kinds.While ∷ []) (while_stmt e room (suite (Body returns true))) (for_stmt e room (suite (Body returns true))))

unfoldable pub body_statement : Phrase Token Expr → ℕ → Suites → (returns loops : Bool) → Phrase Token (List Stmt)
body_statement e room suite returns loops = either class compound_first (mapped (compound e room suite returns loops) single) (line (simple_first returns loops) (simple e returns loops))

-- ---- statements of classes

abbrev pub member_first : List ℕ
member_first = name_code ∷ code kinds.Pass ∷ code kinds.Ellipsis ∷ text_code ∷ []

abbrev pub name_expr : NameAt → Expr
name_expr n = leaf n.at (forms.Name n.name)

abbrev pub member_of : NameAt → Tail → Stmt
member_of n t = begun_stmt (name_expr n) t

abbrev pub expression_of : Expr → Stmt
expression_of e = begun_stmt e tails.Alone

abbrev pub ellipsis_of : Pos → Stmt
ellipsis_of at = expression_of (leaf at (forms.Constant constants.Ellipsis))

unfoldable pub member_simple : Phrase Token Expr → Phrase Token Stmt
member_simple e =
    either class (name_code ∷ []) (sequence (token (name_of (name_code ∷ []))) (λ n. either class (code kinds.Equal ∷ []) (assigned e) (annotated e)) member_of)
    (either class (word_codes false) (token (word_of false))
    (either class (code kinds.Ellipsis ∷ []) (mapped (token (mark_of (code kinds.Ellipsis))) ellipsis_of) (mapped texts expression_of)))

-- a function, with decorators or without
unfoldable pub decorated_function : Phrase Token Expr → Phrase Token Expr → ℕ → Suites → Phrase Token Stmt
decorated_function e literal room suite =
    either class (code kinds.At ∷ []) (sequence (decorators literal) (λ ds. function e room (suite (Body true false)) ds) second) (function e room (suite (Body true false)) [])

abbrev pub function_first : List ℕ
function_first = code kinds.At ∷ code kinds.Def ∷ []

unfoldable pub member_statement : Phrase Token Expr → Phrase Token Expr → ℕ → Suites → Phrase Token (List Stmt)
member_statement e literal room suite = either class function_first (mapped (decorated_function e literal room suite) single) (line member_first (member_simple e))

-- ---- what stands behind a ":"

-- statements, indented on lines of their own, or simple ones on the same line
unfoldable pub indented : List ℕ → Phrase Token (List Stmt) → Phrase Token (List Stmt) → Phrase Token (List Stmt)
indented first statement simples =
    either class (code kinds.Newline ∷ [])
    (past (code kinds.Newline) (past (code kinds.Indent) (ended (mapped (sequence statement (λ s. many class first statement) cons) (flat_map (λ s. s))) (code kinds.Dedent)))) simples

abbrev pub suite_first : Suite → List ℕ
suite_first (Body returns loops) = code kinds.Newline ∷ simple_first returns loops
suite_first Members = code kinds.Newline ∷ member_first

unfoldable pub suite_over : Phrase Token Expr → Phrase Token Expr → ℕ → Suites → Suites
suite_over e literal room suite (Body returns loops) = indented (compound_first ++ simple_first returns loops) (body_statement e room suite returns loops) (line (simple_first returns loops) (simple e returns loops))
suite_over e literal room suite Members = indented (function_first ++ member_first) (member_statement e literal room suite) (line member_first (member_simple e))

-- with so much room for nestings in expressions, and for blocks
abbrev pub suites : ℕ → ℕ → Suites
suites nestings room = nest_shapes class suite_first (suite_over (expr nestings) (literal nestings)) room

-- ---- files

-- a function or a class
unfoldable pub definition : Phrase Token Expr → ℕ → Suites → List Decorator → Phrase Token Stmt
definition e room suite ds = either class (code kinds.Def ∷ []) (function e room (suite (Body true false)) ds) (class_stmt room (suite Members) ds)

unfoldable pub decorated : Phrase Token Expr → Phrase Token Expr → ℕ → Suites → Phrase Token Stmt
decorated e literal room suite = either class (code kinds.At ∷ []) (sequence (decorators literal) (λ ds. definition e room suite ds) second) (definition e room suite [])

abbrev pub definition_first : List ℕ
definition_first = code kinds.At ∷ code kinds.Def ∷ code kinds.Class ∷ []

abbrev pub import_first : List ℕ
import_first = code kinds.Import ∷ code kinds.From ∷ []

unfoldable pub file_simple : Phrase Token Expr → Phrase Token Stmt
file_simple e = either class (code kinds.Import ∷ []) import_stmt (either class (code kinds.From ∷ []) from_stmt (simple e false false))

abbrev pub file_simple_first : List ℕ
file_simple_first = import_first ++ simple_first false false

unfoldable pub file_statement : Phrase Token Expr → Phrase Token Expr → ℕ → Suites → Phrase Token (List Stmt)
file_statement e literal room suite =
    either class definition_first (mapped (decorated e literal room suite) single)
    (either class compound_first (mapped (compound e room suite false false) single) (line file_simple_first (file_simple e)))

abbrev pub file_first : List ℕ
file_first = code kinds.Newline ∷ definition_first ++ compound_first ++ file_simple_first

unfoldable pub file_item : Phrase Token Expr → Phrase Token Expr → ℕ → Suites → Phrase Token (List Stmt)
file_item e literal room suite = either class (code kinds.Newline ∷ []) (sequence (token (mark_of (code kinds.Newline))) (λ m. nothing []) second) (file_statement e literal room suite)

-- the statements of a file, line by line, with so much room for nestings in expressions, and as much for blocks
unfoldable pub file : ℕ → Phrase Token (List (List Stmt))
file room = many class file_first (file_item (expr room) (literal room) room (suites room room))

abbrev pub module_of : List (List Stmt) → Module
module_of lines = record { body = flat_map (λ line. line) lines }

-- tokens spell a module, however deep it nests
abbrev pub SpellsModule : List Token → Module → Type 0
SpellsModule ts m = (lines : List (List Stmt)) × Spelled file ts lines × (m ≡ module_of lines)
