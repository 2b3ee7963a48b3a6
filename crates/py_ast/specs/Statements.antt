-- The grammar of statements and files (Language Reference, chapters 7 to 9), by what room is left for blocks, one in another. An
-- expression in a statement is a phrase e, with room for nestings of its own. A block is opened by the ":" before it.
--   file: (NEWLINE | statement)*
--   statement: line | if | while | for | def | class           line: simple (";" simple)* [";"] NEWLINE
--   block: ":" (line | NEWLINE INDENT statement+ DEDENT)
-- What a statement begins with is read as expressions, and their shape says what may follow: "=" behind a name, an attribute, a
-- subscript or names, an operator with "=" behind the first three, and ":" behind the first two.
use Rattle.std.specs.Prelude.{ℕ, Bool, true, false, cond, ◌&&◌, not, List, [], ◌∷◌, ◌++◌, Option, Some, None}
use Rattle.std.specs.List.{flat_map}
use Rattle.py_literals.specs.declared.place.Pos.{Pos}
use Rattle.phrases.specs.Phrases.{Phrase, token, opener, nothing, sequence, either, many}
use Rattle.phrases.specs.Series.{series}
use Rattle.py_lexer.specs.declared.token.Kind.{Kind}
use Rattle.py_lexer.specs.declared.token.Kind.TheVariants as kinds
use Rattle.py_lexer.specs.declared.token.Token.{Token}
use Rattle.py_ast.specs.Kinds.{class, code, pick, mark_of, placed, name_code, text_code}
use Rattle.py_ast.specs.Nested.{nest_shapes}
use Rattle.py_ast.specs.Tokens.{leaf_of, name_codes, name_of}
use Rattle.py_ast.specs.Trees.{leaf, given, all_given, optional_items, bare_name, OpenForm, OpenStep, open_form, open_step}
use Rattle.py_ast.specs.Grammar.{expr_first, comma_first, both, second, mapped, past, ended, comma_items, goes_past, exprs, expr}
use Rattle.py_ast.specs.Literals.{literal_argument_first, literal_arguments, texts, literal}
use Rattle.py_ast.specs.declared.tree.Argument.{Argument}
use Rattle.py_ast.specs.declared.tree.Expr.{Expr, out-Expr}
use Rattle.py_ast.specs.declared.tree.Form.TheOpen.{Form-F as open_forms, StepForm-F as open_steps}
use Rattle.py_ast.specs.declared.tree.Form.TheVariants as forms
use Rattle.py_ast.specs.declared.tree.Constant.TheVariants as constants
use Rattle.py_ast.specs.declared.tree.NameAt.{NameAt}
use Rattle.py_ast.specs.declared.tree.Step.{Step}
use Rattle.py_ast.specs.declared.statement.AugmentOperator.{AugmentOperator}
use Rattle.py_ast.specs.declared.statement.AugmentOperator.TheVariants as augments
use Rattle.py_ast.specs.declared.statement.Branch.{Branch, out-Branch, roll-Branch}
use Rattle.py_ast.specs.declared.statement.Class.{Class, roll-Class}
use Rattle.py_ast.specs.declared.statement.Decorator.{Decorator}
use Rattle.py_ast.specs.declared.statement.Dotted.{Dotted}
use Rattle.py_ast.specs.declared.statement.Function.{Function, roll-Function}
use Rattle.py_ast.specs.declared.statement.Imported.{Imported}
use Rattle.py_ast.specs.declared.statement.ImportedName.{ImportedName}
use Rattle.py_ast.specs.declared.statement.Module.{Module}
use Rattle.py_ast.specs.declared.statement.Parameter.{Parameter}
use Rattle.py_ast.specs.declared.statement.Stmt.{Stmt, roll-Stmt}
use Rattle.py_ast.specs.declared.statement.StmtForm.{StmtForm}
use Rattle.py_ast.specs.declared.statement.StmtForm.TheVariants as stmts
use Rattle.py_ast.specs.declared.statement.Target.{Target}
use Rattle.py_ast.specs.declared.statement.Target.TheVariants as targets
use Rattle.py_ast.specs.declared.statement.Tail.{Tail}
use Rattle.py_ast.specs.declared.statement.Tail.TheVariants as tails

-- ---- parts

-- g, which begins with a token of these, or nothing
unfoldable pub optional : {A : Type 0} → List ℕ → Phrase Token A → Phrase Token (Option A)
optional first g = either class first (mapped g Some) (nothing None)

abbrev pub cons : {A : Type 0} → A → List A → List A
cons a as_many = a ∷ as_many

-- items with a comma between two of them
unfoldable pub with_commas : {A : Type 0} → Phrase Token A → Phrase Token (List A)
with_commas g = sequence g (λ a. many class comma_first (past (code kinds.Comma) g)) cons

abbrev pub stmt_at : Pos → StmtForm → Stmt
stmt_at at f = roll-Stmt (record { node = at; anchor = at; form = f })

-- a word and then what makes the statement
abbrev pub word_stmt : {A : Type 0} → (A → StmtForm) → Pos → A → Stmt
word_stmt f at a = stmt_at at (f a)

unfoldable pub name : Phrase Token NameAt
name = token (name_of name_codes)

-- ---- imports (7.11)

abbrev pub dotted_of : NameAt → List NameAt → Dotted
dotted_of n ns = record { first = n; others = ns }

unfoldable pub dotted : Phrase Token Dotted
dotted = sequence name (λ n. many class (code kinds.Dot ∷ []) (past (code kinds.Dot) name)) dotted_of

unfoldable pub alias : Phrase Token (Option NameAt)
alias = optional (code kinds.As ∷ []) (past (code kinds.As) name)

abbrev pub imported_of : Dotted → Option NameAt → Imported
imported_of m a = record { name = m; alias = a }

abbrev pub imported_name_of : NameAt → Option NameAt → ImportedName
imported_name_of n a = record { name = n; alias = a }

unfoldable pub imported_name : Phrase Token ImportedName
imported_name = sequence name (λ n. alias) imported_name_of

unfoldable pub import_stmt : Phrase Token Stmt
import_stmt = sequence (token (mark_of (code kinds.Import))) (λ m. with_commas (sequence dotted (λ d. alias) imported_of)) (word_stmt stmts.Import)

unfoldable pub imported_names : Phrase Token (List ImportedName)
imported_names =
    either class name_codes (with_commas imported_name)
    (past (code kinds.LeftParen) (ended (mapped (sequence imported_name (λ n. comma_items (λ s. name_codes) (λ s. imported_name) (λ n. tt {0}) (tt {0})) both) all_given) (code kinds.RightParen)))

abbrev pub import_from : Dotted × List ImportedName → StmtForm
import_from (m, ns) = stmts.ImportFrom m ns

unfoldable pub from_stmt : Phrase Token Stmt
from_stmt = sequence (token (mark_of (code kinds.From))) (λ m. sequence dotted (λ d. past (code kinds.Import) imported_names) both) (word_stmt import_from)

-- ---- statements that begin with expressions (7.1, 7.2)

abbrev pub is_bare_form : OpenForm → Bool
is_bare_form (open_forms.Name n) = true
is_bare_form _ = false

-- a name without parentheses round it
abbrev pub is_bare : Expr → Bool
is_bare e = not (out-Expr e).enclosed && is_bare_form (open_form e)

abbrev pub are_names : List Expr → Bool
are_names [] = true
are_names (e ∷ es) = is_bare e && are_names es

-- two names or more
abbrev pub tuple_target : List Expr → Target
tuple_target [] = targets.Nothing
tuple_target (e ∷ []) = targets.Nothing
tuple_target (e ∷ f ∷ es) = cond (are_names (e ∷ f ∷ es)) targets.Names targets.Nothing

-- What expressions may be assigned to: names, of which there are several; a subscript, which may be augmented too; a name or an
-- attribute, which may be annotated too.
abbrev pub step_target : OpenStep → Target
step_target (open_steps.Attribute n) = targets.Variable
step_target (open_steps.Subscript e) = targets.Place
step_target (open_steps.Call arguments) = targets.Nothing

abbrev pub chain_target : Target → List Step → Target
chain_target t [] = t
chain_target t (s ∷ ss) = chain_target (step_target (open_step s)) ss

abbrev pub form_target : OpenForm → Target
form_target (open_forms.Name n) = targets.Variable
form_target (open_forms.Postfix e ss) = chain_target targets.Nothing ss
form_target (open_forms.Tuple es) = tuple_target es
form_target _ = targets.Nothing

-- parentheses round the whole make it none
abbrev pub target_of : Expr → Target
target_of e = cond (out-Expr e).enclosed targets.Nothing (form_target (open_form e))

abbrev pub augment_codes : List ℕ
augment_codes =
    code kinds.PlusEqual ∷ code kinds.MinusEqual ∷ code kinds.StarEqual ∷ code kinds.SlashEqual ∷ code kinds.DoubleSlashEqual ∷ code kinds.PercentEqual ∷ code kinds.AtEqual
    ∷ code kinds.AmpersandEqual ∷ code kinds.BarEqual ∷ code kinds.CaretEqual ∷ code kinds.RightShiftEqual ∷ code kinds.LeftShiftEqual ∷ code kinds.DoubleStarEqual ∷ []

abbrev pub augment_in : Kind → Option AugmentOperator
augment_in kinds.PlusEqual = Some augments.Add
augment_in kinds.MinusEqual = Some augments.Subtract
augment_in kinds.StarEqual = Some augments.Multiply
augment_in kinds.SlashEqual = Some augments.Divide
augment_in kinds.DoubleSlashEqual = Some augments.FloorDivide
augment_in kinds.PercentEqual = Some augments.Remainder
augment_in kinds.AtEqual = Some augments.MatrixMultiply
augment_in kinds.AmpersandEqual = Some augments.BitAnd
augment_in kinds.BarEqual = Some augments.BitOr
augment_in kinds.CaretEqual = Some augments.BitXor
augment_in kinds.RightShiftEqual = Some augments.RightShift
augment_in kinds.LeftShiftEqual = Some augments.LeftShift
augment_in kinds.DoubleStarEqual = Some augments.Power
augment_in _ = None

abbrev pub augment_of : Token → Option (AugmentOperator × Pos)
augment_of = pick augment_codes (λ t. placed (augment_in t.kind) t.at)

abbrev pub annotated_of : Pos → Expr × Option Expr → Tail
annotated_of at (a, v) = tails.Annotated at a v

abbrev pub augmented_of : AugmentOperator × Pos → Expr → Tail
augmented_of (o, at) v = tails.Augmented o at v

unfoldable pub assigned : Phrase Token Expr → Phrase Token Tail
assigned e = sequence (token (mark_of (code kinds.Equal))) (λ m. exprs e) tails.Assigned

unfoldable pub annotated : Phrase Token Expr → Phrase Token Tail
annotated e = sequence (token (mark_of (code kinds.Colon))) (λ m. sequence e (λ a. optional (code kinds.Equal ∷ []) (past (code kinds.Equal) (exprs e))) both) annotated_of

unfoldable pub augmented : Phrase Token Expr → Phrase Token Tail
augmented e = sequence (token augment_of) (λ o. exprs e) augmented_of

unfoldable pub tail : Phrase Token Expr → Target → Phrase Token Tail
tail e targets.Nothing = nothing tails.Alone
tail e targets.Names = either class (code kinds.Equal ∷ []) (assigned e) (nothing tails.Alone)
tail e targets.Place = either class (code kinds.Equal ∷ []) (assigned e) (either class augment_codes (augmented e) (nothing tails.Alone))
tail e targets.Variable =
    either class (code kinds.Equal ∷ []) (assigned e) (either class augment_codes (augmented e) (either class (code kinds.Colon ∷ []) (annotated e) (nothing tails.Alone)))

-- the anchor of a write: of several names it is the first
abbrev pub first_anchor : Pos → List Expr → Pos
first_anchor at [] = at
first_anchor at (e ∷ es) = (out-Expr e).anchor

abbrev pub form_anchor : Pos → OpenForm → Pos
form_anchor at (open_forms.Tuple es) = first_anchor at es
form_anchor at _ = at

abbrev pub target_anchor : Expr → Pos
target_anchor e = form_anchor (out-Expr e).anchor (open_form e)

abbrev pub write_at : Pos → Expr → StmtForm → Stmt
write_at at e f = roll-Stmt (record { node = at; anchor = target_anchor e; form = f })

abbrev pub begun_stmt : Expr → Tail → Stmt
begun_stmt e tails.Alone = roll-Stmt (record { node = (out-Expr e).node; anchor = (out-Expr e).anchor; form = stmts.Expression e })
begun_stmt e (tails.Assigned at v) = write_at at e (stmts.Assign e v)
begun_stmt e (tails.Annotated at a v) = write_at at e (stmts.Annotate e a v)
begun_stmt e (tails.Augmented o at v) = write_at at e (stmts.Augment e o v)

unfoldable pub begun : Phrase Token Expr → Phrase Token Stmt
begun e = sequence (exprs e) (λ t. tail e (target_of t)) begun_stmt

-- ---- statements of a word (7.3 to 7.10)

-- `pass`, and in a loop `break` and `continue`
abbrev pub word_codes : Bool → List ℕ
word_codes false = code kinds.Pass ∷ []
word_codes true = code kinds.Pass ∷ code kinds.Break ∷ code kinds.Continue ∷ []

abbrev pub word_in : Kind → Option StmtForm
word_in kinds.Pass = Some stmts.Pass
word_in kinds.Break = Some stmts.Break
word_in kinds.Continue = Some stmts.Continue
word_in _ = None

abbrev pub word_at : Option StmtForm → Pos → Option Stmt
word_at None at = None
word_at (Some f) at = Some (stmt_at at f)

abbrev pub word_of : Bool → Token → Option Stmt
word_of loops = pick (word_codes loops) (λ t. word_at (word_in t.kind) t.at)

abbrev pub assert_form : Expr × Option Expr → StmtForm
assert_form (c, m) = stmts.Assert c m

unfoldable pub assert_stmt : Phrase Token Expr → Phrase Token Stmt
assert_stmt e = sequence (token (mark_of (code kinds.Assert))) (λ m. sequence e (λ c. optional comma_first (past (code kinds.Comma) e)) both) (word_stmt assert_form)

unfoldable pub return_stmt : Phrase Token Expr → Phrase Token Stmt
return_stmt e = sequence (token (mark_of (code kinds.Return))) (λ m. optional expr_first (exprs e)) (word_stmt stmts.Return)

unfoldable pub assert_or_return : Phrase Token Expr → Bool → Phrase Token Stmt
assert_or_return e false = assert_stmt e
assert_or_return e true = either class (code kinds.Assert ∷ []) (assert_stmt e) (return_stmt e)

-- a simple statement, in a function or not, and in a loop or not
unfoldable pub simple : Phrase Token Expr → (returns loops : Bool) → Phrase Token Stmt
simple e returns loops = either class expr_first (begun e) (either class (word_codes loops) (token (word_of loops)) (assert_or_return e returns))

abbrev pub return_first : Bool → List ℕ
return_first false = code kinds.Assert ∷ []
return_first true = code kinds.Assert ∷ code kinds.Return ∷ []

abbrev pub simple_first : (returns loops : Bool) → List ℕ
simple_first returns loops = expr_first ++ word_codes loops ++ return_first returns

-- ---- lines

-- ";", and a statement behind it if one begins there
unfoldable pub further : List ℕ → Phrase Token Stmt → Phrase Token (Pos × Option Stmt)
further first g = sequence (token (mark_of (code kinds.Semicolon))) (λ m. optional first g) both

unfoldable pub line : List ℕ → Phrase Token Stmt → Phrase Token (List Stmt)
line first g =
    mapped (ended (sequence g (λ s. series class (λ t. code kinds.Semicolon ∷ []) (λ t. further first g) (λ t i. goes_past (λ s. tt {0}) i) (tt {0})) both) (code kinds.Newline)) all_given

-- ---- blocks, over what may stand behind their ":"

unfoldable pub block : ℕ → Phrase Token (List Stmt) → Phrase Token (List Stmt)
block room suite = sequence (opener room (mark_of (code kinds.Colon))) (λ m. suite) second

-- ---- compound statements (8.1 to 8.3)

abbrev pub branch_of : Pos → Expr × List Stmt → Branch
branch_of at (c, b) = roll-Branch (record { at = at; condition = c; body = b })

-- a word, a condition and a block
unfoldable pub branch : ℕ → Phrase Token Expr → ℕ → Phrase Token (List Stmt) → Phrase Token Branch
branch word e room suite = sequence (token (mark_of word)) (λ m. sequence e (λ c. block room suite) both) branch_of

unfoldable pub else_block : ℕ → Phrase Token (List Stmt) → Phrase Token (List Stmt)
else_block room suite = either class (code kinds.Else ∷ []) (past (code kinds.Else) (block room suite)) (nothing [])

unfoldable pub branches : Phrase Token Expr → ℕ → Phrase Token (List Stmt) → Phrase Token (Branch × List Branch)
branches e room suite = sequence (branch (code kinds.If) e room suite) (λ b. many class (code kinds.Elif ∷ []) (branch (code kinds.Elif) e room suite)) both

abbrev pub if_of : Branch × List Branch → List Stmt → Stmt
if_of (b, bs) o = stmt_at (out-Branch b).at (stmts.If b bs o)

unfoldable pub if_stmt : Phrase Token Expr → ℕ → Phrase Token (List Stmt) → Phrase Token Stmt
if_stmt e room suite = sequence (branches e room suite) (λ b. else_block room suite) if_of

abbrev pub while_form : Expr × List Stmt → StmtForm
while_form (c, b) = stmts.While c b

unfoldable pub while_stmt : Phrase Token Expr → ℕ → Phrase Token (List Stmt) → Phrase Token Stmt
while_stmt e room suite = sequence (token (mark_of (code kinds.While))) (λ m. sequence e (λ c. block room suite) both) (word_stmt while_form)

-- a comma and a name, and more of them
unfoldable pub further_names : Phrase Token (List NameAt)
further_names = mapped (sequence (past (code kinds.Comma) name) (λ n. comma_items (λ s. name_codes) (λ s. name) (λ n. tt {0}) (tt {0})) both) all_given

unfoldable pub loop_names : Phrase Token (List NameAt)
loop_names =
    either class name_codes (sequence name (λ n. either class comma_first further_names (nothing [])) cons)
    (past (code kinds.LeftParen) (ended (sequence name (λ n. further_names) cons) (code kinds.RightParen)))

abbrev pub names_anchor : Pos → List NameAt → Pos
names_anchor at [] = at
names_anchor at (n ∷ ns) = n.at

abbrev pub for_of : Pos → List NameAt × (Expr × List Stmt) → Stmt
for_of at (ns, (e, b)) = roll-Stmt (record { node = at; anchor = names_anchor at ns; form = stmts.For ns e b })

unfoldable pub for_stmt : Phrase Token Expr → ℕ → Phrase Token (List Stmt) → Phrase Token Stmt
for_stmt e room suite = sequence (token (mark_of (code kinds.For))) (λ m. sequence loop_names (λ ns. past (code kinds.In) (sequence (exprs e) (λ i. block room suite) both)) both) for_of

-- ---- definitions (8.7, 8.8)

abbrev pub parameter_of : NameAt × Option Expr → Option Expr → Parameter
parameter_of (n, a) d = record { name = n; annotation = a; default = d }

-- the value of a parameter that is left out; behind one that has one each has
unfoldable pub default : Phrase Token Expr → Bool → Phrase Token (Option Expr)
default e false = optional (code kinds.Equal ∷ []) (past (code kinds.Equal) e)
default e true = mapped (past (code kinds.Equal) e) Some

unfoldable pub parameter : Phrase Token Expr → Bool → Phrase Token Parameter
parameter e defaults = sequence (sequence name (λ n. optional (code kinds.Colon ∷ []) (past (code kinds.Colon) e)) both) (λ n. default e defaults) parameter_of

abbrev pub has_default : Parameter → Bool
has_default p = elim p.default [ None ↦ false | Some d ↦ true ]

unfoldable pub parameters : Phrase Token Expr → Phrase Token (List Parameter)
parameters e = mapped (sequence (parameter e false) (λ p. comma_items (λ s. name_codes) (parameter e) has_default (has_default p)) both) all_given

-- g between parentheses that open no nesting, or nothing between them
unfoldable pub in_parentheses : {A : Type 0} → List ℕ → Phrase Token A → Phrase Token (Option A)
in_parentheses first g =
    past (code kinds.LeftParen) (either class first (mapped (ended g (code kinds.RightParen)) Some) (sequence (token (mark_of (code kinds.RightParen))) (λ m. nothing None) second))

abbrev pub all_of : {A : Type 0} → Option (List A) → List A
all_of None = []
all_of (Some ps) = ps

unfoldable pub signature : Phrase Token Expr → Phrase Token (List Parameter × Option Expr)
signature e = sequence (mapped (in_parentheses name_codes (parameters e)) all_of) (λ ps. optional (code kinds.Arrow ∷ []) (past (code kinds.Arrow) e)) both

abbrev pub function_of : List Decorator → NameAt → (List Parameter × Option Expr) × List Stmt → StmtForm
function_of ds n ((ps, r), b) = stmts.Function (roll-Function (record { decorators = ds; name = n; parameters = ps; returns = r; body = b }))

abbrev pub function_form : List Decorator → NameAt × ((List Parameter × Option Expr) × List Stmt) → StmtForm
function_form ds (n, p) = function_of ds n p

unfoldable pub function : Phrase Token Expr → ℕ → Phrase Token (List Stmt) → List Decorator → Phrase Token Stmt
function e room suite ds =
    sequence (token (mark_of (code kinds.Def))) (λ m. sequence name (λ n. sequence (signature e) (λ s. block room suite) both) both) (word_stmt (function_form ds))

-- a base, where parentheses hold one
unfoldable pub base : Phrase Token (Option Dotted)
base = either class (code kinds.LeftParen ∷ []) (in_parentheses name_codes dotted) (nothing None)

abbrev pub class_form : List Decorator → (NameAt × Option Dotted) × List Stmt → StmtForm
class_form ds ((n, b), ss) = stmts.Class (roll-Class (record { decorators = ds; name = n; base = b; body = ss }))

unfoldable pub class_stmt : ℕ → Phrase Token (List Stmt) → List Decorator → Phrase Token Stmt
class_stmt room suite ds = sequence (token (mark_of (code kinds.Class))) (λ m. sequence (sequence name (λ n. base) both) (λ n. block room suite) both) (word_stmt (class_form ds))
