-- The grammar of expressions, by what room is left for nestings. A production has the name that it has in the Reference's full
-- grammar (Language Reference, chapter 10); the subset is in chapter 6's words:
--   exprs: expr ("," expr)* [","]
--   expr: disjunction ["if" disjunction "else" expr]
--   disjunction: conjunction ("or" conjunction)*          conjunction: inversion ("and" inversion)*
--   inversion: "not" inversion | comparison               comparison: binary (comparator binary)*
--   binary: levels of operators over factors, the tightest "*", "@", "/", "//" and "%"
--   factor: ("+" | "-" | "~") factor | power              power: primary ["**" factor]
--   primary: atom step*
--   step: "." NAME | "[" exprs "]" | "(" [argument ("," argument)* [","]] ")"
--   atom: NAME | NUMBER | constant | string+ | "(" [exprs] ")" | "[" [exprs] "]" | "{" [pair ("," pair)* [","]] "}"
-- A nesting is opened by a bracket, a unary operator, "not", "**" and "else". What the subset leaves out isn't spelled: the name
-- `super` as an atom, and a call of what is no name and no attribute, or is named `__init__`.
use Rattle.std.specs.Prelude.{ℕ, zero, suc, Bool, true, false, cond, List, [], ◌∷◌, ◌++◌, Option, Some, None}
use Rattle.py_literals.specs.declared.place.Pos.{Pos}
use Rattle.phrases.specs.Phrases.{Phrase, token, opener, nothing, sequence, either, many}
use Rattle.phrases.specs.Series.{series}
use Rattle.py_lexer.specs.declared.token.Kind.TheVariants as kinds
use Rattle.py_lexer.specs.declared.token.Token.{Token}
use Rattle.py_ast.specs.Kinds.{class, code, mark_of, name_code, super_code, text_code, part_text_code}
use Rattle.py_ast.specs.Nested.{nest_shapes}
use Rattle.py_ast.specs.Tokens.{leaf_codes, leaf_of, name_codes, name_of, text_of, part_text_of, unary_codes, unary_operator_of, level_codes, operator_of, comparator_codes, comparator_of}
use Rattle.py_ast.specs.Trees.{leaf, given, optional_items, tuple_of, parenthesized_of, pair_of, strings_of, operand_of, binary_of, compared_of, comparison_of, joined_of, and_of, or_of, not_of, unary_of, power_of, conditional_of, step_of, postfix_of, open_step, callable_step, is_callee, bare_name, keyword_argument_of, argument_of, has_keyword}
use Rattle.py_ast.specs.declared.tree.Argument.{Argument}
use Rattle.py_ast.specs.declared.tree.Comparator.{Comparator}
use Rattle.py_ast.specs.declared.tree.Comparator.TheVariants as comparators
use Rattle.py_ast.specs.declared.tree.Compared.{Compared}
use Rattle.py_ast.specs.declared.tree.Expr.{Expr}
use Rattle.py_ast.specs.declared.tree.Form.TheVariants as forms
use Rattle.py_ast.specs.declared.tree.Joined.{Joined}
use Rattle.py_ast.specs.declared.tree.NameAt.{NameAt}
use Rattle.py_ast.specs.declared.tree.Operand.{Operand}
use Rattle.py_ast.specs.declared.tree.Pair.{Pair}
use Rattle.py_ast.specs.declared.tree.Part.{Part}
use Rattle.py_ast.specs.declared.tree.Part.TheVariants as parts
use Rattle.py_ast.specs.declared.tree.Piece.{Piece}
use Rattle.py_ast.specs.declared.tree.Piece.TheVariants as pieces
use Rattle.py_ast.specs.declared.tree.Step.{Step}
use Rattle.py_ast.specs.declared.tree.StepForm.TheVariants as steps

-- ---- what may begin a phrase

abbrev pub string_first : List ℕ
string_first = text_code ∷ code kinds.FStringStart ∷ []

abbrev pub atom_first : List ℕ
atom_first = leaf_codes ++ string_first ++ code kinds.LeftParen ∷ code kinds.LeftBracket ∷ code kinds.LeftBrace ∷ []

abbrev pub factor_first : List ℕ
factor_first = unary_codes ++ atom_first

abbrev pub expr_first : List ℕ
expr_first = code kinds.Not ∷ factor_first

abbrev pub comma_first : List ℕ
comma_first = code kinds.Comma ∷ []

-- ---- parts of productions

abbrev pub both : {A B : Type 0} → A → B → A × B
both a b = (a, b)

abbrev pub second : {A B : Type 0} → A → B → B
second a b = b

abbrev pub first_of : {A B : Type 0} → A → B → A
first_of a b = a

-- the same tokens, and another value of them
unfoldable pub mapped : {A B : Type 0} → Phrase Token A → (A → B) → Phrase Token B
mapped g f = sequence g (λ a. nothing a) (λ a b. f b)

-- a token of one class, and then a phrase
unfoldable pub past : {A : Type 0} → ℕ → Phrase Token A → Phrase Token A
past c g = sequence (token (mark_of c)) (λ m. g) second

-- a phrase, and then a token of one class
unfoldable pub ended : {A : Type 0} → Phrase Token A → ℕ → Phrase Token A
ended g c = sequence g (λ a. token (mark_of c)) first_of

-- a comma, and an item behind it if one begins there
unfoldable pub comma_item : {A : Type 0} → List ℕ → Phrase Token A → Phrase Token (Pos × Option A)
comma_item first g = sequence (token (mark_of (code kinds.Comma))) (λ m. either class first (mapped g Some) (nothing None)) both

-- a comma with no item behind it is the last
abbrev pub goes_past : {A S : Type 0} → (A → S) → Pos × Option A → Option S
goes_past next (at, None) = None
goes_past next (at, Some a) = Some (next a)

-- commas with items behind them, which are in states
unfoldable pub comma_items : {A S : Type 0} → (S → List ℕ) → (S → Phrase Token A) → (A → S) → S → Phrase Token (List (Pos × Option A))
comma_items first g next s = series class (λ t. comma_first) (λ t. comma_item (first t) (g t)) (λ t i. goes_past next i) s

-- the phrase or nothing, between two brackets of which the first opens a nesting
unfoldable pub bracketed : {A : Type 0} → ℕ → ℕ → ℕ → List ℕ → Phrase Token A → Phrase Token (Pos × Option A)
bracketed room left right first g =
    sequence (opener room (mark_of left)) (λ m. either class first (mapped (ended g right) Some) (sequence (token (mark_of right)) (λ c. nothing None) second)) both

-- ---- lists of expressions

-- exprs, as its first and what stands behind the commas
unfoldable pub items : Phrase Token Expr → Phrase Token (Expr × List (Pos × Option Expr))
items expr = sequence expr (λ e. comma_items (λ s. expr_first) (λ s. expr) (λ e. tt {0}) (tt {0})) both

unfoldable pub exprs : Phrase Token Expr → Phrase Token Expr
exprs expr = mapped (items expr) tuple_of

-- ---- atoms (6.2)

-- a field of a formatted string, and a text or a field
unfoldable pub field : ℕ → Phrase Token Expr → Phrase Token Part
field room expr = sequence (opener room (mark_of (code kinds.FieldOpen))) (λ m. mapped (ended expr (code kinds.FieldClose)) parts.Field) second

unfoldable pub part : ℕ → Phrase Token Expr → Phrase Token Part
part room expr = either class (part_text_code ∷ []) (token part_text_of) (field room expr)

abbrev pub part_first : List ℕ
part_first = part_text_code ∷ code kinds.FieldOpen ∷ []

abbrev pub formatted_of : Pos × List Part → Pos × Piece
formatted_of (at, ps) = (at, pieces.Formatted ps)

unfoldable pub formatted : ℕ → Phrase Token Expr → Phrase Token (Pos × Piece)
formatted room expr =
    mapped (ended (sequence (token (mark_of (code kinds.FStringStart))) (λ m. many class part_first (part room expr)) both) (code kinds.FStringEnd)) formatted_of

unfoldable pub piece : ℕ → Phrase Token Expr → Phrase Token (Pos × Piece)
piece room expr = either class (text_code ∷ []) (token text_of) (formatted room expr)

unfoldable pub strings : ℕ → Phrase Token Expr → Phrase Token Expr
strings room expr = sequence (piece room expr) (λ p. many class string_first (piece room expr)) strings_of

abbrev pub parenthesized_at : Pos × Option (Expr × List (Pos × Option Expr)) → Expr
parenthesized_at (at, is) = parenthesized_of at is

unfoldable pub parenthesized : ℕ → Phrase Token Expr → Phrase Token Expr
parenthesized room expr = mapped (bracketed room (code kinds.LeftParen) (code kinds.RightParen) expr_first (items expr)) parenthesized_at

abbrev pub list_at : Pos × Option (Expr × List (Pos × Option Expr)) → Expr
list_at (at, is) = leaf at (forms.List (optional_items is))

unfoldable pub list : ℕ → Phrase Token Expr → Phrase Token Expr
list room expr = mapped (bracketed room (code kinds.LeftBracket) (code kinds.RightBracket) expr_first (items expr)) list_at

unfoldable pub pair : Phrase Token Expr → Phrase Token Pair
pair expr = sequence expr (λ k. past (code kinds.Colon) expr) pair_of

unfoldable pub pairs : Phrase Token Expr → Phrase Token (Pair × List (Pos × Option Pair))
pairs expr = sequence (pair expr) (λ p. comma_items (λ s. expr_first) (λ s. pair expr) (λ p. tt {0}) (tt {0})) both

abbrev pub dictionary_at : Pos × Option (Pair × List (Pos × Option Pair)) → Expr
dictionary_at (at, is) = leaf at (forms.Dictionary (optional_items is))

unfoldable pub dictionary : ℕ → Phrase Token Expr → Phrase Token Expr
dictionary room expr = mapped (bracketed room (code kinds.LeftBrace) (code kinds.RightBrace) expr_first (pairs expr)) dictionary_at

unfoldable pub atom : ℕ → Phrase Token Expr → Phrase Token Expr
atom room expr =
    either class leaf_codes (token leaf_of)
    (either class string_first (strings room expr)
    (either class (code kinds.LeftParen ∷ []) (parenthesized room expr)
    (either class (code kinds.LeftBracket ∷ []) (list room expr) (dictionary room expr))))

-- ---- primaries (6.3)

unfoldable pub keyword_argument : List ℕ → Phrase Token Expr → Phrase Token Argument
keyword_argument codes expr = sequence (token (name_of codes)) (λ n. past (code kinds.Equal) expr) keyword_argument_of

abbrev pub keyword_value : NameAt → Expr → Option (NameAt × Expr)
keyword_value n e = Some (n, e)

-- behind a name alone "=" and a value may follow
unfoldable pub after_argument : Phrase Token Expr → Option NameAt → Phrase Token (Option (NameAt × Expr))
after_argument expr None = nothing None
after_argument expr (Some n) = either class (code kinds.Equal ∷ []) (mapped (past (code kinds.Equal) expr) (keyword_value n)) (nothing None)

-- an argument, which must have a keyword behind one that has
unfoldable pub argument : Phrase Token Expr → Bool → Phrase Token Argument
argument expr false = either class (super_code ∷ []) (keyword_argument (super_code ∷ []) expr) (sequence expr (λ e. after_argument expr (bare_name e)) argument_of)
argument expr true = keyword_argument name_codes expr

abbrev pub argument_first : Bool → List ℕ
argument_first false = super_code ∷ expr_first
argument_first true = name_codes

unfoldable pub arguments : Phrase Token Expr → Phrase Token (Argument × List (Pos × Option Argument))
arguments expr = sequence (argument expr false) (λ a. comma_items argument_first (argument expr) has_keyword (has_keyword a)) both

abbrev pub call_at : Pos × Option (Argument × List (Pos × Option Argument)) → Step
call_at (at, is) = step_of at (steps.Call (optional_items is))

unfoldable pub call : ℕ → Phrase Token Expr → Phrase Token Step
call room expr = mapped (bracketed room (code kinds.LeftParen) (code kinds.RightParen) (argument_first false) (arguments expr)) call_at

abbrev pub subscript_at : Pos → Expr → Step
subscript_at at e = step_of at (steps.Subscript e)

unfoldable pub subscript : ℕ → Phrase Token Expr → Phrase Token Step
subscript room expr = sequence (opener room (mark_of (code kinds.LeftBracket))) (λ m. ended (exprs expr) (code kinds.RightBracket)) subscript_at

abbrev pub attribute_of : NameAt → Step
attribute_of n = step_of n.at (steps.Attribute n.name)

unfoldable pub attribute : Phrase Token Step
attribute = mapped (past (code kinds.Dot) (token (name_of name_codes))) attribute_of

-- what may be done to a primary, and whether it may be called
unfoldable pub step : ℕ → Phrase Token Expr → Bool → Phrase Token Step
step room expr false = either class (code kinds.Dot ∷ []) attribute (subscript room expr)
step room expr true = either class (code kinds.Dot ∷ []) attribute (either class (code kinds.LeftBracket ∷ []) (subscript room expr) (call room expr))

abbrev pub step_first : Bool → List ℕ
step_first false = code kinds.Dot ∷ code kinds.LeftBracket ∷ []
step_first true = code kinds.Dot ∷ code kinds.LeftBracket ∷ code kinds.LeftParen ∷ []

-- whether what is made by a step may be called
abbrev pub step_next : Bool → Step → Option Bool
step_next callable s = Some (callable_step (open_step s))

unfoldable pub chain : ℕ → Phrase Token Expr → Bool → Phrase Token (List Step)
chain room expr callable = series class step_first (step room expr) step_next callable

unfoldable pub primary : ℕ → Phrase Token Expr → Phrase Token Expr
primary room expr = sequence (atom room expr) (λ e. chain room expr (is_callee e)) postfix_of

-- ---- operators (6.5 to 6.11)

abbrev pub exponent_of : Pos → Expr → Option (Pos × Expr)
exponent_of at e = Some (at, e)

unfoldable pub exponent : ℕ → Phrase Token Expr → Phrase Token (Option (Pos × Expr))
exponent room factor = either class (code kinds.DoubleStar ∷ []) (sequence (opener room (mark_of (code kinds.DoubleStar))) (λ m. factor) exponent_of) (nothing None)

unfoldable pub power : ℕ → Phrase Token Expr → Phrase Token Expr → Phrase Token Expr
power room expr factor = sequence (primary room expr) (λ e. exponent room factor) power_of

-- a factor, in which an expression and a factor may nest
unfoldable pub factor_over : ℕ → Phrase Token Expr → Phrase Token Expr → Phrase Token Expr
factor_over room expr factor = either class unary_codes (sequence (opener room unary_operator_of) (λ o. factor) unary_of) (power room expr factor)

unfoldable pub operand : ℕ → Phrase Token Expr → Phrase Token Operand
operand l tighter = sequence (token (operator_of l)) (λ o. tighter) operand_of

unfoldable pub level : ℕ → Phrase Token Expr → Phrase Token Expr
level l tighter = sequence tighter (λ e. many class (level_codes l) (operand l tighter)) binary_of

-- so many levels over a factor
unfoldable pub binary : ℕ → Phrase Token Expr → Phrase Token Expr
binary zero factor = factor
binary (suc l) factor = level l (binary l factor)

abbrev pub all_levels : ℕ
all_levels = 6

abbrev pub comparison_first : List ℕ
comparison_first = code kinds.Not ∷ code kinds.Is ∷ comparator_codes

abbrev pub comparator_at : Pos → Comparator → Comparator × Pos
comparator_at at c = (c, at)

abbrev pub not_in_at : Pos → Pos → Comparator × Pos
not_in_at at m = (comparators.NotIn, at)

unfoldable pub after_is : Phrase Token Comparator
after_is = either class (code kinds.Not ∷ []) (past (code kinds.Not) (nothing comparators.IsNot)) (nothing comparators.Is)

unfoldable pub comparator : Phrase Token (Comparator × Pos)
comparator =
    either class (code kinds.Not ∷ []) (sequence (token (mark_of (code kinds.Not))) (λ m. token (mark_of (code kinds.In))) not_in_at)
    (either class (code kinds.Is ∷ []) (sequence (token (mark_of (code kinds.Is))) (λ m. after_is) comparator_at) (token comparator_of))

unfoldable pub compared : Phrase Token Expr → Phrase Token Compared
compared binary = sequence comparator (λ c. binary) compared_of

unfoldable pub comparison : Phrase Token Expr → Phrase Token Expr
comparison binary = sequence binary (λ e. many class comparison_first (compared binary)) comparison_of

-- an inversion, in which another may nest
unfoldable pub inversion_over : ℕ → Phrase Token Expr → Phrase Token Expr → Phrase Token Expr
inversion_over room inversion comparison = either class (code kinds.Not ∷ []) (sequence (opener room (mark_of (code kinds.Not))) (λ m. inversion) not_of) comparison

-- a word and then an operand
unfoldable pub joined : ℕ → Phrase Token Expr → Phrase Token Joined
joined word tighter = sequence (token (mark_of word)) (λ m. tighter) joined_of

unfoldable pub conjunction : Phrase Token Expr → Phrase Token Expr
conjunction inversion = sequence inversion (λ e. many class (code kinds.And ∷ []) (joined (code kinds.And) inversion)) and_of

unfoldable pub disjunction : Phrase Token Expr → Phrase Token Expr
disjunction conjunction = sequence conjunction (λ e. many class (code kinds.Or ∷ []) (joined (code kinds.Or) conjunction)) or_of

-- ---- conditionals (6.13)

abbrev pub choice_of : Pos → Expr × Expr → Option (Pos × Expr × Expr)
choice_of at (condition, otherwise) = Some (at, condition, otherwise)

unfoldable pub otherwise : ℕ → Phrase Token Expr → Phrase Token Expr
otherwise room expr = sequence (opener room (mark_of (code kinds.Else))) (λ m. expr) second

unfoldable pub choice : ℕ → Phrase Token Expr → Phrase Token Expr → Phrase Token (Option (Pos × Expr × Expr))
choice room disjunction expr =
    either class (code kinds.If ∷ []) (sequence (token (mark_of (code kinds.If))) (λ m. sequence disjunction (λ c. otherwise room expr) both) choice_of) (nothing None)

unfoldable pub conditional : ℕ → Phrase Token Expr → Phrase Token Expr → Phrase Token Expr
conditional room disjunction expr = sequence disjunction (λ e. choice room disjunction expr) conditional_of

-- ---- nestings

-- what may stand in a nesting: an expression, an inversion behind "not", or a factor behind a unary operator or "**"
pub data Shape : Type 0 where
  Whole : Shape
  Inversion : Shape
  Factor : Shape

abbrev pub shape_first : Shape → List ℕ
shape_first Whole = expr_first
shape_first Inversion = expr_first
shape_first Factor = factor_first

-- a phrase of a room, over those that stand in its nestings: an expression, an inversion and a factor
unfoldable pub inversion_in : ℕ → (whole inversion factor : Phrase Token Expr) → Phrase Token Expr
inversion_in room whole inversion factor = inversion_over room inversion (comparison (binary all_levels (factor_over room whole factor)))

unfoldable pub expr_in : ℕ → (whole inversion factor : Phrase Token Expr) → Phrase Token Expr
expr_in room whole inversion factor = conditional room (disjunction (conjunction (inversion_in room whole inversion factor))) whole

unfoldable pub shape_over : ℕ → (Shape → Phrase Token Expr) → Shape → Phrase Token Expr
shape_over room inner Whole = expr_in room (inner Whole) (inner Inversion) (inner Factor)
shape_over room inner Inversion = inversion_in room (inner Whole) (inner Inversion) (inner Factor)
shape_over room inner Factor = factor_over room (inner Whole) (inner Factor)

-- what stands in a nesting
abbrev pub nested : ℕ → Shape → Phrase Token Expr
nested room = nest_shapes class shape_first shape_over room

-- with room for so many nestings, one in another
unfoldable pub shaped : Shape → ℕ → Phrase Token Expr
shaped s room = shape_over room (nested room) s

-- an expression
abbrev pub expr : ℕ → Phrase Token Expr
expr = shaped Whole
