-- The grammar of a decorator's literal arguments: numbers, strings that aren't formatted, False, None, True, "...", and displays
-- of them, also in parentheses. A bracket opens a nesting.
use Rattle.std.specs.Prelude.{ℕ, Bool, true, false, List, [], ◌∷◌, ◌++◌, Option, None}
use Rattle.py_literals.specs.declared.place.Pos.{Pos}
use Rattle.phrases.specs.Phrases.{Phrase, token, sequence, either, many}
use Rattle.py_lexer.specs.declared.token.Kind.TheVariants as kinds
use Rattle.py_lexer.specs.declared.token.Token.{Token}
use Rattle.py_ast.specs.Kinds.{class, code, pick, name_code, super_code, number_code, text_code}
use Rattle.py_ast.specs.Nested.{nest_shapes}
use Rattle.py_ast.specs.Tokens.{leaf_form, leaf_at, name_codes, name_of, text_of}
use Rattle.py_ast.specs.Trees.{pair_of, strings_of, keyword_argument_of, argument_of, has_keyword}
use Rattle.py_ast.specs.Grammar.{both, mapped, past, comma_items, bracketed, parenthesized_at, list_at, dictionary_at}
use Rattle.py_ast.specs.declared.tree.Argument.{Argument}
use Rattle.py_ast.specs.declared.tree.Expr.{Expr}
use Rattle.py_ast.specs.declared.tree.Pair.{Pair}

abbrev pub literal_codes : List ℕ
literal_codes = number_code ∷ code kinds.False ∷ code kinds.None ∷ code kinds.True ∷ code kinds.Ellipsis ∷ []

abbrev pub literal_of : Token → Option Expr
literal_of = pick literal_codes (λ t. leaf_at (leaf_form t.kind t.value) t.at)

abbrev pub literal_first : List ℕ
literal_first = literal_codes ++ text_code ∷ code kinds.LeftParen ∷ code kinds.LeftBracket ∷ code kinds.LeftBrace ∷ []

-- strings in a row, of which none is formatted
unfoldable pub texts : Phrase Token Expr
texts = sequence (token text_of) (λ p. many class (text_code ∷ []) (token text_of)) strings_of

unfoldable pub literals : Phrase Token Expr → Phrase Token (Expr × List (Pos × Option Expr))
literals literal = sequence literal (λ e. comma_items (λ s. literal_first) (λ s. literal) (λ e. tt {0}) (tt {0})) both

unfoldable pub literal_pair : Phrase Token Expr → Phrase Token Pair
literal_pair literal = sequence literal (λ k. past (code kinds.Colon) literal) pair_of

unfoldable pub literal_pairs : Phrase Token Expr → Phrase Token (Pair × List (Pos × Option Pair))
literal_pairs literal = sequence (literal_pair literal) (λ p. comma_items (λ s. literal_first) (λ s. literal_pair literal) (λ p. tt {0}) (tt {0})) both

unfoldable pub literal_over : ℕ → Phrase Token Expr → Phrase Token Expr
literal_over room literal =
    either class literal_codes (token literal_of)
    (either class (text_code ∷ []) texts
    (either class (code kinds.LeftParen ∷ []) (mapped (bracketed room (code kinds.LeftParen) (code kinds.RightParen) literal_first (literals literal)) parenthesized_at)
    (either class (code kinds.LeftBracket ∷ []) (mapped (bracketed room (code kinds.LeftBracket) (code kinds.RightBracket) literal_first (literals literal)) list_at)
    (mapped (bracketed room (code kinds.LeftBrace) (code kinds.RightBrace) literal_first (literal_pairs literal)) dictionary_at))))

-- a literal, with the shapes of what nests in it
unfoldable pub literal_shape : ℕ → (Unit {0} → Phrase Token Expr) → Unit {0} → Phrase Token Expr
literal_shape room inner s = literal_over room (inner s)

abbrev pub nested_literal : ℕ → Unit {0} → Phrase Token Expr
nested_literal room = nest_shapes class (λ s. literal_first) literal_shape room

-- with room for so many nestings
unfoldable pub literal : ℕ → Phrase Token Expr
literal room = literal_shape room (nested_literal room) (tt {0})

-- ---- arguments

abbrev pub plain_argument_of : Expr → Argument
plain_argument_of e = argument_of e None

unfoldable pub literal_argument : Phrase Token Expr → Bool → Phrase Token Argument
literal_argument literal false = either class name_codes (sequence (token (name_of name_codes)) (λ n. past (code kinds.Equal) literal) keyword_argument_of) (mapped literal plain_argument_of)
literal_argument literal true = sequence (token (name_of name_codes)) (λ n. past (code kinds.Equal) literal) keyword_argument_of

abbrev pub literal_argument_first : Bool → List ℕ
literal_argument_first false = name_codes ++ literal_first
literal_argument_first true = name_codes

unfoldable pub literal_arguments : Phrase Token Expr → Phrase Token (Argument × List (Pos × Option Argument))
literal_arguments literal = sequence (literal_argument literal false) (λ a. comma_items literal_argument_first (literal_argument literal) has_keyword (has_keyword a)) both
