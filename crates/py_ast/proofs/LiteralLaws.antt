-- The literal arguments of decorators are lawful.
use Rattle.std.proofs.Common.{◌≡◌, ℕ, zero, suc, ◌-◌, ◌<◌, Bool, true, false, cond, List, [], ◌∷◌, ◌++◌, None, Some, inl, refl, arith}
use Rattle.phrases.specs.Laws.{Laws, Kind}
use Rattle.phrases.specs.Phrases.{Phrase}
use Rattle.phrases.specs.Sets.{has, Sets, item_sets}
use Rattle.phrases.proofs.Composed.{token_laws, sequence_laws, either_laws, many_laws, larger_laws}
use Rattle.phrases.proofs.Sets.{within-has}
use Rattle.py_literals.specs.declared.place.Pos.{Pos}
use Rattle.py_lexer.specs.declared.token.Kind.TheVariants as kinds
use Rattle.py_lexer.specs.declared.token.Value.TheVariants as values
use Rattle.py_lexer.specs.declared.token.Token.{Token}
use Rattle.py_ast.specs.Kinds.{class, code, pick, text_code}
use Rattle.py_ast.specs.Nested.{nest_shapes}
use Rattle.py_ast.specs.Tokens.{leaf_codes, leaf_form, leaf_at, name_codes}
use Rattle.py_ast.specs.Trees.{leaf, pair_of, strings_of, keyword_argument_of, has_keyword}
use Rattle.py_ast.specs.Grammar.{comma_first, both, comma_item, parenthesized_at, list_at, dictionary_at}
use Rattle.py_ast.specs.Literals.{literal_codes, literal_of, literal_first, texts, literals, literal_pair, literal_pairs, literal_over, literal_shape, nested_literal, literal, plain_argument_of, literal_argument, literal_argument_first, literal_arguments}
use Rattle.py_ast.specs.declared.tree.Constant.TheVariants as constants
use Rattle.py_ast.specs.declared.tree.Expr.{Expr}
use Rattle.py_ast.specs.declared.tree.Form.TheVariants as forms
use Rattle.py_ast.proofs.TokenLaws.{some_place, some_token, pick-kind, names-kind, text-kind, leaf-is}
use Rattle.py_ast.proofs.Parts.{mapped-laws, past-laws, comma-item-laws, comma-items-laws, bracketed-laws}
use Rattle.py_ast.proofs.Nested.{nest-laws}

abbrev a_none : Token
a_none = some_token kinds.None values.Nothing

abbrev none_expr : Expr
none_expr = leaf some_place (forms.Constant constants.None)

literal-kind : Kind class literal_of literal_codes
literal-kind =
    pick-kind literal_codes (λ t. leaf_at (leaf_form t.kind t.value) t.at) (λ t h e. leaf-is t.at t.kind t.value (within-has literal_codes leaf_codes (class t) refl h) e) a_none none_expr refl

abbrev pub literal_more : List ℕ
literal_more = text_code ∷ []

abbrev pub literal_sets : Sets
literal_sets = item_sets literal_first literal_more

pub texts-laws : Laws class texts texts texts (item_sets (text_code ∷ []) (text_code ∷ []))
unfolding texts
texts-laws = larger_laws (item_sets (text_code ∷ []) (text_code ∷ [])) (sequence_laws (token_laws text-kind) (λ p. many_laws (token_laws text-kind) refl refl) strings_of refl refl) refl

module _ {e e+ k : Phrase Token Expr} (le : Laws class e e+ k literal_sets) where
  abbrev literals_more : List ℕ
  literals_more = comma_first ++ literal_first ++ literal_more

  literal-item-laws : Laws class (comma_item literal_first e) (comma_item literal_first e+) (comma_item literal_first k) (item_sets comma_first (literal_first ++ literal_more))
  literal-item-laws = larger_laws (item_sets comma_first (literal_first ++ literal_more)) (comma-item-laws le) refl

  literals-laws : Laws class (literals e) (literals e+) (literals k) (item_sets literal_first literals_more)
  unfolding literals
  literals-laws =
      larger_laws (item_sets literal_first literals_more)
      (sequence_laws le (λ a. comma-items-laws (λ s. e) (λ s. e+) (λ s. k) (λ s. literal_first) (λ s. literal-item-laws) refl (λ a. tt {0}) (tt {0})) both refl refl) refl

  literal-pair-laws : Laws class (literal_pair e) (literal_pair e+) (literal_pair k) literal_sets
  unfolding literal_pair
  literal-pair-laws = larger_laws literal_sets (sequence_laws le (λ a. past-laws le kinds.Colon refl) pair_of refl refl) refl

  literal-pair-item-laws : Laws class (comma_item literal_first (literal_pair e)) (comma_item literal_first (literal_pair e+)) (comma_item literal_first (literal_pair k)) (item_sets comma_first (literal_first ++ literal_more))
  literal-pair-item-laws = larger_laws (item_sets comma_first (literal_first ++ literal_more)) (comma-item-laws literal-pair-laws) refl

  literal-pairs-laws : Laws class (literal_pairs e) (literal_pairs e+) (literal_pairs k) (item_sets literal_first literals_more)
  unfolding literal_pairs
  literal-pairs-laws =
      larger_laws (item_sets literal_first literals_more)
      (sequence_laws literal-pair-laws
      (λ a. comma-items-laws (λ s. literal_pair e) (λ s. literal_pair e+) (λ s. literal_pair k) (λ s. literal_first) (λ s. literal-pair-item-laws) refl (λ a. tt {0}) (tt {0})) both refl refl) refl

  literal-over-laws : (room n : ℕ) → Laws class (literal_over room e) (literal_over (suc room) e+) (literal_over n k) literal_sets
  unfolding literal_over
  literal-over-laws room n =
      larger_laws literal_sets
      (either_laws (token_laws literal-kind)
      (either_laws texts-laws
      (either_laws (mapped-laws (bracketed-laws room n kinds.LeftParen kinds.RightParen refl refl literals-laws refl refl) refl parenthesized_at)
      (either_laws (mapped-laws (bracketed-laws room n kinds.LeftBracket kinds.RightBracket refl refl literals-laws refl refl) refl list_at)
      (mapped-laws (bracketed-laws room n kinds.LeftBrace kinds.RightBrace refl refl literal-pairs-laws refl refl) refl dictionary_at) refl refl) refl refl) refl refl) refl refl) refl

  -- ---- arguments

  literal-argument-laws : (b : Bool) → Laws class (literal_argument e b) (literal_argument e+ b) (literal_argument k b) (item_sets (literal_argument_first b) literal_more)
  unfolding literal_argument
  literal-argument-laws false =
      larger_laws (item_sets (literal_argument_first false) literal_more)
      (either_laws (larger_laws (item_sets name_codes literal_more) (sequence_laws (token_laws names-kind) (λ n. past-laws le kinds.Equal refl) keyword_argument_of refl refl) refl) (mapped-laws le refl plain_argument_of) refl refl) refl
  literal-argument-laws true =
      larger_laws (item_sets (literal_argument_first true) literal_more) (sequence_laws (token_laws names-kind) (λ n. past-laws le kinds.Equal refl) keyword_argument_of refl refl) refl

  abbrev literal_arguments_item : List ℕ
  literal_arguments_item = literal_argument_first false ++ literal_more

  literal-argument-item-laws : (b : Bool) → Laws class (comma_item (literal_argument_first b) (literal_argument e b)) (comma_item (literal_argument_first b) (literal_argument e+ b)) (comma_item (literal_argument_first b) (literal_argument k b)) (item_sets comma_first literal_arguments_item)
  literal-argument-item-laws false = larger_laws (item_sets comma_first literal_arguments_item) (comma-item-laws (literal-argument-laws false)) refl
  literal-argument-item-laws true = larger_laws (item_sets comma_first literal_arguments_item) (comma-item-laws (literal-argument-laws true)) refl

  pub literal-arguments-laws : Laws class (literal_arguments e) (literal_arguments e+) (literal_arguments k) (item_sets (literal_argument_first false) (comma_first ++ literal_arguments_item))
  unfolding literal_arguments
  literal-arguments-laws =
      larger_laws (item_sets (literal_argument_first false) (comma_first ++ literal_arguments_item))
      (sequence_laws (literal-argument-laws false) (λ a. comma-items-laws (literal_argument e) (literal_argument e+) (literal_argument k) literal_argument_first literal-argument-item-laws refl has_keyword (has_keyword a)) both refl refl) refl

-- ---- every depth

some-literal : (r room : ℕ) (g : Unit {0} → Phrase Token Expr) (s : Unit {0}) → (x : List Token) × (a : Expr) × (literal_shape room g s).Spells x a
unfolding literal_shape literal_over
some-literal r room g s = (a_none ∷ [], none_expr, inl (record { token = a_none; alone = refl; is = refl }))

literal-layer : (r m room n : ℕ) (i i+ k : Unit {0} → Phrase Token Expr) → ((s : Unit {0}) → Laws class (i s) (i+ s) (k s) literal_sets) → (s : Unit {0}) → Laws class (literal_shape room i s) (literal_shape (suc room) i+ s) (literal_shape n k s) literal_sets
unfolding literal_shape
literal-layer r m room n i i+ k l s = literal-over-laws (l s) room n

pub nested-literal-laws : (room n : ℕ) (s : Unit {0}) → Laws class (nested_literal room s) (nested_literal (suc room) s) (nested_literal n s) literal_sets
nested-literal-laws room n s = nest-laws class (λ t. literal_first) (λ t. literal_more) (λ r. literal_shape) (λ t. a_none) (λ t. refl) some-literal literal-layer 0 0 room n s

pub literal-laws : (room n : ℕ) → Laws class (literal room) (literal (suc room)) (literal n) literal_sets
unfolding literal
literal-laws room n = literal-layer 0 0 room n (nested_literal room) (nested_literal (suc room)) (nested_literal n) (nested-literal-laws room n) (tt {0})

-- what stands in a nesting has one less room
pub nested-literal-is : (s : Unit {0}) (room : ℕ) → 0 < room → nested_literal room s ≡ literal (room - 1)
unfolding nest_shapes literal literal_shape
nested-literal-is s zero h = absurd (omega arith)
nested-literal-is s (suc room) h = let e : suc room - 1 ≡ room = omega arith in rw e refl
