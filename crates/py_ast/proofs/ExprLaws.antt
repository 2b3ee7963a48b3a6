-- Each production of the grammar of expressions is lawful.
use Rattle.std.proofs.Common.{◌≡◌, ℕ, zero, suc, Bool, true, false, List, [], ◌∷◌, ◌++◌, Option, Some, None, refl}
use Rattle.phrases.specs.Laws.{Laws}
use Rattle.phrases.specs.Phrases.{Phrase}
use Rattle.phrases.specs.Sets.{apart, within, fits, Sets, token_sets, then_sets, item_sets, many_sets, series_sets}
use Rattle.phrases.proofs.Composed.{token_laws, opener_laws, nothing_laws, sequence_laws, either_laws, many_laws, larger_laws}
use Rattle.py_literals.specs.declared.place.Pos.{Pos}
use Rattle.py_lexer.specs.declared.token.Kind.TheVariants as kinds
use Rattle.py_lexer.specs.declared.token.Token.{Token}
use Rattle.py_ast.specs.Kinds.{class, code, name_code, super_code, text_code}
use Rattle.py_ast.specs.Tokens.{leaf_codes, name_codes, unary_codes, level_codes, comparator_codes}
use Rattle.py_ast.specs.Trees.{tuple_of, pair_of, strings_of, argument_of, bare_name, has_keyword, keyword_argument_of, postfix_of, is_callee, operand_of, binary_of, compared_of, comparison_of, joined_of, and_of, or_of, not_of, unary_of, power_of, conditional_of}
use Rattle.py_ast.specs.Grammar.{string_first, atom_first, factor_first, expr_first, comma_first, both, second, comma_item, items, exprs, field, part, part_first, formatted, formatted_of, piece, strings, parenthesized, parenthesized_at, list, list_at, pair, pairs, dictionary, dictionary_at, atom, keyword_argument, keyword_value, after_argument, argument, argument_first, arguments, call, call_at, subscript, subscript_at, attribute, attribute_of, step, step_first, step_next, chain, primary, exponent, exponent_of, power, factor_over, operand, level, binary, all_levels, comparison_first, comparator_at, not_in_at, after_is, comparator, compared, comparison, inversion_over, joined, conjunction, disjunction, choice_of, otherwise, choice, conditional}
use Rattle.py_ast.specs.declared.tree.Comparator.TheVariants as comparators
use Rattle.py_ast.specs.declared.tree.Expr.{Expr}
use Rattle.py_ast.specs.declared.tree.NameAt.{NameAt}
use Rattle.py_ast.specs.declared.tree.Part.TheVariants as parts
use Rattle.py_ast.proofs.TokenLaws.{mark-kind, names-kind, super-kind, text-kind, part-kind, leaf-kind, unary-kind, operator-kind, comparator-kind}
use Rattle.py_ast.proofs.Parts.{nothing-first, mapped-laws, past-laws, ended-laws, comma-item-laws, comma-items-laws, bracketed-laws, series-first}

-- ---- the tokens with which a whole phrase may go on

abbrev pub primary_more : List ℕ
primary_more = string_first ++ step_first true

abbrev pub factor_more : List ℕ
factor_more = code kinds.DoubleStar ∷ primary_more

abbrev pub level_more : ℕ → List ℕ
level_more zero = factor_more
level_more (suc l) = level_codes l ++ level_more l

abbrev pub comparison_more : List ℕ
comparison_more = comparison_first ++ level_more all_levels

abbrev pub conjunction_more : List ℕ
conjunction_more = code kinds.And ∷ comparison_more

abbrev pub disjunction_more : List ℕ
disjunction_more = code kinds.Or ∷ conjunction_more

abbrev pub expr_more : List ℕ
expr_more = code kinds.If ∷ disjunction_more

abbrev pub factor_sets : Sets
factor_sets = item_sets factor_first factor_more

abbrev pub inversion_sets : Sets
inversion_sets = item_sets expr_first comparison_more

abbrev pub expr_sets : Sets
expr_sets = item_sets expr_first expr_more

-- ---- names and operators

attribute-laws : Laws class attribute attribute attribute (item_sets (code kinds.Dot ∷ []) [])
unfolding attribute
attribute-laws = mapped-laws (past-laws (token_laws names-kind) kinds.Dot refl) refl attribute_of

after-is-laws : Laws class after_is after_is after_is (record { first = code kinds.Not ∷ []; more = code kinds.Not ∷ []; nullable = true })
unfolding after_is
after-is-laws =
    larger_laws (record { first = code kinds.Not ∷ []; more = code kinds.Not ∷ []; nullable = true })
    (either_laws (larger_laws (item_sets (code kinds.Not ∷ []) []) (past-laws (nothing_laws class comparators.IsNot) kinds.Not refl) refl) (nothing_laws class comparators.Is) refl refl) refl

pub comparator-laws : Laws class comparator comparator comparator (item_sets comparison_first (code kinds.Not ∷ []))
unfolding comparator
comparator-laws =
    larger_laws (item_sets comparison_first (code kinds.Not ∷ []))
    (either_laws (sequence_laws (token_laws (mark-kind kinds.Not refl)) (λ m. token_laws (mark-kind kinds.In refl)) not_in_at refl refl)
    (either_laws (sequence_laws (token_laws (mark-kind kinds.Is refl)) (λ m. after-is-laws) comparator_at refl refl) (token_laws comparator-kind) refl refl) refl refl) refl

-- ---- lists of expressions, over an expression

module _ {e e+ k : Phrase Token Expr} (le : Laws class e e+ k expr_sets) where
  abbrev pub items_more : List ℕ
  items_more = comma_first ++ expr_first ++ expr_more

  item-laws : Laws class (comma_item expr_first e) (comma_item expr_first e+) (comma_item expr_first k) (item_sets comma_first (expr_first ++ expr_more))
  item-laws = larger_laws (item_sets comma_first (expr_first ++ expr_more)) (comma-item-laws le) refl

  pub items-laws : Laws class (items e) (items e+) (items k) (item_sets expr_first items_more)
  unfolding items
  items-laws =
      larger_laws (item_sets expr_first items_more)
      (sequence_laws le (λ a. comma-items-laws (λ s. e) (λ s. e+) (λ s. k) (λ s. expr_first) (λ s. item-laws) refl (λ a. tt {0}) (tt {0})) both refl refl) refl

  pub exprs-laws : Laws class (exprs e) (exprs e+) (exprs k) (item_sets expr_first items_more)
  unfolding exprs
  exprs-laws = mapped-laws items-laws refl tuple_of

  pub pair-laws : Laws class (pair e) (pair e+) (pair k) expr_sets
  unfolding pair
  pair-laws = larger_laws expr_sets (sequence_laws le (λ a. past-laws le kinds.Colon refl) pair_of refl refl) refl

  pair-item-laws : Laws class (comma_item expr_first (pair e)) (comma_item expr_first (pair e+)) (comma_item expr_first (pair k)) (item_sets comma_first (expr_first ++ expr_more))
  pair-item-laws = larger_laws (item_sets comma_first (expr_first ++ expr_more)) (comma-item-laws pair-laws) refl

  pub pairs-laws : Laws class (pairs e) (pairs e+) (pairs k) (item_sets expr_first items_more)
  unfolding pairs
  pairs-laws =
      larger_laws (item_sets expr_first items_more)
      (sequence_laws pair-laws (λ a. comma-items-laws (λ s. pair e) (λ s. pair e+) (λ s. pair k) (λ s. expr_first) (λ s. pair-item-laws) refl (λ a. tt {0}) (tt {0})) both refl refl) refl

  -- ---- arguments

  abbrev pub argument_more : List ℕ
  argument_more = code kinds.Equal ∷ expr_more

  after-argument-laws : (o : Option NameAt) → Laws class (after_argument e o) (after_argument e+ o) (after_argument k o) (record { first = code kinds.Equal ∷ []; more = argument_more; nullable = true })
  unfolding after_argument
  after-argument-laws None = nothing-first (code kinds.Equal ∷ []) argument_more None
  after-argument-laws (Some n) =
      larger_laws (record { first = code kinds.Equal ∷ []; more = argument_more; nullable = true })
      (either_laws (mapped-laws (past-laws le kinds.Equal refl) refl (keyword_value n)) (nothing_laws class None) refl refl) refl

  super-argument-laws : Laws class (keyword_argument (super_code ∷ []) e) (keyword_argument (super_code ∷ []) e+) (keyword_argument (super_code ∷ []) k) (item_sets (super_code ∷ []) expr_more)
  unfolding keyword_argument
  super-argument-laws =
      larger_laws (item_sets (super_code ∷ []) expr_more) (sequence_laws (token_laws super-kind) (λ n. past-laws le kinds.Equal refl) keyword_argument_of refl refl) refl

  pub argument-laws : (b : Bool) → Laws class (argument e b) (argument e+ b) (argument k b) (item_sets (argument_first b) argument_more)
  unfolding argument keyword_argument
  argument-laws false =
      larger_laws (item_sets (argument_first false) argument_more)
      (either_laws super-argument-laws (sequence_laws le (λ a. after-argument-laws (bare_name a)) argument_of refl refl) refl refl) refl
  argument-laws true =
      larger_laws (item_sets (argument_first true) argument_more) (sequence_laws (token_laws names-kind) (λ n. past-laws le kinds.Equal refl) keyword_argument_of refl refl) refl

  abbrev pub arguments_more : List ℕ
  arguments_more = comma_first ++ argument_first false ++ argument_more

  argument-item-laws : (b : Bool) → Laws class (comma_item (argument_first b) (argument e b)) (comma_item (argument_first b) (argument e+ b)) (comma_item (argument_first b) (argument k b)) (item_sets comma_first (argument_first false ++ argument_more))
  argument-item-laws false = larger_laws (item_sets comma_first (argument_first false ++ argument_more)) (comma-item-laws (argument-laws false)) refl
  argument-item-laws true = larger_laws (item_sets comma_first (argument_first false ++ argument_more)) (comma-item-laws (argument-laws true)) refl

  pub arguments-laws : Laws class (arguments e) (arguments e+) (arguments k) (item_sets (argument_first false) arguments_more)
  unfolding arguments
  arguments-laws =
      larger_laws (item_sets (argument_first false) arguments_more)
      (sequence_laws (argument-laws false) (λ a. comma-items-laws (argument e) (argument e+) (argument k) argument_first argument-item-laws refl has_keyword (has_keyword a)) both refl refl) refl

  -- ---- atoms and primaries, with some room

  module _ (room n : ℕ) where
    pub field-laws : Laws class (field room e) (field (suc room) e+) (field n k) (item_sets (code kinds.FieldOpen ∷ []) [])
    unfolding field
    field-laws = sequence_laws (opener_laws room n (mark-kind kinds.FieldOpen refl)) (λ m. mapped-laws (ended-laws le kinds.FieldClose refl refl refl) refl parts.Field) second refl refl

    pub part-laws : Laws class (part room e) (part (suc room) e+) (part n k) (item_sets part_first [])
    unfolding part
    part-laws = larger_laws (item_sets part_first []) (either_laws (token_laws part-kind) field-laws refl refl) refl

    formatted-laws : Laws class (formatted room e) (formatted (suc room) e+) (formatted n k) (item_sets (code kinds.FStringStart ∷ []) [])
    unfolding formatted
    formatted-laws =
        mapped-laws (ended-laws (sequence_laws (token_laws (mark-kind kinds.FStringStart refl)) (λ m. many_laws part-laws refl refl) both refl refl) kinds.FStringEnd refl refl refl) refl formatted_of

    pub piece-laws : Laws class (piece room e) (piece (suc room) e+) (piece n k) (item_sets string_first [])
    unfolding piece
    piece-laws = larger_laws (item_sets string_first []) (either_laws (token_laws text-kind) formatted-laws refl refl) refl

    pub strings-laws : Laws class (strings room e) (strings (suc room) e+) (strings n k) (item_sets string_first string_first)
    unfolding strings
    strings-laws = larger_laws (item_sets string_first string_first) (sequence_laws piece-laws (λ p. many_laws piece-laws refl refl) strings_of refl refl) refl

    pub parenthesized-laws : Laws class (parenthesized room e) (parenthesized (suc room) e+) (parenthesized n k) (token_sets (code kinds.LeftParen ∷ []))
    unfolding parenthesized
    parenthesized-laws = mapped-laws (bracketed-laws room n kinds.LeftParen kinds.RightParen refl refl items-laws refl refl) refl parenthesized_at

    pub list-laws : Laws class (list room e) (list (suc room) e+) (list n k) (token_sets (code kinds.LeftBracket ∷ []))
    unfolding list
    list-laws = mapped-laws (bracketed-laws room n kinds.LeftBracket kinds.RightBracket refl refl items-laws refl refl) refl list_at

    pub dictionary-laws : Laws class (dictionary room e) (dictionary (suc room) e+) (dictionary n k) (token_sets (code kinds.LeftBrace ∷ []))
    unfolding dictionary
    dictionary-laws = mapped-laws (bracketed-laws room n kinds.LeftBrace kinds.RightBrace refl refl pairs-laws refl refl) refl dictionary_at

    pub atom-laws : Laws class (atom room e) (atom (suc room) e+) (atom n k) (item_sets atom_first string_first)
    unfolding atom
    atom-laws =
        larger_laws (item_sets atom_first string_first)
        (either_laws (token_laws leaf-kind)
        (either_laws strings-laws (either_laws parenthesized-laws (either_laws list-laws dictionary-laws refl refl) refl refl) refl refl) refl refl) refl

    pub call-laws : Laws class (call room e) (call (suc room) e+) (call n k) (token_sets (code kinds.LeftParen ∷ []))
    unfolding call
    call-laws = mapped-laws (bracketed-laws room n kinds.LeftParen kinds.RightParen refl refl arguments-laws refl refl) refl call_at

    pub subscript-laws : Laws class (subscript room e) (subscript (suc room) e+) (subscript n k) (token_sets (code kinds.LeftBracket ∷ []))
    unfolding subscript
    subscript-laws =
        larger_laws (token_sets (code kinds.LeftBracket ∷ []))
        (sequence_laws (opener_laws room n (mark-kind kinds.LeftBracket refl)) (λ m. ended-laws exprs-laws kinds.RightBracket refl refl refl) subscript_at refl refl) refl

    pub step-laws : (b : Bool) → Laws class (step room e b) (step (suc room) e+ b) (step n k b) (item_sets (step_first b) [])
    unfolding step
    step-laws false = larger_laws (item_sets (step_first false) []) (either_laws attribute-laws subscript-laws refl refl) refl
    step-laws true = larger_laws (item_sets (step_first true) []) (either_laws attribute-laws (either_laws subscript-laws call-laws refl refl) refl refl) refl

    any_step : (b : Bool) → within (step_first b) (step_first true) ≡ true
    any_step false = refl
    any_step true = refl

    pub chain-laws : (b : Bool) → Laws class (chain room e b) (chain (suc room) e+ b) (chain n k b) (series_sets (step_first true) [] (step_first true))
    unfolding chain
    chain-laws = series-first step-laws (step_first true) any_step refl step_next

    pub primary-laws : Laws class (primary room e) (primary (suc room) e+) (primary n k) (item_sets atom_first primary_more)
    unfolding primary
    primary-laws = larger_laws (item_sets atom_first primary_more) (sequence_laws atom-laws (λ a. chain-laws (is_callee a)) postfix_of refl refl) refl

    module _ {f f+ fk : Phrase Token Expr} (lf : Laws class f f+ fk factor_sets) where
      exponent-laws : Laws class (exponent room f) (exponent (suc room) f+) (exponent n fk) (record { first = code kinds.DoubleStar ∷ []; more = factor_more; nullable = true })
      unfolding exponent
      exponent-laws =
          larger_laws (record { first = code kinds.DoubleStar ∷ []; more = factor_more; nullable = true })
          (either_laws (larger_laws (item_sets (code kinds.DoubleStar ∷ []) factor_more) (sequence_laws (opener_laws room n (mark-kind kinds.DoubleStar refl)) (λ m. lf) exponent_of refl refl) refl) (nothing_laws class None) refl refl) refl

      pub power-laws : Laws class (power room e f) (power (suc room) e+ f+) (power n k fk) (item_sets atom_first factor_more)
      unfolding power
      power-laws = larger_laws (item_sets atom_first factor_more) (sequence_laws primary-laws (λ a. exponent-laws) power_of refl refl) refl

      pub factor-laws : Laws class (factor_over room e f) (factor_over (suc room) e+ f+) (factor_over n k fk) factor_sets
      unfolding factor_over
      factor-laws =
          larger_laws factor_sets
          (either_laws (larger_laws (item_sets unary_codes factor_more) (sequence_laws (opener_laws room n unary-kind) (λ o. lf) unary_of refl refl) refl) power-laws refl refl) refl

-- ---- levels

-- a level over a tighter one, of which these go on with it
module _ (l : ℕ) {more : List ℕ} {g g+ k : Phrase Token Expr} (lg : Laws class g g+ k (item_sets factor_first more)) where
  abbrev pub operand_sets : Sets
  operand_sets = then_sets (token_sets (level_codes l)) (item_sets factor_first more)

  pub operand-laws : Laws class (operand l g) (operand l g+) (operand l k) operand_sets
  unfolding operand
  operand-laws = sequence_laws (token_laws (operator-kind l)) (λ o. lg) operand_of refl refl

  pub level-laws : apart (level_codes l) (more ++ []) ≡ true → apart (level_codes l) more ≡ true → fits (then_sets (item_sets factor_first more) (many_sets operand_sets)) (item_sets factor_first (level_codes l ++ more)) ≡ true
      → Laws class (level l g) (level l g+) (level l k) (item_sets factor_first (level_codes l ++ more))
  unfolding level
  level-laws others aside fit = larger_laws (item_sets factor_first (level_codes l ++ more)) (sequence_laws lg (λ a. many_laws operand-laws refl others) binary_of refl aside) fit

module _ {f f+ k : Phrase Token Expr} (lf : Laws class f f+ k factor_sets) where
  abbrev LevelLaws : ℕ → Type 0
  LevelLaws l = Laws class (binary l f) (binary l f+) (binary l k) (item_sets factor_first (level_more l))

  one-level : LevelLaws 1
  unfolding binary
  one-level = level-laws 0 lf refl refl refl

  two-levels : LevelLaws 2
  unfolding binary
  two-levels = level-laws 1 one-level refl refl refl

  three-levels : LevelLaws 3
  unfolding binary
  three-levels = level-laws 2 two-levels refl refl refl

  four-levels : LevelLaws 4
  unfolding binary
  four-levels = level-laws 3 three-levels refl refl refl

  five-levels : LevelLaws 5
  unfolding binary
  five-levels = level-laws 4 four-levels refl refl refl

  pub binary-laws : LevelLaws all_levels
  unfolding binary
  binary-laws = level-laws 5 five-levels refl refl refl

  compared-laws : Laws class (compared (binary all_levels f)) (compared (binary all_levels f+)) (compared (binary all_levels k)) (item_sets comparison_first (level_more all_levels))
  unfolding compared
  compared-laws = larger_laws (item_sets comparison_first (level_more all_levels)) (sequence_laws comparator-laws (λ c. binary-laws) compared_of refl refl) refl

  pub comparison-laws : Laws class (comparison (binary all_levels f)) (comparison (binary all_levels f+)) (comparison (binary all_levels k)) (item_sets factor_first comparison_more)
  unfolding comparison
  comparison-laws = larger_laws (item_sets factor_first comparison_more) (sequence_laws binary-laws (λ a. many_laws compared-laws refl refl) comparison_of refl refl) refl

-- ---- words

pub inversion-laws : (room n : ℕ) {i i+ k c c+ ck : Phrase Token Expr} → Laws class i i+ k inversion_sets → Laws class c c+ ck (item_sets factor_first comparison_more)
    → Laws class (inversion_over room i c) (inversion_over (suc room) i+ c+) (inversion_over n k ck) inversion_sets
unfolding inversion_over
inversion-laws room n li lc =
    larger_laws inversion_sets
    (either_laws (larger_laws (item_sets (code kinds.Not ∷ []) comparison_more) (sequence_laws (opener_laws room n (mark-kind kinds.Not refl)) (λ m. li) not_of refl refl) refl) lc refl refl) refl

pub conjunction-laws : {i i+ k : Phrase Token Expr} → Laws class i i+ k inversion_sets → Laws class (conjunction i) (conjunction i+) (conjunction k) (item_sets expr_first conjunction_more)
unfolding conjunction joined
conjunction-laws li =
    larger_laws (item_sets expr_first conjunction_more)
    (sequence_laws li (λ a. many_laws (sequence_laws (token_laws (mark-kind kinds.And refl)) (λ m. li) joined_of refl refl) refl refl) and_of refl refl) refl

pub disjunction-laws : {c c+ k : Phrase Token Expr} → Laws class c c+ k (item_sets expr_first conjunction_more) → Laws class (disjunction c) (disjunction c+) (disjunction k) (item_sets expr_first disjunction_more)
unfolding disjunction joined
disjunction-laws lc =
    larger_laws (item_sets expr_first disjunction_more)
    (sequence_laws lc (λ a. many_laws (sequence_laws (token_laws (mark-kind kinds.Or refl)) (λ m. lc) joined_of refl refl) refl refl) or_of refl refl) refl

module _ (room n : ℕ) {e e+ k : Phrase Token Expr} (le : Laws class e e+ k expr_sets) {d d+ dk : Phrase Token Expr} (ld : Laws class d d+ dk (item_sets expr_first disjunction_more)) where
  otherwise-laws : Laws class (otherwise room e) (otherwise (suc room) e+) (otherwise n k) (item_sets (code kinds.Else ∷ []) expr_more)
  unfolding otherwise
  otherwise-laws = larger_laws (item_sets (code kinds.Else ∷ []) expr_more) (sequence_laws (opener_laws room n (mark-kind kinds.Else refl)) (λ m. le) second refl refl) refl

  choice-laws : Laws class (choice room d e) (choice (suc room) d+ e+) (choice n dk k) (record { first = code kinds.If ∷ []; more = expr_more; nullable = true })
  unfolding choice
  choice-laws =
      larger_laws (record { first = code kinds.If ∷ []; more = expr_more; nullable = true })
      (either_laws
      (larger_laws (item_sets (code kinds.If ∷ []) expr_more) (sequence_laws (token_laws (mark-kind kinds.If refl)) (λ m. sequence_laws ld (λ c. otherwise-laws) both refl refl) choice_of refl refl) refl)
      (nothing_laws class None) refl refl) refl

  pub conditional-laws : Laws class (conditional room d e) (conditional (suc room) d+ e+) (conditional n dk k) expr_sets
  unfolding conditional
  conditional-laws = larger_laws expr_sets (sequence_laws ld (λ a. choice-laws) conditional_of refl refl) refl
