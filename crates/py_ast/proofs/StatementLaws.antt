-- Each production of the grammar of statements is lawful.
use Rattle.std.proofs.Common.{◌≡◌, ℕ, zero, suc, Bool, true, false, List, [], ◌∷◌, ◌++◌, Option, Some, None, refl}
use Rattle.phrases.specs.Laws.{Laws, Kind}
use Rattle.phrases.specs.Phrases.{Phrase, sequence}
use Rattle.phrases.specs.Sets.{has, apart, within, Sets, token_sets, nothing_sets, then_sets, or_sets, item_sets, series_sets}
use Rattle.phrases.proofs.Composed.{token_laws, opener_laws, nothing_laws, sequence_laws, either_laws, many_laws, series_laws, larger_laws}
use Rattle.phrases.proofs.Sets.{apart_none, within-has}
use Rattle.py_literals.specs.declared.place.Pos.{Pos}
use Rattle.py_lexer.specs.declared.token.Kind as tokens
use Rattle.py_lexer.specs.declared.token.Kind.TheVariants as kinds
use Rattle.py_lexer.specs.declared.token.Value.{Value}
use Rattle.py_lexer.specs.declared.token.Value.TheVariants as values
use Rattle.py_lexer.specs.declared.token.Token.{Token}
use Rattle.py_ast.specs.Kinds.{class_of, class, code, pick, placed}
use Rattle.py_ast.specs.Tokens.{name_codes}
use Rattle.py_ast.specs.Trees.{all_given}
use Rattle.py_ast.specs.Grammar.{expr_first, comma_first, both, second, mapped, past, ended, comma_item, goes_past, exprs}
use Rattle.py_ast.specs.Statements.{optional, cons, with_commas, stmt_at, word_stmt, name, dotted_of, dotted, alias, imported_of, imported_name_of, imported_name, import_stmt, imported_names, import_from, from_stmt, target_of, augment_codes, augment_in, augment_of, annotated_of, augmented_of, assigned, annotated, augmented, tail, begun_stmt, begun, word_codes, word_in, word_at, word_of, assert_form, assert_stmt, return_stmt, assert_or_return, simple, return_first, simple_first, further, line, block, branch_of, branch, else_block, branches, if_of, if_stmt, while_form, while_stmt, further_names, loop_names, for_of, for_stmt, parameter_of, default, parameter, has_default, parameters, in_parentheses, all_of, signature, function_form, function, base, class_form, class_stmt}
use Rattle.py_ast.specs.declared.tree.Expr.{Expr}
use Rattle.py_ast.specs.declared.statement.AugmentOperator.{AugmentOperator}
use Rattle.py_ast.specs.declared.statement.AugmentOperator.TheVariants as augments
use Rattle.py_ast.specs.declared.statement.Decorator.{Decorator}
use Rattle.py_ast.specs.declared.statement.Stmt.{Stmt}
use Rattle.py_ast.specs.declared.statement.StmtForm.TheVariants as stmts
use Rattle.py_ast.specs.declared.statement.Target.{Target}
use Rattle.py_ast.specs.declared.statement.Target.TheVariants as targets
use Rattle.py_ast.specs.declared.statement.Tail.TheVariants as tails
use Rattle.py_ast.proofs.TokenLaws.{some_place, some_token, pick-kind, mark-kind, names-kind, placed-some, no-name}
use Rattle.py_ast.proofs.Parts.{IsPlain, nothing-first, mapped-laws, past-laws, ended-laws, comma-item-laws, comma-items-laws, series-first}
use Rattle.py_ast.proofs.ExprLaws.{expr_more, expr_sets, exprs-laws}

-- ---- tokens

augment-is : (k : tokens.Kind) (v : Value) → has augment_codes (class_of k v) ≡ true → augment_in k ≡ None → ⊥
augment-is kinds.Name v h e = no-name augment_codes v refl refl refl h
augment-is kinds.Number (values.Whole n) h e = cc
augment-is kinds.Number values.Nothing h e = cc
augment-is kinds.Number (values.Text s) h e = cc
augment-is kinds.Number (values.Name n) h e = cc
augment-is kinds.Text (values.Whole n) h e = cc
augment-is kinds.Text values.Nothing h e = cc
augment-is kinds.Text (values.Text s) h e = cc
augment-is kinds.Text (values.Name n) h e = cc
augment-is kinds.FStringText (values.Whole n) h e = cc
augment-is kinds.FStringText values.Nothing h e = cc
augment-is kinds.FStringText (values.Text s) h e = cc
augment-is kinds.FStringText (values.Name n) h e = cc
augment-is _ v h e = cc

augment-kind : Kind class augment_of augment_codes
augment-kind =
    pick-kind augment_codes (λ t. placed (augment_in t.kind) t.at) (λ t h. placed-some (augment_in t.kind) t.at (augment-is t.kind t.value h))
    (some_token kinds.PlusEqual values.Nothing) (augments.Add, some_place) refl

word-is : (at : Pos) (k : tokens.Kind) (v : Value) → has (word_codes true) (class_of k v) ≡ true → word_at (word_in k) at ≡ None → ⊥
word-is at kinds.Name v h e = no-name (word_codes true) v refl refl refl h
word-is at kinds.Number (values.Whole n) h e = cc
word-is at kinds.Number values.Nothing h e = cc
word-is at kinds.Number (values.Text s) h e = cc
word-is at kinds.Number (values.Name n) h e = cc
word-is at kinds.Text (values.Whole n) h e = cc
word-is at kinds.Text values.Nothing h e = cc
word-is at kinds.Text (values.Text s) h e = cc
word-is at kinds.Text (values.Name n) h e = cc
word-is at kinds.FStringText (values.Whole n) h e = cc
word-is at kinds.FStringText values.Nothing h e = cc
word-is at kinds.FStringText (values.Text s) h e = cc
word-is at kinds.FStringText (values.Name n) h e = cc
word-is at _ v h e = cc

abbrev pub a_pass : Token
a_pass = some_token kinds.Pass values.Nothing

pub word-kind : (loops : Bool) → Kind class (word_of loops) (word_codes loops)
word-kind false =
    pick-kind (word_codes false) (λ t. word_at (word_in t.kind) t.at) (λ t h e. word-is t.at t.kind t.value (within-has (word_codes false) (word_codes true) (class t) refl h) e) a_pass (stmt_at some_place stmts.Pass) refl
word-kind true = pick-kind (word_codes true) (λ t. word_at (word_in t.kind) t.at) (λ t h e. word-is t.at t.kind t.value h e) a_pass (stmt_at some_place stmts.Pass) refl

-- ---- parts

pub optional-laws : {A : Type 0} {g g+ k : Phrase Token A} {first more : List ℕ} → Laws class g g+ k (item_sets first more)
    → Laws class (optional first g) (optional first g+) (optional first k) (or_sets (item_sets first more) nothing_sets)
unfolding optional
optional-laws l = either_laws (mapped-laws l refl Some) (nothing_laws class None) refl refl

pub name-laws : Laws class name name name (token_sets name_codes)
unfolding name
name-laws = token_laws names-kind

-- ---- imports

abbrev dot_name_sets : Sets
dot_name_sets = item_sets (code kinds.Dot ∷ []) []

pub dot-name-laws : Laws class (past (code kinds.Dot) name) (past (code kinds.Dot) name) (past (code kinds.Dot) name) dot_name_sets
dot-name-laws = larger_laws dot_name_sets (past-laws name-laws kinds.Dot refl) refl

pub dotted-laws : Laws class dotted dotted dotted (item_sets name_codes (code kinds.Dot ∷ []))
unfolding dotted
dotted-laws = larger_laws (item_sets name_codes (code kinds.Dot ∷ [])) (sequence_laws name-laws (λ n. many_laws dot-name-laws refl refl) dotted_of refl refl) refl

abbrev alias_sets : Sets
alias_sets = record { first = code kinds.As ∷ []; more = code kinds.As ∷ []; nullable = true }

alias-laws : Laws class alias alias alias alias_sets
unfolding alias
alias-laws = larger_laws alias_sets (optional-laws (larger_laws (item_sets (code kinds.As ∷ []) []) (past-laws name-laws kinds.As refl) refl)) refl

imported-laws : Laws class imported_name imported_name imported_name (item_sets name_codes (code kinds.As ∷ []))
unfolding imported_name
imported-laws = larger_laws (item_sets name_codes (code kinds.As ∷ [])) (sequence_laws name-laws (λ n. alias-laws) imported_name_of refl refl) refl

abbrev import_more : List ℕ
import_more = code kinds.Comma ∷ code kinds.As ∷ code kinds.Dot ∷ []

module-laws : Laws class (sequence dotted (λ d. alias) imported_of) (sequence dotted (λ d. alias) imported_of) (sequence dotted (λ d. alias) imported_of) (item_sets name_codes (code kinds.As ∷ code kinds.Dot ∷ []))
module-laws = larger_laws (item_sets name_codes (code kinds.As ∷ code kinds.Dot ∷ [])) (sequence_laws dotted-laws (λ d. alias-laws) imported_of refl refl) refl

pub import-laws : Laws class import_stmt import_stmt import_stmt (item_sets (code kinds.Import ∷ []) import_more)
unfolding import_stmt with_commas
import-laws =
    larger_laws (item_sets (code kinds.Import ∷ []) import_more)
    (sequence_laws (token_laws (mark-kind kinds.Import refl)) (λ m. sequence_laws module-laws (λ a. many_laws (past-laws module-laws kinds.Comma refl) refl refl) cons refl refl) (word_stmt stmts.Import) refl refl) refl

imported-names-laws : Laws class imported_names imported_names imported_names (item_sets (name_codes ++ code kinds.LeftParen ∷ []) import_more)
unfolding imported_names with_commas
imported-names-laws =
    larger_laws (item_sets (name_codes ++ code kinds.LeftParen ∷ []) import_more)
    (either_laws (larger_laws (item_sets name_codes import_more) (sequence_laws imported-laws (λ a. many_laws (past-laws imported-laws kinds.Comma refl) refl refl) cons refl refl) refl)
    (past-laws (ended-laws (mapped-laws (sequence_laws imported-laws (λ n. comma-items-laws (λ s. imported_name) (λ s. imported_name) (λ s. imported_name) (λ s. name_codes)
    (λ s. larger_laws (item_sets comma_first (name_codes ++ code kinds.As ∷ [])) (comma-item-laws imported-laws) refl) refl (λ n. tt {0}) (tt {0})) both refl refl) refl all_given) kinds.RightParen refl refl refl) kinds.LeftParen refl) refl refl) refl

pub from-laws : Laws class from_stmt from_stmt from_stmt (item_sets (code kinds.From ∷ []) import_more)
unfolding from_stmt
from-laws =
    larger_laws (item_sets (code kinds.From ∷ []) import_more)
    (sequence_laws (token_laws (mark-kind kinds.From refl)) (λ m. sequence_laws dotted-laws (λ d. past-laws imported-names-laws kinds.Import refl) both refl refl) (word_stmt import_from) refl refl) refl

-- ---- simple statements, over an expression

abbrev pub exprs_more : List ℕ
exprs_more = comma_first ++ expr_first ++ expr_more

abbrev pub tail_first : List ℕ
tail_first = code kinds.Equal ∷ augment_codes ++ code kinds.Colon ∷ []

abbrev pub simple_more : List ℕ
simple_more = tail_first ++ exprs_more

module _ {e e+ k : Phrase Token Expr} (le : Laws class e e+ k expr_sets) where
  pub assigned-laws : Laws class (assigned e) (assigned e+) (assigned k) (item_sets (code kinds.Equal ∷ []) simple_more)
  unfolding assigned
  assigned-laws = larger_laws (item_sets (code kinds.Equal ∷ []) simple_more) (sequence_laws (token_laws (mark-kind kinds.Equal refl)) (λ m. exprs-laws le) tails.Assigned refl refl) refl

  value-laws : Laws class (past (code kinds.Equal) (exprs e)) (past (code kinds.Equal) (exprs e+)) (past (code kinds.Equal) (exprs k)) (item_sets (code kinds.Equal ∷ []) exprs_more)
  value-laws = larger_laws (item_sets (code kinds.Equal ∷ []) exprs_more) (past-laws (exprs-laws le) kinds.Equal refl) refl

  pub annotated-laws : Laws class (annotated e) (annotated e+) (annotated k) (item_sets (code kinds.Colon ∷ []) simple_more)
  unfolding annotated
  annotated-laws =
      larger_laws (item_sets (code kinds.Colon ∷ []) simple_more)
      (sequence_laws (token_laws (mark-kind kinds.Colon refl)) (λ m. sequence_laws le (λ a. optional-laws value-laws) both refl refl) annotated_of refl refl) refl

  augmented-laws : Laws class (augmented e) (augmented e+) (augmented k) (item_sets augment_codes simple_more)
  unfolding augmented
  augmented-laws = larger_laws (item_sets augment_codes simple_more) (sequence_laws (token_laws augment-kind) (λ o. exprs-laws le) augmented_of refl refl) refl

  abbrev pub tail_sets : Sets
  tail_sets = record { first = tail_first; more = simple_more; nullable = true }

  tail-laws : (t : Target) → Laws class (tail e t) (tail e+ t) (tail k t) tail_sets
  unfolding tail
  tail-laws targets.Nothing = nothing-first tail_first simple_more tails.Alone
  tail-laws targets.Names = larger_laws tail_sets (either_laws assigned-laws (nothing-first (augment_codes ++ code kinds.Colon ∷ []) simple_more tails.Alone) refl refl) refl
  tail-laws targets.Place = larger_laws tail_sets (either_laws assigned-laws (either_laws augmented-laws (nothing-first (code kinds.Colon ∷ []) simple_more tails.Alone) refl refl) refl refl) refl
  tail-laws targets.Variable = larger_laws tail_sets (either_laws assigned-laws (either_laws augmented-laws (either_laws annotated-laws (nothing_laws class tails.Alone) refl refl) refl refl) refl refl) refl

  pub begun-laws : Laws class (begun e) (begun e+) (begun k) (item_sets expr_first simple_more)
  unfolding begun
  begun-laws = larger_laws (item_sets expr_first simple_more) (sequence_laws (exprs-laws le) (λ t. tail-laws (target_of t)) begun_stmt refl refl) refl

  assert-laws : Laws class (assert_stmt e) (assert_stmt e+) (assert_stmt k) (item_sets (code kinds.Assert ∷ []) simple_more)
  unfolding assert_stmt
  assert-laws =
      larger_laws (item_sets (code kinds.Assert ∷ []) simple_more)
      (sequence_laws (token_laws (mark-kind kinds.Assert refl))
      (λ m. sequence_laws le (λ c. optional-laws (larger_laws (item_sets comma_first expr_more) (past-laws le kinds.Comma refl) refl)) both refl refl) (word_stmt assert_form) refl refl) refl

  return-laws : Laws class (return_stmt e) (return_stmt e+) (return_stmt k) (item_sets (code kinds.Return ∷ []) simple_more)
  unfolding return_stmt
  return-laws =
      larger_laws (item_sets (code kinds.Return ∷ []) simple_more) (sequence_laws (token_laws (mark-kind kinds.Return refl)) (λ m. optional-laws (exprs-laws le)) (word_stmt stmts.Return) refl refl) refl

  assert-or-return-laws : (returns : Bool) → Laws class (assert_or_return e returns) (assert_or_return e+ returns) (assert_or_return k returns) (item_sets (return_first returns) simple_more)
  unfolding assert_or_return
  assert-or-return-laws false = assert-laws
  assert-or-return-laws true = larger_laws (item_sets (return_first true) simple_more) (either_laws assert-laws return-laws refl refl) refl

  pub simple-laws : (returns loops : Bool) → Laws class (simple e returns loops) (simple e+ returns loops) (simple k returns loops) (item_sets (simple_first returns loops) simple_more)
  unfolding simple
  simple-laws false false = larger_laws (item_sets (simple_first false false) simple_more) (either_laws begun-laws (either_laws (token_laws (word-kind false)) (assert-or-return-laws false) refl refl) refl refl) refl
  simple-laws false true = larger_laws (item_sets (simple_first false true) simple_more) (either_laws begun-laws (either_laws (token_laws (word-kind true)) (assert-or-return-laws false) refl refl) refl refl) refl
  simple-laws true false = larger_laws (item_sets (simple_first true false) simple_more) (either_laws begun-laws (either_laws (token_laws (word-kind false)) (assert-or-return-laws true) refl refl) refl refl) refl
  simple-laws true true = larger_laws (item_sets (simple_first true true) simple_more) (either_laws begun-laws (either_laws (token_laws (word-kind true)) (assert-or-return-laws true) refl refl) refl refl) refl

-- ---- lines

abbrev pub further_sets : List ℕ → List ℕ → Sets
further_sets first more = then_sets (token_sets (code kinds.Semicolon ∷ [])) (or_sets (item_sets first more) nothing_sets)

module _ {g g+ k : Phrase Token Stmt} {first more : List ℕ} (l : Laws class g g+ k (item_sets first more)) where
  further-laws : Laws class (further first g) (further first g+) (further first k) (further_sets first more)
  unfolding further
  further-laws = sequence_laws (token_laws (mark-kind kinds.Semicolon refl)) (λ m. optional-laws l) both refl (apart_none (first ++ []))

  abbrev line_sets : Sets
  line_sets = then_sets (item_sets first more) (series_sets (code kinds.Semicolon ∷ []) (further_sets first more).more (code kinds.Semicolon ∷ []))

  pub line-laws : apart (code kinds.Semicolon ∷ []) (further_sets first more).more ≡ true → apart (code kinds.Semicolon ∷ []) more ≡ true → apart (code kinds.Newline ∷ []) line_sets.more ≡ true
      → Laws class (line first g) (line first g+) (line first k) (item_sets first [])
  unfolding line
  line-laws others aside ends =
      mapped-laws (ended-laws (sequence_laws l (λ s. series_laws (λ t. further-laws) (code kinds.Semicolon ∷ []) (λ t. refl) others (λ t i. goes_past (λ s. tt {0}) i) (tt {0})) both refl aside) kinds.Newline refl refl ends) refl all_given

-- ---- blocks and compound statements

pub block-laws : (room n : ℕ) {s s+ sk : Phrase Token (List Stmt)} {first : List ℕ} → Laws class s s+ sk (item_sets first []) → Laws class (block room s) (block (suc room) s+) (block n sk) (token_sets (code kinds.Colon ∷ []))
unfolding block
block-laws room n {s} {s+} {sk} {first} l = sequence_laws (opener_laws room n (mark-kind kinds.Colon refl)) (λ m. l) second refl (apart_none first)

further-names-laws : Laws class further_names further_names further_names (item_sets comma_first (comma_first ++ name_codes))
unfolding further_names
further-names-laws =
    larger_laws (item_sets comma_first (comma_first ++ name_codes))
    (mapped-laws (sequence_laws (past-laws name-laws kinds.Comma refl)
    (λ n. comma-items-laws (λ s. name) (λ s. name) (λ s. name) (λ s. name_codes) (λ s. larger_laws (item_sets comma_first name_codes) (comma-item-laws name-laws) refl) refl (λ n. tt {0}) (tt {0})) both refl refl) refl all_given) refl

loop-names-laws : Laws class loop_names loop_names loop_names (item_sets (name_codes ++ code kinds.LeftParen ∷ []) (comma_first ++ name_codes))
unfolding loop_names
loop-names-laws =
    larger_laws (item_sets (name_codes ++ code kinds.LeftParen ∷ []) (comma_first ++ name_codes))
    (either_laws (larger_laws (item_sets name_codes (comma_first ++ name_codes)) (sequence_laws name-laws (λ n. either_laws further-names-laws (nothing_laws class []) refl refl) cons refl refl) refl)
    (past-laws (ended-laws (sequence_laws name-laws (λ n. further-names-laws) cons refl refl) kinds.RightParen refl refl refl) kinds.LeftParen refl) refl refl) refl

-- g between parentheses that open no nesting, or nothing between them
pub in-parentheses-laws : {A : Type 0} {g g+ k : Phrase Token A} {first more : List ℕ} → Laws class g g+ k (item_sets first more) → apart (code kinds.RightParen ∷ []) more ≡ true → apart (code kinds.RightParen ∷ []) first ≡ true
    → Laws class (in_parentheses first g) (in_parentheses first g+) (in_parentheses first k) (token_sets (code kinds.LeftParen ∷ []))
unfolding in_parentheses
in-parentheses-laws {A} {g} {g+} {k} {first} {more} l aside other =
    past-laws (either_laws (mapped-laws (ended-laws l kinds.RightParen refl refl aside) refl Some) (sequence_laws (token_laws (mark-kind kinds.RightParen refl)) (λ m. nothing_laws class None) second refl refl) refl other) kinds.LeftParen refl

-- over an expression
module _ {e e+ k : Phrase Token Expr} (le : Laws class e e+ k expr_sets) where
  condition-laws : (c : tokens.Kind) → IsPlain c → (room n : ℕ) {s s+ sk : Phrase Token (List Stmt)} {first : List ℕ} → Laws class s s+ sk (item_sets first [])
      → Laws class (branch (code c) e room s) (branch (code c) e+ (suc room) s+) (branch (code c) k n sk) (token_sets (code c ∷ []))
  unfolding branch
  condition-laws c p room n l = sequence_laws (token_laws (mark-kind c p)) (λ m. sequence_laws le (λ c. block-laws room n l) both refl refl) branch_of refl refl

  default-laws : (b : Bool) → Laws class (default e b) (default e+ b) (default k b) (record { first = code kinds.Equal ∷ []; more = code kinds.Equal ∷ expr_more; nullable = true })
  unfolding default
  default-laws false =
      larger_laws (record { first = code kinds.Equal ∷ []; more = code kinds.Equal ∷ expr_more; nullable = true }) (optional-laws (larger_laws (item_sets (code kinds.Equal ∷ []) expr_more) (past-laws le kinds.Equal refl) refl)) refl
  default-laws true =
      larger_laws (record { first = code kinds.Equal ∷ []; more = code kinds.Equal ∷ expr_more; nullable = true }) (mapped-laws (larger_laws (item_sets (code kinds.Equal ∷ []) expr_more) (past-laws le kinds.Equal refl) refl) refl Some) refl

  parameter-laws : (b : Bool) → Laws class (parameter e b) (parameter e+ b) (parameter k b) (item_sets name_codes (code kinds.Colon ∷ code kinds.Equal ∷ expr_more))
  unfolding parameter
  parameter-laws b =
      larger_laws (item_sets name_codes (code kinds.Colon ∷ code kinds.Equal ∷ expr_more))
      (sequence_laws (larger_laws (item_sets name_codes (code kinds.Colon ∷ expr_more)) (sequence_laws name-laws (λ n. optional-laws (larger_laws (item_sets (code kinds.Colon ∷ []) expr_more) (past-laws le kinds.Colon refl) refl)) both refl refl) refl)
      (λ n. default-laws b) parameter_of refl refl) refl

  abbrev parameters_item : List ℕ
  parameters_item = name_codes ++ code kinds.Colon ∷ code kinds.Equal ∷ expr_more

  parameters-laws : Laws class (parameters e) (parameters e+) (parameters k) (item_sets name_codes (comma_first ++ parameters_item))
  unfolding parameters
  parameters-laws =
      larger_laws (item_sets name_codes (comma_first ++ parameters_item))
      (mapped-laws (sequence_laws (parameter-laws false)
      (λ p. comma-items-laws (parameter e) (parameter e+) (parameter k) (λ s. name_codes) (λ s. larger_laws (item_sets comma_first parameters_item) (comma-item-laws (parameter-laws s)) refl) refl has_default (has_default p)) both refl refl) refl all_given) refl

  signature-laws : Laws class (signature e) (signature e+) (signature k) (item_sets (code kinds.LeftParen ∷ []) (code kinds.Arrow ∷ expr_more))
  unfolding signature
  signature-laws =
      larger_laws (item_sets (code kinds.LeftParen ∷ []) (code kinds.Arrow ∷ expr_more))
      (sequence_laws (mapped-laws (in-parentheses-laws parameters-laws refl refl) refl all_of) (λ ps. optional-laws (larger_laws (item_sets (code kinds.Arrow ∷ []) expr_more) (past-laws le kinds.Arrow refl) refl)) both refl refl) refl

  module _ (room n : ℕ) {s s+ sk : Phrase Token (List Stmt)} {first : List ℕ} (ls : Laws class s s+ sk (item_sets first [])) where
    else-laws : Laws class (else_block room s) (else_block (suc room) s+) (else_block n sk) (record { first = code kinds.Else ∷ []; more = code kinds.Else ∷ []; nullable = true })
    unfolding else_block
    else-laws =
        larger_laws (record { first = code kinds.Else ∷ []; more = code kinds.Else ∷ []; nullable = true })
        (either_laws (larger_laws (item_sets (code kinds.Else ∷ []) []) (past-laws (block-laws room n ls) kinds.Else refl) refl) (nothing_laws class []) refl refl) refl

    pub if-laws : Laws class (if_stmt e room s) (if_stmt e+ (suc room) s+) (if_stmt k n sk) (item_sets (code kinds.If ∷ []) (code kinds.Elif ∷ code kinds.Else ∷ []))
    unfolding if_stmt branches
    if-laws =
        larger_laws (item_sets (code kinds.If ∷ []) (code kinds.Elif ∷ code kinds.Else ∷ []))
        (sequence_laws (sequence_laws (condition-laws kinds.If refl room n ls) (λ b. many_laws (condition-laws kinds.Elif refl room n ls) refl refl) both refl refl) (λ b. else-laws) if_of refl refl) refl

    pub while-laws : Laws class (while_stmt e room s) (while_stmt e+ (suc room) s+) (while_stmt k n sk) (token_sets (code kinds.While ∷ []))
    unfolding while_stmt
    while-laws = sequence_laws (token_laws (mark-kind kinds.While refl)) (λ m. sequence_laws le (λ c. block-laws room n ls) both refl refl) (word_stmt while_form) refl refl

    pub for-laws : Laws class (for_stmt e room s) (for_stmt e+ (suc room) s+) (for_stmt k n sk) (token_sets (code kinds.For ∷ []))
    unfolding for_stmt
    for-laws =
        larger_laws (token_sets (code kinds.For ∷ []))
        (sequence_laws (token_laws (mark-kind kinds.For refl)) (λ m. sequence_laws loop-names-laws (λ ns. past-laws (sequence_laws (exprs-laws le) (λ i. block-laws room n ls) both refl refl) kinds.In refl) both refl refl) for_of refl refl) refl

    pub function-laws : (ds : List Decorator) → Laws class (function e room s ds) (function e+ (suc room) s+ ds) (function k n sk ds) (token_sets (code kinds.Def ∷ []))
    unfolding function
    function-laws ds =
        larger_laws (token_sets (code kinds.Def ∷ []))
        (sequence_laws (token_laws (mark-kind kinds.Def refl)) (λ m. sequence_laws name-laws (λ a. sequence_laws signature-laws (λ p. block-laws room n ls) both refl refl) both refl refl) (word_stmt (function_form ds)) refl refl) refl

base-laws : Laws class base base base (record { first = code kinds.LeftParen ∷ []; more = code kinds.LeftParen ∷ []; nullable = true })
unfolding base
base-laws =
    larger_laws (record { first = code kinds.LeftParen ∷ []; more = code kinds.LeftParen ∷ []; nullable = true }) (either_laws (in-parentheses-laws dotted-laws refl refl) (nothing_laws class None) refl refl) refl

pub class-laws : (room n : ℕ) {s s+ sk : Phrase Token (List Stmt)} {first : List ℕ} → Laws class s s+ sk (item_sets first []) → (ds : List Decorator)
    → Laws class (class_stmt room s ds) (class_stmt (suc room) s+ ds) (class_stmt n sk ds) (token_sets (code kinds.Class ∷ []))
unfolding class_stmt
class-laws room n ls ds =
    larger_laws (token_sets (code kinds.Class ∷ []))
    (sequence_laws (token_laws (mark-kind kinds.Class refl)) (λ m. sequence_laws (sequence_laws name-laws (λ n. base-laws) both refl refl) (λ b. block-laws room n ls) both refl refl) (word_stmt (class_form ds)) refl refl) refl
