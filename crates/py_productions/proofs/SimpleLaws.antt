-- Simple statements are those of the productions, and so are lines of them.
use Rattle.std.proofs.Common.{◌≡◌, ℕ, Bool, true, false, List, [], ◌∷◌, inl, inr, refl}
use Rattle.phrases.specs.Phrases.{Phrase, token, sequence}
use Rattle.py_lexer.specs.declared.token.Kind.TheVariants as kinds
use Rattle.py_lexer.specs.declared.token.Token.{Token}
use Rattle.py_ast.specs.Kinds.{code}
use Rattle.py_ast.specs.Tokens.{name_codes, name_of}
use Rattle.py_ast.specs.Grammar.{first_of, second, past, comma_first, expr_first, exprs, expr}
use Rattle.py_ast.specs.Statements.{with_commas, name, dotted, alias, imported_of, import_stmt, imported_names, from_stmt, assert_stmt, return_stmt, assert_or_return, simple}
use Rattle.py_ast.specs.Files.{file_simple}
use Rattle.py_ast.specs.declared.tree.Expr.{Expr}
use Rattle.py_ast.specs.declared.statement.Imported.{Imported}
use Rattle.py_ast.specs.declared.statement.Stmt.{Stmt}
use Rattle.py_productions.specs.Rules.{Word, Row, Items}
use Rattle.py_productions.specs.Expressions.{Expression, Expressions}
use Rattle.py_productions.specs.Lines.{Line}
use Rattle.py_productions.specs.Names.{ImportedNames}
use Rattle.py_productions.specs.Simples.{Assertion, Returns, Simple, begins, word, assertion, result, Item, Import, ImportFrom, FileSimple, modules, names_of, simple_statement}
use Rattle.py_productions.proofs.Parts.{optional-out, optional-in, past-out, past-into, maybe-out, maybe-into, many-map, maybe-map, row-map}
use Rattle.py_productions.proofs.ExpressionLaws.{exprs-out, exprs-into}
use Rattle.py_productions.proofs.BegunLaws.{begun-out, begun-into}
use Rattle.py_productions.proofs.NameLaws.{imported-out, imported-into, items-map}
use Rattle.py_productions.proofs.MemberLaws.{dotted-out, dotted-into}

-- ---- lines

module _ (P Q : List Token → Stmt → Type 0) (f : (x : List Token) (s : Stmt) → P x s → Q x s) where
  pub line-map : (x : List Token) (ss : List Stmt) → Line P x ss → Line Q x ss
  line-map = row-map (Items kinds.Semicolon P) (Items kinds.Semicolon Q) (Word kinds.Newline) (Word kinds.Newline) first_of (items-map kinds.Semicolon P Q f) (λ y n h. h)

-- ---- statements of words

module _ (room : ℕ) where
  abbrev e : Phrase Token Expr
  e = expr room

  assert-out : (x : List Token) (s : Stmt) → (assert_stmt e).Spells x s → Assertion room x s
  unfolding assert_stmt
  assert-out x s h =
      let k = h.second in
      record {
        front = h.front;
        back = h.back;
        one = h.one;
        two = h.two;
        split = h.split;
        first = h.first;
        second = record {
          front = k.front;
          back = k.back;
          one = k.one;
          two = k.two;
          split = k.split;
          first = k.first;
          second = maybe-out (code kinds.Comma) e k.back k.two (optional-out comma_first (past (code kinds.Comma) e) k.back k.two k.second);
          value = k.value;
        };
        value = h.value;
      }

  assert-into : (x : List Token) (s : Stmt) → Assertion room x s → (assert_stmt e).Spells x s
  unfolding assert_stmt
  assert-into x s h =
      let k = h.second in
      record {
        front = h.front;
        back = h.back;
        one = h.one;
        two = h.two;
        split = h.split;
        first = h.first;
        second = record {
          front = k.front;
          back = k.back;
          one = k.one;
          two = k.two;
          split = k.split;
          first = k.first;
          second = optional-in comma_first (past (code kinds.Comma) e) k.back k.two (maybe-into (code kinds.Comma) e k.back k.two k.second);
          value = k.value;
        };
        value = h.value;
      }

  return-out : (x : List Token) (s : Stmt) → (return_stmt e).Spells x s → Returns room x s
  unfolding return_stmt
  return-out x s h = record {
    front = h.front;
    back = h.back;
    one = h.one;
    two = h.two;
    split = h.split;
    first = h.first;
    second = maybe-map (exprs e).Spells (Expressions (Expression room)) (exprs-out e) h.back h.two (optional-out expr_first (exprs e) h.back h.two h.second);
    value = h.value;
  }

  return-into : (x : List Token) (s : Stmt) → Returns room x s → (return_stmt e).Spells x s
  unfolding return_stmt
  return-into x s h = record {
    front = h.front;
    back = h.back;
    one = h.one;
    two = h.two;
    split = h.split;
    first = h.first;
    second = optional-in expr_first (exprs e) h.back h.two (maybe-map (Expressions (Expression room)) (exprs e).Spells (exprs-into e) h.back h.two h.second);
    value = h.value;
  }

  -- ---- simple statements

  words-out : (returns loops : Bool) (x : List Token) (s : Stmt) → (assert_or_return e returns).Spells x s → Simple room returns loops x s
  unfolding assert_or_return
  words-out false loops x s h = assertion (assert-out x s h)
  words-out true loops x s (inl h) = assertion (assert-out x s h)
  words-out true loops x s (inr h) = result refl (return-out x s h)

  pub simple-out : (returns loops : Bool) (x : List Token) (s : Stmt) → (simple e returns loops).Spells x s → Simple room returns loops x s
  unfolding simple
  simple-out returns loops x s (inl h) = begins (begun-out room x s h)
  simple-out returns loops x s (inr (inl h)) = word h
  simple-out returns loops x s (inr (inr h)) = words-out returns loops x s h

  words-assert : (returns : Bool) (x : List Token) (s : Stmt) → Assertion room x s → (assert_or_return e returns).Spells x s
  unfolding assert_or_return
  words-assert false x s h = assert-into x s h
  words-assert true x s h = inl (assert-into x s h)

  words-return : (returns : Bool) (x : List Token) (s : Stmt) → returns ≡ true → Returns room x s → (assert_or_return e returns).Spells x s
  unfolding assert_or_return
  words-return false x s k h = absurd (cc k)
  words-return true x s k h = inr (return-into x s h)

  pub simple-into : (returns loops : Bool) (x : List Token) (s : Stmt) → Simple room returns loops x s → (simple e returns loops).Spells x s
  unfolding simple
  simple-into returns loops x s (begins h) = inl (begun-into room x s h)
  simple-into returns loops x s (word h) = inr (inl h)
  simple-into returns loops x s (assertion h) = inr (inr (words-assert returns x s h))
  simple-into returns loops x s (result k h) = inr (inr (words-return returns x s k h))

-- ---- imports

abbrev OneItem : Phrase Token Imported
OneItem = sequence dotted (λ d. alias) imported_of

item-out : (x : List Token) (i : Imported) → OneItem.Spells x i → Item x i
unfolding alias name
item-out x i h = record {
  front = h.front;
  back = h.back;
  one = h.one;
  two = h.two;
  split = h.split;
  first = dotted-out h.front h.one h.first;
  second = maybe-out (code kinds.As) (token (name_of name_codes)) h.back h.two (optional-out (code kinds.As ∷ []) (past (code kinds.As) (token (name_of name_codes))) h.back h.two h.second);
  value = h.value;
}

item-into : (x : List Token) (i : Imported) → Item x i → OneItem.Spells x i
unfolding alias name
item-into x i h = record {
  front = h.front;
  back = h.back;
  one = h.one;
  two = h.two;
  split = h.split;
  first = dotted-into h.front h.one h.first;
  second = optional-in (code kinds.As ∷ []) (past (code kinds.As) (token (name_of name_codes))) h.back h.two (maybe-into (code kinds.As) (token (name_of name_codes)) h.back h.two h.second);
  value = h.value;
}

abbrev FurtherItem : List Token → Imported → Type 0
FurtherItem = Row (Word kinds.Comma) Item second

import-out : (x : List Token) (s : Stmt) → import_stmt.Spells x s → Import x s
unfolding import_stmt with_commas
import-out x s h =
    let k = h.second in
    record {
      front = h.front;
      back = h.back;
      one = h.one;
      two = h.two;
      split = h.split;
      first = h.first;
      second = record {
        front = k.front;
        back = k.back;
        one = k.one;
        two = k.two;
        split = k.split;
        first = item-out k.front k.one k.first;
        second = many-map (past (code kinds.Comma) OneItem).Spells FurtherItem
            (λ y i w. row-map (Word kinds.Comma) (Word kinds.Comma) OneItem.Spells Item second (λ z n v. v) item-out y i (past-out (code kinds.Comma) OneItem y i w)) k.back k.two k.second;
        value = k.value;
      };
      value = h.value;
    }

import-into : (x : List Token) (s : Stmt) → Import x s → import_stmt.Spells x s
unfolding import_stmt with_commas
import-into x s h =
    let k = h.second in
    record {
      front = h.front;
      back = h.back;
      one = h.one;
      two = h.two;
      split = h.split;
      first = h.first;
      second = record {
        front = k.front;
        back = k.back;
        one = k.one;
        two = k.two;
        split = k.split;
        first = item-into k.front k.one k.first;
        second = many-map FurtherItem (past (code kinds.Comma) OneItem).Spells
            (λ y i w. past-into (code kinds.Comma) OneItem y i (row-map (Word kinds.Comma) (Word kinds.Comma) Item OneItem.Spells second (λ z n v. v) item-into y i w)) k.back k.two k.second;
        value = k.value;
      };
      value = h.value;
    }

from-out : (x : List Token) (s : Stmt) → from_stmt.Spells x s → ImportFrom x s
unfolding from_stmt
from-out x s h =
    let k = h.second in
    record {
      front = h.front;
      back = h.back;
      one = h.one;
      two = h.two;
      split = h.split;
      first = h.first;
      second = record {
        front = k.front;
        back = k.back;
        one = k.one;
        two = k.two;
        split = k.split;
        first = dotted-out k.front k.one k.first;
        second = row-map (Word kinds.Import) (Word kinds.Import) imported_names.Spells ImportedNames second (λ z n v. v) imported-out k.back k.two (past-out (code kinds.Import) imported_names k.back k.two k.second);
        value = k.value;
      };
      value = h.value;
    }

from-into : (x : List Token) (s : Stmt) → ImportFrom x s → from_stmt.Spells x s
unfolding from_stmt
from-into x s h =
    let k = h.second in
    record {
      front = h.front;
      back = h.back;
      one = h.one;
      two = h.two;
      split = h.split;
      first = h.first;
      second = record {
        front = k.front;
        back = k.back;
        one = k.one;
        two = k.two;
        split = k.split;
        first = dotted-into k.front k.one k.first;
        second = past-into (code kinds.Import) imported_names k.back k.two (row-map (Word kinds.Import) (Word kinds.Import) ImportedNames imported_names.Spells second (λ z n v. v) imported-into k.back k.two k.second);
        value = k.value;
      };
      value = h.value;
    }

module _ (room : ℕ) where
  pub file-out : (x : List Token) (s : Stmt) → (file_simple (expr room)).Spells x s → FileSimple room x s
  unfolding file_simple
  file-out x s (inl h) = modules (import-out x s h)
  file-out x s (inr (inl h)) = names_of (from-out x s h)
  file-out x s (inr (inr h)) = simple_statement (simple-out room false false x s h)

  pub file-into : (x : List Token) (s : Stmt) → FileSimple room x s → (file_simple (expr room)).Spells x s
  unfolding file_simple
  file-into x s (modules h) = inl (import-into x s h)
  file-into x s (names_of h) = inr (inl (from-into x s h))
  file-into x s (simple_statement h) = inr (inr (simple-into room false false x s h))
