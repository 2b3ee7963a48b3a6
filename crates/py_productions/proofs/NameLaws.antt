-- Names that imports and loops bind are those of the productions.
use Rattle.std.proofs.Common.{◌≡◌, List, [], ◌∷◌, ◌++◌, Option, ◌⊎◌, inl, inr, refl, sym, ap, subst, ◌∙◌, append_assoc}
use Rattle.phrases.specs.Phrases.{Phrase, token, sequence}
use Rattle.phrases.proofs.Sets.{append_none}
use Rattle.py_literals.specs.declared.place.Pos.{Pos}
use Rattle.py_lexer.specs.declared.token.Kind.{Kind}
use Rattle.py_lexer.specs.declared.token.Kind.TheVariants as kinds
use Rattle.py_lexer.specs.declared.token.Token.{Token}
use Rattle.py_ast.specs.Kinds.{code}
use Rattle.py_ast.specs.Tokens.{name_codes, name_of}
use Rattle.py_ast.specs.Trees.{all_given}
use Rattle.py_ast.specs.Grammar.{both, first_of, second, mapped, past, ended, comma_item, comma_items}
use Rattle.py_ast.specs.Statements.{cons, with_commas, name, alias, imported_name, imported_names, further_names, loop_names}
use Rattle.py_ast.specs.declared.tree.NameAt.{NameAt}
use Rattle.py_ast.specs.declared.statement.ImportedName.{ImportedName}
use Rattle.py_productions.specs.Rules.{Word, Row, Further, Items}
use Rattle.py_productions.specs.Targets.{AnyName, AllNames}
use Rattle.py_productions.specs.Names.{As, Imports, ImportedNames, bare_imports, enclosed_imports, LoopNames, one_name, bare_names, enclosed_names}
use Rattle.py_productions.proofs.Parts.{mapped-out, mapped-in, optional-out, optional-in, past-out, past-into, ended-out, ended-into, maybe-out, maybe-into, many-map, row-map}
use Rattle.py_productions.proofs.Commas.{commas, commas-given, given-is, Free, free-stand, run-out, run-into, free-items-out, free-items-into}

-- ---- names

name-is : (x : List Token) (n : NameAt) → name.Spells x n → AnyName x n
unfolding name
name-is x n h = h

is-name : (x : List Token) (n : NameAt) → AnyName x n → name.Spells x n
unfolding name
is-name x n h = h

-- ---- imports

as-out : (x : List Token) (n : ImportedName) → imported_name.Spells x n → As x n
unfolding imported_name name alias
as-out x n h = record {
  front = h.front;
  back = h.back;
  one = h.one;
  two = h.two;
  split = h.split;
  first = h.first;
  second = maybe-out (code kinds.As) (token (name_of name_codes)) h.back h.two (optional-out (code kinds.As ∷ []) (past (code kinds.As) (token (name_of name_codes))) h.back h.two h.second);
  value = h.value;
}

as-into : (x : List Token) (n : ImportedName) → As x n → imported_name.Spells x n
unfolding imported_name name alias
as-into x n h = record {
  front = h.front;
  back = h.back;
  one = h.one;
  two = h.two;
  split = h.split;
  first = h.first;
  second = optional-in (code kinds.As ∷ []) (past (code kinds.As) (token (name_of name_codes))) h.back h.two (maybe-into (code kinds.As) (token (name_of name_codes)) h.back h.two h.second);
  value = h.value;
}

pub items-map : {A : Type 0} (mark : Kind) (P Q : List Token → A → Type 0) (f : (x : List Token) (a : A) → P x a → Q x a) (x : List Token) (items : List A) → Items mark P x items → Items mark Q x items
items-map mark P Q f x items i =
    let l = i.listed in
    record {
      first = i.first;
      others = i.others;
      end = i.end;
      listed = record {
        front = l.front;
        middle = l.middle;
        back = l.back;
        split = l.split;
        item = f l.front i.first l.item;
        further = many-map (Further mark P) (Further mark Q) (row-map (Word mark) (Word mark) P Q both (λ y a h. h) f) l.middle i.others l.further;
        trailing = l.trailing;
      };
      all = i.all;
    }

-- in parentheses that open no nesting
module _ {A : Type 0} (g : Phrase Token A) (P : List Token → A → Type 0) where
  abbrev InParentheses : Phrase Token A
  InParentheses = past (code kinds.LeftParen) (ended g (code kinds.RightParen))

  pub enclosed-out : ((x : List Token) (a : A) → g.Spells x a → P x a) → (x : List Token) (a : A) → InParentheses.Spells x a → Row (Word kinds.LeftParen) (Row P (Word kinds.RightParen) first_of) second x a
  enclosed-out f x a h =
      let k = past-out (code kinds.LeftParen) (ended g (code kinds.RightParen)) x a h in
      let e = ended-out (code kinds.RightParen) g k.back k.two k.second in
      record {
        front = k.front;
        back = k.back;
        one = k.one;
        two = k.two;
        split = k.split;
        first = k.first;
        second = record { front = e.front; back = e.back; one = e.one; two = e.two; split = e.split; first = f e.front e.one e.first; second = e.second; value = e.value };
        value = k.value;
      }

  pub enclosed-into : ((x : List Token) (a : A) → P x a → g.Spells x a) → (x : List Token) (a : A) → Row (Word kinds.LeftParen) (Row P (Word kinds.RightParen) first_of) second x a → InParentheses.Spells x a
  enclosed-into f x a k =
      let e = k.second in
      past-into (code kinds.LeftParen) (ended g (code kinds.RightParen)) x a (record {
        front = k.front;
        back = k.back;
        one = k.one;
        two = k.two;
        split = k.split;
        first = k.first;
        second = ended-into (code kinds.RightParen) g k.back k.two (record { front = e.front; back = e.back; one = e.one; two = e.two; split = e.split; first = f e.front e.one e.first; second = e.second; value = e.value });
        value = k.value;
      })

abbrev NamesInCommas : Phrase Token (List ImportedName)
NamesInCommas = mapped (sequence imported_name (λ n. comma_items (λ s. name_codes) (λ s. imported_name) (λ n. tt {0}) (tt {0})) both) all_given

imports-out : (x : List Token) (ns : List ImportedName) → (with_commas imported_name).Spells x ns → Imports x ns
unfolding with_commas
imports-out x ns h =
    record {
      front = h.front;
      back = h.back;
      one = h.one;
      two = h.two;
      split = h.split;
      first = as-out h.front h.one h.first;
      second = many-map (past (code kinds.Comma) imported_name).Spells (Row (Word kinds.Comma) As second)
          (λ y a k. row-map (Word kinds.Comma) (Word kinds.Comma) imported_name.Spells As second (λ z b w. w) as-out y a (past-out (code kinds.Comma) imported_name y a k)) h.back h.two h.second;
      value = h.value;
    }

imports-into : (x : List Token) (ns : List ImportedName) → Imports x ns → (with_commas imported_name).Spells x ns
unfolding with_commas
imports-into x ns h =
    record {
      front = h.front;
      back = h.back;
      one = h.one;
      two = h.two;
      split = h.split;
      first = as-into h.front h.one h.first;
      second = many-map (Row (Word kinds.Comma) As second) (past (code kinds.Comma) imported_name).Spells
          (λ y a k. past-into (code kinds.Comma) imported_name y a (row-map (Word kinds.Comma) (Word kinds.Comma) As imported_name.Spells second (λ z b w. w) as-into y a k)) h.back h.two h.second;
      value = h.value;
    }

pub imported-out : (x : List Token) (ns : List ImportedName) → imported_names.Spells x ns → ImportedNames x ns
unfolding imported_names
imported-out x ns (inl h) = bare_imports (imports-out x ns h)
imported-out x ns (inr h) =
    enclosed_imports (enclosed-out NamesInCommas (Items kinds.Comma As) (λ y a k. items-map kinds.Comma imported_name.Spells As as-out y a (free-items-out name_codes imported_name y a k)) x ns h)

pub imported-into : (x : List Token) (ns : List ImportedName) → ImportedNames x ns → imported_names.Spells x ns
unfolding imported_names
imported-into x ns (bare_imports h) = inl (imports-into x ns h)
imported-into x ns (enclosed_imports h) =
    inr (enclosed-into NamesInCommas (Items kinds.Comma As) (λ y a k. free-items-into name_codes imported_name y a (items-map kinds.Comma As imported_name.Spells as-into y a k)) x ns h)

-- ---- loops

abbrev SomeNames : Phrase Token (List NameAt)
SomeNames = sequence name (λ n. further_names) cons

abbrev BehindComma : Phrase Token (NameAt × List (Pos × Option NameAt))
BehindComma = sequence (past (code kinds.Comma) name) (λ n. comma_items (λ s. name_codes) (λ s. name) (λ n. tt {0}) (tt {0})) both

names-out : (front back : List Token) (n : NameAt) (ns : List NameAt) → AnyName front n → further_names.Spells back ns → AllNames AnyName (front ++ back) (n ∷ ns)
unfolding further_names comma_items comma_item name
names-out front back n ns p h =
    let m = mapped-out BehindComma all_given back ns h in
    let t = m.spelled in
    let c = past-out (code kinds.Comma) (token (name_of name_codes)) t.front t.one t.first in
    let r = run-out kinds.Comma (λ (s : Unit {0}). name_codes) (λ s. token (name_of name_codes)) AnyName Free (λ a. tt) (λ s y b w. (w, tt)) (λ s y b w o. w) tt t.back t.two t.second in
    let f : Further kinds.Comma AnyName t.front (c.one, t.one) = record { front = c.front; back = c.back; one = c.one; two = c.two; split = c.split; first = c.first; second = c.second; value = ap (λ (k : NameAt). (c.one, k)) c.value } in (
      c.one,
      record {
        second = t.one;
        further = r.others;
        end = r.end;
        listed = record {
          front = front;
          middle = t.front ++ r.rest.middle;
          back = r.rest.back;
          split = ap (λ (w : List Token). front ++ w) (t.split ∙ ap (λ (w : List Token). t.front ++ w) r.rest.split ∙ sym (append_assoc t.front r.rest.middle r.rest.back));
          item = p;
          further = (t.front, r.rest.middle, refl, f, r.rest.further);
          trailing = r.rest.trailing;
        };
        all = m.value ∙ ap all_given t.value ∙ given-is t.one t.two r.others r.end r.same;
      },
    )

some-out : (x : List Token) (ns : List NameAt) → SomeNames.Spells x ns → AllNames AnyName x ns
unfolding name
some-out x ns h = subst (λ (w : List NameAt). AllNames AnyName x w) (sym h.value) (subst (λ (w : List Token). AllNames AnyName w (h.one ∷ h.two)) (sym h.split) (names-out h.front h.back h.one h.two h.first h.second))

some-into : (x : List Token) (ns : List NameAt) → AllNames AnyName x ns → SomeNames.Spells x ns
unfolding further_names comma_items comma_item name
some-into x [] n = absurd n
some-into x (n ∷ ns) (c, k) =
    let l = k.listed in
    let (y, z, e, f, m) = l.further in
    let one : f.one ≡ c = sym (ap (λ (p : Pos × NameAt). p.0) f.value) in
    let two : k.second ≡ f.two = ap (λ (p : Pos × NameAt). p.1) f.value in
    let first : (past (code kinds.Comma) (token (name_of name_codes))).Spells y k.second =
    past-into (code kinds.Comma) (token (name_of name_codes)) y k.second (record { front = f.front; back = f.back; one = f.one; two = f.two; split = f.split; first = f.first; second = f.second; value = two }) in
    let behind : BehindComma.Spells (y ++ (z ++ l.back)) (k.second, commas k.further k.end) = record {
      front = y;
      back = z ++ l.back;
      one = k.second;
      two = commas k.further k.end;
      split = refl;
      first = first;
      second = run-into kinds.Comma (λ (s : Unit {0}). name_codes) (λ s. token (name_of name_codes)) AnyName Free (λ a. tt) (λ s u b w. (w, tt)) (λ s u b w o. w) tt z l.back k.further k.end m l.trailing (free-stand _);
      value = refl;
    } in
    record {
      front = l.front;
      back = y ++ (z ++ l.back);
      one = n;
      two = ns;
      split = l.split ∙ ap (λ (w : List Token). l.front ++ (w ++ l.back)) e ∙ ap (λ (w : List Token). l.front ++ w) (append_assoc y z l.back);
      first = l.item;
      second = subst (λ w. (mapped BehindComma all_given).Spells (y ++ (z ++ l.back)) w) (ap (λ w. k.second ∷ w) (commas-given k.further k.end) ∙ sym k.all) (mapped-in BehindComma all_given (y ++ (z ++ l.back)) (k.second, commas k.further k.end) behind);
      value = refl;
    }

pub loop-out : (x : List Token) (ns : List NameAt) → loop_names.Spells x ns → LoopNames x ns
unfolding loop_names
loop-out x ns (inr h) = enclosed_names (enclosed-out SomeNames (AllNames AnyName) some-out x ns h)
loop-out x ns (inl h) = by h.second
  where
    by : further_names.Spells h.back h.two ⊎ ((h.back ≡ []) × (h.two ≡ [])) → LoopNames x ns
    by (inl k) = bare_names (some-out x ns (record { front = h.front; back = h.back; one = h.one; two = h.two; split = h.split; first = h.first; second = k; value = h.value }))
    by (inr (e, n)) =
        let all : h.front ≡ x = sym (h.split ∙ ap (λ (w : List Token). h.front ++ w) e ∙ append_none h.front) in
        one_name (record { name = h.one; spelled = subst (λ (w : List Token). AnyName w h.one) all (name-is h.front h.one h.first); alone = h.value ∙ ap (λ w. h.one ∷ w) n })

pub loop-into : (x : List Token) (ns : List NameAt) → LoopNames x ns → loop_names.Spells x ns
unfolding loop_names
loop-into x ns (one_name o) = inl (record { front = x; back = []; one = o.name; two = []; split = sym (append_none x); first = is-name x o.name o.spelled; second = inr (refl, refl); value = o.alone })
loop-into x ns (bare_names h) = let k = some-into x ns h in inl (record { front = k.front; back = k.back; one = k.one; two = k.two; split = k.split; first = k.first; second = inl k.second; value = k.value })
loop-into x ns (enclosed_names h) = inr (enclosed-into SomeNames (AllNames AnyName) some-into x ns h)
