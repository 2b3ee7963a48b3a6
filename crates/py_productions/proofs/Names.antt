-- Lists of names are read as lists of expressions.
use Rattle.std.proofs.Common.{◌≡◌, ℕ, suc, Bool, true, false, cond, not, ◌&&◌, List, [], ◌∷◌, ◌++◌, map, Option, refl, sym, ap, ◌∙◌}
use Rattle.phrases.specs.Phrases.{Phrase}
use Rattle.phrases.specs.Spelling.{Many}
use Rattle.py_literals.specs.declared.place.Pos.{Pos}
use Rattle.py_lexer.specs.declared.token.Kind.TheVariants as kinds
use Rattle.py_lexer.specs.declared.token.Token.{Token}
use Rattle.py_ast.specs.Nested.{nest_shapes}
use Rattle.py_ast.specs.Trees.{leaf, given, OpenForm, open_form, postfix_of}
use Rattle.py_ast.specs.Grammar.{chain, primary, Whole, nested, shaped, expr}
use Rattle.py_ast.specs.Statements.{is_bare_form, is_bare, are_names, form_target, target_of}
use Rattle.py_ast.specs.Files.{name_expr}
use Rattle.py_ast.specs.declared.tree.Expr.{Expr, out-Expr}
use Rattle.py_ast.specs.declared.tree.Form.TheOpen.{Form-F as open_forms}
use Rattle.py_ast.specs.declared.tree.Form.TheVariants as forms
use Rattle.py_ast.specs.declared.tree.NameAt.{NameAt}
use Rattle.py_ast.specs.declared.tree.Step.{Step}
use Rattle.py_ast.specs.declared.statement.Target.TheVariants as targets
use Rattle.py_ast.proofs.Expressions.{alone}
use Rattle.py_productions.specs.Rules.{Further, values, Listed}
use Rattle.py_productions.specs.Targets.{Operand, with_step, IsName}
use Rattle.py_productions.proofs.Opened.{open-name, open-tuple, open-postfix}
use Rattle.py_productions.proofs.Primaries.{atom-out, name-atom, with-step-is}
use Rattle.py_productions.proofs.Narrowing.{Narrow, is_name, is_attribute, is_subscript, is_several, is_none, narrow, primary-expr}

-- ---- what stands in a nesting has one less room

pub nested-expr : (room : ℕ) → nested (suc room) Whole ≡ expr room
unfolding nest_shapes shaped
nested-expr room = refl

-- ---- a name is an expression

pub name-expr : (room : ℕ) (x : List Token) (n : NameAt) → Operand x n → (expr room).Spells x (name_expr n)
unfolding primary chain
name-expr room x n o = primary-expr room x (name_expr n) (alone postfix_of x (name_expr n) [] (name-atom room (nested room Whole) x n o) refl)

pub name-target : (n : NameAt) → target_of (name_expr n) ≡ targets.Variable
name-target n = ap form_target (open-name n.name)

name-bare : (n : NameAt) → is_bare (name_expr n) ≡ true
name-bare n = ap is_bare_form (open-name n.name)

pub names-bare : (ns : List NameAt) → are_names (map name_expr ns) ≡ true
names-bare [] = refl
names-bare (n ∷ ns) = rw (name-bare n, names-bare ns) refl

-- ---- an expression that is a name

bare-target : (b : Bool) (f : OpenForm) → (not b && is_bare_form f) ≡ true → cond b targets.Nothing (form_target f) ≡ targets.Variable
bare-target true f h = absurd (cc h)
bare-target false (open_forms.Name n) h = refl
bare-target false _ h = absurd (cc h)

longer-bare : (a : Expr) (ss : List Step) (s : Step) → is_bare (postfix_of a (ss ++ s ∷ [])) ≡ false
longer-bare a [] s = ap is_bare_form (open-postfix a (s ∷ []))
longer-bare a (t ∷ ss) s = ap is_bare_form (open-postfix a (t ∷ ss ++ s ∷ []))

step-bare : (room : ℕ) (e : Phrase Token Expr) (x : List Token) (p : Expr) (s : Step) → (primary room e).Spells x p → is_bare (with_step p s) ≡ false
unfolding primary
step-bare room e x p s h =
    let plain = (atom-out room e h.front h.one h.first).1 in
    ap (λ (k : Expr). is_bare (with_step k s)) h.value ∙ ap is_bare (with-step-is h.one plain h.two s) ∙ longer-bare h.one h.two s

pub bare-name : (room : ℕ) (x : List Token) (t : Expr) → (expr room).Spells x t → is_bare t ≡ true → IsName x t
bare-name room x t h b = by (narrow room x t h)
  where
    by : Narrow room x t → IsName x t
    by (is_name n) = n
    by (is_attribute a) = let f = step-bare room (nested room Whole) a.front a.one a.two a.first in let v = ap is_bare a.value in absurd (cc (b, v, f))
    by (is_subscript a) = let f = step-bare room (nested room Whole) a.front a.one a.two a.first in let v = ap is_bare a.value in absurd (cc (b, v, f))
    by (is_several s) =
        let all = s.first ∷ given (s.comma ∷ s.others) in
        let f : is_bare (leaf s.at (forms.Tuple all)) ≡ false = ap is_bare_form (open-tuple all) in
        let v = ap is_bare s.tree in
        absurd (cc (b, v, f))
    by (is_none n) = let f = bare-target (out-Expr t).enclosed (open_form t) b in absurd (cc (n, f))

-- ---- lists of names

abbrev pub name_pair : Pos × NameAt → Pos × Expr
name_pair p = (p.0, name_expr p.1)

pub values-map : (ns : List (Pos × NameAt)) → values (map name_pair ns) ≡ map name_expr (values ns)
values-map [] = refl
values-map ((at, n) ∷ ns) = ap (λ (k : List Expr). name_expr n ∷ k) (values-map ns)

-- items that are all names
record AllAreNames (x : List Token) (others : List (Pos × Expr)) : Type 0 where
  names : List (Pos × NameAt)
  spelled : Many (Further kinds.Comma Operand) x names
  same : others ≡ map name_pair names

both-true : (a b : Bool) → (a && b) ≡ true → (a ≡ true) × (b ≡ true)
both-true true b h = (refl, h)
both-true false b h = absurd (cc h)

many-names : (room : ℕ) (x : List Token) (others : List (Pos × Expr)) → Many (Further kinds.Comma (expr room).Spells) x others → are_names (values others) ≡ true → AllAreNames x others
many-names room x [] m h = record { names = []; spelled = m; same = refl }
many-names room x ((at, e) ∷ others) (y, z, s, f, m) h =
    let (one, rest) = both-true (is_bare e) (are_names (values others)) h in
    let place : at ≡ f.one = ap (λ (p : Pos × Expr). p.0) f.value in
    let tree : e ≡ f.two = ap (λ (p : Pos × Expr). p.1) f.value in
    let n = bare-name room f.back f.two f.second (ap is_bare (sym tree) ∙ one) in
    let r = many-names room z others m rest in
    let pair : (at, e) ≡ name_pair (f.one, n.name) = let t = n.tree in cc (place, tree, t) in
    record {
      names = (f.one, n.name) ∷ r.names;
      spelled = (y, z, s, record { front = f.front; back = f.back; one = f.one; two = n.name; split = f.split; first = f.first; second = n.spelled; value = refl }, r.spelled);
      same = let t = r.same in cc (pair, t);
    }

-- a list of expressions that are all names
pub record NamesListed (x : List Token) (e : Expr) (others : List (Pos × Expr)) (end : Option Pos) : Type 0 where
  pub first : NameAt
  pub names : List (Pos × NameAt)
  pub listed : Listed kinds.Comma Operand x first names end
  pub head : e ≡ name_expr first
  pub same : others ≡ map name_pair names

pub names-listed : (room : ℕ) (x : List Token) (e : Expr) (others : List (Pos × Expr)) (end : Option Pos) → Listed kinds.Comma (expr room).Spells x e others end → are_names (e ∷ values others) ≡ true → NamesListed x e others end
names-listed room x e others end l h =
    let (one, rest) = both-true (is_bare e) (are_names (values others)) h in
    let n = bare-name room l.front e l.item one in
    let r = many-names room l.middle others l.further rest in
    record {
      first = n.name;
      names = r.names;
      listed = record { front = l.front; middle = l.middle; back = l.back; split = l.split; item = n.spelled; further = r.spelled; trailing = l.trailing };
      head = n.tree;
      same = r.same;
    }

names-many : (room : ℕ) (x : List Token) (ns : List (Pos × NameAt)) → Many (Further kinds.Comma Operand) x ns → Many (Further kinds.Comma (expr room).Spells) x (map name_pair ns)
names-many room x [] m = m
names-many room x ((at, n) ∷ ns) (y, z, s, f, m) =
    (y, z, s, record { front = f.front; back = f.back; one = f.one; two = name_expr f.two; split = f.split; first = f.first; second = name-expr room f.back f.two f.second; value = ap name_pair f.value }, names-many room z ns m)

pub listed-names : (room : ℕ) (x : List Token) (n : NameAt) (ns : List (Pos × NameAt)) (end : Option Pos) → Listed kinds.Comma Operand x n ns end → Listed kinds.Comma (expr room).Spells x (name_expr n) (map name_pair ns) end
listed-names room x n ns end l = record {
  front = l.front;
  middle = l.middle;
  back = l.back;
  split = l.split;
  item = name-expr room l.front n l.item;
  further = names-many room l.middle ns l.further;
  trailing = l.trailing;
}
