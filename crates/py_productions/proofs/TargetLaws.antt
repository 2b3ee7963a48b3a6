-- Expressions that may be assigned to are the targets of the productions.
use Rattle.std.proofs.Common.{◌≡◌, ℕ, zero, suc, Bool, true, false, cond, List, [], ◌∷◌, ◌++◌, map, Option, Some, None, ◌⊎◌, inl, inr, refl, sym, ap, subst, ◌∙◌}
use Rattle.phrases.specs.Phrases.{Phrase}
use Rattle.phrases.specs.Spelling.{Opener}
use Rattle.phrases.proofs.Sets.{append_none}
use Rattle.py_literals.specs.declared.place.Pos.{Pos}
use Rattle.py_lexer.specs.declared.token.Kind.TheVariants as kinds
use Rattle.py_lexer.specs.declared.token.Token.{Token}
use Rattle.py_ast.specs.Kinds.{code, mark_of}
use Rattle.py_ast.specs.Trees.{leaf, given, behind, postfix_of}
use Rattle.py_ast.specs.Grammar.{expr_first, items, step, chain, primary, Whole, nested, expr}
use Rattle.py_ast.specs.Statements.{are_names, tuple_target, form_target, target_of}
use Rattle.py_ast.specs.Files.{name_expr}
use Rattle.py_ast.specs.declared.tree.Expr.{Expr}
use Rattle.py_ast.specs.declared.tree.Form.TheVariants as forms
use Rattle.py_ast.specs.declared.tree.NameAt.{NameAt}
use Rattle.py_ast.specs.declared.tree.Step.{Step}
use Rattle.py_ast.specs.declared.statement.Target.{Target as Kind}
use Rattle.py_ast.specs.declared.statement.Target.TheVariants as targets
use Rattle.py_ast.proofs.Expressions.{alone}
use Rattle.py_productions.specs.Rules.{Word, values, Listed}
use Rattle.py_productions.specs.Expressions.{Expression, listed_tree, Expressions}
use Rattle.py_productions.specs.Targets.{Operand, Names, AllNames, with_step, IsName, IsAttribute, IsSubscript, IsNames, AreEnclosed, Annotable, plain_name, plain_attribute, Single, name, attribute, subscript, Target, single, names, enclosed}
use Rattle.py_productions.proofs.Commas.{commas, commas-given, FreeList}
use Rattle.py_productions.proofs.Opened.{open-tuple}
use Rattle.py_productions.proofs.ExpressionLaws.{items-out, items-into}
use Rattle.py_productions.proofs.Primaries.{Several, several-atom, longer-target, longer-primary}
use Rattle.py_productions.proofs.Narrowing.{attributed-target, subscripted-target, attributed-step, subscripted-step, Narrow, is_name, is_attribute, is_subscript, is_several, is_none, narrow, primary-expr}
use Rattle.py_productions.proofs.Names.{nested-expr, name-expr, name-target, names-bare, name_pair, values-map, NamesListed, names-listed, listed-names}

-- what is assigned to, by the kind of target that the tree is
abbrev pub What : ℕ → List Token → Expr → Kind → Type 0
What room x t targets.Nothing = Unit {0}
What room x t targets.Names = IsNames x t ⊎ AreEnclosed room x t
What room x t targets.Place = IsSubscript room x t
What room x t targets.Variable = IsName x t ⊎ IsAttribute room x t

abbrev Known : ℕ → List Token → Expr → Type 0
Known room x t = What room x t (target_of t)

known : (room : ℕ) (x : List Token) (t : Expr) (k : Kind) → target_of t ≡ k → What room x t k → Known room x t
known room x t k e w = subst (λ (j : Kind). What room x t j) (sym e) w

-- ---- targets

pub name-known : (x : List Token) (t : Expr) → IsName x t → target_of t ≡ targets.Variable
name-known x t n = ap target_of n.tree ∙ name-target n.name

pub attribute-known : (room : ℕ) (x : List Token) (t : Expr) → IsAttribute room x t → target_of t ≡ targets.Variable
attribute-known room x t a = ap target_of a.value ∙ longer-target room (nested room Whole) a.front a.one a.two a.first ∙ attributed-target a.back a.two a.second

pub subscript-known : (room : ℕ) (x : List Token) (t : Expr) → IsSubscript room x t → target_of t ≡ targets.Place
subscript-known room x t a = ap target_of a.value ∙ longer-target room (nested room Whole) a.front a.one a.two a.first ∙ subscripted-target room (nested room Whole) a.back a.two a.second

-- ---- names without parentheses

tuple-target : (e f : Expr) (es : List Expr) (b : Bool) → are_names (e ∷ f ∷ es) ≡ b → tuple_target (e ∷ f ∷ es) ≡ cond b targets.Names targets.Nothing
tuple-target e f es b h = ap (λ (k : Bool). cond k targets.Names targets.Nothing) h

behind-target : (at : Pos) (e : Expr) (es : List Expr) → target_of (behind at e (forms.Tuple es)) ≡ tuple_target es
behind-target at e es = ap form_target (open-tuple es)

leaf-target : (at : Pos) (es : List Expr) → target_of (leaf at (forms.Tuple es)) ≡ tuple_target es
leaf-target at es = ap form_target (open-tuple es)

-- two names at least
record Pairs (x : List Token) (comma : Pos) (e f : Expr) (es : List Expr) : Type 0 where
  first : NameAt
  others : List NameAt
  spelled : Names Operand x first comma others
  all : e ∷ f ∷ es ≡ map name_expr (first ∷ others)
  head : e ≡ name_expr first

same-head : {p q : Pos × Expr} {ps qs : List (Pos × Expr)} → p ∷ ps ≡ q ∷ qs → p ≡ q
same-head h = cc h

same-tail : {p q : Pos × Expr} {ps qs : List (Pos × Expr)} → p ∷ ps ≡ q ∷ qs → ps ≡ qs
same-tail h = cc h

pairs-of : (x : List Token) (comma : Pos) (e f : Expr) (others : List (Pos × Expr)) (end : Option Pos) → NamesListed x e ((comma, f) ∷ others) end → Pairs x comma e f (values others)
pairs-of x comma e f others end n = by n.names n.listed n.same
  where
    by : (ns : List (Pos × NameAt)) → Listed kinds.Comma Operand x n.first ns end → (comma, f) ∷ others ≡ map name_pair ns → Pairs x comma e f (values others)
    by [] l s = absurd (cc s)
    by ((at, m) ∷ ns) l s =
        let pair : (comma, f) ≡ (at, name_expr m) = same-head s in
        let rest : others ≡ map name_pair ns = same-tail s in
        let place : at ≡ comma = sym (ap (λ (p : Pos × Expr). p.0) pair) in
        let tree : f ≡ name_expr m = ap (λ (p : Pos × Expr). p.1) pair in
        let tails : values others ≡ map name_expr (values ns) = ap values rest ∙ values-map ns in
        record {
          first = n.first;
          others = m ∷ values ns;
          spelled = record { second = m; further = ns; end = end; listed = subst (λ (p : Pos). Listed kinds.Comma Operand x n.first ((p, m) ∷ ns) end) place l; all = refl };
          all = ap (λ (k : Expr). k ∷ f ∷ values others) n.head ∙ ap (λ (k : Expr). name_expr n.first ∷ k ∷ values others) tree ∙ ap (λ (k : List Expr). name_expr n.first ∷ name_expr m ∷ k) tails;
          head = n.head;
        }

module _ (room : ℕ) where
  bare-names : (x : List Token) (t e f : Expr) (at : Pos) (others : List (Pos × Expr)) (end : Option Pos) → Listed kinds.Comma (Expression room) x e ((at, f) ∷ others) end → t ≡ behind at e (forms.Tuple (e ∷ f ∷ values others)) → Known room x t
  bare-names x t e f at others end l h = by (are_names (e ∷ f ∷ values others)) refl
    where
      by : (b : Bool) → are_names (e ∷ f ∷ values others) ≡ b → Known room x t
      by false k = known room x t targets.Nothing (ap target_of h ∙ behind-target at e (e ∷ f ∷ values others) ∙ tuple-target e f (values others) false k) tt
      by true k =
          let p = pairs-of x at e f others end (names-listed room x e ((at, f) ∷ others) end l k) in
          let all = p.all in
          let head = p.head in
          known room x t targets.Names (ap target_of h ∙ behind-target at e (e ∷ f ∷ values others) ∙ tuple-target e f (values others) true k)
          (inl (record { first = p.first; comma = at; others = p.others; spelled = p.spelled; tree = cc (h, all, head) }))

-- ---- names in parentheses

-- items in parentheses, by the room that is left
enclosed-by : (room : ℕ) (x : List Token) (t : Expr) → Several room (nested room Whole) x t → Known room x t
enclosed-by zero x t s = absurd (s.opens)
enclosed-by (suc room) x t s = by l.others l.listed l.same
  where
    e : Phrase Token Expr
    e = expr room

    inside : (items e).Spells s.middle (s.first, s.comma ∷ s.others)
    inside = subst (λ (k : Phrase Token Expr). (items k).Spells s.middle (s.first, s.comma ∷ s.others)) (nested-expr room) s.spelled

    l : FreeList expr_first e s.middle s.first (s.comma ∷ s.others)
    l = items-out e s.middle s.first (s.comma ∷ s.others) inside

    tree : (others : List (Pos × Expr)) → s.comma ∷ s.others ≡ commas others l.end → t ≡ leaf s.at (forms.Tuple (s.first ∷ values others))
    tree others h = s.tree ∙ ap (λ (k : List (Pos × Option Expr)). leaf s.at (forms.Tuple (s.first ∷ given k))) h ∙ ap (λ (k : List Expr). leaf s.at (forms.Tuple (s.first ∷ k))) (commas-given others l.end)

    two : (at : Pos) (f : Expr) (others : List (Pos × Expr)) (b : Bool) → are_names (s.first ∷ f ∷ values others) ≡ b → Listed kinds.Comma (Expression room) s.middle s.first ((at, f) ∷ others) l.end → t ≡ leaf s.at (forms.Tuple (s.first ∷ f ∷ values others)) → Known (suc room) x t
    two at f others false k m h = known (suc room) x t targets.Nothing (ap target_of h ∙ leaf-target s.at (s.first ∷ f ∷ values others) ∙ tuple-target s.first f (values others) false k) tt
    two at f others true k m h =
        let p = pairs-of s.middle at s.first f others l.end (names-listed room s.middle s.first ((at, f) ∷ others) l.end m k) in
        let all = p.all in
        known (suc room) x t targets.Names (ap target_of h ∙ leaf-target s.at (s.first ∷ f ∷ values others) ∙ tuple-target s.first f (values others) true k)
        (inr (record {
          front = s.front;
          back = s.middle ++ s.back;
          one = s.at;
          two = p.first ∷ p.others;
          split = s.split;
          first = s.opens;
          second = record { front = s.middle; back = s.back; one = p.first ∷ p.others; two = s.end; split = refl; first = (at, p.spelled); second = s.closes; value = refl };
          value = cc (h, all);
        }))

    by : (others : List (Pos × Expr)) → Listed kinds.Comma (Expression room) s.middle s.first others l.end → s.comma ∷ s.others ≡ commas others l.end → Known (suc room) x t
    by [] m h = known (suc room) x t targets.Nothing (ap target_of (tree [] h) ∙ leaf-target s.at (s.first ∷ [])) tt
    by ((at, f) ∷ others) m h = two at f others (are_names (s.first ∷ f ∷ values others)) refl m (tree ((at, f) ∷ others) h)

-- ---- what expressions may be

alone-known : (room : ℕ) (x : List Token) (t : Expr) → Narrow room x t → Known room x t
alone-known room x t (is_name n) = known room x t targets.Variable (name-known x t n) (inl n)
alone-known room x t (is_attribute a) = known room x t targets.Variable (attribute-known room x t a) (inr a)
alone-known room x t (is_subscript a) = known room x t targets.Place (subscript-known room x t a) a
alone-known room x t (is_several s) = enclosed-by room x t s
alone-known room x t (is_none n) = known room x t targets.Nothing n tt

pub what-is : (room : ℕ) (x : List Token) (t : Expr) → Expressions (Expression room) x t → Known room x t
what-is room x t h = by h.others h.end h.listed h.tree
  where
    by : (others : List (Pos × Expr)) (end : Option Pos) → Listed kinds.Comma (Expression room) x h.first others end → t ≡ listed_tree h.first others end → Known room x t
    by [] None l e =
        let all : l.front ≡ x = sym (l.split ∙ ap (λ (k : List Token). l.front ++ (k ++ l.back)) l.further ∙ ap (λ (k : List Token). l.front ++ k) l.trailing ∙ append_none l.front) in
        subst (λ (k : List Token). Known room k t) all (subst (λ (k : Expr). Known room l.front k) (sym e) (alone-known room l.front h.first (narrow room l.front h.first l.item)))
    by [] (Some at) l e = known room x t targets.Nothing (ap target_of e ∙ behind-target at h.first (h.first ∷ [])) tt
    by ((at, f) ∷ others) end l e = bare-names room x t h.first f at others end l e

-- ---- and targets are expressions

-- one expression alone
one-expression : (room : ℕ) (x : List Token) (t : Expr) → Expression room x t → Expressions (Expression room) x t
one-expression room x t h = record {
  first = t;
  others = [];
  end = None;
  listed = record { front = x; middle = []; back = []; split = sym (append_none x); item = h; further = refl; trailing = refl };
  tree = refl;
}

name-expressions : (room : ℕ) (x : List Token) (t : Expr) → IsName x t → Expressions (Expression room) x t
name-expressions room x t n = one-expression room x t (subst (λ (k : Expr). Expression room x k) (sym n.tree) (name-expr room x n.name n.spelled))

longer-expressions : (room : ℕ) (x front back : List Token) (t p : Expr) (s : Step) → x ≡ front ++ back → t ≡ with_step p s → (primary room (nested room Whole)).Spells front p
    → ((c : Bool) → (step room (nested room Whole) c).Spells back s) → Expressions (Expression room) x t
longer-expressions room x front back t p s e v h k =
    let m = longer-primary room (nested room Whole) front back p s h k in
    let o = primary-expr room (front ++ back) (with_step p s) m in
    one-expression room x t (subst (λ (w : List Token). Expression room w t) (sym e) (subst (λ (w : Expr). Expression room (front ++ back) w) (sym v) o))

attribute-expressions : (room : ℕ) (x : List Token) (t : Expr) → IsAttribute room x t → Expressions (Expression room) x t
attribute-expressions room x t a = longer-expressions room x a.front a.back t a.one a.two a.split a.value a.first (attributed-step room (nested room Whole) a.back a.two a.second)

subscript-expressions : (room : ℕ) (x : List Token) (t : Expr) → IsSubscript room x t → Expressions (Expression room) x t
subscript-expressions room x t a = longer-expressions room x a.front a.back t a.one a.two a.split a.value a.first (subscripted-step room (nested room Whole) a.back a.two a.second)

names-expressions : (room : ℕ) (x : List Token) (t : Expr) → IsNames x t → Expressions (Expression room) x t
names-expressions room x t n =
    let s = n.spelled in
    record {
      first = name_expr n.first;
      others = map name_pair ((n.comma, s.second) ∷ s.further);
      end = s.end;
      listed = listed-names room x n.first ((n.comma, s.second) ∷ s.further) s.end s.listed;
      tree = n.tree ∙ ap (λ (k : List NameAt). behind n.comma (name_expr n.first) (forms.Tuple (map name_expr (n.first ∷ k)))) s.all
          ∙ ap (λ (k : List Expr). behind n.comma (name_expr n.first) (forms.Tuple (name_expr n.first ∷ name_expr s.second ∷ k))) (sym (values-map s.further));
    }

pub names-known : (x : List Token) (t : Expr) → IsNames x t → target_of t ≡ targets.Names
names-known x t n =
    let s = n.spelled in
    ap target_of n.tree ∙ behind-target n.comma (name_expr n.first) (map name_expr (n.first ∷ n.others)) ∙ ap (λ (k : List NameAt). tuple_target (map name_expr (n.first ∷ k))) s.all
    ∙ tuple-target (name_expr n.first) (name_expr s.second) (map name_expr (values s.further)) true (names-bare (n.first ∷ s.second ∷ values s.further))

-- names in parentheses, with the comma behind the first
record Enclosed (room : ℕ) (x : List Token) (t : Expr) : Type 0 where
  at : Pos
  first : NameAt
  comma : Pos
  others : List NameAt
  front : List Token
  middle : List Token
  back : List Token
  end : Pos
  split : x ≡ front ++ (middle ++ back)
  opens : Opener room (mark_of (code kinds.LeftParen)) front at
  spelled : Names Operand middle first comma others
  closes : Word kinds.RightParen back end
  tree : t ≡ leaf at (forms.Tuple (map name_expr (first ∷ others)))

enclosed-of : (room : ℕ) (x : List Token) (t : Expr) → AreEnclosed room x t → Enclosed room x t
enclosed-of room x t h = by h.second.one h.second.first (h.value ∙ ap (λ (k : List NameAt). leaf h.one (forms.Tuple (map name_expr k))) h.second.value)
  where
    by : (ns : List NameAt) → AllNames Operand h.second.front ns → t ≡ leaf h.one (forms.Tuple (map name_expr ns)) → Enclosed room x t
    by [] n e = absurd n
    by (n ∷ ns) (c, s) e = record {
      at = h.one;
      first = n;
      comma = c;
      others = ns;
      front = h.front;
      middle = h.second.front;
      back = h.second.back;
      end = h.second.two;
      split = h.split ∙ ap (λ (k : List Token). h.front ++ k) h.second.split;
      opens = h.first;
      spelled = s;
      closes = h.second.second;
      tree = e;
    }

pub enclosed-known : (room : ℕ) (x : List Token) (t : Expr) → AreEnclosed room x t → target_of t ≡ targets.Names
enclosed-known room x t h =
    let n = enclosed-of room x t h in
    let s = n.spelled in
    ap target_of n.tree ∙ leaf-target n.at (map name_expr (n.first ∷ n.others)) ∙ ap (λ (k : List NameAt). tuple_target (map name_expr (n.first ∷ k))) s.all
    ∙ tuple-target (name_expr n.first) (name_expr s.second) (map name_expr (values s.further)) true (names-bare (n.first ∷ s.second ∷ values s.further))

enclosed-several : (room : ℕ) (x : List Token) (t : Expr) → Enclosed room x t → Several room (nested room Whole) x t
enclosed-several zero x t n = absurd (n.opens)
enclosed-several (suc room) x t n =
    let s = n.spelled in
    let l = listed-names room n.middle n.first ((n.comma, s.second) ∷ s.further) s.end s.listed in
    let i = items-into (expr room) n.middle (name_expr n.first) (map name_pair ((n.comma, s.second) ∷ s.further)) s.end l in
    record {
      at = n.at;
      first = name_expr n.first;
      comma = (n.comma, Some (name_expr s.second));
      others = commas (map name_pair s.further) s.end;
      front = n.front;
      middle = n.middle;
      back = n.back;
      end = n.end;
      split = n.split;
      opens = n.opens;
      spelled = subst (λ (k : Phrase Token Expr). (items k).Spells n.middle (name_expr n.first, (n.comma, Some (name_expr s.second)) ∷ commas (map name_pair s.further) s.end)) (sym (nested-expr room)) i;
      closes = n.closes;
      tree = n.tree ∙ ap (λ (k : List NameAt). leaf n.at (forms.Tuple (map name_expr (n.first ∷ k)))) s.all
          ∙ ap (λ (k : List Expr). leaf n.at (forms.Tuple (name_expr n.first ∷ name_expr s.second ∷ k))) (sym (commas-given (map name_pair s.further) s.end ∙ values-map s.further));
    }

several-expr : (room : ℕ) (x : List Token) (t : Expr) → Several room (nested room Whole) x t → (expr room).Spells x t
unfolding primary chain
several-expr room x t s = primary-expr room x t (alone postfix_of x t [] (several-atom room (nested room Whole) x t s) refl)

enclosed-expressions : (room : ℕ) (x : List Token) (t : Expr) → AreEnclosed room x t → Expressions (Expression room) x t
enclosed-expressions room x t h = one-expression room x t (several-expr room x t (enclosed-several room x t (enclosed-of room x t h)))

-- ---- targets, by what may follow them

pub single-expressions : (room : ℕ) (x : List Token) (t : Expr) → Single room x t → Expressions (Expression room) x t
single-expressions room x t (name n) = name-expressions room x t n
single-expressions room x t (attribute a) = attribute-expressions room x t a
single-expressions room x t (subscript a) = subscript-expressions room x t a

pub annotable-expressions : (room : ℕ) (x : List Token) (t : Expr) → Annotable room x t → Expressions (Expression room) x t
annotable-expressions room x t (plain_name n) = name-expressions room x t n
annotable-expressions room x t (plain_attribute a) = attribute-expressions room x t a

pub target-expressions : (room : ℕ) (x : List Token) (t : Expr) → Target room x t → Expressions (Expression room) x t
target-expressions room x t (single s) = single-expressions room x t s
target-expressions room x t (names n) = names-expressions room x t n
target-expressions room x t (enclosed n) = enclosed-expressions room x t n
