-- No tokens are judged in two ways.
use Rattle.std.proofs.Common.{◌≡◌, ℕ, ◌+◌, ◌-◌, List, [], ◌∷◌, ◌++◌, length, Result, Ok, Err, refl, sym, ap, subst, ◌∙◌, append_assoc}
use Rattle.phrases.specs.Reading.{Stuck}
use Rattle.phrases.specs.Verdict.{Viable, EndsAt, IsShallow, Longest, StopsAt, TooDeepAt}
use Rattle.phrases.specs.declared.fault.Fault.TheVariants as faults
use Rattle.phrases.proofs.Sets.{append_none}
use Rattle.py_literals.specs.declared.place.Pos.{Pos}
use Rattle.py_lexer.specs.declared.form.Form.{Form}
use Rattle.py_lexer.specs.declared.token.Token.{Token}
use Rattle.py_forms.specs.declared.telling.ToldForm.{ToldForm}
use Rattle.py_forms.specs.Roles.{roles_of, back_of}
use Rattle.py_forms.specs.Forms.{told}
use Rattle.py_ast.specs.declared.tree.Expr.{Expr}
use Rattle.py_ast.specs.Grammar.{expr}
use Rattle.py_ast.proofs.Expressions.{expr-laws, one-expr}
use Rattle.py_expr.specs.declared.error.SyntaxError.{SyntaxError}
use Rattle.py_expr.specs.declared.error.SyntaxError.TheVariants.{Syntax, Unsupported, TooDeep, Memory}
use Rattle.py_expr.specs.Judged.{deepest, StandsAt, IsStop, IsPlain, IsTold, IsFront, whole, unfinished, IsExpression, IsUnsupported, IsSyntax, IsTooDeep, Answers}

-- ---- one longest run

-- of two fronts of one list, one is the other, or goes on with the next token behind it
data Parted (x y u v : List Token) : Type 0 where
  same : x ≡ u → y ≡ v → Parted x y u v
  longer : (t : Token) (w z : List Token) → y ≡ t ∷ w → u ≡ x ++ t ∷ z → Parted x y u v
  shorter : (t : Token) (w z : List Token) → v ≡ t ∷ w → x ≡ u ++ t ∷ z → Parted x y u v

parted : (x y u v : List Token) → x ++ y ≡ u ++ v → Parted x y u v
parted [] y [] v e = same refl e
parted [] y (t ∷ u) v e = longer t (u ++ v) u e refl
parted (t ∷ x) y [] v e = shorter t (x ++ y) x (sym e) refl
parted (t ∷ x) y (s ∷ u) v e =
    let h : t ≡ s = cc e in
    let tails : x ++ y ≡ u ++ v = cc e in
    elim (parted x y u v tails) as (λ p. Parted (t ∷ x) y (s ∷ u) v) [
      | same a b ↦ same (cc (h, a)) b
      | longer r w z a b ↦ longer r w z a (cc (h, b))
      | shorter r w z a b ↦ shorter r w z a (cc (h, b))
    ]

-- what begins a viable run is viable
front-viable : (x z : List Token) (t : Token) (u : List Token) → u ≡ x ++ t ∷ z → Viable expr u → Viable expr (x ++ t ∷ [])
front-viable x z t u e (w, a, s) =
    let (n, h) = s in
    (z ++ w, a, (n, subst (λ (k : List Token). (expr n).Spells k a) (ap (λ (k : List Token). k ++ w) e ∙ append_assoc x (t ∷ z) w ∙ sym (append_assoc x (t ∷ []) (z ++ w))) h))

-- so no viable run goes on where one ends
no-further : (x y w z : List Token) (t : Token) (u : List Token) → EndsAt expr x y → y ≡ t ∷ w → u ≡ x ++ t ∷ z → Viable expr u → ⊥
no-further x y w z t u ends e f v = (subst (λ (k : List Token). EndsAt expr x k) e ends) (front-viable x z t u f v)

whole-viable : (n : ℕ) (x : List Token) (a : Expr) → (expr n).Spells x a → Viable expr x
whole-viable n x a h = ([], a, (n, subst (λ (k : List Token). (expr n).Spells k a) (sym (append_none x)) h))

-- what holds of the longest run, whether it is an expression or not
record Ahead (ts x y : List Token) : Type 0 where
  split : ts ≡ x ++ y
  viable : Viable expr x
  ends : EndsAt expr x y
  shallow : IsShallow (expr deepest) ts

ahead-whole : (ts : List Token) (e : Expr) (y : List Token) → (l : Longest expr deepest ts e y) → Ahead ts l.run y
ahead-whole ts e y l = record { split = l.split; viable = whole-viable deepest l.run e l.spelled; ends = l.ends; shallow = l.shallow }

ahead-unfinished : (ts y : List Token) → (s : StopsAt expr deepest ts y) → Ahead ts s.run y
ahead-unfinished ts y s = record { split = s.split; viable = s.viable; ends = s.ends; shallow = s.shallow }

ahead : (ts x y : List Token) → IsFront ts x y → Ahead ts x y
ahead ts x y (whole e l h) = subst (λ (k : List Token). Ahead ts k y) h (ahead-whole ts e y l)
ahead ts x y (unfinished s h) = subst (λ (k : List Token). Ahead ts k y) h (ahead-unfinished ts y s)

one-front : (ts x y u v : List Token) → Ahead ts x y → Ahead ts u v → (x ≡ u) × (y ≡ v)
one-front ts x y u v a b =
    elim (parted x y u v (sym a.split ∙ b.split)) as (λ p. (x ≡ u) × (y ≡ v)) [
      | same p q ↦ (p, q)
      | longer t w z p q ↦ absurd (no-further x y w z t u a.ends p q b.viable)
      | shorter t w z p q ↦ absurd (no-further u v w z t x b.ends p q a.viable)
    ]

-- ---- one form, and one place

one-place : (ts : List Token) (i : ℕ) (p q : Pos) → StandsAt ts i p → StandsAt ts i q → p ≡ q
one-place ts i p q (t, a, e, h) (s, b, f, k) = let same : t ≡ s = cc (e, f) in sym h ∙ ap (λ (x : Token). x.at) same ∙ k

one-stop : (ts rest : List Token) (p q : Pos) → IsStop ts rest p → IsStop ts rest q → p ≡ q
one-stop ts [] p q a b = one-place ts (length ts - 1) p q a b
one-stop ts (t ∷ rest) p q a b = sym a ∙ b

same-told : (x y u v : List Token) → x ≡ u → y ≡ v → told (back_of x) (roles_of y) ≡ told (back_of u) (roles_of v)
same-told x y u v e h = ap (λ (k : List Token). told (back_of k) (roles_of y)) e ∙ ap (λ (k : List Token). told (back_of u) (roles_of k)) h

no-form : (x y u v : List Token) (form : Form) (p : Pos) → x ≡ u → y ≡ v → IsPlain x y → IsTold u v form p → ⊥
no-form x y u v form p e h plain t = let same = same-told x y u v e h in let tells = t.tells in cc (plain, same, tells)

one-form : (x y u v : List Token) (f g : Form) (p q : Pos) → x ≡ u → y ≡ v → IsTold x y f p → IsTold u v g q → (f ≡ g) × (p ≡ q)
one-form x y u v f g p q e h a b =
    let same = same-told x y u v e h in
    let found : a.found ≡ b.found = cc (a.tells, same, b.tells) in
    let list : x ++ y ≡ u ++ v = cc (e, h) in
    let place : a.found.place ≡ b.found.place = ap (λ (k : ToldForm). k.place) found in
    let moved : StandsAt (u ++ v) b.found.place p = subst (λ (n : ℕ). StandsAt (u ++ v) n p) place (subst (λ (k : List Token). StandsAt k a.found.place p) list a.stands) in
    (sym a.same ∙ ap (λ (k : ToldForm). k.form) found ∙ b.same, one-place (u ++ v) b.found.place p q moved b.stands)

-- ---- one nesting too many

last_of : Token → List Token → Token
last_of t [] = t
last_of t (s ∷ ts) = last_of s ts

last-is : (d : Token) (x : List Token) (t : Token) → last_of d (x ++ t ∷ []) ≡ t
unfolding last_of
last-is d [] t = refl
last-is d (s ∷ x) t = last-is s x t

same-last : (x y : List Token) (t s : Token) → x ++ t ∷ [] ≡ y ++ s ∷ [] → t ≡ s
same-last x y t s e = sym (last-is t x t) ∙ ap (last_of t) e ∙ last-is t y s

deep-read : (ts y : List Token) → (d : TooDeepAt expr deepest ts y) → (expr deepest).read ts ≡ Stuck faults.TooDeep (d.opener ∷ d.others)
deep-read ts y d =
    let o = (expr-laws deepest 0).law.deep (d.run ++ d.opener ∷ []) d.opens in
    let same : d.opener ≡ o.opener = same-last d.run o.before d.opener o.opener o.split in
    let list : ts ≡ o.before ++ o.opener ∷ d.others =
    d.split ∙ ap (λ (k : List Token). d.run ++ k) d.first ∙ sym (append_assoc d.run (d.opener ∷ []) d.others)
    ∙ ap (λ (k : List Token). k ++ d.others) o.split ∙ append_assoc o.before (o.opener ∷ []) d.others in
    ap (expr deepest).read list ∙ o.is_deep d.others ∙ ap (λ (t : Token). Stuck faults.TooDeep (t ∷ d.others)) (sym same)

one-deep : (ts : List Token) (p q : Pos) → IsTooDeep ts p → IsTooDeep ts q → p ≡ q
one-deep ts p q a b =
    let r = deep-read ts a.rest a.deep in
    let s = deep-read ts b.rest b.deep in
    let same : a.deep.opener ≡ b.deep.opener = cc (r, s) in
    sym a.stands ∙ ap (λ (t : Token). t.at) same ∙ b.stands

not-deep : (ts x y : List Token) (p : Pos) → Ahead ts x y → IsTooDeep ts p → ⊥
not-deep ts x y p a h =
    let d = h.deep in
    a.shallow (d.run ++ d.opener ∷ []) d.others (d.split ∙ ap (λ (k : List Token). d.run ++ k) d.first ∙ sym (append_assoc d.run (d.opener ∷ []) d.others)) d.opens

-- ---- one answer

ahead-expression : (at : ℕ) (ts : List Token) (e : Expr) (m : ℕ) → (h : IsExpression at ts e m) → Ahead ts h.longest.run h.rest
ahead-expression at ts e m h = ahead-whole ts e h.rest h.longest

ahead-form : (ts : List Token) (form : Form) (p : Pos) → (h : IsUnsupported ts form p) → Ahead ts h.run h.rest
ahead-form ts form p h = ahead ts h.run h.rest h.front

ahead-syntax : (ts : List Token) (p : Pos) → (h : IsSyntax ts p) → Ahead ts h.stops.run h.rest
ahead-syntax ts p h = ahead-unfinished ts h.rest h.stops

one-expression : (at : ℕ) (ts : List Token) (e f : Expr) (m n : ℕ) → IsExpression at ts e m → IsExpression at ts f n → (e ≡ f) × (m ≡ n)
one-expression at ts e f m n a b =
    let (r, y) = one-front ts _ _ _ _ (ahead-expression at ts e m a) (ahead-expression at ts f n b) in (
      one-expr a.longest.run e f (deepest, a.longest.spelled) (deepest, subst (λ (k : List Token). (expr deepest).Spells k f) (sym r) b.longest.spelled),
      a.ends ∙ ap (λ (k : List Token). at + length k) r ∙ sym b.ends,
    )

not-form : (at : ℕ) (ts : List Token) (e : Expr) (m : ℕ) (form : Form) (p : Pos) → IsExpression at ts e m → IsUnsupported ts form p → ⊥
not-form at ts e m form p a b =
    let (r, y) = one-front ts _ _ _ _ (ahead-expression at ts e m a) (ahead-form ts form p b) in
    no-form _ _ _ _ form p r y a.plain b.is_told

not-stuck : (at : ℕ) (ts : List Token) (e : Expr) (m : ℕ) (p : Pos) → IsExpression at ts e m → IsSyntax ts p → ⊥
not-stuck at ts e m p a b =
    let (r, y) = one-front ts _ _ _ _ (ahead-expression at ts e m a) (ahead-syntax ts p b) in
    b.stops.unspelled e (deepest, subst (λ (k : List Token). (expr deepest).Spells k e) r a.longest.spelled)

not-both : (ts : List Token) (p : Pos) (form : Form) (q : Pos) → IsSyntax ts p → IsUnsupported ts form q → ⊥
not-both ts p form q a b =
    let (r, y) = one-front ts _ _ _ _ (ahead-syntax ts p a) (ahead-form ts form q b) in
    no-form _ _ _ _ form q r y a.plain b.is_told

one-unsupported : (ts : List Token) (f g : Form) (p q : Pos) → IsUnsupported ts f p → IsUnsupported ts g q → (f ≡ g) × (p ≡ q)
one-unsupported ts f g p q a b =
    let (r, y) = one-front ts _ _ _ _ (ahead-form ts f p a) (ahead-form ts g q b) in
    one-form _ _ _ _ f g p q r y a.is_told b.is_told

one-syntax : (ts : List Token) (p q : Pos) → IsSyntax ts p → IsSyntax ts q → p ≡ q
one-syntax ts p q a b =
    let (r, y) = one-front ts _ _ _ _ (ahead-syntax ts p a) (ahead-syntax ts q b) in
    one-stop ts b.rest p q (subst (λ (k : List Token). IsStop ts k p) y a.stands) b.stands

pub one_answer : (at : ℕ) (ts : List Token) (r s : Result (Expr × ℕ) SyntaxError) → Answers at ts r → Answers at ts s → r ≡ s
one_answer at ts (Ok (e, m)) (Ok (f, n)) a b = let (t, h) = one-expression at ts e f m n a.0 b.0 in cc (t, h)
one_answer at ts (Ok (e, m)) (Err (Unsupported g q)) a b = absurd (not-form at ts e m g q a.0 b.0)
one_answer at ts (Ok (e, m)) (Err (TooDeep q)) a b = absurd (not-deep ts _ _ q (ahead-expression at ts e m a.0) b.0)
one_answer at ts (Ok (e, m)) (Err (Syntax q)) a b = absurd (not-stuck at ts e m q a.0 b.0)
one_answer at ts (Ok x) (Err Memory) a b = absurd (b.1 refl)
one_answer at ts (Err (Unsupported f p)) (Ok (e, m)) a b = absurd (not-form at ts e m f p b.0 a.0)
one_answer at ts (Err (Unsupported f p)) (Err (Unsupported g q)) a b = let (t, h) = one-unsupported ts f g p q a.0 b.0 in cc (t, h)
one_answer at ts (Err (Unsupported f p)) (Err (TooDeep q)) a b = absurd (not-deep ts _ _ q (ahead-form ts f p a.0) b.0)
one_answer at ts (Err (Unsupported f p)) (Err (Syntax q)) a b = absurd (not-both ts q f p b.0 a.0)
one_answer at ts (Err (Unsupported f p)) (Err Memory) a b = absurd (b.1 refl)
one_answer at ts (Err (TooDeep p)) (Ok (e, m)) a b = absurd (not-deep ts _ _ p (ahead-expression at ts e m b.0) a.0)
one_answer at ts (Err (TooDeep p)) (Err (Unsupported g q)) a b = absurd (not-deep ts _ _ p (ahead-form ts g q b.0) a.0)
one_answer at ts (Err (TooDeep p)) (Err (TooDeep q)) a b = let h = one-deep ts p q a.0 b.0 in cc h
one_answer at ts (Err (TooDeep p)) (Err (Syntax q)) a b = absurd (not-deep ts _ _ p (ahead-syntax ts q b.0) a.0)
one_answer at ts (Err (TooDeep p)) (Err Memory) a b = absurd (b.1 refl)
one_answer at ts (Err (Syntax p)) (Ok (e, m)) a b = absurd (not-stuck at ts e m p b.0 a.0)
one_answer at ts (Err (Syntax p)) (Err (Unsupported g q)) a b = absurd (not-both ts p g q a.0 b.0)
one_answer at ts (Err (Syntax p)) (Err (TooDeep q)) a b = absurd (not-deep ts _ _ q (ahead-syntax ts p a.0) b.0)
one_answer at ts (Err (Syntax p)) (Err (Syntax q)) a b = let h = one-syntax ts p q a.0 b.0 in cc h
one_answer at ts (Err (Syntax p)) (Err Memory) a b = absurd (b.1 refl)
one_answer at ts (Err Memory) s a b = absurd (a.1 refl)
