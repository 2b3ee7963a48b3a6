-- The front of a file's tokens at which reading stops is one.
use Rattle.std.proofs.Common.{◌≡◌, ℕ, List, [], ◌∷◌, ◌++◌, refl, sym, ap, subst, ◌∙◌, append_assoc}
use Rattle.phrases.specs.Reading.{Read, Stuck}
use Rattle.phrases.specs.Verdict.{Viable, TooDeepAt}
use Rattle.phrases.specs.declared.fault.Fault.TheVariants as faults
use Rattle.phrases.proofs.Sets.{append_none}
use Rattle.py_lexer.specs.declared.token.Token.{Token}
use Rattle.py_ast.specs.declared.statement.Stmt.{Stmt}
use Rattle.py_ast.specs.Files.{file}
use Rattle.py_ast.proofs.FileLaws.{file-laws}
use Rattle.py_expr.specs.Judged.{deepest}
use Rattle.py_parser.specs.Faults.{Ends, SyntaxStop}

-- of two fronts of one list, one is the other, or goes on with the next token behind it
data Parted (x y u v : List Token) : Type 0 where
  same : x ≡ u → y ≡ v → Parted x y u v
  longer : (t : Token) (w z : List Token) → y ≡ t ∷ w → u ≡ x ++ t ∷ z → Parted x y u v
  shorter : (t : Token) (w z : List Token) → v ≡ t ∷ w → x ≡ u ++ t ∷ z → Parted x y u v

parted : (x y u v : List Token) → x ++ y ≡ u ++ v → Parted x y u v
parted [] y [] v e = same refl e
parted [] y (t ∷ u) v e = longer t (u ++ v) u e refl
parted (t ∷ x) y [] v e = shorter t (x ++ y) x (sym e) refl
parted (t ∷ x) y (s ∷ u) v e =
    let h : t ≡ s = cc e in
    let tails : x ++ y ≡ u ++ v = cc e in
    elim (parted x y u v tails) as (λ p. Parted (t ∷ x) y (s ∷ u) v) [
      | same a b ↦ same (cc (h, a)) b
      | longer r w z a b ↦ longer r w z a (cc (h, b))
      | shorter r w z a b ↦ shorter r w z a (cc (h, b))
    ]

-- what begins a viable run is viable
front-viable : (x z : List Token) (t : Token) (u : List Token) → u ≡ x ++ t ∷ z → Viable file u → Viable file (x ++ t ∷ [])
front-viable x z t u e (w, a, s) =
    let (n, h) = s in
    (z ++ w, a, (n, subst (λ (k : List Token). (file n).Spells k a) (ap (λ (k : List Token). k ++ w) e ∙ append_assoc x (t ∷ z) w ∙ sym (append_assoc x (t ∷ []) (z ++ w))) h))

-- so no viable run goes on where one ends
no-further : (x y w z : List Token) (t : Token) (u : List Token) → Ends x y → y ≡ t ∷ w → u ≡ x ++ t ∷ z → Viable file u → ⊥
no-further x y w z t u ends e f v = (subst (λ (k : List Token). Ends x k) e ends) (front-viable x z t u f v)

pub one-front : (ts y v : List Token) (a : SyntaxStop ts y) (b : SyntaxStop ts v) → (a.run ≡ b.run) × (y ≡ v)
one-front ts y v a b =
    elim (parted a.run y b.run v (sym a.split ∙ b.split)) as (λ p. (a.run ≡ b.run) × (y ≡ v)) [
      | same p q ↦ (p, q)
      | longer t w z p q ↦ absurd (no-further a.run y w z t b.run a.ends p q b.viable)
      | shorter t w z p q ↦ absurd (no-further b.run v w z t a.run b.ends p q a.viable)
    ]

-- no spelled list has such a front
pub not-spelled : (ts y : List Token) (lines : List (List Stmt)) (n : ℕ) → SyntaxStop ts y → (file n).Spells ts lines → ⊥
not-spelled ts [] lines n a h = a.ends lines (n, subst (λ (k : List Token). (file n).Spells k lines) (a.split ∙ append_none a.run) h)
not-spelled ts (t ∷ y) lines n a h = a.ends (front-viable a.run y t ts a.split ([], lines, (n, subst (λ (k : List Token). (file n).Spells k lines) (sym (append_none ts)) h)))

-- ---- one nesting too many

last_of : Token → List Token → Token
last_of t [] = t
last_of t (s ∷ ts) = last_of s ts

last-is : (d : Token) (x : List Token) (t : Token) → last_of d (x ++ t ∷ []) ≡ t
unfolding last_of
last-is d [] t = refl
last-is d (s ∷ x) t = last-is s x t

pub same-last : (x y : List Token) (t s : Token) → x ++ t ∷ [] ≡ y ++ s ∷ [] → t ≡ s
same-last x y t s e = sym (last-is t x t) ∙ ap (last_of t) e ∙ last-is t y s

behind : (ts run opener-and : List Token) (t : Token) (others : List Token) → ts ≡ run ++ opener-and → opener-and ≡ t ∷ others → ts ≡ (run ++ t ∷ []) ++ others
behind ts run y t others e f = e ∙ ap (λ (k : List Token). run ++ k) f ∙ sym (append_assoc run (t ∷ []) others)

pub deep-read : (ts y : List Token) → (d : TooDeepAt file deepest ts y) → (file deepest).read ts ≡ Stuck faults.TooDeep (d.opener ∷ d.others)
deep-read ts y d =
    let o = (file-laws deepest 0).law.deep (d.run ++ d.opener ∷ []) d.opens in
    let same : d.opener ≡ o.opener = same-last d.run o.before d.opener o.opener o.split in
    let list : ts ≡ o.before ++ o.opener ∷ d.others =
    behind ts d.run y d.opener d.others d.split d.first ∙ ap (λ (k : List Token). k ++ d.others) o.split ∙ append_assoc o.before (o.opener ∷ []) d.others in
    ap (file deepest).read list ∙ o.is_deep d.others ∙ ap (λ (t : Token). Stuck faults.TooDeep (t ∷ d.others)) (sym same)

spelled-read : (ts : List Token) (lines : List (List Stmt)) → (file deepest).Spells ts lines → (file deepest).read ts ≡ Read lines []
spelled-read ts lines h = ap (file deepest).read (sym (append_none ts)) ∙ (file-laws deepest 0).law.again ts lines [] h refl

pub not-deep-spelled : (ts y : List Token) (lines : List (List Stmt)) → TooDeepAt file deepest ts y → (file deepest).Spells ts lines → ⊥
not-deep-spelled ts y lines d h = let r = deep-read ts y d in let s = spelled-read ts lines h in cc (r, s)

pub not-deep-stop : (ts y v : List Token) → SyntaxStop ts y → TooDeepAt file deepest ts v → ⊥
not-deep-stop ts y v a d = a.shallow (d.run ++ d.opener ∷ []) d.others (behind ts d.run v d.opener d.others d.split d.first) d.opens
