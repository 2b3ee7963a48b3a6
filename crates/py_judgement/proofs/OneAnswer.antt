-- No tokens are judged in two ways.
use Rattle.std.proofs.Common.{◌≡◌, ℕ, suc, ◌+◌, inl, inr, length, Option, None, List, [], ◌∷◌, ◌++◌, Result, Ok, Err, refl, sym, ap, subst, ◌∙◌, arith, length-append}
use Rattle.phrases.specs.Verdict.{TooDeepAt}
use Rattle.py_ast.specs.Files.{file}
use Rattle.py_literals.specs.declared.place.Pos.{Pos}
use Rattle.py_lexer.specs.declared.form.Form.{Form}
use Rattle.py_lexer.specs.declared.token.Token.{Token}
use Rattle.py_forms.specs.declared.telling.ToldForm.{ToldForm}
use Rattle.later_forms.specs.Later.{told_on_line, told_before}
use Rattle.py_ast.specs.declared.statement.Module.{Module}
use Rattle.py_ast.proofs.FileLaws.{one-module}
use Rattle.py_parser.specs.declared.reading.GrammarError.{GrammarError}
use Rattle.py_parser.specs.declared.reading.GrammarError.TheVariants.{Syntax, Unsupported, TooDeep, Memory}
use Rattle.py_expr.specs.Judged.{deepest}
use Rattle.py_parser.specs.Faults.{IsModule, EndsWith, StopPlace, StandsAt, Tells, IsSyntax, IsUnsupported, IsTooDeep}
use Rattle.py_judgement.specs.Answers.{Answers}
use Rattle.py_judgement.proofs.Fronts.{one-front, not-spelled, same-last, deep-read, not-deep-spelled, not-deep-stop}

-- ---- one place

one-end : (ts : List Token) (p q : Pos) → EndsWith ts p → EndsWith ts q → p ≡ q
one-end ts p q (x, t, e, h) (y, s, f, k) = sym h ∙ ap (λ (u : Token). u.at) (same-last x y t s (sym e ∙ f)) ∙ k

one-stop : (ts rest : List Token) (p q : Pos) → StopPlace ts rest p → StopPlace ts rest q → p ≡ q
one-stop ts [] p q a b = one-end ts p q a b
one-stop ts (t ∷ rest) p q a b = sym a ∙ b

one-place : (ts : List Token) (i : ℕ) (p q : Pos) → StandsAt ts i p → StandsAt ts i q → p ≡ q
one-place ts i p q (t, e, h) (s, f, k) = let same : t ≡ s = cc (e, f) in sym h ∙ ap (λ (x : Token). x.at) same ∙ k

same-told : (told : List Token → ℕ → Option ToldForm) (ts x u : List Token) → x ≡ u → told ts (length x) ≡ told ts (length u)
same-told told ts x u e = ap (λ (k : List Token). told ts (length k)) e

-- what is told once is one form at one place
one-told : (ts : List Token) (t u : Option ToldForm) (f g : Form) (p q : Pos) → t ≡ u → Tells ts t f p → Tells ts u g q → (f ≡ g) × (p ≡ q)
one-told ts t u f g p q same (found, e, h, k) (other, e', h', k') =
    let one : found ≡ other = cc (e, same, e') in
    (sym h ∙ ap (λ (x : ToldForm). x.form) one ∙ h', one-place ts other.place p q (subst (λ (x : ToldForm). StandsAt ts x.place p) one k) k')

untold : (ts : List Token) (t u : Option ToldForm) (f : Form) (p : Pos) → t ≡ u → t ≡ None → Tells ts u f p → ⊥
untold ts t u f p same none (found, e, h, k) = cc (same, none, e)

-- ---- two answers

one-syntax : (ts : List Token) (p q : Pos) → IsSyntax ts p → IsSyntax ts q → p ≡ q
one-syntax ts p q (y, a, e, h) (v, b, f, k) = let (r, s) = one-front ts y v a b in one-stop ts v p q (subst (λ (w : List Token). StopPlace ts w p) s h) k

-- two nestings too many are one, behind runs of one length
one-opener : (ts y v : List Token) (a : TooDeepAt file deepest ts y) (b : TooDeepAt file deepest ts v) → (a.opener ≡ b.opener) × (length a.run ≡ length b.run)
one-opener ts y v a b =
    let r = deep-read ts y a in
    let s = deep-read ts v b in
    let behind : a.others ≡ b.others = cc (r, s) in
    let front : length ts ≡ length a.run + suc (length a.others) = ap length (a.split ∙ ap (λ (k : List Token). a.run ++ k) a.first) ∙ length-append a.run (a.opener ∷ a.others) in
    let other : length ts ≡ length b.run + suc (length b.others) = ap length (b.split ∙ ap (λ (k : List Token). b.run ++ k) b.first) ∙ length-append b.run (b.opener ∷ b.others) in
    let equal : length a.others ≡ length b.others = ap length behind in
    (cc (r, s), omega arith)

one-form : (ts : List Token) (f g : Form) (p q : Pos) → IsUnsupported ts f p → IsUnsupported ts g q → (f ≡ g) × (p ≡ q)
one-form ts f g p q (inl (y, a, t)) (inl (v, b, u)) =
    let (r, s) = one-front ts y v a b in one-told ts (told_on_line ts (length a.run)) (told_on_line ts (length b.run)) f g p q (same-told told_on_line ts a.run b.run r) t u
one-form ts f g p q (inl (y, a, t)) (inr (v, d, u)) = absurd (not-deep-stop ts y v a d)
one-form ts f g p q (inr (y, d, t)) (inl (v, b, u)) = absurd (not-deep-stop ts v y b d)
one-form ts f g p q (inr (y, d, t)) (inr (v, e, u)) =
    let (o, n) = one-opener ts y v d e in one-told ts (told_before ts (length d.run)) (told_before ts (length e.run)) f g p q (ap (told_before ts) n) t u

not-both : (ts : List Token) (p : Pos) (form : Form) (q : Pos) → IsSyntax ts p → IsUnsupported ts form q → ⊥
not-both ts p form q (y, a, e, h) (inl (v, b, t)) =
    let (r, s) = one-front ts y v a b in untold ts (told_on_line ts (length a.run)) (told_on_line ts (length b.run)) form q (same-told told_on_line ts a.run b.run r) e t
not-both ts p form q (y, a, e, h) (inr (v, d, t)) = not-deep-stop ts y v a d

one-deep : (ts : List Token) (p q : Pos) → IsTooDeep ts p → IsTooDeep ts q → p ≡ q
one-deep ts p q (y, a, e, h) (v, b, f, k) =
    let (same, n) = one-opener ts y v a b in
    let first : StopPlace ts (a.opener ∷ a.others) p = subst (λ (w : List Token). StopPlace ts w p) a.first h in
    let second : StopPlace ts (b.opener ∷ b.others) q = subst (λ (w : List Token). StopPlace ts w q) b.first k in
    sym first ∙ ap (λ (t : Token). t.at) same ∙ second

pub one-tree : (ts : List Token) (m n : Module) → IsModule ts m → IsModule ts n → m ≡ n
one-tree ts m n (as_lines, h, e) (bs_lines, k, f) = one-module ts m n (as_lines, (deepest, h), e) (bs_lines, (deepest, k), f)

not-syntax : (ts : List Token) (m : Module) (p : Pos) → IsModule ts m → IsSyntax ts p → ⊥
not-syntax ts m p (as_lines, h, e) (y, a, f, k) = not-spelled ts y as_lines deepest a h

not-form : (ts : List Token) (m : Module) (form : Form) (p : Pos) → IsModule ts m → IsUnsupported ts form p → ⊥
not-form ts m form p (as_lines, h, e) (inl (y, a, t)) = not-spelled ts y as_lines deepest a h
not-form ts m form p (as_lines, h, e) (inr (y, d, t)) = not-deep-spelled ts y as_lines d h

not-deep : (ts : List Token) (m : Module) (p : Pos) → IsModule ts m → IsTooDeep ts p → ⊥
not-deep ts m p (as_lines, h, e) (y, d, n, k) = not-deep-spelled ts y as_lines d h

not-deep-syntax : (ts : List Token) (p q : Pos) → IsSyntax ts p → IsTooDeep ts q → ⊥
not-deep-syntax ts p q (y, a, e, h) (v, d, n, k) = not-deep-stop ts y v a d

not-deep-form : (ts : List Token) (form : Form) (p q : Pos) → IsUnsupported ts form p → IsTooDeep ts q → ⊥
not-deep-form ts form p q (inl (y, a, t)) (v, d, n, k) = not-deep-stop ts y v a d
not-deep-form ts form p q (inr (y, d, t)) (v, e, n, k) =
    let (o, same) = one-opener ts y v d e in untold ts (told_before ts (length e.run)) (told_before ts (length d.run)) form p (ap (told_before ts) (sym same)) n t

-- ---- one answer

pub one_answer : (ts : List Token) (r s : Result Module GrammarError) → Answers ts r → Answers ts s → r ≡ s
one_answer ts (Ok m) (Ok n) a b = let h = one-tree ts m n a.0 b.0 in cc h
one_answer ts (Ok m) (Err (Syntax q)) a b = absurd (not-syntax ts m q a.0 b.0)
one_answer ts (Ok m) (Err (Unsupported g q)) a b = absurd (not-form ts m g q a.0 b.0)
one_answer ts (Ok m) (Err (TooDeep q)) a b = absurd (not-deep ts m q a.0 b.0)
one_answer ts (Ok m) (Err Memory) a b = absurd (b.1 refl)
one_answer ts (Err (Syntax p)) (Ok n) a b = absurd (not-syntax ts n p b.0 a.0)
one_answer ts (Err (Syntax p)) (Err (Syntax q)) a b = let h = one-syntax ts p q a.0 b.0 in cc h
one_answer ts (Err (Syntax p)) (Err (Unsupported g q)) a b = absurd (not-both ts p g q a.0 b.0)
one_answer ts (Err (Syntax p)) (Err (TooDeep q)) a b = absurd (not-deep-syntax ts p q a.0 b.0)
one_answer ts (Err (Syntax p)) (Err Memory) a b = absurd (b.1 refl)
one_answer ts (Err (Unsupported f p)) (Ok n) a b = absurd (not-form ts n f p b.0 a.0)
one_answer ts (Err (Unsupported f p)) (Err (Syntax q)) a b = absurd (not-both ts q f p b.0 a.0)
one_answer ts (Err (Unsupported f p)) (Err (Unsupported g q)) a b = let (e, h) = one-form ts f g p q a.0 b.0 in cc (e, h)
one_answer ts (Err (Unsupported f p)) (Err (TooDeep q)) a b = absurd (not-deep-form ts f p q a.0 b.0)
one_answer ts (Err (Unsupported f p)) (Err Memory) a b = absurd (b.1 refl)
one_answer ts (Err (TooDeep p)) (Ok n) a b = absurd (not-deep ts n p b.0 a.0)
one_answer ts (Err (TooDeep p)) (Err (Syntax q)) a b = absurd (not-deep-syntax ts q p b.0 a.0)
one_answer ts (Err (TooDeep p)) (Err (Unsupported g q)) a b = absurd (not-deep-form ts g q p b.0 a.0)
one_answer ts (Err (TooDeep p)) (Err (TooDeep q)) a b = let h = one-deep ts p q a.0 b.0 in cc h
one_answer ts (Err (TooDeep p)) (Err Memory) a b = absurd (b.1 refl)
one_answer ts (Err Memory) s a b = absurd (a.1 refl)
