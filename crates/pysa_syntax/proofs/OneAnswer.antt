-- Each text declares one list of models, or else has one fault.
use Rattle.std.proofs.Common.{◌≡◌, ℕ, zero, suc, ◌-◌, ◌<◌, ◌≤◌, List, [], ◌∷◌, ◌++◌, length, take, Option, Some, None, ◌⊎◌, inl, inr, refl, sym, ap, subst, ◌∙◌, append_assoc, below_more, arith}
use Rattle.std.specs.Prelude.{min, slice_get}
use Rattle.py_literals.specs.declared.place.Pos.{Pos}
use Rattle.py_lexer.specs.declared.token.Token.{Token}
use Rattle.py_lexer.specs.declared.form.Form.{Form}
use Rattle.py_lexer.specs.Runs.{HasTokens}
use Rattle.py_lexer.specs.Laws as lexed
use Rattle.py_lexer.proofs.OneAnswer.{has_one_answer}
use Rattle.phrases.specs.Reading.{Outcome, Read, Stuck}
use Rattle.pysa_syntax.specs.declared.decl.Decl.{Decl}
use Rattle.pysa_syntax.specs.declared.error.ModelError.{ModelError}
use Rattle.pysa_syntax.specs.declared.error.ModelError.TheVariants as errors
use Rattle.pysa_syntax.specs.Grammar.{file}
use Rattle.pysa_syntax.specs.Forms.{form_at, NoForm}
use Rattle.pysa_syntax.specs.Faults.{Spells, Viable, Longest, StopsAt, StandsAt, SyntaxAt, UnsupportedAt, WithTokens, HasModels}
use Rattle.pysa_syntax.specs.Laws.{HasFault, IsRead, IsFaulty, HasOneAnswer}
use Rattle.pysa_syntax.proofs.Verdict.{Stopped, spelled, stopped_at, stopped_behind, one_reading}

-- ---- one place for Syntax

further : (k n : ℕ) (ts : List Token) → k ≤ n → (w : List Token) × (take n ts ≡ take k ts ++ w)
further zero n ts h = (take n ts, refl)
further (suc k) zero ts h = absurd (omega arith)
further (suc k) (suc n) [] h = ([], refl)
further (suc k) (suc n) (t ∷ ts) h = let (w, e) = further k n ts (omega arith) in (w, ap (λ v. t ∷ v) e)

shorter : (k n : ℕ) (ts : List Token) → k ≤ n → Viable (take n ts) → Viable (take k ts)
shorter k n ts h (z, decls, s) =
    let (w, e) = further k n ts h in
    let S : List Token → Type 0 = λ v. Spells v decls in
    (w ++ z, decls, subst S (ap (λ (v : List Token). v ++ z) e ∙ append_assoc (take k ts) w z) s)

not-longer : (ts : List Token) (m n : ℕ) → Longest ts m → Longest ts n → m < n → ⊥
not-longer ts m n a b h = a.ends (omega (arith, b.within, h)) (shorter (suc m) n ts (omega (arith, h)) b.viable)

same-number : (m n : ℕ) → (m < n → ⊥) → (n < m → ⊥) → m ≡ n
same-number m n a b = omega arith

one-count : (ts : List Token) (m n : ℕ) → Longest ts m → Longest ts n → m ≡ n
one-count ts m n a b = same-number m n (not-longer ts m n a b) (not-longer ts n m b a)

one-stop : (ts : List Token) (i j : ℕ) → StopsAt ts i → StopsAt ts j → i ≡ j
one-stop ts i j a b = a.is ∙ ap (λ n. min n (length ts - 1)) (one-count ts a.count b.count a.longest b.longest) ∙ sym b.is

one-place : (ts : List Token) (i j : ℕ) (p q : Pos) → i ≡ j → StandsAt ts i p → StandsAt ts j q → p ≡ q
one-place ts i j p q e a b =
    let same : Some a.token ≡ Some b.token = sym a.is ∙ ap (slice_get ts) e ∙ b.is in
    let tokens : a.token ≡ b.token = cc in
    a.at ∙ ap (λ (t : Token). t.at) tokens ∙ sym b.at

no-form : (ts : List Token) (i : ℕ) (form : Form) → form_at ts i ≡ Some form → form_at ts i ≡ None → ⊥
no-form ts i form a b = cc

-- ---- one fault of tokens

one-syntax : (ts : List Token) (p q : Pos) → SyntaxAt ts p → SyntaxAt ts q → p ≡ q
one-syntax ts p q a b = one-place ts a.index b.index p q (one-stop ts a.index b.index a.stops b.stops) a.stands b.stands

not-two : (ts : List Token) (p : Pos) (form : Form) (q : Pos) → SyntaxAt ts p → UnsupportedAt ts form q → ⊥
not-two ts p form q a b =
    no-form ts b.index form b.has (a.no_form b.index (omega (arith, b.within, one-stop ts a.index b.last a.stops b.stops)))

one-form : (ts : List Token) (f g : Form) (i j : ℕ) → i ≡ j → form_at ts i ≡ Some f → form_at ts j ≡ Some g → f ≡ g
one-form ts f g i j e a b = let same : Some f ≡ Some g = sym a ∙ ap (form_at ts) e ∙ b in cc

one-unsupported : (ts : List Token) (f g : Form) (p q : Pos) → UnsupportedAt ts f p → UnsupportedAt ts g q → (f ≡ g) × (p ≡ q)
one-unsupported ts f g p q a b =
    let e : a.index ≡ b.index =
    same-number a.index b.index (λ h. no-form ts a.index f a.has (b.first a.index h)) (λ h. no-form ts b.index g b.has (a.first b.index h)) in
    (one-form ts f g a.index b.index e a.has b.has, one-place ts a.index b.index p q e a.stands b.stands)

-- ---- of texts

module _ (text : List ℕ) where
  lexes : lexed.HasOneAnswer text
  lexes = has_one_answer text

  one-list : (a b : List Decl) → HasModels text a → HasModels text b → a ≡ b
  one-list a b h k =
      let S : List Token → Type 0 = λ v. Spells v b in
      one_reading h.tokens a b h.holds (subst S (lexes.one_list k.tokens h.tokens k.are h.are) k.holds)

  -- a fact of the tokens, at the other tokens of the text
  along : (P : List Token → Type 0) (ts : List Token) → HasTokens text ts → (h : WithTokens text P) → P ts
  along P ts are h = subst P (lexes.one_list h.tokens ts h.are are) h.holds

  not-both : (a : List Decl) (e : ModelError) → HasModels text a → HasFault text e → ⊥
  not-both a (errors.Lex kind place) h k = lexes.not_both h.tokens kind place h.are k.0
  not-both a (errors.Syntax place) h k = (along (λ ts. SyntaxAt ts place) h.tokens h.are k.0).stops.unspelled a h.holds
  not-both a (errors.Unsupported form place) h k = (along (λ ts. UnsupportedAt ts form place) h.tokens h.are k.0).stops.unspelled a h.holds
  not-both a errors.Memory h k = k.1 refl

  one-fault : (e f : ModelError) → HasFault text e → HasFault text f → e ≡ f
  one-fault (errors.Lex k p) (errors.Lex l q) a b = let (s, t) = lexes.one_fault k l p q a.0 b.0 in cc
  one-fault (errors.Lex k p) (errors.Syntax q) a b = absurd (lexes.not_both b.0.tokens k p b.0.are a.0)
  one-fault (errors.Lex k p) (errors.Unsupported g q) a b = absurd (lexes.not_both b.0.tokens k p b.0.are a.0)
  one-fault (errors.Lex k p) errors.Memory a b = absurd (b.1 refl)
  one-fault (errors.Syntax p) (errors.Lex l q) a b = absurd (lexes.not_both a.0.tokens l q a.0.are b.0)
  one-fault (errors.Syntax p) (errors.Syntax q) a b =
      ap errors.Syntax (one-syntax a.0.tokens p q a.0.holds (along (λ ts. SyntaxAt ts q) a.0.tokens a.0.are b.0))
  one-fault (errors.Syntax p) (errors.Unsupported g q) a b =
      absurd (not-two a.0.tokens p g q a.0.holds (along (λ ts. UnsupportedAt ts g q) a.0.tokens a.0.are b.0))
  one-fault (errors.Syntax p) errors.Memory a b = absurd (b.1 refl)
  one-fault (errors.Unsupported f p) (errors.Lex l q) a b = absurd (lexes.not_both a.0.tokens l q a.0.are b.0)
  one-fault (errors.Unsupported f p) (errors.Syntax q) a b =
      absurd (not-two b.0.tokens q f p b.0.holds (along (λ ts. UnsupportedAt ts f p) b.0.tokens b.0.are a.0))
  one-fault (errors.Unsupported f p) (errors.Unsupported g q) a b =
      let (s, t) = one-unsupported a.0.tokens f g p q a.0.holds (along (λ ts. UnsupportedAt ts g q) a.0.tokens a.0.are b.0) in cc
  one-fault (errors.Unsupported f p) errors.Memory a b = absurd (b.1 refl)
  one-fault errors.Memory f a b = absurd (a.1 refl)

-- ---- some answer

-- the first form among the first n tokens
record FirstForm (ts : List Token) (n : ℕ) : Type 0 where
  form : Form
  index : ℕ
  within : index < n
  has : form_at ts index ≡ Some form
  first : NoForm ts index

one-more : (ts : List Token) (n : ℕ) (o : Option Form) → form_at ts n ≡ o → NoForm ts n → NoForm ts (suc n) ⊎ FirstForm ts (suc n)
one-more ts n (Some form) e none = inr (record { form = form; index = n; within = omega arith; has = e; first = none })
one-more ts n None e none = inl (λ i h. below_more (λ v. form_at ts v ≡ None) n none e i (omega arith))

wider : (ts : List Token) (n : ℕ) → FirstForm ts n → FirstForm ts (suc n)
wider ts n f = record { form = f.form; index = f.index; within = omega (arith, f.within); has = f.has; first = f.first }

first-form : (ts : List Token) (n : ℕ) → NoForm ts n ⊎ FirstForm ts n
first-form ts zero = inl (λ i h. absurd (omega arith))
first-form ts (suc n) = elim (first-form ts n) [ inl none ↦ one-more ts n (form_at ts n) refl none | inr f ↦ inr (wider ts n f) ]

token-at : (ts : List Token) (i : ℕ) → i < length ts → (t : Token) × (slice_get ts i ≡ Some t)
token-at [] i h = absurd (omega arith)
token-at (t ∷ ts) zero h = (t, refl)
token-at (t ∷ ts) (suc i) h = token-at ts i (omega arith)

stands : (ts : List Token) (i : ℕ) → i < length ts → (p : Pos) × StandsAt ts i p
stands ts i h = let (t, e) = token-at ts i h in (t.at, record { token = t; is = e; at = refl })

module _ (text : List ℕ) (ts : List Token) (are : HasTokens text ts) where
  with-form : (last : ℕ) → last < length ts → StopsAt ts last → FirstForm ts (suc last) → IsFaulty text
  with-form last h stops f =
      let (p, s) = stands ts f.index (omega (arith, f.within, h)) in
      let within : f.index ≤ last = omega (arith, f.within) in
      record {
        fault = errors.Unsupported f.form p;
        is = (record { tokens = ts; are = are; holds = record { last = last; stops = stops; index = f.index; within = within; stands = s; has = f.has; first = f.first } }, λ e. cc);
      }

  without-form : (last : ℕ) → last < length ts → StopsAt ts last → NoForm ts (suc last) → IsFaulty text
  without-form last h stops none =
      let (p, s) = stands ts last h in
      record { fault = errors.Syntax p; is = (record { tokens = ts; are = are; holds = record { index = last; stops = stops; stands = s; no_form = none } }, λ e. cc) }

  refused : (y : List Token) → Stopped ts y → IsFaulty text
  refused y s =
      let last : ℕ = min (length ts - length y) (length ts - 1) in
      let h : last < length ts = omega (arith, s.some) in
      elim (first-form ts (suc last)) [ inl none ↦ without-form last h s.stops none | inr f ↦ with-form last h s.stops f ]

  by-outcome : (o : Outcome Token (List Decl)) → file.read ts ≡ o → IsRead text ⊎ IsFaulty text
  by-outcome (Read decls []) e = inl (record { decls = decls; are = record { tokens = ts; are = are; holds = spelled ts decls [] e refl } })
  by-outcome (Read decls (t ∷ y)) e = inr (refused (t ∷ y) (stopped_behind ts decls (t ∷ y) e (omega arith)))
  by-outcome (Stuck f y) e = inr (refused y (stopped_at ts f y e))

answered : (text : List ℕ) → lexed.IsLexed text ⊎ lexed.IsFaulty text → IsRead text ⊎ IsFaulty text
answered text (inl r) = by-outcome text r.tokens r.are (file.read r.tokens) refl
answered text (inr r) = inr (record { fault = errors.Lex r.fault r.place; is = (r.is, λ e. cc) })

pub one_text : (text : List ℕ) → HasOneAnswer text
one_text text = record {
  answered = answered text (lexes text).answered;
  one_list = one-list text;
  not_both = not-both text;
  one_fault = one-fault text;
}
