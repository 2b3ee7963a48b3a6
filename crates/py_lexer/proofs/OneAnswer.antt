-- Each text has one list of tokens, or else one fault.
use Rattle.std.proofs.Common.{◌≡◌, ℕ, zero, suc, ◌+◌, ◌<◌, List, [], ◌∷◌, take, drop, ◌⊎◌, inl, inr, refl, sym, ap, subst, ◌∙◌, arith}
use Rattle.py_literals.specs.declared.place.Pos.{Pos}
use Rattle.py_literals.specs.Place.{after}
use Rattle.py_lexer.specs.declared.token.Kind.{Kind}
use Rattle.py_lexer.specs.declared.token.Value.{Value}
use Rattle.py_lexer.specs.declared.token.Token.{Token}
use Rattle.py_lexer.specs.declared.token.LexKind.{LexKind}
use Rattle.py_lexer.specs.declared.token.LexKind.TheVariants.{OpenBracket}
use Rattle.py_lexer.specs.declared.state.State.{State}
use Rattle.py_lexer.specs.Front.{Front, Found, Passed, Bad, Unclosed, Over}
use Rattle.py_lexer.specs.Pieces.{piece}
use Rattle.py_lexer.specs.Source.{source_chars}
use Rattle.py_lexer.specs.Runs.{token, Tokens, over, found, passed, Faulty, bad, unclosed, behind_token, behind, first_place, start}
use Rattle.py_lexer.specs.Laws.{IsLexed, IsFaulty, HasOneAnswer}
use Rattle.py_lexer.proofs.Sizes.{size}
use Rattle.py_lexer.proofs.Runs.{found_shrinks, passed_shrinks}

-- from other numbers of characters and states on

to-tokens : (at : Pos) (s t : State) (cs : List ℕ) (m n : ℕ) (ks : List Token) → s ≡ t → m ≡ n → Tokens (after at (take m cs)) s (drop m cs) ks → Tokens (after at (take n cs)) t (drop n cs) ks
to-tokens at s t cs m n ks e e' h =
    let P : State → Type 0 = λ v. Tokens (after at (take m cs)) v (drop m cs) ks in
    let Q : ℕ → Type 0 = λ v. Tokens (after at (take v cs)) t (drop v cs) ks in
    subst Q e' (subst P e h)

to-faulty : (at : Pos) (s t : State) (cs : List ℕ) (m n : ℕ) (k : LexKind) (place : Pos) → s ≡ t → m ≡ n → Faulty (after at (take m cs)) s (drop m cs) k place → Faulty (after at (take n cs)) t (drop n cs) k place
to-faulty at s t cs m n k place e e' h =
    let P : State → Type 0 = λ v. Faulty (after at (take m cs)) v (drop m cs) k place in
    let Q : ℕ → Type 0 = λ v. Faulty (after at (take v cs)) t (drop v cs) k place in
    subst Q e' (subst P e h)

one-list : {at : Pos} {s : State} {cs : List ℕ} {a : List Token} → Tokens at s cs a → (b : List Token) → Tokens at s cs b → a ≡ b
one-list (over e) b (over e') = refl
one-list (over e) b (found e' h') = absurd (cc)
one-list (over e) b (passed e' h') = absurd (cc)
one-list (found e h) b (over e') = absurd (cc)
one-list (found {at = at} {t = t} {cs = cs} {n = n} {k = k} {v = v} {ks = ks} e h) b (found {t = t2} {n = n2} {k = k2} {v = v2} {ks = ks2} e' h') =
    let same-n : n2 ≡ n = cc in
    let same-t : t2 ≡ t = cc in
    let same-k : k ≡ k2 = cc in
    let same-v : v ≡ v2 = cc in
    let same-ks : ks ≡ ks2 = one-list h ks2 (to-tokens at t2 t cs n2 n ks2 same-t same-n h') in
    cc
one-list (found e h) b (passed e' h') = absurd (cc)
one-list (passed e h) b (over e') = absurd (cc)
one-list (passed e h) b (found e' h') = absurd (cc)
one-list (passed {at = at} {t = t} {cs = cs} {n = n} e h) b (passed {t = t2} {n = n2} e' h') =
    let same-n : n2 ≡ n = cc in
    let same-t : t2 ≡ t = cc in
    one-list h b (to-tokens at t2 t cs n2 n b same-t same-n h')

not-both : {at : Pos} {s : State} {cs : List ℕ} {a : List Token} → Tokens at s cs a → (k : LexKind) (place : Pos) → Faulty at s cs k place → ⊥
not-both (over e) k place (bad e') = cc
not-both (over e) k place (unclosed e') = cc
not-both (over e) k place (behind_token e' h') = cc
not-both (over e) k place (behind e' h') = cc
not-both (found e h) k place (bad e') = cc
not-both (found e h) k place (unclosed e') = cc
not-both (found {at = at} {t = t} {cs = cs} {n = n} e h) k place (behind_token {t = t2} {n = n2} e' h') =
    let same-n : n2 ≡ n = cc in
    let same-t : t2 ≡ t = cc in
    not-both h k place (to-faulty at t2 t cs n2 n k place same-t same-n h')
not-both (found e h) k place (behind e' h') = cc
not-both (passed e h) k place (bad e') = cc
not-both (passed e h) k place (unclosed e') = cc
not-both (passed e h) k place (behind_token e' h') = cc
not-both (passed {at = at} {t = t} {cs = cs} {n = n} e h) k place (behind {t = t2} {n = n2} e' h') =
    let same-n : n2 ≡ n = cc in
    let same-t : t2 ≡ t = cc in
    not-both h k place (to-faulty at t2 t cs n2 n k place same-t same-n h')

one-fault : {at : Pos} {s : State} {cs : List ℕ} {k : LexKind} {p : Pos} → Faulty at s cs k p → (l : LexKind) (q : Pos) → Faulty at s cs l q → (k ≡ l) × (p ≡ q)
one-fault (bad {at = at} {cs = cs} {n = n} e) l q (bad {n = n2} e') = let same : n ≡ n2 = cc in (cc, ap (λ v. after at (take v cs)) same)
one-fault (bad e) l q (unclosed e') = absurd (cc)
one-fault (bad e) l q (behind_token e' h') = absurd (cc)
one-fault (bad e) l q (behind e' h') = absurd (cc)
one-fault (unclosed e) l q (bad e') = absurd (cc)
one-fault (unclosed e) l q (unclosed e') = (refl, cc)
one-fault (unclosed e) l q (behind_token e' h') = absurd (cc)
one-fault (unclosed e) l q (behind e' h') = absurd (cc)
one-fault (behind_token e h) l q (bad e') = absurd (cc)
one-fault (behind_token e h) l q (unclosed e') = absurd (cc)
one-fault (behind_token {at = at} {t = t} {cs = cs} {n = n} e h) l q (behind_token {t = t2} {n = n2} e' h') =
    let same-n : n2 ≡ n = cc in
    let same-t : t2 ≡ t = cc in
    one-fault h l q (to-faulty at t2 t cs n2 n l q same-t same-n h')
one-fault (behind_token e h) l q (behind e' h') = absurd (cc)
one-fault (behind e h) l q (bad e') = absurd (cc)
one-fault (behind e h) l q (unclosed e') = absurd (cc)
one-fault (behind e h) l q (behind_token e' h') = absurd (cc)
one-fault (behind {at = at} {t = t} {cs = cs} {n = n} e h) l q (behind {t = t2} {n = n2} e' h') =
    let same-n : n2 ≡ n = cc in
    let same-t : t2 ≡ t = cc in
    one-fault h l q (to-faulty at t2 t cs n2 n l q same-t same-n h')

-- some answer

record SomeTokens (at : Pos) (s : State) (cs : List ℕ) : Type 0 where
  tokens : List Token
  are : Tokens at s cs tokens

record SomeFault (at : Pos) (s : State) (cs : List ℕ) : Type 0 where
  fault : LexKind
  place : Pos
  is : Faulty at s cs fault place

answered-found : (at : Pos) (s t : State) (cs : List ℕ) (n : ℕ) (k : Kind) (v : Value) → piece at s cs ≡ Found n k v t
    → SomeTokens (after at (take n cs)) t (drop n cs) ⊎ SomeFault (after at (take n cs)) t (drop n cs) → SomeTokens at s cs ⊎ SomeFault at s cs
answered-found at s t cs n k v e (inl r) = inl (record { tokens = token k v at ∷ r.tokens; are = found e r.are })
answered-found at s t cs n k v e (inr r) = inr (record { fault = r.fault; place = r.place; is = behind_token e r.is })

answered-passed : (at : Pos) (s t : State) (cs : List ℕ) (n : ℕ) → piece at s cs ≡ Passed n t
    → SomeTokens (after at (take n cs)) t (drop n cs) ⊎ SomeFault (after at (take n cs)) t (drop n cs) → SomeTokens at s cs ⊎ SomeFault at s cs
answered-passed at s t cs n e (inl r) = inl (record { tokens = r.tokens; are = passed e r.are })
answered-passed at s t cs n e (inr r) = inr (record { fault = r.fault; place = r.place; is = behind e r.is })

answered-by : (m : ℕ) (at : Pos) (s : State) (cs : List ℕ) → size s cs < suc m → ((at : Pos) (s : State) (cs : List ℕ) → size s cs < m → SomeTokens at s cs ⊎ SomeFault at s cs)
    → (f : Front) → f ≡ piece at s cs → SomeTokens at s cs ⊎ SomeFault at s cs
answered-by m at s cs h more (Found n k v t) e =
    answered-found at s t cs n k v (sym e) (more (after at (take n cs)) t (drop n cs) (omega (arith, found_shrinks at s t cs n k v e)))
answered-by m at s cs h more (Passed n t) e =
    answered-passed at s t cs n (sym e) (more (after at (take n cs)) t (drop n cs) (omega (arith, passed_shrinks at s t cs n e)))
answered-by m at s cs h more (Bad k n) e = inr (record { fault = k; place = after at (take n cs); is = bad (sym e) })
answered-by m at s cs h more (Unclosed bracket) e = inr (record { fault = OpenBracket; place = bracket; is = unclosed (sym e) })
answered-by m at s cs h more Over e = inl (record { tokens = []; are = over (sym e) })

answered : (m : ℕ) (at : Pos) (s : State) (cs : List ℕ) → size s cs < m → SomeTokens at s cs ⊎ SomeFault at s cs
answered zero at s cs h = absurd (omega arith)
answered (suc m) at s cs h = answered-by m at s cs h (answered m) (piece at s cs) refl

answer : (text : List ℕ) → SomeTokens first_place start (source_chars text) ⊎ SomeFault first_place start (source_chars text) → IsLexed text ⊎ IsFaulty text
answer text (inl r) = inl (record { tokens = r.tokens; are = r.are })
answer text (inr r) = inr (record { fault = r.fault; place = r.place; is = r.is })

pub has_one_answer : (text : List ℕ) → HasOneAnswer text
has_one_answer text = record {
  answered = answer text (answered (suc (size start (source_chars text))) first_place start (source_chars text) (omega arith));
  one_list = λ a b h h'. one-list h b h';
  not_both = λ a fault place h h'. not-both h fault place h';
  one_fault = λ k l p q h h'. one-fault h l q h';
}
