-- What a lawful reader answers is what it means.
use Rattle.std.proofs.Common.{◌≡◌, ℕ, suc, List, [], ◌∷◌, ◌++◌, inl, inr, refl, sym, ap, subst, ◌∙◌, append_assoc}
use Rattle.phrases.specs.Laws.{Front, ReadOrDeep, Laws}
use Rattle.phrases.specs.Phrases.{Phrase}
use Rattle.phrases.specs.Reading.{Outcome, Read, Stuck}
use Rattle.phrases.specs.Sets.{Sets}
use Rattle.phrases.specs.Verdict.{Spelled, Viable, IsShallow, Means}
use Rattle.phrases.specs.declared.fault.Fault.TheVariants.{Syntax, TooDeep}
use Rattle.phrases.proofs.Sets.{append_none}

module _ {T A : Type 0} (class : T → ℕ) (g : ℕ → Phrase T A) (s : Sets) (room : ℕ) (laws : (n : ℕ) → Laws class (g room) (g (suc room)) (g n) s) where
  whole : (x : List T) (a : A) → Spelled g x a → ReadOrDeep ((g room).read x) a []
  whole x a (n, h) =
      let R : List T → Type 0 = λ v. ReadOrDeep ((g room).read v) a [] in
      subst R (append_none x) ((laws n).wide.wide x a [] h refl)

  ends-read : (x : List T) (a : A) (t : T) → ((z : List T) → (g room).read (x ++ t ∷ z) ≡ Read a (t ∷ z)) → Viable g (x ++ t ∷ []) → ⊥
  ends-read x a t local (z, b, h) =
      let R : Outcome T A → Type 0 = λ o. ReadOrDeep o b [] in
      elim (subst R (ap (g room).read (append_assoc x (t ∷ []) z) ∙ local z) (whole _ b h)) [ inl e ↦ cc | inr d ↦ d ]

  ends-stuck : (x : List T) (t : T) → ((z : List T) → (g room).read (x ++ t ∷ z) ≡ Stuck Syntax (t ∷ z)) → Viable g (x ++ t ∷ []) → ⊥
  ends-stuck x t local (z, b, h) =
      let R : Outcome T A → Type 0 = λ o. ReadOrDeep o b [] in
      elim (subst R (ap (g room).read (append_assoc x (t ∷ []) z) ∙ local z) (whole _ b h)) [ inl e ↦ cc | inr d ↦ d ]

  unspelled-end : (x : List T) (a : A) → (g room).read x ≡ Stuck Syntax [] → Spelled g x a → ⊥
  unspelled-end x a e h =
      let R : Outcome T A → Type 0 = λ o. ReadOrDeep o a [] in
      elim (subst R e (whole x a h)) [ inl k ↦ cc | inr d ↦ d ]

  -- what opens a nesting too many is answered so
  deep-is : (ts u v : List T) → ts ≡ u ++ v → (g room).Opens u → (t : T) × (w : List T) × ((g room).read ts ≡ Stuck TooDeep (t ∷ w))
  deep-is ts u v e o =
      let d = (laws 0).law.deep u o in
      (d.opener, v, ap (g room).read (e ∙ ap (λ (x : List T). x ++ v) d.split ∙ append_assoc d.before (d.opener ∷ []) v) ∙ d.is_deep v)

  shallow : (ts : List T) (o : Outcome T A) → (g room).read ts ≡ o → ((t : T) (w : List T) → o ≡ Stuck TooDeep (t ∷ w) → ⊥) → IsShallow (g room) ts
  shallow ts o e never u v s h = let (t, w, d) = deep-is ts u v s h in never t w (sym e ∙ d)

  means : (ts : List T) (o : Outcome T A) → (g room).read ts ≡ o → Front (g room).Spells (g (suc room)).Spells (g room).Opens (g room).read ts o → Means g room ts o
  means ts (Read a []) e fr = record { run = fr.taken; split = fr.split; spelled = fr.said; ends = tt; shallow = shallow ts _ e (λ t w k. cc) }
  means ts (Read a (t ∷ y)) e fr = record { run = fr.taken; split = fr.split; spelled = fr.said; ends = ends-read fr.taken a t (λ z. fr.local t y z refl); shallow = shallow ts _ e (λ t w k. cc) }
  means ts (Stuck Syntax []) e fr = let (z, a, h) = fr.said in record {
    run = fr.taken;
    split = fr.split;
    viable = (z, a, (suc room, h));
    unspelled = λ b k. unspelled-end fr.taken b fr.dry k;
    ends = tt;
    shallow = shallow ts _ e (λ t w k. cc);
  }
  means ts (Stuck Syntax (t ∷ y)) e fr = let (z, a, h) = fr.said in record {
    run = fr.taken;
    split = fr.split;
    viable = (z, a, (suc room, h));
    unspelled = λ b k. unspelled-end fr.taken b fr.dry k;
    ends = ends-stuck fr.taken t (λ z. fr.local t y z refl);
    shallow = shallow ts _ e (λ t w k. cc);
  }
  means ts (Stuck TooDeep y) e fr = let (viable, cut) = fr.said in let (z, a, h) = viable in let (t, w, k, o) = cut in
      record { run = fr.taken; opener = t; others = w; split = fr.split; first = k; viable = (z, a, (suc room, h)); opens = o }

  pub verdict : (ts : List T) → Means g room ts ((g room).read ts)
  verdict ts = means ts ((g room).read ts) refl ((laws 0).law.front ts)

-- no list of tokens spells two trees
pub one_tree : {T A : Type 0} (class : T → ℕ) (g : ℕ → Phrase T A) (s : Sets) (laws : (room n : ℕ) → Laws class (g room) (g (suc room)) (g n) s) (x : List T) (a b : A) → Spelled g x a → Spelled g x b → a ≡ b
one_tree {T} {A} class g s laws x a b (n, h) k =
    let read-a : (g n).read x ≡ Read a [] = ap (g n).read (sym (append_none x)) ∙ (laws n n).law.again x a [] h refl in
    let R : Outcome T A → Type 0 = λ o. ReadOrDeep o b [] in
    elim (subst R read-a (whole class g s n (laws n) x b k)) [ inl e ↦ cc | inr d ↦ absurd d ]

-- where a value is read, the part that was taken spells it
pub taken : {T A : Type 0} {P P+ : List T → A → Type 0} {O : List T → Type 0} {r : List T → Outcome T A} {ts : List T} {o : Outcome T A} {a : A} {y : List T} → Front P P+ O r ts o → o ≡ Read a y → (x : List T) × (ts ≡ x ++ y) × P x a
taken {T} {A} {P} {P+} {O} {r} {ts} {o} {a} {y} fr e = let F : Outcome T A → Type 0 = λ o. Front P P+ O r ts o in let f = subst F e fr in (f.taken, f.split, f.said)
