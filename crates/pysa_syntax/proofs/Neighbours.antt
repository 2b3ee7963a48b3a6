-- Which symbols stand beside each other in a list that is spelled: no two that begin a form that isn't read.
use Rattle.std.proofs.Common.{◌≡◌, ℕ, Bool, true, false, not, ◌&&◌, ◌||◌, cond, List, [], ◌∷◌, ◌++◌, Option, Some, None, inl, inr, refl, sym, subst}
use Rattle.std.specs.Prelude.{◌==◌}
use Rattle.std.proofs.lemmas.Bool.{eqb-true}
use Rattle.py_lexer.specs.declared.token.Token.{Token}
use Rattle.phrases.specs.Spelling.{One}
use Rattle.phrases.specs.Phrases.{Phrase, token, nothing, sequence, either, many}
use Rattle.phrases.specs.Series.{series, Run, goes}
use Rattle.phrases.specs.Sets.{has, apart, within, fits, Sets, token_sets, nothing_sets, then_sets, or_sets, many_sets, item_sets, series_sets}
use Rattle.phrases.proofs.Sets.{within-has, append_none, has_in_left, has_in_right}
use Rattle.pysa_syntax.specs.declared.symbol.Symbol.TheVariants as symbols
use Rattle.pysa_syntax.specs.Symbols.{class, only}
use Rattle.pysa_syntax.proofs.Plain.{Plain, plain-nothing, plain-then, plain-or, plain-many, plain-series, plain-larger}

-- ---- symbols

-- a form may begin with a token of symbol k that n is behind, where b says whether a logical line begins with the first
abbrev pub bad : Bool → ℕ → ℕ → Bool
bad b k n = ((k == 0) && ((n == 13) || (b && (n == 11)))) || ((k == 7) && (n == 0))

abbrev pub line_end : ℕ → Bool
line_end k = has (only symbols.Newline) k

abbrev fine_with : Bool → ℕ → List ℕ → Bool
fine_with b k [] = true
fine_with b k (n ∷ ns) = not (bad b k n) && fine_with b k ns

abbrev fine_all : Bool → List ℕ → List ℕ → Bool
fine_all b [] ns = true
fine_all b (k ∷ ks) ns = fine_with b k ns && fine_all b ks ns

-- behind each of these a line begins, or behind none
abbrev all_flags : Bool → List ℕ → Bool
all_flags c [] = true
all_flags c (k ∷ ks) = cond c (line_end k) (not (line_end k)) && all_flags c ks

both : (a b : Bool) → a && b ≡ true → (a ≡ true) × (b ≡ true)
both true b e = (refl, e)
both false b e = absurd cc

is-not : (b : Bool) → not b ≡ true → b ≡ false
is-not true e = absurd cc
is-not false e = refl

member : (x k : ℕ) (xs : List ℕ) (P : ℕ → Type 0) → P x → (has xs k ≡ true → P k) → (b : Bool) → (x == k) ≡ b → b || has xs k ≡ true → P k
member x k xs P p rest true e h = subst P (eqb-true x k e) p
member x k xs P p rest false e h = rest h

fine-one : (b : Bool) (k n : ℕ) (ns : List ℕ) → fine_with b k ns ≡ true → has ns n ≡ true → bad b k n ≡ false
fine-one b k n [] e h = absurd cc
fine-one b k n (m ∷ ns) e h =
    let (one, others) = both (not (bad b k m)) (fine_with b k ns) e in
    member m n ns (λ v. bad b k v ≡ false) (is-not (bad b k m) one) (fine-one b k n ns others) (m == n) refl h

fine-pair : (b : Bool) (k n : ℕ) (ks ns : List ℕ) → fine_all b ks ns ≡ true → has ks k ≡ true → has ns n ≡ true → bad b k n ≡ false
fine-pair b k n [] ns e h g = absurd cc
fine-pair b k n (m ∷ ks) ns e h g =
    let (one, others) = both (fine_with b m ns) (fine_all b ks ns) e in
    member m k ks (λ v. bad b v n ≡ false) (fine-one b m n ns one g) (λ i. fine-pair b k n ks ns others i g) (m == k) refl h

flag-by : (c v : Bool) → cond c v (not v) ≡ true → v ≡ c
flag-by true v e = e
flag-by false v e = is-not v e

flag-of : (c : Bool) (k : ℕ) (ks : List ℕ) → all_flags c ks ≡ true → has ks k ≡ true → line_end k ≡ c
flag-of c k [] e h = absurd cc
flag-of c k (m ∷ ks) e h =
    let (one, others) = both (cond c (line_end m) (not (line_end m))) (all_flags c ks) e in
    member m k ks (λ v. line_end v ≡ c) (flag-by c (line_end m) one) (flag-of c k ks others) (m == k) refl h

-- ---- lists

-- no two neighbours begin a form, where b says whether a line begins with the first token
abbrev pub Fine : Bool → List Token → Type 0
Fine b [] = Unit {0}
Fine b (t ∷ []) = Unit {0}
Fine b (t ∷ u ∷ ts) = (bad b (class t) (class u) ≡ false) × Fine (line_end (class t)) (u ∷ ts)

-- the symbols of a last token with which a line begins, and of another
pub record Lasts : Type 0 where
  pub beginning : List ℕ
  pub later : List ℕ

abbrev pub of : Lasts → Bool → List ℕ
of l true = l.beginning
of l false = l.later

abbrev pub In : Lasts → Bool → Token → Type 0
In l b t = has (of l b) (class t) ≡ true

abbrev pub Last : Lasts → Bool → List Token → Type 0
Last l b [] = Unit {0}
Last l b (t ∷ []) = In l b t
Last l b (t ∷ u ∷ ts) = Last l (line_end (class t)) (u ∷ ts)

abbrev pub Starts : List ℕ → List Token → Type 0
Starts ns [] = Unit {0}
Starts ns (t ∷ ts) = has ns (class t) ≡ true

pub record Good (b : Bool) (l : Lasts) (ns : List ℕ) (x : List Token) : Type 0 where
  pub fine : Fine b x
  pub last : Last l b x
  pub starts : Starts ns x

good-none : (b : Bool) (l : Lasts) (ns : List ℕ) → Good b l ns []
good-none b l ns = record { fine = tt; last = tt; starts = tt }

-- behind a last token of these a line begins or doesn't, as c says, and none of ns makes a form with it
abbrev pub ok : Bool → Lasts → List ℕ → Bool
ok c l ns = (all_flags c l.beginning && all_flags c l.later) && (fine_all true l.beginning ns && fine_all false l.later ns)

record Joint (c : Bool) (ns : List ℕ) (b : Bool) (t : Token) : Type 0 where
  flag : line_end (class t) ≡ c
  pair : (u : Token) → has ns (class u) ≡ true → bad b (class t) (class u) ≡ false

joint : (c : Bool) (l : Lasts) (ns : List ℕ) → ok c l ns ≡ true → (b : Bool) (t : Token) → In l b t → Joint c ns b t
joint c l ns e true t i =
    let (flags, pairs) = both (all_flags c l.beginning && all_flags c l.later) (fine_all true l.beginning ns && fine_all false l.later ns) e in
    record {
      flag = flag-of c (class t) l.beginning (both (all_flags c l.beginning) (all_flags c l.later) flags).0 i;
      pair = λ u h. fine-pair true (class t) (class u) l.beginning ns (both (fine_all true l.beginning ns) (fine_all false l.later ns) pairs).0 i h;
    }
joint c l ns e false t i =
    let (flags, pairs) = both (all_flags c l.beginning && all_flags c l.later) (fine_all true l.beginning ns && fine_all false l.later ns) e in
    record {
      flag = flag-of c (class t) l.later (both (all_flags c l.beginning) (all_flags c l.later) flags).1 i;
      pair = λ u h. fine-pair false (class t) (class u) l.later ns (both (fine_all true l.beginning ns) (fine_all false l.later ns) pairs).1 i h;
    }

module _ (c : Bool) (l : Lasts) (ns : List ℕ) (e : ok c l ns ≡ true) where
  fine-append : (b : Bool) (t : Token) (x y : List Token) → Fine b (t ∷ x) → Last l b (t ∷ x) → Starts ns y → Fine c y → Fine b (t ∷ x ++ y)
  fine-append b t [] [] f i s h = tt
  fine-append b t [] (u ∷ y) f i s h = let j = joint c l ns e b t i in (j.pair u s, subst (λ (v : Bool). Fine v (u ∷ y)) (sym j.flag) h)
  fine-append b t (v ∷ x) y f i s h = (f.0, fine-append (line_end (class t)) v x y f.1 i s h)

  last-append : (m : Lasts) (b : Bool) (t : Token) (x : List Token) (u : Token) (y : List Token) → Last l b (t ∷ x) → Last m c (u ∷ y) → Last m b (t ∷ x ++ u ∷ y)
  last-append m b t [] u y i h = let j = joint c l ns e b t i in subst (λ (v : Bool). Last m v (u ∷ y)) (sym j.flag) h
  last-append m b t (v ∷ x) u y i h = last-append m (line_end (class t)) v x u y i h

last-wider : (l m : Lasts) → ((b : Bool) (t : Token) → In l b t → In m b t) → (b : Bool) (x : List Token) → Last l b x → Last m b x
last-wider l m into b [] h = tt
last-wider l m into b (t ∷ []) h = into b t h
last-wider l m into b (t ∷ u ∷ x) h = last-wider l m into (line_end (class t)) (u ∷ x) h

last-then : (c : Bool) (l : Lasts) (ns : List ℕ) (e : ok c l ns ≡ true) (m : Lasts) (b : Bool) (t : Token) (x y : List Token) → (y ≡ [] → (v : Bool) (u : Token) → In l v u → In m v u) → Last l b (t ∷ x) → Last m c y → Last m b (t ∷ x ++ y)
last-then c l ns e m b t x [] into i h = subst (λ (v : List Token). Last m b v) (sym (append_none (t ∷ x))) (last-wider l m (into refl) b (t ∷ x) i)
last-then c l ns e m b t x (u ∷ y) into i h = last-append c l ns e m b t x u y i h

good-append : (c : Bool) (l m : Lasts) (ns ks : List ℕ) (b : Bool) (t : Token) (x y : List Token) → ok c l ks ≡ true → (y ≡ [] → (v : Bool) (u : Token) → In l v u → In m v u)
    → Good b l ns (t ∷ x) → Good c m ks y → Good b m ns (t ∷ x ++ y)
good-append c l m ns ks b t x y e into g h = record {
  fine = fine-append c l ks e b t x y g.fine g.last h.starts h.fine;
  last = last-then c l ks e m b t x y into g.last h.last;
  starts = g.starts;
}

-- ---- phrases

-- a phrase, where b says whether a line begins with it, and the symbols of its last token
pub record Clean {A : Type 0} (b : Bool) (g : Phrase Token A) (s : Sets) (l : Lasts) : Type 0 where
  pub plain : Plain g s
  pub good : (x : List Token) (a : A) → g.Spells x a → Good b l s.first x

abbrev pub single : Bool → List ℕ → Lasts
single true codes = record { beginning = codes; later = [] }
single false codes = record { beginning = []; later = codes }

in-single : (b : Bool) (codes : List ℕ) (t : Token) → has codes (class t) ≡ true → In (single b codes) b t
in-single true codes t h = h
in-single false codes t h = h

pub clean-token : {A : Type 0} (b : Bool) (kind : Token → Option A) (codes : List ℕ) → Plain (token kind) (token_sets codes) → Clean b (token kind) (token_sets codes) (single b codes)
clean-token {A} b kind codes p = record {
  plain = p;
  good = λ x a h.
      let G : List Token → Type 0 = λ v. Good b (single b codes) codes v in
      let One1 : List Token → Type 0 = λ v. One kind v a in
      let k = p.laws.law.begins h.token [] a (subst One1 h.alone h) in
      subst G (sym h.alone) (record { fine = tt; last = in-single b codes h.token k; starts = k });
}

pub clean-nothing : {A : Type 0} (b : Bool) (a : A) (l : Lasts) → Clean b (nothing a) nothing_sets l
clean-nothing b a l = record {
  plain = plain-nothing a;
  good = λ x c h. let G : List Token → Type 0 = λ v. Good b l [] v in subst G (sym h.0) (good-none b l []);
}

abbrev pub inside : Lasts → Lasts → Bool
inside l m = within l.beginning m.beginning && within l.later m.later

inside-in : (l m : Lasts) → inside l m ≡ true → (b : Bool) (t : Token) → In l b t → In m b t
inside-in l m e true t i = within-has l.beginning m.beginning (class t) (both (within l.beginning m.beginning) (within l.later m.later) e).0 i
inside-in l m e false t i = within-has l.later m.later (class t) (both (within l.beginning m.beginning) (within l.later m.later) e).1 i

perhaps : (n b : Bool) → cond n b true ≡ true → n ≡ true → b ≡ true
perhaps true b e h = e
perhaps false b e h = absurd cc

then-good : {A B : Type 0} {b : Bool} {c : Bool} {g : Phrase Token A} {h : Phrase Token B} {s t : Sets} {l m : Lasts} → Clean b g s l → Clean c h t m → s.nullable ≡ false → ok c l t.first ≡ true → cond t.nullable (inside l m) true ≡ true
    → (x y : List Token) (a : A) (d : B) → g.Spells x a → h.Spells y d → Good b m s.first (x ++ y)
then-good {b = b} {c = c} {g = g} {h = h} {s = s} {t = t} {l = l} {m = m} p q whole e n [] y a d i j = absurd (cc (p.plain.laws.law.empty a i))
then-good {B = B} {b = b} {c = c} {g = g} {h = h} {s = s} {t = t} {l = l} {m = m} p q whole e n (u ∷ x) y a d i j =
    let S : List Token → Type 0 = λ v. h.Spells v d in
    good-append c l m s.first t.first b u x y e (λ none. inside-in l m (perhaps t.nullable (inside l m) n (q.plain.laws.law.empty d (subst S none j)))) (p.good (u ∷ x) a i) (q.good y d j)

pub clean-then : {A B C : Type 0} {b : Bool} {g : Phrase Token A} {h : A → Phrase Token B} {s t : Sets} {l m : Lasts} (c : Bool)
    → Clean b g s l → ((a : A) → Clean c (h a) t m) → (f : A → B → C) → s.nullable ≡ false → apart t.first s.more ≡ true → ok c l t.first ≡ true → cond t.nullable (inside l m) true ≡ true → Clean b (sequence g h f) (then_sets s t) m
clean-then {b = b} {s = s} {m = m} c p q f whole aside e n = record {
  plain = plain-then p.plain (λ a. (q a).plain) f whole aside;
  good = λ x a k.
      let G : List Token → Type 0 = λ v. Good b m s.first v in
      subst G (sym k.split) (then-good p (q k.one) whole e n k.front k.back k.one k.two k.first k.second);
}

good-left : (b : Bool) (l : Lasts) (ns ks : List ℕ) (x : List Token) → Good b l ns x → Good b l (ns ++ ks) x
good-left b l ns ks [] g = good-none b l (ns ++ ks)
good-left b l ns ks (t ∷ x) g = record { fine = g.fine; last = g.last; starts = has_in_left ns ks (class t) g.starts }

good-right : (b : Bool) (l : Lasts) (ns ks : List ℕ) (x : List Token) → Good b l ks x → Good b l (ns ++ ks) x
good-right b l ns ks [] g = good-none b l (ns ++ ks)
good-right b l ns ks (t ∷ x) g = record { fine = g.fine; last = g.last; starts = has_in_right ns ks (class t) g.starts }

or-good : {A : Type 0} {b : Bool} {g h : Phrase Token A} {s t : Sets} {l : Lasts} → Clean b g s l → Clean b h t l → (x : List Token) (a : A) → (either class s.first g h).Spells x a → Good b l (s.first ++ t.first) x
or-good {b = b} {s = s} {t = t} {l = l} p q x a (inl i) = good-left b l s.first t.first x (p.good x a i)
or-good {b = b} {s = s} {t = t} {l = l} p q x a (inr i) = good-right b l s.first t.first x (q.good x a i)

pub clean-or : {A : Type 0} {b : Bool} {g h : Phrase Token A} {s t : Sets} {l : Lasts} → Clean b g s l → Clean b h t l → s.nullable ≡ false → apart t.first s.first ≡ true → Clean b (either class s.first g h) (or_sets s t) l
clean-or p q whole aside = record { plain = plain-or p.plain q.plain whole aside; good = or-good p q }

-- a whole phrase and then a list that begins as it does
item-good : {A : Type 0} {b : Bool} {g : Phrase Token A} {s : Sets} {l : Lasts} {ks : List ℕ} → Clean b g s l → s.nullable ≡ false → ok b l ks ≡ true → (y z : List Token) (a : A) → g.Spells y a → Good b l ks z → Good b l s.first (y ++ z)
item-good p whole e [] z a one h = absurd (cc (p.plain.laws.law.empty a one))
item-good {b = b} {s = s} {l = l} {ks = ks} p whole e (t ∷ y) z a one h = good-append b l l s.first ks b t y z e (λ none v u i. i) (p.good (t ∷ y) a one) h

many-good : {A : Type 0} {b : Bool} {g : Phrase Token A} {s : Sets} {l : Lasts} → Clean b g s l → s.nullable ≡ false → ok b l s.first ≡ true → (x : List Token) (vs : List A) → (many class s.first g).Spells x vs → Good b l s.first x
many-good {b = b} {s = s} {l = l} p whole e x [] h = let G : List Token → Type 0 = λ v. Good b l s.first v in subst G (sym h) (good-none b l s.first)
many-good {A} {b = b} {g = g} {s = s} {l = l} p whole e x (a ∷ vs) (y, z, split, one, others) =
    let G : List Token → Type 0 = λ v. Good b l s.first v in
    subst G (sym split) (item-good p whole e y z a one (many-good p whole e z vs others))

pub clean-many : {A : Type 0} {b : Bool} {g : Phrase Token A} {s : Sets} {l : Lasts} → Clean b g s l → s.nullable ≡ false → apart s.first s.more ≡ true → ok b l s.first ≡ true → Clean b (many class s.first g) (many_sets s) l
clean-many p whole aside e = record { plain = plain-many p.plain whole aside; good = many-good p whole e }

module _ {A S : Type 0} {b : Bool} {g : S → Phrase Token A} {ks more : List ℕ} {l : Lasts} (p : (s : S) → Clean b (g s) (item_sets ks more) l) (e : ok b l ks ≡ true) (next : S → A → Option S) where
  behind-good : (n : Option S) (z : List Token) (vs : List A) → ((s : S) → Run (λ t. (g t).Spells) next s z vs → Good b l ks z)
      → goes n (λ t. Run (λ u. (g u).Spells) next t z vs) ((z ≡ []) × (vs ≡ [])) → Good b l ks z
  behind-good None z vs on h = let G : List Token → Type 0 = λ v. Good b l ks v in subst G (sym h.0) (good-none b l ks)
  behind-good (Some s) z vs on h = on s h

  run-good : (vs : List A) (s : S) (x : List Token) → Run (λ t. (g t).Spells) next s x vs → Good b l ks x
  run-good [] s x h = let G : List Token → Type 0 = λ v. Good b l ks v in subst G (sym h) (good-none b l ks)
  run-good (a ∷ vs) s x (y, z, split, one, others) =
      let G : List Token → Type 0 = λ v. Good b l ks v in
      subst G (sym split) (item-good (p s) refl e y z a one (behind-good (next s a) z vs (λ t h. run-good vs t z h) others))

pub clean-series : {A S : Type 0} {b : Bool} {g : S → Phrase Token A} {ks more : List ℕ} {l : Lasts} → ((s : S) → Clean b (g s) (item_sets ks more) l) → apart ks more ≡ true → within ks ks ≡ true → ok b l ks ≡ true → (next : S → A → Option S) (s : S)
    → Clean b (series class (λ s. ks) g next s) (series_sets ks more ks) l
clean-series {ks = ks} p aside same e next s = record {
  plain = plain-series (λ t. (p t).plain) ks (λ t. same) aside next s;
  good = λ x vs h. run-good p e next vs s x h;
}

-- by other sets, and with more last tokens
starts-wider : (ns ks : List ℕ) → within ns ks ≡ true → (x : List Token) → Starts ns x → Starts ks x
starts-wider ns ks e [] h = tt
starts-wider ns ks e (t ∷ x) h = within-has ns ks (class t) e h

pub clean-as : {A : Type 0} {b : Bool} {g : Phrase Token A} {s : Sets} {l : Lasts} (t : Sets) (m : Lasts) → Clean b g s l → fits s t ≡ true → within s.first t.first ≡ true → inside l m ≡ true → Clean b g t m
clean-as {b = b} {s = s} {l = l} t m c e first last = record {
  plain = plain-larger t c.plain e;
  good = λ x a h. let g = c.good x a h in record { fine = g.fine; last = last-wider l m (inside-in l m last) b x g.last; starts = starts-wider s.first t.first first x g.starts };
}
