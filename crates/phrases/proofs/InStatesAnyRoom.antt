-- A run of phrases in states, with any room; and lists with a separator that may stand at the end too.
use Rattle.std.proofs.Common.{◌≡◌, ℕ, true, false, cond, not, List, [], ◌∷◌, ◌++◌, Option, Some, None, inl, refl, ap, ◌∙◌, append_assoc}
use Rattle.phrases.specs.Laws.{ReadOrDeep, Wide}
use Rattle.phrases.specs.Reading.{Outcome, Read, after, read_then}
use Rattle.phrases.specs.Series.{goes, Run, goes_on, read_run}
use Rattle.phrases.specs.Sets.{has, apart, starts, ends, item_sets, series_sets, within}
use Rattle.phrases.proofs.AnyRoom.{after-deep}
use Rattle.phrases.proofs.Repeated.{cons}
use Rattle.phrases.proofs.Sets.{within-has, within-not, apart_has, ends_left, ends_right, not_true}

module _ {T A S : Type 0} (class : T → ℕ)
    (P : S → List T → A → Type 0) (p : S → List T → Outcome T A) (first : S → List ℕ) (more all : List ℕ) (lp : (s : S) → Wide class (P s) (p s) (item_sets (first s) more)) (next : S → A → Option S)
    (unfolds : (s : S) (ts : List T) → read_run class first p next s ts ≡ cond (starts class (first s) ts) (read_then (p s) (λ a y. goes_on (next s a) (read_run class first p next) y) cons ts) (Read [] ts))
    (inside : (s : S) → within (first s) all ≡ true) (aside : apart all more ≡ true) where
  -- no item is empty
  not_empty : (s : S) (a : A) → P s [] a → ⊥
  not_empty s a h = let e : false ≡ true = (lp s).empty a h in cc

  abbrev run : S → List T → Outcome T (List A)
  run s ts = read_run class first p next s ts

  run-begins : (s : S) (t : T) (x : List T) (vs : List A) → Run P next s (t ∷ x) vs → has (first s) (class t) ≡ true
  run-begins s t x [] h = absurd (cc)
  run-begins s t x (a ∷ vs) ([], z, e, h, m) = absurd (not_empty s a h)
  run-begins s t x (a ∷ vs) (u ∷ y, z, e, h, m) = let same : t ≡ u = cc in rw same ((lp s).begins u y a h)

  starts-taken : (s : S) (x : List T) (a : A) (y : List T) → P s x a → starts class (first s) (x ++ y) ≡ true
  starts-taken s [] a y h = absurd (not_empty s a h)
  starts-taken s (t ∷ x) a y h = (lp s).begins t x a h

  starts-none : (s : S) (y : List T) → ends class (more ++ all) y ≡ true → starts class (first s) y ≡ false
  starts-none s [] e = refl
  starts-none s (t ∷ y) e = within-not (first s) all (class t) (inside s) (not_true (has all (class t)) (ends_right class more all (t ∷ y) e))

  run-read : (vs : List A) (s : S) (x y : List T) → Run P next s x vs → ends class (more ++ all) y ≡ true → ReadOrDeep (run s (x ++ y)) vs y
  run-read [] s x y h e = rw h (inl (unfolds s y ∙ rw (starts-none s y e) refl))
  run-read (a ∷ vs) s x y (x1, x2, q, h, m) e =
      let k : A → List T → Outcome T (List A) = λ a z. after (goes_on (next s a) run z) (λ us w. Read (cons a us) w) in
      rw (q, append_assoc x1 x2 y, unfolds s (x1 ++ (x2 ++ y)), starts-taken s x1 a (x2 ++ y) h)
      (after-deep (p s (x1 ++ (x2 ++ y))) a (x2 ++ y) k (a ∷ vs) y ((lp s).wide x1 a (x2 ++ y) h (gap (next s a) x2 m))
      (after-deep (goes_on (next s a) run (x2 ++ y)) vs y (λ us w. Read (cons a us) w) (a ∷ vs) y (by (next s a) m (λ t k. run-read vs t x2 y k e)) (inl refl)))
    where
      gap : (o : Option S) (x2 : List T) → goes o (λ t. Run P next t x2 vs) ((x2 ≡ []) × (vs ≡ [])) → ends class more (x2 ++ y) ≡ true
      gap o [] m = ends_left class more all y e
      gap None (t ∷ x2) m = absurd (cc (m.0))
      gap (Some t) (u ∷ x2) m = ap not (apart_has all more (class u) aside (within-has (first t) all (class u) (inside t) (run-begins t u x2 vs m)))

      by : (o : Option S) → goes o (λ t. Run P next t x2 vs) ((x2 ≡ []) × (vs ≡ [])) → ((t : S) → Run P next t x2 vs → ReadOrDeep (run t (x2 ++ y)) vs y) → ReadOrDeep (goes_on o run (x2 ++ y)) vs y
      by None m g = rw (m.0, m.1) (inl refl)
      by (Some t) m g = g t m

  pub series-wide : (s : S) → Wide class (Run P next s) (run s) (series_sets (first s) more all)
  series-wide s = record { wide = λ x vs y m e. run-read vs s x y m e; begins = run-begins s; empty = λ vs m. refl }
