-- Items in states that say whether the one before had it, are items of which those that have it come last.
use Rattle.std.proofs.Common.{◌≡◌, Bool, true, false, List, [], ◌∷◌, ◌++◌, refl, sym, ap, subst, ◌∙◌}
use Rattle.py_productions.specs.Orders.{Each, AreLast}
use Rattle.py_productions.proofs.Commas.{Stands}

module _ {A : Type 0} (has : A → Bool) where
  -- behind one that has it each has it
  abbrev pub Follows : Bool → A → Type 0
  Follows b a = b ≡ true → has a ≡ true

  all-have : (b : Bool) (items : List A) → b ≡ true → Stands Follows has b items → Each has true items
  all-have b [] e h = tt
  all-have b (a ∷ items) e h = let k = h.0 e in (k, all-have (has a) items k h.1)

  one-more : (a : A) (items : List A) (b : Bool) → has a ≡ b → Stands Follows has (has a) items → AreLast has items → AreLast has (a ∷ items)
  one-more a items true e h l = record { before = []; last = a ∷ items; all = refl; without = tt; having = (e, all-have (has a) items e h) }
  one-more a items false e h l = record { before = a ∷ l.before; last = l.last; all = ap (λ w. a ∷ w) l.all; without = (e, l.without); having = l.having }

  all-ordered : (s : Bool) (items : List A) → Stands Follows has s items → AreLast has items
  all-ordered s [] h = record { before = []; last = []; all = refl; without = tt; having = tt }
  all-ordered s (a ∷ items) h = one-more a items (has a) refl h.1 (all-ordered (has a) items h.1)

  pub ordered : (a : A) (items : List A) → Stands Follows has (has a) items → AreLast has (a ∷ items)
  ordered a items h = all-ordered false (a ∷ items) (λ e. absurd (cc e), h)

  each-stands : (s : Bool) (items : List A) → Each has true items → Stands Follows has s items
  each-stands s [] h = tt
  each-stands s (a ∷ items) h = (λ e. h.0, each-stands (has a) items h.1)

  both-stand : (s : Bool) (before last : List A) → s ≡ false → Each has false before → Each has true last → Stands Follows has s (before ++ last)
  both-stand s [] last e b l = each-stands s last l
  both-stand s (a ∷ before) last e b l = (λ k. absurd (cc (e, k)), both-stand (has a) before last b.0 b.1 l)

  pub stand : (a : A) (items : List A) → AreLast has (a ∷ items) → Stands Follows has (has a) items
  stand a items h = by h.before h.last h.all h.without h.having
    where
      by : (before last : List A) → a ∷ items ≡ before ++ last → Each has false before → Each has true last → Stands Follows has (has a) items
      by [] last e b l = each-stands (has a) items ((subst (λ w. Each has true w) (sym e) l).1)
      by (c ∷ before) last e b l =
          let head : a ≡ c = cc e in
          let rest : before ++ last ≡ items = cc e in
          subst (λ w. Stands Follows has (has a) w) rest (both-stand (has a) before last (ap has head ∙ b.0) b.1 l)
