-- The laws of a phrase, composed as the phrase is: g has some room, g+ has one more, and k has any.
use Rattle.std.proofs.Common.{◌≡◌, ℕ, suc, Bool, true, false, not, ◌&&◌, ◌||◌, List, Option, refl}
use Rattle.phrases.specs.Laws.{Laws, Kind}
use Rattle.phrases.specs.Phrases.{Phrase, token, opener, nothing, sequence, either, many}
use Rattle.phrases.specs.Series.{series}
use Rattle.phrases.specs.Sets.{apart, Sets, token_sets, nothing_sets, then_sets, or_sets, many_sets, item_sets, series_sets, within, fits}
use Rattle.phrases.proofs.AnyRoom.{one-wide, opener-wide, nothing-wide, then-wide, or-wide, many-wide}
use Rattle.phrases.proofs.Either.{or-lawful}
use Rattle.phrases.proofs.Repeated.{many-lawful, many-unfold}
use Rattle.phrases.proofs.InStates.{series-lawful, run-unfold}
use Rattle.phrases.proofs.InStatesAnyRoom.{series-wide}
use Rattle.phrases.proofs.Sequence.{then-lawful}
use Rattle.phrases.proofs.Sets.{within-has, within-ends}
use Rattle.phrases.proofs.Tokens.{one-lawful, opener-lawful, nothing-lawful}

pub token_laws : {T A : Type 0} {class : T → ℕ} {kind : T → Option A} {codes : List ℕ} → Kind class kind codes → Laws class (token kind) (token kind) (token kind) (token_sets codes)
token_laws {T} {A} {class} {kind} {codes} k = record {
  law = one-lawful class kind codes k.knows k.only k.sample k.value k.is_one;
  wide = one-wide class kind codes k.knows;
}

pub opener_laws : {T A : Type 0} {class : T → ℕ} {kind : T → Option A} {codes : List ℕ} (room n : ℕ) → Kind class kind codes → Laws class (opener room kind) (opener (suc room) kind) (opener n kind) (token_sets codes)
opener_laws {T} {A} {class} {kind} {codes} room n k = record {
  law = opener-lawful class kind codes k.knows k.only k.sample k.value k.is_one room;
  wide = opener-wide class kind codes k.knows room n;
}

pub nothing_laws : {T A : Type 0} (class : T → ℕ) (n : A) → Laws {T = T} class (nothing n) (nothing n) (nothing n) nothing_sets
nothing_laws class n = record { law = nothing-lawful class n; wide = nothing-wide class n }

pub sequence_laws : {T A B C : Type 0} {class : T → ℕ} {g g+ k : Phrase T A} {s : Sets} {h h+ m : A → Phrase T B} {t : Sets}
    → Laws class g g+ k s → ((a : A) → Laws class (h a) (h+ a) (m a) t) → (f : A → B → C) → s.nullable ≡ false → apart t.first s.more ≡ true
    → Laws class (sequence g h f) (sequence g+ h+ f) (sequence k m f) (then_sets s t)
sequence_laws {T} {A} {B} {C} {class} {g} {g+} {k} {s} {h} {h+} {m} {t} lg lh f whole aside = record {
  law = then-lawful class g.Spells g+.Spells g.Opens g.read s lg.law (λ a. (h a).Spells) (λ a. (h+ a).Spells) (λ a. (h a).Opens) (λ a. (h a).read) t (λ a. (lh a).law) f whole aside;
  wide = then-wide class k.Spells g.read s lg.wide (λ a. (m a).Spells) (λ a. (h a).read) t (λ a. (lh a).wide) f whole aside;
}

pub either_laws : {T A : Type 0} {class : T → ℕ} {g g+ k : Phrase T A} {s : Sets} {h h+ m : Phrase T A} {t : Sets}
    → Laws class g g+ k s → Laws class h h+ m t → s.nullable ≡ false → apart t.first s.first ≡ true
    → Laws class (either class s.first g h) (either class s.first g+ h+) (either class s.first k m) (or_sets s t)
either_laws {T} {A} {class} {g} {g+} {k} {s} {h} {h+} {m} {t} lg lh whole aside = record {
  law = or-lawful class g.Spells g+.Spells g.Opens g.read s lg.law h.Spells h+.Spells h.Opens h.read t lh.law whole aside;
  wide = or-wide class k.Spells g.read s lg.wide m.Spells h.read t lh.wide whole aside;
}

pub many_laws : {T A : Type 0} {class : T → ℕ} {g g+ k : Phrase T A} {s : Sets}
    → Laws class g g+ k s → s.nullable ≡ false → apart s.first s.more ≡ true
    → Laws class (many class s.first g) (many class s.first g+) (many class s.first k) (many_sets s)
many_laws {T} {A} {class} {g} {g+} {k} {s} lg whole aside = record {
  law = many-lawful class g.Spells g+.Spells g.Opens g.read s lg.law whole aside;
  wide = many-wide class k.Spells g.read s lg.wide (many-unfold class g.Spells g+.Spells g.Opens g.read s lg.law whole aside) whole aside;
}

-- items of each state, of which all together begin with no token that goes on with one
pub series_laws : {T A S : Type 0} {class : T → ℕ} {g g+ k : S → Phrase T A} {first : S → List ℕ} {more : List ℕ}
    → ((s : S) → Laws class (g s) (g+ s) (k s) (item_sets (first s) more)) → (all : List ℕ) → ((s : S) → within (first s) all ≡ true) → apart all more ≡ true → (next : S → A → Option S) (s : S)
    → Laws class (series class first g next s) (series class first g+ next s) (series class first k next s) (series_sets (first s) more all)
series_laws {T} {A} {S} {class} {g} {g+} {k} {first} {more} l all inside aside next s = record {
  law = series-lawful class (λ t. (g t).Spells) (λ t. (g+ t).Spells) (λ t. (g t).Opens) (λ t. (g t).read) first more all (λ t. (l t).law) next inside aside s;
  wide = series-wide class (λ t. (k t).Spells) (λ t. (g t).read) first more all (λ t. (l t).wide) next
      (run-unfold class (λ t. (g t).Spells) (λ t. (g+ t).Spells) (λ t. (g t).Opens) (λ t. (g t).read) first more all (λ t. (l t).law) next inside aside) inside aside s;
}

-- ---- larger sets

both : (a b : Bool) → a && b ≡ true → (a ≡ true) × (b ≡ true)
both true b e = (refl, e)
both false b e = absurd cc

implied : (a b : Bool) → not a || b ≡ true → a ≡ true → b ≡ true
implied true b e h = e
implied false b e h = absurd cc

pub larger_laws : {T A : Type 0} {class : T → ℕ} {g g+ k : Phrase T A} {s : Sets} (t : Sets) → Laws class g g+ k s → fits s t ≡ true → Laws class g g+ k t
larger_laws {T} {A} {class} {g} {g+} {k} {s} t l e =
    let (sames, others) = both (within s.first t.first && within t.first s.first) (within s.more t.more && (not s.nullable || t.nullable)) e in
    let (firsts, backs) = both (within s.first t.first) (within t.first s.first) sames in
    let (mores, null) = both (within s.more t.more) (not s.nullable || t.nullable) others in
    record {
      law = record {
        front = l.law.front;
        again = λ x a y h e. l.law.again x a y h (within-ends class s.more t.more y mores e);
        deep = l.law.deep;
        accepts = λ u y h k. l.law.accepts u y (within-has t.first s.first (class u) backs h) k;
        wider = l.law.wider;
        some = l.law.some;
        begins = λ u x a h. within-has s.first t.first (class u) firsts (l.law.begins u x a h);
        empty = λ a h. implied s.nullable t.nullable null (l.law.empty a h);
        opens = λ u x h. within-has s.first t.first (class u) firsts (l.law.opens u x h);
      };
      wide = record {
        wide = λ x a y h e. l.wide.wide x a y h (within-ends class s.more t.more y mores e);
        begins = λ u x a h. within-has s.first t.first (class u) firsts (l.wide.begins u x a h);
        empty = λ a h. implied s.nullable t.nullable null (l.wide.empty a h);
      };
    }
