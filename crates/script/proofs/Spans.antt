-- Words and fields: what is read, what is refused, and what can still come.
use Rattle.std.proofs.Common.{◌≡◌, ◌≢◌, ◌⊎◌, ℕ, ◌+◌, ◌-◌, ◌<◌, ◌≤◌, Bool, true, false, cond, List, [], ◌∷◌, ◌++◌, length, take, drop, get_or, All, Option, Some, None, Result, Ok, Err, refl, sym, ap, subst, ◌∙◌, append_assoc, eqb, leb, arith, inl, inr}
use Rattle.std.specs.Prelude.{◌&&◌, nat_eq}
use Rattle.std.specs.List.{prefix_len, starts_with}
use Rattle.std.proofs.lemmas.Bool.{cases_lt, eqb-true, false_from_ne_true, ne_eqb, lt-leb, le-leb}
use Rattle.std.proofs.lemmas.Bool.Decides.{Decides-eqb}
use Rattle.std.proofs.lemmas.List.{append-nil, length-append, length-take-le, take-append-drop, drop_more, drop_at, take_at, get_or_append_left, get_or-take, nil_from_length, take_all}
use Rattle.std.proofs.lemmas.List.Elements.{All-append}
use Rattle.std.proofs.lemmas.List.Sums.{prefix_len_is, prefix_len_passes, prefix_len_stops, prefix_len-le-length}
use Rattle.std.proofs.lemmas.Slice.Eq.{starts_is}
use Rattle.std.proofs.Math.Seq.{get_or-append_seam}
use Rattle.script.specs.declared.faults.Fault.{Fault}
use Rattle.script.specs.declared.faults.Fault.TheVariants.{Line, Text, Malformed}
use Rattle.script.specs.Grammar.{line_end}
use Rattle.script.specs.Reading.{◌>>=◌, or_malformed, word_at, rest_at, none_at}
use Rattle.script.proofs.Again.{seam_drop}
use Rattle.script.proofs.Laws.{IsInline, IsFrontOf, IsSound, IsReader, never, waits_never, pair_is}

-- ---- words

begins_true : (bytes front : List ℕ) → starts_with nat_eq bytes front ≡ true → bytes ≡ front ++ drop (length front) bytes
begins_true bytes front e = (starts_is Decides-eqb bytes front (starts_with nat_eq bytes front) refl).0 e

true_begins : (bytes front rest : List ℕ) → bytes ≡ front ++ rest → starts_with nat_eq bytes front ≡ true
true_begins bytes front rest e = (starts_is Decides-eqb bytes front (starts_with nat_eq bytes front) refl).1 rest e

-- of two lists that begin another, one begins the other
fronts : (xs us ys vs : List ℕ) → xs ++ ys ≡ us ++ vs → ((more : List ℕ) × (xs ≡ us ++ more)) ⊎ ((more : List ℕ) × (us ≡ xs ++ more))
fronts [] us ys vs e = inr (us, refl)
fronts (x ∷ xs) [] ys vs e = inl (x ∷ xs, refl)
fronts (x ∷ xs) (u ∷ us) ys vs e =
    let head : x ≡ u = cc in
    let tail : xs ++ ys ≡ us ++ vs = cc in
    elim (fronts xs us ys vs tail) [
      | inl m ↦ inl (m.0, cc (m.1))
      | inr m ↦ inr (m.0, cc (m.1))
    ]

-- what a test chose
pub chosen : {A : Type 0} (b : Bool) (x y z : A) → cond b x y ≡ z → ((b ≡ true) × (x ≡ z)) ⊎ ((b ≡ false) × (y ≡ z))
chosen true x y z e = inl (refl, e)
chosen false x y z e = inr (refl, e)

word_ok : (b c : Bool) (x y : List ℕ) → cond b (Ok x) (cond c (Err Line) (Err Malformed)) ≡ Ok y → (b ≡ true) × (x ≡ y)
word_ok true c x y e = (refl, cc)
word_ok false true x y e = absurd cc
word_ok false false x y e = absurd cc

word_line : (b c : Bool) (x : List ℕ) → cond b (Ok x) (cond c (Err Line) (Err Malformed)) ≡ Err Line → (b ≡ false) × (c ≡ true)
word_line true c x e = absurd cc
word_line false true x e = (refl, refl)
word_line false false x e = absurd cc

word_refused : (b c : Bool) (x : List ℕ) → cond b (Ok x) (cond c (Err Line) (Err Malformed)) ≡ Err Malformed → (b ≡ false) × (c ≡ false)
word_refused true c x e = absurd cc
word_refused false true x e = absurd cc
word_refused false false x e = (refl, refl)

word_text : (b c : Bool) (x : List ℕ) (until : ℕ) → cond b (Ok x) (cond c (Err Line) (Err Malformed)) ≡ Err (Text until) → ⊥
word_text true c x until e = absurd cc
word_text false true x until e = absurd cc
word_text false false x until e = absurd cc

-- a word as a reader of nothing
abbrev pub word_unit : List ℕ → List ℕ → Result (Unit {0} × List ℕ) Fault
word_unit word bytes = word_at word bytes >>= λ rest. Ok (tt, rest)

pub unit_bind : {B : Type 0} (o : Result (List ℕ) Fault) (r : List ℕ → Result B Fault) → (o >>= r) ≡ ((o >>= λ rest. Ok (tt, rest)) >>= λ (p : Unit {0} × List ℕ). r p.1)
unit_bind (Ok x) r = refl
unit_bind (Err e) r = refl

abbrev pub IsWord : List ℕ → Unit {0} → List ℕ → Type 0
IsWord word x text = text ≡ word

abbrev unit : List ℕ → Result (Unit {0} × List ℕ) Fault
unit rest = Ok (tt, rest)

unit_err : (o : Result (List ℕ) Fault) (d : Fault) → (o >>= unit) ≡ Err d → o ≡ Err d
unit_err (Ok x) d e = absurd cc
unit_err (Err c) d e = cc

unit_ok : (o : Result (List ℕ) Fault) (x : Unit {0}) (rest : List ℕ) → (o >>= unit) ≡ Ok (x, rest) → o ≡ Ok rest
unit_ok (Ok y) x rest e = ap Ok (pair_is tt x y rest e).1
unit_ok (Err c) x rest e = absurd cc

pub word_again : (word rest : List ℕ) → word_at word (word ++ rest) ≡ Ok rest
word_again word rest = rw (true_begins (word ++ rest) word rest refl, drop_at word rest (length word) refl) refl

word_grows : (word bytes more : List ℕ) → word_at word bytes ≡ Err Malformed → word_at word (bytes ++ more) ≡ Err Malformed
word_grows word bytes more e =
    let no = word_refused (starts_with nat_eq bytes word) (starts_with nat_eq word bytes) (drop (length word) bytes) e in
    let first : starts_with nat_eq (bytes ++ more) word ≡ false = false_from_ne_true _ (λ yes. elim (fronts bytes word more (drop (length word) (bytes ++ more)) (begins_true (bytes ++ more) word yes)) [
      | inl m ↦ absurd (cc (no.0, true_begins bytes word m.0 m.1))
      | inr m ↦ absurd (cc (no.1, true_begins word bytes m.0 m.1))
    ]) in
    let second : starts_with nat_eq word (bytes ++ more) ≡ false = false_from_ne_true _ (λ yes.
    let rest = drop (length (bytes ++ more)) word in
    absurd (cc (no.1, true_begins word bytes (more ++ rest) (begins_true word (bytes ++ more) yes ∙ append_assoc bytes more rest)))) in
    rw (first, second) refl

word_front : (word bytes : List ℕ) → word_at word bytes ≡ Err Line → (more : List ℕ) × (0 < length more) × (word ≡ bytes ++ more)
word_front word bytes e =
    let is = word_line (starts_with nat_eq bytes word) (starts_with nat_eq word bytes) (drop (length word) bytes) e in
    let more = drop (length bytes) word in
    let parts : word ≡ bytes ++ more = begins_true word bytes is.1 in
    elim (cases_lt 0 (length more)) [
      | inl lt ↦ (more, lt, parts)
      | inr le ↦ (
          let none : more ≡ [] = nil_from_length more (omega arith) in
          let whole : bytes ≡ word ++ [] = sym (append-nil bytes) ∙ ap (λ (x : List ℕ). bytes ++ x) (sym none) ∙ sym parts ∙ sym (append-nil word) in
          absurd (cc (is.0, true_begins bytes word [] whole)))
    ]

-- a proper front of a word lies within all of it but its last byte
front_inline : (word bytes more : List ℕ) → IsInline (take (length word - 1) word) → 0 < length more → word ≡ bytes ++ more → IsInline bytes
front_inline word bytes more inline some parts k d lt =
    let len : length word ≡ length bytes + length more = ap length parts ∙ length-append bytes more in
    let below : k < length word - 1 = omega arith in
    let inside : k < length (take (length word - 1) word) = omega (arith, length-take-le (length word - 1) word) in
    let same : get_or (take (length word - 1) word) k d ≡ get_or bytes k d = get_or-take (length word - 1) word k d below ∙ ap (λ (w : List ℕ). get_or w k d) parts ∙ get_or_append_left bytes more d k lt in
    subst (λ (b : ℕ). b ≢ line_end) same (inline k d inside)

pub word_reader : (word : List ℕ) → IsInline (take (length word - 1) word) → IsReader (IsWord word) never waits_never (word_unit word)
word_reader word inline = record {
  sound = record {
    takes = λ bytes x rest e.
        let is = word_ok (starts_with nat_eq bytes word) (starts_with nat_eq word bytes) (drop (length word) bytes) rest (unit_ok (word_at word bytes) x rest e) in
        (word, refl, begins_true bytes word is.0 ∙ ap (λ (r : List ℕ). word ++ r) is.1);
    stays = λ bytes more e. ap (λ (o : Result (List ℕ) Fault). o >>= λ rest. unit rest) (word_grows word bytes more (unit_err (word_at word bytes) Malformed e));
    completes = λ bytes e.
        let front = word_front word bytes (unit_err (word_at word bytes) Line e) in
        inl (record { more = front.0; value = tt; proper = front.1; spells = sym front.2 });
    inline = λ bytes e.
        let front = word_front word bytes (unit_err (word_at word bytes) Line e) in
        front_inline word bytes front.0 inline front.1 front.2;
    waits = λ bytes until e. word_text (starts_with nat_eq bytes word) (starts_with nat_eq word bytes) (drop (length word) bytes) until (unit_err (word_at word bytes) (Text until) e);
  };
  again = λ x text rest is.
      ap (λ (t : List ℕ). word_at word (t ++ rest) >>= λ r. unit r) is
      ∙ ap (λ (o : Result (List ℕ) Fault). o >>= λ r. unit r) (word_again word rest);
}

-- ---- fields

-- the bytes all pass, or a byte that doesn't stands behind those that do
pub record IsPart (p : ℕ → Bool) (bytes : List ℕ) : Type 0 where
  pub field : List ℕ
  pub other : ℕ
  pub rest : List ℕ
  pub all : All (λ b. p b ≡ true) field
  pub stops : p other ≡ false
  pub parts : bytes ≡ field ++ other ∷ rest

pub shape : (p : ℕ → Bool) (bytes : List ℕ) → All (λ b. p b ≡ true) bytes ⊎ IsPart p bytes
shape p bytes =
    let n = prefix_len p bytes in
    let field = take n bytes in
    let within : n ≤ length bytes = prefix_len-le-length p bytes in
    elim (cases_lt n (length bytes)) [
      | inl lt ↦ inr (record {
        field = field;
        other = get_or bytes n 0;
        rest = drop (n + 1) bytes;
        all = λ k d inside. (let below : k < n = omega (arith, length-take-le n bytes within) in rw (get_or-take n bytes k d below) (prefix_len_passes p bytes k d below));
        stops = prefix_len_stops p bytes 0 lt;
        parts = sym (take-append-drop n bytes) ∙ ap (λ (x : List ℕ). take n bytes ++ x) (drop_more bytes n 0 lt);
      })
      | inr le ↦ inl (λ k d inside. prefix_len_passes p bytes k d (omega arith))
    ]

-- A field that a test makes a value of, up to its end; where some is true it has at least one byte.
abbrev pub field_at : {A : Type 0} → (ℕ → Bool) → Bool → (List ℕ → Option A) → ℕ → List ℕ → Result (A × List ℕ) Fault
field_at p some check end bytes =
    cond (some && eqb (prefix_len p bytes) 0) (Err (none_at bytes))
    (or_malformed (check (take (prefix_len p bytes) bytes)) >>= λ v. rest_at (prefix_len p bytes) end bytes >>= λ rest. Ok (v, rest))

-- what it gives where all bytes pass, and where the field ends
abbrev whole_at : {A : Type 0} → Bool → Option A → Result (A × List ℕ) Fault
whole_at none o = cond none (Err Line) (or_malformed o >>= λ v. Err Line)

abbrev part_at : {A : Type 0} → Bool → Option A → Bool → List ℕ → Result (A × List ℕ) Fault
part_at none o ends rest = cond none (Err Malformed) (or_malformed o >>= λ v. cond ends (Ok rest) (Err Malformed) >>= λ rest. Ok (v, rest))

span_whole : (p : ℕ → Bool) (bytes : List ℕ) → All (λ b. p b ≡ true) bytes → prefix_len p bytes ≡ length bytes
span_whole p bytes all = prefix_len_is p bytes (length bytes) 0 (omega arith) (λ k lt. all k 0 lt) (λ lt. absurd (omega arith))

span_part : (p : ℕ → Bool) (field rest : List ℕ) (other : ℕ) → All (λ b. p b ≡ true) field → p other ≡ false → prefix_len p (field ++ other ∷ rest) ≡ length field
span_part p field rest other all stops =
    prefix_len_is p (field ++ other ∷ rest) (length field) 0 (omega (arith, length-append field (other ∷ rest)))
    (λ k lt. rw (get_or_append_left field (other ∷ rest) 0 k lt) (all k 0 lt))
    (λ lt. rw (get_or-append_seam field other rest 0) stops)

whole_none : {A : Type 0} (some b c : Bool) (o : Option A) (f : Fault) → c ≡ b → cond (some && b) (Err (cond c Line f)) (or_malformed o >>= λ v. Err Line) ≡ whole_at (some && b) o
whole_none true true c o f e = rw e refl
whole_none true false c o f e = refl
whole_none false b c o f e = refl

pub field_whole : {A : Type 0} (p : ℕ → Bool) (some : Bool) (check : List ℕ → Option A) (end : ℕ) (bytes : List ℕ) → All (λ b. p b ≡ true) bytes → field_at p some check end bytes ≡ whole_at (some && eqb (length bytes) 0) (check bytes)
field_whole p some check end bytes all =
    let long : leb (length bytes) (length bytes) ≡ true = le-leb _ _ (omega arith) in
    rw (span_whole p bytes all, take_all (length bytes) bytes (omega arith), long) (whole_none some (eqb (length bytes) 0) (eqb (length bytes) 0) (check bytes) Malformed refl)

pub field_part : {A : Type 0} (p : ℕ → Bool) (some : Bool) (check : List ℕ → Option A) (end : ℕ) (field rest : List ℕ) (other : ℕ) → All (λ b. p b ≡ true) field → p other ≡ false
    → field_at p some check end (field ++ other ∷ rest) ≡ part_at (some && eqb (length field) 0) (check field) (eqb other end) rest
field_part p some check end field rest other all stops =
    let long : leb (length (field ++ other ∷ rest)) (length field) ≡ false = lt-leb _ _ (omega (arith, length-append field (other ∷ rest))) in
    let full : eqb (length (field ++ other ∷ rest)) 0 ≡ false = ne_eqb _ _ (λ e. absurd (omega (arith, length-append field (other ∷ rest), e))) in
    rw (span_part p field rest other all stops, take_at field (other ∷ rest) (length field) refl, long, full, get_or-append_seam field other rest 0, seam_drop field rest other) refl

-- ---- what is asked of the test of a field

abbrev pub IsLong : Bool → List ℕ → Type 0
IsLong some field = some ≡ true → 0 < length field

-- what is shown of a good value, and the end of the field
pub record Ended {A : Type 0} (Good : A → Type 0) (show : A → List ℕ) (end : ℕ) (x : A) (text : List ℕ) : Type 0 where
  pub good : Good x
  pub shown : text ≡ show x ++ end ∷ []

pub record IsCheck {A : Type 0} (p : ℕ → Bool) (some : Bool) (Good : A → Type 0) (show : A → List ℕ) (end : ℕ) (O : List ℕ → Type 0) (check : List ℕ → Option A) : Type 0 where
  pub good : (field : List ℕ) (x : A) → All (λ b. p b ≡ true) field → IsLong some field → check field ≡ Some x → Good x × (field ≡ show x)
  pub grows : (field more : List ℕ) → All (λ b. p b ≡ true) field → All (λ b. p b ≡ true) more → IsLong some field → check field ≡ None → check (field ++ more) ≡ None
  pub ends : (field : List ℕ) (x : A) → All (λ b. p b ≡ true) field → IsLong some field → check field ≡ Some x → IsFrontOf (Ended Good show end) field ⊎ O field
  pub begins : some ≡ true → IsFrontOf (Ended Good show end) [] ⊎ O []

long_from : (some : Bool) (field : List ℕ) → some && eqb (length field) 0 ≡ false → IsLong some field
long_from true [] e some = absurd cc
long_from true (x ∷ xs) e some = omega arith
long_from false field e some = absurd cc

test_from : (some : Bool) (field : List ℕ) → IsLong some field → some && eqb (length field) 0 ≡ false
test_from true field long = ne_eqb _ _ (λ e. absurd (omega (arith, long refl, e)))
test_from false field long = refl

long_more : (some : Bool) (field more : List ℕ) → IsLong some field → IsLong some (field ++ more)
long_more some field more long is = omega (arith, length-append field more, long is)

whole_ok : {A : Type 0} (none : Bool) (o : Option A) (y : A × List ℕ) → whole_at none o ≡ Ok y → ⊥
whole_ok true o y e = absurd cc
whole_ok false None y e = absurd cc
whole_ok false (Some x) y e = absurd cc

whole_text : {A : Type 0} (none : Bool) (o : Option A) (until : ℕ) → whole_at none o ≡ Err (Text until) → ⊥
whole_text true o until e = absurd cc
whole_text false None until e = absurd cc
whole_text false (Some x) until e = absurd cc

whole_refused : {A : Type 0} (none : Bool) (o : Option A) → whole_at none o ≡ Err Malformed → (none ≡ false) × (o ≡ None)
whole_refused true o e = absurd cc
whole_refused false None e = (refl, refl)
whole_refused false (Some x) e = absurd cc

whole_line : {A : Type 0} (none : Bool) (o : Option A) → whole_at none o ≡ Err Line → (none ≡ true) ⊎ ((none ≡ false) × (x : A) × (o ≡ Some x))
whole_line true o e = inl refl
whole_line false None e = absurd cc
whole_line false (Some x) e = inr (refl, x, refl)

part_ok : {A : Type 0} (none : Bool) (o : Option A) (ends : Bool) (rest : List ℕ) (x : A) (after : List ℕ) → part_at none o ends rest ≡ Ok (x, after) → (none ≡ false) × (o ≡ Some x) × (ends ≡ true) × (rest ≡ after)
part_ok true o ends rest x after e = absurd cc
part_ok false None ends rest x after e = absurd cc
part_ok false (Some y) false rest x after e = absurd cc
part_ok false (Some y) true rest x after e = let s = pair_is y x rest after e in (refl, ap Some s.0, refl, s.1)

part_line : {A : Type 0} (none : Bool) (o : Option A) (ends : Bool) (rest : List ℕ) → part_at none o ends rest ≡ Err Line → ⊥
part_line true o ends rest e = absurd cc
part_line false None ends rest e = absurd cc
part_line false (Some y) false rest e = absurd cc
part_line false (Some y) true rest e = absurd cc

part_text : {A : Type 0} (none : Bool) (o : Option A) (ends : Bool) (rest : List ℕ) (until : ℕ) → part_at none o ends rest ≡ Err (Text until) → ⊥
part_text true o ends rest until e = absurd cc
part_text false None ends rest until e = absurd cc
part_text false (Some y) false rest until e = absurd cc
part_text false (Some y) true rest until e = absurd cc

part_refused : {A : Type 0} (none : Bool) (o : Option A) (ends : Bool) (rest more : List ℕ) → part_at none o ends rest ≡ Err Malformed → part_at none o ends more ≡ Err Malformed
part_refused true o ends rest more e = refl
part_refused false None ends rest more e = refl
part_refused false (Some y) false rest more e = refl
part_refused false (Some y) true rest more e = absurd cc

all_inline : (p : ℕ → Bool) (bytes : List ℕ) → p line_end ≡ false → All (λ b. p b ≡ true) bytes → IsInline bytes
all_inline p bytes other all k d lt e = let yes : p line_end ≡ true = ap p (sym e) ∙ all k d lt in absurd (cc (other, yes))

-- ---- a field as a reader

field_takes : {A : Type 0} (p : ℕ → Bool) (some : Bool) (Good : A → Type 0) (show : A → List ℕ) (end : ℕ) (O : List ℕ → Type 0) (check : List ℕ → Option A) → IsCheck p some Good show end O check
    → (bytes : List ℕ) (x : A) (rest : List ℕ) → field_at p some check end bytes ≡ Ok (x, rest) → (text : List ℕ) × Ended Good show end x text × (bytes ≡ text ++ rest)
field_takes p some Good show end O check is bytes x rest e =
    elim (shape p bytes) [
      | inl all ↦ absurd (whole_ok (some && eqb (length bytes) 0) (check bytes) (x, rest) (sym (field_whole p some check end bytes all) ∙ e))
      | inr part ↦ (
          let same : part_at (some && eqb (length part.field) 0) (check part.field) (eqb part.other end) part.rest ≡ Ok (x, rest) =
          sym (field_part p some check end part.field part.rest part.other part.all part.stops) ∙ sym (ap (field_at p some check end) part.parts) ∙ e in
          let s = part_ok (some && eqb (length part.field) 0) (check part.field) (eqb part.other end) part.rest x rest same in
          let g = is.good part.field x part.all (long_from some part.field s.0) s.1 in
          let other : part.other ≡ end = eqb-true part.other end s.2 in
          let text : bytes ≡ show x ++ end ∷ rest = part.parts ∙ ap (λ (f : List ℕ). f ++ part.other ∷ part.rest) g.1 ∙ ap (λ (b : ℕ). show x ++ b ∷ part.rest) other ∙ ap (λ (r : List ℕ). show x ++ end ∷ r) s.3 in
          (show x ++ end ∷ [], record { good = g.0; shown = refl }, text ∙ sym (append_assoc (show x) (end ∷ []) rest)))
    ]

field_stays : {A : Type 0} (p : ℕ → Bool) (some : Bool) (Good : A → Type 0) (show : A → List ℕ) (end : ℕ) (O : List ℕ → Type 0) (check : List ℕ → Option A) → IsCheck p some Good show end O check
    → (bytes more : List ℕ) → field_at p some check end bytes ≡ Err Malformed → field_at p some check end (bytes ++ more) ≡ Err Malformed
field_stays p some Good show end O check is bytes more e =
    elim (shape p bytes) [
      | inl all ↦ (
          let s = whole_refused (some && eqb (length bytes) 0) (check bytes) (sym (field_whole p some check end bytes all) ∙ e) in
          let long = long_from some bytes s.0 in
          elim (shape p more) [
            | inl others ↦ field_whole p some check end (bytes ++ more) (All-append (λ b. p b ≡ true) bytes more all others) ∙ rw (test_from some (bytes ++ more) (long_more some bytes more long), is.grows bytes more all others long s.1) refl
            | inr part ↦ (
                let field = bytes ++ part.field in
                let parts : bytes ++ more ≡ field ++ part.other ∷ part.rest = ap (λ (m : List ℕ). bytes ++ m) part.parts ∙ sym (append_assoc bytes part.field (part.other ∷ part.rest)) in
                ap (field_at p some check end) parts ∙ field_part p some check end field part.rest part.other (All-append (λ b. p b ≡ true) bytes part.field all part.all) part.stops
                ∙ rw (test_from some field (long_more some bytes part.field long), is.grows bytes part.field all part.all long s.1) refl)
          ])
      | inr part ↦ (
          let same : part_at (some && eqb (length part.field) 0) (check part.field) (eqb part.other end) part.rest ≡ Err Malformed =
          sym (field_part p some check end part.field part.rest part.other part.all part.stops) ∙ sym (ap (field_at p some check end) part.parts) ∙ e in
          let parts : bytes ++ more ≡ part.field ++ part.other ∷ (part.rest ++ more) = ap (λ (b : List ℕ). b ++ more) part.parts ∙ append_assoc part.field (part.other ∷ part.rest) more in
          ap (field_at p some check end) parts ∙ field_part p some check end part.field (part.rest ++ more) part.other part.all part.stops
          ∙ part_refused (some && eqb (length part.field) 0) (check part.field) (eqb part.other end) part.rest (part.rest ++ more) same)
    ]

no_part : {A : Type 0} (p : ℕ → Bool) (some : Bool) (end : ℕ) (check : List ℕ → Option A) (bytes : List ℕ) → field_at p some check end bytes ≡ Err Line → All (λ b. p b ≡ true) bytes
no_part p some end check bytes e =
    elim (shape p bytes) [
      | inl all ↦ all
      | inr part ↦ absurd (part_line (some && eqb (length part.field) 0) (check part.field) (eqb part.other end) part.rest (sym (field_part p some check end part.field part.rest part.other part.all part.stops) ∙ sym (ap (field_at p some check end) part.parts) ∙ e))
    ]

empty_from : (some : Bool) (field : List ℕ) → some && eqb (length field) 0 ≡ true → (some ≡ true) × (field ≡ [])
empty_from true [] e = (refl, refl)
empty_from true (x ∷ xs) e = absurd (omega (arith, eqb-true (length (x ∷ xs)) 0 e))
empty_from false field e = absurd cc

field_completes : {A : Type 0} (p : ℕ → Bool) (some : Bool) (Good : A → Type 0) (show : A → List ℕ) (end : ℕ) (O : List ℕ → Type 0) (check : List ℕ → Option A) → IsCheck p some Good show end O check
    → (bytes : List ℕ) → field_at p some check end bytes ≡ Err Line → IsFrontOf (Ended Good show end) bytes ⊎ O bytes
field_completes p some Good show end O check is bytes e =
    let all = no_part p some end check bytes e in
    elim (whole_line (some && eqb (length bytes) 0) (check bytes) (sym (field_whole p some check end bytes all) ∙ e)) [
      | inl none ↦ (let s = empty_from some bytes none in subst (λ b. IsFrontOf (Ended Good show end) b ⊎ O b) (sym s.1) (is.begins s.0))
      | inr given ↦ is.ends bytes given.1 all (long_from some bytes given.0) given.2
    ]

field_waits : {A : Type 0} (p : ℕ → Bool) (some : Bool) (end : ℕ) (check : List ℕ → Option A) (bytes : List ℕ) (until : ℕ) → field_at p some check end bytes ≡ Err (Text until) → ⊥
field_waits p some end check bytes until e =
    elim (shape p bytes) [
      | inl all ↦ whole_text (some && eqb (length bytes) 0) (check bytes) until (sym (field_whole p some check end bytes all) ∙ e)
      | inr part ↦ part_text (some && eqb (length part.field) 0) (check part.field) (eqb part.other end) part.rest until (sym (field_part p some check end part.field part.rest part.other part.all part.stops) ∙ sym (ap (field_at p some check end) part.parts) ∙ e)
    ]

pub field_sound : {A : Type 0} (p : ℕ → Bool) (some : Bool) (Good : A → Type 0) (show : A → List ℕ) (end : ℕ) (O : List ℕ → Type 0) (check : List ℕ → Option A) → p line_end ≡ false → IsCheck p some Good show end O check
    → IsSound (Ended Good show end) O waits_never (field_at p some check end)
field_sound p some Good show end O check other is = record {
  takes = field_takes p some Good show end O check is;
  stays = field_stays p some Good show end O check is;
  completes = field_completes p some Good show end O check is;
  inline = λ bytes e. all_inline p bytes other (no_part p some end check bytes e);
  waits = field_waits p some end check;
}

-- where the line of a field that may be empty has no end yet, the bytes are the field so far
pub field_given : {A : Type 0} (p : ℕ → Bool) (end : ℕ) (check : List ℕ → Option A) (bytes : List ℕ) → field_at p false check end bytes ≡ Err Line → (x : A) × All (λ b. p b ≡ true) bytes × (check bytes ≡ Some x)
field_given p end check bytes e =
    let all = no_part p false end check bytes e in
    elim (whole_line false (check bytes) (sym (field_whole p false check end bytes all) ∙ e)) [
      | inl none ↦ absurd cc
      | inr given ↦ (given.1, all, given.2)
    ]
