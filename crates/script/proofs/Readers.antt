-- Paths, numbers, lines, names and runs as readers.
use Rattle.std.proofs.Common.{◌≡◌, ◌⊎◌, ℕ, ◌<◌, ◌≤◌, ◌^◌, Bool, true, false, cond, List, [], ◌∷◌, ◌++◌, length, take, get_or, All, Option, Some, None, Result, Ok, Err, refl, sym, ap, subst, ◌∙◌, append_assoc, eqb, ltb, leb, arith, inl, inr}
use Rattle.std.specs.Prelude.{◌&&◌, ◌||◌, not, decimal, option_and_then}
use Rattle.std.specs.List.{list_all}
use Rattle.std.specs.Char.{is_ascii_digit}
use Rattle.std.specs.Str.{is_utf8, all_ascii_digits}
use Rattle.std.specs.Str.Parse.{digits_value}
use Rattle.std.proofs.lemmas.Bool.{cases_lt, cases_Bool, eqb-true, eqb-false, ltb-true, ltb-false, leb-true, leb-false, lt-ltb, le-ltb, ne_eqb, le-leb, lt-leb, eq-eqb, and_parts, or_parts, or_cases, or_right, or_left, not-true, not-false, and_from}
use Rattle.std.proofs.lemmas.List.{append-nil, nil_from_length, length-append, length-take-le, take_at, get_or_append_left, get_or-take}
use Rattle.std.proofs.lemmas.List.Sums.{prefix_len-le-length, list_all-from_AllPass}
use Rattle.std.proofs.lemmas.Str.Parse.{digits_value-take-le}
use Rattle.std.proofs.lemmas.Fmt.{decimal_digit, decimal-digits_value}
use Rattle.script.specs.declared.faults.Fault.{Fault}
use Rattle.script.specs.declared.faults.Fault.TheVariants.{Line, Malformed}
use Rattle.script.specs.declared.fields.Kind.TheVariants as kinds
use Rattle.script.specs.declared.values.Entry.{Entry}
use Rattle.script.specs.declared.values.Plain.{Plain}
use Rattle.script.specs.Grammar.{IsPath, IsLine, IsWithin, line_end, is_path_byte, name_limit, json_limit}
use Rattle.script.specs.Runs.{value_in, run_of, run_in}
use Rattle.script.specs.Reading.{◌>>=◌, or_malformed, has, span, rest_at, none_at, path_at, is_numeral, number_at, line_at, is_visible, named_as, name_at, run_parts, run_read, json_at}
use Rattle.serde_json.specs.Data.{Data}
use Rattle.script.proofs.Digits.{own}
use Rattle.script.proofs.Again.{path_again, number_again, line_again}
use Rattle.script.proofs.Parts.{parts_are}
use Rattle.script.proofs.Laws.{IsReader, IsTest, never, waits_never, gives, sound_same, Makes, with, test_reader, reader_same}
use Rattle.script.proofs.Spans.{chosen, field_at, IsCheck, Ended, field_whole, field_sound, field_given}

-- ---- paths

abbrev path_none : Option (List ℕ)
path_none = None

abbrev path_check : List ℕ → Option (List ℕ)
path_check path = cond (ltb 255 (length path)) None (Some path)

path_choice : {A : Type 0} (b c : Bool) (n : Fault) (x : A) (r : Result (List ℕ) Fault) → cond b (Err n) (cond c (Err Malformed) (r >>= λ rest. gives x rest)) ≡ cond b (Err n) (or_malformed (cond c None (Some x)) >>= λ v. r >>= λ rest. gives v rest)
path_choice true c n x r = refl
path_choice false true n x r = refl
path_choice false false n x r = refl

path_same : (end : ℕ) (bytes : List ℕ) → path_at end bytes ≡ field_at (has kinds.Path) true path_check end bytes
unfolding path_at
path_same end bytes =
    let n = span kinds.Path bytes in
    rw (length-take-le n bytes (prefix_len-le-length (has kinds.Path) bytes)) (path_choice (eqb n 0) (ltb 255 n) (none_at bytes) (take n bytes) (rest_at n end bytes))

path_good : (field x : List ℕ) → All (λ b. is_path_byte b ≡ true) field → 0 < length field → ((ltb 255 (length field) ≡ true) × (None ≡ Some x)) ⊎ ((ltb 255 (length field) ≡ false) × (Some field ≡ Some x)) → IsPath x × (field ≡ x) × IsPath field
path_good field x all some (inl bad) = absurd cc
path_good field x all some (inr given) =
    let same : field ≡ x = cc in
    let is : IsPath field = record { bytes = all; len = (omega arith, ltb-false 255 (length field) given.0) } in
    (subst IsPath same is, same, is)

path_grows : (field more : List ℕ) → ((ltb 255 (length field) ≡ true) × (path_none ≡ None)) ⊎ ((ltb 255 (length field) ≡ false) × (Some field ≡ None)) → path_check (field ++ more) ≡ None
path_grows field more (inl long) = rw (lt-ltb 255 (length (field ++ more)) (omega (arith, length-append field more, ltb-true 255 (length field) long.0))) refl
path_grows field more (inr bad) = absurd cc

pub one_byte : IsPath (97 ∷ [])
one_byte = record { bytes = λ k d lt. (let first : k ≡ 0 = omega arith in rw first refl); len = (omega arith, omega arith) }

path_checks : (end : ℕ) → IsCheck (has kinds.Path) true IsPath (λ path. path) end never path_check
path_checks end = record {
  good = λ field x all long e. (let g = path_good field x all (long refl) (chosen (ltb 255 (length field)) None (Some field) (Some x) e) in (g.0, g.1));
  grows = λ field more all others long e. path_grows field more (chosen (ltb 255 (length field)) None (Some field) None e);
  ends = λ field x all long e. inl (record {
    more = end ∷ [];
    value = field;
    proper = omega arith;
    spells = record { good = (path_good field x all (long refl) (chosen (ltb 255 (length field)) None (Some field) (Some x) e)).2; shown = refl };
  });
  begins = λ _. inl (record { more = 97 ∷ end ∷ []; value = 97 ∷ []; proper = omega arith; spells = record { good = one_byte; shown = refl } });
}

pub path_reader : (end : ℕ) → is_path_byte end ≡ false → IsReader (Ended IsPath (λ path. path) end) never waits_never (path_at end)
path_reader end other = record {
  sound = sound_same (Ended IsPath (λ path. path) end) never waits_never (field_at (has kinds.Path) true path_check end) (path_at end) (path_same end) (field_sound (has kinds.Path) true IsPath (λ path. path) end never path_check refl (path_checks end));
  again = λ path text rest h. ap (λ (t : List ℕ). path_at end (t ++ rest)) h.shown ∙ ap (path_at end) (append_assoc path (end ∷ []) rest) ∙ path_again path rest end h.good other;
}

-- ---- numbers

abbrev number_check : ℕ → ℕ → List ℕ → Option ℕ
number_check low high ds = cond (not (is_numeral ds (length ds)) || (ltb (digits_value 10 ds) low || ltb high (digits_value 10 ds))) None (Some (digits_value 10 ds))

number_choice : {A : Type 0} (b m o : Bool) (n : Fault) (x : A) (r : Result (List ℕ) Fault)
    → cond b (Err n) (cond m (Err Malformed) (cond o (Err Malformed) (r >>= λ rest. gives x rest))) ≡ cond b (Err n) (or_malformed (cond (m || o) None (Some x)) >>= λ v. r >>= λ rest. gives v rest)
number_choice true m o n x r = refl
number_choice false true o n x r = refl
number_choice false false true n x r = refl
number_choice false false false n x r = refl

-- the first digit of the bytes is that of the field
numeral_same : (n : ℕ) (bytes : List ℕ) → is_numeral bytes n ≡ is_numeral (take n bytes) n
numeral_same n bytes =
    elim (cases_lt 1 n) [
      | inl lt ↦ ap (λ (x : ℕ). leb n 1 || not (eqb x 48)) (sym (get_or-take n bytes 0 0 (omega arith)))
      | inr le ↦ rw (le-leb n 1 le) refl
    ]

number_same : (low high end : ℕ) (bytes : List ℕ) → number_at low high end bytes ≡ field_at (has kinds.Digit) true (number_check low high) end bytes
unfolding number_at
number_same low high end bytes =
    let n = span kinds.Digit bytes in
    let v = digits_value 10 (take n bytes) in
    rw (length-take-le n bytes (prefix_len-le-length (has kinds.Digit) bytes), sym (numeral_same n bytes))
    (number_choice (eqb n 0) (not (is_numeral bytes n)) (ltb v low || ltb high v) (none_at bytes) v (rest_at n end bytes))

-- what a test of a number says of the digits
number_given : (low high : ℕ) (ds : List ℕ) (x : ℕ) → number_check low high ds ≡ Some x → (is_numeral ds (length ds) ≡ true) × (low ≤ x) × (x ≤ high) × (digits_value 10 ds ≡ x)
number_given low high ds x e =
    let v = digits_value 10 ds in
    elim (chosen (not (is_numeral ds (length ds)) || (ltb v low || ltb high v)) None (Some v) (Some x) e) [
      | inl bad ↦ absurd (cc (bad.1))
      | inr given ↦ (
          let both = or_parts (not (is_numeral ds (length ds))) (ltb v low || ltb high v) given.0 in
          let range = or_parts (ltb v low) (ltb high v) both.1 in
          let same : v ≡ x = cc (given.1) in
          let up : low ≤ v = ltb-false v low range.0 in
          let down : v ≤ high = ltb-false high v range.1 in
          (not-false (is_numeral ds (length ds)) both.0, omega (arith, up, same), omega (arith, down, same), same))
    ]

-- a numeral that begins with a zero has one digit
numeral_first : (ds : List ℕ) → is_numeral ds (length ds) ≡ true → 0 < length ds → get_or ds 0 0 ≡ 48 → length ds ≡ 1
numeral_first ds is some first =
    elim (or_cases (leb (length ds) 1) (not (eqb (get_or ds 0 0) 48)) is) [
      | inl short ↦ omega (arith, leb-true (length ds) 1 short)
      | inr other ↦ absurd (cc (not-true (eqb (get_or ds 0 0) 48) other, eq-eqb (get_or ds 0 0) 48 first))
    ]

from_list_all : (ds : List ℕ) → list_all is_ascii_digit ds ≡ true → all_ascii_digits ds ≡ true
from_list_all [] h = refl
from_list_all (d ∷ ds) h = let parts = and_parts (is_ascii_digit d) (list_all is_ascii_digit ds) h in and_from (is_ascii_digit d) (all_ascii_digits ds) parts.0 (from_list_all ds parts.1)

digits_from : (ds : List ℕ) → All (λ b. is_ascii_digit b ≡ true) ds → all_ascii_digits ds ≡ true
digits_from ds all = from_list_all ds (list_all-from_AllPass is_ascii_digit ds all)

number_good : (low high : ℕ) → high < 2 ^ 64 → (ds : List ℕ) (x : ℕ) → All (λ b. is_ascii_digit b ≡ true) ds → 0 < length ds → number_check low high ds ≡ Some x → IsWithin low high x × (ds ≡ decimal x)
number_good low high small ds x all some e =
    let g = number_given low high ds x e in
    let v = digits_value 10 ds in
    let back : decimal v ≡ ds = decimal-digits_value own ds (digits_from ds all) some (numeral_first ds g.0 some) (omega (arith, g.2, g.3, small)) in
    ((g.1, g.2), sym back ∙ ap decimal g.3)

abbrev refuses : ℕ → ℕ → List ℕ → Bool
refuses low high ds = not (is_numeral ds (length ds)) || (ltb (digits_value 10 ds) low || ltb high (digits_value 10 ds))

-- digits that are refused for a zero in front
zero_more : (ds more : List ℕ) → 1 < length (ds ++ more) → get_or (ds ++ more) 0 0 ≡ 48 → is_numeral (ds ++ more) (length (ds ++ more)) ≡ false
zero_more ds more long first = rw (lt-leb (length (ds ++ more)) 1 long, first) refl

value_more : (ds more : List ℕ) → digits_value 10 ds ≤ digits_value 10 (ds ++ more)
value_more ds more = subst (λ (x : List ℕ). digits_value 10 x ≤ digits_value 10 (ds ++ more)) (take_at ds more (length ds) refl) (digits_value-take-le 10 (ds ++ more) (length ds) (omega arith))

zero_first : (ds : List ℕ) → All (λ b. is_ascii_digit b ≡ true) ds → 0 < length ds → is_numeral ds (length ds) ≡ true → digits_value 10 ds ≡ 0 → ds ≡ decimal 0
zero_first ds all some is zero' = sym (decimal-digits_value own ds (digits_from ds all) some (numeral_first ds is some) (omega (arith, zero'))) ∙ ap decimal zero'

decimal_zero : get_or (decimal 0) 0 0 ≡ 48
decimal_zero = ap (λ (x : List ℕ). get_or x 0 0) (decimal_digit 0 (omega arith))

refuses_zero : (low high : ℕ) (ds more : List ℕ) → 1 < length (ds ++ more) → get_or (ds ++ more) 0 0 ≡ 48 → refuses low high (ds ++ more) ≡ true
refuses_zero low high ds more long first =
    or_left (not (is_numeral (ds ++ more) (length (ds ++ more)))) (ltb (digits_value 10 (ds ++ more)) low || ltb high (digits_value 10 (ds ++ more))) (ap not (zero_more ds more long first))

refuses_more : (low high : ℕ) → low ≤ 1 → high < 2 ^ 64 → (ds more : List ℕ) → All (λ b. is_ascii_digit b ≡ true) ds → 0 < length ds → refuses low high ds ≡ true → refuses low high (ds ++ more) ≡ true
refuses_more low high few small ds more all some is =
    let numeral = is_numeral ds (length ds) in
    let v = digits_value 10 ds in
    let head : get_or (ds ++ more) 0 0 ≡ get_or ds 0 0 = get_or_append_left ds more 0 0 some in
    elim (cases_Bool numeral) [
      | inr none ↦ (
          let parts = or_parts (leb (length ds) 1) (not (eqb (get_or ds 0 0) 48)) none in
          let long : 1 < length ds = leb-false (length ds) 1 parts.0 in
          let first : get_or ds 0 0 ≡ 48 = eqb-true (get_or ds 0 0) 48 (not-false (eqb (get_or ds 0 0) 48) parts.1) in
          refuses_zero low high ds more (omega (arith, length-append ds more)) (head ∙ first))
      | inl one ↦ elim (or_cases (not numeral) (ltb v low || ltb high v) is) [
        | inl bad ↦ absurd (cc (not-true numeral bad, one))
        | inr range ↦ elim (or_cases (ltb v low) (ltb high v) range) [
          | inr over ↦ or_right (not (is_numeral (ds ++ more) (length (ds ++ more)))) (ltb (digits_value 10 (ds ++ more)) low || ltb high (digits_value 10 (ds ++ more)))
              (or_right (ltb (digits_value 10 (ds ++ more)) low) (ltb high (digits_value 10 (ds ++ more))) (lt-ltb high (digits_value 10 (ds ++ more)) (omega (arith, ltb-true high v over, value_more ds more))))
          | inl under ↦ (
              let none : v ≡ 0 = omega (arith, ltb-true v low under) in
              let text = zero_first ds all some one none in
              elim (cases_lt 0 (length more)) [
                | inl lt ↦ refuses_zero low high ds more (omega (arith, length-append ds more)) (head ∙ ap (λ (x : List ℕ). get_or x 0 0) text ∙ decimal_zero)
                | inr le ↦ rw (nil_from_length more (omega arith), append-nil ds) is
              ])
        ]
      ]
    ]

-- a refused numeral stays one, however many digits follow
number_grows : (low high : ℕ) → low ≤ 1 → high < 2 ^ 64 → (ds more : List ℕ) → All (λ b. is_ascii_digit b ≡ true) ds → 0 < length ds → number_check low high ds ≡ None → number_check low high (ds ++ more) ≡ None
number_grows low high few small ds more all some e =
    elim (chosen (refuses low high ds) None (Some (digits_value 10 ds)) None e) [
      | inr bad ↦ absurd (cc (bad.1))
      | inl is ↦ ap (λ (b : Bool). cond b None (Some (digits_value 10 (ds ++ more)))) (refuses_more low high few small ds more all some is.0)
    ]

number_checks : (low high end : ℕ) → low ≤ 1 → low ≤ high → high < 2 ^ 64 → IsCheck (has kinds.Digit) true (IsWithin low high) decimal end never (number_check low high)
number_checks low high end few some small = record {
  good = λ ds x all long e. number_good low high small ds x all (long refl) e;
  grows = λ ds more all others long e. number_grows low high few small ds more all (long refl) e;
  ends = λ ds x all long e. (let g = number_good low high small ds x all (long refl) e in inl (record {
    more = end ∷ [];
    value = x;
    proper = omega arith;
    spells = record { good = g.0; shown = ap (λ (t : List ℕ). t ++ end ∷ []) g.1 };
  }));
  begins = λ _. inl (record {
    more = decimal low ++ end ∷ [];
    value = low;
    proper = omega (arith, length-append (decimal low) (end ∷ []));
    spells = record { good = (omega arith, some); shown = refl };
  });
}

pub number_reader : (low high end : ℕ) → low ≤ 1 → low ≤ high → high < 2 ^ 64 → is_ascii_digit end ≡ false → IsReader (Ended (IsWithin low high) decimal end) never waits_never (number_at low high end)
number_reader low high end few some small other = record {
  sound = sound_same (Ended (IsWithin low high) decimal end) never waits_never (field_at (has kinds.Digit) true (number_check low high) end) (number_at low high end) (number_same low high end)
      (field_sound (has kinds.Digit) true (IsWithin low high) decimal end never (number_check low high) refl (number_checks low high end few some small));
  again = λ n text rest h.
      let fits : n < 2 ^ 64 = omega (arith, h.good.1, small) in
      ap (λ (t : List ℕ). number_at low high end (t ++ rest)) h.shown ∙ ap (number_at low high end) (append_assoc (decimal n) (end ∷ []) rest) ∙ number_again low high n end rest fits h.good other;
}

-- ---- lines

abbrev line_check : ℕ → List ℕ → Option (List ℕ)
line_check limit line = cond (ltb limit (length line)) None (Some line)

line_choice : {A : Type 0} (c : Bool) (x : A) (r : Result (List ℕ) Fault) → cond c (Err Malformed) (r >>= λ rest. gives x rest) ≡ (or_malformed (cond c None (Some x)) >>= λ v. r >>= λ rest. gives v rest)
line_choice true x r = refl
line_choice false x r = refl

line_same : (limit : ℕ) (bytes : List ℕ) → line_at limit bytes ≡ field_at (has kinds.Line) false (line_check limit) line_end bytes
unfolding line_at
line_same limit bytes =
    let n = span kinds.Line bytes in
    rw (length-take-le n bytes (prefix_len-le-length (has kinds.Line) bytes)) (line_choice (ltb limit n) (take n bytes) (rest_at n line_end bytes))

line_given : (limit : ℕ) (line x : List ℕ) → All (λ b. not (eqb b line_end) ≡ true) line → line_check limit line ≡ Some x → IsLine limit x × (line ≡ x)
line_given limit line x all e =
    elim (chosen (ltb limit (length line)) None (Some line) (Some x) e) [
      | inl bad ↦ absurd (cc (bad.1))
      | inr given ↦ (
          let same : line ≡ x = cc (given.1) in
          let is : IsLine limit line = record { bytes = λ k d lt. eqb-false (get_or line k d) line_end (not-true (eqb (get_or line k d) line_end) (all k d lt)); len = ltb-false limit (length line) given.0 } in
          (subst (IsLine limit) same is, same))
    ]

line_grows : (limit : ℕ) (line more : List ℕ) → line_check limit line ≡ None → line_check limit (line ++ more) ≡ None
line_grows limit line more e =
    elim (chosen (ltb limit (length line)) None (Some line) None e) [
      | inl long ↦ rw (lt-ltb limit (length (line ++ more)) (omega (arith, length-append line more, ltb-true limit (length line) long.0))) refl
      | inr bad ↦ absurd (cc (bad.1))
    ]

line_checks : (limit : ℕ) → IsCheck (has kinds.Line) false (IsLine limit) (λ line. line) line_end (IsLine limit) (line_check limit)
line_checks limit = record {
  good = λ line x all long e. line_given limit line x all e;
  grows = λ line more all others long e. line_grows limit line more e;
  ends = λ line x all long e. (let g = line_given limit line x all e in inr (subst (IsLine limit) (sym g.1) g.0));
  begins = λ bad. absurd (cc (bad));
}

pub line_reader : (limit : ℕ) → IsReader (Ended (IsLine limit) (λ line. line) line_end) (IsLine limit) waits_never (line_at limit)
line_reader limit = record {
  sound = sound_same (Ended (IsLine limit) (λ line. line) line_end) (IsLine limit) waits_never (field_at (has kinds.Line) false (line_check limit) line_end) (line_at limit) (line_same limit)
      (field_sound (has kinds.Line) false (IsLine limit) (λ line. line) line_end (IsLine limit) (line_check limit) refl (line_checks limit));
  again = λ line text rest h. ap (λ (t : List ℕ). line_at limit (t ++ rest)) h.shown ∙ ap (line_at limit) (append_assoc line (line_end ∷ []) rest) ∙ line_again line rest limit h.good;
}

line_opens : (limit : ℕ) (bytes : List ℕ) → line_at limit bytes ≡ Err Line → IsLine limit bytes
line_opens limit bytes e =
    let given = field_given (has kinds.Line) line_end (line_check limit) bytes (sym (line_same limit bytes) ∙ e) in
    let g = line_given limit bytes given.0 given.1 given.2 in
    subst (IsLine limit) (sym g.1) g.0

-- a line without its end is waited for
pub line_open : (limit : ℕ) (line : List ℕ) → IsLine limit line → line_at limit line ≡ Err Line
line_open limit line is =
    let all : All (λ b. not (eqb b line_end) ≡ true) line = λ k d lt. ap not (ne_eqb (get_or line k d) line_end (is.bytes k d lt)) in
    line_same limit line ∙ field_whole (has kinds.Line) false (line_check limit) line_end line all ∙ rw (le-ltb limit (length line) is.len) refl

-- ---- names

named_by : (b : Bool) (name : List ℕ) (d : Fault) → cond b (Ok name) (Err Malformed) ≡ Err d → d ≡ Malformed
named_by true name d e = absurd cc
named_by false name d e = cc

named_test : IsTest named_as
named_test name d e = named_by (is_visible name && is_utf8 name) name d e

name_same : (bytes : List ℕ) → name_at bytes ≡ with (line_at name_limit) named_as bytes
unfolding name_at
name_same bytes = refl

pub name_open : (name : List ℕ) → IsLine name_limit name → name_at name ≡ Err Line
name_open name is = name_same name ∙ ap (λ (o : Result (List ℕ × List ℕ) Fault). o >>= λ p. named_as p.0 >>= λ y. gives y p.1) (line_open name_limit name is)

abbrev pub SpellsName : List ℕ → List ℕ → Type 0
SpellsName = Makes (Ended (IsLine name_limit) (λ line. line) line_end) named_as

pub name_reader : IsReader SpellsName (IsLine name_limit) waits_never name_at
name_reader =
    reader_same SpellsName (IsLine name_limit) waits_never (with (line_at name_limit) named_as) name_at name_same
    (test_reader (Ended (IsLine name_limit) (λ line. line) line_end) (IsLine name_limit) (line_at name_limit) named_as (line_reader name_limit) (line_opens name_limit) named_test)

-- ---- the calls and draws of a run

run_same : (o : Option Data) → (or_malformed o >>= run_parts) ≡ or_malformed (option_and_then run_of o)
run_same None = refl
run_same (Some d) = parts_are d

pub run_read_is : (json : List ℕ) → run_read json ≡ or_malformed (run_in json)
unfolding run_read
run_read_is json = run_same (value_in json)

or_test : {A : Type 0} (o : Option A) (d : Fault) → or_malformed o ≡ Err d → d ≡ Malformed
or_test None d e = cc
or_test (Some x) d e = absurd cc

run_test : IsTest run_read
run_test json d e = or_test (run_in json) d (sym (run_read_is json) ∙ e)

json_same : (bytes : List ℕ) → json_at bytes ≡ with (line_at json_limit) run_read bytes
unfolding json_at
json_same bytes = refl

pub json_open : (json : List ℕ) → IsLine json_limit json → json_at json ≡ Err Line
json_open json is = json_same json ∙ ap (λ (o : Result (List ℕ × List ℕ) Fault). o >>= λ p. run_read p.0 >>= λ y. gives y p.1) (line_open json_limit json is)

abbrev pub SpellsRun : List Entry × List Plain → List ℕ → Type 0
SpellsRun = Makes (Ended (IsLine json_limit) (λ line. line) line_end) run_read

pub json_reader : IsReader SpellsRun (IsLine json_limit) waits_never json_at
json_reader =
    reader_same SpellsRun (IsLine json_limit) waits_never (with (line_at json_limit) run_read) json_at json_same
    (test_reader (Ended (IsLine json_limit) (λ line. line) line_end) (IsLine json_limit) (line_at json_limit) run_read (line_reader json_limit) (line_opens json_limit) run_test)
