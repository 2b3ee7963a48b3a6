-- What reading one thing after another keeps, whatever is read.
use Rattle.std.proofs.Common.{◌≡◌, ◌≢◌, ◌⊎◌, ℕ, ◌<◌, List, ◌++◌, length, All, Result, Ok, Err, refl, sym, ap, ◌∙◌, append_assoc, arith, inl, inr}
use Rattle.std.proofs.lemmas.List.{length-append}
use Rattle.std.proofs.lemmas.List.Elements.{All-append}
use Rattle.script.specs.declared.faults.Fault.{Fault}
use Rattle.script.specs.declared.faults.Fault.TheVariants.{Line, Text, Malformed}
use Rattle.script.specs.Grammar.{line_end}
use Rattle.script.specs.Reading.{◌>>=◌}

-- no end of a line is among the bytes
abbrev pub IsInline : List ℕ → Type 0
IsInline bytes = All (λ b. b ≢ line_end) bytes

-- the bytes are a proper front of what spells a value
pub record IsFrontOf {A : Type 0} (P : A → List ℕ → Type 0) (bytes : List ℕ) : Type 0 where
  pub more : List ℕ
  pub value : A
  pub proper : 0 < length more
  pub spells : P value (bytes ++ more)

-- what spells a value is read as it, whatever follows
abbrev pub IsAgain : {A : Type 0} → (A → List ℕ → Type 0) → (List ℕ → Result (A × List ℕ) Fault) → Type 0
IsAgain {A} P r = (x : A) (text rest : List ℕ) → P x text → r (text ++ rest) ≡ Ok (x, rest)

-- What is read is spelled so; a refusal stays, whatever follows; where the line has no end yet, the bytes are a proper front of
-- what can be read, or open; where a text has no end yet, they wait.
pub record IsSound {A : Type 0} (P : A → List ℕ → Type 0) (Open : List ℕ → Type 0) (Waits : List ℕ → ℕ → Type 0) (r : List ℕ → Result (A × List ℕ) Fault) : Type 0 where
  pub takes : (bytes : List ℕ) (x : A) (rest : List ℕ) → r bytes ≡ Ok (x, rest) → (text : List ℕ) × P x text × (bytes ≡ text ++ rest)
  pub stays : (bytes more : List ℕ) → r bytes ≡ Err Malformed → r (bytes ++ more) ≡ Err Malformed
  pub completes : (bytes : List ℕ) → r bytes ≡ Err Line → IsFrontOf P bytes ⊎ Open bytes
  pub inline : (bytes : List ℕ) → r bytes ≡ Err Line → IsInline bytes
  pub waits : (bytes : List ℕ) (until : ℕ) → r bytes ≡ Err (Text until) → Waits bytes until

pub record IsReader {A : Type 0} (P : A → List ℕ → Type 0) (Open : List ℕ → Type 0) (Waits : List ℕ → ℕ → Type 0) (r : List ℕ → Result (A × List ℕ) Fault) : Type 0 where
  pub sound : IsSound P Open Waits r
  pub again : IsAgain P r

abbrev pub never : List ℕ → Type 0
never bytes = ⊥

abbrev pub waits_never : List ℕ → ℕ → Type 0
waits_never bytes until = ⊥

-- a value that was read, and the bytes behind it
abbrev pub gives : {A : Type 0} → A → List ℕ → Result (A × List ℕ) Fault
gives x rest = Ok (x, rest)

-- the step of a chain that did not fail, and the step that did
pub bind_ok : {A B : Type 0} (r : Result A Fault) (f : A → Result B Fault) (y : B) → (r >>= f) ≡ Ok y → (x : A) × (r ≡ Ok x) × (f x ≡ Ok y)
bind_ok (Ok x) f y e = (x, refl, e)
bind_ok (Err d) f y e = absurd cc

pub bind_err : {A B : Type 0} (r : Result A Fault) (f : A → Result B Fault) (d : Fault) → (r >>= f) ≡ Err d → (r ≡ Err d) ⊎ ((x : A) × (r ≡ Ok x) × (f x ≡ Err d))
bind_err (Ok x) f d e = inr (x, refl, e)
bind_err (Err c) f d e = inl cc

pub bind_at : {A B : Type 0} (r : Result A Fault) (f : A → Result B Fault) (x : A) (y : Result B Fault) → r ≡ Ok x → f x ≡ y → (r >>= f) ≡ y
bind_at r f x y e g = ap (λ (o : Result _ Fault). o >>= f) e ∙ g

-- ---- the same reader, and a weaker word for what it reads

pub sound_same : {A : Type 0} (P : A → List ℕ → Type 0) (O : List ℕ → Type 0) (W : List ℕ → ℕ → Type 0) (r s : List ℕ → Result (A × List ℕ) Fault) → ((bytes : List ℕ) → s bytes ≡ r bytes) → IsSound P O W r → IsSound P O W s
sound_same P O W r s same sound = record {
  takes = λ bytes x rest e. sound.takes bytes x rest (sym (same bytes) ∙ e);
  stays = λ bytes more e. same (bytes ++ more) ∙ sound.stays bytes more (sym (same bytes) ∙ e);
  completes = λ bytes e. sound.completes bytes (sym (same bytes) ∙ e);
  inline = λ bytes e. sound.inline bytes (sym (same bytes) ∙ e);
  waits = λ bytes until e. sound.waits bytes until (sym (same bytes) ∙ e);
}

pub reader_same : {A : Type 0} (P : A → List ℕ → Type 0) (O : List ℕ → Type 0) (W : List ℕ → ℕ → Type 0) (r s : List ℕ → Result (A × List ℕ) Fault) → ((bytes : List ℕ) → s bytes ≡ r bytes) → IsReader P O W r → IsReader P O W s
reader_same P O W r s same reader = record { sound = sound_same P O W r s same reader.sound; again = λ x text rest p. same (text ++ rest) ∙ reader.again x text rest p }

weaker_front : {A : Type 0} (P Q : A → List ℕ → Type 0) (O U : List ℕ → Type 0) → ((x : A) (text : List ℕ) → P x text → Q x text) → ((bytes : List ℕ) → O bytes → U bytes) → (bytes : List ℕ) → IsFrontOf P bytes ⊎ O bytes → IsFrontOf Q bytes ⊎ U bytes
weaker_front P Q O U p o bytes (inl f) = inl (record { more = f.more; value = f.value; proper = f.proper; spells = p f.value (bytes ++ f.more) f.spells })
weaker_front P Q O U p o bytes (inr h) = inr (o bytes h)

pub sound_weaker : {A : Type 0} (P Q : A → List ℕ → Type 0) (O U : List ℕ → Type 0) (W V : List ℕ → ℕ → Type 0) (r : List ℕ → Result (A × List ℕ) Fault)
    → ((x : A) (text : List ℕ) → P x text → Q x text) → ((bytes : List ℕ) → O bytes → U bytes) → ((bytes : List ℕ) (until : ℕ) → W bytes until → V bytes until) → IsSound P O W r → IsSound Q U V r
sound_weaker P Q O U W V r p o w sound = record {
  takes = λ bytes x rest e. let t = sound.takes bytes x rest e in (t.0, p x t.0 t.1, t.2);
  stays = sound.stays;
  completes = λ bytes e. weaker_front P Q O U p o bytes (sound.completes bytes e);
  inline = sound.inline;
  waits = λ bytes until e. w bytes until (sound.waits bytes until e);
}

-- ---- what was read stays read

pub kept : {A : Type 0} (P : A → List ℕ → Type 0) (O : List ℕ → Type 0) (W : List ℕ → ℕ → Type 0) (r : List ℕ → Result (A × List ℕ) Fault) → IsReader P O W r
    → (bytes : List ℕ) (x : A) (rest more : List ℕ) → r bytes ≡ Ok (x, rest) → r (bytes ++ more) ≡ Ok (x, rest ++ more)
kept P O W r reader bytes x rest more e =
    let t = reader.sound.takes bytes x rest e in
    ap r (ap (λ (b : List ℕ). b ++ more) t.2 ∙ append_assoc t.0 rest more) ∙ reader.again x t.0 (rest ++ more) t.1

-- ---- one reader after another

pub record Follows {A B : Type 0} (P : A → List ℕ → Type 0) (Q : A → B → List ℕ → Type 0) (y : B) (text : List ℕ) : Type 0 where
  pub first : A
  pub front : List ℕ
  pub back : List ℕ
  pub reads : P first front
  pub goes_on : Q first y back
  pub parts : text ≡ front ++ back

pub record OpensAfter {A : Type 0} (P : A → List ℕ → Type 0) (O : A → List ℕ → Type 0) (bytes : List ℕ) : Type 0 where
  pub first : A
  pub front : List ℕ
  pub back : List ℕ
  pub reads : P first front
  pub opens : O first back
  pub parts : bytes ≡ front ++ back

abbrev pub then : {A B : Type 0} → (List ℕ → Result (A × List ℕ) Fault) → (A → List ℕ → Result (B × List ℕ) Fault) → List ℕ → Result (B × List ℕ) Fault
then r f bytes = r bytes >>= λ p. f p.0 p.1

-- the second reader stops within a line only where the first has read no end of a line
abbrev pub StaysInline : {A B : Type 0} → (A → List ℕ → Type 0) → (A → List ℕ → Result (B × List ℕ) Fault) → Type 0
StaysInline {A} P f = (x : A) (text rest : List ℕ) → P x text → f x rest ≡ Err Line → IsInline text

-- something can be read
pub record IsSome {A : Type 0} (P : A → List ℕ → Type 0) : Type 0 where
  pub value : A
  pub text : List ℕ
  pub spells : P value text

proper_more : (xs ys : List ℕ) → 0 < length xs → 0 < length (xs ++ ys)
proper_more xs ys lt = omega (arith, length-append xs ys)

then_completes : {A B : Type 0} (P : A → List ℕ → Type 0) (Q : A → B → List ℕ → Type 0) (O : A → List ℕ → Type 0) (r : List ℕ → Result (A × List ℕ) Fault) (f : A → List ℕ → Result (B × List ℕ) Fault)
    → IsReader P never waits_never r → ((x : A) → IsSome (Q x)) → ((x : A) → IsReader (Q x) (O x) waits_never (f x)) → (bytes : List ℕ) → then r f bytes ≡ Err Line → IsFrontOf (Follows P Q) bytes ⊎ OpensAfter P O bytes
then_completes {A = A} {B = B} P Q O r f first some second bytes e =
    elim (bind_err (r bytes) (λ p. f p.0 p.1) Line e) [
      | inl here ↦ elim (first.sound.completes bytes here) [
        | inl front ↦ (let s = some front.value in inl (record {
          more = front.more ++ s.text;
          value = s.value;
          proper = proper_more front.more s.text front.proper;
          spells = record { first = front.value; front = bytes ++ front.more; back = s.text; reads = front.spells; goes_on = s.spells; parts = sym (append_assoc bytes front.more s.text) };
        }))
        | inr bad ↦ absurd bad
      ]
      | inr later ↦ (
          let t = first.sound.takes bytes later.0.0 later.0.1 later.1 in
          elim ((second later.0.0).sound.completes later.0.1 later.2) [
            | inl front ↦ inl (record {
              more = front.more;
              value = front.value;
              proper = front.proper;
              spells = record { first = later.0.0; front = t.0; back = later.0.1 ++ front.more; reads = t.1; goes_on = front.spells; parts = ap (λ (b : List ℕ). b ++ front.more) t.2 ∙ append_assoc t.0 later.0.1 front.more };
            })
            | inr open' ↦ inr (record { first = later.0.0; front = t.0; back = later.0.1; reads = t.1; opens = open'; parts = t.2 })
          ])
    ]

then_stays : {A B : Type 0} (P : A → List ℕ → Type 0) (Q : A → B → List ℕ → Type 0) (O : A → List ℕ → Type 0) (r : List ℕ → Result (A × List ℕ) Fault) (f : A → List ℕ → Result (B × List ℕ) Fault)
    → IsReader P never waits_never r → ((x : A) → IsReader (Q x) (O x) waits_never (f x)) → (bytes more : List ℕ) → then r f bytes ≡ Err Malformed → then r f (bytes ++ more) ≡ Err Malformed
then_stays P Q O r f first second bytes more e =
    elim (bind_err (r bytes) (λ p. f p.0 p.1) Malformed e) [
      | inl here ↦ ap (λ (o : Result _ Fault). o >>= λ p. f p.0 p.1) (first.sound.stays bytes more here)
      | inr later ↦ bind_at (r (bytes ++ more)) (λ p. f p.0 p.1) (later.0.0, later.0.1 ++ more) (Err Malformed) (kept P never waits_never r first bytes later.0.0 later.0.1 more later.1) ((second later.0.0).sound.stays later.0.1 more later.2)
    ]

then_inline : {A B : Type 0} (P : A → List ℕ → Type 0) (Q : A → B → List ℕ → Type 0) (O : A → List ℕ → Type 0) (r : List ℕ → Result (A × List ℕ) Fault) (f : A → List ℕ → Result (B × List ℕ) Fault)
    → IsReader P never waits_never r → StaysInline P f → ((x : A) → IsReader (Q x) (O x) waits_never (f x)) → (bytes : List ℕ) → then r f bytes ≡ Err Line → IsInline bytes
then_inline P Q O r f first stays second bytes e =
    elim (bind_err (r bytes) (λ p. f p.0 p.1) Line e) [
      | inl here ↦ first.sound.inline bytes here
      | inr later ↦ (
          let t = first.sound.takes bytes later.0.0 later.0.1 later.1 in
          let all : IsInline (t.0 ++ later.0.1) = All-append (λ b. b ≢ line_end) t.0 later.0.1 (stays later.0.0 t.0 later.0.1 t.1 later.2) ((second later.0.0).sound.inline later.0.1 later.2) in
          rw t.2 all)
    ]

then_waits : {A B : Type 0} (P : A → List ℕ → Type 0) (Q : A → B → List ℕ → Type 0) (O : A → List ℕ → Type 0) (r : List ℕ → Result (A × List ℕ) Fault) (f : A → List ℕ → Result (B × List ℕ) Fault)
    → IsReader P never waits_never r → ((x : A) → IsReader (Q x) (O x) waits_never (f x)) → (bytes : List ℕ) (until : ℕ) → then r f bytes ≡ Err (Text until) → ⊥
then_waits P Q O r f first second bytes until e =
    elim (bind_err (r bytes) (λ p. f p.0 p.1) (Text until) e) [
      | inl here ↦ first.sound.waits bytes until here
      | inr later ↦ (second later.0.0).sound.waits later.0.1 until later.2
    ]

pub then_reader : {A B : Type 0} (P : A → List ℕ → Type 0) (Q : A → B → List ℕ → Type 0) (O : A → List ℕ → Type 0) (r : List ℕ → Result (A × List ℕ) Fault) (f : A → List ℕ → Result (B × List ℕ) Fault)
    → IsReader P never waits_never r → StaysInline P f → ((x : A) → IsSome (Q x)) → ((x : A) → IsReader (Q x) (O x) waits_never (f x)) → IsReader (Follows P Q) (OpensAfter P O) waits_never (then r f)
then_reader {A = A} {B = B} P Q O r f first stays some second = record {
  sound = record {
    takes = λ bytes y rest e.
        let b = bind_ok (r bytes) (λ p. f p.0 p.1) (y, rest) e in
        let t = first.sound.takes bytes b.0.0 b.0.1 b.1 in
        let u = (second b.0.0).sound.takes b.0.1 y rest b.2 in
        (t.0 ++ u.0, record { first = b.0.0; front = t.0; back = u.0; reads = t.1; goes_on = u.1; parts = refl }, t.2 ∙ ap (λ (x : List ℕ). t.0 ++ x) u.2 ∙ sym (append_assoc t.0 u.0 rest));
    stays = then_stays P Q O r f first second;
    completes = then_completes P Q O r f first some second;
    inline = then_inline P Q O r f first stays second;
    waits = then_waits P Q O r f first second;
  };
  again = λ y text rest h.
      bind_at (r (text ++ rest)) (λ p. f p.0 p.1) (h.first, h.back ++ rest) (Ok (y, rest))
      (ap r (ap (λ (b : List ℕ). b ++ rest) h.parts ∙ append_assoc h.front h.back rest) ∙ first.again h.first h.front (h.back ++ rest) h.reads)
      ((second h.first).again y h.back rest h.goes_on);
}

-- ---- a function of what was read

pub record Makes {A B : Type 0} (P : A → List ℕ → Type 0) (g : A → Result B Fault) (y : B) (text : List ℕ) : Type 0 where
  pub from : A
  pub reads : P from text
  pub gives : g from ≡ Ok y

abbrev pub with : {A B : Type 0} → (List ℕ → Result (A × List ℕ) Fault) → (A → Result B Fault) → List ℕ → Result (B × List ℕ) Fault
with r g bytes = r bytes >>= λ p. g p.0 >>= λ y. Ok (y, p.1)

-- a function that gives a value, or refuses
abbrev pub IsTest : {A B : Type 0} → (A → Result B Fault) → Type 0
IsTest {A} g = (x : A) (d : Fault) → g x ≡ Err d → d ≡ Malformed

pub line_malformed : Line ≡ Malformed → ⊥
line_malformed e = absurd cc

pub text_malformed : (until : ℕ) → Text until ≡ Malformed → ⊥
text_malformed until e = absurd cc

abbrev pair : {A : Type 0} → A → List ℕ → A × List ℕ
pair x rest = (x, rest)

abbrev pub done : {A : Type 0} → A → Result A Fault
done x = Ok x

pub ok_is : {A : Type 0} (x y : A) → done x ≡ done y → x ≡ y
ok_is x y e = cc

pub pair_is : {A : Type 0} (x y : A) (a b : List ℕ) → gives x a ≡ gives y b → (x ≡ y) × (a ≡ b)
pair_is x y a b e = let same = ok_is (pair x a) (pair y b) e in (ap (λ p. p.0) same, ap (λ p. p.1) same)

refused_by : {B : Type 0} (o : Result B Fault) (rest : List ℕ) (d : Fault) → (o >>= λ y. gives y rest) ≡ Err d → o ≡ Err d
refused_by (Ok y) rest d e = absurd cc
refused_by (Err c) rest d e = cc

refused : {B : Type 0} (o : Result B Fault) (rest more : List ℕ) (d : Fault) → (o >>= λ y. gives y rest) ≡ Err d → (o >>= λ y. gives y more) ≡ Err d
refused (Ok y) rest more d e = absurd cc
refused (Err c) rest more d e = cc

pub test_reader : {A B : Type 0} (P : A → List ℕ → Type 0) (O : List ℕ → Type 0) (r : List ℕ → Result (A × List ℕ) Fault) (g : A → Result B Fault)
    → IsReader P O waits_never r → ((bytes : List ℕ) → r bytes ≡ Err Line → O bytes) → IsTest g → IsReader (Makes P g) O waits_never (with r g)
test_reader {A = A} {B = B} P O r g reader opens test = record {
  sound = record {
    takes = λ bytes y rest e.
        let b = bind_ok (r bytes) (λ p. g p.0 >>= λ y. Ok (y, p.1)) (y, rest) e in
        let c = bind_ok (g b.0.0) (λ y. Ok (y, b.0.1)) (y, rest) b.2 in
        let t = reader.sound.takes bytes b.0.0 b.0.1 b.1 in
        let s = pair_is c.0 y b.0.1 rest c.2 in
        (t.0, record { from = b.0.0; reads = t.1; gives = c.1 ∙ ap Ok s.0 }, t.2 ∙ ap (λ (x : List ℕ). t.0 ++ x) s.1);
    stays = λ bytes more e.
        elim (bind_err (r bytes) (λ p. g p.0 >>= λ y. Ok (y, p.1)) Malformed e) [
          | inl here ↦ ap (λ (o : Result _ Fault). o >>= λ p. g p.0 >>= λ y. Ok (y, p.1)) (reader.sound.stays bytes more here)
          | inr later ↦ bind_at (r (bytes ++ more)) (λ p. g p.0 >>= λ y. Ok (y, p.1)) (later.0.0, later.0.1 ++ more) (Err Malformed) (kept P O waits_never r reader bytes later.0.0 later.0.1 more later.1) (refused (g later.0.0) later.0.1 (later.0.1 ++ more) Malformed later.2)
        ];
    completes = λ bytes e. inr (elim (bind_err (r bytes) (λ p. g p.0 >>= λ y. Ok (y, p.1)) Line e) [
      | inl here ↦ opens bytes here
      | inr later ↦ (let bad = test later.0.0 Line (refused_by (g later.0.0) later.0.1 Line later.2) in absurd (line_malformed bad))
    ]);
    inline = λ bytes e. elim (bind_err (r bytes) (λ p. g p.0 >>= λ y. Ok (y, p.1)) Line e) [
      | inl here ↦ reader.sound.inline bytes here
      | inr later ↦ (let bad = test later.0.0 Line (refused_by (g later.0.0) later.0.1 Line later.2) in absurd (line_malformed bad))
    ];
    waits = λ bytes until e. elim (bind_err (r bytes) (λ p. g p.0 >>= λ y. Ok (y, p.1)) (Text until) e) [
      | inl here ↦ reader.sound.waits bytes until here
      | inr later ↦ (let bad = test later.0.0 (Text until) (refused_by (g later.0.0) later.0.1 (Text until) later.2) in absurd (text_malformed until bad))
    ];
  };
  again = λ y text rest h.
      bind_at (r (text ++ rest)) (λ p. g p.0 >>= λ y. Ok (y, p.1)) (h.from, rest) (Ok (y, rest)) (reader.again h.from text rest h.reads) (ap (λ (o : Result _ Fault). o >>= λ y. Ok (y, rest)) h.gives);
}

-- ---- another value for what was read

pub record Mapped {A B : Type 0} (P : A → List ℕ → Type 0) (f : A → B) (y : B) (text : List ℕ) : Type 0 where
  pub from : A
  pub reads : P from text
  pub is : y ≡ f from

abbrev pub mapped : {A B : Type 0} → (List ℕ → Result (A × List ℕ) Fault) → (A → B) → List ℕ → Result (B × List ℕ) Fault
mapped r f bytes = r bytes >>= λ p. Ok (f p.0, p.1)

mapped_err : {A B : Type 0} (o : Result (A × List ℕ) Fault) (f : A → B) (d : Fault) → (o >>= λ p. gives (f p.0) p.1) ≡ Err d → o ≡ Err d
mapped_err (Ok p) f d e = absurd cc
mapped_err (Err c) f d e = cc

mapped_completes : {A B : Type 0} (P : A → List ℕ → Type 0) (O : List ℕ → Type 0) (f : A → B) (bytes : List ℕ) → IsFrontOf P bytes ⊎ O bytes → IsFrontOf (Mapped P f) bytes ⊎ O bytes
mapped_completes P O f bytes (inl front) = inl (record { more = front.more; value = f front.value; proper = front.proper; spells = record { from = front.value; reads = front.spells; is = refl } })
mapped_completes P O f bytes (inr open') = inr open'

pub mapped_reader : {A B : Type 0} (P : A → List ℕ → Type 0) (O : List ℕ → Type 0) (W : List ℕ → ℕ → Type 0) (r : List ℕ → Result (A × List ℕ) Fault) (f : A → B) → IsReader P O W r → IsReader (Mapped P f) O W (mapped r f)
mapped_reader {A = A} {B = B} P O W r f reader = record {
  sound = record {
    takes = λ bytes y rest e.
        let b = bind_ok (r bytes) (λ p. Ok (f p.0, p.1)) (y, rest) e in
        let t = reader.sound.takes bytes b.0.0 b.0.1 b.1 in
        let s = pair_is (f b.0.0) y b.0.1 rest b.2 in
        (t.0, record { from = b.0.0; reads = t.1; is = sym s.0 }, t.2 ∙ ap (λ (x : List ℕ). t.0 ++ x) s.1);
    stays = λ bytes more e. ap (λ (o : Result _ Fault). o >>= λ p. Ok (f p.0, p.1)) (reader.sound.stays bytes more (mapped_err (r bytes) f Malformed e));
    completes = λ bytes e. mapped_completes P O f bytes (reader.sound.completes bytes (mapped_err (r bytes) f Line e));
    inline = λ bytes e. reader.sound.inline bytes (mapped_err (r bytes) f Line e);
    waits = λ bytes until e. reader.sound.waits bytes until (mapped_err (r bytes) f (Text until) e);
  };
  again = λ y text rest h. ap (λ (o : Result _ Fault). o >>= λ p. Ok (f p.0, p.1)) (reader.again h.from text rest h.reads) ∙ ap (λ (v : B). Ok (v, rest)) (sym h.is);
}
