-- The queries and the commands as readers.
use Rattle.std.proofs.Common.{◌≡◌, ◌≢◌, ◌⊎◌, ℕ, suc, ◌-◌, true, false, List, [], ◌∷◌, ◌++◌, length, take, get_or, Result, Ok, Err, refl, sym, ap, subst, ◌∙◌, eqb, arith, inl, inr}
use Rattle.std.specs.Prelude.{not}
use Rattle.std.specs.List.{list_all}
use Rattle.std.proofs.lemmas.Bool.{cases_eq, ne_eqb, eqb-false, not-true}
use Rattle.std.proofs.lemmas.List.Elements.{All-take}
use Rattle.std.proofs.lemmas.List.Sums.{AllPass-from_list_all}
use Rattle.script.specs.declared.faults.Fault.{Fault}
use Rattle.script.specs.declared.faults.Fault.TheVariants.{Line, Text, Malformed}
use Rattle.script.specs.Grammar.{line_end}
use Rattle.script.specs.Reading.{◌>>=◌, word_at}
use Rattle.script.proofs.Laws.{IsInline, IsFrontOf, IsSound, IsReader, IsSome, Follows, OpensAfter, Mapped, mapped, mapped_reader, then, then_reader, never, waits_never, reader_same, gives}
use Rattle.script.proofs.Spans.{word_unit, word_reader, unit_bind, IsWord}

-- ---- words without the end of a line, and what follows them

pub inline_by : (bytes : List ℕ) → list_all (λ b. not (eqb b line_end)) bytes ≡ true → IsInline bytes
inline_by bytes h k d lt = eqb-false (get_or bytes k d) line_end (not-true (eqb (get_or bytes k d) line_end) (AllPass-from_list_all (λ b. not (eqb b line_end)) bytes h k d lt))

abbrev pub AfterWord : {A : Type 0} → List ℕ → (A → List ℕ → Type 0) → A → List ℕ → Type 0
AfterWord {A} word P = Follows (IsWord word) (λ _. P)

abbrev pub OpenAfterWord : List ℕ → (List ℕ → Type 0) → List ℕ → Type 0
OpenAfterWord word O = OpensAfter (IsWord word) (λ _. O)

abbrev pub after_word : {A : Type 0} → List ℕ → (List ℕ → Result (A × List ℕ) Fault) → List ℕ → Result (A × List ℕ) Fault
after_word word r bytes = word_at word bytes >>= r

pub after_reader : {A : Type 0} (word : List ℕ) (P : A → List ℕ → Type 0) (O : List ℕ → Type 0) (r : List ℕ → Result (A × List ℕ) Fault) → list_all (λ b. not (eqb b line_end)) word ≡ true
    → IsSome P → IsReader P O waits_never r → IsReader (AfterWord word P) (OpenAfterWord word O) waits_never (after_word word r)
after_reader word P O r inline some reader =
    let all = inline_by word inline in
    reader_same (AfterWord word P) (OpenAfterWord word O) waits_never (then (word_unit word) (λ _. r)) (after_word word r) (λ bytes. unit_bind (word_at word bytes) r)
    (then_reader (IsWord word) (λ _. P) (λ _. O) (word_unit word) (λ _. r) (word_reader word (All-take (λ b. b ≢ line_end) _ word all)) (λ x text rest is e. subst IsInline (sym is) all) (λ _. some) (λ _. reader))

pub after_text : {A : Type 0} (word : List ℕ) (P : A → List ℕ → Type 0) (x : A) (text : List ℕ) → AfterWord word P x text → (back : List ℕ) × P x back × (text ≡ word ++ back)
after_text word P x text h = (h.back, h.goes_on, h.parts ∙ ap (λ (f : List ℕ). f ++ h.back) h.reads)

pub after_from : {A : Type 0} (word : List ℕ) (P : A → List ℕ → Type 0) (x : A) (back : List ℕ) → P x back → AfterWord word P x (word ++ back)
after_from word P x back h = record { first = tt; front = word; back = back; reads = refl; goes_on = h; parts = refl }

-- a command of one word, which ends its line
abbrev pub OneWord : {A : Type 0} → List ℕ → A → A → List ℕ → Type 0
OneWord {A} word value = Mapped (IsWord word) (λ _. value)

abbrev pub one_word : {A : Type 0} → List ℕ → A → List ℕ → Result (A × List ℕ) Fault
one_word word value bytes = word_at word bytes >>= λ rest. gives value rest

pub one_reader : {A : Type 0} (word : List ℕ) (value : A) → list_all (λ b. not (eqb b line_end)) (take (length word - 1) word) ≡ true → IsReader (OneWord word value) never waits_never (one_word word value)
one_reader word value inline =
    reader_same (OneWord word value) never waits_never (mapped (word_unit word) (λ _. value)) (one_word word value) (λ bytes. unit_bind (word_at word bytes) (λ rest. gives value rest))
    (mapped_reader (IsWord word) never waits_never (word_unit word) (λ _. value) (word_reader word (inline_by _ inline)))

pub full : (n : ℕ) → eqb (suc n) 0 ≡ false
full n = ne_eqb (suc n) 0 (λ e. absurd (omega (arith, e)))

-- ---- a reader that chooses by the first byte

abbrev pub refuse : {A : Type 0} → List ℕ → Result (A × List ℕ) Fault
refuse bytes = Err Malformed

pub refuse_sound : {A : Type 0} (P : A → List ℕ → Type 0) (O : List ℕ → Type 0) (W : List ℕ → ℕ → Type 0) → IsSound P O W refuse
refuse_sound P O W = record {
  takes = λ bytes x rest e. absurd cc;
  stays = λ bytes more e. refl;
  completes = λ bytes e. absurd cc;
  inline = λ bytes e. absurd cc;
  waits = λ bytes until e. absurd cc;
}

-- what a reader does at bytes that begin so
pub record Chooses {A : Type 0} (P : A → List ℕ → Type 0) (O : List ℕ → Type 0) (W : List ℕ → ℕ → Type 0) (s : List ℕ → Result (A × List ℕ) Fault) (b : ℕ) : Type 0 where
  pub reads : List ℕ → Result (A × List ℕ) Fault
  pub sound : IsSound P O W reads
  pub same : (bytes : List ℕ) → s (b ∷ bytes) ≡ reads (b ∷ bytes)

chosen_takes : {A : Type 0} (P : A → List ℕ → Type 0) (O : List ℕ → Type 0) (W : List ℕ → ℕ → Type 0) (s : List ℕ → Result (A × List ℕ) Fault) → s [] ≡ Err Line → ((b : ℕ) → Chooses P O W s b)
    → (bytes : List ℕ) (x : A) (rest : List ℕ) → s bytes ≡ Ok (x, rest) → (text : List ℕ) × P x text × (bytes ≡ text ++ rest)
chosen_takes P O W s empty choice [] x rest e = absurd cc
chosen_takes P O W s empty choice (b ∷ bytes) x rest e = (choice b).sound.takes (b ∷ bytes) x rest (sym ((choice b).same bytes) ∙ e)

chosen_stays : {A : Type 0} (P : A → List ℕ → Type 0) (O : List ℕ → Type 0) (W : List ℕ → ℕ → Type 0) (s : List ℕ → Result (A × List ℕ) Fault) → s [] ≡ Err Line → ((b : ℕ) → Chooses P O W s b)
    → (bytes more : List ℕ) → s bytes ≡ Err Malformed → s (bytes ++ more) ≡ Err Malformed
chosen_stays P O W s empty choice [] more e = absurd cc
chosen_stays P O W s empty choice (b ∷ bytes) more e = (choice b).same (bytes ++ more) ∙ (choice b).sound.stays (b ∷ bytes) more (sym ((choice b).same bytes) ∙ e)

chosen_completes : {A : Type 0} (P : A → List ℕ → Type 0) (O : List ℕ → Type 0) (W : List ℕ → ℕ → Type 0) (s : List ℕ → Result (A × List ℕ) Fault) → IsFrontOf P [] → ((b : ℕ) → Chooses P O W s b)
    → (bytes : List ℕ) → s bytes ≡ Err Line → IsFrontOf P bytes ⊎ O bytes
chosen_completes P O W s some choice [] e = inl some
chosen_completes P O W s some choice (b ∷ bytes) e = (choice b).sound.completes (b ∷ bytes) (sym ((choice b).same bytes) ∙ e)

chosen_inline : {A : Type 0} (P : A → List ℕ → Type 0) (O : List ℕ → Type 0) (W : List ℕ → ℕ → Type 0) (s : List ℕ → Result (A × List ℕ) Fault) → ((b : ℕ) → Chooses P O W s b) → (bytes : List ℕ) → s bytes ≡ Err Line → IsInline bytes
chosen_inline P O W s choice [] e = λ k d lt. absurd (omega (arith, lt))
chosen_inline P O W s choice (b ∷ bytes) e = (choice b).sound.inline (b ∷ bytes) (sym ((choice b).same bytes) ∙ e)

chosen_waits : {A : Type 0} (P : A → List ℕ → Type 0) (O : List ℕ → Type 0) (W : List ℕ → ℕ → Type 0) (s : List ℕ → Result (A × List ℕ) Fault) → s [] ≡ Err Line → ((b : ℕ) → Chooses P O W s b)
    → (bytes : List ℕ) (until : ℕ) → s bytes ≡ Err (Text until) → W bytes until
chosen_waits P O W s empty choice [] until e = absurd cc
chosen_waits P O W s empty choice (b ∷ bytes) until e = (choice b).sound.waits (b ∷ bytes) until (sym ((choice b).same bytes) ∙ e)

pub chosen_sound : {A : Type 0} (P : A → List ℕ → Type 0) (O : List ℕ → Type 0) (W : List ℕ → ℕ → Type 0) (s : List ℕ → Result (A × List ℕ) Fault) → IsFrontOf P [] → s [] ≡ Err Line → ((b : ℕ) → Chooses P O W s b) → IsSound P O W s
chosen_sound P O W s some empty choice = record {
  takes = chosen_takes P O W s empty choice;
  stays = chosen_stays P O W s empty choice;
  completes = chosen_completes P O W s some choice;
  inline = chosen_inline P O W s choice;
  waits = chosen_waits P O W s empty choice;
}

-- one case of the choice: at this byte so, and else as another says
pub by_byte : {A : Type 0} (P : A → List ℕ → Type 0) (O : List ℕ → Type 0) (W : List ℕ → ℕ → Type 0) (s r : List ℕ → Result (A × List ℕ) Fault) (b c : ℕ) → IsSound P O W r → ((bytes : List ℕ) → s (c ∷ bytes) ≡ r (c ∷ bytes)) → ((b ≡ c → ⊥) → Chooses P O W s b) → Chooses P O W s b
by_byte P O W s r b c sound same other =
    elim (cases_eq b c) [
      | inl e ↦ record { reads = r; sound = sound; same = λ bytes. subst (λ x. s (x ∷ bytes) ≡ r (x ∷ bytes)) (sym e) (same bytes) }
      | inr ne ↦ other ne
    ]
