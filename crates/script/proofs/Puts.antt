-- `put`: its line as a reader, and the text behind it.
use Rattle.std.proofs.Common.{◌≡◌, ◌⊎◌, ℕ, ◌+◌, ◌-◌, ◌<◌, ◌≤◌, Bool, true, false, cond, List, [], ◌∷◌, ◌++◌, length, take, drop, get_or, Result, Ok, Err, refl, sym, ap, subst, ◌∙◌, append_assoc, replicate, eqb, leb, arith, inl, inr}
use Rattle.std.specs.Prelude.{codes, decimal}
use Rattle.std.proofs.lemmas.Bool.{eqb-true, leb-true, leb-false, lt-leb}
use Rattle.std.proofs.lemmas.List.{length-append, length-replicate, length-take-le, take-append-drop, drop_more, get_or_append_left}
use Rattle.script.specs.declared.command.Command.{Command}
use Rattle.script.specs.declared.command.Command.TheVariants as commands
use Rattle.script.specs.declared.faults.Fault.{Fault}
use Rattle.script.specs.declared.faults.Fault.TheVariants.{Line, Text, Malformed}
use Rattle.script.specs.Grammar.{IsPath, IsWithin, line_end, space, put_line}
use Rattle.script.specs.Reading.{◌>>=◌, word_at, path_at, number_at, text_at, put_at}
use Rattle.script.proofs.Parts.{text_again}
use Rattle.script.proofs.Laws.{IsFrontOf, IsReader, IsSome, Follows, OpensAfter, Mapped, mapped, mapped_reader, then, then_reader, never, waits_never, sound_weaker, gives, pair_is, bind_ok, bind_err, bind_at, kept}
use Rattle.script.proofs.Spans.{Ended}
use Rattle.script.proofs.Readers.{path_reader, one_byte, number_reader}
use Rattle.script.proofs.Spelled.{AfterWord, OpenAfterWord, after_word, after_reader, after_text}
use Rattle.script.proofs.Whole.{SpelledAt, IsOpen, path_inline}

-- ---- the line

abbrev SpellsPath : List ℕ → List ℕ → Type 0
SpellsPath = Ended IsPath (λ path. path) space

abbrev SpellsLen : ℕ → List ℕ → Type 0
SpellsLen = Ended (IsWithin 0 4294967295) decimal line_end

abbrev with_path : List ℕ → ℕ → List ℕ × ℕ
with_path path len = (path, len)

abbrev SpellsFields : List ℕ × ℕ → List ℕ → Type 0
SpellsFields = Follows SpellsPath (λ path. Mapped SpellsLen (with_path path))

abbrev fields_at : List ℕ → Result ((List ℕ × ℕ) × List ℕ) Fault
fields_at = then (path_at space) (λ path. mapped (number_at 0 4294967295 line_end) (with_path path))

abbrev pub header_at : List ℕ → Result ((List ℕ × ℕ) × List ℕ) Fault
header_at = after_word (codes "put ") fields_at

zero_len : SpellsLen 0 (decimal 0 ++ line_end ∷ [])
zero_len = record { good = (omega arith, omega arith); shown = refl }

abbrev OpensFields : List ℕ → Type 0
OpensFields = OpensAfter SpellsPath (λ path. never)

fields_reader : IsReader SpellsFields OpensFields waits_never fields_at
fields_reader =
    then_reader SpellsPath (λ path. Mapped SpellsLen (with_path path)) (λ path. never) (path_at space) (λ path. mapped (number_at 0 4294967295 line_end) (with_path path))
    (path_reader space refl)
    (λ path text rest h e. path_inline path text h)
    (λ path. record { value = with_path path 0; text = decimal 0 ++ line_end ∷ []; spells = record { from = 0; reads = zero_len; is = refl } })
    (λ path. mapped_reader SpellsLen never waits_never (number_at 0 4294967295 line_end) (with_path path) (number_reader 0 4294967295 line_end (omega arith) (omega arith) (omega arith) refl))

some_fields : IsSome SpellsFields
some_fields = record {
  value = with_path (97 ∷ []) 0;
  text = ((97 ∷ []) ++ space ∷ []) ++ (decimal 0 ++ line_end ∷ []);
  spells = record {
    first = 97 ∷ [];
    front = (97 ∷ []) ++ space ∷ [];
    back = decimal 0 ++ line_end ∷ [];
    parts = refl;
    reads = record { good = one_byte; shown = refl };
    goes_on = record { from = 0; reads = zero_len; is = refl };
  };
}

-- a line of a put, by its path and length
pub record SpellsHeader (h : List ℕ × ℕ) (text : List ℕ) : Type 0 where
  pub path : IsPath h.0
  pub len : h.1 ≤ 4294967295
  pub shown : text ≡ put_line h.0 h.1

regroup : (a b : List ℕ) → (a ++ space ∷ b) ++ line_end ∷ [] ≡ (a ++ space ∷ []) ++ (b ++ line_end ∷ [])
regroup a b = simp append_assoc

pub around : (a b rest : List ℕ) → a ++ (b ++ line_end ∷ rest) ≡ ((a ++ b) ++ line_end ∷ []) ++ rest
around a b rest = simp append_assoc

pub four : (a b c d : List ℕ) → a ++ (b ++ (c ++ d)) ≡ ((a ++ b) ++ c) ++ d
four a b c d = simp append_assoc

header_from : (h : List ℕ × ℕ) (text : List ℕ) → AfterWord (codes "put ") SpellsFields h text → SpellsHeader h text
header_from h text w =
    let t = after_text (codes "put ") SpellsFields h text w in
    let s = t.1 in
    let back : t.0 ≡ (s.first ++ space ∷ decimal s.goes_on.from) ++ line_end ∷ [] =
    s.parts ∙ ap (λ (f : List ℕ). f ++ s.back) s.reads.shown ∙ ap (λ (b : List ℕ). (s.first ++ space ∷ []) ++ b) s.goes_on.reads.shown ∙ simp append_assoc in
    let is : SpellsHeader (with_path s.first s.goes_on.from) text = record { path = s.reads.good; len = s.goes_on.reads.good.1; shown = t.2 ∙ ap (λ (b : List ℕ). codes "put " ++ b) back } in
    subst (λ h. SpellsHeader h text) (sym s.goes_on.is) is

header_to : (h : List ℕ × ℕ) (text : List ℕ) → SpellsHeader h text → AfterWord (codes "put ") SpellsFields h text
header_to h text is = record {
  first = tt;
  front = codes "put ";
  back = (h.0 ++ space ∷ []) ++ (decimal h.1 ++ line_end ∷ []);
  reads = refl;
  goes_on = record {
    first = h.0;
    front = h.0 ++ space ∷ [];
    back = decimal h.1 ++ line_end ∷ [];
    parts = refl;
    reads = record { good = is.path; shown = refl };
    goes_on = record { from = h.1; reads = record { good = (omega arith, is.len); shown = refl }; is = refl };
  };
  parts = is.shown ∙ ap (λ (b : List ℕ). codes "put " ++ b) (regroup h.0 (decimal h.1));
}

pub header_reader : IsReader SpellsHeader never waits_never header_at
header_reader =
    let reader = after_reader (codes "put ") SpellsFields OpensFields fields_at refl some_fields fields_reader in
    record {
      sound = sound_weaker (AfterWord (codes "put ") SpellsFields) SpellsHeader (OpenAfterWord (codes "put ") OpensFields) never waits_never waits_never header_at header_from (λ bytes o. o.opens.opens) (λ bytes until h. h) reader.sound;
      again = λ h text rest is. reader.again h text rest (header_to h text is);
    }

-- ---- the text behind it

text_given : (short ends : Bool) (until : ℕ) (x y : List ℕ) → cond short (Err (Text until)) (cond ends (Ok x) (Err Malformed)) ≡ Ok y → (short ≡ false) × (ends ≡ true) × (x ≡ y)
text_given true ends until x y e = absurd cc
text_given false true until x y e = (refl, refl, cc)
text_given false false until x y e = absurd cc

text_line : (short ends : Bool) (until : ℕ) (x : List ℕ) → cond short (Err (Text until)) (cond ends (Ok x) (Err Malformed)) ≡ Err Line → ⊥
text_line true ends until x e = absurd cc
text_line false true until x e = absurd cc
text_line false false until x e = absurd cc

text_refused : (short ends : Bool) (until : ℕ) (x : List ℕ) → cond short (Err (Text until)) (cond ends (Ok x) (Err Malformed)) ≡ Err Malformed → (short ≡ false) × (ends ≡ false)
text_refused true ends until x e = absurd cc
text_refused false true until x e = absurd cc
text_refused false false until x e = (refl, refl)

text_until : (short ends : Bool) (place until : ℕ) (x : List ℕ) → cond short (Err (Text place)) (cond ends (Ok x) (Err Malformed)) ≡ Err (Text until) → (short ≡ true) × (until ≡ place)
text_until true ends place until x e = (refl, cc)
text_until false true place until x e = absurd cc
text_until false false place until x e = absurd cc

pub text_ok : (len from : ℕ) (bytes rest : List ℕ) → text_at len from bytes ≡ Ok rest → (body : List ℕ) × (length body ≡ len) × (bytes ≡ body ++ line_end ∷ rest)
unfolding text_at
text_ok len from bytes rest e =
    let s = text_given (leb (length bytes) len) (eqb (get_or bytes len 0) line_end) (from + len + 1) (drop (len + 1) bytes) rest e in
    let long : len < length bytes = leb-false (length bytes) len s.0 in
    let end : get_or bytes len 0 ≡ line_end = eqb-true (get_or bytes len 0) line_end s.1 in (
      take len bytes,
      length-take-le len bytes (omega arith),
      sym (take-append-drop len bytes) ∙ ap (λ (x : List ℕ). take len bytes ++ x) (drop_more bytes len 0 long ∙ ap (λ (b : ℕ). b ∷ drop (len + 1) bytes) end ∙ ap (λ (r : List ℕ). line_end ∷ r) s.2),
    )

pub text_no_line : (len from : ℕ) (bytes : List ℕ) → text_at len from bytes ≡ Err Line → ⊥
unfolding text_at
text_no_line len from bytes e = text_line (leb (length bytes) len) (eqb (get_or bytes len 0) line_end) (from + len + 1) (drop (len + 1) bytes) e

pub text_stays : (len from other : ℕ) (bytes more : List ℕ) → text_at len from bytes ≡ Err Malformed → text_at len other (bytes ++ more) ≡ Err Malformed
unfolding text_at
text_stays len from other bytes more e =
    let s = text_refused (leb (length bytes) len) (eqb (get_or bytes len 0) line_end) (from + len + 1) (drop (len + 1) bytes) e in
    let long : len < length bytes = leb-false (length bytes) len s.0 in
    rw (lt-leb (length (bytes ++ more)) len (omega (arith, length-append bytes more)), get_or_append_left bytes more 0 len long, s.1) refl

pub text_waits : (len from : ℕ) (bytes : List ℕ) (until : ℕ) → text_at len from bytes ≡ Err (Text until) → (length bytes ≤ len) × (until ≡ from + len + 1)
unfolding text_at
text_waits len from bytes until e =
    let s = text_until (leb (length bytes) len) (eqb (get_or bytes len 0) line_end) (from + len + 1) until (drop (len + 1) bytes) e in
    (leb-true (length bytes) len s.0, s.1)

-- ---- line and text

abbrev pub body_at : ℕ → ℕ → List ℕ × ℕ → List ℕ → Result (Command × List ℕ) Fault
body_at at n h rest = text_at h.1 (at + (n - length rest)) rest >>= λ after. gives (commands.Put h.0 (at + (n - length rest)) h.1) after

put_third : (path : List ℕ) (o : Result (ℕ × List ℕ) Fault) (k : List ℕ × ℕ → List ℕ → Result (Command × List ℕ) Fault)
    → (o >>= λ n. k (with_path path n.0) n.1) ≡ ((o >>= λ n. gives (with_path path n.0) n.1) >>= λ h. k h.0 h.1)
put_third path (Ok n) k = refl
put_third path (Err e) k = refl

put_second : (o : Result (List ℕ × List ℕ) Fault) (g : List ℕ → Result (ℕ × List ℕ) Fault) (k : List ℕ × ℕ → List ℕ → Result (Command × List ℕ) Fault)
    → (o >>= λ p. g p.1 >>= λ n. k (with_path p.0 n.0) n.1) ≡ ((o >>= λ p. g p.1 >>= λ n. gives (with_path p.0 n.0) n.1) >>= λ h. k h.0 h.1)
put_second (Ok p) g k = put_third p.0 (g p.1) k
put_second (Err e) g k = refl

put_first : (o : Result (List ℕ) Fault) (f : List ℕ → Result (List ℕ × List ℕ) Fault) (g : List ℕ → Result (ℕ × List ℕ) Fault) (k : List ℕ × ℕ → List ℕ → Result (Command × List ℕ) Fault)
    → (o >>= λ w. f w >>= λ p. g p.1 >>= λ n. k (with_path p.0 n.0) n.1) ≡ ((o >>= λ w. f w >>= λ p. g p.1 >>= λ n. gives (with_path p.0 n.0) n.1) >>= λ h. k h.0 h.1)
put_first (Ok w) f g k = put_second (f w) g k
put_first (Err e) f g k = refl

pub put_same : (at : ℕ) (bytes : List ℕ) → put_at at bytes ≡ (header_at bytes >>= λ p. body_at at (length bytes) p.0 p.1)
unfolding put_at
put_same at bytes = put_first (word_at (codes "put ") bytes) (path_at space) (number_at 0 4294967295 line_end) (body_at at (length bytes))

-- where the text begins is the length of what was read
pub place : (at : ℕ) (line rest bytes : List ℕ) → bytes ≡ line ++ rest → at + (length bytes - length rest) ≡ at + length line
place at line rest bytes e = omega (arith, ap length e ∙ length-append line rest)

pub body_err : (o : Result (List ℕ) Fault) (c : Command) (d : Fault) → (o >>= λ after. gives c after) ≡ Err d → o ≡ Err d
body_err (Ok x) c d e = absurd cc
body_err (Err y) c d e = cc

put_whole : (bytes line back body after rest : List ℕ) → bytes ≡ line ++ back → back ≡ body ++ line_end ∷ after → after ≡ rest → bytes ≡ ((line ++ body) ++ line_end ∷ []) ++ rest
put_whole bytes line back body after rest e f same =
    let tail : back ≡ body ++ line_end ∷ rest = f ∙ ap (λ (r : List ℕ). body ++ line_end ∷ r) same in
    e ∙ ap (λ (r : List ℕ). line ++ r) tail ∙ around line body rest

pub put_takes : (at : ℕ) (bytes : List ℕ) (c : Command) (rest : List ℕ) → put_at at bytes ≡ Ok (c, rest) → (text : List ℕ) × SpelledAt at c text × (bytes ≡ text ++ rest)
put_takes at bytes c rest e =
    let b = bind_ok (header_at bytes) (λ p. body_at at (length bytes) p.0 p.1) (c, rest) (sym (put_same at bytes) ∙ e) in
    let path = b.0.0.0 in
    let len = b.0.0.1 in
    let back = b.0.1 in
    let t = header_reader.sound.takes bytes b.0.0 back b.1 in
    let from = at + (length bytes - length back) in
    let g = bind_ok (text_at len from back) (λ after. gives (commands.Put path from len) after) (c, rest) b.2 in
    let s = pair_is (commands.Put path from len) c g.0 rest g.2 in
    let x = text_ok len from back g.0 g.1 in
    let parts : bytes ≡ put_line path len ++ back = t.2 ∙ ap (λ (l : List ℕ). l ++ back) t.1.shown in
    let text = (put_line path len ++ x.0) ++ line_end ∷ [] in
    let whole : bytes ≡ text ++ rest = put_whole bytes (put_line path len) back x.0 g.0 rest parts x.2 s.1 in
    (text, subst (λ c. SpelledAt at c text) s.0 (t.1.path, omega (arith, t.1.len), place at (put_line path len) back bytes parts, x.0, x.1, refl), whole)

pub put_stays : (at : ℕ) (bytes more : List ℕ) → put_at at bytes ≡ Err Malformed → put_at at (bytes ++ more) ≡ Err Malformed
put_stays at bytes more e =
    put_same at (bytes ++ more) ∙ elim (bind_err (header_at bytes) (λ p. body_at at (length bytes) p.0 p.1) Malformed (sym (put_same at bytes) ∙ e)) [
      | inl here ↦ ap (λ (o : Result ((List ℕ × ℕ) × List ℕ) Fault). o >>= λ p. body_at at (length (bytes ++ more)) p.0 p.1) (header_reader.sound.stays bytes more here)
      | inr later ↦ (
          let h = later.0.0 in
          let back = later.0.1 in
          let refused = body_err (text_at h.1 (at + (length bytes - length back)) back) (commands.Put h.0 (at + (length bytes - length back)) h.1) Malformed later.2 in
          let from = at + (length (bytes ++ more) - length (back ++ more)) in
          bind_at (header_at (bytes ++ more)) (λ p. body_at at (length (bytes ++ more)) p.0 p.1) (h, back ++ more) (Err Malformed) (kept SpellsHeader never waits_never header_at header_reader bytes h back more later.1)
          (ap (λ (o : Result (List ℕ) Fault). o >>= λ after. gives (commands.Put h.0 from h.1) after) (text_stays h.1 (at + (length bytes - length back)) from back more refused)))
    ]

-- a text of zeros, to end a put with
pub put_ended : (at : ℕ) (h : List ℕ × ℕ) (line body : List ℕ) → SpellsHeader h line → length body ≡ h.1 → SpelledAt at (commands.Put h.0 (at + length (put_line h.0 h.1)) h.1) (line ++ body ++ line_end ∷ [])
put_ended at h line body is len = (is.path, omega (arith, is.len), refl, body, len, ap (λ (l : List ℕ). l ++ body ++ line_end ∷ []) is.shown)

pub put_line_waits : (at : ℕ) (bytes : List ℕ) → put_at at bytes ≡ Err Line → header_at bytes ≡ Err Line
put_line_waits at bytes e =
    elim (bind_err (header_at bytes) (λ p. body_at at (length bytes) p.0 p.1) Line (sym (put_same at bytes) ∙ e)) [
      | inl here ↦ here
      | inr later ↦ absurd (text_no_line later.0.0.1 (at + (length bytes - length later.0.1)) later.0.1 (body_err (text_at later.0.0.1 (at + (length bytes - length later.0.1)) later.0.1) (commands.Put later.0.0.0 (at + (length bytes - length later.0.1)) later.0.0.1) Line later.2))
    ]

pub put_front : (at : ℕ) (bytes : List ℕ) → IsFrontOf SpellsHeader bytes ⊎ never bytes → IsFrontOf (SpelledAt at) bytes ⊎ IsOpen bytes
put_front at bytes (inr bad) = absurd bad
put_front at bytes (inl front) =
    let h = front.value in
    let body = replicate h.1 0 in
    inl (record {
      more = front.more ++ (body ++ line_end ∷ []);
      value = commands.Put h.0 (at + length (put_line h.0 h.1)) h.1;
      proper = omega (arith, length-append front.more (body ++ line_end ∷ []), front.proper);
      spells = subst (SpelledAt at (commands.Put h.0 (at + length (put_line h.0 h.1)) h.1)) (sym (four bytes front.more body (line_end ∷ []))) (put_ended at h (bytes ++ front.more) body front.spells (length-replicate h.1 0));
    })

pub put_again : (at : ℕ) (c : Command) (h : List ℕ × ℕ) (body text rest : List ℕ) → SpellsHeader h (put_line h.0 h.1) → length body ≡ h.1 → text ≡ put_line h.0 h.1 ++ body ++ line_end ∷ []
    → c ≡ commands.Put h.0 (at + length (put_line h.0 h.1)) h.1 → put_at at (text ++ rest) ≡ Ok (c, rest)
put_again at c h body text rest is len e same =
    let line = put_line h.0 h.1 in
    let bytes = text ++ rest in
    let back = body ++ line_end ∷ rest in
    let parts : bytes ≡ line ++ back = ap (λ (t : List ℕ). t ++ rest) e ∙ sym (around line body rest) in
    let from : at + (length bytes - length back) ≡ at + length line = place at line back bytes parts in
    let given : text_at h.1 (at + (length bytes - length back)) back ≡ Ok rest = ap (λ (n : ℕ). text_at n (at + (length bytes - length back)) back) (sym len) ∙ text_again body rest (at + (length bytes - length back)) in
    put_same at bytes ∙ bind_at (header_at bytes) (λ p. body_at at (length bytes) p.0 p.1) (h, back) (Ok (c, rest))
    (ap header_at parts ∙ header_reader.again h line back is)
    (ap (λ (o : Result (List ℕ) Fault). o >>= λ after. gives (commands.Put h.0 (at + (length bytes - length back)) h.1) after) given ∙ ap (λ (n : ℕ). gives (commands.Put h.0 n h.1) rest) from ∙ ap (λ (x : Command). gives x rest) (sym same))
