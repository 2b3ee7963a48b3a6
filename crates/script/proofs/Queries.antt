-- The queries as readers.
use Rattle.std.proofs.Common.{◌≡◌, ℕ, ◌==◌, false, List, [], ◌∷◌, ◌++◌, length, drop, get_or, Result, Ok, Err, refl, sym, ap, subst, ◌∙◌, eqb, ltb, arith, inl, inr}
use Rattle.std.specs.Prelude.{codes, decimal, not, ◌&&◌, if◌then◌else◌, slice_index}
use Rattle.std.specs.List.{list_all}
use Rattle.std.specs.Str.{is_utf8}
use Rattle.std.proofs.lemmas.Bool.{ne_eqb, and_parts, not-true, eqb-false, ltb-true}
use Rattle.std.proofs.lemmas.List.Sums.{AllPass-from_list_all}
use Rattle.std.proofs.lemmas.Str.{IsUtf8-from_ascii, IsUtf8-from_is_utf8}
use Rattle.script.specs.declared.command.Query.{Query}
use Rattle.script.specs.declared.command.Query.TheVariants as queries
use Rattle.script.specs.declared.faults.Fault.{Fault}
use Rattle.script.specs.declared.faults.Fault.TheVariants.{Line, Malformed}
use Rattle.script.specs.Grammar.{IsPath, IsName, IsLine, IsWithin, line_end, space, name_limit, SpellsQuery}
use Rattle.script.specs.Reading.{◌>>=◌, word_at, path_at, number_at, is_visible, name_at, issues_at, model_at, trace_at, query_at}
use Rattle.script.proofs.Digits.{named_given}
use Rattle.script.proofs.Parts.{name_visible}
use Rattle.script.proofs.Laws.{IsAgain, IsReader, IsSome, Mapped, mapped, mapped_reader, never, waits_never, sound_weaker, reader_same, gives, bind_at}
use Rattle.script.proofs.Spans.{Ended, chosen, word_again}
use Rattle.script.proofs.Readers.{path_reader, one_byte, number_reader, SpellsName, name_reader, name_open}
use Rattle.script.proofs.Sample.{ascii_by}
use Rattle.script.proofs.Spelled.{AfterWord, OpenAfterWord, after_word, after_reader, after_text, after_from, OneWord, one_word, one_reader, refuse, refuse_sound, Chooses, chosen_sound, by_byte, full}

-- a query with the end of its line
pub record SpellsLine (query : Query) (text : List ℕ) : Type 0 where
  pub question : List ℕ
  pub spells : SpellsQuery question query
  pub shown : text ≡ question ++ line_end ∷ []

-- a query whose name has no end yet
pub record IsOpenQuery (bytes : List ℕ) : Type 0 where
  pub name : List ℕ
  pub line : IsLine name_limit name
  pub parts : bytes ≡ codes "model " ++ name

-- ---- issues: what follows the word

abbrev tail_at : List ℕ → Result (Query × List ℕ) Fault
tail_at word =
    if length word == 0 then Err Line else (
    if slice_index word 0 == line_end then Ok (queries.Issues, drop 1 word) else (
    if slice_index word 0 == space then (path_at line_end (drop 1 word) >>= λ path. Ok (queries.IssuesOf path.0, path.1)) else Err Malformed))

abbrev SpellsTail : Query → List ℕ → Type 0
SpellsTail queries.Issues text = text ≡ line_end ∷ []
SpellsTail (queries.IssuesOf path) text = IsPath path × (text ≡ space ∷ path ++ line_end ∷ [])
SpellsTail (queries.Model name) text = ⊥
SpellsTail (queries.Trace number) text = ⊥
SpellsTail queries.Notes text = ⊥
SpellsTail queries.Version text = ⊥

abbrev SpellsPath : List ℕ → List ℕ → Type 0
SpellsPath = Ended IsPath (λ path. path) line_end

abbrev of_path : List ℕ → Query
of_path path = queries.IssuesOf path

some_path : IsSome (Mapped SpellsPath of_path)
some_path = record { value = queries.IssuesOf (97 ∷ []); text = 97 ∷ line_end ∷ []; spells = record { from = 97 ∷ []; reads = record { good = one_byte; shown = refl }; is = refl } }

of_reader : IsReader (AfterWord (space ∷ []) (Mapped SpellsPath of_path)) (OpenAfterWord (space ∷ []) never) waits_never (after_word (space ∷ []) (mapped (path_at line_end) of_path))
of_reader = after_reader (space ∷ []) (Mapped SpellsPath of_path) never (mapped (path_at line_end) of_path) refl some_path (mapped_reader SpellsPath never waits_never (path_at line_end) of_path (path_reader line_end refl))

issues_tail : (q : Query) (text : List ℕ) → OneWord (line_end ∷ []) queries.Issues q text → SpellsTail q text
issues_tail q text h = subst (λ q. SpellsTail q text) (sym h.is) h.reads

of_tail : (q : Query) (text : List ℕ) → AfterWord (space ∷ []) (Mapped SpellsPath of_path) q text → SpellsTail q text
of_tail q text h =
    let t = after_text (space ∷ []) (Mapped SpellsPath of_path) q text h in
    subst (λ q. SpellsTail q text) (sym t.1.is) (t.1.reads.good, t.2 ∙ ap (λ (b : List ℕ). space ∷ b) t.1.reads.shown)

no_open : (word bytes : List ℕ) → OpenAfterWord word never bytes → ⊥
no_open word bytes h = h.opens

tail_issues : (bytes : List ℕ) → tail_at (line_end ∷ bytes) ≡ one_word (line_end ∷ []) queries.Issues (line_end ∷ bytes)
tail_issues bytes = rw (full (length bytes)) refl

tail_of : (bytes : List ℕ) → tail_at (space ∷ bytes) ≡ after_word (space ∷ []) (mapped (path_at line_end) of_path) (space ∷ bytes)
tail_of bytes = rw (full (length bytes)) refl

tail_none : (b : ℕ) (bytes : List ℕ) → (b ≡ line_end → ⊥) → (b ≡ space → ⊥) → tail_at (b ∷ bytes) ≡ Err Malformed
tail_none b bytes first second = rw (full (length bytes), ne_eqb b line_end first, ne_eqb b space second) refl

tail_choice : (b : ℕ) → Chooses SpellsTail never waits_never tail_at b
tail_choice b =
    by_byte SpellsTail never waits_never tail_at (one_word (line_end ∷ []) queries.Issues) b line_end
    (sound_weaker (OneWord (line_end ∷ []) queries.Issues) SpellsTail never never waits_never waits_never (one_word (line_end ∷ []) queries.Issues) issues_tail (λ bytes h. h) (λ bytes until h. h) (one_reader (line_end ∷ []) queries.Issues refl).sound)
    tail_issues
    (λ first. by_byte SpellsTail never waits_never tail_at (after_word (space ∷ []) (mapped (path_at line_end) of_path)) b space
    (sound_weaker (AfterWord (space ∷ []) (Mapped SpellsPath of_path)) SpellsTail (OpenAfterWord (space ∷ []) never) never waits_never waits_never (after_word (space ∷ []) (mapped (path_at line_end) of_path)) of_tail (no_open (space ∷ [])) (λ bytes until h. h) of_reader.sound)
    tail_of
    (λ second. record { reads = refuse; sound = refuse_sound SpellsTail never waits_never; same = λ bytes. tail_none b bytes first second }))

tail_again : IsAgain SpellsTail tail_at
tail_again queries.Issues text rest e = ap (λ (t : List ℕ). tail_at (t ++ rest)) e ∙ tail_issues rest
tail_again (queries.IssuesOf path) text rest h =
    ap (λ (t : List ℕ). tail_at (t ++ rest)) h.1 ∙ tail_of ((path ++ line_end ∷ []) ++ rest)
    ∙ of_reader.again (queries.IssuesOf path) (space ∷ path ++ line_end ∷ []) rest (after_from (space ∷ []) (Mapped SpellsPath of_path) (queries.IssuesOf path) (path ++ line_end ∷ []) (record { from = path; reads = record { good = h.0; shown = refl }; is = refl }))
tail_again (queries.Model name) text rest h = absurd h
tail_again (queries.Trace number) text rest h = absurd h
tail_again queries.Notes text rest h = absurd h
tail_again queries.Version text rest h = absurd h

some_tail : IsSome SpellsTail
some_tail = record { value = queries.Issues; text = line_end ∷ []; spells = refl }

tail_reader : IsReader SpellsTail never waits_never tail_at
tail_reader = record {
  sound = chosen_sound SpellsTail never waits_never tail_at (record { more = line_end ∷ []; value = queries.Issues; proper = omega arith; spells = refl }) refl tail_choice;
  again = tail_again;
}

-- ---- the queries, one by one

issues_same : (bytes : List ℕ) → issues_at bytes ≡ after_word (codes "issues") tail_at bytes
unfolding issues_at
issues_same bytes = refl

issues_reader : IsReader (AfterWord (codes "issues") SpellsTail) (OpenAfterWord (codes "issues") never) waits_never issues_at
issues_reader = reader_same (AfterWord (codes "issues") SpellsTail) (OpenAfterWord (codes "issues") never) waits_never (after_word (codes "issues") tail_at) issues_at issues_same (after_reader (codes "issues") SpellsTail never tail_at refl some_tail tail_reader)

tail_line : (q : Query) (back : List ℕ) → SpellsTail q back → SpellsLine q (codes "issues" ++ back)
tail_line queries.Issues back e = record { question = codes "issues"; spells = refl; shown = ap (λ (b : List ℕ). codes "issues" ++ b) e }
tail_line (queries.IssuesOf path) back h = record { question = codes "issues " ++ path; spells = (h.0, refl); shown = ap (λ (b : List ℕ). codes "issues" ++ b) h.1 }
tail_line (queries.Model name) back h = absurd h
tail_line (queries.Trace number) back h = absurd h
tail_line queries.Notes back h = absurd h
tail_line queries.Version back h = absurd h

issues_line : (q : Query) (text : List ℕ) → AfterWord (codes "issues") SpellsTail q text → SpellsLine q text
issues_line q text h = let t = after_text (codes "issues") SpellsTail q text h in subst (SpellsLine q) (sym t.2) (tail_line q t.0 t.1)

-- names

abbrev kept_name : List ℕ → Result (List ℕ) Fault
kept_name name = Ok name

ok_name : (x y : List ℕ) → kept_name x ≡ kept_name y → x ≡ y
ok_name x y e = cc

name_from : (name text : List ℕ) → SpellsName name text → IsName name × (text ≡ name ++ line_end ∷ [])
name_from name text h =
    elim (chosen (is_visible h.from && is_utf8 h.from) (Ok h.from) (Err Malformed) (Ok name) h.gives) [
      | inl given ↦ (
          let same : h.from ≡ name = ok_name h.from name given.1 in
          let tests = and_parts (is_visible h.from) (is_utf8 h.from) given.0 in
          let visible = and_parts (not (eqb (length h.from) 0)) (list_all (λ b. ltb space b) h.from) tests.0 in
          let some : eqb (length h.from) 0 ≡ false = not-true (eqb (length h.from) 0) visible.0 in
          let is : IsName h.from = record {
            bytes = λ k d lt. ltb-true space (get_or h.from k d) (AllPass-from_list_all (λ b. ltb space b) h.from visible.1 k d lt);
            len = (omega (arith, eqb-false (length h.from) 0 some), h.reads.good.len);
            text = IsUtf8-from_is_utf8 h.from tests.1;
          } in
          (subst IsName same is, h.reads.shown ∙ ap (λ (n : List ℕ). n ++ line_end ∷ []) same))
      | inr bad ↦ absurd (cc (bad.1))
    ]

name_to : (name : List ℕ) → IsName name → SpellsName name (name ++ line_end ∷ [])
name_to name is = record {
  from = name;
  reads = record { good = record { bytes = λ k d lt e. absurd (omega (arith, is.bytes k d lt, e)); len = is.len.1 }; shown = refl };
  gives = named_given name (name_visible name is) is.text;
}

one_name : IsName (97 ∷ [])
one_name = record {
  bytes = λ k d lt. (let first : k ≡ 0 = omega arith in rw first (omega arith));
  len = (omega arith, omega arith);
  text = IsUtf8-from_ascii (97 ∷ []) (ascii_by (97 ∷ []) refl);
}

abbrev of_name : List ℕ → Query
of_name name = queries.Model name

some_name : IsSome (Mapped SpellsName of_name)
some_name = record { value = queries.Model (97 ∷ []); text = (97 ∷ []) ++ line_end ∷ []; spells = record { from = 97 ∷ []; reads = name_to (97 ∷ []) one_name; is = refl } }

model_same : (bytes : List ℕ) → model_at bytes ≡ after_word (codes "model ") (mapped name_at of_name) bytes
unfolding model_at
model_same bytes = refl

model_reader : IsReader (AfterWord (codes "model ") (Mapped SpellsName of_name)) (OpenAfterWord (codes "model ") (IsLine name_limit)) waits_never model_at
model_reader =
    reader_same (AfterWord (codes "model ") (Mapped SpellsName of_name)) (OpenAfterWord (codes "model ") (IsLine name_limit)) waits_never (after_word (codes "model ") (mapped name_at of_name)) model_at model_same
    (after_reader (codes "model ") (Mapped SpellsName of_name) (IsLine name_limit) (mapped name_at of_name) refl some_name (mapped_reader SpellsName (IsLine name_limit) waits_never name_at of_name name_reader))

model_line : (q : Query) (text : List ℕ) → AfterWord (codes "model ") (Mapped SpellsName of_name) q text → SpellsLine q text
model_line q text h =
    let t = after_text (codes "model ") (Mapped SpellsName of_name) q text h in
    let n = name_from t.1.from t.0 t.1.reads in
    subst (λ q. SpellsLine q text) (sym t.1.is) (record { question = codes "model " ++ t.1.from; spells = (n.0, refl); shown = t.2 ∙ ap (λ (b : List ℕ). codes "model " ++ b) n.1 })

model_open : (bytes : List ℕ) → OpenAfterWord (codes "model ") (IsLine name_limit) bytes → IsOpenQuery bytes
model_open bytes h = record { name = h.back; line = h.opens; parts = h.parts ∙ ap (λ (f : List ℕ). f ++ h.back) h.reads }

-- numbers of issues

abbrev SpellsNumber : ℕ → List ℕ → Type 0
SpellsNumber = Ended (IsWithin 1 4294967295) decimal line_end

abbrev of_number : ℕ → Query
of_number number = queries.Trace number

some_number : IsSome (Mapped SpellsNumber of_number)
some_number = record { value = queries.Trace 1; text = decimal 1 ++ line_end ∷ []; spells = record { from = 1; reads = record { good = (omega arith, omega arith); shown = refl }; is = refl } }

trace_same : (bytes : List ℕ) → trace_at bytes ≡ after_word (codes "trace ") (mapped (number_at 1 4294967295 line_end) of_number) bytes
unfolding trace_at
trace_same bytes = refl

trace_reader : IsReader (AfterWord (codes "trace ") (Mapped SpellsNumber of_number)) (OpenAfterWord (codes "trace ") never) waits_never trace_at
trace_reader =
    reader_same (AfterWord (codes "trace ") (Mapped SpellsNumber of_number)) (OpenAfterWord (codes "trace ") never) waits_never (after_word (codes "trace ") (mapped (number_at 1 4294967295 line_end) of_number)) trace_at trace_same
    (after_reader (codes "trace ") (Mapped SpellsNumber of_number) never (mapped (number_at 1 4294967295 line_end) of_number) refl some_number
    (mapped_reader SpellsNumber never waits_never (number_at 1 4294967295 line_end) of_number (number_reader 1 4294967295 line_end (omega arith) (omega arith) (omega arith) refl)))

trace_line : (q : Query) (text : List ℕ) → AfterWord (codes "trace ") (Mapped SpellsNumber of_number) q text → SpellsLine q text
trace_line q text h =
    let t = after_text (codes "trace ") (Mapped SpellsNumber of_number) q text h in
    subst (λ q. SpellsLine q text) (sym t.1.is) (record { question = codes "trace " ++ decimal t.1.from; spells = (t.1.reads.good, refl); shown = t.2 ∙ ap (λ (b : List ℕ). codes "trace " ++ b) t.1.reads.shown })

notes_line : (q : Query) (text : List ℕ) → OneWord (codes "notes\n") queries.Notes q text → SpellsLine q text
notes_line q text h = subst (λ q. SpellsLine q text) (sym h.is) (record { question = codes "notes"; spells = refl; shown = h.reads })

version_line : (q : Query) (text : List ℕ) → OneWord (codes "version\n") queries.Version q text → SpellsLine q text
version_line q text h = subst (λ q. SpellsLine q text) (sym h.is) (record { question = codes "version"; spells = refl; shown = h.reads })

-- ---- a query, by its first byte

query_empty : query_at [] ≡ Err Line
unfolding query_at
query_empty = refl

query_issues : (bytes : List ℕ) → query_at (105 ∷ bytes) ≡ issues_at (105 ∷ bytes)
unfolding query_at
query_issues bytes = rw (full (length bytes)) refl

query_model : (bytes : List ℕ) → query_at (109 ∷ bytes) ≡ model_at (109 ∷ bytes)
unfolding query_at
query_model bytes = rw (full (length bytes)) refl

query_trace : (bytes : List ℕ) → query_at (116 ∷ bytes) ≡ trace_at (116 ∷ bytes)
unfolding query_at
query_trace bytes = rw (full (length bytes)) refl

query_notes : (bytes : List ℕ) → query_at (110 ∷ bytes) ≡ one_word (codes "notes\n") queries.Notes (110 ∷ bytes)
unfolding query_at
query_notes bytes = rw (full (length bytes)) refl

query_version : (bytes : List ℕ) → query_at (118 ∷ bytes) ≡ one_word (codes "version\n") queries.Version (118 ∷ bytes)
unfolding query_at
query_version bytes = rw (full (length bytes)) refl

query_none : (b : ℕ) (bytes : List ℕ) → (b ≡ 105 → ⊥) → (b ≡ 109 → ⊥) → (b ≡ 116 → ⊥) → (b ≡ 110 → ⊥) → (b ≡ 118 → ⊥) → query_at (b ∷ bytes) ≡ Err Malformed
unfolding query_at
query_none b bytes i m t n v = rw (full (length bytes), ne_eqb b 105 i, ne_eqb b 109 m, ne_eqb b 116 t, ne_eqb b 110 n, ne_eqb b 118 v) refl

none_open : (bytes : List ℕ) → ⊥ → IsOpenQuery bytes
none_open bytes h = absurd h

query_choice : (b : ℕ) → Chooses SpellsLine IsOpenQuery waits_never query_at b
query_choice b =
    by_byte SpellsLine IsOpenQuery waits_never query_at issues_at b 105
    (sound_weaker (AfterWord (codes "issues") SpellsTail) SpellsLine (OpenAfterWord (codes "issues") never) IsOpenQuery waits_never waits_never issues_at issues_line (λ bytes h. none_open bytes (no_open (codes "issues") bytes h)) (λ bytes until h. h) issues_reader.sound) query_issues
    (λ i. by_byte SpellsLine IsOpenQuery waits_never query_at model_at b 109
    (sound_weaker (AfterWord (codes "model ") (Mapped SpellsName of_name)) SpellsLine (OpenAfterWord (codes "model ") (IsLine name_limit)) IsOpenQuery waits_never waits_never model_at model_line model_open (λ bytes until h. h) model_reader.sound) query_model
    (λ m. by_byte SpellsLine IsOpenQuery waits_never query_at trace_at b 116
    (sound_weaker (AfterWord (codes "trace ") (Mapped SpellsNumber of_number)) SpellsLine (OpenAfterWord (codes "trace ") never) IsOpenQuery waits_never waits_never trace_at trace_line (λ bytes h. none_open bytes (no_open (codes "trace ") bytes h)) (λ bytes until h. h) trace_reader.sound) query_trace
    (λ t. by_byte SpellsLine IsOpenQuery waits_never query_at (one_word (codes "notes\n") queries.Notes) b 110
    (sound_weaker (OneWord (codes "notes\n") queries.Notes) SpellsLine never IsOpenQuery waits_never waits_never (one_word (codes "notes\n") queries.Notes) notes_line none_open (λ bytes until h. h) (one_reader (codes "notes\n") queries.Notes refl).sound) query_notes
    (λ n. by_byte SpellsLine IsOpenQuery waits_never query_at (one_word (codes "version\n") queries.Version) b 118
    (sound_weaker (OneWord (codes "version\n") queries.Version) SpellsLine never IsOpenQuery waits_never waits_never (one_word (codes "version\n") queries.Version) version_line none_open (λ bytes until h. h) (one_reader (codes "version\n") queries.Version refl).sound) query_version
    (λ v. record { reads = refuse; sound = refuse_sound SpellsLine IsOpenQuery waits_never; same = λ bytes. query_none b bytes i m t n v })))))

pub model_line_open : (name : List ℕ) → IsLine name_limit name → query_at (codes "model " ++ name) ≡ Err Line
model_line_open name is =
    query_model (codes "odel " ++ name) ∙ model_same (codes "model " ++ name)
    ∙ bind_at (word_at (codes "model ") (codes "model " ++ name)) (mapped name_at of_name) name (Err Line) (word_again (codes "model ") name)
    (ap (λ (o : Result (List ℕ × List ℕ) Fault). o >>= λ p. gives (of_name p.0) p.1) (name_open name is))

abbrev starts : List ℕ → List ℕ → Result (Query × List ℕ) Fault
starts rest text = query_at (text ++ rest)

line_text : (q : Query) (text : List ℕ) (h : SpellsLine q text) (question : List ℕ) → h.question ≡ question → text ≡ question ++ line_end ∷ []
line_text q text h question e = h.shown ∙ ap (λ (x : List ℕ). x ++ line_end ∷ []) e

query_again : IsAgain SpellsLine query_at
query_again queries.Issues text rest h =
    ap (starts rest) (line_text queries.Issues text h (codes "issues") h.spells) ∙ query_issues (codes "ssues" ++ line_end ∷ rest)
    ∙ issues_reader.again queries.Issues (codes "issues" ++ line_end ∷ []) rest (after_from (codes "issues") SpellsTail queries.Issues (line_end ∷ []) refl)
query_again (queries.IssuesOf path) text rest h =
    ap (starts rest) (line_text (queries.IssuesOf path) text h (codes "issues " ++ path) h.spells.1) ∙ query_issues (codes "ssues " ++ (path ++ line_end ∷ []) ++ rest)
    ∙ issues_reader.again (queries.IssuesOf path) (codes "issues " ++ path ++ line_end ∷ []) rest (after_from (codes "issues") SpellsTail (queries.IssuesOf path) (space ∷ path ++ line_end ∷ []) (h.spells.0, refl))
query_again (queries.Model name) text rest h =
    ap (starts rest) (line_text (queries.Model name) text h (codes "model " ++ name) h.spells.1) ∙ query_model (codes "odel " ++ (name ++ line_end ∷ []) ++ rest)
    ∙ model_reader.again (queries.Model name) (codes "model " ++ name ++ line_end ∷ []) rest (after_from (codes "model ") (Mapped SpellsName of_name) (queries.Model name) (name ++ line_end ∷ []) (record { from = name; reads = name_to name h.spells.0; is = refl }))
query_again (queries.Trace number) text rest h =
    ap (starts rest) (line_text (queries.Trace number) text h (codes "trace " ++ decimal number) h.spells.1) ∙ query_trace (codes "race " ++ (decimal number ++ line_end ∷ []) ++ rest)
    ∙ trace_reader.again (queries.Trace number) (codes "trace " ++ decimal number ++ line_end ∷ []) rest (after_from (codes "trace ") (Mapped SpellsNumber of_number) (queries.Trace number) (decimal number ++ line_end ∷ []) (record { from = number; reads = record { good = h.spells.0; shown = refl }; is = refl }))
query_again queries.Notes text rest h =
    ap (starts rest) (line_text queries.Notes text h (codes "notes") h.spells) ∙ query_notes (codes "otes" ++ line_end ∷ rest)
    ∙ (one_reader (codes "notes\n") queries.Notes refl).again queries.Notes (codes "notes\n") rest (record { from = tt; reads = refl; is = refl })
query_again queries.Version text rest h =
    ap (starts rest) (line_text queries.Version text h (codes "version") h.spells) ∙ query_version (codes "ersion" ++ line_end ∷ rest)
    ∙ (one_reader (codes "version\n") queries.Version refl).again queries.Version (codes "version\n") rest (record { from = tt; reads = refl; is = refl })

pub query_reader : IsReader SpellsLine IsOpenQuery waits_never query_at
query_reader = record {
  sound = chosen_sound SpellsLine IsOpenQuery waits_never query_at (record { more = codes "notes\n"; value = queries.Notes; proper = omega arith; spells = record { question = codes "notes"; spells = refl; shown = refl } }) query_empty query_choice;
  again = query_again;
}

pub some_query : IsSome SpellsLine
some_query = record { value = queries.Notes; text = codes "notes\n"; spells = record { question = codes "notes"; spells = refl; shown = refl } }
