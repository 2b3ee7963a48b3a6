-- The commands as one reader, and what it says of bytes that come in pieces.
use Rattle.std.proofs.Common.{◌≡◌, ◌≢◌, ◌⊎◌, ℕ, ◌<◌, ◌^◌, true, List, [], ◌∷◌, ◌++◌, Some, Result, refl, sym, ap, subst, ◌∙◌, append_assoc, arith}
use Rattle.std.specs.Prelude.{codes, decimal}
use Rattle.std.specs.Char.{is_ascii_digit}
use Rattle.std.proofs.lemmas.List.Elements.{All-push}
use Rattle.std.proofs.lemmas.Fmt.{digits_decimal}
use Rattle.script.specs.declared.command.Command.{Command}
use Rattle.script.specs.declared.command.Command.TheVariants as commands
use Rattle.script.specs.declared.command.Query.{Query}
use Rattle.script.specs.declared.faults.Fault.{Fault}
use Rattle.script.specs.declared.values.Entry.{Entry}
use Rattle.script.specs.declared.values.Plain.{Plain}
use Rattle.script.specs.Grammar.{IsPath, IsLine, IsWithin, line_end, space, is_path_byte, json_limit, Spells}
use Rattle.script.specs.Runs.{run_in}
use Rattle.script.specs.Stream.{IsOpenName, IsOpenJson}
use Rattle.script.specs.Reading.{or_malformed, path_at, number_at, drop_at, query_at, ask_at, json_at, run_at}
use Rattle.script.proofs.Digits.{own}
use Rattle.script.proofs.Json.{some_given}
use Rattle.script.proofs.Again.{digits_all}
use Rattle.script.proofs.Laws.{IsInline, IsReader, IsSome, Follows, OpensAfter, Mapped, mapped, mapped_reader, then, then_reader, never, waits_never, reader_same}
use Rattle.script.proofs.Spans.{Ended}
use Rattle.script.proofs.Readers.{path_reader, one_byte, number_reader, SpellsRun, json_reader, run_read_is}
use Rattle.script.proofs.Sample.{sample, sample_run}
use Rattle.script.proofs.Spelled.{AfterWord, OpenAfterWord, after_word, after_reader, after_text, OneWord, inline_by}
use Rattle.script.proofs.Queries.{SpellsLine, IsOpenQuery, query_reader, some_query}

-- what spells a command at a place
abbrev pub SpelledAt : ℕ → Command → List ℕ → Type 0
SpelledAt at command text = Spells at text command

abbrev pub IsOpen : List ℕ → Type 0
IsOpen bytes = IsOpenName bytes ⊎ IsOpenJson bytes

-- ---- fields that a space ends lie within the line

digits_inline : (n : ℕ) → n < 2 ^ 64 → IsInline (decimal n)
digits_inline n small k d lt e =
    let yes : is_ascii_digit line_end ≡ true = ap is_ascii_digit (sym e) ∙ digits_all (decimal n) (digits_decimal own n small) k d lt in
    absurd (cc (yes))

number_inline : (low high n : ℕ) (text : List ℕ) → high < 2 ^ 64 → Ended (IsWithin low high) decimal space n text → IsInline text
number_inline low high n text small h =
    subst IsInline (sym h.shown) (All-push (λ b. b ≢ line_end) (decimal n) space (digits_inline n (omega (arith, h.good.1, small))) (λ e. absurd (omega (arith, e))))

pub path_inline : (path text : List ℕ) → Ended IsPath (λ path. path) space path text → IsInline text
path_inline path text h =
    let all : IsInline path = λ k d lt e. (let yes : is_path_byte line_end ≡ true = ap is_path_byte (sym e) ∙ h.good.bytes k d lt in absurd (cc (yes))) in
    subst IsInline (sym h.shown) (All-push (λ b. b ≢ line_end) path space all (λ e. absurd (omega (arith, e))))

-- ---- drop

abbrev pub SpellsPath : List ℕ → List ℕ → Type 0
SpellsPath = Ended IsPath (λ path. path) line_end

abbrev pub of_path : List ℕ → Command
of_path path = commands.Drop path

some_path : IsSome (Mapped SpellsPath of_path)
some_path = record { value = commands.Drop (97 ∷ []); text = 97 ∷ line_end ∷ []; spells = record { from = 97 ∷ []; reads = record { good = one_byte; shown = refl }; is = refl } }

drop_same : (bytes : List ℕ) → drop_at bytes ≡ after_word (codes "drop ") (mapped (path_at line_end) of_path) bytes
unfolding drop_at
drop_same bytes = refl

pub drop_reader : IsReader (AfterWord (codes "drop ") (Mapped SpellsPath of_path)) (OpenAfterWord (codes "drop ") never) waits_never drop_at
drop_reader =
    reader_same (AfterWord (codes "drop ") (Mapped SpellsPath of_path)) (OpenAfterWord (codes "drop ") never) waits_never (after_word (codes "drop ") (mapped (path_at line_end) of_path)) drop_at drop_same
    (after_reader (codes "drop ") (Mapped SpellsPath of_path) never (mapped (path_at line_end) of_path) refl some_path (mapped_reader SpellsPath never waits_never (path_at line_end) of_path (path_reader line_end refl)))

pub drop_spelled : (at : ℕ) (c : Command) (text : List ℕ) → AfterWord (codes "drop ") (Mapped SpellsPath of_path) c text → SpelledAt at c text
drop_spelled at c text h =
    let t = after_text (codes "drop ") (Mapped SpellsPath of_path) c text h in
    subst (λ c. SpelledAt at c text) (sym t.1.is) (t.1.reads.good, t.2 ∙ ap (λ (b : List ℕ). codes "drop " ++ b) t.1.reads.shown)

-- ---- ask

abbrev pub SpellsSession : ℕ → List ℕ → Type 0
SpellsSession = Ended (IsWithin 1 16) decimal space

abbrev pub asked : ℕ → Query → Command
asked session query = commands.Ask session query

abbrev pub SpellsAsk : Command → List ℕ → Type 0
SpellsAsk = Follows SpellsSession (λ session. Mapped SpellsLine (asked session))

abbrev pub OpensAsk : List ℕ → Type 0
OpensAsk = OpensAfter SpellsSession (λ session. IsOpenQuery)

abbrev pub ask_rest : List ℕ → Result (Command × List ℕ) Fault
ask_rest = then (number_at 1 16 space) (λ session. mapped query_at (asked session))

ask_rest_reader : IsReader SpellsAsk OpensAsk waits_never ask_rest
ask_rest_reader =
    then_reader SpellsSession (λ session. Mapped SpellsLine (asked session)) (λ session. IsOpenQuery) (number_at 1 16 space) (λ session. mapped query_at (asked session))
    (number_reader 1 16 space (omega arith) (omega arith) (omega arith) refl)
    (λ n text rest h e. number_inline 1 16 n text (omega arith) h)
    (λ session. record { value = asked session some_query.value; text = some_query.text; spells = record { from = some_query.value; reads = some_query.spells; is = refl } })
    (λ session. mapped_reader SpellsLine IsOpenQuery waits_never query_at (asked session) query_reader)

some_ask : IsSome SpellsAsk
some_ask = record {
  value = asked 1 some_query.value;
  text = (decimal 1 ++ space ∷ []) ++ some_query.text;
  spells = record {
    first = 1;
    front = decimal 1 ++ space ∷ [];
    back = some_query.text;
    parts = refl;
    reads = record { good = (omega arith, omega arith); shown = refl };
    goes_on = record { from = some_query.value; reads = some_query.spells; is = refl };
  };
}

pub ask_same : (bytes : List ℕ) → ask_at bytes ≡ after_word (codes "ask ") ask_rest bytes
unfolding ask_at
ask_same bytes = refl

pub ask_reader : IsReader (AfterWord (codes "ask ") SpellsAsk) (OpenAfterWord (codes "ask ") OpensAsk) waits_never ask_at
ask_reader = reader_same (AfterWord (codes "ask ") SpellsAsk) (OpenAfterWord (codes "ask ") OpensAsk) waits_never (after_word (codes "ask ") ask_rest) ask_at ask_same (after_reader (codes "ask ") SpellsAsk OpensAsk ask_rest refl some_ask ask_rest_reader)

-- two fields, the first of which a byte ends
pub joined : (a b c : List ℕ) (x y : ℕ) → (a ++ x ∷ []) ++ (b ++ y ∷ []) ≡ (a ++ x ∷ b) ++ y ∷ []
joined a b c x y = simp append_assoc

pub ask_spelled : (at : ℕ) (c : Command) (text : List ℕ) → AfterWord (codes "ask ") SpellsAsk c text → SpelledAt at c text
ask_spelled at c text h =
    let t = after_text (codes "ask ") SpellsAsk c text h in
    let s = t.1 in
    let question = s.goes_on.reads.question in
    let back : t.0 ≡ (decimal s.first ++ space ∷ question) ++ line_end ∷ [] = s.parts ∙ ap (λ (f : List ℕ). f ++ s.back) s.reads.shown ∙ ap (λ (b : List ℕ). (decimal s.first ++ space ∷ []) ++ b) s.goes_on.reads.shown ∙ joined (decimal s.first) question [] space line_end in
    subst (λ c. SpelledAt at c text) (sym s.goes_on.is) (s.reads.good, question, s.goes_on.reads.spells, t.2 ∙ ap (λ (b : List ℕ). codes "ask " ++ b) back)

pub ask_open : (bytes : List ℕ) → OpenAfterWord (codes "ask ") OpensAsk bytes → IsOpenName bytes
ask_open bytes h =
    let o = h.opens in
    let n = o.opens in
    let back : h.back ≡ (decimal o.first ++ codes " model ") ++ n.name = o.parts ∙ ap (λ (f : List ℕ). f ++ o.back) o.reads.shown ∙ ap (λ (b : List ℕ). (decimal o.first ++ space ∷ []) ++ b) n.parts ∙ simp append_assoc in
    record { session = o.first; name = n.name; within = o.reads.good; line = n.line; parts = h.parts ∙ ap (λ (f : List ℕ). f ++ h.back) h.reads ∙ ap (λ (b : List ℕ). codes "ask " ++ b) back }

-- ---- run

abbrev pub SpellsFuel : ℕ → List ℕ → Type 0
SpellsFuel = Ended (IsWithin 1 1000000) decimal space

abbrev pub started : ℕ → List Entry × List Plain → Command
started fuel run = commands.Run fuel run.0 run.1

abbrev pub SpellsStart : Command → List ℕ → Type 0
SpellsStart = Follows SpellsFuel (λ fuel. Mapped SpellsRun (started fuel))

abbrev pub OpensStart : List ℕ → Type 0
OpensStart = OpensAfter SpellsFuel (λ fuel. IsLine json_limit)

abbrev pub run_rest : List ℕ → Result (Command × List ℕ) Fault
run_rest = then (number_at 1 1000000 space) (λ fuel. mapped json_at (started fuel))

-- a JSON text that spells calls and draws, and its line
pub run_to : (json : List ℕ) (run : List Entry × List Plain) → IsLine json_limit json → run_in json ≡ Some run → SpellsRun run (json ++ line_end ∷ [])
run_to json run line e = record { from = json; reads = record { good = line; shown = refl }; gives = run_read_is json ∙ ap or_malformed e }

sample_line : IsLine json_limit sample
sample_line = record { bytes = inline_by sample refl; len = omega arith }

some_run : IsSome SpellsRun
some_run = record { value = ([], []); text = sample ++ line_end ∷ []; spells = run_to sample ([], []) sample_line sample_run }

run_rest_reader : IsReader SpellsStart OpensStart waits_never run_rest
run_rest_reader =
    then_reader SpellsFuel (λ fuel. Mapped SpellsRun (started fuel)) (λ fuel. IsLine json_limit) (number_at 1 1000000 space) (λ fuel. mapped json_at (started fuel))
    (number_reader 1 1000000 space (omega arith) (omega arith) (omega arith) refl)
    (λ n text rest h e. number_inline 1 1000000 n text (omega arith) h)
    (λ fuel. record { value = started fuel some_run.value; text = some_run.text; spells = record { from = some_run.value; reads = some_run.spells; is = refl } })
    (λ fuel. mapped_reader SpellsRun (IsLine json_limit) waits_never json_at (started fuel) json_reader)

some_start : IsSome SpellsStart
some_start = record {
  value = started 1 some_run.value;
  text = (decimal 1 ++ space ∷ []) ++ some_run.text;
  spells = record {
    first = 1;
    front = decimal 1 ++ space ∷ [];
    back = some_run.text;
    parts = refl;
    reads = record { good = (omega arith, omega arith); shown = refl };
    goes_on = record { from = some_run.value; reads = some_run.spells; is = refl };
  };
}

pub run_same : (bytes : List ℕ) → run_at bytes ≡ after_word (codes "run ") run_rest bytes
unfolding run_at
run_same bytes = refl

pub run_reader : IsReader (AfterWord (codes "run ") SpellsStart) (OpenAfterWord (codes "run ") OpensStart) waits_never run_at
run_reader = reader_same (AfterWord (codes "run ") SpellsStart) (OpenAfterWord (codes "run ") OpensStart) waits_never (after_word (codes "run ") run_rest) run_at run_same (after_reader (codes "run ") SpellsStart OpensStart run_rest refl some_start run_rest_reader)

pub run_spelled : (at : ℕ) (c : Command) (text : List ℕ) → AfterWord (codes "run ") SpellsStart c text → SpelledAt at c text
run_spelled at c text h =
    let t = after_text (codes "run ") SpellsStart c text h in
    let s = t.1 in
    let json = s.goes_on.reads.from in
    let run = s.goes_on.from in
    let is : run_in json ≡ Some run = some_given (run_in json) run (sym (run_read_is json) ∙ s.goes_on.reads.gives) in
    let back : t.0 ≡ (decimal s.first ++ space ∷ json) ++ line_end ∷ [] = s.parts ∙ ap (λ (f : List ℕ). f ++ s.back) s.reads.shown ∙ ap (λ (b : List ℕ). (decimal s.first ++ space ∷ []) ++ b) s.goes_on.reads.reads.shown ∙ joined (decimal s.first) json [] space line_end in
    subst (λ c. SpelledAt at c text) (sym s.goes_on.is) (s.reads.good, json, s.goes_on.reads.reads.good, is, t.2 ∙ ap (λ (b : List ℕ). codes "run " ++ b) back)

pub run_open : (bytes : List ℕ) → OpenAfterWord (codes "run ") OpensStart bytes → IsOpenJson bytes
run_open bytes h =
    let o = h.opens in
    let back : h.back ≡ decimal o.first ++ space ∷ o.back = o.parts ∙ ap (λ (f : List ℕ). f ++ o.back) o.reads.shown ∙ append_assoc (decimal o.first) (space ∷ []) o.back in
    record { fuel = o.first; json = o.back; within = o.reads.good; line = o.opens; parts = h.parts ∙ ap (λ (f : List ℕ). f ++ h.back) h.reads ∙ ap (λ (b : List ℕ). codes "run " ++ b) back }

pub sync_spelled : (at : ℕ) (c : Command) (text : List ℕ) → OneWord (codes "sync\n") commands.Sync c text → SpelledAt at c text
sync_spelled at c text h = subst (λ c. SpelledAt at c text) (sym h.is) h.reads

pub end_spelled : (at : ℕ) (c : Command) (text : List ℕ) → OneWord (codes "end\n") commands.End c text → SpelledAt at c text
end_spelled at c text h = subst (λ c. SpelledAt at c text) (sym h.is) h.reads
