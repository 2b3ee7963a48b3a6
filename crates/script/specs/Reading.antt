-- Reading a command from left to right: the command and the bytes behind it, or the first fault that is met.
use Rattle.std.specs.Prelude.{◌≡◌, ◌+◌, ◌-◌, ◌==◌, ◌||◌, ◌&&◌, ℕ, Bool, not, nat_lt, nat_le, nat_eq, List, length, take, drop, slice_index, codes, if◌then◌else◌, Option, Some, None, Result, Ok, Err}
use Rattle.std.specs.List.{prefix_len, starts_with, list_all}
use Rattle.std.specs.Char.{is_ascii_digit}
use Rattle.std.specs.Str.{is_utf8}
use Rattle.std.specs.Str.Parse.{digits_value}
use Rattle.script.specs.declared.command.Command.{Command}
use Rattle.script.specs.declared.command.Command.TheVariants as commands
use Rattle.script.specs.declared.command.Query.{Query}
use Rattle.script.specs.declared.command.Query.TheVariants as queries
use Rattle.script.specs.declared.faults.Fault.{Fault}
use Rattle.script.specs.declared.faults.Fault.TheVariants.{Line, Text, Malformed}
use Rattle.script.specs.declared.faults.Stop.{Stop}
use Rattle.script.specs.declared.faults.Stop.TheVariants as stops
use Rattle.script.specs.declared.fields.Kind.{Kind}
use Rattle.script.specs.declared.fields.Kind.TheVariants as kinds
use Rattle.script.specs.declared.values.Entry.{Entry}
use Rattle.script.specs.declared.values.Plain.{Plain}
use Rattle.script.specs.Grammar.{space, line_end, is_path_byte, name_limit, json_limit}
use Rattle.script.specs.Runs.{value_in, pair_of, calls_of, values_of}
use Rattle.serde_json.specs.Data.{Data}

infixl 10 ◌>>=◌
abbrev pub ◌>>=◌ : {A B : Type 0} → Result A Fault → (A → Result B Fault) → Result B Fault
(Ok x) >>= f = f x
(Err e) >>= f = Err e

-- What a function returned, seen by view, is what reading gives, unless memory ran out.
abbrev pub Fails : {Y : Type 0} → Stop → Result Y Fault → Type 0
Fails stops.Memory read = Unit {0}
Fails (stops.Fault f) read = read ≡ Err f

abbrev pub Gives : {X Y : Type 0} → (X → Y) → Result X Stop → Result Y Fault → Type 0
Gives view (Ok x) read = read ≡ Ok (view x)
Gives view (Err e) read = Fails e read

-- what there is, or else the fault that no command begins so
abbrev pub or_malformed : {A : Type 0} → Option A → Result A Fault
or_malformed None = Err Malformed
or_malformed (Some x) = Ok x

-- the word, and the bytes behind it
abbrev pub word_at : List ℕ → List ℕ → Result (List ℕ) Fault
word_at word bytes =
    if starts_with nat_eq bytes word then Ok (drop (length word) bytes) else (
    if starts_with nat_eq word bytes then Err Line else Err Malformed)

-- whether a field of the kind has the byte
abbrev pub has : Kind → ℕ → Bool
has kinds.Path b = is_path_byte b
has kinds.Digit b = is_ascii_digit b
has kinds.Line b = not (b == line_end)

-- how many such bytes stand at the front
abbrev pub span : Kind → List ℕ → ℕ
span kind bytes = prefix_len (has kind) bytes

-- behind so many bytes comes the end of a field, and the rest behind that
abbrev pub rest_at : ℕ → ℕ → List ℕ → Result (List ℕ) Fault
rest_at len end bytes =
    if nat_le (length bytes) len then Err Line else (
    if slice_index bytes len == end then Ok (drop (len + 1) bytes) else Err Malformed)

-- the fault where nothing stands of a field that has at least one byte
abbrev pub none_at : List ℕ → Fault
none_at bytes = if length bytes == 0 then Line else Malformed

unfoldable pub path_at : ℕ → List ℕ → Result (List ℕ × List ℕ) Fault
path_at end bytes =
    if span kinds.Path bytes == 0 then Err (none_at bytes) else (
    if nat_lt 255 (span kinds.Path bytes) then Err Malformed else (
    rest_at (span kinds.Path bytes) end bytes >>= λ rest. Ok (take (span kinds.Path bytes) bytes, rest)))

-- one digit, or more of which the first is no zero
abbrev pub is_numeral : List ℕ → ℕ → Bool
is_numeral bytes len = nat_le len 1 || not (slice_index bytes 0 == 48)

unfoldable pub number_at : ℕ → ℕ → ℕ → List ℕ → Result (ℕ × List ℕ) Fault
number_at low high end bytes =
    let len = span kinds.Digit bytes in
    let number = digits_value 10 (take len bytes) in
    if len == 0 then Err (none_at bytes) else (
    if not (is_numeral bytes len) then Err Malformed else (
    if nat_lt number low || nat_lt high number then Err Malformed else (
    rest_at len end bytes >>= λ rest. Ok (number, rest))))

unfoldable pub line_at : ℕ → List ℕ → Result (List ℕ × List ℕ) Fault
line_at limit bytes =
    let len = span kinds.Line bytes in
    if nat_lt limit len then Err Malformed else (
    rest_at len line_end bytes >>= λ rest. Ok (take len bytes, rest))

-- bytes above the space, of which there is one at least
abbrev pub is_visible : List ℕ → Bool
is_visible name = not (length name == 0) && list_all (λ b. nat_lt space b) name

-- a whole line as a name
abbrev pub named_as : List ℕ → Result (List ℕ) Fault
named_as name = if is_visible name && is_utf8 name then Ok name else Err Malformed

unfoldable pub name_at : List ℕ → Result (List ℕ × List ℕ) Fault
name_at bytes = do
  line ← line_at name_limit bytes
  name ← named_as line.0
  Ok (name, line.1)

-- a text of so many bytes, which begins at the place `from`, and the line end behind it
unfoldable pub text_at : ℕ → ℕ → List ℕ → Result (List ℕ) Fault
text_at len from bytes =
    if nat_le (length bytes) len then Err (Text (from + len + 1)) else (
    if slice_index bytes len == line_end then Ok (drop (len + 1) bytes) else Err Malformed)

unfoldable pub put_at : ℕ → List ℕ → Result (Command × List ℕ) Fault
put_at at bytes = do
  word ← word_at (codes "put ") bytes
  path ← path_at space word
  len ← number_at 0 4294967295 line_end path.1
  rest ← text_at len.0 (at + (length bytes - length len.1)) len.1
  Ok (commands.Put path.0 (at + (length bytes - length len.1)) len.0, rest)

unfoldable pub drop_at : List ℕ → Result (Command × List ℕ) Fault
drop_at bytes = do
  word ← word_at (codes "drop ") bytes
  path ← path_at line_end word
  Ok (commands.Drop path.0, path.1)

-- all issues, or those of one file
unfoldable pub issues_at : List ℕ → Result (Query × List ℕ) Fault
issues_at bytes = do
  word ← word_at (codes "issues") bytes
  if length word == 0 then Err Line else (
      if slice_index word 0 == line_end then Ok (queries.Issues, drop 1 word) else (
      if slice_index word 0 == space then (path_at line_end (drop 1 word) >>= λ path. Ok (queries.IssuesOf path.0, path.1)) else Err Malformed))

unfoldable pub model_at : List ℕ → Result (Query × List ℕ) Fault
model_at bytes = do
  word ← word_at (codes "model ") bytes
  name ← name_at word
  Ok (queries.Model name.0, name.1)

unfoldable pub trace_at : List ℕ → Result (Query × List ℕ) Fault
trace_at bytes = do
  word ← word_at (codes "trace ") bytes
  number ← number_at 1 4294967295 line_end word
  Ok (queries.Trace number.0, number.1)

unfoldable pub query_at : List ℕ → Result (Query × List ℕ) Fault
query_at bytes =
    if length bytes == 0 then Err Line else (
    if slice_index bytes 0 == 105 then issues_at bytes else (
    if slice_index bytes 0 == 109 then model_at bytes else (
    if slice_index bytes 0 == 116 then trace_at bytes else (
    if slice_index bytes 0 == 110 then (word_at (codes "notes\n") bytes >>= λ rest. Ok (queries.Notes, rest)) else (
    if slice_index bytes 0 == 118 then (word_at (codes "version\n") bytes >>= λ rest. Ok (queries.Version, rest)) else Err Malformed)))))

unfoldable pub ask_at : List ℕ → Result (Command × List ℕ) Fault
ask_at bytes = do
  word ← word_at (codes "ask ") bytes
  session ← number_at 1 16 space word
  query ← query_at session.1
  Ok (commands.Ask session.0 query.0, query.1)

-- the calls and draws of a value, part by part
unfoldable pub run_parts : Data → Result (List Entry × List Plain) Fault
run_parts d = do
  pair ← or_malformed (pair_of d)
  calls ← or_malformed (calls_of pair.0)
  draws ← or_malformed (values_of pair.1)
  Ok (calls, draws)

-- the calls and draws of a JSON text
unfoldable pub run_read : List ℕ → Result (List Entry × List Plain) Fault
run_read json = or_malformed (value_in json) >>= run_parts

-- a JSON text that spells calls and draws, up to the end of its line
unfoldable pub json_at : List ℕ → Result ((List Entry × List Plain) × List ℕ) Fault
json_at bytes = do
  line ← line_at json_limit bytes
  run ← run_read line.0
  Ok (run, line.1)

unfoldable pub run_at : List ℕ → Result (Command × List ℕ) Fault
run_at bytes = do
  word ← word_at (codes "run ") bytes
  fuel ← number_at 1 1000000 space word
  run ← json_at fuel.1
  Ok (commands.Run fuel.0 run.0.0 run.0.1, run.1)

unfoldable pub command_at : ℕ → List ℕ → Result (Command × List ℕ) Fault
command_at at bytes =
    if length bytes == 0 then Err Line else (
    if slice_index bytes 0 == 112 then put_at at bytes else (
    if slice_index bytes 0 == 100 then drop_at bytes else (
    if slice_index bytes 0 == 97 then ask_at bytes else (
    if slice_index bytes 0 == 115 then (word_at (codes "sync\n") bytes >>= λ rest. Ok (commands.Sync, rest)) else (
    if slice_index bytes 0 == 114 then run_at bytes else (
    if slice_index bytes 0 == 101 then (word_at (codes "end\n") bytes >>= λ rest. Ok (commands.End, rest)) else Err Malformed))))))
