-- The commands by their first byte, and what is known of bytes that come in pieces.
use Rattle.std.proofs.Common.{◌≡◌, ◌⊎◌, ℕ, ◌+◌, ◌-◌, ◌<◌, ◌≤◌, Bool, true, false, List, [], ◌∷◌, ◌++◌, length, take, drop, Result, Ok, Err, refl, sym, ap, subst, ◌∙◌, append_assoc, replicate, arith, inl, inr}
use Rattle.std.specs.Prelude.{codes, decimal}
use Rattle.std.proofs.lemmas.Bool.{ne_eqb, cases_Bool}
use Rattle.std.proofs.lemmas.List.Prefix.{end_rest}
use Rattle.std.proofs.lemmas.List.{append-nil, append_cancel_right, length-append, length-drop, length-replicate, take-append-drop}
use Rattle.script.specs.declared.command.Command.{Command}
use Rattle.script.specs.declared.command.Command.TheVariants as commands
use Rattle.script.specs.declared.command.Next.{Next}
use Rattle.script.specs.declared.command.Next.TheVariants as next
use Rattle.script.specs.declared.command.Query.{Query}
use Rattle.script.specs.declared.command.Wait.{Wait}
use Rattle.script.specs.declared.command.Wait.TheVariants as wait
use Rattle.script.specs.declared.faults.CommandError.{CommandError}
use Rattle.script.specs.declared.faults.CommandError.TheVariants as errors
use Rattle.script.specs.declared.faults.Fault.{Fault}
use Rattle.script.specs.declared.faults.Fault.TheVariants.{Line, Text, Malformed}
use Rattle.script.specs.declared.faults.Stop.{Stop}
use Rattle.script.specs.declared.faults.Stop.TheVariants as stops
use Rattle.script.specs.Grammar.{line_end, space, put_line, Spells}
use Rattle.script.specs.Stream.{BeginsWith, IsFront, IsOpenName, IsOpenJson, IsUnfinished, BeginsNone, WaitsWell, longest}
use Rattle.script.specs.Reading.{◌>>=◌, Fails, word_at, number_at, text_at, put_at, drop_at, query_at, ask_at, json_at, run_at, command_at}
use Rattle.script.specs.declared.values.Entry.{Entry}
use Rattle.script.specs.declared.values.Plain.{Plain}
use Rattle.script.proofs.Again.{number_again}
use Rattle.script.proofs.Laws.{mapped, IsInline, IsFrontOf, IsSound, Mapped, never, waits_never, sound_weaker, gives, pair_is, bind_ok, bind_err, bind_at, kept}
use Rattle.script.proofs.Lengths.{too_long}
use Rattle.script.proofs.Spans.{word_again}
use Rattle.script.proofs.Readers.{json_open}
use Rattle.script.proofs.Spelled.{AfterWord, OpenAfterWord, after_from, OneWord, one_word, one_reader, refuse, refuse_sound, Chooses, chosen_sound, by_byte, full}
use Rattle.script.proofs.Queries.{model_line_open}
use Rattle.script.proofs.Whole.{SpelledAt, IsOpen, of_path, SpellsPath, drop_reader, drop_spelled, SpellsAsk, OpensAsk, asked, ask_reader, ask_spelled, ask_open, SpellsStart, OpensStart, started, run_to, run_reader, run_spelled, run_open, ask_same, ask_rest, run_same, run_rest, sync_spelled, end_spelled, joined}
use Rattle.script.proofs.Puts.{SpellsHeader, header_reader, header_at, body_at, body_err, text_ok, text_waits, put_same, place, put_takes, put_stays, put_line_waits, put_front, put_again, put_ended}

-- ---- by the first byte

command_empty : (at : ℕ) → command_at at [] ≡ Err Line
unfolding command_at
command_empty at = refl

command_put : (at : ℕ) (bytes : List ℕ) → command_at at (112 ∷ bytes) ≡ put_at at (112 ∷ bytes)
unfolding command_at
command_put at bytes = rw (full (length bytes)) refl

command_drop : (at : ℕ) (bytes : List ℕ) → command_at at (100 ∷ bytes) ≡ drop_at (100 ∷ bytes)
unfolding command_at
command_drop at bytes = rw (full (length bytes)) refl

command_ask : (at : ℕ) (bytes : List ℕ) → command_at at (97 ∷ bytes) ≡ ask_at (97 ∷ bytes)
unfolding command_at
command_ask at bytes = rw (full (length bytes)) refl

command_sync : (at : ℕ) (bytes : List ℕ) → command_at at (115 ∷ bytes) ≡ one_word (codes "sync\n") commands.Sync (115 ∷ bytes)
unfolding command_at
command_sync at bytes = rw (full (length bytes)) refl

command_run : (at : ℕ) (bytes : List ℕ) → command_at at (114 ∷ bytes) ≡ run_at (114 ∷ bytes)
unfolding command_at
command_run at bytes = rw (full (length bytes)) refl

command_end : (at : ℕ) (bytes : List ℕ) → command_at at (101 ∷ bytes) ≡ one_word (codes "end\n") commands.End (101 ∷ bytes)
unfolding command_at
command_end at bytes = rw (full (length bytes)) refl

command_none : (at b : ℕ) (bytes : List ℕ) → (b ≡ 112 → ⊥) → (b ≡ 100 → ⊥) → (b ≡ 97 → ⊥) → (b ≡ 115 → ⊥) → (b ≡ 114 → ⊥) → (b ≡ 101 → ⊥) → command_at at (b ∷ bytes) ≡ Err Malformed
unfolding command_at
command_none at b bytes p d a s r e = rw (full (length bytes), ne_eqb b 112 p, ne_eqb b 100 d, ne_eqb b 97 a, ne_eqb b 115 s, ne_eqb b 114 r, ne_eqb b 101 e) refl

-- ---- what is spelled is read, whatever follows it

abbrev starts : ℕ → List ℕ → List ℕ → Result (Command × List ℕ) Fault
starts at rest text = command_at at (text ++ rest)

pub command_again : (at : ℕ) (c : Command) (text rest : List ℕ) → Spells at text c → command_at at (text ++ rest) ≡ Ok (c, rest)
command_again at (commands.Put path from len) text rest h =
    let line = put_line path len in
    let body = h.3 in
    ap (starts at rest) h.5 ∙ command_put at (drop 1 ((line ++ body ++ line_end ∷ []) ++ rest))
    ∙ put_again at (commands.Put path from len) (path, len) body (line ++ body ++ line_end ∷ []) rest (record { path = h.0; len = omega (arith, h.1); shown = refl }) h.4 refl (ap (λ (n : ℕ). commands.Put path n len) h.2)
command_again at (commands.Drop path) text rest h =
    ap (starts at rest) h.1 ∙ command_drop at (codes "rop " ++ (path ++ line_end ∷ []) ++ rest)
    ∙ drop_reader.again (commands.Drop path) (codes "drop " ++ path ++ line_end ∷ []) rest (after_from (codes "drop ") (Mapped SpellsPath of_path) (commands.Drop path) (path ++ line_end ∷ []) (record { from = path; reads = record { good = h.0; shown = refl }; is = refl }))
command_again at (commands.Ask session query) text rest h =
    let question = h.1 in
    let back = (decimal session ++ space ∷ []) ++ (question ++ line_end ∷ []) in
    let parts : text ≡ codes "ask " ++ back = h.3 ∙ ap (λ (b : List ℕ). codes "ask " ++ b) (sym (joined (decimal session) question [] space line_end)) in
    ap (starts at rest) parts ∙ command_ask at (codes "sk " ++ back ++ rest)
    ∙ ask_reader.again (commands.Ask session query) (codes "ask " ++ back) rest (after_from (codes "ask ") SpellsAsk (commands.Ask session query) back (record {
      first = session;
      front = decimal session ++ space ∷ [];
      back = question ++ line_end ∷ [];
      parts = refl;
      reads = record { good = h.0; shown = refl };
      goes_on = record { from = query; reads = record { question = question; spells = h.2; shown = refl }; is = refl };
    }))
command_again at commands.Sync text rest h =
    ap (starts at rest) h ∙ command_sync at (codes "ync\n" ++ rest)
    ∙ (one_reader (codes "sync\n") commands.Sync refl).again commands.Sync (codes "sync\n") rest (record { from = tt; reads = refl; is = refl })
command_again at (commands.Run fuel calls draws) text rest h =
    let json = h.1 in
    let back = (decimal fuel ++ space ∷ []) ++ (json ++ line_end ∷ []) in
    let parts : text ≡ codes "run " ++ back = h.4 ∙ ap (λ (b : List ℕ). codes "run " ++ b) (sym (joined (decimal fuel) json [] space line_end)) in
    ap (starts at rest) parts ∙ command_run at (codes "un " ++ back ++ rest)
    ∙ run_reader.again (commands.Run fuel calls draws) (codes "run " ++ back) rest (after_from (codes "run ") SpellsStart (commands.Run fuel calls draws) back (record {
      first = fuel;
      front = decimal fuel ++ space ∷ [];
      back = json ++ line_end ∷ [];
      parts = refl;
      reads = record { good = h.0; shown = refl };
      goes_on = record { from = (calls, draws); reads = run_to json (calls, draws) h.2 h.3; is = refl };
    }))
command_again at commands.End text rest h =
    ap (starts at rest) h ∙ command_end at (codes "nd\n" ++ rest)
    ∙ (one_reader (codes "end\n") commands.End refl).again commands.End (codes "end\n") rest (record { from = tt; reads = refl; is = refl })

-- ---- what is read is spelled

-- where a text has no end yet
pub record WaitsText (at : ℕ) (bytes : List ℕ) (until : ℕ) : Type 0 where
  pub front : IsFrontOf (SpelledAt at) bytes
  pub before : at + length bytes < until
  pub ends : (more : List ℕ) (c : Command) → Spells at (bytes ++ more) c → at + length (bytes ++ more) ≡ until

-- however the command ends, it ends there
put_ends : (at : ℕ) (bytes back line : List ℕ) (h : List ℕ × ℕ) (until : ℕ) → header_at bytes ≡ Ok (h, back) → bytes ≡ put_line h.0 h.1 ++ back → until ≡ at + (length bytes - length back) + h.1 + 1
    → (more : List ℕ) (c : Command) → Spells at (bytes ++ more) c → at + length (bytes ++ more) ≡ until
put_ends at bytes back line h until read parts is more c spells =
    let whole = bytes ++ more in
    let after = back ++ more in
    let longer : whole ≡ put_line h.0 h.1 ++ after = ap (λ (b : List ℕ). b ++ more) parts ∙ append_assoc (put_line h.0 h.1) back more in
    let from = at + (length whole - length after) in
    let put : put_at at whole ≡ Ok (c, []) =
    ap (put_at at) longer ∙ sym (command_put at (drop 1 (put_line h.0 h.1 ++ after))) ∙ ap (command_at at) (sym longer ∙ sym (append-nil whole)) ∙ command_again at c whole [] spells in
    let b : body_at at (length whole) h after ≡ Ok (c, []) =
    sym (bind_at (header_at whole) (λ p. body_at at (length whole) p.0 p.1) (h, after) (body_at at (length whole) h after) (kept SpellsHeader never waits_never header_at header_reader bytes h back more read) refl) ∙ sym (put_same at whole) ∙ put in
    let g = bind_ok (text_at h.1 from after) (λ x. gives (commands.Put h.0 from h.1) x) (c, []) b in
    let s = pair_is (commands.Put h.0 from h.1) c g.0 [] g.2 in
    let x = text_ok h.1 from after g.0 g.1 in
    omega (arith, is, ap length parts ∙ length-append (put_line h.0 h.1) back, length-append bytes more, length-append back more, ap length x.2 ∙ length-append x.0 (line_end ∷ g.0), x.1, ap length s.1)

filled : (bytes line back zeros : List ℕ) → bytes ≡ line ++ back → bytes ++ (zeros ++ line_end ∷ []) ≡ (line ++ (back ++ zeros)) ++ line_end ∷ []
filled bytes line back zeros e = ap (λ (b : List ℕ). b ++ (zeros ++ line_end ∷ [])) e ∙ simp append_assoc

put_waits : (at : ℕ) (bytes : List ℕ) (until : ℕ) → put_at at bytes ≡ Err (Text until) → WaitsText at bytes until
put_waits at bytes until e =
    elim (bind_err (header_at bytes) (λ p. body_at at (length bytes) p.0 p.1) (Text until) (sym (put_same at bytes) ∙ e)) [
      | inl here ↦ absurd (header_reader.sound.waits bytes until here)
      | inr later ↦ (
          let h = later.0.0 in
          let back = later.0.1 in
          let t = header_reader.sound.takes bytes h back later.1 in
          let line = put_line h.0 h.1 in
          let parts : bytes ≡ line ++ back = t.2 ∙ ap (λ (l : List ℕ). l ++ back) t.1.shown in
          let from = at + (length bytes - length back) in
          let w = text_waits h.1 from back until (body_err (text_at h.1 from back) (commands.Put h.0 from h.1) (Text until) later.2) in
          let zeros : List ℕ = replicate (h.1 - length back) 0 in
          let body = back ++ zeros in
          let zeros_len : length zeros ≡ h.1 - length back = length-replicate {A = ℕ} (h.1 - length back) 0 in
          let full_len : length body ≡ h.1 = omega (arith, length-append back zeros, zeros_len, w.0) in
          record {
            front = record {
              more = zeros ++ line_end ∷ [];
              value = commands.Put h.0 (at + length line) h.1;
              proper = omega (arith, length-append zeros (line_end ∷ []));
              spells = subst (SpelledAt at (commands.Put h.0 (at + length line) h.1)) (sym (filled bytes line back zeros parts)) (put_ended at h line body (record { path = t.1.path; len = t.1.len; shown = refl }) full_len);
            };
            before = omega (arith, w.1, w.0, ap length parts ∙ length-append line back);
            ends = put_ends at bytes back line h until later.1 parts w.1;
          })
    ]

put_sound : (at : ℕ) → IsSound (SpelledAt at) IsOpen (WaitsText at) (put_at at)
put_sound at = record {
  takes = put_takes at;
  stays = put_stays at;
  completes = λ bytes e. put_front at bytes (header_reader.sound.completes bytes (put_line_waits at bytes e));
  inline = λ bytes e. header_reader.sound.inline bytes (put_line_waits at bytes e);
  waits = put_waits at;
}

no_text : (at : ℕ) (bytes : List ℕ) (until : ℕ) → ⊥ → WaitsText at bytes until
no_text at bytes until bad = absurd bad

not_open : (bytes : List ℕ) → ⊥ → IsOpen bytes
not_open bytes bad = absurd bad

command_choice : (at b : ℕ) → Chooses (SpelledAt at) IsOpen (WaitsText at) (command_at at) b
command_choice at b =
    by_byte (SpelledAt at) IsOpen (WaitsText at) (command_at at) (put_at at) b 112 (put_sound at) (command_put at)
    (λ p. by_byte (SpelledAt at) IsOpen (WaitsText at) (command_at at) drop_at b 100
    (sound_weaker (AfterWord (codes "drop ") (Mapped SpellsPath of_path)) (SpelledAt at) (OpenAfterWord (codes "drop ") never) IsOpen waits_never (WaitsText at) drop_at (drop_spelled at) (λ bytes o. not_open bytes o.opens) (no_text at) drop_reader.sound) (command_drop at)
    (λ d. by_byte (SpelledAt at) IsOpen (WaitsText at) (command_at at) ask_at b 97
    (sound_weaker (AfterWord (codes "ask ") SpellsAsk) (SpelledAt at) (OpenAfterWord (codes "ask ") OpensAsk) IsOpen waits_never (WaitsText at) ask_at (ask_spelled at) (λ bytes o. inl (ask_open bytes o)) (no_text at) ask_reader.sound) (command_ask at)
    (λ a. by_byte (SpelledAt at) IsOpen (WaitsText at) (command_at at) (one_word (codes "sync\n") commands.Sync) b 115
    (sound_weaker (OneWord (codes "sync\n") commands.Sync) (SpelledAt at) never IsOpen waits_never (WaitsText at) (one_word (codes "sync\n") commands.Sync) (sync_spelled at) not_open (no_text at) (one_reader (codes "sync\n") commands.Sync refl).sound) (command_sync at)
    (λ s. by_byte (SpelledAt at) IsOpen (WaitsText at) (command_at at) run_at b 114
    (sound_weaker (AfterWord (codes "run ") SpellsStart) (SpelledAt at) (OpenAfterWord (codes "run ") OpensStart) IsOpen waits_never (WaitsText at) run_at (run_spelled at) (λ bytes o. inr (run_open bytes o)) (no_text at) run_reader.sound) (command_run at)
    (λ r. by_byte (SpelledAt at) IsOpen (WaitsText at) (command_at at) (one_word (codes "end\n") commands.End) b 101
    (sound_weaker (OneWord (codes "end\n") commands.End) (SpelledAt at) never IsOpen waits_never (WaitsText at) (one_word (codes "end\n") commands.End) (end_spelled at) not_open (no_text at) (one_reader (codes "end\n") commands.End refl).sound) (command_end at)
    (λ e. record { reads = refuse; sound = refuse_sound (SpelledAt at) IsOpen (WaitsText at); same = λ bytes. command_none at b bytes p d a s r e }))))))

pub command_sound : (at : ℕ) → IsSound (SpelledAt at) IsOpen (WaitsText at) (command_at at)
command_sound at = chosen_sound (SpelledAt at) IsOpen (WaitsText at) (command_at at) (record { more = codes "end\n"; value = commands.End; proper = omega arith; spells = refl }) (command_empty at) (command_choice at)

-- ---- the laws that the contracts cite

-- both texts are read at the front of the same bytes
pub one_reading : (at : ℕ) (a b x y : List ℕ) (c d : Command) → Spells at a c → Spells at b d → a ++ x ≡ b ++ y → (a ≡ b) × (c ≡ d)
one_reading at a b x y c d one two e =
    let same = pair_is c d x y (sym (command_again at c a x one) ∙ ap (command_at at) e ∙ command_again at d b y two) in
    (append_cancel_right a b x (e ∙ ap (λ (r : List ℕ). b ++ r) (sym same.1)), same.0)

pub begins : (at : ℕ) (bytes : List ℕ) (c : Command) (rest : List ℕ) → command_at at bytes ≡ Ok (c, rest) → BeginsWith at bytes c rest
begins at bytes c rest e = let t = (command_sound at).takes bytes c rest e in record { text = t.0; spells = t.1; parts = t.2 }

pub begun : (at : ℕ) (bytes : List ℕ) (c : Command) (rest : List ℕ) → BeginsWith at bytes c rest → command_at at bytes ≡ Ok (c, rest)
begun at bytes c rest b = ap (command_at at) b.parts ∙ command_again at c b.text rest b.spells

-- a front of a command isn't refused, and no whole command
front_is : (at : ℕ) (bytes : List ℕ) → IsFrontOf (SpelledAt at) bytes → IsFront at bytes
front_is at bytes f = record { more = f.more; command = f.value; proper = f.proper; spells = f.spells }

pub refused_stays : (at : ℕ) (bytes more : List ℕ) → command_at at bytes ≡ Err Malformed → command_at at (bytes ++ more) ≡ Err Malformed
refused_stays at = (command_sound at).stays

unfinished_by : (at : ℕ) (bytes : List ℕ) → IsFrontOf (SpelledAt at) bytes ⊎ IsOpen bytes → IsUnfinished at bytes
unfinished_by at bytes (inl f) = inl (front_is at bytes f)
unfinished_by at bytes (inr (inl o)) = inr (inl o)
unfinished_by at bytes (inr (inr o)) = inr (inr o)

pub line_unfinished : (at : ℕ) (bytes : List ℕ) → command_at at bytes ≡ Err Line → IsUnfinished at bytes
line_unfinished at bytes e = unfinished_by at bytes ((command_sound at).completes bytes e)

pub line_inline : (at : ℕ) (bytes : List ℕ) → command_at at bytes ≡ Err Line → IsInline bytes
line_inline at = (command_sound at).inline

pub text_unfinished : (at : ℕ) (bytes : List ℕ) (until : ℕ) → command_at at bytes ≡ Err (Text until) → IsUnfinished at bytes
text_unfinished at bytes until e = inl (front_is at bytes ((command_sound at).waits bytes until e).front)

-- ---- what is unfinished is waited for

name_line : (at : ℕ) (bytes : List ℕ) → IsOpenName bytes → command_at at bytes ≡ Err Line
name_line at bytes o =
    let question = codes "model " ++ o.name in
    let back = decimal o.session ++ space ∷ question in
    let parts : bytes ≡ codes "ask " ++ back = o.parts ∙ simp append_assoc in
    let asks : query_at question ≡ Err Line = model_line_open o.name o.line in
    ap (command_at at) parts ∙ command_ask at (codes "sk " ++ back) ∙ ask_same (codes "ask " ++ back)
    ∙ bind_at (word_at (codes "ask ") (codes "ask " ++ back)) ask_rest back (Err Line) (word_again (codes "ask ") back)
    (bind_at (number_at 1 16 space back) (λ p. mapped query_at (asked p.0) p.1) (o.session, question) (Err Line)
    (number_again 1 16 o.session space question (omega (arith, o.within.1)) o.within refl)
    (ap (λ (q : Result (Query × List ℕ) Fault). q >>= λ p. gives (asked o.session p.0) p.1) asks))

json_line : (at : ℕ) (bytes : List ℕ) → IsOpenJson bytes → command_at at bytes ≡ Err Line
json_line at bytes o =
    let back = decimal o.fuel ++ space ∷ o.json in
    let parts : bytes ≡ codes "run " ++ back = o.parts ∙ simp append_assoc in
    ap (command_at at) parts ∙ command_run at (codes "un " ++ back) ∙ run_same (codes "run " ++ back)
    ∙ bind_at (word_at (codes "run ") (codes "run " ++ back)) run_rest back (Err Line) (word_again (codes "run ") back)
    (bind_at (number_at 1 1000000 space back) (λ p. mapped json_at (started p.0) p.1) (o.fuel, o.json) (Err Line)
    (number_again 1 1000000 o.fuel space o.json (omega (arith, o.within.1)) o.within refl)
    (ap (λ (q : Result ((List Entry × List Plain) × List ℕ) Fault). q >>= λ p. gives (started o.fuel p.0) p.1) (json_open o.json o.line)))

abbrev whole : Command × List ℕ → Result (Command × List ℕ) Fault
whole p = Ok p

ok_refused : (p : Command × List ℕ) → whole p ≡ Err Malformed → ⊥
ok_refused p e = absurd cc

abbrev pub Stops : Result (Command × List ℕ) Fault → Type 0
Stops o = (o ≡ Err Line) ⊎ ((until : ℕ) × (o ≡ Err (Text until)))

-- no proper front of a command is read, nor refused
front_stops : (at : ℕ) (bytes : List ℕ) (f : IsFront at bytes) (o : Result (Command × List ℕ) Fault) → command_at at bytes ≡ o → Stops o
front_stops at bytes f (Ok p) e =
    let whole : command_at at (bytes ++ f.more) ≡ Ok (f.command, []) = ap (command_at at) (sym (append-nil (bytes ++ f.more))) ∙ command_again at f.command (bytes ++ f.more) [] f.spells in
    let t = (command_sound at).takes bytes p.0 p.1 e in
    let longer : command_at at (bytes ++ f.more) ≡ Ok (p.0, p.1 ++ f.more) = ap (command_at at) (ap (λ (b : List ℕ). b ++ f.more) t.2 ∙ append_assoc t.0 p.1 f.more) ∙ command_again at p.0 t.0 (p.1 ++ f.more) t.1 in
    let same = pair_is p.0 f.command (p.1 ++ f.more) [] (sym longer ∙ whole) in
    absurd (omega (arith, f.proper, ap length same.1, length-append p.1 f.more))
front_stops at bytes f (Err Line) e = inl refl
front_stops at bytes f (Err (Text until)) e = inr (until, refl)
front_stops at bytes f (Err Malformed) e =
    let whole : command_at at (bytes ++ f.more) ≡ Ok (f.command, []) = ap (command_at at) (sym (append-nil (bytes ++ f.more))) ∙ command_again at f.command (bytes ++ f.more) [] f.spells in
    absurd (ok_refused (f.command, []) (sym whole ∙ refused_stays at bytes f.more e))

pub unfinished_stops : (at : ℕ) (bytes : List ℕ) → IsUnfinished at bytes → Stops (command_at at bytes)
unfinished_stops at bytes (inl f) = front_stops at bytes f (command_at at bytes) refl
unfinished_stops at bytes (inr (inl o)) = inl (name_line at bytes o)
unfinished_stops at bytes (inr (inr o)) = inl (json_line at bytes o)

abbrev faulty : Fault → Result (Command × List ℕ) Fault
faulty d = Err d

-- the fault that a stop has
pub stopped : (s : Stop) (f g : Fault) (read : Result (Command × List ℕ) Fault) → s ≡ stops.Fault f → f ≡ g → Fails s read → read ≡ Err g
stopped s f g read is same h =
    let fails : Fails (stops.Fault f) read = subst (λ s. Fails s read) is h in
    fails ∙ ap (λ (d : Fault). faulty d) same

-- ---- the clauses of `next_command`, over what reading gives

abbrev pub answer : Next → ℕ → Result (Next × ℕ) CommandError
answer x place = Ok (x, place)

abbrev pub refusal : CommandError → Result (Next × ℕ) CommandError
refusal e = Err e

abbrev placed : Next → ℕ → Next × ℕ
placed x place = (x, place)

abbrev given : Next × ℕ → Result (Next × ℕ) CommandError
given p = Ok p

given_is : (p q : Next × ℕ) → given p ≡ given q → p ≡ q
given_is p q e = cc

answer_is : (x y : Next) (m n : ℕ) → answer x m ≡ answer y n → (x ≡ y) × (m ≡ n)
answer_is x y m n e = let same = given_is (placed x m) (placed y n) e in (ap (λ p. p.0) same, ap (λ p. p.1) same)

answer_refused : (x : Next) (place : ℕ) (d : CommandError) → answer x place ≡ refusal d → ⊥
answer_refused x place d e = absurd cc

command_is : (c d : Command) → next.Command c ≡ next.Command d → c ≡ d
command_is c d e = cc

need_is : (w v : Wait) → next.Need w ≡ next.Need v → w ≡ v
need_is w v e = cc

pub malformed_is : (m n : ℕ) → refusal (errors.Malformed m) ≡ refusal (errors.Malformed n) → m ≡ n
malformed_is m n e = cc

pub ok_fault : (p : Command × List ℕ) (d : Fault) → whole p ≡ faulty d → ⊥
ok_fault p d e = absurd cc

-- what is read begins the bytes, and its place is behind it
pub found : (at : ℕ) (bytes : List ℕ) (c : Command) (rest : List ℕ) → command_at at (drop at bytes) ≡ Ok (c, rest)
    → (command : Command) (after : ℕ) → answer (next.Command c) (length bytes - length rest) ≡ answer (next.Command command) after → (after ≤ length bytes) × BeginsWith at (drop at bytes) command (drop after bytes)
found at bytes c rest read command after e =
    let same = answer_is (next.Command c) (next.Command command) (length bytes - length rest) after e in
    let b = begins at (drop at bytes) c rest read in
    let front : bytes ≡ (take at bytes ++ b.text) ++ rest = sym (take-append-drop at bytes) ∙ ap (λ (x : List ℕ). take at bytes ++ x) b.parts ∙ sym (append_assoc (take at bytes) b.text rest) in
    let behind : drop after bytes ≡ rest = ap (λ (n : ℕ). drop n bytes) (sym same.1) ∙ end_rest bytes rest (take at bytes ++ b.text) front in
    let is : Spells at b.text command = subst (λ c. Spells at b.text c) (command_is c command same.0) b.spells in
    (omega (arith, same.1), record { text = b.text; spells = is; parts = b.parts ∙ ap (λ (r : List ℕ). b.text ++ r) (sym behind) })

pub only : (at : ℕ) (bytes : List ℕ) (len : ℕ) (c : Command) (rest : List ℕ) → command_at at bytes ≡ Ok (c, rest)
    → (command : Command) (after : List ℕ) → BeginsWith at bytes command after → answer (next.Command c) (len - length rest) ≡ answer (next.Command command) (len - length after)
only at bytes len c rest read command after b =
    let same = pair_is c command rest after (sym read ∙ begun at bytes command after b) in
    ap (λ (x : Command). answer (next.Command x) (len - length rest)) same.0 ∙ ap (λ (r : List ℕ). answer (next.Command command) (len - length r)) same.1

-- no command begins where reading stops
pub none_begins : (at : ℕ) (bytes : List ℕ) (d : Fault) → command_at at bytes ≡ Err d → BeginsNone at bytes
none_begins at bytes d e command rest b = ok_fault (command, rest) d (sym (begun at bytes command rest b) ∙ e)

-- and nothing is unfinished where it doesn't
pub read_finished : (at : ℕ) (bytes : List ℕ) (p : Command × List ℕ) → command_at at bytes ≡ Ok p → IsUnfinished at bytes → ⊥
read_finished at bytes p e u =
    elim (unfinished_stops at bytes u) [
      | inl line ↦ ok_fault p Line (sym e ∙ line)
      | inr text ↦ ok_fault p (Text text.0) (sym e ∙ text.1)
    ]

pub refused_finished : (at : ℕ) (bytes : List ℕ) → command_at at bytes ≡ Err Malformed → IsUnfinished at bytes → ⊥
refused_finished at bytes e u =
    elim (unfinished_stops at bytes u) [
      | inl line ↦ (let bad : faulty Line ≡ faulty Malformed = sym line ∙ e in absurd (cc (bad)))
      | inr text ↦ (let bad : faulty (Text text.0) ≡ faulty Malformed = sym text.1 ∙ e in absurd (cc (bad)))
    ]

-- what is said where one waits, and where one may not
pub record Waited (at : ℕ) (ended : Bool) (w : Wait) (result : Result (Next × ℕ) CommandError) : Type 0 where
  pub more : ended ≡ false → result ≡ answer (next.Need w) at
  pub over : ended ≡ true → result ≡ refusal (errors.Malformed at)

pub waited_need : (at : ℕ) (bytes : List ℕ) (ended : Bool) (w : Wait) (result : Result (Next × ℕ) CommandError) → Waited at ended w result → IsUnfinished at bytes → WaitsWell at bytes w
    → (wait : Wait) (after : ℕ) → result ≡ answer (next.Need wait) after → IsUnfinished at bytes × (ended ≡ false) × (after ≡ at) × WaitsWell at bytes wait
waited_need at bytes ended w result said unfinished well wait after e =
    elim (cases_Bool ended) [
      | inl over ↦ absurd (answer_refused (next.Need wait) after (errors.Malformed at) (sym e ∙ said.over over))
      | inr not_yet ↦ (
          let same = answer_is (next.Need w) (next.Need wait) at after (sym (said.more not_yet) ∙ e) in
          (unfinished, not_yet, sym same.1, subst (WaitsWell at bytes) (need_is w wait same.0) well))
    ]

pub waited_malformed : (at : ℕ) (bytes : List ℕ) (ended : Bool) (w : Wait) (result : Result (Next × ℕ) CommandError) → Waited at ended w result → BeginsNone at bytes
    → (place : ℕ) → result ≡ refusal (errors.Malformed place) → (place ≡ at) × BeginsNone at bytes × (ended ≡ false → IsUnfinished at bytes → ⊥)
waited_malformed at bytes ended w result said none place e =
    elim (cases_Bool ended) [
      | inl over ↦ (malformed_is place at (sym e ∙ said.over over), none, λ no_end u. absurd (cc (over, no_end)))
      | inr not_yet ↦ absurd (answer_refused (next.Need w) at (errors.Malformed place) (sym (said.more not_yet) ∙ e))
    ]

-- the place where a line has no end yet
pub line_waits : (at : ℕ) (bytes : List ℕ) → at ≤ length bytes → command_at at (drop at bytes) ≡ Err Line → WaitsWell at (drop at bytes) (wait.Line (length bytes) (at + longest (drop at bytes) + 1))
line_waits at bytes within e = (omega (arith, length-drop at bytes), line_inline at (drop at bytes) e, refl, too_long at (drop at bytes))

pub text_waits_well : (at : ℕ) (bytes : List ℕ) (until : ℕ) → command_at at bytes ≡ Err (Text until) → WaitsWell at bytes (wait.Text until)
text_waits_well at bytes until e = let w = (command_sound at).waits bytes until e in (w.before, w.ends)
