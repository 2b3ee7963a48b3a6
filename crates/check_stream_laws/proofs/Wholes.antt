-- Of one input there is one check.
use Rattle.std.proofs.Common.{◌≡◌, ℕ, ◌+◌, ◌-◌, ◌<◌, ◌≤◌, List, [], ◌∷◌, ◌++◌, length, ◌⊎◌, inl, inr, sym, ap, subst, ◌∙◌, append_assoc, append-nil, length-append, arith}
use Rattle.std.specs.List.{concat}
use Rattle.std.proofs.lemmas.List.{append_cancel_left}
use Rattle.std.proofs.lemmas.List.Folds.{concat-append}
use Rattle.rv_names.specs.Keys.{Bytes}
use Rattle.script.specs.declared.command.Command.{Command}
use Rattle.script.specs.declared.command.Command.TheVariants as commands
use Rattle.script.specs.Stream.{BeginsWith}
use Rattle.stream.specs.Commands.{SpellEach, Commands}
use Rattle.stream.specs.State.{input_limit}
use Rattle.stream.proofs.Rows.{same_row}
use Rattle.check_stream.specs.Progress.{Progress, at_first}
use Rattle.check_stream.specs.Acts.{Acts, Said}
use Rattle.check_stream.specs.Checks.{Whole}
use Rattle.check_stream_laws.proofs.Counts.{alike-report}
use Rattle.check_stream_laws.proofs.Sayings.{agree-itself, same-said}
use Rattle.check_stream_laws.proofs.Endings.{ClosesAs, by_report, by_none, by_question, EndsAs, is_closed, is_not_taken, is_malformed, is_unread, is_too_long, ends-as, one-command, begins-other, same-ending, IsRun}

-- ---- what was acted on

record Acted (text : Bytes) (c : Command) : Type 0 where
  before : Progress
  line : Bytes
  come_to : Progress
  act : Acts before text c line come_to

acted : (ts us : List Bytes) (cs ds : List Command) (t : Bytes) (d : Command) (before come_to : Progress) (lines : Bytes) → SpellEach ts cs → Said before (cs ++ d ∷ ds) (ts ++ t ∷ us) lines come_to → Acted t d
acted [] us [] ds t d before come_to lines s (line, now, more, act, rest, e) = record { before = before; line = line; come_to = now; act = act }
acted [] us (c ∷ cs) ds t d before come_to lines s said = absurd s
acted (u ∷ ts) us [] ds t d before come_to lines s said = absurd s
acted (u ∷ ts) us (c ∷ cs) ds t d before come_to lines s (line, now, more, act, rest, e) = acted ts us cs ds t d now come_to more s.1 rest

acted-no-run : (text : Bytes) (c : Command) → Acted text c → IsRun c → ⊥
acted-no-run text (commands.Run fuel calls draws) a h = a.act
acted-no-run text (commands.Put path from len) a h = h
acted-no-run text (commands.Drop path) a h = h
acted-no-run text (commands.Ask session query) a h = h
acted-no-run text commands.Sync a h = h
acted-no-run text commands.End a h = h

acted-open : (text : Bytes) (c : Command) (p : Progress) (last : Bytes) (status : ℕ) → Acted text c → ClosesAs p c last status → ⊥
acted-open text c p last status a (by_report r e i l s) = let b = subst (λ (x : Command). Acted text x) e a in b.act
acted-open text c p last status a (by_none e i l s) = let b = subst (λ (x : Command). Acted text x) e a in b.act
acted-open text c p last status a (by_question session query e l s) = let b = subst (λ (x : Command). Acted text x) e a in b.act

-- ---- rows

behind-row : (ts us : List Bytes) (cs ds : List Command) → SpellEach ts cs → SpellEach (ts ++ us) (cs ++ ds) → SpellEach us ds
behind-row [] us [] ds s h = h
behind-row [] us (c ∷ cs) ds s h = absurd s
behind-row (t ∷ ts) us [] ds s h = absurd s
behind-row (t ∷ ts) us (c ∷ cs) ds s h = behind-row ts us cs ds s.1 h.1

less-or : (xs ys : List Bytes) → (length xs ≤ length ys) ⊎ (length ys ≤ length xs)
less-or [] ys = inl (omega arith)
less-or (x ∷ xs) [] = inr (omega arith)
less-or (x ∷ xs) (y ∷ ys) = by (less-or xs ys)
  where
    by : (length xs ≤ length ys) ⊎ (length ys ≤ length xs) → (length (x ∷ xs) ≤ length (y ∷ ys)) ⊎ (length (y ∷ ys) ≤ length (x ∷ xs))
    by (inl h) = inl (omega arith)
    by (inr h) = inr (omega arith)

-- what is left of a shorter row
left-of : (input rest left : Bytes) (ts us : List Bytes) → input ≡ concat ts ++ rest → input ≡ concat (ts ++ us) ++ left → rest ≡ concat us ++ left
left-of input rest left ts us e f =
    append_cancel_left (concat ts) rest (concat us ++ left) (sym e ∙ f ∙ ap (λ (x : Bytes). x ++ left) (concat-append ts us) ∙ append_assoc (concat ts) (concat us) left)

module _ (input : Bytes) (over failed : Type 0) (whole : failed → ⊥) (short : length input < input_limit) where
  Place : Bytes → ℕ
  Place rest = length input - length rest

  in-limit : (ts : List Bytes) (rest : Bytes) → input ≡ concat ts ++ rest → Place rest + length rest ≡ length input
  unfolding Place
  in-limit ts rest e = let n = ap length e ∙ length-append (concat ts) rest in omega arith

  -- no check ends where another goes on
  no-further : (ts us : List Bytes) (cs ds : List Command) (t : Bytes) (d : Command) (rest left lines last : Bytes) (status : ℕ) (p q : Progress)
      → Commands input ts cs rest → EndsAs (Place rest) over failed p rest last status → Commands input (ts ++ t ∷ us) (cs ++ d ∷ ds) left → Said at_first (cs ++ d ∷ ds) (ts ++ t ∷ us) lines q → ⊥
  no-further ts us cs ds t d rest left lines last status p q a ends b said = by ends
    where
      did : Acted t d
      did = acted ts us cs ds t d at_first q lines a.spelled said

      behind : Bytes
      behind = concat us ++ left

      begins : BeginsWith 0 rest d behind
      begins = record {
        text = t;
        spells = (behind-row ts (t ∷ us) cs (d ∷ ds) a.spelled b.spelled).0;
        parts = left-of input rest left ts (t ∷ us) a.parts b.parts ∙ append_assoc t (concat us) left;
      }

      by : EndsAs (Place rest) over failed p rest last status → ⊥
      by (is_closed c other f k) = acted-open t d p last status did (subst (λ (x : Command). ClosesAs p x last status) (one-command rest other behind c d f begins) k)
      by (is_not_taken more e l s) = begins-other rest behind more d (acted-no-run t d did) begins e
      by (is_malformed n l s) = n d behind begins
      by (is_unread f) = whole f
      by (is_too_long e) = let n = in-limit ts rest a.parts in omega arith

  -- two readings with one row
  same-end : (ts : List Bytes) (cs : List Command) (rest left lines others last end : Bytes) (m n : ℕ) (p q : Progress) → Commands input ts cs rest → Commands input ts cs left
      → Said at_first cs ts lines p → Said at_first cs ts others q → EndsAs (Place rest) over failed p rest last m → EndsAs (Place left) over failed q left end n → (lines ++ last ≡ others ++ end) × (m ≡ n)
  same-end ts cs rest left lines others last end m n p q a b said told x y =
      let (same, agree) = same-said at_first at_first cs ts lines others p q (agree-itself at_first) said told in
      let tails : rest ≡ left = append_cancel_left (concat ts) rest left (sym a.parts ∙ b.parts) in
      let z : EndsAs (Place rest) over failed q rest end n = subst (λ (w : Bytes). EndsAs (Place w) over failed q w end n) (sym tails) y in
      let room = in-limit ts rest a.parts in
      let e = same-ending p q (alike-report p.journal.files q.journal.files agree.files) agree.refusals (Place rest) over failed rest whole (subst (λ (k : ℕ). k < input_limit) (sym room) short) last end m n x z in
      (ap (λ (w : Bytes). w ++ last) same ∙ ap (λ (w : Bytes). others ++ w) e.0, e.1)

  -- the shorter of two, and the longer, by what is behind the shorter
  by-rest : (ts us : List Bytes) (cs ds : List Command) (rest left lines others last end : Bytes) (m n : ℕ) (p q : Progress) → Commands input ts cs rest → Commands input (ts ++ us) (cs ++ ds) left
      → Said at_first cs ts lines p → Said at_first (cs ++ ds) (ts ++ us) others q → EndsAs (Place rest) over failed p rest last m → EndsAs (Place left) over failed q left end n → (lines ++ last ≡ others ++ end) × (m ≡ n)
  by-rest ts [] cs [] rest left lines others last end m n p q a b said told x y =
      let t = append-nil ts in
      let c = append-nil cs in
      let b' : Commands input ts cs left = subst (λ k. Commands input k cs left) t (subst (λ k. Commands input (ts ++ []) k left) c b) in
      let told' : Said at_first cs ts others q = subst (λ k. Said at_first cs k others q) t (subst (λ k. Said at_first k (ts ++ []) others q) c told) in
      same-end ts cs rest left lines others last end m n p q a b' said told' x y
  by-rest ts [] cs (d ∷ ds) rest left lines others last end m n p q a b said told x y = absurd (behind-row ts [] cs (d ∷ ds) a.spelled b.spelled)
  by-rest ts (t ∷ us) cs [] rest left lines others last end m n p q a b said told x y = absurd (behind-row ts (t ∷ us) cs [] a.spelled b.spelled)
  by-rest ts (t ∷ us) cs (d ∷ ds) rest left lines others last end m n p q a b said told x y = absurd (no-further ts us cs ds t d rest left others last m p q a x b told)

  longer : (ts us : List Bytes) (cs ds : List Command) (rest left lines others last end : Bytes) (m n : ℕ) (p q : Progress) → length ts ≤ length us → Commands input ts cs rest → Commands input us ds left
      → Said at_first cs ts lines p → Said at_first ds us others q → EndsAs (Place rest) over failed p rest last m → EndsAs (Place left) over failed q left end n → (lines ++ last ≡ others ++ end) × (m ≡ n)
  longer ts us cs ds rest left lines others last end m n p q le a b said told x y =
      let (more, further, t, c) = same_row input rest left ts us cs ds a b le in
      let b' : Commands input (ts ++ more) (cs ++ further) left = subst (λ k. Commands input k (cs ++ further) left) t (subst (λ k. Commands input us k left) c b) in
      let told' : Said at_first (cs ++ further) (ts ++ more) others q = subst (λ k. Said at_first (cs ++ further) k others q) t (subst (λ k. Said at_first k us others q) c told) in
      by-rest ts more cs further rest left lines others last end m n p q a b' said told' x y

  pub one_check : (m n : ℕ) (out put : Bytes) → Whole m input out over failed → Whole n input put over failed → (m ≡ n) × (out ≡ put)
  unfolding Place
  one_check m n out put a b = by (less-or a.came.texts b.came.texts)
    where
      x : EndsAs (Place a.rest) over failed a.progress a.rest a.last m
      x = ends-as (Place a.rest) over failed a.progress a.rest a.last m a.ends

      y : EndsAs (Place b.rest) over failed b.progress b.rest b.last n
      y = ends-as (Place b.rest) over failed b.progress b.rest b.last n b.ends

      by : (length a.came.texts ≤ length b.came.texts) ⊎ (length b.came.texts ≤ length a.came.texts) → (m ≡ n) × (out ≡ put)
      by (inl le) =
          let h = longer a.came.texts b.came.texts a.came.commands b.came.commands a.rest b.rest a.lines b.lines a.last b.last m n a.progress b.progress le a.came.read b.came.read a.came.said b.came.said x y in
          (h.1, a.out_is ∙ h.0 ∙ sym b.out_is)
      by (inr le) =
          let h = longer b.came.texts a.came.texts b.came.commands a.came.commands b.rest a.rest b.lines a.lines b.last a.last n m b.progress a.progress le b.came.read a.came.read b.came.said a.came.said y x in
          (sym h.1, a.out_is ∙ sym h.0 ∙ sym b.out_is)
