-- Of one progress and one rest there is one ending.
use Rattle.std.proofs.Common.{◌≡◌, ◌+◌, ◌<◌, ℕ, Bool, ◌∷◌, ◌++◌, length, Some, None, refl, sym, ap, subst, ◌∙◌, arith}
use Rattle.rv_names.specs.Keys.{Bytes}
use Rattle.script.specs.declared.command.Command.{Command}
use Rattle.script.specs.declared.command.Command.TheVariants as commands
use Rattle.script.specs.declared.command.Query.{Query}
use Rattle.script.specs.Grammar.{Spells}
use Rattle.script.specs.Stream.{BeginsWith, BeginsNone}
use Rattle.script.proofs.Pieces.{one_reading}
use Rattle.stream.specs.State.{input_limit}
use Rattle.cut_form.specs.Reports.{ReportParts, report_of}
use Rattle.edit_lines.specs.Lines.{malformed_line, not_yet_line}
use Rattle.check_stream.specs.Progress.{Progress}
use Rattle.check_stream.specs.Ends.{answer_status, Closes, answered, unanswered, asked, run_byte, Ends, closed, not_taken, malformed, unread, too_long}

-- ---- one command

pub one-command : (rest behind other : Bytes) (c d : Command) → BeginsWith 0 rest c behind → BeginsWith 0 rest d other → c ≡ d
one-command rest behind other c d a b = (one_reading 0 a.text b.text behind other c d a.spells b.spells (sym a.parts ∙ b.parts)).1

-- what closes a check, with equations
pub data ClosesAs (p : Progress) (c : Command) (last : Bytes) (status : ℕ) : Type 0 where
  by_report : (report : ReportParts) → c ≡ commands.End → report_of p.journal.files ≡ Some report → last ≡ report.lines → status ≡ answer_status p.refused report.has_issues → ClosesAs p c last status
  by_none : c ≡ commands.End → report_of p.journal.files ≡ None → last ≡ not_yet_line → status ≡ 10 → ClosesAs p c last status
  by_question : (session : ℕ) (query : Query) → c ≡ commands.Ask session query → last ≡ not_yet_line → status ≡ 10 → ClosesAs p c last status

closes-as : (p : Progress) (c : Command) (last : Bytes) (status : ℕ) → Closes p c last status → ClosesAs p c last status
closes-as p c last status (answered report e) = by_report report refl e refl refl
closes-as p c last status (unanswered e) = by_none refl e refl refl
closes-as p c last status (asked session query) = by_question session query refl refl refl

module _ (p q : Progress) (reports : report_of p.journal.files ≡ report_of q.journal.files) (refused : p.refused ≡ q.refused) where
  same-closing : (c : Command) (a b : Bytes) (m n : ℕ) → ClosesAs p c a m → ClosesAs q c b n → (a ≡ b) × (m ≡ n)
  same-closing c a b m n (by_report r i e l s) (by_report t j f k u) =
      let same : r ≡ t = cc (reports, e, f) in
      (l ∙ ap (λ (x : ReportParts). x.lines) same ∙ sym k, s ∙ ap (λ (x : Bool). answer_status x r.has_issues) refused ∙ ap (λ (x : ReportParts). answer_status q.refused x.has_issues) same ∙ sym u)
  same-closing c a b m n (by_report r i e l s) (by_none j f k u) = absurd (cc (reports, e, f))
  same-closing c a b m n (by_report r i e l s) (by_question x y j k u) = absurd (cc (i, j))
  same-closing c a b m n (by_none i e l s) (by_report t j f k u) = absurd (cc (reports, e, f))
  same-closing c a b m n (by_none i e l s) (by_none j f k u) = (l ∙ sym k, s ∙ sym u)
  same-closing c a b m n (by_none i e l s) (by_question x y j k u) = absurd (cc (i, j))
  same-closing c a b m n (by_question v w i l s) (by_report t j f k u) = absurd (cc (i, j))
  same-closing c a b m n (by_question v w i l s) (by_none j f k u) = absurd (cc (i, j))
  same-closing c a b m n (by_question v w i l s) (by_question x y j k u) = (l ∙ sym k, s ∙ sym u)

-- the first byte of a text, which isn't that of `run`
pub record IsOther (text : Bytes) : Type 0 where
  pub byte : ℕ
  pub more : Bytes
  pub is : text ≡ byte ∷ more
  pub other : byte ≡ run_byte → ⊥

abbrev pub IsRun : Command → Type 0
IsRun (commands.Run fuel calls draws) = Unit {0}
IsRun _ = ⊥

pub other-byte : (text : Bytes) (c : Command) → (IsRun c → ⊥) → Spells 0 text c → IsOther text
other-byte text (commands.Put path from len) n (a, b, c, body, d, e) = record { byte = 112; more = _; is = e; other = λ h. omega arith }
other-byte text (commands.Drop path) n (a, e) = record { byte = 100; more = _; is = e; other = λ h. omega arith }
other-byte text (commands.Ask session query) n (a, question, b, e) = record { byte = 97; more = _; is = e; other = λ h. omega arith }
other-byte text commands.Sync n e = record { byte = 115; more = _; is = e; other = λ h. omega arith }
other-byte text (commands.Run fuel calls draws) n s = absurd (n tt)
other-byte text commands.End n e = record { byte = 101; more = _; is = e; other = λ h. omega arith }

pub begins-other : (rest behind more : Bytes) (c : Command) → (IsRun c → ⊥) → BeginsWith 0 rest c behind → rest ≡ run_byte ∷ more → ⊥
begins-other rest behind more c n b e =
    let o = other-byte b.text c n b.spells in
    let first : o.byte ∷ (o.more ++ behind) ≡ run_byte ∷ more = sym (ap (λ (x : Bytes). x ++ behind) o.is) ∙ sym b.parts ∙ e in
    o.other (cc first)

closing-no-run : (p : Progress) (c : Command) (last : Bytes) (status : ℕ) → ClosesAs p c last status → IsRun c → ⊥
closing-no-run p c last status (by_report r i e l s) h = subst IsRun i h
closing-no-run p c last status (by_none i e l s) h = subst IsRun i h
closing-no-run p c last status (by_question session query i l s) h = subst IsRun i h

-- ---- endings

pub data EndsAs (place : ℕ) (over failed : Type 0) (p : Progress) (rest last : Bytes) (status : ℕ) : Type 0 where
  is_closed : (command : Command) (behind : Bytes) → BeginsWith 0 rest command behind → ClosesAs p command last status → EndsAs place over failed p rest last status
  is_not_taken : (more : Bytes) → rest ≡ run_byte ∷ more → last ≡ malformed_line place → status ≡ 3 → EndsAs place over failed p rest last status
  is_malformed : BeginsNone 0 rest → last ≡ malformed_line place → status ≡ 3 → EndsAs place over failed p rest last status
  is_unread : failed → EndsAs place over failed p rest last status
  is_too_long : place + length rest ≡ input_limit → EndsAs place over failed p rest last status

pub ends-as : (place : ℕ) (over failed : Type 0) (p : Progress) (rest last : Bytes) (status : ℕ) → Ends place over failed p rest last status → EndsAs place over failed p rest last status
ends-as place over failed p rest last status (closed command behind l s b c) = is_closed command behind b (closes-as p command l s c)
ends-as place over failed p rest last status (not_taken more e) = is_not_taken more e refl refl
ends-as place over failed p rest last status (malformed n u) = is_malformed n refl refl
ends-as place over failed p rest last status (unread f o) = is_unread f
ends-as place over failed p rest last status (too_long e o) = is_too_long e

module _ (p q : Progress) (reports : report_of p.journal.files ≡ report_of q.journal.files) (refused : p.refused ≡ q.refused) (place : ℕ) (over failed : Type 0) (rest : Bytes)
    (whole : failed → ⊥) (short : place + length rest < input_limit) where
  not-long : place + length rest ≡ input_limit → ⊥
  not-long e = omega arith

  pub same-ending : (a b : Bytes) (m n : ℕ) → EndsAs place over failed p rest a m → EndsAs place over failed q rest b n → (a ≡ b) × (m ≡ n)
  same-ending a b m n (is_closed c x f k) (is_closed d y g l) = same-closing p q reports refused c a b m n k (subst (λ (z : Command). ClosesAs q z b n) (sym (one-command rest x y c d f g)) l)
  same-ending a b m n (is_closed c x f k) (is_not_taken more e l s) = absurd (begins-other rest x more c (closing-no-run p c a m k) f e)
  same-ending a b m n (is_closed c x f k) (is_malformed g l s) = absurd (g c x f)
  same-ending a b m n (is_not_taken more e l s) (is_closed d y g k) = absurd (begins-other rest y more d (closing-no-run q d b n k) g e)
  same-ending a b m n (is_not_taken more e l s) (is_not_taken more' e' k t) = (l ∙ sym k, s ∙ sym t)
  same-ending a b m n (is_not_taken more e l s) (is_malformed g k t) = (l ∙ sym k, s ∙ sym t)
  same-ending a b m n (is_malformed f l s) (is_closed d y g k) = absurd (f d y g)
  same-ending a b m n (is_malformed f l s) (is_not_taken more e k t) = (l ∙ sym k, s ∙ sym t)
  same-ending a b m n (is_malformed f l s) (is_malformed g k t) = (l ∙ sym k, s ∙ sym t)
  same-ending a b m n (is_unread f) y = absurd (whole f)
  same-ending a b m n (is_too_long e) y = absurd (not-long e)
  same-ending a b m n x (is_unread f) = absurd (whole f)
  same-ending a b m n x (is_too_long e) = absurd (not-long e)

pub one_ending : (place : ℕ) (over failed : Type 0) (progress : Progress) (rest a b : Bytes) (m n : ℕ) → (failed → ⊥) → place + length rest < input_limit
    → Ends place over failed progress rest a m → Ends place over failed progress rest b n → (a ≡ b) × (m ≡ n)
one_ending place over failed progress rest a b m n whole short x y =
    same-ending progress progress refl refl place over failed rest whole short a b m n (ends-as place over failed progress rest a m x) (ends-as place over failed progress rest b n y)
