-- Texts of which a front was written.
use Rattle.std.proofs.Common.{◌≡◌, ◌≤◌, ℕ, [], ◌++◌, take, drop, Option, Result, Ok, Err, sym, ap, subst, ◌∙◌, inl, inr, append_assoc, append-nil, take-append-drop}
use Rattle.std.specs.Prelude.{OnErr}
use Rattle.std.specs.Io.KnownBytes.{Appends}
use Rattle.std.proofs.KnownBytes.{Appends-trans}
use Rattle.rv_names.specs.Keys.{Bytes}
use Rattle.rv_io.specs.Counts.{Rises}
use Rattle.rv_io.proofs.Steps.{Rises-later}
use Rattle.check_stream.specs.Sends.{Sends, Writes, Breaks}

-- so many bytes were written, and then the sink failed
pub broke_after : (k m : Option Bytes) (text due : Bytes) (n : ℕ) (fell : Type 0) → text ≡ due → Appends k m (take n text) → fell → Breaks k m due fell
broke_after k m text due n fell same wrote failed = record {
  rest = drop n text;
  writes = record { front = take n text; wrote = wrote; parts = sym same ∙ sym (take-append-drop n text) };
  failed = failed;
}

-- lines behind those of which a front was written
pub breaks_more : (k m : Option Bytes) (held due lines : Bytes) (fell : Type 0) → held ≡ due → Breaks k m held fell → Breaks k m (due ++ lines) fell
breaks_more k m held due lines fell same breaks =
    let writes = breaks.writes in
    record {
      rest = breaks.rest ++ lines;
      writes = record {
        front = writes.front;
        wrote = writes.wrote;
        parts = ap (λ (l : Bytes). l ++ lines) (sym same ∙ writes.parts) ∙ append_assoc writes.front breaks.rest lines;
      };
      failed = breaks.failed;
    }

-- what was due, and then the lines
pub writes_both : (k l m : Option Bytes) (held due lines rest : Bytes) → held ≡ due → Appends k l held → rest ≡ [] → Appends l m lines → Writes k m (due ++ lines) rest
writes_both k l m held due lines rest same first none second = record {
  front = due ++ lines;
  wrote = Appends-trans k l m due lines (subst (Appends k l) same first) second;
  parts = sym (append-nil (due ++ lines)) ∙ ap (λ (x : Bytes). (due ++ lines) ++ x) (sym none);
}

-- what was due, and then a front of the lines
pub breaks_behind : (k l m : Option Bytes) (f g h : ℕ) (held due lines : Bytes) (n : ℕ) → held ≡ due → Appends k l held → Appends l m (take n lines) → f ≤ g → Rises g h → Breaks k m (due ++ lines) (Rises f h)
breaks_behind k l m f g h held due lines n same first second falls_not rose = record {
  rest = drop n lines;
  writes = record {
    front = due ++ take n lines;
    wrote = Appends-trans k l m due (take n lines) (subst (Appends k l) same first) second;
    parts = ap (λ (x : Bytes). due ++ x) (sym (take-append-drop n lines)) ∙ sym (append_assoc due (take n lines) (drop n lines));
  };
  failed = Rises-later f g h falls_not rose;
}

pub on_err : {T E : Type 0} (r : Result T E) (P : Type 0) → P → OnErr r P
on_err (Ok x) P p = tt
on_err (Err e) P p = p

-- ---- what is sent behind a front

abbrev pub Sending : ℕ → ℕ → Option Bytes → Option Bytes → Bytes → Type 0 → Type 0
Sending status result k m text fell = (out : Bytes) × Appends k m out × Sends status text result out fell

sends_after : (status result : ℕ) (text rest front out : Bytes) (fell later : Type 0) → text ≡ front ++ rest → (fell → later) → Sends status rest result out fell → Sends status text result (front ++ out) later
sends_after status result text rest front out fell later parts fell_later (inl whole) = inl (whole.0, ap (λ (x : Bytes). front ++ x) whole.1 ∙ sym parts)
sends_after status result text rest front out fell later parts fell_later (inr broke) =
    inr (broke.0, fell_later broke.1, (broke.2.0, parts ∙ ap (λ (x : Bytes). front ++ x) broke.2.1 ∙ sym (append_assoc front out broke.2.0)))

pub sending_after : (status result : ℕ) (k l m : Option Bytes) (text rest sent : Bytes) (fell later : Type 0) → Writes k l text rest → sent ≡ rest → (fell → later) → Sending status result l m sent fell → Sending status result k m text later
sending_after status result k l m text rest sent fell later writes same fell_later sending = (
  writes.front ++ sending.0,
  Appends-trans k l m writes.front sending.0 writes.wrote sending.1,
  sends_after status result text sent writes.front sending.0 fell later (writes.parts ∙ ap (λ (x : Bytes). writes.front ++ x) (sym same)) fell_later sending.2,
)
