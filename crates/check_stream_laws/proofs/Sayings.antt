-- What commands come to.
use Rattle.std.proofs.Common.{◌≡◌, ℕ, ◌+◌, List, [], ◌∷◌, ◌++◌, length, Some, None, refl, sym, ap, subst, ◌∙◌}
use Rattle.std.specs.Prelude.{not, slice_range}
use Rattle.std.specs.Arc.{arc_value}
use Rattle.std.specs.Global.{Global}
use Rattle.std.specs.declared.sync.Arc.{Arc}
use Rattle.rv_names.specs.Keys.{Bytes}
use Rattle.script.specs.declared.command.Command.{Command}
use Rattle.script.specs.declared.command.Command.TheVariants as commands
use Rattle.project.specs.declared.item.Item.{Item}
use Rattle.project.specs.Files.{FileMap, file_at}
use Rattle.journal.specs.declared.edit.ReadEdit.{ReadEdit}
use Rattle.journal.specs.declared.edit.ReadEdit.TheVariants as edits
use Rattle.journal.specs.declared.faults.EditFault.{EditFault}
use Rattle.journal.specs.Journal.{edit_fault, edited, is_absent, kept_by}
use Rattle.front.specs.declared.faults.ReadFault.{ReadFault}
use Rattle.front.specs.Reading.{Accepted, Refused}
use Rattle.front_laws.proofs.OneReading.{one_fault, one_reading, one_item}
use Rattle.edit_lines.specs.Lines.{kept_line, misread_line, fault_line, sync_line}
use Rattle.check_stream.specs.Progress.{Progress, keeping, refusing}
use Rattle.check_stream.specs.Acts.{path_of, Edits, kept, refused, Puts, misread, read, Acts, Said}
use Rattle.check_stream_laws.specs.Same.{SameProgress}
use Rattle.check_stream_laws.proofs.Shown.{seen, same-seen, Alike, alike-insert, alike-remove, alike-same}
use Rattle.check_stream_laws.proofs.Counts.{alike-has, alike-over}

-- the same progress, but for where items are kept
pub record Agree (a b : Progress) : Type 0 where
  pub files : Alike a.journal.files b.journal.files
  pub number : a.journal.number ≡ b.journal.number
  pub kept_bytes : a.journal.kept ≡ b.journal.kept
  pub refusals : a.refused ≡ b.refused

pub agree-same : (a b : Progress) → Agree a b → SameProgress a b
agree-same a b h = record { files = alike-same a.journal.files b.journal.files h.files; number = h.number; kept = h.kept_bytes; refused = h.refusals }

-- the same edit, but for where its item is kept
pub data AgreeEdits : ReadEdit → ReadEdit → Type 0 where
  puts : (path : Bytes) (a b : Arc Item Global) (len : ℕ) → seen (arc_value a) ≡ seen (arc_value b) → AgreeEdits (edits.Put path a len) (edits.Put path b len)
  drops : (path : Bytes) → AgreeEdits (edits.Drop path) (edits.Drop path)

agree-kept : (d e : ReadEdit) → AgreeEdits d e → kept_by d ≡ kept_by e
agree-kept d e (puts path a b len h) = refl
agree-kept d e (drops path) = refl

agree-path : (d e : ReadEdit) → AgreeEdits d e → path_of d ≡ path_of e
agree-path d e (puts path a b len h) = refl
agree-path d e (drops path) = refl

agree-absent : (f g : FileMap) (d e : ReadEdit) → Alike f g → AgreeEdits d e → is_absent f d ≡ is_absent g e
agree-absent f g d e s (puts path a b len h) = refl
agree-absent f g d e s (drops path) = ap not (alike-has f g path s)

agree-edited : (f g : FileMap) (d e : ReadEdit) → Alike f g → AgreeEdits d e → Alike (edited f d) (edited g e)
agree-edited f g d e s (puts path a b len h) = alike-insert f g path (file_at path (arc_value a) len) (file_at path (arc_value b) len) s (ap (λ x. record { path = path; item = x; len = len }) h)
agree-edited f g d e s (drops path) = alike-remove f g path s

agree-fault : (a b : Progress) (d e : ReadEdit) → Agree a b → AgreeEdits d e → edit_fault a.journal d ≡ edit_fault b.journal e
agree-fault a b d e h k =
    let number = h.number in
    let bytes = h.kept_bytes in
    let more = agree-kept d e k in
    let absent = agree-absent a.journal.files b.journal.files d e h.files k in
    let counts = alike-over (edited a.journal.files d) (edited b.journal.files e) (agree-edited a.journal.files b.journal.files d e h.files k) in
    cc (number, bytes, more, absent, counts)

agree-keeping : (a b : Progress) (d e : ReadEdit) → Agree a b → AgreeEdits d e → Agree (keeping a d) (keeping b e)
agree-keeping a b d e h k =
    let bytes = h.kept_bytes in
    let more = agree-kept d e k in
    record {
      files = agree-edited a.journal.files b.journal.files d e h.files k;
      number = ap (λ n. n + 1) h.number;
      kept_bytes = cc (bytes, more);
      refusals = h.refusals;
    }

agree-refusing : (a b : Progress) → Agree a b → Agree (refusing a) (refusing b)
agree-refusing a b h = record { files = h.files; number = h.number; kept_bytes = h.kept_bytes; refusals = refl }

-- ---- one command

-- what an edit comes to, with equations
data EditsAs (before : Progress) (edit : ReadEdit) (line : Bytes) (come_to : Progress) : Type 0 where
  is_kept : edit_fault before.journal edit ≡ None → line ≡ kept_line (before.journal.number + 1) → come_to ≡ keeping before edit → EditsAs before edit line come_to
  is_refused : (fault : EditFault) → edit_fault before.journal edit ≡ Some fault → line ≡ fault_line (path_of edit) fault → come_to ≡ refusing before → EditsAs before edit line come_to

edits-as : (before : Progress) (edit : ReadEdit) (line : Bytes) (come_to : Progress) → Edits before edit line come_to → EditsAs before edit line come_to
edits-as before edit line come_to (kept e) = is_kept e refl refl
edits-as before edit line come_to (refused fault e) = is_refused fault e refl refl

-- two lines, and what they come to
abbrev pub Both : Bytes → Bytes → Progress → Progress → Type 0
Both l m p q = (l ≡ m) × Agree p q

agreed : (p q a b : Progress) → p ≡ a → q ≡ b → Agree a b → Agree p q
agreed p q a b e f h = subst (λ (x : Progress). Agree x q) (sym e) (subst (λ (x : Progress). Agree a x) (sym f) h)

same-edits : (a b : Progress) (d e : ReadEdit) (l m : Bytes) (p q : Progress) → Agree a b → AgreeEdits d e → EditsAs a d l p → EditsAs b e m q → Both l m p q
same-edits a b d e l m p q h k (is_kept n i j) (is_kept n' i' j') = (i ∙ ap (λ x. kept_line (x + 1)) h.number ∙ sym i', agreed p q (keeping a d) (keeping b e) j j' (agree-keeping a b d e h k))
same-edits a b d e l m p q h k (is_kept n i j) (is_refused fault n' i' j') = let s = agree-fault a b d e h k in absurd (cc (n, n', s))
same-edits a b d e l m p q h k (is_refused fault n i j) (is_kept n' i' j') = let s = agree-fault a b d e h k in absurd (cc (n, n', s))
same-edits a b d e l m p q h k (is_refused fault n i j) (is_refused other n' i' j') =
    let s = agree-fault a b d e h k in
    let one : fault ≡ other = cc (n, n', s) in
    let path = agree-path d e k in
    (i ∙ ap (λ x. fault_line x fault) path ∙ ap (fault_line (path_of e)) one ∙ sym i', agreed p q (refusing a) (refusing b) j j' (agree-refusing a b h))

data PutsAs (before : Progress) (path file line : Bytes) (come_to : Progress) : Type 0 where
  is_misread : (fault : ReadFault) → Refused path file fault → line ≡ misread_line path fault → come_to ≡ refusing before → PutsAs before path file line come_to
  is_read : (item : Arc Item Global) → Accepted path file (arc_value item) → EditsAs before (edits.Put path item (length file)) line come_to → PutsAs before path file line come_to

puts-as : (before : Progress) (path file line : Bytes) (come_to : Progress) → Puts before path file line come_to → PutsAs before path file line come_to
puts-as before path file line come_to (misread fault r) = is_misread fault r refl refl
puts-as before path file line come_to (read item l c a e) = is_read item a (edits-as before (edits.Put path item (length file)) l c e)

same-puts : (a b : Progress) (path file l m : Bytes) (p q : Progress) → Agree a b → PutsAs a path file l p → PutsAs b path file m q → Both l m p q
same-puts a b path file l m p q h (is_misread f r i j) (is_misread g s i' j') = (i ∙ ap (misread_line path) (one_fault path file f g r s) ∙ sym i', agreed p q (refusing a) (refusing b) j j' (agree-refusing a b h))
same-puts a b path file l m p q h (is_misread f r i j) (is_read y s e) = absurd (one_reading path file (arc_value y) f s r)
same-puts a b path file l m p q h (is_read x r e) (is_misread g s i j) = absurd (one_reading path file (arc_value x) g r s)
same-puts a b path file l m p q h (is_read x r e) (is_read y s f) =
    same-edits a b (edits.Put path x (length file)) (edits.Put path y (length file)) l m p q h
    (puts path x y (length file) (same-seen (arc_value x) (arc_value y) (one_item path file (arc_value x) (arc_value y) r s))) e f

same-acts : (a b : Progress) (text : Bytes) (c : Command) (l m : Bytes) (p q : Progress) → Agree a b → Acts a text c l p → Acts b text c m q → Both l m p q
same-acts a b text (commands.Put path from len) l m p q h x y =
    let file = slice_range text from (from + len) in
    same-puts a b path file l m p q h (puts-as a path file l p x) (puts-as b path file m q y)
same-acts a b text (commands.Drop path) l m p q h x y = same-edits a b (edits.Drop path) (edits.Drop path) l m p q h (drops path) (edits-as a (edits.Drop path) l p x) (edits-as b (edits.Drop path) m q y)
same-acts a b text commands.Sync l m p q h x y = (x.0 ∙ ap sync_line h.number ∙ sym y.0, agreed p q a b x.1 y.1 h)
same-acts a b text (commands.Ask session query) l m p q h x y = absurd x
same-acts a b text (commands.Run fuel calls draws) l m p q h x y = absurd x
same-acts a b text commands.End l m p q h x y = absurd x

-- ---- commands in a row

pub same-said : (a b : Progress) (cs : List Command) (ts : List Bytes) (l m : Bytes) (p q : Progress) → Agree a b → Said a cs ts l p → Said b cs ts m q → Both l m p q
same-said a b [] [] l m p q h x y = (x.0 ∙ sym y.0, agreed p q a b x.1 y.1 h)
same-said a b [] (t ∷ ts) l m p q h x y = absurd x
same-said a b (c ∷ cs) [] l m p q h x y = absurd x
same-said a b (c ∷ cs) (t ∷ ts) l m p q h (line, now, more, act, rest, e) (line', now', more', act', rest', e') =
    let (first, agree) = same-acts a b t c line line' now now' h act act' in
    let (others, last) = same-said now now' cs ts more more' p q agree rest rest' in
    (e ∙ ap (λ x. x ++ more) first ∙ ap (λ x. line' ++ x) others ∙ sym e', last)

pub agree-itself : (a : Progress) → Agree a a
agree-itself a = record { files = refl; number = refl; kept_bytes = refl; refusals = refl }
