-- What the faults of edits say.
use Rattle.std.proofs.Common.{◌≡◌, ℕ, ◌+◌, ◌-◌, ◌≤◌, ◌<◌, Bool, true, false, cond, not, List, [], Option, Some, None, refl, sym, ap, ◌∙◌, subst, arith}
use Rattle.std.specs.Prelude.{nat_le, nat_lt, ◌||◌, option_map, is_some}
use Rattle.std.specs.Arc.{arc_value}
use Rattle.std.specs.List.{filter_map, sum_by}
use Rattle.std.specs.FinMap.{contains_key, empty, get, len, remove}
use Rattle.std.proofs.lemmas.Bool.Decides.{nat_tests}
use Rattle.rv_names.specs.Keys.{Bytes}
use Rattle.project.specs.declared.faults.Which.{Which}
use Rattle.project.specs.declared.faults.Which.TheVariants as which
use Rattle.project.specs.Callables.{callables, capped}
use Rattle.project.specs.Files.{AreFiles, FileMap, first_over, text_of, with_file}
use Rattle.project.specs.Limits.{callables_limit, edits_limit, files_limit, kept_limit, text_limit}
use Rattle.project.specs.Items.{FileParts}
use Rattle.project.specs.Modules.{Placed, callables_in, module_in}
use Rattle.project.proofs.Maps.{entries_view, files_none}
use Rattle.project.proofs.Projects.{are_files_remove}
use Rattle.journal.specs.declared.edit.ReadEdit.{ReadEdit}
use Rattle.journal.specs.declared.edit.ReadEdit.TheVariants as edits
use Rattle.journal.specs.declared.faults.EditFault.{EditFault}
use Rattle.journal.specs.declared.faults.EditFault.TheVariants.{JournalFull, NotThere, ProjectFull}
use Rattle.journal.specs.Journal.{JournalParts, edit_fault, edited, is_absent, is_full, kept_by, many_callables, or_else, over}

-- ---- the steps of a test in order

pub full_fault : (j : JournalParts) (e : ReadEdit) → is_full j (kept_by e) ≡ true → Some JournalFull ≡ edit_fault j e
full_fault j e h = ap (λ b. cond b (Some JournalFull) (cond (is_absent j.files e) (Some (NotThere j.number)) (option_map ProjectFull (over (edited j.files e))))) (sym h)

pub absent_fault : (j : JournalParts) (e : ReadEdit) → is_full j (kept_by e) ≡ false → is_absent j.files e ≡ true → Some (NotThere j.number) ≡ edit_fault j e
absent_fault j e h a =
    ap (λ b. cond b (Some (NotThere j.number)) (option_map ProjectFull (over (edited j.files e)))) (sym a)
    ∙ ap (λ b. cond b (Some JournalFull) (cond (is_absent j.files e) (Some (NotThere j.number)) (option_map ProjectFull (over (edited j.files e))))) (sym h)

pub over_fault : (j : JournalParts) (e : ReadEdit) (o : Option Which) → is_full j (kept_by e) ≡ false → is_absent j.files e ≡ false → o ≡ over (edited j.files e) → option_map ProjectFull o ≡ edit_fault j e
over_fault j e o h a is =
    ap (option_map ProjectFull) is
    ∙ ap (λ b. cond b (Some (NotThere j.number)) (option_map ProjectFull (over (edited j.files e)))) (sym a)
    ∙ ap (λ b. cond b (Some JournalFull) (cond (is_absent j.files e) (Some (NotThere j.number)) (option_map ProjectFull (over (edited j.files e))))) (sym h)

pub over_first : (m : FileMap) (w : Which) → first_over m ≡ Some w → Some w ≡ over m
over_first m w h = ap (λ o. or_else o (many_callables m)) (sym h)

capped_over : (n : ℕ) → 65535 < capped n → nat_lt 65535 n ≡ true
capped_over n h = let below : 65535 < n = omega arith in grind (arith, nat_tests)

capped_within : (n : ℕ) → capped n ≤ 65535 → nat_lt 65535 n ≡ false
capped_within n h = let below : n ≤ 65535 = omega arith in grind (arith, nat_tests)

pub over_callables : (m : FileMap) (count : ℕ) → first_over m ≡ None → count ≡ capped (callables_in m) → 65535 < count → Some which.Callables ≡ over m
over_callables m count h c more =
    ap (λ b. cond b (Some which.Callables) None) (sym (capped_over (callables_in m) (subst (λ z. 65535 < z) c more)))
    ∙ ap (λ o. or_else o (many_callables m)) (sym h)

pub over_none : (m : FileMap) (count : ℕ) → first_over m ≡ None → count ≡ capped (callables_in m) → count ≤ 65535 → None ≡ over m
over_none m count h c few =
    ap (λ b. cond b (Some which.Callables) None) (sym (capped_within (callables_in m) (subst (λ z. z ≤ 65535) c few)))
    ∙ ap (λ o. or_else o (many_callables m)) (sym h)

pub over_within : (m : FileMap) → first_over m ≡ None → nat_le (capped (callables_in m)) callables_limit ≡ true → None ≡ over m
over_within m h within = over_none m (capped (callables_in m)) h refl (at_most (capped (callables_in m)) within)
  where
    at_most : (n : ℕ) → nat_le n 65535 ≡ true → n ≤ 65535
    at_most n h = grind (arith, nat_tests)

pub none_of : (o : Option Which) → ((w : Which) → o ≡ Some w → ⊥) → o ≡ None
none_of None h = refl
none_of (Some w) h = absurd (h w refl)

-- a drop takes no count of files or text past its limit
pub none_over_drop : (m : FileMap) (path : Bytes) → AreFiles m → first_over (remove m path) ≡ None
none_over_drop m path are =
    let left = are_files_remove m path are in
    let few : nat_lt files_limit (len (remove m path)) ≡ false = few_test (len (remove m path)) left.few in
    let small : nat_lt text_limit (text_of (remove m path)) ≡ false = small_test (text_of (remove m path)) left.small in
    ap (λ b. cond b (Some which.Files) (cond (nat_lt text_limit (text_of (remove m path))) (Some which.Text) None)) few
    ∙ ap (λ b. cond b (Some which.Text) None) small
  where
    few_test : (n : ℕ) → n ≤ 4096 → nat_lt 4096 n ≡ false
    few_test n h = grind (arith, nat_tests)

    small_test : (n : ℕ) → n ≤ 33554432 → nat_lt 33554432 n ≡ false
    small_test n h = grind (arith, nat_tests)

-- ---- what it says that an edit has no fault

pub record IsFree (j : JournalParts) (e : ReadEdit) : Type 0 where
  pub edits : j.number < edits_limit
  pub text : j.kept + kept_by e ≤ kept_limit
  pub counts : first_over (edited j.files e) ≡ None
  pub callables : callables_in (edited j.files e) ≤ callables_limit

room : (n k : ℕ) → nat_le 65536 n || nat_lt 67108864 k ≡ false → (n < 65536) × (k ≤ 67108864)
room n k h = (grind (arith, nat_tests), grind (arith, nat_tests))

some_callables : (n : ℕ) → cond (nat_lt 65535 n) (Some which.Callables) None ≡ None → n ≤ 65535
some_callables n h = go (nat_lt 65535 n) refl h
  where
    go : (b : Bool) → nat_lt 65535 n ≡ b → cond b (Some which.Callables) None ≡ None → n ≤ 65535
    go true p h = absurd cc
    go false p h = grind (arith, nat_tests)

pub free : (j : JournalParts) (e : ReadEdit) → edit_fault j e ≡ None → IsFree j e
free j e h = go (is_full j (kept_by e)) refl (is_absent j.files e) h
  where
    go : (a : Bool) → is_full j (kept_by e) ≡ a → (b : Bool) → cond a (Some JournalFull) (cond b (Some (NotThere j.number)) (option_map ProjectFull (over (edited j.files e)))) ≡ None → IsFree j e
    go true p b h = absurd cc
    go false p true h = absurd cc
    go false p false h = by (first_over (edited j.files e)) refl h
      where
        by : (o : Option Which) → first_over (edited j.files e) ≡ o → option_map ProjectFull (or_else o (many_callables (edited j.files e))) ≡ None → IsFree j e
        by (Some w) q h = absurd cc
        by None q h =
            let r = room j.number (j.kept + kept_by e) p in
            record { edits = r.0; text = r.1; counts = q; callables = some_callables (callables_in (edited j.files e)) (none (many_callables (edited j.files e)) h) }
          where
            none : (o : Option Which) → option_map ProjectFull o ≡ None → o ≡ None
            none None h = refl
            none (Some w) h = absurd cc

-- ---- at the calls

pub present : (m : FileMap) (path : Bytes) (file : FileParts) → Some file ≡ get m path → is_absent m (edits.Drop path) ≡ false
present m path file h = ap (λ o. not (is_some o)) (sym h)

pub no_callables : callables_in empty ≡ 0
unfolding callables_in
no_callables = ap (λ es. sum_by (λ (t : Placed). callables t.2.tree) (filter_map (module_in empty) es)) (sym (entries_view [] empty tt files_none))
