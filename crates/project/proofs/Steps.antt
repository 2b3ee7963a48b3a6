-- The sums beside a project's files, once a file is put or dropped.
use Rattle.std.proofs.Common.{◌≡◌, ℕ, ◌+◌, ◌≤◌, ◌<◌, Bool, true, false, cond, Option, Some, None, sym, ap, ◌∙◌, subst, arith}
use Rattle.std.specs.Prelude.{is_some, nat_le, nat_lt, ◌&&◌}
use Rattle.std.specs.Map.{lookup}
use Rattle.std.specs.BTreeMap.{is_at}
use Rattle.std.specs.FinMap.{contains_key, get, insert, len, len-insert, remove, same_map}
use Rattle.std.proofs.lemmas.Bool.Decides.{nat_tests}
use Rattle.rv_names.specs.Keys.{Bytes, bytes_order}
use Rattle.project.specs.declared.faults.Which.TheVariants as which
use Rattle.project.specs.Callables.{capped, item_callables}
use Rattle.project.specs.Files.{AreFiles, FileMap, IsProject, first_over, first_past, given_by, given_by_all, has_room, is_hidden, text_of}
use Rattle.project.specs.Limits.{text_limit}
use Rattle.project.specs.Items.{FileParts}
use Rattle.project.specs.Modules.{callables_in}
use Rattle.project.specs.Sums.{beneath, replaced, text_at}
use Rattle.project.proofs.Counts.{capped_given}
use Rattle.project.proofs.Given.{given_put, given_remove, given_small, given_total, gone_here, gone_there, text_put, text_remove, weigh, weigh_text}
use Rattle.project.proofs.Maps.{Entries, files_in, lookup_get, rises}
use Rattle.project.proofs.Projects.{one_or_other}
use Rattle.project.proofs.Totals.{at, exact, sum_remove, total_order}

-- what is found in the list stands in the files
pub found : (es : Entries) (text given : ℕ) (m : FileMap) (k : Bytes) (o : Option FileParts) → IsProject es text given → files_in es ≡ m → o ≡ lookup (is_at (bytes_order k)) es → get m k ≡ o
found es text given m k o is view at_k = sym (at_k ∙ lookup_get k es (rises es is.rising) ∙ ap (λ z. get z k) view)

pub given_now : (es : Entries) (text given : ℕ) (m : FileMap) → IsProject es text given → files_in es ≡ m → given ≡ given_by_all m
given_now es text given m is view = is.given_is ∙ ap given_by_all view

pub text_now : (es : Entries) (text given : ℕ) (m : FileMap) → IsProject es text given → files_in es ≡ m → text ≡ text_of m
text_now es text given m is view = is.text_is ∙ ap text_of view

pub small_given : (es : Entries) (text given : ℕ) (m : FileMap) → IsProject es text given → files_in es ≡ m → given ≤ 17592186040320
small_given es text given m is view =
    let few = (subst AreFiles view is.files).few in
    let a = given_small m in
    let b = given_now es text given m is view in
    omega arith

pub small_text : (es : Entries) (text given : ℕ) (m : FileMap) → IsProject es text given → files_in es ≡ m → text ≤ 33554432
small_text es text given m is view =
    let small = (subst AreFiles view is.files).small in
    let b = text_now es text given m is view in
    omega arith

-- the callables of all files after a put, where `old` stood at the path
pub with_put : (es : Entries) (text given : ℕ) (m : FileMap) (k : Bytes) (v : FileParts) (old : Option FileParts) (hidden : Bool) (under : ℕ) → IsProject es text given → files_in es ≡ m → old ≡ lookup (is_at (bytes_order k)) es
    → hidden ≡ is_hidden m k → under ≡ beneath m k → given + cond hidden 0 (capped (item_callables v.item)) ≡ given_by_all (insert m k v) + replaced hidden under old
with_put es text given m k v old hidden under is view at_k h u = go old (found es text given m k old is view at_k)
  where
    put : given_by_all (insert m k v) + cond (contains_key m k) 0 (beneath m k) + at (weigh m) k (get m k) ≡ given + cond hidden 0 (capped (item_callables v.item))
    put = given_put m k v ∙ ap (λ n. n + given_by m k v.item) (sym (given_now es text given m is view)) ∙ ap (λ b. given + cond b 0 (capped (item_callables v.item))) (sym h)

    go : (o : Option FileParts) → get m k ≡ o → given + cond hidden 0 (capped (item_callables v.item)) ≡ given_by_all (insert m k v) + replaced hidden under o
    go None f =
        let a = put in
        let b : cond (contains_key m k) 0 (beneath m k) ≡ under = ap (λ x. cond (is_some x) 0 (beneath m k)) f ∙ sym u in
        let c : at (weigh m) k (get m k) ≡ 0 = ap (at (weigh m) k) f in
        omega arith
    go (Some x) f =
        let a = put in
        let b : cond (contains_key m k) 0 (beneath m k) ≡ 0 = ap (λ x. cond (is_some x) 0 (beneath m k)) f in
        let c : at (weigh m) k (get m k) ≡ cond hidden 0 (capped (item_callables x.item)) = ap (at (weigh m) k) f ∙ ap (λ b. cond b 0 (capped (item_callables x.item))) (sym h) in
        omega arith

-- a put adds at most the callables of its file
less_shown : (hidden : Bool) (n : ℕ) → cond hidden 0 n ≤ n
less_shown true n = omega arith
less_shown false n = omega arith

pub within_put : (es : Entries) (text given : ℕ) (m : FileMap) (k : Bytes) (v : FileParts) (most : ℕ) → IsProject es text given → files_in es ≡ m → given + capped (item_callables v.item) ≤ most → nat_le (capped (callables_in (insert m k v))) most ≡ true
within_put es text given m k v most is view h =
    let a = given_put m k v in
    let b = given_now es text given m is view in
    let c = less_shown (is_hidden m k) (capped (item_callables v.item)) in
    let d = capped_given (insert m k v) in
    at_most (capped (callables_in (insert m k v))) most (subst (λ n. n ≤ most) d (omega arith))
  where
    at_most : (a b : ℕ) → a ≤ b → nat_le a b ≡ true
    at_most a b h = grind (arith, nat_tests)

pub absent_same : (m : FileMap) (k : Bytes) → get m k ≡ None → remove m k ≡ m
absent_same m k f = same_map total_order exact (remove m k) m (λ q. one_or_other (get (remove m k) q ≡ get m q) q k (λ e. ap (get (remove m k)) e ∙ gone_here m k ∙ sym (ap (get m) e ∙ f)) (gone_there m k q))

pub without_none : (es : Entries) (text given : ℕ) (m : FileMap) (k : Bytes) → IsProject es text given → files_in es ≡ m → None ≡ lookup (is_at (bytes_order k)) es → given ≡ given_by_all (remove m k)
without_none es text given m k is view at_k =
    let f = found es text given m k None is view at_k in
    given_now es text given m is view ∙ ap given_by_all (sym (absent_same m k f))

pub without_some : (es : Entries) (text given : ℕ) (m : FileMap) (k : Bytes) (old : FileParts) (own under : ℕ) → IsProject es text given → files_in es ≡ m → Some old ≡ lookup (is_at (bytes_order k)) es
    → own ≡ given_by m old.path old.item → under ≡ beneath m old.path → (given + under ≡ given_by_all (remove m k) + own) × (own ≤ given)
without_some es text given m k old own under is view at_k o u =
    let f = found es text given m k (Some old) is view at_k in
    let a = given_remove m k in
    let b = given_now es text given m is view in
    let c : cond (contains_key m k) 0 (beneath m k) ≡ 0 = ap (λ x. cond (is_some x) 0 (beneath m k)) f in
    let d : at (weigh m) k (get m k) ≡ given_by m k old.item = ap (at (weigh m) k) f in
    let stands = (subst AreFiles view is.files).stand k old f in
    let e : given_by m k old.item ≡ given_by m old.path old.item = ap (λ q. given_by m q old.item) stands in
    let h : beneath m k ≡ beneath m old.path = ap (beneath m) stands in
    let i = sum_remove (weigh m) m k in
    let j = given_total m in
    (omega arith, omega arith)

-- the bytes of all texts after a put, where `old` stood at the path
pub text_with : (es : Entries) (text given : ℕ) (m : FileMap) (k : Bytes) (v : FileParts) (old : Option FileParts) → IsProject es text given → files_in es ≡ m → old ≡ lookup (is_at (bytes_order k)) es
    → text + v.len ≡ text_of (insert m k v) + text_at old
text_with es text given m k v old is view at_k = go old (found es text given m k old is view at_k)
  where
    put : text_of (insert m k v) + at weigh_text k (get m k) ≡ text + v.len
    put = text_put m k v ∙ ap (λ n. n + v.len) (sym (text_now es text given m is view))

    go : (o : Option FileParts) → get m k ≡ o → text + v.len ≡ text_of (insert m k v) + text_at o
    go None f = let a = put in let b : at weigh_text k (get m k) ≡ 0 = ap (at weigh_text k) f in omega arith
    go (Some x) f = let a = put in let b : at weigh_text k (get m k) ≡ x.len = ap (at weigh_text k) f in omega arith

pub text_without_none : (es : Entries) (text given : ℕ) (m : FileMap) (k : Bytes) → IsProject es text given → files_in es ≡ m → None ≡ lookup (is_at (bytes_order k)) es → text ≡ text_of (remove m k)
text_without_none es text given m k is view at_k = text_now es text given m is view ∙ ap text_of (sym (absent_same m k (found es text given m k None is view at_k)))

pub text_without_some : (es : Entries) (text given : ℕ) (m : FileMap) (k : Bytes) (old : FileParts) → IsProject es text given → files_in es ≡ m → Some old ≡ lookup (is_at (bytes_order k)) es → text ≡ text_of (remove m k) + old.len
text_without_some es text given m k old is view at_k =
    let a = text_remove m k in
    let b = text_now es text given m is view in
    let c : at weigh_text k (get m k) ≡ old.len = ap (at weigh_text k) (found es text given m k (Some old) is view at_k) in
    omega arith

-- how many files there are after a put
pub len_with_known : (m : FileMap) (k : Bytes) (v : FileParts) → contains_key m k ≡ true → len (insert m k v) ≡ len m
len_with_known m k v h = len-insert total_order m k v ∙ ap (λ b. cond b (len m) (len m + 1)) h

pub len_with_new : (m : FileMap) (k : Bytes) (v : FileParts) → contains_key m k ≡ false → len (insert m k v) ≡ len m + 1
len_with_new m k v h = len-insert total_order m k v ∙ ap (λ b. cond b (len m) (len m + 1)) h

pub is_fewer : (n : ℕ) → n < 4096 → nat_lt n 4096 ≡ true
is_fewer n h = grind (arith, nat_tests)

pub is_many : (n : ℕ) → 4096 ≤ n → nat_lt n 4096 ≡ false
is_many n h = grind (arith, nat_tests)

-- where the counts alone tell, no count is past its limit after a put
pub over_room : (m : FileMap) (k : Bytes) (v : FileParts) → has_room m v.len ≡ true → None ≡ first_over (insert m k v)
over_room m k v h =
    let room = parts (len m) (text_of m + v.len) h in
    let a = len-insert total_order m k v in
    let b = one_more (contains_key m k) (len m) in
    let c = text_put m k v in
    sym (past (len (insert m k v)) (text_of (insert m k v)) (omega arith) (omega arith))
  where
    parts : (n t : ℕ) → nat_lt n 4096 && nat_le t 33554432 ≡ true → (n < 4096) × (t ≤ 33554432)
    parts n t h = (grind (arith, nat_tests), grind (arith, nat_tests))

    one_more : (b : Bool) (n : ℕ) → cond b n (n + 1) ≤ n + 1
    one_more true n = omega arith
    one_more false n = omega arith

    few : (n : ℕ) → n ≤ 4096 → nat_lt 4096 n ≡ false
    few n h = grind (arith, nat_tests)

    small : (t : ℕ) → t ≤ 33554432 → nat_lt 33554432 t ≡ false
    small t h = grind (arith, nat_tests)

    past : (n t : ℕ) → n ≤ 4096 → t ≤ 33554432 → first_past n t ≡ None
    past n t f s = ap (λ b. cond b (Some which.Files) (cond (nat_lt text_limit t) (Some which.Text) None)) (few n f) ∙ ap (λ b. cond b (Some which.Text) None) (small t s)
