-- What holds of the files of every project, once one is put or dropped.
use Rattle.std.proofs.Common.{◌≡◌, ℕ, ◌-◌, ◌≤◌, Bool, true, false, cond, [], Some, None, refl, sym, ap, ◌∙◌, subst, arith}
use Rattle.std.specs.Prelude.{nat_lt}
use Rattle.std.specs.Ordering.{eq_by_cmp}
use Rattle.std.specs.Map.{remove_entry}
use Rattle.std.specs.BTreeMap.{insert_entry, is_at}
use Rattle.std.specs.FinMap.{contains_key, empty, get, get-empty, insert, len, len-empty, len-remove, remove}
use Rattle.std.proofs.lemmas.Bool.Decides.{nat_tests}
use Rattle.rv_names.specs.Keys.{Bytes, bytes_order}
use Rattle.project.specs.declared.faults.Which.TheVariants as which
use Rattle.project.specs.declared.item.Item.{Item}
use Rattle.project.specs.Files.{AreFiles, FileMap, IsProject, file_at, first_over, given_by_all, text_of, with_file}
use Rattle.project.specs.Limits.{files_limit, text_limit}
use Rattle.project.specs.Items.{FileParts, Fits}
use Rattle.project.proofs.Given.{get_here, get_there, given_total, gone_here, gone_there, text_remove, text_total, weigh, weigh_text}
use Rattle.project.proofs.Maps.{Entries, entries_in, files_in, files_insert, files_none, files_remove, rises, rises_insert, rises_remove, rising}
use Rattle.project.proofs.Totals.{tied, tied_same, total, total_none, total_order}

-- a key is another one or not
pub one_or_other : (P : Type 0) (q k : Bytes) → (q ≡ k → P) → ((q ≡ k → ⊥) → P) → P
one_or_other P q k same other = go (eq_by_cmp bytes_order q k) refl
  where
    go : (b : Bool) → eq_by_cmp bytes_order q k ≡ b → P
    go true p = same (tied q k p)
    go false p = other (λ e. let t : eq_by_cmp bytes_order q q ≡ true = tied_same q in let s : eq_by_cmp bytes_order q q ≡ eq_by_cmp bytes_order q k = ap (eq_by_cmp bytes_order q) e in cc)

some_is : (a b : FileParts) → Some a ≡ Some b → a ≡ b
some_is a b e = cc

-- what is found after an insert was inserted or was there
inserted : (m : FileMap) (k : Bytes) (v : FileParts) (P : Bytes → FileParts → Type 0) → P k v → ((q : Bytes) (x : FileParts) → get m q ≡ Some x → P q x) → (q : Bytes) (x : FileParts) → get (insert m k v) q ≡ Some x → P q x
inserted m k v P here there q x e =
    one_or_other (P q x) q k
    (λ s. subst (λ z. P z x) (sym s) (subst (P k) (some_is v x (sym (get_here m k v) ∙ subst (λ z. get (insert m k v) z ≡ Some x) s e)) here))
    (λ n. there q x (sym (get_there m k v q n) ∙ e))

left : (m : FileMap) (k : Bytes) (P : Bytes → FileParts → Type 0) → ((q : Bytes) (x : FileParts) → get m q ≡ Some x → P q x) → (q : Bytes) (x : FileParts) → get (remove m k) q ≡ Some x → P q x
left m k P there q x e =
    one_or_other (P q x) q k
    (λ s. let gone : get (remove m k) q ≡ None = ap (get (remove m k)) s ∙ gone_here m k in absurd (cc))
    (λ n. there q x (sym (gone_there m k q n) ∙ e))

pub are_files_put : (m : FileMap) (k : Bytes) (v : FileParts) → AreFiles m → k ≡ v.path → Fits v.path v.item → len (insert m k v) ≤ files_limit → text_of (insert m k v) ≤ text_limit → AreFiles (insert m k v)
are_files_put m k v are path fits few small = record {
  stand = inserted m k v (λ q x. q ≡ x.path) path are.stand;
  fit = inserted m k v (λ q x. Fits x.path x.item) fits are.fit;
  few = few;
  small = small;
}

less_len : (b : Bool) (n : ℕ) → cond b (n - 1) n ≤ n
less_len true n = omega arith
less_len false n = omega arith

pub are_files_remove : (m : FileMap) (k : Bytes) → AreFiles m → AreFiles (remove m k)
are_files_remove m k are =
    let a = len-remove total_order m k in
    let b = less_len (contains_key m k) (len m) in
    let c = text_remove m k in
    let few = are.few in
    let small = are.small in
    record {
      stand = left m k (λ q x. q ≡ x.path) are.stand;
      fit = left m k (λ q x. Fits x.path x.item) are.fit;
      few = omega arith;
      small = omega arith;
    }

pub project_put : (es : Entries) (k : Bytes) (v : FileParts) (text given text_after given_after : ℕ) → IsProject es text given → k ≡ v.path → Fits v.path v.item
    → len (insert (files_in es) k v) ≤ files_limit → text_of (insert (files_in es) k v) ≤ text_limit
    → text_after ≡ text_of (insert (files_in es) k v) → given_after ≡ given_by_all (insert (files_in es) k v)
    → IsProject (insert_entry bytes_order es k v) text_after given_after
project_put es k v text given text_after given_after is path fits few small t g =
    let same = files_insert es k v (rises es is.rising) in
    record {
      rising = rising (insert_entry bytes_order es k v) (rises_insert es k v (rises es is.rising));
      files = subst AreFiles (sym same) (are_files_put (files_in es) k v is.files path fits few small);
      text_is = t ∙ ap text_of (sym same);
      given_is = g ∙ ap given_by_all (sym same);
    }

pub project_remove : (es : Entries) (k : Bytes) (text given text_after given_after : ℕ) → IsProject es text given
    → text_after ≡ text_of (remove (files_in es) k) → given_after ≡ given_by_all (remove (files_in es) k)
    → IsProject (remove_entry (is_at (bytes_order k)) es) text_after given_after
project_remove es k text given text_after given_after is t g =
    let same = files_remove es k (rises es is.rising) in
    record {
      rising = rising (remove_entry (is_at (bytes_order k)) es) (rises_remove es k (rises es is.rising));
      files = subst AreFiles (sym same) (are_files_remove (files_in es) k is.files);
      text_is = t ∙ ap text_of (sym same);
      given_is = g ∙ ap given_by_all (sym same);
    }

pub project_none : IsProject [] 0 0
project_none = record {
  rising = refl;
  files = subst AreFiles (sym files_none) none;
  text_is = sym (text_total (files_in []) ∙ ap (total weigh_text) (entries_in [] tt) ∙ total_none weigh_text);
  given_is = sym (given_total (files_in []) ∙ ap (total (weigh (files_in []))) (entries_in [] tt) ∙ total_none (weigh (files_in [])));
}
  where
    nothing : (q : Bytes) (x : FileParts) → get (let m : FileMap = empty in m) q ≡ Some x → ⊥
    nothing q x e = let f = get-empty {X = FileParts} bytes_order q in cc

    no_text : text_of empty ≡ 0
    no_text = ap text_of (sym files_none) ∙ text_total (files_in []) ∙ ap (total weigh_text) (entries_in [] tt) ∙ total_none weigh_text

    none : AreFiles empty
    none = record {
      stand = λ q x e. absurd (nothing q x e);
      fit = λ q x e. absurd (nothing q x e);
      few = let a = len-empty bytes_order FileParts in omega arith;
      small = let a = no_text in omega arith;
    }

-- files within the limits are those of which no count is over its limit
pub within : (m : FileMap) → first_over m ≡ None → (len m ≤ files_limit) × (text_of m ≤ text_limit)
within m h = go (nat_lt files_limit (len m)) refl (nat_lt text_limit (text_of m)) refl h
  where
    go : (a : Bool) → nat_lt files_limit (len m) ≡ a → (b : Bool) → nat_lt text_limit (text_of m) ≡ b → cond a (Some which.Files) (cond b (Some which.Text) None) ≡ None → (len m ≤ files_limit) × (text_of m ≤ text_limit)
    go true p b q h = absurd cc
    go false p true q h = absurd cc
    go false p false q h = (grind (arith, nat_tests), grind (arith, nat_tests))

-- ---- a put

pub put_files : (m : FileMap) (path key : Bytes) (item : Item) (length : ℕ) (file : FileParts) → key ≡ path → file ≡ file_at path item length → insert m key file ≡ with_file m path item length
put_files m path key item length file key_is file_is = ap (λ k. insert m k file) key_is ∙ ap (insert m path) file_is

pub put_project : (es : Entries) (text given : ℕ) (m : FileMap) (path : Bytes) (file : FileParts) (text_after given_after : ℕ) → IsProject es text given → files_in es ≡ m → path ≡ file.path → Fits file.path file.item
    → first_over (insert m path file) ≡ None → text_after ≡ text_of (insert m path file) → given_after ≡ given_by_all (insert m file.path file)
    → IsProject (insert_entry bytes_order es path file) text_after given_after
put_project es text given m path file text_after given_after is view at fits none t g =
    let same = ap (λ z. insert z path file) view in
    let bounds = within (insert m path file) none in
    project_put es path file text given text_after given_after is at fits
    (subst (λ z. len z ≤ files_limit) (sym same) bounds.0)
    (subst (λ z. text_of z ≤ text_limit) (sym same) bounds.1)
    (t ∙ sym (ap text_of same))
    (g ∙ ap (λ k. given_by_all (insert m k file)) (sym at) ∙ sym (ap given_by_all same))
