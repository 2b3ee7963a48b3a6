-- The files of a list of entries in order, as std's map keeps it.
use Rattle.std.proofs.Common.{◌≡◌, Bool, true, false, cond, not, List, [], ◌∷◌, Some, refl, sym, ap, ◌∙◌, subst, length}
use Rattle.std.specs.Prelude.{T, IsTrue, ◌&&◌}
use Rattle.std.specs.Ordering.{eq_by_cmp, match_ordering}
use Rattle.std.specs.Map.{lookup, remove_entry}
use Rattle.std.specs.BTreeMap.{insert_entry, is_at}
use Rattle.std.specs.declared.cmp.Ordering.{Ordering}
use Rattle.std.specs.declared.cmp.Ordering.TheVariants.{Less, Equal, Greater}
use Rattle.std.specs.FinMap.{empty, entries, entries-from_sorted, entries-insert, find, from_sorted, get, get-empty, get-from_sorted, insert, is_sorted, len, len-entries, put, remove, same_entries_map, same_map}
use Rattle.std.specs.FinMap.Entries.{below_all, by_order, is_sorted-put, is_sorted-where_key}
use Rattle.rv_names.specs.Keys.{Bytes, bytes_order}
use Rattle.project.specs.Files.{FileMap}
use Rattle.project.specs.Items.{FileParts}
use Rattle.project.proofs.Totals.{entries_without, exact, keep_all, tied, total_order, without}

abbrev pub Entries : Type 0
Entries = List (Bytes × FileParts)

abbrev pub files_in : Entries → FileMap
files_in es = from_sorted es

abbrev pub Rises : Entries → Type 0
Rises es = T (is_sorted bytes_order es)

pub rises : (es : Entries) → IsTrue (is_sorted bytes_order es) → Rises es
rises es h = subst T (sym h) tt

pub rising : (es : Entries) → Rises es → IsTrue (is_sorted bytes_order es)
rising es h = go (is_sorted bytes_order es) h
  where
    go : (b : Bool) → T b → b ≡ true
    go true h = refl
    go false h = absurd h

pub lookup_find : (k : Bytes) (es : Entries) → lookup (is_at (bytes_order k)) es ≡ find bytes_order k es
lookup_find k [] = refl
lookup_find k (e ∷ es) = ap (cond (eq_by_cmp bytes_order k e.0) (Some e.1)) (lookup_find k es)

pub lookup_get : (k : Bytes) (es : Entries) → Rises es → lookup (is_at (bytes_order k)) es ≡ get (files_in es) k
lookup_get k es h = lookup_find k es ∙ sym (get-from_sorted bytes_order es k h)

pub entries_in : (es : Entries) → Rises es → entries (files_in es) ≡ es
entries_in es h = entries-from_sorted bytes_order es h

pub length_in : (es : Entries) → Rises es → length es ≡ len (files_in es)
length_in es h = sym (len-entries (files_in es) ∙ ap length (entries_in es h))

-- an entry goes where a finite map puts it
insert_put : (k : Bytes) (v : FileParts) (es : Entries) → insert_entry bytes_order es k v ≡ put bytes_order k v es
insert_put k v [] = refl
insert_put k v (e ∷ es) = go (insert_put k v es) (bytes_order k e.0)
  where
    go : insert_entry bytes_order es k v ≡ put bytes_order k v es → (o : Ordering) → match_ordering o ((k, v) ∷ e ∷ es) ((e.0, v) ∷ es) (e ∷ insert_entry bytes_order es k v) ≡ by_order o ((k, v) ∷ e ∷ es) ((e.0, v) ∷ es) (e ∷ put bytes_order k v es)
    go more Less = refl
    go more Equal = refl
    go more Greater = ap (λ z. e ∷ z) more

pub rises_insert : (es : Entries) (k : Bytes) (v : FileParts) → Rises es → Rises (insert_entry bytes_order es k v)
rises_insert es k v h = subst Rises (sym (insert_put k v es)) (is_sorted-put bytes_order total_order k v es h)

pub files_insert : (es : Entries) (k : Bytes) (v : FileParts) → Rises es → files_in (insert_entry bytes_order es k v) ≡ insert (files_in es) k v
files_insert es k v h =
    same_entries_map (files_in (insert_entry bytes_order es k v)) (insert (files_in es) k v)
    (entries_in (insert_entry bytes_order es k v) (rises_insert es k v h)
    ∙ insert_put k v es
    ∙ ap (put bytes_order k v) (sym (entries_in es h))
    ∙ sym (entries-insert total_order (files_in es) k v))

second : (a b : Bool) → T (a && b) → T b
second true b h = h
second false b h = absurd h

first : (a b : Bool) → T (a && b) → T a
first true b h = tt
first false b h = absurd h

-- and one that is removed leaves the others
remove_without : (k : Bytes) (es : Entries) → Rises es → remove_entry (is_at (bytes_order k)) es ≡ without k es
remove_without k [] h = refl
remove_without k (e ∷ es) h =
    elim (eq_by_cmp bytes_order k e.0) as (λ b. eq_by_cmp bytes_order k e.0 ≡ b → cond b es (e ∷ remove_entry (is_at (bytes_order k)) es) ≡ cond (not b) (e ∷ without k es) (without k es)) [
      | true ↦ λ p. sym (keep_all k es (subst (λ z. T (below_all bytes_order z es)) (sym (tied k e.0 p)) (first _ _ h)))
      | false ↦ λ p. ap (λ z. e ∷ z) (remove_without k es (second _ _ h))
    ] refl

pub rises_remove : (es : Entries) (k : Bytes) → Rises es → Rises (remove_entry (is_at (bytes_order k)) es)
rises_remove es k h = subst Rises (sym (remove_without k es h)) (is_sorted-where_key bytes_order (λ x. not (eq_by_cmp bytes_order k x)) es h)

pub files_remove : (es : Entries) (k : Bytes) → Rises es → files_in (remove_entry (is_at (bytes_order k)) es) ≡ remove (files_in es) k
files_remove es k h =
    same_entries_map (files_in (remove_entry (is_at (bytes_order k)) es)) (remove (files_in es) k)
    (entries_in (remove_entry (is_at (bytes_order k)) es) (rises_remove es k h)
    ∙ remove_without k es h
    ∙ ap (without k) (sym (entries_in es h))
    ∙ sym (entries_without (files_in es) k))

pub files_none : files_in [] ≡ empty
files_none = same_map total_order exact (files_in []) empty (λ q. get-from_sorted bytes_order [] q tt ∙ sym (get-empty bytes_order q))

-- the entries of a list are those of its files
pub entries_view : (es : Entries) (files : FileMap) → Rises es → files_in es ≡ files → es ≡ entries files
entries_view es files h e = sym (entries_in es h) ∙ ap entries e
