-- What is seen of live files, wherever their items are kept.
use Rattle.std.proofs.Common.{◌≡◌, ℕ, Bool, true, false, cond, not, List, [], ◌∷◌, Option, Some, None, refl, sym, ap, ◌∙◌}
use Rattle.std.specs.Prelude.{option_map}
use Rattle.std.specs.Arc.{arc_value}
use Rattle.std.specs.FinMap.{entries, entries-insert, find, get, get-entries, insert, put, remove}
use Rattle.std.specs.FinMap.Entries.{by_order, where_key}
use Rattle.std.specs.Ordering.{eq_by_cmp}
use Rattle.std.specs.declared.cmp.Ordering.{Ordering}
use Rattle.std.specs.declared.cmp.Ordering.TheVariants.{Less, Equal, Greater}
use Rattle.rv_names.specs.Keys.{Bytes, bytes_order}
use Rattle.py_ast.specs.Parsed.{Kept}
use Rattle.pysa_syntax.specs.declared.decl.Decl.{Decl}
use Rattle.taint_config.specs.Config.{ConfigParts}
use Rattle.project.specs.declared.item.Item.{Item}
use Rattle.project.specs.declared.item.Item.TheVariants as items
use Rattle.project.specs.Files.{FileMap}
use Rattle.project.specs.Items.{FileParts}
use Rattle.project.proofs.Totals.{entries_without, total_order}
use Rattle.front.specs.Reading.{SameItem}
use Rattle.check_stream_laws.specs.Same.{SameThere, SameFiles}

pub data Shown : Type 0 where
  A_module : Kept → Shown
  Models : List Decl → Shown
  A_config : ConfigParts → Shown

abbrev pub seen : Item → Shown
seen (items.Module parsed) = A_module (arc_value parsed)
seen (items.Models decls) = Models (arc_value decls)
seen (items.Config config) = A_config (arc_value config)

pub same-seen : (a b : Item) → SameItem a b → seen a ≡ seen b
same-seen (items.Module a) (items.Module b) h = ap A_module h
same-seen (items.Module a) (items.Models b) h = absurd h
same-seen (items.Module a) (items.Config b) h = absurd h
same-seen (items.Models a) (items.Module b) h = absurd h
same-seen (items.Models a) (items.Models b) h = ap Models h
same-seen (items.Models a) (items.Config b) h = absurd h
same-seen (items.Config a) (items.Module b) h = absurd h
same-seen (items.Config a) (items.Models b) h = absurd h
same-seen (items.Config a) (items.Config b) h = ap A_config h

pub seen-same : (a b : Item) → seen a ≡ seen b → SameItem a b
seen-same (items.Module a) (items.Module b) h = cc h
seen-same (items.Module a) (items.Models b) h = absurd (cc h)
seen-same (items.Module a) (items.Config b) h = absurd (cc h)
seen-same (items.Models a) (items.Module b) h = absurd (cc h)
seen-same (items.Models a) (items.Models b) h = cc h
seen-same (items.Models a) (items.Config b) h = absurd (cc h)
seen-same (items.Config a) (items.Module b) h = absurd (cc h)
seen-same (items.Config a) (items.Models b) h = absurd (cc h)
seen-same (items.Config a) (items.Config b) h = cc h

-- ---- files

pub record ShownFile : Type 0 where
  pub path : Bytes
  pub item : Shown
  pub len : ℕ

abbrev pub seen_file : FileParts → ShownFile
seen_file f = record { path = f.path; item = seen f.item; len = f.len }

abbrev pub shown : List (Bytes × FileParts) → List (Bytes × ShownFile)
shown [] = []
shown (e ∷ es) = (e.0, seen_file e.1) ∷ shown es

-- files of which the same is seen
abbrev pub Alike : FileMap → FileMap → Type 0
Alike f g = shown (entries f) ≡ shown (entries g)

shown-put : (k : Bytes) (v : FileParts) (es : List (Bytes × FileParts)) → shown (put bytes_order k v es) ≡ put bytes_order k (seen_file v) (shown es)
shown-put k v [] = refl
shown-put k v (e ∷ es) = by (bytes_order k e.0) (shown-put k v es)
  where
    by : (o : Ordering) → shown (put bytes_order k v es) ≡ put bytes_order k (seen_file v) (shown es)
        → shown (by_order o ((k, v) ∷ e ∷ es) ((e.0, v) ∷ es) (e ∷ put bytes_order k v es))
        ≡ by_order o ((k, seen_file v) ∷ (e.0, seen_file e.1) ∷ shown es) ((e.0, seen_file v) ∷ shown es) ((e.0, seen_file e.1) ∷ put bytes_order k (seen_file v) (shown es))
    by Less h = refl
    by Equal h = refl
    by Greater h = ap (λ x. (e.0, seen_file e.1) ∷ x) h

shown-where : (p : Bytes → Bool) (es : List (Bytes × FileParts)) → shown (where_key bytes_order p es) ≡ where_key bytes_order p (shown es)
shown-where p [] = refl
shown-where p (e ∷ es) = by (p e.0) (shown-where p es)
  where
    by : (b : Bool) → shown (where_key bytes_order p es) ≡ where_key bytes_order p (shown es)
        → shown (cond b (e ∷ where_key bytes_order p es) (where_key bytes_order p es)) ≡ cond b ((e.0, seen_file e.1) ∷ where_key bytes_order p (shown es)) (where_key bytes_order p (shown es))
    by true h = ap (λ x. (e.0, seen_file e.1) ∷ x) h
    by false h = h

shown-find : (q : Bytes) (es : List (Bytes × FileParts)) → option_map seen_file (find bytes_order q es) ≡ find bytes_order q (shown es)
shown-find q [] = refl
shown-find q (e ∷ es) = by (eq_by_cmp bytes_order q e.0) (shown-find q es)
  where
    by : (b : Bool) → option_map seen_file (find bytes_order q es) ≡ find bytes_order q (shown es)
        → option_map seen_file (cond b (Some e.1) (find bytes_order q es)) ≡ cond b (Some (seen_file e.1)) (find bytes_order q (shown es))
    by true h = refl
    by false h = h

pub alike-insert : (f g : FileMap) (k : Bytes) (v w : FileParts) → Alike f g → seen_file v ≡ seen_file w → Alike (insert f k v) (insert g k w)
alike-insert f g k v w h e =
    ap shown (entries-insert total_order f k v) ∙ shown-put k v (entries f) ∙ ap (λ x. put bytes_order k x (shown (entries f))) e
    ∙ ap (put bytes_order k (seen_file w)) h ∙ sym (shown-put k w (entries g)) ∙ sym (ap shown (entries-insert total_order g k w))

pub alike-remove : (f g : FileMap) (k : Bytes) → Alike f g → Alike (remove f k) (remove g k)
alike-remove f g k h =
    let keep : Bytes → Bool = λ x. not (eq_by_cmp bytes_order k x) in
    ap shown (entries_without f k) ∙ shown-where keep (entries f) ∙ ap (where_key bytes_order keep) h ∙ sym (shown-where keep (entries g)) ∙ sym (ap shown (entries_without g k))

pub alike-get : (f g : FileMap) (q : Bytes) → Alike f g → option_map seen_file (get f q) ≡ option_map seen_file (get g q)
alike-get f g q h =
    ap (option_map seen_file) (get-entries f q) ∙ shown-find q (entries f) ∙ ap (find bytes_order q) h ∙ sym (shown-find q (entries g)) ∙ sym (ap (option_map seen_file) (get-entries g q))

there : (a b : Option FileParts) → option_map seen_file a ≡ option_map seen_file b → SameThere a b
there None None h = tt
there None (Some b) h = absurd (cc h)
there (Some a) None h = absurd (cc h)
there (Some a) (Some b) h =
    let same : seen_file a ≡ seen_file b = cc h in
    record { path = ap (λ (x : ShownFile). x.path) same; item = seen-same a.item b.item (ap (λ (x : ShownFile). x.item) same); len = ap (λ (x : ShownFile). x.len) same }

pub alike-same : (f g : FileMap) → Alike f g → SameFiles f g
alike-same f g h path = there (get f path) (get g path) (alike-get f g path h)
