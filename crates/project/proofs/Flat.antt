-- No file is hidden while no package's own file was put.
use Rattle.std.proofs.Common.{◌≡◌, Bool, true, false, [], refl, sym, ap, ◌∙◌, subst}
use Rattle.std.specs.Prelude.{◌||◌, IsTrue, is_some}
use Rattle.std.specs.Map.{remove_entry}
use Rattle.std.specs.BTreeMap.{insert_entry, is_at}
use Rattle.std.specs.FinMap.{empty, get-empty, insert, is_sorted, remove}
use Rattle.rv_names.specs.Keys.{Bytes, bytes_order}
use Rattle.project.specs.declared.neighbour.Neighbour.{Neighbour}
use Rattle.project.specs.declared.neighbour.Neighbour.TheVariants.{Nobody, Hider, Hidden}
use Rattle.project.specs.Files.{FileMap, IsFlatUnless, hides, is_hidden_by}
use Rattle.project.specs.Items.{FileParts}
use Rattle.project.specs.Paths.{neighbour_of}
use Rattle.project.proofs.Given.{get_there, gone_here, gone_there}
use Rattle.project.proofs.Maps.{Entries, files_in, files_insert, files_none, files_remove, rises}
use Rattle.project.proofs.Neighbours.{hidden}
use Rattle.project.proofs.Projects.{one_or_other}

left : (a b : Bool) → a || b ≡ false → a ≡ false
left true b h = absurd cc
left false b h = refl

right : (a b : Bool) → a || b ≡ false → b ≡ false
right true b h = absurd cc
right false b h = h

pub flat_none : (packages : Bool) → IsFlatUnless packages empty
flat_none packages none path = go (neighbour_of path)
  where
    go : (b : Neighbour) → is_hidden_by empty b ≡ false
    go Nobody = refl
    go (Hidden plain) = refl
    go (Hider init) = ap is_some (get-empty {X = FileParts} bytes_order init)

pub flat_put : (m : FileMap) (k : Bytes) (v : FileParts) (packages : Bool) → IsFlatUnless packages m → IsFlatUnless (packages || hides (neighbour_of k)) (insert m k v)
flat_put m k v packages flat none path = go (neighbour_of path) refl
  where
    go : (b : Neighbour) → neighbour_of path ≡ b → is_hidden_by (insert m k v) b ≡ false
    go Nobody e = refl
    go (Hidden plain) e = refl
    go (Hider init) e =
        one_or_other (is_hidden_by (insert m k v) (Hider init) ≡ false) init k
        (λ s. let is : hides (neighbour_of k) ≡ true = ap hides (hidden k path (e ∙ ap Hider s)) in let none_of : hides (neighbour_of k) ≡ false = right packages (hides (neighbour_of k)) none in absurd cc)
        (λ n. ap is_some (get_there m k v init n) ∙ ap (is_hidden_by m) (sym e) ∙ flat (left packages (hides (neighbour_of k)) none) path)

pub flat_remove : (m : FileMap) (k : Bytes) (packages : Bool) → IsFlatUnless packages m → IsFlatUnless packages (remove m k)
flat_remove m k packages flat none path = go (neighbour_of path) refl
  where
    go : (b : Neighbour) → neighbour_of path ≡ b → is_hidden_by (remove m k) b ≡ false
    go Nobody e = refl
    go (Hidden plain) e = refl
    go (Hider init) e =
        one_or_other (is_hidden_by (remove m k) (Hider init) ≡ false) init k
        (λ s. ap (λ q. is_hidden_by (remove m k) (Hider q)) s ∙ ap is_some (gone_here m k))
        (λ n. ap is_some (gone_there m k init n) ∙ ap (is_hidden_by m) (sym e) ∙ flat none path)

-- ---- of the list of entries

pub list_none : (packages : Bool) → IsFlatUnless packages (files_in [])
list_none packages = subst (IsFlatUnless packages) (sym files_none) (flat_none packages)

pub list_put : (es : Entries) (k : Bytes) (v : FileParts) (packages does_hide : Bool) → IsTrue (is_sorted bytes_order es) → IsFlatUnless packages (files_in es) → does_hide ≡ hides (neighbour_of v.path) → v.path ≡ k
    → IsFlatUnless (packages || does_hide) (files_in (insert_entry bytes_order es k v))
list_put es k v packages does_hide rising flat hides_is path_is =
    subst (IsFlatUnless (packages || does_hide)) (sym (files_insert es k v (rises es rising)))
    (subst (λ b. IsFlatUnless (packages || b) (insert (files_in es) k v)) (sym (hides_is ∙ ap (λ p. hides (neighbour_of p)) path_is)) (flat_put (files_in es) k v packages flat))

pub list_remove : (es : Entries) (k : Bytes) (packages : Bool) → IsTrue (is_sorted bytes_order es) → IsFlatUnless packages (files_in es) → IsFlatUnless packages (files_in (remove_entry (is_at (bytes_order k)) es))
list_remove es k packages rising flat =
    subst (IsFlatUnless packages) (sym (files_remove es k (rises es rising))) (flat_remove (files_in es) k packages flat)
