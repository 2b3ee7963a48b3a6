use Rattle.std.proofs.Common.{◌≡◌, ℕ, cond, Bool, true, false, Option, Some, None, refl, sym, ap, ◌∙◌}
use Rattle.std.specs.Prelude.{option_map}
use Rattle.std.specs.Ordering.{eq_by_cmp}
use Rattle.std.specs.Arc.{arc_value}
use Rattle.std.specs.FinMap.{get, get-insert, get-remove}
use Rattle.rv_names.specs.Keys.{bytes_order}
use Rattle.project.specs.declared.edit.Edit.{Edit}
use Rattle.project.specs.declared.edit.Edit.TheVariants as edits
use Rattle.project.specs.declared.item.Item.{Item}
use Rattle.project.specs.Edits.{Hold, ItemMap, after_edit, edited}
use Rattle.project.specs.Files.{FileMap, file_at}
use Rattle.project.specs.Items.{FileParts}
use Rattle.project.proofs.Totals.{total_order}
use Rattle.project.proofs.edit.one_step.Goals as goal

put : (b : Bool) (item : Item) (file : FileParts) (o : Option FileParts) (i : Option Item) → item ≡ file.item → i ≡ option_map (λ f. f.item) o → cond b (Some item) i ≡ option_map (λ (f : FileParts). f.item) (cond b (Some file) o)
put true item file o i e h = ap Some e
put false item file o i e h = h

gone : (b : Bool) (o : Option FileParts) (i : Option Item) → i ≡ option_map (λ f. f.item) o → cond b None i ≡ option_map (λ (f : FileParts). f.item) (cond b None o)
gone true o i h = refl
gone false o i h = h

step : (files : FileMap) (items : ItemMap) (edit : Edit) (len : ℕ) → Hold files items → Hold (edited files edit len) (after_edit items edit)
step files items (edits.Put path item) len h q =
    get-insert total_order items path (arc_value item) q
    ∙ put (eq_by_cmp bytes_order q path) (arc_value item) (file_at path (arc_value item) len) (get files q) (get items q) refl (h q)
    ∙ ap (option_map (λ f. f.item)) (sym (get-insert total_order files path (file_at path (arc_value item) len) q))
step files items (edits.Drop path) len h q =
    get-remove total_order items path q
    ∙ gone (eq_by_cmp bytes_order q path) (get files q) (get items q) (h q)
    ∙ ap (option_map (λ f. f.item)) (sym (get-remove total_order files path q))

pub returns : goal.returns
returns c = step
