-- The callables of all modules are those that the files give.
use Rattle.std.proofs.Common.{◌≡◌, ℕ, ◌+◌, Bool, true, false, cond, List, [], ◌∷◌, None, refl, sym, ap, ◌∙◌, arith}
use Rattle.std.specs.Prelude.{min}
use Rattle.std.specs.List.{cons_option, filter_map}
use Rattle.std.specs.FinMap.{entries}
use Rattle.rv_names.specs.Keys.{Bytes}
use Rattle.project.specs.declared.item.Item.{Item}
use Rattle.project.specs.declared.item.Item.TheVariants as items
use Rattle.project.specs.Callables.{callables, capped, item_callables}
use Rattle.project.specs.Files.{FileMap, given_by_all, is_hidden}
use Rattle.project.specs.Items.{FileParts}
use Rattle.project.specs.Modules.{Placed, callables_in, module_in, module_of_item, modules}
use Rattle.project.proofs.Given.{given_total, weigh}
use Rattle.project.proofs.Totals.{total, total_cons, total_is, total_none}

abbrev own : FileMap → Bytes × FileParts → ℕ
own m e = cond (is_hidden m e.0) 0 (item_callables e.1.item)

abbrev module_callables : Placed → ℕ
module_callables t = callables t.2.tree

one : (path : Bytes) (b : Bool) (i : Item) (rest : List Placed) → total module_callables (cons_option (cond b None (module_of_item path i)) rest) ≡ cond b 0 (item_callables i) + total module_callables rest
one path true i rest = omega arith
one path false (items.Module parsed) rest = total_cons module_callables _ rest
one path false (items.Models decls) rest = omega arith
one path false (items.Config config) rest = omega arith

modules_total : (m : FileMap) (es : List (Bytes × FileParts)) → total module_callables (filter_map (module_in m) es) ≡ total (own m) es
modules_total m [] = total_none module_callables ∙ sym (total_none (own m))
modules_total m (e ∷ es) =
    one e.0 (is_hidden m e.0) e.1.item (filter_map (module_in m) es)
    ∙ ap (λ n. own m e + n) (modules_total m es)
    ∙ sym (total_cons (own m) e es)

capped_cond : (b : Bool) (n : ℕ) → cond b 0 (capped n) ≡ min (cond b 0 n) 4294967295
capped_cond true n = omega arith
capped_cond false n = refl

capped_total : (m : FileMap) (es : List (Bytes × FileParts)) → min (total (weigh m) es) 4294967295 ≡ min (total (own m) es) 4294967295
capped_total m [] = ap (λ n. min n 4294967295) (total_none (weigh m) ∙ sym (total_none (own m)))
capped_total m (e ∷ es) =
    let a = total_cons (weigh m) e es in
    let b = total_cons (own m) e es in
    let c = capped_total m es in
    let d = capped_cond (is_hidden m e.0) (item_callables e.1.item) in
    omega arith

pub capped_given : (m : FileMap) → capped (given_by_all m) ≡ capped (callables_in m)
unfolding callables_in
capped_given m =
    ap capped (given_total m)
    ∙ capped_total m (entries m)
    ∙ ap capped (sym (modules_total m (entries m)))
    ∙ ap capped (sym (total_is module_callables (modules m)))
