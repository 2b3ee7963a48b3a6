use Rattle.std.proofs.Common.{◌≡◌, Some, true, cond, ap, ◌∙◌, unwrap_or, arith, refl, sym}
use Rattle.std.proofs.lemmas.Grind.{common_steps}
use Rattle.indexmap.specs.Entry.{map_with_value}
use Rattle.indexmap.specs.IndexMap.{get}
use Rattle.rv_names.specs.Keys.{parts_equal}
use Rattle.rv_names.proofs.KeyLemmas.{parts_equal-decides}
use Rattle.pysa_models.specs.Models.{leaf_number}
use Rattle.pysa_models.specs.Steps.{nothing, joined_at, with_model}
use Rattle.pysa_models.specs.Views.{model_at}
use Rattle.pysa_models.proofs.Lists.{written_at}
use Rattle.pysa_models.proofs.joining.join.Goals as goal

pub returns : goal.returns
returns c =
    λ q.
    let name = c.args.model.now.decl.now.name in
    let m = model_at c.args.model.now in
    let config = c.args.config.now in
    let old = c.args.names.now in
    let wanted = with_model config (leaf_number c.args.leaves.now name) (unwrap_or (get parts_equal old q) nothing) m in
    let had : c.or_insert-declaration.result.now ≡ unwrap_or (get parts_equal old name) nothing = grind arith in
    let updates = c.in_ok-names.ensures.update.0 c.add_model.new.declaration in
    let after = map_with_value c.in_ok-names.field-0 c.add_model.new.declaration in
    let written : get parts_equal after q ≡ cond (parts_equal name q) (Some c.add_model.new.declaration) (get parts_equal old q) =
    rw (← c.in_ok-copy.ensures) (updates.0 q) in
    let same : parts_equal name q ≡ true → c.add_model.new.declaration ≡ wanted =
    λ e. c.in_ok-add_model.ensures
    ∙ ap (λ leaf. with_model config leaf c.or_insert-declaration.result.now m) c.number-leaf.ensures
    ∙ ap (λ d. with_model config (leaf_number c.args.leaves.now name) d m) had
    ∙ ap (λ n. with_model config (leaf_number c.args.leaves.now name) (unwrap_or (get parts_equal old n) nothing) m) ((parts_equal-decides name q).0 e) in
    let joined : get parts_equal after q ≡ joined_at config c.args.leaves.now m q (get parts_equal old q) =
    written_at (parts_equal name q) _ _ _ _ wanted written same (λ _. refl) in
    grind (arith, common_steps, joined)
