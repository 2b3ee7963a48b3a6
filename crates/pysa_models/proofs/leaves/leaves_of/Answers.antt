use Rattle.std.proofs.Common.{◌∙◌, ap, map, sym, ◌&&◌}
use Rattle.std.specs.List.{list_any}
use Rattle.std.proofs.lemmas.List.Sorted.{IsPermutation-map, list_any-IsPermutation}
use Rattle.rv_names.specs.Keys.{parts_equal}
use Rattle.pysa_models.specs.Leaves.{is_leaf}
use Rattle.pysa_models.specs.Marks.{is_known}
use Rattle.pysa_models.specs.Models.{marks_in}
use Rattle.pysa_models.specs.Views.{model_at}
use Rattle.pysa_models.proofs.Rising.{rises}
use Rattle.pysa_models.proofs.leaves.leaves_of.Goals as goal

pub returns : goal.returns
returns c = record {
  rising = rises c.sort.new.self.keys c.in_ok-sort.ensures.sorted c.sort.ensures.unique;
  members = λ q.
      c.sort.ensures.reordered.2 q
      ∙ c.in_ok-names.ensures.same q
      ∙ ap (λ ms. is_leaf c.args.config.now (map model_at ms) q) c.as_slice.ensures.value
      ∙ sym (list_any-IsPermutation (λ m. list_any (is_known c.args.config.now) (marks_in m.decl) && parts_equal m.decl.name q) _ _ (IsPermutation-map model_at _ _ c.in_ok-arranged.ensures));
}
