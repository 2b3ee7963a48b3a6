use Rattle.std.proofs.Common.{refl, map}
use Rattle.pysa_models.specs.Models.{marks_in}
use Rattle.pysa_models.specs.Notes.{all_notes, notes_in}
use Rattle.pysa_models.specs.Views.{model_at}
use Rattle.pysa_models.specs.declared.models.Placed.{Placed}
use Rattle.pysa_models.proofs.Lists.{stepped}
use Rattle.pysa_models.proofs.notes.unsorted.Goals as goal

pub loop-model-preserved : goal.loop-model-preserved
loop-model-preserved c =
    let m = c.model-item.result in
    stepped {P = Placed} (λ ms. all_notes c.args.config.now (map model_at ms)) c.args.models.now c.loop-model.model-index m _ _ (notes_in c.args.config.now m.path.now (marks_in m.decl.now)) _ c.loop-model-test.true c.model-item.is refl c.in_ok-note_model.ensures c.loop-model.invariant
