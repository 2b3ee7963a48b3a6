use Rattle.pysa_models.proofs.Lists.{noted_model}
use Rattle.pysa_models.proofs.notes.note_model.Goals as goal

pub returns : goal.returns
returns c =
    noted_model c.args.config.now c.args.path.now c.args.decl.now c.as_slice.result.now c.as_slice-2.result.now c.args.notes.now.items c.note_parameters.new.notes.items c.note_marks.new.notes.items c.as_slice.ensures c.as_slice-2.ensures c.in_ok-note_parameters.ensures c.in_ok-note_marks.ensures
