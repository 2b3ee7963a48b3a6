use Rattle.taint_config.specs.Shapes.{known_keys}
use Rattle.taint_config.proofs.Keys.{no_keys}
use Rattle.taint_config.proofs.notes.note_object.Goals as goal

pub returns-in-None : goal.returns-in-None
returns-in-None c = no_keys (known_keys c.args.shape) _ _ c.in-None.ensures
