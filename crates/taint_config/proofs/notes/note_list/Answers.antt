use Rattle.taint_config.proofs.Json.{values_given}
use Rattle.taint_config.proofs.notes.note_list.Goals as goal

pub returns-in-Some : goal.returns-in-Some
returns-in-Some c = rw (values_given c.args.list.now _ c.in-Some.ensures) (rw c.as_slice.ensures.value at c.note_items.ensures)
