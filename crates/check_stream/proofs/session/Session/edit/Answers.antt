use Rattle.std.proofs.Common.{refl, ap, ◌∙◌, vec_items}
use Rattle.std.proofs.lemmas.Result.{IfOk-weaker}
use Rattle.check_stream.proofs.Edits.{kept_edit, refused_edit}
use Rattle.check_stream.proofs.session.Session.edit.Goals as goal

pub returns-in_ok-kept_line-in-Ok : goal.returns-in_ok-kept_line-in-Ok
returns-in_ok-kept_line-in-Ok c =
    kept_edit c.args.self.now c.self.inside.journal c.edit.new.self c.self.inside.refused c.args.edit c.in-Ok.number c.into_bytes.result.items
    c.self.view_is c.in-Ok.ensures.free c.in-Ok.ensures.journal c.in-Ok.ensures.number (ap vec_items c.into_bytes.ensures.value ∙ c.in_ok-kept_line-in-Ok.ensures)

pub returns-in-Err : goal.returns-in-Err
returns-in-Err c =
    IfOk-weaker c.refuse.result _ _ (λ line refuses. refused_edit c.args.self.now c.self.inside.journal c.edit.new.self c.self.inside.refused c.args.edit c.in-Err.fault c.args.path.now line.items c.refuse.new.self
    c.self.view_is (λ other. c.in-Err.ensures.told c.in-Err.fault other refl) c.in-Err.ensures.err c.requires.path refuses) c.refuse.ensures
