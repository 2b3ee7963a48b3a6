use Rattle.std.proofs.Common.{refl, length}
use Rattle.std.proofs.lemmas.Result.{IfOk-weaker}
use Rattle.check_stream.proofs.Edits.{puts_misread, puts_read}
use Rattle.check_stream.proofs.session.Session.put.Goals as goal

pub returns-in-Err : goal.returns-in-Err
returns-in-Err c =
    IfOk-weaker c.misread.result _ _ (λ line refuses. puts_misread c.args.self.now _ c.misread.new.self c.args.path c.as_str.result.now c.args.file.now line.items c.in-Err.fault
    c.self.view_is c.as_str.ensures c.in-Err.ensures.refused refuses) c.misread.ensures

pub returns : goal.returns
returns c =
    IfOk-weaker c.edit.result _ _ (λ line done. puts_read c.args.self.now _ c.edit.new.self c.args.path c.as_str.result.now c.in_ok-copy.field-0 c.args.file.now line.items c.in-Ok.item c.in_ok-item-in-Ok.item (length c.args.file.now)
    c.self.view_is c.as_str.ensures c.in_ok-copy.ensures c.in_ok-item-in-Ok.ensures.ok refl c.in-Ok.ensures.accepted done) c.edit.ensures
