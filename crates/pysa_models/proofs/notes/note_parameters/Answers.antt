use Rattle.std.specs.List.{flat_map}
use Rattle.pysa_syntax.specs.declared.decl.DeclParam.{DeclParam}
use Rattle.pysa_models.specs.Notes.{notes_in}
use Rattle.pysa_models.proofs.Lists.{notes_joined, stepped}
use Rattle.std.proofs.Common.{◌+◌, drop}
use Rattle.pysa_models.proofs.notes.note_parameters.Goals as goal

pub loop-param-preserved : goal.loop-param-preserved
loop-param-preserved c =
    let config = c.args.config.now in
    let path = c.args.path.now in
    let p = c.param-item.result in
    let later = flat_map (λ (x : DeclParam). x.marks) (drop (c.loop-param.param-index + 1) c.args.params.now) in
    let grown = rw c.as_slice.ensures at c.in_ok-note_marks.ensures in
    stepped {P = DeclParam} (λ ps. notes_in config path (flat_map (λ (x : DeclParam). x.marks) ps)) c.args.params.now c.loop-param.param-index p _ _ (notes_in config path p.marks) _ c.loop-param-test.true c.param-item.is (notes_joined config path p.marks later) grown c.loop-param.invariant
