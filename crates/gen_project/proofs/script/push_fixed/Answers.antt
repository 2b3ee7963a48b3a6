use Rattle.std.proofs.Common.{◌++◌, ap, ◌∙◌, append_assoc, codes}
use Rattle.gen_project.specs.Fixed.{config_text, models_text}
use Rattle.gen_project.specs.Script.{put, put_fixed}
use Rattle.gen_project.proofs.script.push_fixed.Goals as goal

pub returns : goal.returns
unfolding put_fixed config_text models_text
returns c =
    c.in_ok-push_put-2.ensures
    ∙ ap (λ x. x ++ put (codes "general.pysa") models_text) c.in_ok-push_put.ensures
    ∙ append_assoc c.args.script.now.bytes.items (put (codes "taint.config") config_text) (put (codes "general.pysa") models_text)
