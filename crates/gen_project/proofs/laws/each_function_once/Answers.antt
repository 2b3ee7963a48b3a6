use Rattle.std.proofs.Common.{◌≡◌, ◌*◌, min, ap, ◌∙◌, arith}
use Rattle.gen_project.specs.Joined.{joined}
use Rattle.gen_project.specs.Modules.{function_at, module_count}
use Rattle.gen_project.proofs.Parts.{parts-joined}
use Rattle.gen_project.proofs.laws.each_function_once.Goals as goal

pub returns : goal.returns
returns c number size =
    let all : min (50 * module_count size) size ≡ size = omega arith in
    parts-joined (function_at number size) size (module_count size)
    ∙ ap (λ t. joined (function_at number size) 0 t) all
