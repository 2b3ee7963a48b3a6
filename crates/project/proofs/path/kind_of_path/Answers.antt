use Rattle.std.proofs.Common.{◌≡◌, false, cond, Option, Some, None, sym, ap, ◌∙◌}
use Rattle.std.specs.Prelude.{codes, eqb, option_map}
use Rattle.std.specs.List.{ends_with}
use Rattle.std.proofs.lemmas.Str.Pattern.{ends_text}
use Rattle.rv_names.specs.Keys.{Bytes, Parts, bytes_equal}
use Rattle.project.specs.Paths.{kind_of_path, models_end, module_at}
use Rattle.project.specs.declared.path.PathKind.TheVariants as kinds
use Rattle.project.proofs.path.kind_of_path.Goals as goal

by_module : (path : Bytes) (o : Option Parts) → bytes_equal path (codes "taint.config") ≡ false → ends_with eqb path models_end ≡ false → o ≡ module_at path → option_map kinds.Module o ≡ kind_of_path path
by_module path o a b e =
    ap (option_map kinds.Module) e
    ∙ ap (λ t. cond t (Some kinds.Models) (option_map kinds.Module (module_at path))) (sym b)
    ∙ ap (λ t. cond t (Some kinds.Config) (cond (ends_with eqb path models_end) (Some kinds.Models) (option_map kinds.Module (module_at path)))) (sym a)

pub returns-in-None : goal.returns-in-None
returns-in-None c = by_module c.args.path.now None (sym c.eq.ensures ∙ c.if-eq.false) (sym (ends_text c.ends_with.result models_end c.args.path.now c.ends_with.ensures.cases) ∙ c.if-ends_with.false) (sym c.in-None.is ∙ c.in_ok-module_at.ensures)

pub returns-in-Some : goal.returns-in-Some
returns-in-Some c = by_module c.args.path.now (Some c.in-Some.name) (sym c.eq.ensures ∙ c.if-eq.false) (sym (ends_text c.ends_with.result models_end c.args.path.now c.ends_with.ensures.cases) ∙ c.if-ends_with.false) (sym c.in-Some.is ∙ c.in_ok-module_at.ensures)
