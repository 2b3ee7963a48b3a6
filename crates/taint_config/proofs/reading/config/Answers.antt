use Rattle.std.proofs.Common.{◌∙◌}
use Rattle.std.proofs.lemmas.Result.{err_from_is_err_and}
use Rattle.serde_json.specs.View.{view}
use Rattle.taint_config.proofs.ConfigLaws.{read_ill, read_well, facts, config_is}
use Rattle.taint_config.proofs.reading.config.Goals as goal

pub new-requires : goal.new-requires
new-requires c = facts (view c.args.value.now) _ (read_well (view c.args.value.now) _ c.in_ok-parts.ensures).1

pub returns-clause-faultless : goal.returns-clause-faultless
returns-clause-faultless c = (read_well (view c.args.value.now) _ c.in_ok-parts.ensures).0

pub returns-clause-config : goal.returns-clause-config
returns-clause-config c = c.new.ensures ∙ config_is (view c.args.value.now) _ _ (read_well (view c.args.value.now) _ c.in_ok-parts.ensures).1 c.in_ok-notes.ensures

pub returns-in_err-parts-clause-refused : goal.returns-in_err-parts-clause-refused
returns-in_err-parts-clause-refused c =
    let p = err_from_is_err_and c.from_residual.result c.from_residual.ensures.1 in
    rw (p.1, p.2) (λ other. read_ill (view c.args.value.now) _ (c.in_err-parts.ensures other))
