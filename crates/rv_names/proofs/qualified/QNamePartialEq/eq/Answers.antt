use Rattle.std.proofs.Common.{◌≡◌, sym, ◌∙◌}
use Rattle.rv_names.specs.Keys.{parts_equal}
use Rattle.rv_names.proofs.KeyLemmas.{parts_equal-decides}
use Rattle.rv_names.proofs.qualified.QNamePartialEq.eq.Goals as goal

pub returns-clause-same : goal.returns-clause-same
returns-clause-same c =
    let value : c.eq.result ≡ parts_equal c.args.self.now c.args.other.now = rw (← c.self.view_is, ← c.other.view_is) c.eq.ensures in
    let same = parts_equal-decides c.args.self.now c.args.other.now in
    (λ h. same.0 (sym value ∙ h), λ h. value ∙ same.1 h)
