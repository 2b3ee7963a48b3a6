use Rattle.std.proofs.Common.{◌≡◌, ◌∙◌, sym, true, false, inl, inr}
use Rattle.py_lexer.specs.Gap.{gap_next, white_fits}
use Rattle.py_lexer.proofs.Spaces.{margin_behind}
use Rattle.py_lexer.proofs.gap.behind_margin.Goals as goal
use Rattle.py_lexer.proofs.gap.behind_margin.Goals.{then-len-top, else-len-top}

pub returns-clause-rest : goal.returns-clause-rest
returns-clause-rest c =
    let s = c.args.state.now in
    let n = c.spaces_len-len.result in
    let rest = c.split_at.result.1.now in
    let told = c.spaces_len-len.ensures in
    let next : gap_next rest ≡ false = sym c.is_gap_next.ensures ∙ c.if-is_gap_next.false in
    let fits : white_fits s.white n ≡ true = sym c.white_fits.ensures ∙ c.if-not-white_fits.false in
    elim c.if-len-top.branch [
      | then-len-top w ↦ margin_behind s c.if-len-top.state c.args.chars.now rest n c.requires told.value told.within c.split_at.ensures.back next fits (inr (w.if-len-top.true ∙ c.top.ensures, w.state-is))
      | else-len-top w ↦ margin_behind s c.if-len-top.state c.args.chars.now rest n c.requires told.value told.within c.split_at.ensures.back next fits (inl w.state-is)
    ]
