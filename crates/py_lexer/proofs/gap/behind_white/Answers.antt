use Rattle.std.proofs.Common.{◌≡◌, ◌∷◌, ◌-◌, ◌∙◌, length, take, drop, inl, refl, arith, rules}
use Rattle.py_lexer.specs.declared.state.Mode.TheVariants as modes
use Rattle.py_lexer.proofs.QuickLemmas.{parts_at}
use Rattle.py_lexer.proofs.Blanks.{inside_here}
use Rattle.py_lexer.proofs.gap.behind_white.Goals as goal

pub returns-clause-rest : goal.returns-clause-rest
returns-clause-rest c =
    let chars = c.args.chars.now in
    let rest = take (length chars - 1) (drop 1 chars) in
    let s = c.args.state.now in
    let told = c.in_ok-len.ensures in
    let parts : chars ≡ c.first-item.result ∷ rest = parts_at chars c.first-item.result c.in-len1-up.len_at_least c.first-item.is in
    let mode : s.mode ≡ modes.Inside = search rules in
    record {
      n = c.in_ok-len.len;
      parts = c.split_at.ensures.back;
      within = rw parts (omega (arith, told.within));
      in_line = rw parts told.in_line;
      between = s;
      passed = λ at. told.passed at s ∙ inside_here at s c.first-item.result rest chars parts mode;
      entered = inl refl;
    }
