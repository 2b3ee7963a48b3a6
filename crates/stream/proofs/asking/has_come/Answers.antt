use Rattle.std.proofs.Common.{◌≢◌, List, ℕ, subst}
use Rattle.std.specs.Prelude.{All}
use Rattle.std.proofs.lemmas.List.{take_rest}
use Rattle.script.specs.Grammar.{line_end}
use Rattle.stream.proofs.Waits.{lacks_line}
use Rattle.stream.proofs.asking.has_come.Goals as goal

pub returns-else-bytes-until : goal.returns-else-bytes-until
returns-else-bytes-until c = λ front lacking.
    lacks_line c.args.wait c.in-Line.from c.in-Line.until c.args.bytes.now c.args.from c.in-Line.is front
    (subst (λ (x : List ℕ). All (λ b. b ≢ line_end) x) (take_rest c.args.bytes.now c.args.from) (c.has_line_end.ensures lacking))
