use Rattle.std.specs.Prelude.{⊤}
use Rattle.check_stream_laws.proofs.Wholes.{one_check}
use Rattle.check_stream_laws.proofs.laws.one_check.Goals as goal

pub returns : goal.returns
returns c = λ input a b m n short x y. one_check input ⊤ ⊥ (λ h. h) short m n a b x y
