use Rattle.std.specs.Prelude.{⊤}
use Rattle.check_stream_laws.proofs.Endings.{one_ending}
use Rattle.check_stream_laws.proofs.laws.one_ending.Goals as goal

pub returns : goal.returns
returns c = λ place progress rest a b m n short x y. one_ending place ⊤ ⊥ progress rest a b m n (λ h. h) short x y
