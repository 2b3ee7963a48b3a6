-- Which uses are listed.
use Rattle.std.proofs.Common.{◌≡◌, [], ◌∷◌, filter, refl, ap}
use Rattle.py_ast.specs.Uses.{Uses}
use Rattle.py_scopes.specs.Listed.{is_wanted}
use Rattle.py_scopes.specs.declared.uses.Wanted.TheVariants.{All}

pub all_listed : (us : Uses) → filter (is_wanted All) us ≡ us
all_listed [] = refl
all_listed (u ∷ us) = ap (λ vs. u ∷ vs) (all_listed us)
