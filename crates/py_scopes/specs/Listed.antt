-- Which uses of names are listed.
use Rattle.std.specs.Prelude.{Bool, true}
use Rattle.py_ast.specs.ScopeFaults.{is_called}
use Rattle.py_ast.specs.declared.binding.How.{How}
use Rattle.py_ast.specs.declared.binding.Use.{Use}
use Rattle.py_scopes.specs.declared.uses.Wanted.{Wanted}
use Rattle.py_scopes.specs.declared.uses.Wanted.TheVariants.{All, Calls}

abbrev pub is_how_wanted : Wanted → How → Bool
is_how_wanted All how = true
is_how_wanted Calls how = is_called how

abbrev pub is_wanted : Wanted → Use → Bool
is_wanted wanted u = is_how_wanted wanted u.how
