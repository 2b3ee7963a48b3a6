-- What clauses see of all that models declare.
use Rattle.std.specs.Prelude.{List, Option}
use Rattle.std.specs.Map.{lookup}
use Rattle.rv_names.specs.Keys.{Bytes, Parts, parts_equal}
use Rattle.py_ast.specs.declared.remark.Remark.{Remark}
use Rattle.pysa_models.specs.declared.declaration.Declaration.{Declaration}

pub record DeclaredParts : Type 0 where
  pub kinds : List Bytes
  pub leaves : List Parts
  pub names : List (Parts × Declaration)
  pub notes : List Remark

-- what is declared of a name
abbrev pub declared_of : DeclaredParts → Parts → Option Declaration
declared_of d q = lookup (parts_equal q) d.names
