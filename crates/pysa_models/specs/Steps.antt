-- One more model of a name, joined with those before it.
use Rattle.std.specs.Prelude.{ℕ, ◌++◌, List, [], ◌∷◌, Option, Some, unwrap_or, cond}
use Rattle.rv_names.specs.Keys.{Parts, parts_equal}
use Rattle.taint_config.specs.Config.{ConfigParts}
use Rattle.pysa_models.specs.declared.declaration.Declaration.{Declaration}
use Rattle.pysa_models.specs.Marks.{marks_of}
use Rattle.pysa_models.specs.Models.{ModelAt, leaf_number, signature_of}

abbrev pub nothing : Declaration
nothing = record { signatures = []; uses = [] }

-- a declaration with one more model
abbrev pub with_model : ConfigParts → ℕ → Declaration → ModelAt → Declaration
with_model c leaf d m = cond m.decl.callable
    (record { signatures = d.signatures ++ signature_of c leaf m ∷ []; uses = d.uses })
    (record { signatures = d.signatures; uses = d.uses ++ marks_of c leaf m.decl.marks })

-- what a name has after one more model, which may be of another name
abbrev pub joined_at : ConfigParts → List Parts → ModelAt → Parts → Option Declaration → Option Declaration
joined_at c leaves m q old = cond (parts_equal m.decl.name q)
    (Some (with_model c (leaf_number leaves m.decl.name) (unwrap_or old nothing) m))
    old
