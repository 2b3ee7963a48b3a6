-- What the models of a name say of it (Pysa's documentation, "Models").
use Rattle.std.specs.Prelude.{ℕ, ◌++◌, not, List, [], ◌∷◌, map, filter, position, Option, Some, None, unwrap_or}
use Rattle.std.specs.Arc.{arc_value}
use Rattle.std.specs.List.{list_any, flat_map}
use Rattle.std.specs.declared.sync.Arc.{Arc}
use Rattle.rv_names.specs.Keys.{Bytes, Parts, parts_equal}
use Rattle.pysa_syntax.specs.declared.decl.Decl.{Decl}
use Rattle.pysa_syntax.specs.declared.decl.DeclParam.{DeclParam}
use Rattle.pysa_syntax.specs.declared.decl.DeclMark.{DeclMark}
use Rattle.taint_config.specs.Config.{ConfigParts}
use Rattle.pysa_models.specs.declared.declaration.Declaration.{Declaration}
use Rattle.pysa_models.specs.declared.declaration.Signature.{Signature}
use Rattle.pysa_models.specs.declared.declaration.Parameter.{Parameter}
use Rattle.pysa_models.specs.Marks.{marks_of, is_through}

-- a model, and the path of the file in which it stands
pub record ModelAt : Type 0 where
  pub path : Bytes
  pub decl : Decl

-- the models of a file
abbrev pub file_models : Bytes → List Decl → List ModelAt
file_models path = map (λ d. record { path = path; decl = d })

-- the models of all files, in order of file and place
abbrev pub all_models : {Z : Type 0} → List (Bytes × Arc (List Decl) Z) → List ModelAt
all_models = flat_map (λ f. file_models f.0 (arc_value f.1))

-- the models of a name
abbrev pub models_of : Parts → List ModelAt → List ModelAt
models_of q = filter (λ m. parts_equal m.decl.name q)

-- the number of a leaf is its place. A name with a mark of a known kind is a leaf, so the other case leaves no trace
abbrev pub leaf_number : List Parts → Parts → ℕ
leaf_number leaves q = unwrap_or (position (parts_equal q) leaves) 0

-- a parameter with its marks by number
abbrev pub parameter_of : ConfigParts → ℕ → DeclParam → Parameter
parameter_of c leaf p = record {
  kind = p.kind;
  name = p.name;
  at = p.at;
  marks = marks_of c leaf p.marks;
  through = list_any is_through p.marks;
}

-- a model with `def`: what it declares of the parameters and of the result
abbrev pub signature_of : ConfigParts → ℕ → ModelAt → Signature
signature_of c leaf m = record {
  path = m.path;
  skip = m.decl.skip;
  parameters = map (parameter_of c leaf) m.decl.params;
  result = marks_of c leaf m.decl.marks;
}

-- what models of one name, whose leaf has that number, declare together: those with `def` a signature each, and those
-- without `def` the marks of reads and writes
abbrev pub together : ConfigParts → ℕ → List ModelAt → Declaration
together c leaf ms = record {
  signatures = map (signature_of c leaf) (filter (λ m. m.decl.callable) ms);
  uses = flat_map (λ m. marks_of c leaf m.decl.marks) (filter (λ m. not m.decl.callable) ms);
}

-- the same, where there are such models
abbrev pub declared_by : ConfigParts → ℕ → List ModelAt → Option Declaration
declared_by c leaf [] = None
declared_by c leaf (m ∷ ms) = Some (together c leaf (m ∷ ms))

-- what is declared of a name: nothing where no model is of that name
abbrev pub declaration : ConfigParts → List Parts → List ModelAt → Parts → Option Declaration
declaration c leaves models q = declared_by c (leaf_number leaves q) (models_of q models)

-- all marks of a model: those of its parameters, and those of its result or of the name
abbrev pub marks_in : Decl → List DeclMark
marks_in d = flat_map (λ p. p.marks) d.params ++ d.marks
