-- What is read from a declaration: its models of one name, joined.
use Rattle.std.specs.Prelude.{Bool, false, ◌&&◌, List, Option, Some, None, filter}
use Rattle.std.specs.List.{list_any, flat_map}
use Rattle.rv_names.specs.Keys.{Bytes, bytes_equal}
use Rattle.path_trees.specs.declared.marks.Mark.{Mark}
use Rattle.pysa_models.specs.declared.declaration.Declaration.{Declaration}
use Rattle.pysa_models.specs.declared.declaration.Parameter.{Parameter}

abbrev pub is_the_name : Bytes → Option Bytes → Bool
is_the_name name None = false
is_the_name name (Some n) = bytes_equal n name

-- the parameter has that name
abbrev pub is_named : Bytes → Parameter → Bool
is_named name p = is_the_name name p.name

-- the marks of the parameters of that name, in order of model and place
abbrev pub marks_named : Bytes → List Parameter → List Mark
marks_named name ps = flat_map (λ p. p.marks) (filter (is_named name) ps)

abbrev pub parameter_marks : Bytes → Declaration → List Mark
parameter_marks name d = flat_map (λ s. marks_named name s.parameters) d.signatures

-- whether `TaintInTaintOut` stands on one of the parameters of that name
abbrev pub has_through : Bytes → List Parameter → Bool
has_through name = list_any (λ p. is_named name p && p.through)

abbrev pub is_through_at : Bytes → Declaration → Bool
is_through_at name d = list_any (λ s. has_through name s.parameters) d.signatures

-- the marks of the result
abbrev pub result_marks : Declaration → List Mark
result_marks d = flat_map (λ s. s.result) d.signatures

-- whether `@SkipObscure` stands before one of the models
abbrev pub skips_obscure : Declaration → Bool
skips_obscure d = list_any (λ s. s.skip) d.signatures
