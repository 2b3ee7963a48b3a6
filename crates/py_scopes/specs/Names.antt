-- What is asked of the names of one scope.
use Rattle.std.specs.Prelude.{Bool, ◌&&◌, List, [], ◌∷◌, filter, Option, Some, None}
use Rattle.std.specs.List.{list_any}
use Rattle.rv_names.specs.Keys.{Bytes}
use Rattle.py_ast.specs.Bindings.{is_of}
use Rattle.py_ast.specs.ScopeFaults.{binds, is_variable}
use Rattle.py_ast.specs.declared.binding.Binding.{Binding}

abbrev pub only_one : List Binding → Option Binding
only_one [] = None
only_one (b ∷ []) = Some b
only_one (b ∷ c ∷ bs) = None

-- the only binding of a name, where it has no other
abbrev pub only_binding : Bytes → List Binding → Option Binding
only_binding n bs = only_one (filter (λ b. is_of n b && binds b.kind) bs)

-- the only annotation of a name, where it has no other
abbrev pub only_annotation : Bytes → List Binding → Option Binding
only_annotation n bs = only_one (filter (λ b. is_of n b && b.annotated) bs)

abbrev pub is_named : Bytes → List Binding → Bool
is_named n bs = list_any (is_of n) bs

abbrev pub is_variable_of : Bytes → List Binding → Bool
is_variable_of n bs = list_any (λ b. is_of n b && is_variable b.kind) bs
