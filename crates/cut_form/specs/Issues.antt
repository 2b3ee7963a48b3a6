-- The issues of nests of calls: the source's label reaches the sink.
use Rattle.std.specs.Prelude.{Bool, ◌&&◌, if◌then◌else◌, List, [], ◌∷◌, ◌++◌}
use Rattle.std.specs.List.{flat_map, list_any}
use Rattle.py_literals.specs.declared.place.Pos.{Pos}
use Rattle.cut_form.specs.declared.nests.Call.{Call}
use Rattle.cut_form.specs.Declarations.{is_input, is_os_system}
use Rattle.cut_form.specs.Nests.{Calls}

-- Whether the value of a nest has the label of the source. A literal has none. A call has it where its callee declares it, or where its
-- argument has it: where any call of the nest gives the source.
abbrev pub has_label : Calls → Bool
has_label calls = list_any (λ call. is_input call.names) calls

-- there is an issue where the sink is called, and its argument has the label
abbrev pub issue_at : Call → Calls → List Pos
issue_at call argument = if is_os_system call.names && has_label argument then call.at ∷ [] else []

-- the places of the issues, from the outside in, which is their order in the text
abbrev pub issues_in : Calls → List Pos
issues_in [] = []
issues_in (call ∷ argument) = issue_at call argument ++ issues_in argument

abbrev pub issues_of : List Calls → List Pos
issues_of = flat_map issues_in
