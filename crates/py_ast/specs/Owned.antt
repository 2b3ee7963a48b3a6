-- Owned names, which stand for objects that nothing else leads to: the first parameter of an `__init__` that is bound nowhere else, and a
-- local that is bound once, outside of loops, by a statement of its own to a list or dictionary display. Every use of the name
-- lets nobody keep the object.
use Rattle.std.specs.Prelude.{Bool, true, false, cond, ◌&&◌, ◌||◌, not, List, [], ◌∷◌, ◌++◌, filter}
use Rattle.std.specs.List.{list_all}
use Rattle.rv_names.specs.Keys.{Bytes, bytes_equal}
use Rattle.py_ast.specs.Kinds.{is_init}
use Rattle.py_ast.specs.Bindings.{is_of}
use Rattle.py_ast.specs.Uses.{Uses}
use Rattle.py_ast.specs.ScopeFaults.{binds, parameters, locals, used_in_body}
use Rattle.py_ast.specs.declared.binding.Binding.{Binding}
use Rattle.py_ast.specs.declared.binding.BindingKind.{BindingKind}
use Rattle.py_ast.specs.declared.binding.BindingKind.TheVariants as kinds
use Rattle.py_ast.specs.declared.binding.Display.TheVariants as displays
use Rattle.py_ast.specs.declared.binding.How.{How}
use Rattle.py_ast.specs.declared.binding.How.TheVariants as hows
use Rattle.py_ast.specs.declared.statement.Function.{Function, out-Function}

-- the uses that leave a name owned: base of a read or a write, gone over or unpacked, returned
abbrev pub keeps : How → Bool
keeps hows.Read = true
keeps hows.Written = true
keeps hows.Iterated = true
keeps hows.Returned = true
keeps _ = false

-- and those that leave a list owned, to which values may be appended too
abbrev pub keeps_list : How → Bool
keeps_list hows.Appended = true
keeps_list how = keeps how

abbrev pub all_used : (How → Bool) → Bytes → Uses → Bool
all_used keep n us = list_all (λ u. not (bytes_equal u.name n) || keep u.how) us

abbrev pub is_one : List Binding → Bool
is_one (b ∷ []) = true
is_one _ = false

abbrev pub is_bound_once : Bytes → List Binding → Bool
is_bound_once n bs = is_one (filter (λ b. is_of n b && binds b.kind) bs)

-- whether the value of a binding is owned, as long as all uses keep it
abbrev pub is_kept : Bytes → Uses → BindingKind → Bool
is_kept n us (kinds.Value displays.List) = all_used keeps_list n us
is_kept n us (kinds.Value displays.Dictionary) = all_used keeps n us
is_kept n us _ = false

abbrev pub owns : List Binding → Uses → Binding → Bool
owns bs us b = not b.looped && is_bound_once b.name bs && is_kept b.name us b.kind

abbrev pub owns_first : List Binding → Uses → Binding → Bool
owns_first bs us b = is_bound_once b.name bs && all_used keeps b.name us

-- the first parameter, where it is owned
abbrev pub first_owned : List Binding → Uses → List Binding → List Binding
first_owned bs us [] = []
first_owned bs us (p ∷ ps) = filter (owns_first bs us) (p ∷ [])

abbrev pub owned_self : Bool → List Binding → Uses → Function → List Binding
owned_self method bs us f = cond (method && is_init (out-Function f).name.name) (first_owned bs us (parameters f)) []

-- the bindings of the names that a function owns, where it is a method or not
abbrev pub owned : Bool → Function → List Binding
owned method f = owned_self method (locals f) (used_in_body f) f ++ filter (owns (locals f) (used_in_body f)) (locals f)
