-- Whether all uses of a name keep its object.
use Rattle.std.specs.Prelude.{true, ◌&&◌, Option, Some, None}
use Rattle.rv_names.specs.Keys.{Bytes}
use Rattle.py_ast.specs.Owned.{keeps, keeps_list, all_used}
use Rattle.py_ast.specs.Uses.{Uses}
use Rattle.py_ast.specs.declared.binding.Use.{Use}
use Rattle.py_scopes.specs.declared.usage.Kept.{Kept}

abbrev pub kept : Option Kept → Kept
kept None = record { object = true; list = true }
kept (Some k) = k

abbrev pub with_use : Use → Kept → Kept
with_use u k = record { object = k.object && keeps u.how; list = k.list && keeps_list u.how }

abbrev pub kept_in : Bytes → Uses → Kept
kept_in n us = record { object = all_used keeps n us; list = all_used keeps_list n us }

abbrev pub both_kept : Kept → Kept → Kept
both_kept a b = record { object = a.object && b.object; list = a.list && b.list }
