-- The names of notes, as they are printed.
use Rattle.std.specs.Prelude.{ℕ, List, codes}
use Rattle.py_ast.specs.declared.remark.RemarkKind.{RemarkKind}
use Rattle.py_ast.specs.declared.remark.RemarkKind.TheVariants as kinds

abbrev pub remark_name : RemarkKind → List ℕ
remark_name kinds.BaseCycle = codes "BaseCycle"
remark_name kinds.IgnoredKey = codes "IgnoredKey"
remark_name kinds.Shadowed = codes "Shadowed"
remark_name kinds.UnknownKind = codes "UnknownKind"
remark_name kinds.UnknownParameter = codes "UnknownParameter"
