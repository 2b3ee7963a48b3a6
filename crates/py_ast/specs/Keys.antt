-- How keys of callables are printed: the names of module and class, and the callable's own, with dots between them.
use Rattle.std.specs.Prelude.{ℕ, List, [], ◌∷◌, ◌++◌, Option, Some, None, codes}
use Rattle.rv_names.specs.Keys.{Bytes, dotted, after_dot}
use Rattle.py_ast.specs.declared.keys.Key.{Key}
use Rattle.py_ast.specs.declared.keys.KeyName.{KeyName}
use Rattle.py_ast.specs.declared.keys.KeyName.TheVariants as names

abbrev pub key_name_text : KeyName → Bytes
key_name_text names.Top = codes "$top"
key_name_text (names.Named n) = n

abbrev pub class_text : Option Bytes → Bytes
class_text None = []
class_text (Some c) = after_dot c

abbrev pub key_text : Key → Bytes
key_text k = dotted k.module ++ class_text k.class ++ after_dot (key_name_text k.name)
