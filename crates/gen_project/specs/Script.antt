-- The script of a project: the commands that put its files, and the command that ends them.
use Rattle.std.specs.Prelude.{ℕ, List, ◌++◌, codes, length}
use Rattle.std.specs.Fmt.{decimal}
use Rattle.gen_project.specs.Fixed.{config_text, models_text}
use Rattle.gen_project.specs.Joined.{joined}
use Rattle.gen_project.specs.Modules.{module_count, module_text}

-- the command that puts a file: its path and its length in bytes, its bytes and a line end
unfoldable pub put : List ℕ → List ℕ → List ℕ
put path text = codes "put " ++ path ++ codes " " ++ decimal (length text) ++ codes "\n" ++ text ++ codes "\n"

-- the files that each project has
unfoldable pub put_fixed : List ℕ
put_fixed = put (codes "taint.config") config_text ++ put (codes "general.pysa") models_text

unfoldable pub put_module : ℕ → ℕ → ℕ → List ℕ
put_module number size own = put (codes "m" ++ decimal own ++ codes ".py") (module_text number size own)

abbrev pub script : ℕ → ℕ → List ℕ
script number size = put_fixed ++ joined (put_module number size) 0 (module_count size) ++ codes "end\n"
