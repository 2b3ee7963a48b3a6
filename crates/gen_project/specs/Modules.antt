-- The modules of a project: modules `m0`, `m1` and so on, of 50 functions each and the rest in the last.
use Rattle.std.specs.Prelude.{ℕ, ◌+◌, ◌-◌, ◌*◌, ◌/◌, ◌%◌, ◌^◌, ◌==◌, List, [], ◌++◌, if◌then◌else◌, codes, min}
use Rattle.std.specs.Fmt.{decimal}
use Rattle.std.specs.Int.{div_ceil}
use Rattle.gen_project.specs.Draws.{draw}
use Rattle.gen_project.specs.Joined.{joined}

-- the number of the module that has the function of that number
abbrev pub home : ℕ → ℕ
home function = function / 50

-- how many modules a project of that many functions has
abbrev pub module_count : ℕ → ℕ
module_count size = div_ceil size 50

-- the call of a function with the parameter `x`, as a module writes it
abbrev pub call : ℕ → ℕ → List ℕ
call own callee =
    if home callee == own
    then codes "f" ++ decimal callee ++ codes "(x)"
    else codes "m" ++ decimal (home callee) ++ codes ".f" ++ decimal callee ++ codes "(x)"

-- the only statement of a function in the module `own`, as the number `y` tells it:
-- a source, a call, a sink on a call's result, or the parameter
abbrev pub statement : ℕ → ℕ → ℕ → List ℕ
statement size own y =
    let kind = (y / 2 ^ 33) % 4 in
    let callee = (y / 2 ^ 35) % size in
    if kind == 0 then codes "return input()"
    else if kind == 1 then codes "return " ++ call own callee
    else if kind == 2 then codes "os.system(" ++ call own callee ++ codes ")"
    else codes "return x"

-- the two lines of a function, as the number `y` tells them
abbrev pub function_text : ℕ → ℕ → ℕ → List ℕ
function_text size function y =
    codes "def f" ++ decimal function ++ codes "(x):\n    " ++ statement size (home function) y ++ codes "\n"

-- the import of a module, which no module has of itself
abbrev pub import_line : ℕ → ℕ → List ℕ
import_line own other =
    if other == own then [] else codes "import m" ++ decimal other ++ codes "\n"

-- the imports of all other modules, in order
abbrev pub imports : ℕ → ℕ → List ℕ
imports size own = joined (import_line own) 0 (module_count size)

-- a function of the project, by a draw of its own
abbrev pub function_at : ℕ → ℕ → ℕ → List ℕ
function_at number size function = function_text size function (draw number (function + 1))

-- the functions of a module, in order
abbrev pub functions : ℕ → ℕ → ℕ → List ℕ
functions number size own = joined (function_at number size) (50 * own) (min 50 (size - 50 * own))

abbrev pub module_text : ℕ → ℕ → ℕ → List ℕ
module_text number size own = codes "import os\n" ++ imports size own ++ functions number size own
