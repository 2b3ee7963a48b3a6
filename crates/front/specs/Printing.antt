-- How a refused file is told: the place of its fault, and the fault's name. A fault without a place has 0:0.
use Rattle.std.specs.Prelude.{◌++◌, codes, decimal}
use Rattle.rv_names.specs.Keys.{Bytes}
use Rattle.py_literals.specs.declared.place.Pos.{Pos}
use Rattle.py_lexer.specs.Faults.{fault_name}
use Rattle.py_lexer.specs.Form.{form_name}
use Rattle.py_lexer.specs.declared.form.Form.{Form}
use Rattle.py_parser.specs.declared.parsing.FileError.{FileError}
use Rattle.py_parser.specs.declared.parsing.FileError.TheVariants as python
use Rattle.pysa_syntax.specs.declared.error.ModelError.{ModelError}
use Rattle.pysa_syntax.specs.declared.error.ModelError.TheVariants as models
use Rattle.taint_config.specs.ErrorNames.{error_name}
use Rattle.front.specs.declared.faults.ReadFault.{ReadFault}
use Rattle.front.specs.declared.faults.ReadFault.TheVariants as faults

-- a line and a column, and what is told of the place
abbrev pub placed : Pos → Bytes → Bytes
placed at name = decimal at.line ++ codes ":" ++ decimal at.col ++ codes " " ++ name

abbrev pub unplaced : Bytes → Bytes
unplaced name = codes "0:0 " ++ name

-- a form that isn't supported
abbrev pub unsupported : Form → Bytes
unsupported form = codes "Unsupported(" ++ form_name form ++ codes ")"

abbrev pub python_text : FileError → Bytes
python_text (python.Lex kind at) = placed at (fault_name kind)
python_text (python.Syntax at) = placed at (codes "Syntax")
python_text (python.Unsupported form at) = placed at (unsupported form)
python_text (python.TooDeep at) = placed at (codes "TooDeep")
python_text (python.Twice name at) = placed at (codes "Twice(" ++ name ++ codes ")")
python_text python.Memory = unplaced (codes "Memory")

abbrev pub models_text : ModelError → Bytes
models_text (models.Lex kind at) = placed at (fault_name kind)
models_text (models.Syntax at) = placed at (codes "Syntax")
models_text (models.Unsupported form at) = placed at (unsupported form)
models_text models.Memory = unplaced (codes "Memory")

abbrev pub fault_text : ReadFault → Bytes
fault_text faults.BadPath = unplaced (codes "BadPath")
fault_text faults.TooLarge = unplaced (codes "TooLarge")
fault_text faults.NotUtf8 = unplaced (codes "NotUtf8")
fault_text (faults.Python fault) = python_text fault
fault_text (faults.Models fault) = models_text fault
fault_text (faults.Config fault) = unplaced (error_name fault)
fault_text faults.Memory = unplaced (codes "Memory")
