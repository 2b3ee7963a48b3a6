-- The names of lexical faults, as they are printed.
use Rattle.std.specs.Prelude.{ℕ, List, codes}
use Rattle.py_lexer.specs.declared.token.LexKind.{LexKind}
use Rattle.py_lexer.specs.declared.token.LexKind.TheVariants as faults

abbrev pub fault_name : LexKind → List ℕ
fault_name faults.BadChar = codes "BadChar"
fault_name faults.MixedIndent = codes "MixedIndent"
fault_name faults.BadDedent = codes "BadDedent"
fault_name faults.OpenString = codes "OpenString"
fault_name faults.OpenBracket = codes "OpenBracket"
fault_name faults.BadEscape = codes "BadEscape"
fault_name faults.BadNumber = codes "BadNumber"
fault_name faults.WideNumber = codes "WideNumber"
fault_name faults.NotNormal = codes "NotNormal"
fault_name faults.FStringForm = codes "FStringForm"
