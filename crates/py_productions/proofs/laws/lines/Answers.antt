use Rattle.py_ast.specs.Grammar.{expr}
use Rattle.py_ast.specs.Statements.{simple, simple_first}
use Rattle.py_ast.specs.Files.{file_simple, file_simple_first, member_first, member_simple}
use Rattle.py_productions.specs.Members.{Member}
use Rattle.py_productions.specs.Simples.{FileSimple, Simple}
use Rattle.py_productions.proofs.LineLaws.{line-out, line-into}
use Rattle.py_productions.proofs.MemberLaws.{member-out, member-into}
use Rattle.py_productions.proofs.SimpleLaws.{line-map, simple-out, simple-into, file-out, file-into}
use Rattle.py_productions.proofs.laws.lines.Goals as goal

pub returns-clause-of_blocks : goal.returns-clause-of_blocks
returns-clause-of_blocks c = λ room returns loops x ss. (
  λ h. line-map (simple (expr room) returns loops).Spells (Simple room returns loops) (simple-out room returns loops) x ss (line-out (simple_first returns loops) (simple (expr room) returns loops) x ss h),
  λ h. line-into (simple_first returns loops) (simple (expr room) returns loops) x ss (line-map (Simple room returns loops) (simple (expr room) returns loops).Spells (simple-into room returns loops) x ss h),
)

pub returns-clause-of_classes : goal.returns-clause-of_classes
returns-clause-of_classes c = λ room x ss. (
  λ h. line-map (member_simple (expr room)).Spells (Member room) (member-out room) x ss (line-out member_first (member_simple (expr room)) x ss h),
  λ h. line-into member_first (member_simple (expr room)) x ss (line-map (Member room) (member_simple (expr room)).Spells (member-into room) x ss h),
)

pub returns-clause-of_files : goal.returns-clause-of_files
returns-clause-of_files c = λ room x ss. (
  λ h. line-map (file_simple (expr room)).Spells (FileSimple room) (file-out room) x ss (line-out file_simple_first (file_simple (expr room)) x ss h),
  λ h. line-into file_simple_first (file_simple (expr room)) x ss (line-map (FileSimple room) (file_simple (expr room)).Spells (file-into room) x ss h),
)
