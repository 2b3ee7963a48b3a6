-- Texts that spell modules.
use Rattle.std.specs.Prelude.{◌≡◌, ℕ, List, chars}
use Rattle.rv_names.specs.Keys.{Bytes}
use Rattle.py_lexer.specs.declared.token.Token.{Token}
use Rattle.py_lexer.specs.Runs.{HasTokens}
use Rattle.py_ast.specs.declared.statement.Module.{Module}
use Rattle.py_ast.specs.declared.statement.Stmt.{Stmt}
use Rattle.py_ast.specs.Files.{file, module_of}

-- The text has tokens, and they spell the module, with room for 100 nestings and 100 blocks.
pub record IsSpelled (text : Bytes) (m : Module) : Type 0 where
  pub tokens : List Token
  pub lexed : HasTokens (chars text) tokens
  pub lines : List (List Stmt)
  pub spelled : (file 100).Spells tokens lines
  pub tree : m ≡ module_of lines

-- a text with its module
pub record Kept : Type 0 where
  pub text : Bytes
  pub tree : Module
