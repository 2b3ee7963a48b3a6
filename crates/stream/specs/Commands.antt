-- The commands in a row with which an input begins.
use Rattle.std.specs.Prelude.{◌≡◌, ℕ, List, [], ◌∷◌, ◌++◌, ⊤}
use Rattle.std.specs.List.{concat}
use Rattle.script.specs.declared.command.Command.{Command}
use Rattle.script.specs.Grammar.{Spells}

-- each text spells the command at its place
abbrev pub SpellEach : List (List ℕ) → List Command → Type 0
SpellEach [] [] = ⊤
SpellEach [] (command ∷ commands) = ⊥
SpellEach (text ∷ texts) [] = ⊥
SpellEach (text ∷ texts) (command ∷ commands) = Spells 0 text command × SpellEach texts commands

-- the input is these texts in a row, which spell the commands, and then the rest
pub record Commands (input : List ℕ) (texts : List (List ℕ)) (commands : List Command) (rest : List ℕ) : Type 0 where
  pub spelled : SpellEach texts commands
  pub parts : input ≡ concat texts ++ rest
