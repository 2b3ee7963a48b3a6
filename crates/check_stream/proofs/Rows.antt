-- Commands that were acted on, one after the other.
use Rattle.std.proofs.Common.{◌≡◌, List, [], ◌∷◌, ◌++◌, refl, sym, ap, subst, ◌∙◌, append_assoc, append-nil}
use Rattle.rv_names.specs.Keys.{Bytes}
use Rattle.script.specs.declared.command.Command.{Command}
use Rattle.script.specs.Grammar.{Spells}
use Rattle.stream.specs.State.{State, bytes_of, taken}
use Rattle.stream.proofs.Rows.{given_in_row, more_in_row}
use Rattle.check_stream.specs.Acts.{Acts, Said}
use Rattle.check_stream.specs.Checks.{Came}
use Rattle.check_stream.specs.Progress.{Progress, at_first}

-- one more
pub said_more : (before mid come_to : Progress) (commands : List Command) (texts : List Bytes) (lines line text : Bytes) (command : Command)
    → Said before commands texts lines mid → Acts mid text command line come_to → Said before (commands ++ command ∷ []) (texts ++ text ∷ []) (lines ++ line) come_to
said_more before mid come_to [] [] lines line text command said acts =
    (line, come_to, [], subst (λ (p : Progress). Acts p text command line come_to) said.1 acts, (refl, refl), ap (λ (l : Bytes). l ++ line) said.0 ∙ sym (append-nil line))
said_more before mid come_to [] (t ∷ texts) lines line text command said acts = absurd said
said_more before mid come_to (c ∷ commands) [] lines line text command said acts = absurd said
said_more before mid come_to (c ∷ commands) (t ∷ texts) lines line text command said acts = (
  said.0,
  said.1,
  said.2 ++ line,
  said.3,
  said_more said.1 mid come_to commands texts said.2 line text command said.4 acts,
  ap (λ (l : Bytes). l ++ line) said.5 ∙ append_assoc said.0 said.2 line,
)

pub came_first : Came [] at_first [] []
came_first = record { texts = []; commands = []; read = record { spelled = tt; parts = refl }; said = (refl, refl) }

-- bytes behind all that was read
pub came_more : (input more rest lines : Bytes) (progress : Progress) → Came input progress lines rest → Came (input ++ more) progress lines (rest ++ more)
came_more input more rest lines progress came = record {
  texts = came.texts;
  commands = came.commands;
  read = more_in_row input more rest came.texts came.commands came.read;
  said = came.said;
}

-- a command more, and its lines
pub came_next : (input lines line : Bytes) (before come_to : Progress) (old new : State) (command : Command) → Came input before lines old.pending
    → bytes_of new ≡ old.pending ++ taken old new → Spells 0 new.last command → Acts before new.last command line come_to
    → Came (input ++ taken old new) come_to (lines ++ line) new.pending
came_next input lines line before come_to old new command came kept spells acts = record {
  texts = came.texts ++ new.last ∷ [];
  commands = came.commands ++ command ∷ [];
  read = given_in_row input came.texts came.commands old new command came.read kept spells;
  said = said_more at_first before come_to came.commands came.texts lines line new.last command came.said acts;
}
