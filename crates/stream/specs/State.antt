-- What a stream of commands holds, and what one step of it says.
use Rattle.std.specs.Prelude.{◌≡◌, ◌⊎◌, ◌+◌, ◌≤◌, ◌^◌, ℕ, Bool, false, List, [], ◌∷◌, ◌++◌, length, drop, ⊤, Option, Some, None, IfSome}
use Rattle.std.specs.Io.KnownBytes.{Consumes}
use Rattle.script.specs.declared.command.Command.{Command}
use Rattle.script.specs.declared.command.Command.TheVariants as commands
use Rattle.script.specs.Grammar.{Spells}
use Rattle.script.specs.Stream.{BeginsNone, IsUnfinished}
use Rattle.stream.specs.declared.fault.StreamFault.{StreamFault}
use Rattle.stream.specs.declared.fault.StreamFault.TheVariants.{Malformed, ReadFault, TooLong, Memory}

-- the greatest number of bytes of an input
abbrev pub input_limit : ℕ
input_limit = 2 ^ 29

pub record State : Type 0 where
  -- the bytes of the command that the last step gave; none where it gave none
  pub last : List ℕ
  -- the bytes that were read and not acted on
  pub pending : List ℕ
  -- how many bytes of the input stand before those
  pub place : ℕ
  -- whether the source told its end
  pub over : Bool

-- all bytes that a stream holds
abbrev pub bytes_of : State → List ℕ
bytes_of state = state.last ++ state.pending

-- the bytes that a step took from the source
abbrev pub taken : State → State → List ℕ
taken old new = drop (length old.pending) (bytes_of new)

-- before the last read, which gave at most 65,536 bytes, those at hand began with no command
pub record IsPieceAfterNone (pending bytes : List ℕ) : Type 0 where
  pub front : List ℕ
  pub piece : List ℕ
  pub parts : bytes ≡ front ++ piece
  pub at_least : length pending ≤ length front
  pub small : length piece ≤ 65536
  pub none : BeginsNone 0 front

-- bytes are read only while none of those at hand are a whole command
abbrev pub IsNeeded : List ℕ → List ℕ → Type 0
IsNeeded pending bytes = (bytes ≡ pending) ⊎ IsPieceAfterNone pending bytes

-- a command can still come of the bytes, and more of them can come
pub record IsWaiting (pending : List ℕ) (over : Bool) : Type 0 where
  pub none : BeginsNone 0 pending
  pub unfinished : IsUnfinished 0 pending
  pub goes_on : over ≡ false

-- the bytes begin with no command, and none can come of them
pub record IsMalformed (pending : List ℕ) (over : Bool) : Type 0 where
  pub none : BeginsNone 0 pending
  pub dead : over ≡ false → IsUnfinished 0 pending → ⊥

-- why no command, or no byte, was given, where the source's count of faults `rose` or did not
abbrev pub IsCause : Type 0 → ℕ → List ℕ → Bool → StreamFault → Type 0
IsCause rose place pending over (Malformed at) = (at ≡ place) × IsMalformed pending over
IsCause rose place pending over ReadFault = rose × IsWaiting pending over
IsCause rose place pending over TooLong = (place + length pending ≡ input_limit) × IsWaiting pending over
IsCause rose place pending over Memory = ⊤

-- the text of a `put` is the last of its bytes, but for the end of its line
abbrev pub EndsInText : List ℕ → Command → Type 0
EndsInText bytes (commands.Put path from len) = from + len + 1 ≡ length bytes
EndsInText bytes (commands.Drop path) = ⊤
EndsInText bytes (commands.Ask session query) = ⊤
EndsInText bytes commands.Sync = ⊤
EndsInText bytes (commands.Run fuel calls draws) = ⊤
EndsInText bytes commands.End = ⊤

-- what the bytes at hand begin with: a command, which is acted on, or nothing yet
abbrev pub IsAtHand : State → Option Command → Type 0
IsAtHand new (Some command) = Spells 0 new.last command × EndsInText new.last command
IsAtHand new None = (new.last ≡ []) × IsWaiting new.pending new.over

-- where the source told the bytes that were left, a buffer has gained all of them
abbrev pub GainsAll : Option (List ℕ) → List ℕ → List ℕ → Type 0
GainsAll left old new = IfSome left (λ bytes. new ≡ old ++ bytes)

-- one byte was taken beyond these
abbrev pub ConsumesOneMore : Option (List ℕ) → Option (List ℕ) → List ℕ → Type 0
ConsumesOneMore left_old left_new bytes = (byte : ℕ) × Consumes left_old left_new (bytes ++ byte ∷ [])

-- what the source lost at its front, but for one byte further, is what the buffer gained at its end
abbrev pub MovesOneMore : Option (List ℕ) → Option (List ℕ) → List ℕ → List ℕ → Type 0
MovesOneMore left_old left_new old new = (more : List ℕ) × (new ≡ old ++ more) × ConsumesOneMore left_old left_new more
