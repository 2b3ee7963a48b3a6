-- Where commands begin in bytes that may come in pieces.
use Rattle.std.specs.Prelude.{◌≡◌, ◌≢◌, ◌⊎◌, ◌+◌, ◌<◌, ◌≤◌, ◌==◌, ℕ, List, [], ◌∷◌, ◌++◌, length, codes, decimal, All, if◌then◌else◌, Result, Ok, Err}
use Rattle.script.specs.declared.command.Command.{Command}
use Rattle.script.specs.declared.command.Next.{Next}
use Rattle.script.specs.declared.command.Next.TheVariants as next
use Rattle.script.specs.declared.command.Wait.{Wait}
use Rattle.script.specs.declared.command.Wait.TheVariants as wait
use Rattle.script.specs.declared.faults.CommandError.{CommandError}
use Rattle.script.specs.declared.faults.CommandError.TheVariants as errors
use Rattle.script.specs.Grammar.{space, line_end, IsWithin, IsLine, json_limit, name_limit, path_limit, Spells}

-- the bytes, which begin at the place `at`, begin with a text that spells the command, and `rest` follows it
pub record BeginsWith (at : ℕ) (bytes : List ℕ) (command : Command) (rest : List ℕ) : Type 0 where
  pub text : List ℕ
  pub spells : Spells at text command
  pub parts : bytes ≡ text ++ rest

-- the bytes are a proper front of a command
pub record IsFront (at : ℕ) (bytes : List ℕ) : Type 0 where
  pub more : List ℕ
  pub command : Command
  pub proper : 0 < length more
  pub spells : Spells at (bytes ++ more) command

-- a line without its end, within its greatest length, in a name or a JSON text: whether that is well formed is
-- decided once the line has ended
pub record IsOpenName (bytes : List ℕ) : Type 0 where
  pub session : ℕ
  pub name : List ℕ
  pub within : IsWithin 1 16 session
  pub line : IsLine name_limit name
  pub parts : bytes ≡ codes "ask " ++ decimal session ++ codes " model " ++ name

pub record IsOpenJson (bytes : List ℕ) : Type 0 where
  pub fuel : ℕ
  pub json : List ℕ
  pub within : IsWithin 1 1000000 fuel
  pub line : IsLine json_limit json
  pub parts : bytes ≡ codes "run " ++ decimal fuel ++ space ∷ json

-- a command can still come of the bytes
abbrev pub IsUnfinished : ℕ → List ℕ → Type 0
IsUnfinished at bytes = IsFront at bytes ⊎ IsOpenName bytes ⊎ IsOpenJson bytes

-- the bytes begin with no command
abbrev pub BeginsNone : ℕ → List ℕ → Type 0
BeginsNone at bytes = (command : Command) (rest : List ℕ) → BeginsWith at bytes command rest → ⊥

-- the answer is this one, unless memory ran out
abbrev pub IsUnlessMemory : Result (Next × ℕ) CommandError → Result (Next × ℕ) CommandError → Type 0
IsUnlessMemory result answer = (result ≡ Err errors.Memory → ⊥) → result ≡ answer

-- the answer is to wait, unless memory ran out
abbrev pub NeedsUnlessMemory : Result (Next × ℕ) CommandError → ℕ → Type 0
NeedsUnlessMemory result at = (result ≡ Err errors.Memory → ⊥) → (w : Wait) × (result ≡ Ok (next.Need w, at))

-- the greatest number of bytes in the line of a command that begins with this byte, without the end of the line
abbrev pub longest_from : ℕ → ℕ
longest_from first =
    if first == 112 then length (codes "put ") + path_limit + 1 + 10 else (
    if first == 100 then length (codes "drop ") + path_limit else (
    if first == 97 then length (codes "ask 16 model ") + name_limit else (
    if first == 114 then length (codes "run 1000000 ") + json_limit else length (codes "sync"))))

-- the same of bytes that begin the line; without a byte, of any command
abbrev pub longest : List ℕ → ℕ
longest [] = length (codes "run 1000000 ") + json_limit
longest (first ∷ bytes) = longest_from first

-- what is known of the bytes, which begin at the place `at`, where one has to wait so
abbrev pub WaitsWell : ℕ → List ℕ → Wait → Type 0
WaitsWell at bytes (wait.Line from until) =
    (from ≡ at + length bytes) × All (λ b. b ≢ line_end) bytes × (until ≡ at + longest bytes + 1)
    × ((more : List ℕ) → All (λ b. b ≢ line_end) (bytes ++ more) → until ≤ at + length (bytes ++ more) → IsUnfinished at (bytes ++ more) → ⊥)
WaitsWell at bytes (wait.Text until) =
    (at + length bytes < until)
    × ((more : List ℕ) (command : Command) → Spells at (bytes ++ more) command → at + length (bytes ++ more) ≡ until)
