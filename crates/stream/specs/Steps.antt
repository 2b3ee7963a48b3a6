-- What is known between two reads.
use Rattle.std.specs.Prelude.{◌≡◌, ◌≢◌, ◌<◌, ◌≤◌, ℕ, Bool, List, length, take, All, ⊤, Option}
use Rattle.script.specs.declared.command.Next.{Next}
use Rattle.script.specs.declared.command.Next.TheVariants as next
use Rattle.script.specs.declared.command.Wait.{Wait}
use Rattle.script.specs.declared.command.Wait.TheVariants as wait
use Rattle.script.specs.Grammar.{Spells, line_end}
use Rattle.script.specs.Stream.{BeginsNone, WaitsWell}
use Rattle.stream.specs.State.{IsWaiting, IsMalformed, GainsAll}
use Rattle.stream.specs.declared.fault.StreamFault.{StreamFault}
use Rattle.stream.specs.declared.fault.StreamFault.TheVariants.{Malformed, ReadFault, TooLong, Memory}
use Rattle.stream.specs.declared.reading.Heard.{Heard}
use Rattle.stream.specs.declared.reading.Heard.TheVariants as heard

-- bytes that begin with no command, and what to wait for
pub record Waits (bytes : List ℕ) (wait : Wait) : Type 0 where
  pub none : BeginsNone 0 bytes
  pub well : WaitsWell 0 bytes wait

-- what the bytes begin with: a command of so many of them, or an unfinished one
abbrev pub Starts : List ℕ → Bool → Next → ℕ → Type 0
Starts bytes over (next.Command command) len = (len ≤ length bytes) × Spells 0 (take len bytes) command
Starts bytes over (next.Need wait) len = IsWaiting bytes over × Waits bytes wait

-- why the bytes were not read
abbrev pub IsRefusal : ℕ → List ℕ → Bool → StreamFault → Type 0
IsRefusal place bytes over (Malformed at) = (at ≡ place) × IsMalformed bytes over
IsRefusal place bytes over ReadFault = ⊥
IsRefusal place bytes over TooLong = ⊥
IsRefusal place bytes over Memory = ⊤

-- what is waited for has not come with these bytes
abbrev pub Lacks : Wait → List ℕ → Type 0
Lacks (wait.Line from until) bytes = All (λ b. b ≢ line_end) bytes
Lacks (wait.Text until) bytes = length bytes < until

-- how a reading on ended, with the bytes before and after it, of a source that told these bytes before it
abbrev pub Ends : Type 0 → Option (List ℕ) → List ℕ → List ℕ → Heard → Type 0
Ends rose left old new heard.More = length old < length new
Ends rose left old new heard.End = GainsAll left old new × BeginsNone 0 new
Ends rose left old new heard.Fault = rose × BeginsNone 0 new

-- only the limit and want of memory stop a reading on
abbrev pub StopsReading : StreamFault → Type 0
StopsReading (Malformed at) = ⊥
StopsReading ReadFault = ⊥
StopsReading TooLong = ⊤
StopsReading Memory = ⊤
