-- Sending a text to a sink.
use Rattle.std.specs.Prelude.{◌≡◌, ◌⊎◌, ℕ, ◌++◌, Option}
use Rattle.std.specs.Io.KnownBytes.{Appends}
use Rattle.rv_names.specs.Keys.{Bytes}

abbrev pub IsFront : Bytes → Bytes → Type 0
IsFront front text = (more : Bytes) × (text ≡ front ++ more)

-- A text is sent, and the status tells how it went: all of it, or a front of it and then the sink failed.
abbrev pub Sends : ℕ → Bytes → ℕ → Bytes → Type 0 → Type 0
Sends status text result out sink_failed = ((result ≡ status) × (out ≡ text)) ⊎ ((result ≡ 5) × sink_failed × IsFront out text)

-- of a text a front was written, and the rest is still due
pub record Writes (held_old held_new : Option Bytes) (text rest : Bytes) : Type 0 where
  pub front : Bytes
  pub wrote : Appends held_old held_new front
  pub parts : text ≡ front ++ rest

-- the sink failed behind a front of a text
pub record Breaks (held_old held_new : Option Bytes) (text : Bytes) (sink_failed : Type 0) : Type 0 where
  pub rest : Bytes
  pub writes : Writes held_old held_new text rest
  pub failed : sink_failed
