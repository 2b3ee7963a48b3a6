-- A source and a sink that lie in memory.
use Rattle.std.specs.Prelude.{ℕ, ◌-◌, List, length, min, drop}
use Rattle.rv_io.specs.Counts.{raised}

-- a source in memory
pub record Feed : Type 0 where
  -- the bytes that are left
  pub left : List ℕ
  -- the most bytes that one call gives
  pub piece : ℕ
  -- the numbers of the calls that fail, from 1
  pub fails : List ℕ
  -- how many calls there were
  pub calls : ℕ
  -- how many faults there were
  pub faults : ℕ

-- how many bytes a call gives into so much room
abbrev pub given_count : Feed → ℕ → ℕ
given_count feed room = min feed.piece (min room (length feed.left))

-- after a call that gave so many bytes
abbrev pub after_giving : Feed → ℕ → Feed
after_giving feed count = record feed { left = drop count feed.left; calls = raised feed.calls }

-- after a call that failed
abbrev pub after_failing : Feed → Feed
after_failing feed = record feed { calls = raised feed.calls; faults = raised feed.faults }

-- a sink in memory
pub record Store : Type 0 where
  -- the bytes that it holds
  pub held : List ℕ
  -- the most bytes that it may hold
  pub room : ℕ
  -- how many faults there were
  pub faults : ℕ

-- how many of so many bytes still fit
abbrev pub fitting_count : Store → ℕ → ℕ
fitting_count store count = min count (store.room - length store.held)
