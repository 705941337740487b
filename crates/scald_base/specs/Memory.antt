-- A source and a sink in memory, each as the whole of its state.
use Rattle.std.specs.Prelude.{ℕ, ◌+◌, ◌-◌, ◌<◌, ◌≤◌, min, List, ◌++◌, Contains, length, take, drop, ◌⊎◌}
use Rattle.scald_base.specs.Device.{next_count}

-- What is left to read, how many bytes a call gives at most, which calls fail, and how many calls
-- and failures there were.
pub record SourceState : Type 0 where
  pub left : List ℕ
  pub piece : ℕ
  pub failing : List ℕ
  pub calls : ℕ
  pub faults : ℕ

-- What was taken, how many bytes there is room for, how many a call takes at most, which calls
-- fail, and how many calls and failures there were.
pub record SinkState : Type 0 where
  pub taken : List ℕ
  pub room : ℕ
  pub piece : ℕ
  pub failing : List ℕ
  pub calls : ℕ
  pub faults : ℕ

-- how many bytes a call into this room gives
abbrev pub given_to : SourceState → List ℕ → ℕ
given_to s room = min s.piece (min (length room) (length s.left))

-- the state after a call that gave n bytes
abbrev pub after_giving : SourceState → ℕ → SourceState
after_giving s n = record s { left = drop n s.left; calls = next_count s.calls }

-- the state after a call that failed
abbrev pub after_failing_read : SourceState → SourceState
after_failing_read s = record s { calls = next_count s.calls; faults = next_count s.faults }

-- There is a byte to take and no room for it.
pub record IsFull (s : SinkState) (piece : List ℕ) : Type 0 where
  pub some : 0 < length piece
  pub full : s.room ≤ length s.taken

-- This call with this piece fails.
abbrev pub WriteFails : SinkState → List ℕ → Type 0
WriteFails s piece = Contains s.failing s.calls ⊎ IsFull s piece

-- how many bytes of this piece a call takes
abbrev pub taken_of : SinkState → List ℕ → ℕ
taken_of s piece = min s.piece (min (length piece) (s.room - length s.taken))

-- the state after a call that took n bytes of the piece
abbrev pub after_taking : SinkState → List ℕ → ℕ → SinkState
after_taking s piece n = record s { taken = s.taken ++ take n piece; calls = next_count s.calls }

-- the state after a call that failed
abbrev pub after_failing_write : SinkState → SinkState
after_failing_write s = record s { calls = next_count s.calls; faults = next_count s.faults }
