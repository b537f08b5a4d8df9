-- What contracts see of a source and a sink over memory, which fail at the calls that they are told.
--     SourceState, SinkState    the state of a `MemSource` and of a `MemSink`
--     read_count, write_count   how many bytes the next call moves, if it does not fail
--     ReadFails, WriteFails     the next call fails
use Rattle.std.specs.Prelude.{ℕ, ◌-◌, ◌<◌, ◌≡◌, ◌⊎◌, List, length, min, Contains}
use Rattle.grid_ports.specs.Faults.{count_up}

pub record SourceState : Type 0 where
  -- the bytes left
  pub left : List ℕ
  -- the most that one read gives
  pub piece : ℕ
  -- the number of reads so far, which stays at 2^64 - 1
  pub reads : ℕ
  -- the numbers of the reads that fail, counted from 1
  pub fails : List ℕ
  -- the number of reads that have failed
  pub faults : ℕ

pub record SinkState : Type 0 where
  -- the bytes written
  pub written : List ℕ
  -- the most bytes that the sink holds
  pub room : ℕ
  -- the most that one write takes
  pub piece : ℕ
  -- the number of writes so far, which stays at 2^64 - 1
  pub writes : ℕ
  -- the numbers of the writes that fail, counted from 1
  pub fails : List ℕ
  -- the number of writes that have failed
  pub faults : ℕ

-- how many bytes the next read gives into a buffer of this length, if it does not fail
abbrev pub read_count : SourceState → ℕ → ℕ
read_count s buffer = min s.piece (min buffer (length s.left))

-- the next read fails
abbrev pub ReadFails : SourceState → Type 0
ReadFails s = Contains s.fails (count_up s.reads)

-- how many of this number of bytes the next write takes, if it does not fail
abbrev pub write_count : SinkState → ℕ → ℕ
write_count s given = min s.piece (min given (s.room - length s.written))

-- the next write, of this number of bytes, fails: its number says so, or there is no room for any
abbrev pub WriteFails : SinkState → ℕ → Type 0
WriteFails s given = Contains s.fails (count_up s.writes) ⊎ ((0 < given) × (length s.written ≡ s.room))
