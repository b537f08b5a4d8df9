use Rattle.std.proofs.Common.{◌≡◌, ◌+◌, ◌-◌, ◌≤◌, vec_len}
use Rattle.std.specs.Io.KnownBytes.{Consumes}
use Rattle.grid_ports.proofs.whole.read_all.Given as goal

-- `bytes` is what was taken so far, within the limit, and nothing has failed
abbrev pub invariant-loop-bytes : goal.invariant-loop-bytes
invariant-loop-bytes g l =
    (vec_len l.bytes ≤ l.limit)
    × Consumes (g.S.Source.left l.initial.src) (g.S.Source.left l.src) l.bytes.items
    × (g.S.Source.faults l.src ≡ g.S.Source.faults l.initial.src)

abbrev pub decreases-loop-bytes : goal.decreases-loop-bytes
decreases-loop-bytes g l = l.limit + 1 - vec_len l.bytes
