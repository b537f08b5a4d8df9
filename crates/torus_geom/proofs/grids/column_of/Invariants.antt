use Rattle.std.proofs.Common.{◌≡◌, ◌<◌, slice_index}
use Rattle.state_rank.specs.Bijection.{column_of}
use Rattle.torus_geom.proofs.grids.column_of.Given as goal

abbrev pub invariant-loop-c : goal.invariant-loop-c
invariant-loop-c l = (l.column ≡ column_of l.c (slice_index l.rows) l.r) × (0 < l.c → l.column < l.c)
