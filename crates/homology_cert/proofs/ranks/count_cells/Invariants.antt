-- The cells so far are counted.
use Rattle.std.proofs.Common.{take}
use Rattle.homology_cert.specs.Inner.Ranks.{AreCounted}
use Rattle.homology_cert.proofs.ranks.count_cells.Given as goal

abbrev pub invariant-loop-cell : goal.invariant-loop-cell
invariant-loop-cell l = AreCounted l.fn.a (take l.cell-index l.cells) l.initial.ranks l.ranks
