-- The cells so far are counted.
use Rattle.std.proofs.Common.{take}
use Rattle.homology_cert.specs.Inner.Left.{AreCounted}
use Rattle.homology_cert.proofs.component_tables.count_states.Given as goal

abbrev pub invariant-loop-cell : goal.invariant-loop-cell
invariant-loop-cell l = AreCounted l.g (take l.cell-index l.cells) l.initial.rows.items l.rows.items
