-- The cells so far were made, and their bidegrees and those ahead are all.
use Rattle.std.proofs.Common.{◌≡◌, ◌++◌, All}
use Rattle.homology_cert.specs.Inner.Making.{IsMadeCell}
use Rattle.homology_cert.proofs.Made.MakingLemmas.{keys_of}
use Rattle.homology_cert.proofs.making.cells_of.Given as goal

abbrev pub invariant-loop-degree : goal.invariant-loop-degree
invariant-loop-degree l = record {
  made : All (IsMadeCell l.g) l.cells.items;
  keys : keys_of l.cells.items ++ l.degree-iterator ≡ l.initial.degree-iterator;
}
