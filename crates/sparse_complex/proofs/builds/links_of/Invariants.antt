-- The arrows of the cells so far.
use Rattle.f2_algebra.specs.Bigraded.{at_alexander}
use Rattle.torus_geom.specs.Inner.GridComplex.{grid_complex}
use Rattle.sparse_complex.specs.Inner.Built.{AreLinksBelow}
use Rattle.sparse_complex.proofs.builds.links_of.Given as goal

abbrev pub invariant-loop-key : goal.invariant-loop-key
invariant-loop-key l = AreLinksBelow (at_alexander l.fn.a (grid_complex l.g)) l.cells l.key l.links
