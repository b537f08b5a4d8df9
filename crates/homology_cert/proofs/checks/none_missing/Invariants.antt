-- each state with an index below `code` has a cell
use Rattle.std.proofs.Common.{◌≡◌, true}
use Rattle.std.specs.List.{list_any}
use Rattle.torus_geom.specs.Counts.{all_below}
use Rattle.homology_cert.specs.CertificateCodes.{Cell}
use Rattle.homology_cert.specs.Inner.CodeTests.{has_bidegree}
use Rattle.homology_cert.proofs.checks.none_missing.Given as goal

abbrev pub invariant-loop-code : goal.invariant-loop-code
invariant-loop-code l =
    all_below l.code (λ s. list_any (λ (cell : Cell). has_bidegree l.c.grid cell.at s) l.c.cells) ≡ true
