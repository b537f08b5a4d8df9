-- no cell so far is the one above
use Rattle.std.proofs.Common.{◌≡◌, drop}
use Rattle.f2_algebra.specs.Bigraded.{up_m}
use Rattle.f2_algebra.specs.Certificate.{steps_at}
use Rattle.homology_cert.specs.CertificateTests.{same_degree}
use Rattle.homology_cert.proofs.checks.steps_above.Given as goal

abbrev pub invariant-loop-cell : goal.invariant-loop-cell
invariant-loop-cell l = steps_at same_degree l.cells (up_m (l.d.m, l.d.a))
    ≡ steps_at same_degree (drop l.cell-index l.cells) (up_m (l.d.m, l.d.a))
