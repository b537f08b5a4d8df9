-- The pairs of the codes so far.
use Rattle.std.proofs.Common.{◌≡◌, map}
use Rattle.std.specs.List.{filter}
use Rattle.f2_algebra.specs.Slice.{slice_complex}
use Rattle.cancel.specs.Logs.{log_of}
use Rattle.state_rank.specs.Bijection.{ascending}
use Rattle.homology_cert.specs.Inner.Making.{cycle_pair, degree_is}
use Rattle.homology_cert.proofs.making.cycles_of.Given as goal

abbrev pub invariant-loop-code : goal.invariant-loop-code
invariant-loop-code l =
    l.pairs.items ≡ map (cycle_pair (log_of l.log)) (filter
    (λ s. degree_is l.m ((slice_complex l.slice.slice).degree s)) (ascending l.code))
