-- The parity of the codes so far that f holds.
use Rattle.std.proofs.Common.{◌≡◌, take}
use Rattle.f2_algebra.specs.Chain.{holds}
use Rattle.f2_algebra.proofs.Chains.Sets.{parity}
use Rattle.f2_chain.proofs.code_sets.CodeSet.pair.Given as goal

abbrev pub invariant-loop-code : goal.invariant-loop-code
invariant-loop-code l = l.odd ≡ parity (holds l.f) (take l.code-index l.code-items)
