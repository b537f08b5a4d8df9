-- The parity of the codes so far that the chain holds.
use Rattle.std.proofs.Common.{◌≡◌, take}
use Rattle.f2_algebra.specs.Chain.{holds}
use Rattle.f2_algebra.proofs.Chains.Sets.{parity}
use Rattle.cancel.proofs.steps.shares_oddly.Given as goal

abbrev pub invariant-loop-code : goal.invariant-loop-code
invariant-loop-code l = l.odd ≡ parity (holds l.chain) (take l.code-index l.codes)
