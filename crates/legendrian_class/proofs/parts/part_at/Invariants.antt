-- The states of the degree so far, with those that are ahead, are all.
use Rattle.std.proofs.Common.{◌≡◌, drop}
use Rattle.f2_algebra.specs.Chain.{nothing}
use Rattle.legendrian_class.specs.Inner.Parts.{has_alexander}
use Rattle.legendrian_class.proofs.ChainLemmas.{selected}
use Rattle.legendrian_class.proofs.parts.part_at.Given as goal

abbrev pub invariant-loop-code : goal.invariant-loop-code
invariant-loop-code l = selected (has_alexander l.tables l.a) l.part (drop l.code-index l.code-items)
    ≡ selected (has_alexander l.tables l.a) nothing l.code-items
