-- The codes of both sets ascend, and make them again.
use Rattle.std.proofs.Common.{sym, ap₂, subst, ◌∙◌}
use Rattle.std.specs.List.Sorted.{IsStrictlyIncreasing}
use Rattle.f2_algebra.specs.Chain.{of_codes, ◌⊕◌}
use Rattle.f2_algebra.proofs.Chains.Lists.{rising-codes, of_codes-codes}
use Rattle.f2_chain.proofs.code_sets.CodeSet.add.Goals as goal

pub merged-requires-clause-a_ascending : goal.merged-requires-clause-a_ascending
merged-requires-clause-a_ascending c = subst IsStrictlyIncreasing (sym c.codes.ensures) (rising-codes c.args.self.now)

pub merged-requires-clause-b_ascending : goal.merged-requires-clause-b_ascending
merged-requires-clause-b_ascending c =
    subst IsStrictlyIncreasing (sym c.codes-2.ensures) (rising-codes c.args.other.now)

pub returns : goal.returns
returns c =
    c.in_ok-list.ensures.sum
    ∙ (λ i. of_codes (c.codes.ensures i) ⊕ of_codes (c.codes-2.ensures i))
    ∙ ap₂ ◌⊕◌ (of_codes-codes c.args.self.now) (of_codes-codes c.args.other.now)
