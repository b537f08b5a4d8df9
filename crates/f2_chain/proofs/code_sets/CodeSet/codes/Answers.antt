-- The list ascends, so it is the list of the codes of its chain.
use Rattle.std.proofs.Common.{sym, ap, ◌∙◌}
use Rattle.f2_algebra.specs.Chain.{codes}
use Rattle.f2_algebra.proofs.Chains.Lists.{codes-of_codes}
use Rattle.f2_chain.proofs.code_sets.CodeSet.codes.Goals as goal

pub returns : goal.returns
returns c = c.as_slice.ensures.value ∙ sym (codes-of_codes _ c.self.invariant) ∙ ap codes c.self.view_is
