-- The keys are distinct, so sorted they ascend; they make the same chain in any order.
use Rattle.std.proofs.Common.{eqb, sym, ap, subst, ◌∙◌}
use Rattle.std.specs.List.{IsDistinct}
use Rattle.f2_algebra.specs.Chain.{of_codes}
use Rattle.f2_chain.proofs.SetLemmas.{sorted_ascends, of_codes-permuted}
use Rattle.f2_chain.proofs.builders.Builder.finish.Goals as goal

pub of_ascending-requires : goal.of_ascending-requires
of_ascending-requires c =
    let items = c.in_ok-list.ensures.items ∙ c.as_slice.ensures.keys in
    let distinct = subst (IsDistinct eqb) (sym items) c.as_slice.ensures.unique in
    sorted_ascends _ _ distinct c.sort_unstable.ensures.permutation c.sort_unstable.ensures.sorted

pub returns : goal.returns
returns c =
    c.of_ascending.ensures ∙ of_codes-permuted _ _ c.sort_unstable.ensures.permutation
    ∙ ap of_codes (c.in_ok-list.ensures.items ∙ c.as_slice.ensures.keys) ∙ c.self.view_is
