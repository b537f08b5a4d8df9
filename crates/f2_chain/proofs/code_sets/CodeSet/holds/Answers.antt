-- The list ascends, so the search finds each code that is in it.
use Rattle.std.proofs.Common.{List, ℕ, nat_cmp, subst, ap, ◌∙◌}
use Rattle.std.specs.List.Sorted.{IsBinarySearchResult}
use Rattle.f2_algebra.specs.Chain.{holds}
use Rattle.f2_chain.proofs.SetLemmas.{searched_is}
use Rattle.f2_chain.proofs.code_sets.CodeSet.holds.Goals as goal

pub returns : goal.returns
returns c =
    let found =
    subst (λ (ys : List ℕ). IsBinarySearchResult (λ y. nat_cmp y c.args.code) ys c.binary_search.result)
    c.deref.ensures.value c.binary_search.ensures.position in
    c.is_ok.ensures.value ∙ searched_is _ _ _ c.self.invariant found ∙ ap (λ z. holds z c.args.code) c.self.view_is
