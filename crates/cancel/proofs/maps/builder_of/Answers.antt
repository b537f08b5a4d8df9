-- The codes of a chain are distinct.
use Rattle.std.proofs.Common.{◌≢◌, AllPairs, sym, ap, ap₂, subst, ◌∙◌}
use Rattle.f2_algebra.specs.Chain.{codes, of_codes, ◌⊕◌}
use Rattle.f2_algebra.proofs.Chains.Sets.{IsApart-codes}
use Rattle.f2_algebra.proofs.Chains.Sums.{nothing-add}
use Rattle.f2_algebra.proofs.Chains.Lists.{of_codes-codes}
use Rattle.cancel.proofs.MapLemmas.{pairs-IsApart}
use Rattle.cancel.proofs.maps.builder_of.Goals as goal

pub toggle_all-requires : goal.toggle_all-requires
toggle_all-requires c =
    subst (AllPairs (λ b c. b ≢ c)) (sym c.codes.ensures)
    (pairs-IsApart (codes c.args.z.now) (IsApart-codes c.args.z.now))

pub returns : goal.returns
returns c =
    c.in_ok-toggle_all.ensures
    ∙ ap₂ ◌⊕◌ c.new-chain.ensures (ap of_codes c.codes.ensures ∙ of_codes-codes c.args.z.now)
    ∙ nothing-add c.args.z.now
