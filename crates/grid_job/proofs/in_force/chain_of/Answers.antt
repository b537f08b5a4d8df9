use Rattle.std.proofs.Common.{sym, ap, subst, take, ◌∙◌, map}
use Rattle.f2_algebra.specs.Chain.{of_codes, single, ◌⊕◌}
use Rattle.state_rank.specs.States.{rank}
use Rattle.grid_text.specs.States.{AreStates}
use Rattle.grid_job.proofs.Reported.ChainLemmas.{states-next}
use Rattle.grid_job.proofs.in_force.chain_of.Goals as goal

pub loop-state-preserved : goal.loop-state-preserved
loop-state-preserved c =
    let items = c.states-state-items.result.now in
    c.in_ok-toggle.ensures.toggled
    ∙ ap (λ z. z ⊕ single c.rank.result) c.loop-state.invariant
    ∙ ap (λ r. of_codes (take c.loop-state.state-index (map rank items)) ⊕ single r) c.rank.ensures.rank
    ∙ states-next items c.loop-state.state-index c.state-item.result
    (subst AreStates (sym c.states-state-items.ensures.states) c.states-state-items.ensures.ascending)
    c.loop-state-test.true c.state-item.is
