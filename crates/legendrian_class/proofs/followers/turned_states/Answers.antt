-- One more turned state is added; all of them are the turned chain.
use Rattle.std.proofs.Common.{List, ap, get_or, refl, subst, sym, ℕ, ◌<◌, ◌∙◌}
use Rattle.std.specs.List.{All}
use Rattle.std.proofs.lemmas.List.{take_all}
use Rattle.std.proofs.lemmas.Result.{IfOk-weaker}
use Rattle.state_rank.specs.States.{factorial}
use Rattle.grid_moves.specs.Carried.{turned_state}
use Rattle.grid_moves.proofs.Turned.TurnedStates.{opposite, turned_AreInverse}
use Rattle.legendrian_class.proofs.FollowedLemmas.{all_carried, carried_added, sum_of_carried}
use Rattle.legendrian_class.proofs.followers.turned_states.Goals as goal

pub loop-code-preserved : goal.loop-code-preserved
loop-code-preserved c =
    let codes = c.codes-code-items.result.now in
    let below =
    subst (λ (xs : List ℕ). All (λ code. code < factorial c.args.n) xs)
    (sym c.codes-code-items.ensures) c.requires.indices in
    carried_added (turned_state c.args.side) c.args.n codes c.loop-code.code-index
    (get_or codes c.loop-code.code-index 0) _ _ _ _ _ c.loop-code-test.true refl
    (below c.loop-code.code-index 0 c.loop-code-test.true) c.unrank.ensures.state c.turn_state.ensures.state
    c.rank.ensures.rank c.loop-code.invariant c.in_ok-toggle.ensures.toggled

pub returns : goal.returns
returns c =
    let codes = c.codes-code-items.result.now in
    let sum = c.loop-code.invariant
    ∙ ap (sum_of_carried (turned_state c.args.side) c.args.n)
    (take_all c.loop-code.code-index codes c.loop-code-test.false)
    ∙ all_carried (turned_state c.args.side) (turned_state (opposite c.args.side)) c.args.n
    (turned_AreInverse c.args.side c.args.n) codes c.args.z.now c.codes-code-items.ensures in
    IfOk-weaker c.finish.result _ _ (λ z e. e ∙ sum) c.finish.ensures
