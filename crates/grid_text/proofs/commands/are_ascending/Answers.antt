use Rattle.std.proofs.Common.{true≢false, sym, ◌∙◌}
use Rattle.grid_text.proofs.States.StateLemmas.{AreStates-not_next}
use Rattle.grid_text.proofs.commands.are_ascending.Goals as goal

pub returns-then-not-may_follow : goal.returns-then-not-may_follow
returns-then-not-may_follow c = (
  (λ e. absurd (true≢false (sym e))),
  (λ z. absurd (AreStates-not_next c.args.states.now c.loop-k.k c.index-states-k.result c.loop-k-test.true
      c.index-states-k.is
      (λ next. true≢false (sym (c.may_follow.ensures.1 next) ∙ c.if-not-may_follow.true)) z)),
)
