use Rattle.std.proofs.Common.{sym, ◌∙◌}
use Rattle.grid_text.proofs.Lines.WordLemmas.{state_of-read, state_of-other_size, state_of-no_state}
use Rattle.grid_text.proofs.bodies.read_state.Goals as goal

pub returns-in_default : goal.returns-in_default
returns-in_default c = state_of-no_state c.args.n c.args.word.now c.requires c.in_default.ensures.none

pub returns-then-size-n : goal.returns-then-size-n
returns-then-size-n c =
    state_of-other_size c.args.n c.args.word.now c.in-Some.x (λ e. c.if-size-n.true (c.size.ensures.size ∙ e))
    c.in-Some.ensures.word

pub returns : goal.returns
returns c =
    state_of-read c.args.n c.args.word.now c.in-Some.x c.size.ensures.state
    (sym c.size.ensures.size ∙ c.if-size-n.false) c.in-Some.ensures.word
