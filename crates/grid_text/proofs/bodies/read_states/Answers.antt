use Rattle.std.proofs.Common.{sym, ◌∙◌, ap}
use Rattle.std.specs.Prelude.{is_none}
use Rattle.grid_text.specs.Faults.{state_of_size}
use Rattle.grid_text.specs.Inner.Kinds.{is_bad}
use Rattle.grid_text.proofs.Lines.SeenLemmas.{seen-any}
use Rattle.grid_text.proofs.Lines.BodyLemmas.{states_of-more}
use Rattle.grid_text.proofs.bodies.read_states.Goals as goal

pub returns-in_default-clause-none : goal.returns-in_default-clause-none
returns-in_default-clause-none c =
    seen-any (is_bad (state_of_size c.args.n)) c.args.words.now c.loop-word.word-index _ c.loop-word-test.true
    (ap is_none (sym c.read_state.ensures ∙ c.in_default.is))

pub loop-word-preserved : goal.loop-word-preserved
loop-word-preserved c =
    states_of-more c.args.n c.loop-word.states.items c.push.new.self.items c.in-Some.x c.args.words.now
    c.loop-word.word-index _ c.loop-word-test.true
    c.loop-word.invariant (sym c.read_state.ensures ∙ c.in-Some.is) c.in_ok-push.ensures.items
