use Rattle.front_data.proofs.FrontLemmas.{border-minus_state, maslov-minus_state}
use Rattle.front_data.proofs.classes.minus_state.Goals as goal

pub returns-clause-cycle : goal.returns-clause-cycle
returns-clause-cycle c = border-minus_state c.args.g.now c.x_state.ensures.grid

pub returns-clause-degree : goal.returns-clause-degree
returns-clause-degree c = maslov-minus_state c.args.g.now c.x_state.ensures.grid
