-- The border of the state is x- alone.
use Rattle.stabilise.proofs.StoredRows.{room_for}
use Rattle.stabilise.proofs.StabilisedBorders.{border-minus_bound, bidegree-minus_bound}
use Rattle.stabilise.proofs.bounds.minus_bound.Goals as goal

pub returns-clause-border : goal.returns-clause-border
returns-clause-border c =
    border-minus_bound c.args.g.now c.args.c c.size.ensures.grid c.requires.column
    (room_for _ c.size.ensures.grid.is_size c.requires.room)

pub returns-clause-degree : goal.returns-clause-degree
returns-clause-degree c =
    bidegree-minus_bound c.args.g.now c.args.c c.size.ensures.grid c.requires.column
    (room_for _ c.size.ensures.grid.is_size c.requires.room)
