-- The border of the state is x+ alone.
use Rattle.std.proofs.Common.{◌≡◌, ◌+◌, length, swap, ap, ap₂, ◌∙◌, arith}
use Rattle.torus_geom.specs.Marks.{size}
use Rattle.torus_geom.specs.Range.{one_up}
use Rattle.torus_geom.specs.Front.{plus_state}
use Rattle.stabilise.specs.declared.squares.Square.TheVariants.{Ne}
use Rattle.stabilise.proofs.StoredRows.{room_for}
use Rattle.front_data.proofs.FrontLemmas.{plus_state-state}
use Rattle.stabilise.proofs.StabilisedGrids.{size-stabilised}
use Rattle.stabilise.proofs.StabilisedBorders.{border-plus_bound, bidegree-plus_bound}
use Rattle.stabilise.proofs.bounds.plus_bound.Goals as goal

pub one_up-requires : goal.one_up-requires
one_up-requires c =
    let long = size-stabilised c.args.g.now c.args.c Ne c.size.ensures.grid c.requires.column in
    let size_is = c.size-2.ensures.size ∙ ap size c.stabilise-stabilised.ensures.grid ∙ long in
    let below = c.requires.column in
    omega arith

pub exchange-requires-clause-a_below : goal.exchange-requires-clause-a_below
exchange-requires-clause-a_below c =
    let long = size-stabilised c.args.g.now c.args.c Ne c.size.ensures.grid c.requires.column in
    let length_is = ap length c.plus_state.ensures.state
    ∙ (plus_state-state c.stabilise-stabilised.result c.size-2.ensures.grid).long
    ∙ ap size c.stabilise-stabilised.ensures.grid ∙ long in
    let below = c.requires.column in
    omega arith

pub exchange-requires-clause-b_below : goal.exchange-requires-clause-b_below
exchange-requires-clause-b_below c =
    let length_is = ap length c.plus_state.ensures.state
    ∙ (plus_state-state c.stabilise-stabilised.result c.size-2.ensures.grid).long in
    let size_is = c.size-2.ensures.size in
    let below = c.one_up.ensures.below in
    omega arith

pub returns-clause-state : goal.returns-clause-state
returns-clause-state c =
    let long = size-stabilised c.args.g.now c.args.c Ne c.size.ensures.grid c.requires.column in
    let size_is : c.size-2.result ≡ size c.args.g.now + 1 =
    c.size-2.ensures.size ∙ ap size c.stabilise-stabilised.ensures.grid ∙ long ∙ omega arith in
    c.exchange.ensures.state
    ∙ ap₂ (λ rows i. swap rows (c.args.c + 1) i)
    (c.plus_state.ensures.state ∙ ap plus_state c.stabilise-stabilised.ensures.grid)
    (c.one_up.ensures.value ∙ ap (λ n. one_up n (c.args.c + 1)) size_is)

pub returns-clause-border : goal.returns-clause-border
returns-clause-border c =
    border-plus_bound c.args.g.now c.args.c c.size.ensures.grid c.requires.column
    (room_for _ c.size.ensures.grid.is_size c.requires.room)

pub returns-clause-degree : goal.returns-clause-degree
returns-clause-degree c =
    bidegree-plus_bound c.args.g.now c.args.c c.size.ensures.grid c.requires.column
    (room_for _ c.size.ensures.grid.is_size c.requires.room)
