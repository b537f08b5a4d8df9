use Rattle.std.proofs.Common.{subst}
use Rattle.state_rank.specs.Bijection.{IsBijection}
use Rattle.torus_geom.specs.Marks.{size}
use Rattle.rectangles.proofs.Law.RectangleLaw.{IsWay-swap, maslov-rectangle}
use Rattle.rectangles.proofs.laws.rect_degrees.Goals as goal

pub returns-clause-by_o : goal.returns-clause-by_o
returns-clause-by_o c =
    let q = c.requires in
    let n = size c.args.g.now in
    let state : IsBijection n c.args.x.now =
    subst (λ m. IsBijection m c.args.x.now) q.one_size c.size-2.ensures.state.bijection in
    maslov-rectangle n c.args.x.now _ c.args.r.now
    (IsWay-swap n c.args.x.now c.args.r.now state q.left q.right q.apart q.low q.high) c.args.g.now.o
    c.size.ensures.grid.o

pub returns-clause-by_x : goal.returns-clause-by_x
returns-clause-by_x c =
    let q = c.requires in
    let n = size c.args.g.now in
    let state : IsBijection n c.args.x.now =
    subst (λ m. IsBijection m c.args.x.now) q.one_size c.size-2.ensures.state.bijection in
    maslov-rectangle n c.args.x.now _ c.args.r.now
    (IsWay-swap n c.args.x.now c.args.r.now state q.left q.right q.apart q.low q.high) c.args.g.now.x
    c.size.ensures.grid.x
