use Rattle.std.proofs.Common.{ap, subst, arith}
use Rattle.torus_geom.specs.Marks.{Marks, IsGrid}
use Rattle.torus_geom.proofs.TransposeLemmas.{marked}
use Rattle.torus_geom.proofs.grids.Grid.x_column.Goals as goal

pub returns-clause-marked : goal.returns-clause-marked
returns-clause-marked c =
    let P : Marks → Type 0 = IsGrid in
    let long = (subst P c.self.view_is c.self.invariant.grid).x.long in
    let inside = c.requires in
    marked c.rows.result.now c.self.inside.x c.args.self.now.x c.args.r c.column_of.result c.rows.ensures.state
    c.rows.ensures.rows (ap (λ g. g.x) c.self.view_is) (omega arith) c.column_of.ensures.column
