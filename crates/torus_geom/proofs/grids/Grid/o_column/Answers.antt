use Rattle.std.proofs.Common.{ap}
use Rattle.torus_geom.proofs.TransposeLemmas.{marked}
use Rattle.torus_geom.proofs.grids.Grid.o_column.Goals as goal

pub returns-clause-marked : goal.returns-clause-marked
returns-clause-marked c =
    marked c.rows.result.now c.self.inside.o c.args.self.now.o c.args.r c.column_of.result c.rows.ensures.state
    c.rows.ensures.rows (ap (λ g. g.o) c.self.view_is) c.requires c.column_of.ensures.column
