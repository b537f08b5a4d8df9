-- How a grid is kept: the states of its O and of its X, and the number of components.
--     marks g        the marks that are kept
--     IsStored g     they are those of a grid, and the number is that of its components
use Rattle.std.specs.Prelude.{◌≡◌}
use Rattle.torus_geom.specs.Marks.{Marks, IsGrid}
use Rattle.torus_geom.specs.Components.{components}
use Rattle.torus_geom.specs.declared.grids.Grid.TheInside.{Inside}

abbrev pub marks : Inside → Marks
marks g = record { o = g.o; x = g.x }

pub record IsStored (g : Inside) : Type 0 where
  pub grid : IsGrid (marks g)
  pub counted : g.components ≡ components (marks g)
