-- Cells in the making.
--     new_cell d           a cell of bidegree d with no pairs
--     with_cycle c z f     the cell with one more cycle pair
--     with_step c z f      the cell with one more step pair
use Rattle.std.specs.Prelude.{ℤ, [], ◌∷◌, ◌++◌}
use Rattle.f2_algebra.specs.Chain.{Chain}
use Rattle.homology_cert.specs.CertificateCodes.{Cell}

abbrev pub new_cell : ℤ × ℤ → Cell
new_cell d = record { at = d; cycles = []; steps = [] }

abbrev pub with_cycle : Cell → Chain → Chain → Cell
with_cycle c z f = record { at = c.at; cycles = c.cycles ++ record { cycle = z; cocycle = f } ∷ []; steps = c.steps }

abbrev pub with_step : Cell → Chain → Chain → Cell
with_step c z f = record { at = c.at; cycles = c.cycles; steps = c.steps ++ record { step = z; probe = f } ∷ [] }
