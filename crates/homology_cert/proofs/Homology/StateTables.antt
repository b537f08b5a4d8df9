-- The laws of ranks and tables over states, from those over codes.
use Rattle.std.proofs.Common.{◌≡◌, ℕ, ℤ, List}
use Rattle.torus_geom.specs.Homology.{Row, IsHomologyRank, IsHomologyTable}
use Rattle.torus_geom.specs.Marks.{Marks, IsGrid}
use Rattle.rectangles.proofs.Homology.HomologyLemmas.{homology_rank-states, homology_table-states}
use Rattle.homology_cert.proofs.Homology.ExistenceLemmas as over_codes
use Rattle.homology_cert.proofs.Homology.LawLemmas as code_laws
use Rattle.homology_cert.proofs.Homology.SliceRanks as code_ranks

-- each bidegree has a rank
pub some_homology_rank : (g : Marks) → IsGrid g → (m a : ℤ) → (d : ℕ) × IsHomologyRank g m a d
some_homology_rank g s m a =
    let (d, is) = code_laws.some_homology_rank g s m a in
    (d, (homology_rank-states g m a d).0 is)

-- and at most one
pub one_homology_rank : (g : Marks) (m a : ℤ) (d e : ℕ) → IsHomologyRank g m a d → IsHomologyRank g m a e → d ≡ e
one_homology_rank g m a d e of_d of_e =
    code_ranks.one_homology_rank g m a d e ((homology_rank-states g m a d).1 of_d)
    ((homology_rank-states g m a e).1 of_e)

-- each grid has a table
pub exists_homology_table : (g : Marks) → IsGrid g → (rows : List Row) × IsHomologyTable g rows
exists_homology_table g s =
    let (rows, is) = over_codes.exists_homology_table g s in
    (rows, (homology_table-states g rows).0 is)

-- and at most one
pub one_homology_table : (g : Marks) (s t : List Row) → IsHomologyTable g s → IsHomologyTable g t → s ≡ t
one_homology_table g s t of_s of_t =
    code_laws.one_homology_table g s t ((homology_table-states g s).1 of_s) ((homology_table-states g t).1 of_t)
