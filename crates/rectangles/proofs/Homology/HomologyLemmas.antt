-- The rank of homology over states is the rank of the grid complex over codes, and so are the tables.
use Rattle.std.proofs.Common.{◌≡◌, ◌↔◌, ℕ, ◌<◌, ℤ, List, Some, refl, sym, ap, subst, ◌∙◌}
use Rattle.f2_algebra.specs.Bigraded.{up_m}
use Rattle.state_rank.specs.Bijection.{IsBijection}
use Rattle.state_rank.specs.States.{unrank, factorial}
use Rattle.torus_geom.specs.Border.{border}
use Rattle.torus_geom.specs.Codes.{states_of}
use Rattle.torus_geom.specs.Degrees.{bidegree}
use Rattle.torus_geom.specs.Homology.{Row, HasDegree, IsHomologyRank, IsHomologyTable}
use Rattle.torus_geom.specs.Inner.CodeHomology as code_homology
use Rattle.torus_geom.specs.Inner.GridComplex.{grid_complex}
use Rattle.torus_geom.specs.Marks.{Marks, size}
use Rattle.torus_geom.proofs.Chains.CodesLemmas.{AreIndices}
use Rattle.torus_geom.proofs.Chains.ReachedLemmas.{states_of-border}
use Rattle.rectangles.proofs.Homology.GradedStates.{StandsFor, degree_at-is, rank-states}
use Rattle.rectangles.proofs.Square.BorderLemmas.{border-below, border-grid_complex}

-- which states have a bidegree
pub has_bidegree : (g : Marks) (d : ℤ × ℤ) (x : List ℕ)
    → HasDegree g d.0 d.1 x ↔ (IsBijection (size g) x × (bidegree g x ≡ d))
has_bidegree g d x = (
  λ h. (h.state, λ i. (h.maslov i, h.alexander i)),
  λ (state, e). record { state = state; maslov = ap (λ p. p.0) e; alexander = ap (λ p. p.1) e },
)

-- a code that has a degree is the index of a state of that degree
pub degree_is : (g : Marks) (s : ℕ) (d : ℤ × ℤ) → (grid_complex g).degree s ≡ Some d
    → (s < factorial (size g)) × (bidegree g (unrank (size g) s) ≡ d)
degree_is g s d e = degree_at-is (size g) (bidegree g) s d e

grid_complex_StandsFor : (g : Marks) → StandsFor g (bidegree g) (grid_complex g) (border g) up_m
grid_complex_StandsFor g = record {
  degrees = λ s. refl;
  rises = λ d. refl;
  indices = λ z. subst (AreIndices (size g)) (sym (border-grid_complex g z)) (border-below g z);
  borders = λ z below. ap (states_of (size g)) (border-grid_complex g z) ∙ states_of-border g z below;
}

-- The rank of homology over codes is the rank over states.
pub homology_rank-states : (g : Marks) (m a : ℤ) (d : ℕ) → code_homology.IsHomologyRank g m a d ↔ IsHomologyRank g m a d
homology_rank-states g m a d =
    rank-states g (bidegree g) (λ p. HasDegree g p.0 p.1) (has_bidegree g) (grid_complex g) (border g) up_m
    (grid_complex_StandsFor g) (m, a) d

-- And so is the table.
pub homology_table-states : (g : Marks) (rows : List Row)
    → code_homology.IsHomologyTable g rows ↔ IsHomologyTable g rows
homology_table-states g rows = (
  λ t. record {
    ordered = t.ordered;
    complete = λ m a d. let (there, back) = t.complete m a d in let (to, from) = homology_rank-states g m a d in (
      λ h. let (some, r) = there h in (some, to r),
      λ (some, r). back (some, from r),
    );
  },
  λ t. record {
    ordered = t.ordered;
    complete = λ m a d. let (there, back) = t.complete m a d in let (to, from) = homology_rank-states g m a d in (
      λ h. let (some, r) = there h in (some, from r),
      λ (some, r). back (some, to r),
    );
  },
)
