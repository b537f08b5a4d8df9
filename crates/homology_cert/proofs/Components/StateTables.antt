-- The ranks and the table by component over states are those over codes.
use Rattle.std.proofs.Common.{◌≡◌, ◌↔◌, ℕ, ℤ, List, refl, sym, ap, subst, ◌∙◌}
use Rattle.state_rank.specs.Bijection.{IsBijection}
use Rattle.torus_geom.specs.Homology.{IsHomologyRank}
use Rattle.torus_geom.specs.Border.{border}
use Rattle.torus_geom.specs.Codes.{states_of}
use Rattle.torus_geom.specs.Marks.{Marks, IsGrid, size}
use Rattle.torus_geom.proofs.Chains.CodesLemmas.{AreIndices}
use Rattle.torus_geom.proofs.Chains.ReachedLemmas.{states_of-border}
use Rattle.rectangles.proofs.Square.BorderLemmas.{border-below, border-grid_complex}
use Rattle.rectangles.proofs.Homology.GradedStates.{StandsFor, rank-states}
use Rattle.rectangles.proofs.Homology.HomologyLemmas.{homology_rank-states}
use Rattle.homology_cert.specs.ComponentHomology.{ComponentRow, HasDegrees, IsComponentRank, IsComponentTable, added_rank}
use Rattle.homology_cert.specs.Inner.CodeComponents as over_codes
use Rattle.homology_cert.specs.Inner.CodeComponents.{multidegree, up_multi, component_complex}
use Rattle.homology_cert.proofs.Components.AddedRanks as added
use Rattle.homology_cert.proofs.Components.ComponentRanks as ranks
use Rattle.homology_cert.proofs.Components.ComponentTables as tables

-- which states have these degrees
has_degrees : (g : Marks) (d : ℤ × List ℤ) (x : List ℕ)
    → HasDegrees g d.0 d.1 x ↔ (IsBijection (size g) x × (multidegree g x ≡ d))
has_degrees g d x = (
  λ h. (h.state, λ i. (h.maslov i, h.components i)),
  λ (state, e). record { state = state; maslov = ap (λ p. p.0) e; components = ap (λ p. p.1) e },
)

component_complex_StandsFor : (g : Marks) → StandsFor g (multidegree g) (component_complex g) (border g) up_multi
component_complex_StandsFor g = record {
  degrees = λ s. refl;
  rises = λ d. refl;
  indices = λ z. subst (AreIndices (size g)) (sym (border-grid_complex g z)) (border-below g z);
  borders = λ z below. ap (states_of (size g)) (border-grid_complex g z) ∙ states_of-border g z below;
}

pub component_rank-states : (g : Marks) (m : ℤ) (ds : List ℤ) (d : ℕ)
    → over_codes.IsComponentRank g m ds d ↔ IsComponentRank g m ds d
component_rank-states g m ds d =
    rank-states g (multidegree g) (λ p. HasDegrees g p.0 p.1) (has_degrees g) (component_complex g) (border g) up_multi
    (component_complex_StandsFor g) (m, ds) d

pub component_table-states : (g : Marks) (rows : List ComponentRow)
    → over_codes.IsComponentTable g rows ↔ IsComponentTable g rows
component_table-states g rows = (
  λ t. record {
    ordered = t.ordered;
    complete = λ m ds d. let (there, back) = t.complete m ds d in let (to, from) = component_rank-states g m ds d in (
      λ h. let (some, r) = there h in (some, to r),
      λ (some, r). back (some, from r),
    );
  },
  λ t. record {
    ordered = t.ordered;
    complete = λ m ds d. let (there, back) = t.complete m ds d in let (to, from) = component_rank-states g m ds d in (
      λ h. let (some, r) = there h in (some, from r),
      λ (some, r). back (some, to r),
    );
  },
)

-- ---- the laws, over states
pub some_component_rank : (g : Marks) → IsGrid g → (m : ℤ) (ds : List ℤ) → (d : ℕ) × IsComponentRank g m ds d
some_component_rank g grid m ds =
    let (d, is) = ranks.some_component_rank g grid m ds in (d, (component_rank-states g m ds d).0 is)

pub one_component_rank : (g : Marks) → IsGrid g → (m : ℤ) (ds : List ℤ) (d e : ℕ) → IsComponentRank g m ds d
    → IsComponentRank g m ds e → d ≡ e
one_component_rank g grid m ds d e h k =
    ranks.one_component_rank g grid m ds d e ((component_rank-states g m ds d).1 h)
    ((component_rank-states g m ds e).1 k)

pub some_component_table : (g : Marks) → IsGrid g → (rows : List ComponentRow) × IsComponentTable g rows
some_component_table g grid =
    let (rows, is) = tables.some_component_table g grid in (rows, (component_table-states g rows).0 is)

pub one_component_table : (g : Marks) (s t : List ComponentRow) → IsComponentTable g s → IsComponentTable g t → s ≡ t
one_component_table g s t p q =
    tables.one_component_table g s t ((component_table-states g s).1 p) ((component_table-states g t).1 q)

pub ranks_add_up : (g : Marks) → IsGrid g → (rows : List ComponentRow) → IsComponentTable g rows → (m a : ℤ)
    → IsHomologyRank g m a (added_rank rows m a)
ranks_add_up g grid rows table m a =
    (homology_rank-states g m a (added_rank rows m a)).0
    (added.ranks_add_up g grid rows ((component_table-states g rows).1 table) m a)
