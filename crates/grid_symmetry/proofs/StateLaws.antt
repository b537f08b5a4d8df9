-- The laws of the symmetries over chains of states, from those over codes.
use Rattle.std.proofs.Common.{◌≡◌, ◌≢◌, ◌↔◌, ℕ, ℤ, pos, ◌-ℤ◌, ◌*ℤ◌, List, refl, sym, ap, ◌∙◌}
use Rattle.std.specs.List.{list_any}
use Rattle.std.specs.Prelude.{◌&&◌}
use Rattle.f2_algebra.specs.Chain.{Chain as Codes}
use Rattle.f2_algebra.proofs.Chains.Tables.{same_test}
use Rattle.state_rank.specs.Bijection.{IsBijection}
use Rattle.state_rank.specs.States.{transpose}
use Rattle.torus_geom.specs.Border.{border}
use Rattle.torus_geom.specs.Chains.{Chain, IsChain, members, single, carried, reached}
use Rattle.torus_geom.specs.Codes.{states_of}
use Rattle.torus_geom.specs.Components.{components}
use Rattle.torus_geom.specs.Homology.{IsHomologyRank, Row, IsHomologyTable}
use Rattle.torus_geom.specs.Inner.CodeBorder as code_border
use Rattle.torus_geom.specs.Inner.CodeHomology as code_homology
use Rattle.torus_geom.specs.Marks.{Marks, IsGrid, size}
use Rattle.torus_geom.specs.Rectangle.{is_empty, is_same, leads}
use Rattle.torus_geom.specs.Transposed.{transposed}
use Rattle.torus_geom.specs.declared.rects.Rect.{Rect}
use Rattle.torus_geom.proofs.Chains.ChainLemmas.{Contains-members, member_of_members, same_states}
use Rattle.torus_geom.proofs.Chains.CodesLemmas.{AreIndices, by_indices}
use Rattle.torus_geom.proofs.Chains.ReachedLemmas.{IsChain-border, AreIndices-border, states_of-border, states_of-border_at}
use Rattle.torus_geom.proofs.Chains.StateTests.{any-member, is_same-refl, is_same-true, member_of_any}
use Rattle.torus_geom.proofs.TransposeLemmas.{IsGrid-transposed, IsBijection-transposed}
use Rattle.rectangles.specs.Coranks.{coborder}
use Rattle.rectangles.specs.Inner.CodeCoranks as code_coranks
use Rattle.rectangles.proofs.Homology.CorankLemmas.{AreIndices-coborder, states_of-coborder}
use Rattle.rectangles.proofs.Homology.HomologyLemmas.{homology_rank-states}
use Rattle.grid_moves.specs.Inner.CodeCarried as over_codes
use Rattle.grid_moves.proofs.Exchanged.TransposedGrids.{size-transposed, transpose-transpose, transposed-transposed}
use Rattle.grid_moves.proofs.Turned.CarriedChains.{AreInverse}
use Rattle.grid_moves.proofs.Turned.CarriedStates.{AreIndices-carried, states_of-carried}
use Rattle.pentagon_map.proofs.Degrees.KeptDegrees.{components-transposed}
use Rattle.grid_symmetry.specs.Symmetries.{half_turned, marks_exchanged, reflected, reflected_state, symmetric, symmetric_chain, symmetric_state}
use Rattle.grid_symmetry.specs.declared.symmetries.Symmetry.{Symmetry}
use Rattle.grid_symmetry.specs.declared.symmetries.Symmetry.TheVariants.{Flip, Half, Mirror, Marks as ExchangeMarks}
use Rattle.grid_symmetry.proofs.CarriedRanks.{CarriesSteps, ReversesSteps, border-carried, border-reversed}
use Rattle.grid_symmetry.proofs.HalfTurning.{IsBijection-half_turned_state, IsGrid-half_turned, components-half_turned, half_turned-half_turned, half_turned_CarriesSteps, half_turned_state-half_turned_state, rank-half_turned, size-half_turned}
use Rattle.grid_symmetry.proofs.MarksExchanged.{IsGrid-marks_exchanged, components-marks_exchanged, rank-marks_exchanged, unmarked_same}
use Rattle.grid_symmetry.proofs.ReflectedLaws.{components-reflected, rank-reflected}
use Rattle.grid_symmetry.proofs.Reflecting.{IsBijection-reflected_state, IsGrid-reflected, reflected-reflected, reflected_ReversesSteps, reflected_state-reflected_state, size-reflected}
use Rattle.grid_symmetry.proofs.TransposedLaws.{rank-transposed, transposed_CarriesSteps}

-- ---- borders
-- what holds of each set of indices holds of each chain: the border of the carried chain is that of another map,
-- carried
module _ (g h : Marks) (f : List ℕ → List ℕ) (same_size : size h ≡ size g)
    (keeps : (x : List ℕ) → IsBijection (size g) x → IsBijection (size g) (f x)) (on_codes : Codes → Codes)
    (on_chains : Chain → Chain) (below : (z : Codes) → AreIndices (size g) (on_codes z))
    (stands : (z : Codes) → AreIndices (size g) z → states_of (size g) (on_codes z) ≡ on_chains (states_of (size g) z))
    (law : (z : Codes) → code_border.border h (over_codes.carried (size g) f z)
    ≡ over_codes.carried (size g) f (on_codes z)) where
  border-carried_chain : (z : Chain) → IsChain (size g) z
      → border h (carried (size g) f z) ≡ carried (size g) f (on_chains z)
  border-carried_chain =
      by_indices (size g) (λ z. border h (carried (size g) f z) ≡ carried (size g) f (on_chains z)) (λ z ranks.
      ap (border h) (sym (states_of-carried (size g) f keeps z ranks))
      ∙ sym (states_of-border_at h (size g) same_size (over_codes.carried (size g) f z)
      (AreIndices-carried (size g) f keeps z ranks))
      ∙ ap (states_of (size g)) (law z)
      ∙ states_of-carried (size g) f keeps (on_codes z) (below z)
      ∙ ap (carried (size g) f) (stands z ranks))

-- if steps go to steps, the border goes to the border
border_of_carried : (g h : Marks) (f : List ℕ → List ℕ) → CarriesSteps g h f → (z : Chain) → IsChain (size g) z
    → border h (carried (size g) f z) ≡ carried (size g) f (border g z)
border_of_carried g h f c =
    border-carried_chain g h f c.same_size c.inverse.kept (code_border.border g) (border g) (AreIndices-border g)
    (states_of-border g) (border-carried g h f c)

-- if they are turned round, the coborder does
coborder_of_carried : (g h : Marks) (f : List ℕ → List ℕ) → ReversesSteps g h f → (z : Chain) → IsChain (size g) z
    → border h (carried (size g) f z) ≡ carried (size g) f (coborder g z)
coborder_of_carried g h f c =
    border-carried_chain g h f c.same_size c.inverse.kept (code_coranks.coborder g) (coborder g) (AreIndices-coborder g)
    (states_of-coborder g) (border-reversed g h f c)

-- a chain of states is carried to itself if each state stays
pub carried-same : (n : ℕ) (z : Chain) → IsChain n z → carried n (λ x. x) z ≡ z
unfolding carried
carried-same n z sz = same_states (carried n (λ x. x) z) z (λ y.
    same_test (list_any (λ x. is_same x y) (members n z)) (z y)
    (λ h.
    let (x, in_members, is) = member_of_any (λ x. is_same x y) (members n z) h in
    ap z (sym (is_same-true x y is)) ∙ (member_of_members n z x in_members).1)
    (λ h. any-member (λ x. is_same x y) (members n z) y (Contains-members n z y (sz y h) h) (is_same-refl y)))

-- with marks exchanged the border is the same
border-marks_exchanged : (g : Marks) → IsGrid g → (z : Chain) → border (marks_exchanged g) z ≡ border g z
border-marks_exchanged g s z =
    λ i. reached (s.x.long i) (λ x y (r : Rect). leads r x y && (is_empty x r && unmarked_same g s i r)) z

-- All symmetries but the mirror image carry borders to borders.
pub border-symmetric : (s : Symmetry) (g : Marks) → IsGrid g → (z : Chain) → IsChain (size g) z → s ≢ Mirror
    → border (symmetric s g) (symmetric_chain s (size g) z) ≡ symmetric_chain s (size g) (border g z)
border-symmetric Flip g grid z sz other =
    border_of_carried g (transposed g) transpose (transposed_CarriesSteps g grid) z sz
border-symmetric Half g grid z sz other =
    border_of_carried g (half_turned g) (symmetric_state Half) (half_turned_CarriesSteps g grid) z sz
border-symmetric Mirror g grid z sz other = absurd (other refl)
border-symmetric ExchangeMarks g grid z sz other =
    ap (border (marks_exchanged g)) (carried-same (size g) z sz) ∙ border-marks_exchanged g grid z
    ∙ sym (carried-same (size g) (border g z) (IsChain-border g z))

-- The mirror image carries coborders to borders.
pub border-mirror : (g : Marks) → IsGrid g → (f : Chain) → IsChain (size g) f
    → border (reflected g) (symmetric_chain Mirror (size g) f) ≡ symmetric_chain Mirror (size g) (coborder g f)
border-mirror g grid = coborder_of_carried g (reflected g) reflected_state (reflected_ReversesSteps g grid)

-- ---- grids
pub symmetric-symmetric : (s : Symmetry) (g : Marks) → IsGrid g → symmetric s (symmetric s g) ≡ g
symmetric-symmetric Flip g grid = transposed-transposed g grid
symmetric-symmetric Half g grid = half_turned-half_turned g grid
symmetric-symmetric Mirror g grid = reflected-reflected g grid
symmetric-symmetric ExchangeMarks g grid = refl

pub components-symmetric : (s : Symmetry) (g : Marks) → IsGrid g → components (symmetric s g) ≡ components g
components-symmetric Flip g grid = components-transposed g grid
components-symmetric Half g grid = components-half_turned g grid
components-symmetric Mirror g grid = components-reflected g grid
components-symmetric ExchangeMarks g grid = components-marks_exchanged g grid

pub size-symmetric : (s : Symmetry) (g : Marks) → IsGrid g → size (symmetric s g) ≡ size g
size-symmetric Flip g grid = size-transposed g
size-symmetric Half g grid = size-half_turned g
size-symmetric Mirror g grid = size-reflected g
size-symmetric ExchangeMarks g grid = grid.x.long

pub IsGrid-symmetric : (s : Symmetry) (g : Marks) → IsGrid g → IsGrid (symmetric s g)
IsGrid-symmetric Flip g grid = IsGrid-transposed g grid
IsGrid-symmetric Half g grid = IsGrid-half_turned g grid
IsGrid-symmetric Mirror g grid = IsGrid-reflected g grid
IsGrid-symmetric ExchangeMarks g grid = IsGrid-marks_exchanged g grid

-- ---- states
pub IsBijection-symmetric_state : (s : Symmetry) (n : ℕ) (x : List ℕ) → IsBijection n x
    → IsBijection n (symmetric_state s x)
IsBijection-symmetric_state Flip n x sx = IsBijection-transposed n x sx
IsBijection-symmetric_state Half n x sx = IsBijection-half_turned_state n x sx
IsBijection-symmetric_state Mirror n x sx = IsBijection-reflected_state n x sx
IsBijection-symmetric_state ExchangeMarks n x sx = sx

pub symmetric_state-symmetric_state : (s : Symmetry) (n : ℕ) (x : List ℕ) → IsBijection n x
    → symmetric_state s (symmetric_state s x) ≡ x
symmetric_state-symmetric_state Flip n x sx = transpose-transpose n x sx
symmetric_state-symmetric_state Half n x sx = half_turned_state-half_turned_state n x sx
symmetric_state-symmetric_state Mirror n x sx = reflected_state-reflected_state n x sx
symmetric_state-symmetric_state ExchangeMarks n x sx = refl

pub symmetric_AreInverse : (s : Symmetry) (n : ℕ) → AreInverse n (symmetric_state s) (symmetric_state s)
symmetric_AreInverse s n = record {
  kept = IsBijection-symmetric_state s n;
  kept_back = IsBijection-symmetric_state s n;
  undone = symmetric_state-symmetric_state s n;
  redone = symmetric_state-symmetric_state s n;
}

-- the chain of a state alone becomes that of what the state becomes
pub symmetric_chain-single : (s : Symmetry) (n : ℕ) (x : List ℕ) → IsBijection n x
    → symmetric_chain s n (single x) ≡ single (symmetric_state s x)
unfolding carried
symmetric_chain-single s n x sx = same_states (symmetric_chain s n (single x)) (single (symmetric_state s x)) (λ y.
    same_test (list_any (λ w. is_same (symmetric_state s w) y) (members n (single x))) (is_same (symmetric_state s x) y)
    (λ h.
    let (w, in_members, is) = member_of_any (λ w. is_same (symmetric_state s w) y) (members n (single x)) h in
    ap (λ v. is_same (symmetric_state s v) y) (is_same-true x w (member_of_members n (single x) w in_members).1) ∙ is)
    (λ h. any-member (λ w. is_same (symmetric_state s w) y) (members n (single x)) x
    (Contains-members n (single x) x sx (is_same-refl x)) h))

-- ---- ranks
-- grids with the same ranks have the same tables
same_tables : (g h : Marks) → ((m a : ℤ) (d : ℕ) → IsHomologyRank h m a d ↔ IsHomologyRank g m a d) → (rows : List Row)
    → IsHomologyTable h rows ↔ IsHomologyTable g rows
same_tables g h same rows = (
  λ t. record {
    ordered = t.ordered;
    complete = λ m a d. let (there, back) = t.complete m a d in let (to, from) = same m a d in (
      λ c. let (some, r) = there c in (some, to r),
      λ (some, r). back (some, from r),
    );
  },
  λ t. record {
    ordered = t.ordered;
    complete = λ m a d. let (there, back) = t.complete m a d in let (to, from) = same m a d in (
      λ c. let (some, r) = there c in (some, from r),
      λ (some, r). back (some, to r),
    );
  },
)

-- ranks over codes that imply each other do so over states
over_states : (g h : Marks) (m a k b : ℤ) (d : ℕ)
    → code_homology.IsHomologyRank h k b d ↔ code_homology.IsHomologyRank g m a d
    → IsHomologyRank h k b d ↔ IsHomologyRank g m a d
over_states g h m a k b d (there, back) =
    let (to_g, from_g) = homology_rank-states g m a d in
    let (to_h, from_h) = homology_rank-states h k b d in
    (λ r. to_g (there (from_h r)), λ r. to_h (back (from_g r)))

pub table-transposed : (g : Marks) → IsGrid g → (rows : List Row) → IsHomologyTable (transposed g) rows
    ↔ IsHomologyTable g rows
table-transposed g grid =
    same_tables g (transposed g) (λ m a d. over_states g (transposed g) m a m a d (rank-transposed g grid m a d))

pub table-half_turned : (g : Marks) → IsGrid g → (rows : List Row) → IsHomologyTable (half_turned g) rows
    ↔ IsHomologyTable g rows
table-half_turned g grid =
    same_tables g (half_turned g) (λ m a d. over_states g (half_turned g) m a m a d (rank-half_turned g grid m a d))

pub rank-mirror : (g : Marks) → IsGrid g → (m a : ℤ) (d : ℕ)
    → IsHomologyRank (reflected g) (pos 1 -ℤ pos (size g) -ℤ m) (pos 0 -ℤ (pos (size g) -ℤ pos (components g)) -ℤ a) d
    ↔ IsHomologyRank g m a d
rank-mirror g grid m a d = over_states g (reflected g) m a _ _ d (rank-reflected g grid m a d)

pub rank-exchanged : (g : Marks) → IsGrid g → (m a : ℤ) (d : ℕ)
    → IsHomologyRank (marks_exchanged g) (m -ℤ pos 2 *ℤ a -ℤ (pos (size g) -ℤ pos (components g)))
    (pos 0 -ℤ a -ℤ (pos (size g) -ℤ pos (components g))) d
    ↔ IsHomologyRank g m a d
rank-exchanged g grid m a d = over_states g (marks_exchanged g) m a _ _ d (rank-marks_exchanged g grid m a d)
