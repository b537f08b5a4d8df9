-- The homotopy of a set of indices across a commutation stands for the homotopy of its chain of states, for columns and
-- for rows. The laws of homotopies of chains of states follow from those of sets of indices.
-- Route: for columns, what a set of codes reaches stands for what its chain reaches; for rows, the grid is transposed.
use Rattle.std.proofs.Common.{◌≡◌, ℕ, ◌<◌, true, ◌&&◌, List, sym, ap, ap₂, subst, ◌∙◌, map}
use Rattle.std.specs.List.{Contains}
use Rattle.std.proofs.lemmas.Bool.{and_parts}
use Rattle.f2_algebra.specs.Chain.{Chain as Codes, single as one_code, codes, holds}
use Rattle.f2_algebra.proofs.Chains.Sums.{sum_over-single}
use Rattle.state_rank.specs.Bijection.{IsBijection}
use Rattle.state_rank.specs.States.{rank, unrank, transpose}
use Rattle.state_rank.proofs.RankLemmas.{unrank-rank}
use Rattle.torus_geom.specs.Border.{border}
use Rattle.torus_geom.specs.Chains.{Chain, IsChain, single, members, ◌⊕◌}
use Rattle.torus_geom.specs.Codes.{states_of}
use Rattle.torus_geom.specs.Inner.CodeBorder as code_border
use Rattle.torus_geom.specs.Marks.{Marks, IsGrid, size}
use Rattle.torus_geom.specs.Rectangle.{leads, is_empty}
use Rattle.torus_geom.specs.Transposed as grids
use Rattle.torus_geom.proofs.Chains.ChainLemmas.{LeadsToStates, leads_to_state}
use Rattle.torus_geom.proofs.Chains.CodesLemmas.{AreIndices, AreIndices-single, by_indices, in_states_of, states_of-add, states_of-single}
use Rattle.torus_geom.proofs.Chains.OrderedMembers.{listed_members}
use Rattle.torus_geom.proofs.Chains.ReachedLemmas.{AreIndices-border, AreIndices-reached, IsChain-reached, states_of-border, states_of-reached}
use Rattle.torus_geom.proofs.TransposeLemmas.{IsBijection-transposed}
use Rattle.grid_moves.specs.Carried.{transposed_chain}
use Rattle.grid_moves.specs.Inner.CodeCarried as code_carried
use Rattle.grid_moves.specs.Moves.{are_commuting, swapped}
use Rattle.grid_moves.specs.declared.commutations.Axis.{Axis}
use Rattle.grid_moves.specs.declared.commutations.Axis.TheVariants.{Cols, Rows}
use Rattle.grid_moves.proofs.Exchanged.SwappedTwice.{size-swapped, IsGrid-swapped}
use Rattle.grid_moves.proofs.Exchanged.TransposedGrids.{size-transposed}
use Rattle.grid_moves.proofs.Turned.CarriedStates.{AreIndices-carried, states_of-transposed, IsChain-carried}
use Rattle.pentagon_map.specs.Inner.CodeImages as code_images
use Rattle.pentagon_map.specs.Pentagon.{crossing_row, image}
use Rattle.pentagon_map.specs.declared.Corner.{Corner}
use Rattle.pentagon_map.proofs.States.StateImages.{AreIndices-image, states_of-image, states_of-image_at}
use Rattle.hexagon_map.specs.Hexagon.{column_homotopy, crossing_row_back, homotopy, is_hexagon, is_hexagonal, return_image}
use Rattle.hexagon_map.specs.Inner.CodeHomotopies as over_codes
use Rattle.hexagon_map.proofs.WayBack.HomotopyByAxis as code_laws
use Rattle.hexagon_map.proofs.WayBack.HomotopyOfColumns.{homotopy_by_columns}

-- ---- homotopies
hexagons_LeadToStates : (g : Marks) (c w v : ℕ) → LeadsToStates (size g) (is_hexagon g c w v)
hexagons_LeadToStates g c w v x y r sx proper h =
    leads_to_state (size g) x y r sx proper (and_parts (leads r x y) (is_empty x r && is_hexagonal g c w v r) h).0

states_of-columns : (g : Marks) (c : ℕ) (corner : Corner) (z : Codes) → AreIndices (size g) z
    → states_of (size g) (homotopy_by_columns g c corner z) ≡ column_homotopy g c corner (states_of (size g) z)
unfolding homotopy_by_columns over_codes.column_homotopy
states_of-columns g c corner z below =
    states_of-reached (size g) (is_hexagon g c (crossing_row g c corner) (crossing_row_back g c corner))
    (hexagons_LeadToStates g c (crossing_row g c corner) (crossing_row_back g c corner)) z below

AreIndices-columns : (g : Marks) (c : ℕ) (corner : Corner) (z : Codes)
    → AreIndices (size g) (homotopy_by_columns g c corner z)
unfolding homotopy_by_columns over_codes.column_homotopy
AreIndices-columns g c corner z =
    AreIndices-reached (size g) (is_hexagon g c (crossing_row g c corner) (crossing_row_back g c corner)) z

-- the same, if the size has another name
states_of-columns_at : (g : Marks) (n : ℕ) → size g ≡ n → (c : ℕ) (corner : Corner) (z : Codes) → AreIndices n z
    → states_of n (homotopy_by_columns g c corner z) ≡ column_homotopy g c corner (states_of n z)
states_of-columns_at g n e c corner z =
    let P : ℕ → Type 0 = λ m. AreIndices m z
    → states_of m (homotopy_by_columns g c corner z) ≡ column_homotopy g c corner (states_of m z) in
    subst P e (states_of-columns g c corner z)

-- The homotopy of a set of indices across a commutation stands for the homotopy of its chain, for columns and for rows.
pub states_of-homotopy : (axis : Axis) (g : Marks) → IsGrid g → (c : ℕ) (corner : Corner) (z : Codes)
    → AreIndices (size g) z
    → states_of (size g) (over_codes.homotopy axis g c corner z)
    ≡ homotopy axis g c corner (states_of (size g) z)
unfolding over_codes.homotopy over_codes.column_homotopy
states_of-homotopy Cols g s c corner z below =
    states_of-reached (size g) (is_hexagon g c (crossing_row g c corner) (crossing_row_back g c corner))
    (hexagons_LeadToStates g c (crossing_row g c corner) (crossing_row_back g c corner)) z below
states_of-homotopy Rows g s c corner z below =
    let n = size g in
    let t = grids.transposed g in
    let across = homotopy_by_columns t c corner (code_carried.transposed_chain n z) in
    ap (states_of n) (code_laws.homotopy-by_rows g s c corner z)
    ∙ states_of-transposed n across
    (subst (λ m. AreIndices m across) (size-transposed g)
    (AreIndices-columns t c corner (code_carried.transposed_chain n z)))
    ∙ ap (transposed_chain n)
    (states_of-columns_at t n (size-transposed g) c corner (code_carried.transposed_chain n z)
    (AreIndices-carried n transpose (IsBijection-transposed n) z below)
    ∙ ap (column_homotopy t c corner) (states_of-transposed n z below))

-- it has indices of states
pub AreIndices-homotopy : (axis : Axis) (g : Marks) → IsGrid g → (c : ℕ) (corner : Corner) (z : Codes)
    → AreIndices (size g) (over_codes.homotopy axis g c corner z)
AreIndices-homotopy axis g s c corner z k h = code_laws.homotopy-below axis g s c corner z k h

-- The same of the homotopy of one state.
pub states_of-homotopy_of_state : (axis : Axis) (g : Marks) → IsGrid g → (c : ℕ) (corner : Corner) (x : List ℕ)
    → IsBijection (size g) x
    → states_of (size g) (over_codes.homotopy_of_state axis g c corner x) ≡ homotopy axis g c corner (single x)
unfolding over_codes.homotopy
states_of-homotopy_of_state axis g s c corner x sx =
    let n = size g in
    ap (states_of n) (ap (over_codes.homotopy_of_state axis g c corner) (sym (unrank-rank n x sx))
    ∙ sym (sum_over-single (rank x) (λ code. over_codes.homotopy_of_state axis g c corner (unrank n code))))
    ∙ states_of-homotopy axis g s c corner (one_code (rank x)) (AreIndices-single n x sx)
    ∙ ap (homotopy axis g c corner) (states_of-single n x sx)

-- the homotopy of anything has states alone
pub IsChain-homotopy : (axis : Axis) (g : Marks) (c : ℕ) (corner : Corner) (z : Chain)
    → IsChain (size g) (homotopy axis g c corner z)
IsChain-homotopy Cols g c corner z =
    IsChain-reached (size g) (is_hexagon g c (crossing_row g c corner) (crossing_row_back g c corner))
    (hexagons_LeadToStates g c (crossing_row g c corner) (crossing_row_back g c corner)) z
IsChain-homotopy Rows g c corner z = IsChain-carried (size g) transpose (IsBijection-transposed (size g)) _

-- ---- the law
-- A chain and its image there and back are together the border of its homotopy and the homotopy of its border.
pub homotopy_of_chain-law : (axis : Axis) (g : Marks) → IsGrid g → (c : ℕ) → c < size g → are_commuting axis g c ≡ true
    → (corner : Corner) (z : Chain) → IsChain (size g) z
    → z ⊕ return_image axis g c corner z
    ≡ border g (homotopy axis g c corner z) ⊕ homotopy axis g c corner (border g z)
homotopy_of_chain-law axis g s c l commutes corner =
    let n = size g in
    let there = swapped axis g c in
    by_indices n (λ z. z ⊕ return_image axis g c corner z
    ≡ border g (homotopy axis g c corner z) ⊕ homotopy axis g c corner (border g z)) (λ z below.
    let of_image = AreIndices-image axis g s c corner z below in
    ap (λ u. states_of n z ⊕ u)
    (ap (image axis there c corner) (sym (states_of-image axis g s c corner z below))
    ∙ sym (states_of-image_at axis there (IsGrid-swapped axis g s c l) n (size-swapped axis g c) c corner
    (code_images.image axis g c corner z) of_image))
    ∙ sym (states_of-add n z (over_codes.return_image axis g c corner z))
    ∙ ap (states_of n) (code_laws.homotopy-law axis g s c l commutes corner z below)
    ∙ states_of-add n (code_border.border g (over_codes.homotopy axis g c corner z))
    (over_codes.homotopy axis g c corner (code_border.border g z))
    ∙ ap₂ (λ u w. u ⊕ w)
    (states_of-border g (over_codes.homotopy axis g c corner z) (AreIndices-homotopy axis g s c corner z)
    ∙ ap (border g) (states_of-homotopy axis g s c corner z below))
    (states_of-homotopy axis g s c corner (code_border.border g z) (AreIndices-border g z)
    ∙ ap (homotopy axis g c corner) (states_of-border g z below)))

-- ---- the homotopy of one state
module _ (axis : Axis) (g : Marks) (s : IsGrid g) (c : ℕ) (corner : Corner) (x : List ℕ)
    (sx : IsBijection (size g) x) where
  AreIndices-homotopy_of_state : AreIndices (size g) (over_codes.homotopy_of_state axis g c corner x)
  AreIndices-homotopy_of_state k h = (code_laws.homotopy_of_state_IsOfStates axis g s c corner).below x k sx h

  -- a state of the homotopy, and its index
  pub in_homotopy_of_state : (y : List ℕ) → homotopy axis g c corner (single x) y ≡ true
      → IsBijection (size g) y × (holds (over_codes.homotopy_of_state axis g c corner x) (rank y) ≡ true)
  in_homotopy_of_state y h =
      in_states_of (size g) (over_codes.homotopy_of_state axis g c corner x) y
      (ap (λ z. z y) (states_of-homotopy_of_state axis g s c corner x sx) ∙ h)

  -- a list of states with these codes lists the states of the homotopy, in order
  pub homotopy_in_order : (items : List (List ℕ)) → ((y : List ℕ) → Contains items y → IsBijection (size g) y)
      → map rank items ≡ codes (over_codes.homotopy_of_state axis g c corner x)
      → items ≡ members (size g) (homotopy axis g c corner (single x))
  homotopy_in_order items all e =
      listed_members (size g) (over_codes.homotopy_of_state axis g c corner x) AreIndices-homotopy_of_state items all e
      ∙ ap (members (size g)) (states_of-homotopy_of_state axis g s c corner x sx)
