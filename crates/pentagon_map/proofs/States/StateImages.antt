-- The image of a set of indices across a commutation stands for the image of its chain of states, for columns and for
-- rows. The laws of images of chains of states follow from those of sets of indices.
-- Route: for columns, what a set of codes reaches stands for what its chain reaches; for rows, the grid is transposed.
use Rattle.torus_geom.proofs.Chains.OrderedMembers.{listed_members}
use Rattle.std.specs.List.{Contains}
use Rattle.std.proofs.Common.{◌≡◌, ℕ, ◌<◌, true, ◌&&◌, List, sym, ap, subst, ◌∙◌, map}
use Rattle.std.proofs.lemmas.Bool.{and_parts}
use Rattle.f2_algebra.specs.Chain.{Chain as Codes, single as one_code, codes, holds}
use Rattle.f2_algebra.proofs.Chains.Sums.{sum_over-single}
use Rattle.state_rank.specs.Bijection.{IsBijection}
use Rattle.state_rank.specs.States.{rank, unrank, transpose}
use Rattle.state_rank.proofs.RankLemmas.{unrank-rank}
use Rattle.torus_geom.specs.Marks.{Marks, IsGrid, size}
use Rattle.torus_geom.specs.Rectangle.{leads, is_empty}
use Rattle.torus_geom.specs.Transposed as grids
use Rattle.torus_geom.proofs.TransposeLemmas.{IsBijection-transposed}
use Rattle.grid_moves.proofs.Exchanged.TransposedGrids.{size-transposed}
use Rattle.grid_moves.proofs.Turned.TurnedStates.{IsBijection-turned_state}
use Rattle.pentagon_map.proofs.ChainMap.ImageOfBorder.{image_by_columns}
use Rattle.pentagon_map.proofs.Rows.ImageByRows.{image-by_rows}
use Rattle.torus_geom.specs.Chains.{Chain, IsChain, single, members}
use Rattle.torus_geom.specs.Codes.{states_of}
use Rattle.torus_geom.proofs.Chains.ChainLemmas.{LeadsToStates, leads_to_state}
use Rattle.torus_geom.proofs.Chains.CodesLemmas.{AreIndices, AreIndices-single, states_of-single, in_states_of}
use Rattle.grid_moves.specs.Carried.{turned_chain, transposed_chain, turned_place, turned_state}
use Rattle.grid_moves.specs.Inner.CodeCarried as code_carried
use Rattle.grid_moves.specs.Moves.{are_commuting, swapped, turned}
use Rattle.grid_moves.specs.declared.commutations.Axis.{Axis}
use Rattle.grid_moves.specs.declared.commutations.Axis.TheVariants.{Cols, Rows}
use Rattle.grid_moves.specs.declared.turns.Side.{Side}
use Rattle.grid_moves.proofs.Exchanged.SwappedTwice.{size-swapped, IsGrid-swapped}
use Rattle.grid_moves.proofs.Turned.CarriedStates.{AreIndices-carried, states_of-transposed, states_of-turned, IsChain-carried}
use Rattle.grid_moves.proofs.Turned.TurnLemmas.{IsGrid-turned, length-turned_rows}
use Rattle.pentagon_map.specs.Inner.CodeImages as over_codes
use Rattle.pentagon_map.specs.Pentagon.{column_image, crossing_row, image, is_pentagon, is_pentagonal}
use Rattle.pentagon_map.specs.declared.Corner.{Corner}
use Rattle.pentagon_map.specs.declared.Corner.TheVariants.{Over, Under}
use Rattle.pentagon_map.proofs.Degrees.KeptDegrees.{alexander-image, image_KeepsDegrees}
use Rattle.pentagon_map.proofs.FrontStates.ByAxis as code_states
use Rattle.pentagon_map.proofs.FrontStates.ByAxis.{image-single}
use Rattle.pentagon_map.proofs.FrontStates.PlusState.{IsBijection-plus_state}
use Rattle.torus_geom.specs.Degrees.{maslov_o, alexander}
use Rattle.torus_geom.specs.Front.{minus_state, plus_state}
use Rattle.pentagon_map.proofs.Rows.ImageByRows as code_laws
use Rattle.pentagon_map.proofs.Turns.TurnedByAxis as turned_images
use Rattle.torus_geom.specs.Border.{border}
use Rattle.torus_geom.specs.Chains.{Chain, IsChain, single}
use Rattle.torus_geom.specs.Codes.{states_of}
use Rattle.torus_geom.specs.Inner.CodeBorder as code_border
use Rattle.torus_geom.proofs.Chains.ChainLemmas.{LeadsToStates, leads_to_state}
use Rattle.torus_geom.proofs.Chains.CodesLemmas.{AreIndices, AreIndices-single, by_indices, states_of-single, states_of_one_to_one}
use Rattle.torus_geom.proofs.Chains.ReachedLemmas.{AreIndices-border, AreIndices-reached, states_of-border, states_of-border_at, states_of-reached, IsChain-reached}

-- ---- images
pentagons_LeadToStates : (g : Marks) (c w : ℕ) → LeadsToStates (size g) (is_pentagon g c w)
pentagons_LeadToStates g c w x y r sx proper h =
    leads_to_state (size g) x y r sx proper (and_parts (leads r x y) (is_empty x r && is_pentagonal g c w r) h).0

states_of-columns : (g : Marks) (c : ℕ) (corner : Corner) (z : Codes) → AreIndices (size g) z
    → states_of (size g) (image_by_columns g c corner z) ≡ column_image g c corner (states_of (size g) z)
unfolding image_by_columns over_codes.column_image
states_of-columns g c corner z below =
    states_of-reached (size g) (is_pentagon g c (crossing_row g c corner))
    (pentagons_LeadToStates g c (crossing_row g c corner)) z below

AreIndices-columns : (g : Marks) (c : ℕ) (corner : Corner) (z : Codes)
    → AreIndices (size g) (image_by_columns g c corner z)
unfolding image_by_columns over_codes.column_image
AreIndices-columns g c corner z = AreIndices-reached (size g) (is_pentagon g c (crossing_row g c corner)) z

-- the same, if the size has another name
states_of-columns_at : (g : Marks) (n : ℕ) → size g ≡ n → (c : ℕ) (corner : Corner) (z : Codes) → AreIndices n z
    → states_of n (image_by_columns g c corner z) ≡ column_image g c corner (states_of n z)
states_of-columns_at g n e c corner z =
    let P : ℕ → Type 0 = λ m. AreIndices m z
    → states_of m (image_by_columns g c corner z) ≡ column_image g c corner (states_of m z) in
    subst P e (states_of-columns g c corner z)

-- The image of a set of indices across a commutation stands for the image of its chain, for columns and for rows.
pub states_of-image : (axis : Axis) (g : Marks) → IsGrid g → (c : ℕ) (corner : Corner) (z : Codes)
    → AreIndices (size g) z
    → states_of (size g) (over_codes.image axis g c corner z)
    ≡ image axis g c corner (states_of (size g) z)
unfolding over_codes.image over_codes.column_image
states_of-image Cols g s c corner z below =
    states_of-reached (size g) (is_pentagon g c (crossing_row g c corner))
    (pentagons_LeadToStates g c (crossing_row g c corner)) z below
states_of-image Rows g s c corner z below =
    let n = size g in
    let t = grids.transposed g in
    let across = image_by_columns t c corner (code_carried.transposed_chain n z) in
    ap (states_of n) (image-by_rows g s c corner z)
    ∙ states_of-transposed n across
    (subst (λ m. AreIndices m across) (size-transposed g)
    (AreIndices-columns t c corner (code_carried.transposed_chain n z)))
    ∙ ap (transposed_chain n)
    (states_of-columns_at t n (size-transposed g) c corner (code_carried.transposed_chain n z)
    (AreIndices-carried n transpose (IsBijection-transposed n) z below)
    ∙ ap (column_image t c corner) (states_of-transposed n z below))

-- it has indices of states
pub AreIndices-image : (axis : Axis) (g : Marks) → IsGrid g → (c : ℕ) (corner : Corner) (z : Codes)
    → AreIndices (size g) z
    → AreIndices (size g) (over_codes.image axis g c corner z)
unfolding over_codes.image over_codes.column_image
AreIndices-image Cols g s c corner z below =
    AreIndices-reached (size g) (is_pentagon g c (crossing_row g c corner)) z
AreIndices-image Rows g s c corner z below =
    let n = size g in
    let t = grids.transposed g in
    let across = image_by_columns t c corner (code_carried.transposed_chain n z) in
    subst (AreIndices n) (sym (image-by_rows g s c corner z))
    (AreIndices-carried n transpose (IsBijection-transposed n) across
    (subst (λ m. AreIndices m across) (size-transposed g)
    (AreIndices-columns t c corner (code_carried.transposed_chain n z))))

-- The same of the image of one state.
pub states_of-image_of_state : (axis : Axis) (g : Marks) → IsGrid g → (c : ℕ) (corner : Corner) (x : List ℕ)
    → IsBijection (size g) x
    → states_of (size g) (over_codes.image_of_state axis g c corner x) ≡ image axis g c corner (single x)
unfolding over_codes.image
states_of-image_of_state axis g s c corner x sx =
    let n = size g in
    ap (states_of n) (ap (over_codes.image_of_state axis g c corner) (sym (unrank-rank n x sx))
    ∙ sym (sum_over-single (rank x) (λ code. over_codes.image_of_state axis g c corner (unrank n code))))
    ∙ states_of-image axis g s c corner (one_code (rank x)) (AreIndices-single n x sx)
    ∙ ap (image axis g c corner) (states_of-single n x sx)

-- ---- laws
-- if the size has another name
pub states_of-image_at : (axis : Axis) (g : Marks) → IsGrid g → (n : ℕ) → size g ≡ n
    → (c : ℕ) (corner : Corner) (z : Codes)
    → AreIndices n z → states_of n (over_codes.image axis g c corner z) ≡ image axis g c corner (states_of n z)
states_of-image_at axis g s n e c corner z =
    let P : ℕ → Type 0 =
    λ m. AreIndices m z → states_of m (over_codes.image axis g c corner z) ≡ image axis g c corner (states_of m z) in
    subst P e (states_of-image axis g s c corner z)

-- The image of the border of a chain is the border, in the exchanged grid, of its image.
pub image-border : (axis : Axis) (g : Marks) → IsGrid g → (c : ℕ) → c < size g → are_commuting axis g c ≡ true
    → (corner : Corner) (z : Chain) → IsChain (size g) z
    → image axis g c corner (border g z) ≡ border (swapped axis g c) (image axis g c corner z)
image-border axis g s c l commutes corner =
    let n = size g in
    by_indices n (λ z. image axis g c corner (border g z)
    ≡ border (swapped axis g c) (image axis g c corner z)) (λ z below.
    ap (image axis g c corner) (sym (states_of-border g z below))
    ∙ sym (states_of-image axis g s c corner (code_border.border g z) (AreIndices-border g z))
    ∙ ap (states_of n) (code_laws.image-border axis g s c l commutes corner z)
    ∙ states_of-border_at (swapped axis g c) n (size-swapped axis g c) (over_codes.image axis g c corner z)
    (AreIndices-image axis g s c corner z below)
    ∙ ap (border (swapped axis g c)) (states_of-image axis g s c corner z below))

-- A turn carries the image of a chain to the image of the turned chain, at the turned place.
pub image-turned : (axis : Axis) (side : Side) (g : Marks) → IsGrid g → (c : ℕ) → c < size g → (corner : Corner)
    (z : Chain) → IsChain (size g) z
    → image axis (turned side g) (turned_place axis side (size g) c) corner (turned_chain side (size g) z)
    ≡ turned_chain side (size g) (image axis g c corner z)
image-turned axis side g s c l corner =
    let n = size g in
    let h = turned side g in
    let place = turned_place axis side n c in
    by_indices n (λ z. image axis h place corner (turned_chain side n z)
    ≡ turned_chain side n (image axis g c corner z)) (λ z below.
    ap (image axis h place corner) (sym (states_of-turned side n z below))
    ∙ sym (states_of-image_at axis h (IsGrid-turned side g s) n (length-turned_rows side n g.o) place corner
    (code_carried.turned_chain side n z)
    (AreIndices-carried n (turned_state side) (IsBijection-turned_state side n) z below))
    ∙ ap (states_of n) (turned_images.image-turned axis side g s c l corner z)
    ∙ states_of-turned side n (over_codes.image axis g c corner z) (AreIndices-image axis g s c corner z below)
    ∙ ap (turned_chain side n) (states_of-image axis g s c corner z below))

-- ---- from a clause over states to one over codes
-- a set of indices that stands for the image of a chain is the image of the set of its indices
pub image_codes : (axis : Axis) (g : Marks) → IsGrid g → (c : ℕ) (corner : Corner) (y z : Codes) → AreIndices (size g) y
    → AreIndices (size g) z → states_of (size g) y ≡ image axis g c corner (states_of (size g) z)
    → y ≡ over_codes.image axis g c corner z
image_codes axis g s c corner y z sy sz e =
    states_of_one_to_one (size g) y (over_codes.image axis g c corner z) sy (AreIndices-image axis g s c corner z sz)
    (e ∙ sym (states_of-image axis g s c corner z sz))

-- ---- the image of one state
module _ (axis : Axis) (g : Marks) (s : IsGrid g) (c : ℕ) (corner : Corner) (x : List ℕ)
    (sx : IsBijection (size g) x) where
  pub AreIndices-image_of_state : AreIndices (size g) (over_codes.image_of_state axis g c corner x)
  AreIndices-image_of_state =
      subst (AreIndices (size g)) (image-single axis g c corner x sx)
      (AreIndices-image axis g s c corner (one_code (rank x)) (AreIndices-single (size g) x sx))

  -- a state of the image, and its index
  pub in_image_of_state : (y : List ℕ) → image axis g c corner (single x) y ≡ true
      → IsBijection (size g) y × (holds (over_codes.image_of_state axis g c corner x) (rank y) ≡ true)
  in_image_of_state y h =
      in_states_of (size g) (over_codes.image_of_state axis g c corner x) y
      (ap (λ z. z y) (states_of-image_of_state axis g s c corner x sx) ∙ h)

  -- a list of states with these codes lists the states of the image, in order
  pub image_in_order : (items : List (List ℕ)) → ((y : List ℕ) → Contains items y → IsBijection (size g) y)
      → map rank items ≡ codes (over_codes.image_of_state axis g c corner x)
      → items ≡ members (size g) (image axis g c corner (single x))
  image_in_order items all e =
      listed_members (size g) (over_codes.image_of_state axis g c corner x) AreIndices-image_of_state items all e
      ∙ ap (members (size g)) (states_of-image_of_state axis g s c corner x sx)

-- ---- x+ and x-
states_of-single_at : (g : Marks) (n : ℕ) → size g ≡ n → (x : List ℕ) → IsBijection (size g) x
    → states_of n (one_code (rank x)) ≡ single x
states_of-single_at g n e x sx = states_of-single n x (subst (λ m. IsBijection m x) e sx)

-- `Over` carries x+ to x+.
pub image-plus_state : (axis : Axis) (g : Marks) → IsGrid g → (c : ℕ) → c < size g → are_commuting axis g c ≡ true
    → image axis g c Over (single (plus_state g)) ≡ single (plus_state (swapped axis g c))
image-plus_state axis g s c l h =
    let sx = IsBijection-plus_state g s in
    let there = swapped axis g c in
    sym (states_of-image_of_state axis g s c Over (plus_state g) sx)
    ∙ ap (states_of (size g)) (sym (image-single axis g c Over (plus_state g) sx)
    ∙ code_states.image-plus_state axis g s c l h)
    ∙ states_of-single_at there (size g) (size-swapped axis g c) (plus_state there)
    (IsBijection-plus_state there (IsGrid-swapped axis g s c l))

-- `Under` carries x- to x-.
pub image-minus_state : (axis : Axis) (g : Marks) → IsGrid g → (c : ℕ) → c < size g → are_commuting axis g c ≡ true
    → image axis g c Under (single (minus_state g)) ≡ single (minus_state (swapped axis g c))
image-minus_state axis g s c l h =
    let there = swapped axis g c in
    sym (states_of-image_of_state axis g s c Under (minus_state g) s.x)
    ∙ ap (states_of (size g)) (sym (image-single axis g c Under (minus_state g) s.x)
    ∙ code_states.image-minus_state axis g s c l h)
    ∙ states_of-single_at there (size g) (size-swapped axis g c) (minus_state there) (IsGrid-swapped axis g s c l).x

-- ---- degrees
module _ (axis : Axis) (g : Marks) (s : IsGrid g) (c : ℕ) (l : c < size g) (h : are_commuting axis g c ≡ true)
    (corner : Corner) (x y : List ℕ) (sx : IsBijection (size g) x)
    (held : image axis g c corner (single x) y ≡ true) where
  -- a state of the image of x has its Maslov degree
  pub maslov_o-in_image : maslov_o (swapped axis g c) y ≡ maslov_o g x
  maslov_o-in_image = let (sy, e) = in_image_of_state axis g s c corner x sx y held in
      (image_KeepsDegrees axis g s c l h corner x y sx sy e).by_o

  -- and its Alexander degree
  pub alexander-in_image : alexander (swapped axis g c) y ≡ alexander g x
  alexander-in_image = let (sy, e) = in_image_of_state axis g s c corner x sx y held in
      alexander-image axis g s c l h corner x y sx sy e

-- ---- states alone
-- the image of anything has states alone
pub IsChain-image : (axis : Axis) (g : Marks) (c : ℕ) (corner : Corner) (z : Chain)
    → IsChain (size g) (image axis g c corner z)
IsChain-image Cols g c corner z =
    IsChain-reached (size g) (is_pentagon g c (crossing_row g c corner))
    (pentagons_LeadToStates g c (crossing_row g c corner)) z
IsChain-image Rows g c corner z = IsChain-carried (size g) transpose (IsBijection-transposed (size g)) _
