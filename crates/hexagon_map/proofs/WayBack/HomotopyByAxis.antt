-- The homotopy for columns and for rows. By rows: transposing carries the law of columns over, chain by chain.
use Rattle.std.proofs.Common.{[], ap, ap₂, arith, inl, inr, refl, subst, sym, true, ℕ, ◌<◌, ◌∙◌, ◌≡◌}
use Rattle.std.proofs.lemmas.Bool.{cases_lt, false≢true}
use Rattle.f2_algebra.proofs.Chains.Sets.{holds-add, holds-nothing, same_chain, weight-some}
use Rattle.f2_algebra.proofs.Chains.Sums.{holds-sum_over}
use Rattle.f2_algebra.specs.Chain.{Chain, holds, sum_over, ◌⊕◌}
use Rattle.f2_algebra.proofs.Chains.Tables.{◌⊻◌}
use Rattle.state_rank.proofs.RankLemmas.{IsBijection-unrank, unrank-past}
use Rattle.state_rank.specs.States.{factorial, rank, transpose, unrank}
use Rattle.torus_geom.proofs.TransposeLemmas.{IsBijection-transposed, IsGrid-transposed}
use Rattle.torus_geom.specs.Marks.{IsGrid, Marks, size}
use Rattle.torus_geom.specs.Transposed.{transposed}
use Rattle.grid_moves.proofs.Turned.CarriedChains.{AreInverse, IsOfStates, holds-carried, moved-past, moved-rank, sum_over-carried}
use Rattle.grid_moves.proofs.Exchanged.SwapGridLemmas.{IsGrid-swapped_columns}
use Rattle.grid_moves.proofs.Exchanged.SwappedTwice.{IsGrid-swapped, size-swapped}
use Rattle.grid_moves.proofs.Exchanged.TransposedGrids.{size-transposed, transpose_AreInverse, transposed-transposed}
use Rattle.grid_moves.specs.Moves.{are_commuting, swapped, swapped_columns}
use Rattle.grid_moves.specs.declared.commutations.Axis.{Axis}
use Rattle.grid_moves.specs.declared.commutations.Axis.TheVariants.{Cols, Rows}
use Rattle.pentagon_map.proofs.ChainMap.ImageOfBorder.{image_by_columns}
use Rattle.pentagon_map.proofs.Rows.ImageByRows.{border-transposed_back, image-by_columns, image-by_rows, transposed_chain-twice}
use Rattle.pentagon_map.proofs.Rows.Transposing.{border-transposed}
use Rattle.pentagon_map.specs.declared.Corner.{Corner}
use Rattle.hexagon_map.proofs.WayBack.HexagonSums.{column_homotopy-below, column_homotopy-nil}
use Rattle.hexagon_map.proofs.WayBack.HomotopyOfColumns.{homotopy_by_columns, homotopy_by_columns-law}
use Rattle.torus_geom.specs.Inner.CodeBorder.{border}
use Rattle.grid_moves.specs.Inner.CodeCarried.{moved, transposed_chain}
use Rattle.pentagon_map.specs.Inner.CodeImages.{image}
use Rattle.hexagon_map.specs.Inner.CodeHomotopies.{column_homotopy, homotopy, homotopy_of_state, return_image}

-- transposing a sum of chains
pub transposed_chain-add : (n : ℕ) (z w : Chain)
    → transposed_chain n (z ⊕ w) ≡ transposed_chain n z ⊕ transposed_chain n w
transposed_chain-add n z w =
    let is = transpose_AreInverse n in
    same_chain _ _ (λ q.
    holds-carried n transpose transpose is (z ⊕ w) q ∙ holds-add z w (moved n transpose q)
    ∙ sym (holds-add (transposed_chain n z) (transposed_chain n w) q
    ∙ ap₂ ◌⊻◌ (holds-carried n transpose transpose is z q) (holds-carried n transpose transpose is w q)))

-- a chain of states is transposed to one
pub transposed_chain-states : (n : ℕ) (z : Chain) → ((k : ℕ) → holds z k ≡ true → k < factorial n) → (k : ℕ)
    → holds (transposed_chain n z) k ≡ true → k < factorial n
transposed_chain-states n z states k h = elim (cases_lt k (factorial n)) [
  | inl l ↦ l
  | inr l ↦
      let still = moved-past n transpose k l in
      let there = states (moved n transpose k)
      (sym (holds-carried n transpose transpose (transpose_AreInverse n) z k) ∙ h) in
      absurd (omega arith)
]

-- the homotopy of a state has indices of states, and the empty list has none
pub column_homotopy_IsOfStates : (g : Marks) (n : ℕ) → size g ≡ n → (c : ℕ) (corner : Corner)
    → IsOfStates n (column_homotopy g c corner)
column_homotopy_IsOfStates g n e c corner = record {
  of_nil = column_homotopy-nil g c corner;
  below = λ x t sx h. subst (λ m. t < factorial m) e (column_homotopy-below g c corner x t h);
}

module _ (g : Marks) (s : IsGrid g) (c : ℕ) (corner : Corner) where
  abbrev n : ℕ
  n = size g

  abbrev t : Marks
  t = transposed g

  is : AreInverse n transpose transpose
  is = transpose_AreInverse n

  pub row_homotopy_IsOfStates : IsOfStates n (homotopy_of_state Rows g c corner)
  row_homotopy_IsOfStates =
      let sG = column_homotopy_IsOfStates t n (size-transposed g) c corner in
      record {
        of_nil = same_chain _ _ (λ q. holds-carried n transpose transpose is (column_homotopy t c corner []) q
            ∙ ap (λ z. holds z (moved n transpose q)) sG.of_nil ∙ holds-nothing (moved n transpose q)
            ∙ sym (holds-nothing q));
        below = λ x q sx h.
            transposed_chain-states n (column_homotopy t c corner (transpose x))
            (λ k held. sG.below (transpose x) k (IsBijection-transposed n x sx) held) q h;
      }

  -- the homotopy across rows: transposed, the homotopy across columns, and transposed back
  pub homotopy-by_rows : (z : Chain)
      → homotopy Rows g c corner z ≡ transposed_chain n (homotopy_by_columns t c corner (transposed_chain n z))
  unfolding homotopy homotopy_by_columns
  homotopy-by_rows z =
      sym (transposed_chain-twice n (sum_over z (λ code. homotopy_of_state Rows g c corner (unrank n code))))
      ∙ ap (transposed_chain n)
      (sym (sum_over-carried n transpose transpose is (homotopy_of_state Rows g c corner)
      (column_homotopy t c corner) row_homotopy_IsOfStates (column_homotopy_IsOfStates t n (size-transposed g) c corner)
      (λ x y sx sy. sym (holds-carried n transpose transpose is (column_homotopy t c corner (transpose x)) (rank y)
      ∙ ap (holds (column_homotopy t c corner (transpose x))) (moved-rank n transpose y sy))) z)
      ∙ ap (λ m. sum_over (transposed_chain n z) (λ code. column_homotopy t c corner (unrank m code)))
      (sym (size-transposed g)))

-- the homotopy across columns
pub homotopy-by_columns : (g : Marks) (c : ℕ) (corner : Corner) (z : Chain)
    → homotopy Cols g c corner z ≡ homotopy_by_columns g c corner z
unfolding homotopy homotopy_by_columns
homotopy-by_columns g c corner z = refl

-- A chain of states and its image there and back are together the border of its homotopy and the homotopy of its
-- border.
pub homotopy-law : (axis : Axis) (g : Marks) → IsGrid g → (c : ℕ) → c < size g → are_commuting axis g c ≡ true
    → (corner : Corner) (z : Chain) → ((k : ℕ) → holds z k ≡ true → k < factorial (size g))
    → z ⊕ return_image axis g c corner z
    ≡ border g (homotopy axis g c corner z) ⊕ homotopy axis g c corner (border g z)
homotopy-law Cols g s c l h corner z states =
    ap (λ u. z ⊕ u) (image-by_columns (swapped_columns g c) c corner (image Cols g c corner z)
    ∙ ap (image_by_columns (swapped_columns g c) c corner) (image-by_columns g c corner z))
    ∙ homotopy_by_columns-law g s c l h corner z states
    ∙ sym (ap₂ (λ u w. border g u ⊕ w) (homotopy-by_columns g c corner z) (homotopy-by_columns g c corner (border g z)))
homotopy-law Rows g s c l h corner z states =
    let n : ℕ = size g in
    let t : Marks = transposed g in
    let st = IsGrid-transposed g s in
    let n_is = size-transposed g in
    let lt : c < size t = omega arith in
    let flip : Chain → Chain = transposed_chain n in
    let there : Marks = swapped Rows g c in
    let on : Chain → Chain = image_by_columns t c corner in
    let back : Chain → Chain = image_by_columns (swapped_columns t c) c corner in
    let hexagons : Chain → Chain = homotopy_by_columns t c corner in
    let to_t : image Rows there c corner (image Rows g c corner z) ≡ flip (back (on (flip z))) =
    image-by_rows there (IsGrid-swapped Rows g s c l) c corner (image Rows g c corner z)
    ∙ (λ i. transposed_chain (size-swapped Rows g c i)
    (image_by_columns (transposed-transposed (swapped_columns t c) (IsGrid-swapped_columns t c st lt) i) c corner
    (transposed_chain (size-swapped Rows g c i) (image-by_rows g s c corner z i))))
    ∙ ap (λ u. flip (back u)) (transposed_chain-twice n (on (flip z))) in
    let states_t : (k : ℕ) → holds (flip z) k ≡ true → k < factorial (size t) =
    λ k held. subst (λ m. k < factorial m) (sym n_is) (transposed_chain-states n z states k held) in
    let first : flip (border t (hexagons (flip z))) ≡ border g (homotopy Rows g c corner z) =
    sym (border-transposed_back t n n_is st (hexagons (flip z)))
    ∙ ap₂ border (transposed-transposed g s) (sym (homotopy-by_rows g s c corner z)) in
    let second : flip (hexagons (border t (flip z))) ≡ homotopy Rows g c corner (border g z) =
    ap (λ u. flip (hexagons u)) (border-transposed g s z) ∙ sym (homotopy-by_rows g s c corner (border g z)) in
    ap₂ (λ u w. u ⊕ w) (sym (transposed_chain-twice n z)) to_t
    ∙ sym (transposed_chain-add n (flip z) (back (on (flip z))))
    ∙ ap flip (homotopy_by_columns-law t st c lt h corner (flip z) states_t)
    ∙ transposed_chain-add n (border t (hexagons (flip z))) (hexagons (border t (flip z)))
    ∙ ap₂ (λ u w. u ⊕ w) first second

-- the homotopy of a state has indices of states, and the empty list has none
pub homotopy_of_state_IsOfStates : (axis : Axis) (g : Marks) → IsGrid g → (c : ℕ) (corner : Corner)
    → IsOfStates (size g) (homotopy_of_state axis g c corner)
homotopy_of_state_IsOfStates Cols g s c corner = column_homotopy_IsOfStates g (size g) refl c corner
homotopy_of_state_IsOfStates Rows g s c corner = row_homotopy_IsOfStates g s c corner

-- the homotopy of a chain has indices of states
pub homotopy-below : (axis : Axis) (g : Marks) → IsGrid g → (c : ℕ) (corner : Corner) (z : Chain) (k : ℕ)
    → holds (homotopy axis g c corner z) k ≡ true → k < factorial (size g)
unfolding homotopy
homotopy-below axis g s c corner z k h =
    let n : ℕ = size g in
    let of = homotopy_of_state_IsOfStates axis g s c corner in
    let (r, in_z, inside) =
    weight-some (λ r. holds (homotopy_of_state axis g c corner (unrank n r)) k) z
    (sym (holds-sum_over z (λ code. homotopy_of_state axis g c corner (unrank n code)) k) ∙ h) in
    elim (cases_lt r (factorial n)) [
      | inl l ↦ of.below (unrank n r) k (IsBijection-unrank n r l) inside
      | inr l ↦
          absurd (false≢true (sym (holds-nothing k) ∙ ap (λ u. holds u k) (sym (ap
          (homotopy_of_state axis g c corner) (unrank-past n r l) ∙ of.of_nil)) ∙ inside))
    ]
