-- The chain map for columns and for rows. By rows: the transposed border is the border of the transposed chain,
-- there and back.
use Rattle.std.proofs.Common.{[], ap, arith, inl, inr, refl, subst, sym, true, ℕ, ◌<◌, ◌∙◌, ◌≡◌}
use Rattle.std.proofs.lemmas.Bool.{cases_lt}
use Rattle.std.proofs.lemmas.List.Edits.{length-swap}
use Rattle.f2_algebra.proofs.Chains.Sets.{holds-nothing, same_chain}
use Rattle.f2_algebra.specs.Chain.{Chain, holds, sum_over}
use Rattle.state_rank.specs.States.{factorial, rank, transpose, unrank}
use Rattle.torus_geom.proofs.TransposeLemmas.{IsBijection-transposed, IsGrid-transposed}
use Rattle.torus_geom.specs.Inner.CodeBorder.{border}
use Rattle.torus_geom.specs.Range.{one_down}
use Rattle.torus_geom.specs.Marks.{IsGrid, Marks, size}
use Rattle.torus_geom.specs.Transposed.{transposed}
use Rattle.grid_moves.proofs.Turned.CarriedChains.{AreInverse, IsOfStates, carried-carried, holds-carried, moved-past, moved-rank, sum_over-carried}
use Rattle.grid_moves.proofs.Exchanged.SwapGridLemmas.{IsGrid-swapped_columns}
use Rattle.grid_moves.specs.Inner.CodeCarried.{moved, transposed_chain}
use Rattle.grid_moves.specs.Moves.{are_commuting, swapped, swapped_columns}
use Rattle.grid_moves.specs.declared.commutations.Axis.{Axis}
use Rattle.grid_moves.specs.declared.commutations.Axis.TheVariants.{Cols, Rows}
use Rattle.pentagon_map.proofs.ChainMap.FourRows.{HasFourRows-commuting}
use Rattle.pentagon_map.proofs.ChainMap.ImageOfBorder.{column_image-nil, image_by_columns, image_by_columns-border}
use Rattle.pentagon_map.proofs.ChainMap.PentagonSums.{column_image-below}
use Rattle.grid_moves.proofs.Exchanged.TransposedGrids.{size-transposed, transpose_AreInverse}
use Rattle.pentagon_map.proofs.Rows.Transposing.{border-transposed}
use Rattle.pentagon_map.specs.Inner.CodeImages.{column_image, image, image_of_state}
use Rattle.pentagon_map.specs.declared.Corner.{Corner}

-- transposing twice is nothing, for a chain
pub transposed_chain-twice : (n : ℕ) (z : Chain) → transposed_chain n (transposed_chain n z) ≡ z
transposed_chain-twice n z = carried-carried n transpose transpose (transpose_AreInverse n) z

-- the border of a chain that is transposed back
pub border-transposed_back : (h : Marks) (n : ℕ) → size h ≡ n → IsGrid h → (w : Chain)
    → border (transposed h) (transposed_chain n w) ≡ transposed_chain n (border h w)
border-transposed_back h n e s w =
    let P : ℕ → Type 0 = λ m. border (transposed h) (transposed_chain m w) ≡ transposed_chain m (border h w) in
    subst P e (border-transposed h s w)

-- the image of a state has indices of states, and the empty list has no image
pub column_image_IsOfStates : (g : Marks) (n : ℕ) → size g ≡ n → (c : ℕ) (corner : Corner)
    → IsOfStates n (column_image g c corner)
column_image_IsOfStates g n e c corner = record {
  of_nil = column_image-nil g c corner;
  below = λ x t sx h. subst (λ m. t < factorial m) e (column_image-below g c corner x t h);
}

module _ (g : Marks) (s : IsGrid g) (c : ℕ) (corner : Corner) where
  abbrev n : ℕ
  n = size g

  abbrev t : Marks
  t = transposed g

  is : AreInverse n transpose transpose
  is = transpose_AreInverse n

  pub rows_IsOfStates : IsOfStates n (image_of_state Rows g c corner)
  rows_IsOfStates =
      let sG = column_image_IsOfStates t n (size-transposed g) c corner in
      record {
        of_nil = same_chain _ _ (λ q. holds-carried n transpose transpose is (column_image t c corner []) q
            ∙ ap (λ z. holds z (moved n transpose q)) sG.of_nil ∙ holds-nothing (moved n transpose q)
            ∙ sym (holds-nothing q));
        below = λ x q sx h. elim (cases_lt q (factorial n)) [
          | inl l ↦ l
          | inr l ↦
              let k = sG.below (transpose x) (moved n transpose q) (IsBijection-transposed n x sx)
              (sym (holds-carried n transpose transpose is (column_image t c corner (transpose x)) q) ∙ h) in
              let still = moved-past n transpose q l in
              absurd (omega arith)
        ];
      }

  -- the image across rows: transposed, the image across columns, and transposed back
  pub image-by_rows : (z : Chain)
      → image Rows g c corner z ≡ transposed_chain n (image_by_columns t c corner (transposed_chain n z))
  unfolding image image_by_columns
  image-by_rows z =
      sym (transposed_chain-twice n (sum_over z (λ code. image_of_state Rows g c corner (unrank n code))))
      ∙ ap (transposed_chain n)
      (sym (sum_over-carried n transpose transpose is (image_of_state Rows g c corner)
      (column_image t c corner) rows_IsOfStates (column_image_IsOfStates t n (size-transposed g) c corner)
      (λ x y sx sy. sym (holds-carried n transpose transpose is (column_image t c corner (transpose x)) (rank y)
      ∙ ap (holds (column_image t c corner (transpose x))) (moved-rank n transpose y sy))) z)
      ∙ ap (λ m. sum_over (transposed_chain n z) (λ code. column_image t c corner (unrank m code)))
      (sym (size-transposed g)))

-- the image across columns
pub image-by_columns : (g : Marks) (c : ℕ) (corner : Corner) (z : Chain)
    → image Cols g c corner z ≡ image_by_columns g c corner z
unfolding image image_by_columns
image-by_columns g c corner z = refl

-- The image of the border of a chain is the border, in the exchanged grid, of its image.
pub image-border : (axis : Axis) (g : Marks) → IsGrid g → (c : ℕ) → c < size g → are_commuting axis g c ≡ true
    → (corner : Corner) (z : Chain)
    → image axis g c corner (border g z) ≡ border (swapped axis g c) (image axis g c corner z)
image-border Cols g s c l h corner z =
    image-by_columns g c corner (border g z)
    ∙ image_by_columns-border g s c (HasFourRows-commuting g c l h) corner z
    ∙ ap (border (swapped_columns g c)) (sym (image-by_columns g c corner z))
image-border Rows g s c l h corner z =
    let n : ℕ = size g in
    let t : Marks = transposed g in
    let st = IsGrid-transposed g s in
    let lt : c < size t = let e = size-transposed g in omega arith in
    let four = HasFourRows-commuting t c lt h in
    image-by_rows g s c corner (border g z)
    ∙ ap (λ v. transposed_chain n (image_by_columns t c corner v)) (sym (border-transposed g s z))
    ∙ ap (transposed_chain n) (image_by_columns-border t st c four corner (transposed_chain n z))
    ∙ sym (border-transposed_back (swapped_columns t c) n (length-swap t.o (one_down (size t) c) c ∙ size-transposed g)
    (IsGrid-swapped_columns t c st lt) (image_by_columns t c corner (transposed_chain n z)))
    ∙ ap (border (swapped Rows g c)) (sym (image-by_rows g s c corner z))

-- the image of a state has indices of states, and the empty list has none
pub image_of_state_IsOfStates : (axis : Axis) (g : Marks) → IsGrid g → (c : ℕ) (corner : Corner)
    → IsOfStates (size g) (image_of_state axis g c corner)
image_of_state_IsOfStates Cols g s c corner = column_image_IsOfStates g (size g) refl c corner
image_of_state_IsOfStates Rows g s c corner = rows_IsOfStates g s c corner
