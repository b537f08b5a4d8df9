-- What the homotopy says of a commutation: the grid and the exchanged grid have the same ranks and the same tables, and
-- a cycle bounds exactly if its image does.
-- Route: images there and back are chain maps that keep degrees (pentagon_map), and the homotopies of both grids make
-- them inverse up to homotopy; maps of this kind keep ranks (f2_algebra).
use Rattle.std.proofs.Common.{None, Some, ap, ap₂, arith, false, if◌then◌else◌, refl, subst, sym, true, ℕ, ◌<◌, ◌↔◌, ◌∙◌, ◌≡◌, List}
use Rattle.std.specs.Prelude.{nat_lt}
use Rattle.std.proofs.Math.IntN.{ℤ}
use Rattle.std.proofs.lemmas.Bool.{eqb-true, false≢true, lt-ltb}
use Rattle.f2_algebra.specs.Bigraded.{up_m}
use Rattle.f2_algebra.specs.Chain.{Chain as Codes, holds, nothing as no_codes, single as one_code, ◌⊕◌ as ◌⊞◌}
use Rattle.f2_algebra.specs.Complex as complex
use Rattle.f2_algebra.specs.Maps.{IsChainMap, IsHomotopy, extended}
use Rattle.f2_algebra.proofs.Cancelling.Cancellation.{border-single}
use Rattle.f2_algebra.proofs.Chains.Sets.{holds-nothing, holds-single}
use Rattle.f2_algebra.proofs.Chains.Sums.{linear-nothing, sum_over-add, sum_over-single}
use Rattle.f2_algebra.proofs.Chains.Tables.{same, ◌⊻◌}
use Rattle.f2_algebra.proofs.Ranks.Maps.{AreInverse, rank_of_image}
use Rattle.state_rank.proofs.RankLemmas.{IsBijection-unrank, rank-unrank}
use Rattle.state_rank.specs.States.{factorial, unrank}
use Rattle.torus_geom.specs.Border.{Bounds, border}
use Rattle.torus_geom.specs.Chains.{Chain, IsChain, nothing, ◌⊕◌}
use Rattle.torus_geom.specs.Codes.{states_of}
use Rattle.torus_geom.specs.Degrees.{bidegree}
use Rattle.torus_geom.specs.Homology.{IsHomologyRank, IsHomologyTable, Row}
use Rattle.torus_geom.specs.Inner.CodeBorder as code_border
use Rattle.torus_geom.specs.Inner.GridComplex.{grid_complex}
use Rattle.torus_geom.specs.Marks.{IsGrid, Marks, size}
use Rattle.torus_geom.proofs.Chains.ChainLemmas.{IsChain-add, at-add, same_states}
use Rattle.torus_geom.proofs.Chains.CodesLemmas.{states_of-nothing}
use Rattle.torus_geom.proofs.Chains.ReachedLemmas.{border-add}
use Rattle.rectangles.proofs.Homology.HomologyLemmas.{degree_is, homology_rank-states}
use Rattle.rectangles.proofs.Square.BorderLemmas.{border-grid_complex}
use Rattle.grid_moves.proofs.Exchanged.CommutesAgain.{are_commuting-swapped}
use Rattle.grid_moves.proofs.Exchanged.SwappedTwice.{IsGrid-swapped, size-swapped, swapped-swapped}
use Rattle.grid_moves.specs.Moves.{are_commuting, swapped}
use Rattle.grid_moves.specs.declared.commutations.Axis.{Axis}
use Rattle.pentagon_map.proofs.Degrees.KeptDegrees.{alexander-image, image_KeepsDegrees}
use Rattle.pentagon_map.proofs.Rows.ImageByRows as code_images
use Rattle.pentagon_map.proofs.States.StateImages.{IsChain-image, image-border}
use Rattle.pentagon_map.specs.Inner.CodeImages.{image_of_state}
use Rattle.pentagon_map.specs.Inner.CodeImages as codes
use Rattle.pentagon_map.specs.Pentagon.{image}
use Rattle.pentagon_map.specs.declared.Corner.{Corner}
use Rattle.pentagon_map.specs.declared.Corner.TheVariants.{Over}
use Rattle.hexagon_map.specs.Hexagon.{homotopy}
use Rattle.hexagon_map.specs.Inner.CodeHomotopies.{homotopy_of_state}
use Rattle.hexagon_map.specs.Inner.CodeHomotopies as over_codes
use Rattle.hexagon_map.proofs.Degrees.HexagonDegrees.{RaisesDegrees-alexander, homotopy_RaisesDegrees}
use Rattle.hexagon_map.proofs.States.StateHomotopies.{IsChain-homotopy, homotopy_of_chain-law, states_of-homotopy}
use Rattle.hexagon_map.proofs.WayBack.HomotopyByAxis.{homotopy-law, homotopy_of_state_IsOfStates}

-- ---- the maps on codes
abbrev pub image_code : Axis → Marks → ℕ → Corner → ℕ → Codes
image_code axis g c corner code = image_of_state axis g c corner (unrank (size g) code)

abbrev pub homotopy_code : Axis → Marks → ℕ → Corner → ℕ → Codes
homotopy_code axis g c corner code = homotopy_of_state axis g c corner (unrank (size g) code)

image-sum : (axis : Axis) (g : Marks) (c : ℕ) (corner : Corner) (z : Codes)
    → codes.image axis g c corner z ≡ extended (image_code axis g c corner) z
unfolding codes.image
image-sum axis g c corner z = refl

homotopy-sum : (axis : Axis) (g : Marks) (c : ℕ) (corner : Corner) (z : Codes)
    → over_codes.homotopy axis g c corner z ≡ extended (homotopy_code axis g c corner) z
unfolding over_codes.homotopy
homotopy-sum axis g c corner z = refl

border-targets : (g : Marks) (code : ℕ) → code_border.border g (one_code code) ≡ (grid_complex g).targets code
border-targets g code = sym (border-grid_complex g (one_code code)) ∙ border-single (grid_complex g) code

-- the degree of a state below n!, for a grid of this size
degree_below : (g : Marks) (n t : ℕ) → size g ≡ n → t < factorial n
    → (grid_complex g).degree t ≡ Some (bidegree g (unrank n t))
degree_below g n t e l =
    (λ i. if nat_lt t (factorial (e i)) then Some (bidegree g (unrank (e i) t)) else None)
    ∙ ap (λ b. if b then Some (bidegree g (unrank n t)) else None) (lt-ltb t (factorial n) l)

module _ (axis : Axis) (g : Marks) (s : IsGrid g) (c : ℕ) (l : c < size g) (h : are_commuting axis g c ≡ true)
    (corner : Corner) where
  -- the image is a chain map from the grid to the exchanged one
  pub image_IsChainMap : IsChainMap (grid_complex g) (grid_complex (swapped axis g c)) (image_code axis g c corner)
  image_IsChainMap = record {
    same_up = λ m. refl;
    degrees = λ code m is t held.
        let (below, at) = degree_is g code m is in
        let n : ℕ = size g in
        let x = unrank n code in
        let sx = IsBijection-unrank n code below in
        let lt = (code_images.image_of_state_IsOfStates axis g s c corner).below x t sx held in
        let y = unrank n t in
        let sy = IsBijection-unrank n t lt in
        let held_y = ap (holds (image_of_state axis g c corner x)) (rank-unrank n t lt) ∙ held in
        let by_m = (image_KeepsDegrees axis g s c l h corner x y sx sy held_y).by_o in
        let by_a = alexander-image axis g s c l h corner x y sx sy held_y in
        degree_below (swapped axis g c) n t (size-swapped axis g c) lt
        ∙ (λ i. Some (by_m i, by_a i))
        ∙ ap Some at;
    commutes = λ code m is.
        ap (extended (image_code axis g c corner)) (sym (border-targets g code))
        ∙ sym (image-sum axis g c corner (code_border.border g (one_code code)))
        ∙ code_images.image-border axis g s c l h corner (one_code code)
        ∙ ap (code_border.border (swapped axis g c)) (image-sum axis g c corner (one_code code)
        ∙ sum_over-single code (image_code axis g c corner))
        ∙ sym (border-grid_complex (swapped axis g c) (image_code axis g c corner code));
  }

  -- the homotopy raises the degree
  homotopy_code-degree : (code : ℕ) (m : ℤ × ℤ) → (grid_complex g).degree code ≡ Some m
      → complex.AllOfDegree (grid_complex g) (up_m m) (homotopy_code axis g c corner code)
  homotopy_code-degree code m is t held =
      let (below, at) = degree_is g code m is in
      let n : ℕ = size g in
      let x = unrank n code in
      let sx = IsBijection-unrank n code below in
      let lt = (homotopy_of_state_IsOfStates axis g s c corner).below x t sx held in
      let y = unrank n t in
      let sy = IsBijection-unrank n t lt in
      let held_y = ap (holds (homotopy_of_state axis g c corner x)) (rank-unrank n t lt) ∙ held in
      let raised = homotopy_RaisesDegrees axis g s c l h corner x y sx sy held_y in
      let by_a = RaisesDegrees-alexander g x y raised in
      degree_below g n t refl lt ∙ (λ i. Some (raised.by_o i, by_a i)) ∙ ap (λ d. Some (up_m d)) at

  abbrev there : Marks
  there = swapped axis g c

  grid_there : IsGrid there
  grid_there = IsGrid-swapped axis g s c l

  below_there : c < size there
  below_there = let e = size-swapped axis g c in let k = l in omega arith

  commutes_there : are_commuting axis there c ≡ true
  commutes_there = are_commuting-swapped axis g s c l h

  again : swapped axis there c ≡ g
  again = swapped-swapped axis g s c l

  -- The way there and back is the identity up to homotopy.
  pub there_and_back_IsHomotopy : IsHomotopy (grid_complex g) (image_code axis g c corner)
      (image_code axis there c corner) (homotopy_code axis g c corner)
  there_and_back_IsHomotopy = record {
    raises = homotopy_code-degree;
    law = λ code m is.
        let (below, at) = degree_is g code m is in
        let f = image_code axis g c corner in
        let back = image_code axis there c corner in
        let k = homotopy_code axis g c corner in
        ap (λ u. one_code code ⊞ u)
        (ap (extended back) (sym (sum_over-single code f) ∙ sym (image-sum axis g c corner (one_code code)))
        ∙ sym (image-sum axis there c corner (codes.image axis g c corner (one_code code))))
        ∙ homotopy-law axis g s c l h corner (one_code code)
        (λ t held. subst (λ u. u < factorial (size g)) (sym (eqb-true t code (sym (holds-single code t) ∙ held))) below)
        ∙ ap₂ (λ u w. u ⊞ w)
        (ap (code_border.border g) (homotopy-sum axis g c corner (one_code code) ∙ sum_over-single code k)
        ∙ sym (border-grid_complex g (k code)))
        (homotopy-sum axis g c corner (code_border.border g (one_code code)) ∙ ap (extended k) (border-targets g code));
  }

-- Images there and back are inverse to each other up to homotopy.
pub images_AreInverse : (axis : Axis) (g : Marks) (s : IsGrid g) (c : ℕ) (l : c < size g)
    (h : are_commuting axis g c ≡ true) (corner : Corner)
    → AreInverse (grid_complex g) (grid_complex (swapped axis g c)) (image_code axis g c corner)
    (image_code axis (swapped axis g c) c corner) (homotopy_code axis g c corner)
    (homotopy_code axis (swapped axis g c) c corner)
images_AreInverse axis g s c l h corner =
    let there = swapped axis g c in
    let grid = grid_there axis g s c l h corner in
    let below = below_there axis g s c l h corner in
    let commutes = commutes_there axis g s c l h corner in
    let back = again axis g s c l h corner in
    record {
      there = image_IsChainMap axis g s c l h corner;
      back = subst (λ k. IsChainMap (grid_complex there) (grid_complex k) (image_code axis there c corner)) back
          (image_IsChainMap axis there grid c below commutes corner);
      on_first = there_and_back_IsHomotopy axis g s c l h corner;
      on_second =
          subst (λ k. IsHomotopy (grid_complex there) (image_code axis there c corner) (image_code axis k c corner)
          (homotopy_code axis there c corner)) back
          (there_and_back_IsHomotopy axis there grid c below commutes corner);
    }

-- ---- ranks and tables
rank_there : (axis : Axis) (g : Marks) → IsGrid g → (c : ℕ) → c < size g → are_commuting axis g c ≡ true
    → (m a : ℤ) (d : ℕ) → IsHomologyRank g m a d → IsHomologyRank (swapped axis g c) m a d
rank_there axis g s c l h m a d rank =
    (homology_rank-states (swapped axis g c) m a d).0
    (rank_of_image (grid_complex g) (grid_complex (swapped axis g c)) (image_code axis g c Over)
    (image_code axis (swapped axis g c) c Over) (homotopy_code axis g c Over)
    (homotopy_code axis (swapped axis g c) c Over) (images_AreInverse axis g s c l h Over) (m, a) d
    ((homology_rank-states g m a d).1 rank))

-- A commutation keeps the ranks.
pub homology_rank-swapped : (axis : Axis) (g : Marks) → IsGrid g → (c : ℕ) → c < size g → are_commuting axis g c ≡ true
    → (m a : ℤ) (d : ℕ) → IsHomologyRank g m a d ↔ IsHomologyRank (swapped axis g c) m a d
homology_rank-swapped axis g s c l h m a d = (
  rank_there axis g s c l h m a d,
  λ k. subst (λ f. IsHomologyRank f m a d) (again axis g s c l h Over)
      (rank_there axis (swapped axis g c) (grid_there axis g s c l h Over) c (below_there axis g s c l h Over)
      (commutes_there axis g s c l h Over) m a d k),
)

-- And so the table.
pub homology_table-swapped : (axis : Axis) (g : Marks) → IsGrid g → (c : ℕ) → c < size g → are_commuting axis g c ≡ true
    → (rows : List Row) → IsHomologyTable g rows ↔ IsHomologyTable (swapped axis g c) rows
homology_table-swapped axis g s c l h rows = (
  λ t. record {
    ordered = t.ordered;
    complete = λ m a d. (
      λ k. let (p, r) = (t.complete m a d).0 k in (p, (homology_rank-swapped axis g s c l h m a d).0 r),
      λ k. (t.complete m a d).1 (k.0, (homology_rank-swapped axis g s c l h m a d).1 k.1),
    );
  },
  λ t. record {
    ordered = t.ordered;
    complete = λ m a d. (
      λ k. let (p, r) = (t.complete m a d).0 k in (p, (homology_rank-swapped axis g s c l h m a d).1 r),
      λ k. (t.complete m a d).1 (k.0, (homology_rank-swapped axis g s c l h m a d).0 k.1),
    );
  },
)

-- ---- borders
homotopy-nothing : (axis : Axis) (g : Marks) → IsGrid g → (c : ℕ) (corner : Corner)
    → homotopy axis g c corner nothing ≡ nothing
homotopy-nothing axis g s c corner =
    let n = size g in
    ap (homotopy axis g c corner) (sym (states_of-nothing n))
    ∙ sym (states_of-homotopy axis g s c corner no_codes (λ k held. absurd (none k held)))
    ∙ ap (states_of n) (homotopy-sum axis g c corner no_codes
    ∙ linear-nothing (extended (homotopy_code axis g c corner))
    (λ z w. sum_over-add z w (homotopy_code axis g c corner)))
    ∙ states_of-nothing n
  where
    none : (k : ℕ) → holds no_codes k ≡ true → ⊥
    none k held = false≢true (sym (holds-nothing k) ∙ held)

-- a chain is back if what was added is taken away
add_other_back : (u z : Chain) → u ⊕ (z ⊕ u) ≡ z
add_other_back u z = same_states (u ⊕ (z ⊕ u)) z (λ x.
    at-add u (z ⊕ u) x ∙ ap (λ b. u x ⊻ b) (at-add z u x)
    ∙ same 2 (λ a b. a ⊻ (b ⊻ a)) (λ a b. b) refl (u x) (z x))

chain_add-nothing : (z : Chain) → z ⊕ nothing ≡ z
chain_add-nothing z = same_states (z ⊕ nothing) z (λ x.
    at-add z nothing x ∙ same 1 (λ a. a ⊻ false) (λ a. a) refl (z x))

-- A cycle bounds exactly if its image bounds in the exchanged grid.
pub Bounds-image : (axis : Axis) (g : Marks) → IsGrid g → (c : ℕ) → c < size g → are_commuting axis g c ≡ true
    → (corner : Corner) (z : Chain) → IsChain (size g) z → border g z ≡ nothing
    → Bounds g z ↔ Bounds (swapped axis g c) (image axis g c corner z)
Bounds-image axis g s c l h corner z states cycle =
    let n = size g in
    let there : Marks = swapped axis g c in
    let same_size = size-swapped axis g c in
    let grid = IsGrid-swapped axis g s c l in
    let below = below_there axis g s c l h corner in
    let hexagons : Chain → Chain = homotopy axis g c corner in
    let back : Chain → Chain = image axis there c corner in (
      λ (b, of_b). (
        image axis g c corner b,
        record {
          states = subst (λ m. IsChain m (image axis g c corner b)) (sym same_size) (IsChain-image axis g c corner b);
          is_border =
              sym (image-border axis g s c l h corner b of_b.states) ∙ ap (image axis g c corner) of_b.is_border;
        },
      ),
      λ (b, of_b).
          let border_back : border g (back b) ≡ back (image axis g c corner z) =
          ap (λ f. border f (back b)) (sym (swapped-swapped axis g s c l))
          ∙ sym (image-border axis there grid c below (are_commuting-swapped axis g s c l h) corner b of_b.states)
          ∙ ap back of_b.is_border in
          let law : z ⊕ back (image axis g c corner z) ≡ border g (hexagons z) =
          homotopy_of_chain-law axis g s c l h corner z states
          ∙ ap (λ u. border g (hexagons z) ⊕ u) (ap hexagons cycle ∙ homotopy-nothing axis g s c corner)
          ∙ chain_add-nothing (border g (hexagons z)) in (
            back b ⊕ hexagons z,
            record {
              states = IsChain-add n (back b) (hexagons z)
                  (subst (λ m. IsChain m (back b)) same_size (IsChain-image axis there c corner b))
                  (IsChain-homotopy axis g c corner z);
              is_border =
                  border-add g (back b) (hexagons z) ∙ ap₂ (λ u w. u ⊕ w) border_back (sym law)
                  ∙ add_other_back (back (image axis g c corner z)) z;
            },
          ),
    )
