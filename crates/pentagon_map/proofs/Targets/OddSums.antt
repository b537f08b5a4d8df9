-- The image of a state as a sum over the circles other than c: those for which exactly one of the two
-- rectangles between c and them is a pentagon. For rows the same, with columns and rows exchanged.
use Rattle.std.proofs.Common.{All, Bool, List, ap, ap₂, arith, bit_or, cond, eqb, false, get_or, inl, inr, length, map, not, refl, slice_index, subst, swap, sym, true, ℕ, ◌%◌, ◌&&◌, ◌*◌, ◌+◌, ◌<◌, ◌^◌, ◌||◌, ◌∙◌, ◌≡◌, ◌≢◌, ◌≤◌}
use Rattle.std.proofs.lemmas.Bool.{cases_eq, eq-eqb, ne_eqb}
use Rattle.std.proofs.lemmas.List.Elements.{Contains-get_or}
use Rattle.std.proofs.lemmas.Nat.Bits.{bit_at-lt, bit_at-zero, bit_at_set_other, bit_at_set_same}
use Rattle.std.specs.Int.{bit_at, w16}
use Rattle.f2_algebra.proofs.Chains.ParityLemmas.{below, parity-xor, parity_below, parity_below-one, parity_below-same}
use Rattle.f2_algebra.proofs.Chains.Tables.{and-false, same, xor-false, ◌⊻◌}
use Rattle.f2_algebra.specs.Chain.{codes, holds}
use Rattle.state_rank.proofs.BijectionLemmas.{one_to_one, same_list}
use Rattle.state_rank.proofs.SwapLemmas.{exchanged, slice_index-swap, IsBijection-swap}
use Rattle.state_rank.specs.Bijection.{IsBijection, IsSize}
use Rattle.state_rank.specs.States.{IsState, rank, transpose}
use Rattle.torus_geom.proofs.TransposeLemmas.{IsBijection-transposed, IsGrid-transposed}
use Rattle.torus_geom.specs.Range.{one_down, one_up}
use Rattle.torus_geom.specs.Marks.{IsGrid, Marks, size}
use Rattle.torus_geom.specs.Range.{in_range}
use Rattle.torus_geom.specs.Rectangle.{is_empty}
use Rattle.torus_geom.specs.Transposed.{transposed}
use Rattle.rectangles.proofs.Square.TwoSteps.{differ, differ-self, differ_comm}
use Rattle.rectangles.specs.Inner.Open.{leaving}
use Rattle.grid_moves.proofs.Turned.CarriedChains.{eqb-renamed, eqb_alike, holds-carried, moved-rank, moved-undone}
use Rattle.grid_moves.specs.Inner.CodeCarried.{moved}
use Rattle.grid_moves.specs.Moves.{turned}
use Rattle.grid_moves.specs.declared.commutations.Axis.{Axis}
use Rattle.grid_moves.specs.declared.commutations.Axis.TheVariants.{Cols, Rows}
use Rattle.pentagon_map.proofs.ChainMap.PentagonSums.{crossing_row-below, holds-column_image, passes_at-pentagon, pentagon_at}
use Rattle.grid_moves.proofs.Turned.Reindexing.{parity_below_reindex}
use Rattle.grid_moves.proofs.Exchanged.TransposedGrids.{size-transposed, transpose-transpose, transpose_AreInverse}
use Rattle.pentagon_map.proofs.Rows.Transposing.{transpose-swap}
use Rattle.pentagon_map.proofs.Targets.InOrder.{codes-in_order, in_order_states}
use Rattle.pentagon_map.specs.Inner.Exchanges.{across, in_order, is_odd_circle, is_pentagon_at, is_set}
use Rattle.pentagon_map.specs.Inner.CodeImages.{column_image, image_of_state}
use Rattle.pentagon_map.specs.Pentagon.{crossing_row, has_mark_in_rows, is_unmarked_beside}
use Rattle.pentagon_map.specs.declared.Corner.{Corner}

-- a sum over two circles one of which is c
pub cross_sum : (n c : ℕ) (Q : ℕ → ℕ → Bool) → c < n → ((a b : ℕ) → a < n → b < n → a ≢ c → b ≢ c → Q a b ≡ false)
    → Q c c ≡ false
    → parity_below n (λ a. parity_below n (λ b. Q a b)) ≡ parity_below n (λ b. Q c b ⊻ Q b c)
cross_sum n c Q lc off here =
    parity_below-same n _ (λ a. (eqb a c && parity_below n (λ b. Q c b)) ⊻ Q a c) (λ a la. elim (cases_eq a c) [
      | inl e ↦
          ap (λ k. parity_below n (λ b. Q k b)) e
          ∙ sym (ap₂ (λ s t. (s && parity_below n (λ b. Q c b)) ⊻ t) (eq-eqb a c e) (ap (λ k. Q k c) e ∙ here)
          ∙ xor-false (parity_below n (λ b. Q c b)))
      | inr p ↦
          parity_below-same n _ (λ b. eqb b c && Q a b) (λ b lb. elim (cases_eq b c) [
            | inl e ↦ sym (ap (λ s. s && Q a b) (eq-eqb b c e))
            | inr q ↦ off a b la lb p q ∙ sym (ap (λ s. s && Q a b) (ne_eqb b c q))
          ])
          ∙ parity_below-one n c (λ b. Q a b) lc
          ∙ sym (ap (λ s. (s && parity_below n (λ b. Q c b)) ⊻ Q a c) (ne_eqb a c p))
    ])
    ∙ parity-xor (λ a. eqb a c && parity_below n (λ b. Q c b)) (λ a. Q a c) (below n)
    ∙ ap (λ s. s ⊻ parity_below n (λ a. Q a c)) (parity_below-one n c (λ a. parity_below n (λ b. Q c b)) lc)
    ∙ sym (parity-xor (λ b. Q c b) (λ b. Q b c) (below n))

-- the exchange of two circles, in either order
pub swap_comm : (n : ℕ) (x : List ℕ) → IsBijection n x → (a b : ℕ) → a < n → b < n → swap x a b ≡ swap x b a
swap_comm n x sx a b la lb =
    let e = sx.long in
    same_list n (swap x a b) (swap x b a) (IsBijection-swap n x a b la lb sx).long
    (IsBijection-swap n x b a lb la sx).long (λ i l.
    slice_index-swap x a b i (omega arith) (omega arith) ∙ ap (slice_index x) (either a b i)
    ∙ sym (slice_index-swap x b a i (omega arith) (omega arith)))
  where
    either : (a b i : ℕ) → exchanged a b i ≡ exchanged b a i
    either a b i = grind arith

-- a bit that is 1 or 0 by a test is set if the test holds
pub set_by : (bits i : ℕ) (t : Bool) → bit_at bits i ≡ cond t 1 0 → is_set bits i ≡ t
set_by bits i t e = ap (λ k. eqb k 1) e ∙ by t
  where
    by : (t : Bool) → eqb (cond t 1 0) 1 ≡ t
    by true = refl
    by false = refl

-- a set bit of one number if the other has it
pub set_alike : (u v i j : ℕ) → bit_at u i ≡ bit_at v j → is_set u i ≡ is_set v j
set_alike u v i j e = ap (λ k. eqb k 1) e

module _ (g : Marks) (s : IsGrid g) (c : ℕ) (corner : Corner) (lc : c < size g) (x : List ℕ)
    (sx : IsBijection (size g) x) where
  abbrev w : ℕ
  w = crossing_row g c corner

  lw : w < size g
  lw = crossing_row-below g s c lc corner

  abbrev P : ℕ → ℕ → Bool
  P a b = is_pentagon_at g c (crossing_row g c corner) x a b

  -- the rectangle is a pentagon if the test of the state holds
  pentagon_is : (a b : ℕ) → a < size g → b < size g
      → pentagon_at g s c w lc lw (slice_index x) a b ≡ (differ a b && P a b)
  unfolding is_pentagon_at
  pentagon_is a b la lb = sym (passes_at-pentagon g s c w lc lw x sx a b la lb)

  -- if no circle is c there is none
  off_circle : (a b : ℕ) → a ≢ c → b ≢ c → P a b ≡ false
  unfolding is_pentagon_at
  off_circle a b p q =
      (λ i. is_empty x (leaving x a b)
      && ((ne_eqb a c p i || ne_eqb b c q i)
      && (in_range (size g) (slice_index x a) (slice_index x b) w && (is_unmarked_beside g c (leaving x a b)
      && (not (has_mark_in_rows g c (slice_index x a) w)
      && not (has_mark_in_rows g (one_down (size g) c) (one_up (size g) w) (slice_index x b)))))))
      ∙ and-false (is_empty x (leaving x a b))

  odd_is : (b : ℕ) → (t : Bool)
      → ((differ c b && P c b) && t) ⊻ ((differ b c && P b c) && t)
      ≡ (differ b c && (is_odd_circle g c (crossing_row g c corner) x b && t))
  unfolding is_odd_circle
  odd_is b t =
      ap (λ d. ((d && P c b) && t) ⊻ ((differ b c && P b c) && t)) (differ_comm c b)
      ∙ same 4 (λ d u v t. ((d && u) && t) ⊻ ((d && v) && t))
      (λ d u v t. d && ((d && ((u && not v) || (not u && v))) && t)) refl (differ b c) (P c b) (P b c) t

  -- what the image across columns holds
  pub holds-by_circles : (odd : ℕ)
      → ((b : ℕ) → b < size g → bit_at odd b ≡ cond (is_odd_circle g c (crossing_row g c corner) x b) 1 0) → (q : ℕ)
      → holds (column_image g c corner x) q
      ≡ parity_below (size g) (λ b. differ b c && (is_set odd b && eqb q (rank (swap x c b))))
  holds-by_circles odd has q =
      holds-column_image g s c corner lc lw x sx q
      ∙ parity_below-same (size g) _ _
      (λ a la. parity_below-same (size g) _ (λ b. (differ a b && P a b) && eqb q (rank (swap x a b)))
      (λ b lb. ap (λ t. t && eqb q (rank (swap x a b))) (pentagon_is a b la lb)))
      ∙ cross_sum (size g) c (λ a b. (differ a b && P a b) && eqb q (rank (swap x a b))) lc
      (λ a b la lb p r. ap (λ t. (differ a b && t) && eqb q (rank (swap x a b))) (off_circle a b p r)
      ∙ same 2 (λ u v. (u && false) && v) (λ u v. false) refl (differ a b) (eqb q (rank (swap x a b))))
      (ap (λ t. (t && P c c) && eqb q (rank (swap x c c))) (differ-self c))
      ∙ parity_below-same (size g) _ _ (λ b lb.
      ap (λ y. ((differ c b && P c b) && eqb q (rank (swap x c b))) ⊻ ((differ b c && P b c) && eqb q (rank y)))
      (swap_comm (size g) x sx b c lb lc)
      ∙ odd_is b (eqb q (rank (swap x c b)))
      ∙ ap (λ t. differ b c && (t && eqb q (rank (swap x c b))))
      (sym (set_by odd b (is_odd_circle g c (crossing_row g c corner) x b) (has b lb))))

-- The exchanges of circle c, in order, are the image across columns.
pub codes-columns : (g : Marks) → IsGrid g → (c : ℕ) (corner : Corner) → c < size g → (x : List ℕ)
    → IsBijection (size g) x → (odd : ℕ)
    → ((b : ℕ) → b < size g → bit_at odd b ≡ cond (is_odd_circle g c (crossing_row g c corner) x b) 1 0)
    → map rank (in_order x c odd) ≡ codes (column_image g c corner x)
codes-columns g s c corner lc x sx odd has =
    codes-in_order (size g) x sx c odd lc (column_image g c corner x) (holds-by_circles g s c corner lc x sx odd has)

-- The exchanges of the circle of row c, in order, are the image across rows.
pub codes-rows : (g : Marks) → IsGrid g → (c : ℕ) (corner : Corner) → c < size g → (x : List ℕ) → IsBijection (size g) x
    → (odd bits : ℕ)
    → ((d : ℕ) → d < size g
    → bit_at odd d ≡ cond (is_odd_circle (transposed g) c (crossing_row (transposed g) c corner) (transpose x) d) 1 0)
    → ((d : ℕ) → d < size g → bit_at bits (slice_index (transpose x) d) ≡ bit_at odd d)
    → map rank (in_order x (slice_index (transpose x) c) bits) ≡ codes (image_of_state Rows g c corner x)
codes-rows g s c corner lc x sx odd bits has carries =
    let n : ℕ = size g in
    let t : Marks = transposed g in
    let u : List ℕ = transpose x in
    let e = size-transposed g in
    let su = IsBijection-transposed n x sx in
    let st = IsGrid-transposed g s in
    let a : ℕ = slice_index u c in
    let is = transpose_AreInverse n in
    codes-in_order n x sx a bits (su.small c lc) (image_of_state Rows g c corner x) (λ q.
    holds-carried n transpose transpose is (column_image t c corner u) q
    ∙ holds-by_circles t st c corner (omega arith) u (subst (λ m. IsBijection m u) (sym e) su) odd
    (λ b l. has b (omega arith)) (moved n transpose q)
    ∙ ap (λ m. parity_below m (λ d. differ d c && (is_set odd d && eqb (moved n transpose q) (rank (swap u c d))))) e
    ∙ parity_below-same n _ (λ d. differ (slice_index u d) a
    && (is_set bits (slice_index u d) && eqb q (rank (swap x a (slice_index u d))))) (λ d ld.
    let moved_is : moved n transpose (rank (swap u c d)) ≡ rank (swap x a (slice_index u d)) =
    moved-rank n transpose (swap u c d) (IsBijection-swap n u c d lc ld su)
    ∙ ap rank (sym (transpose-swap n u su c d lc ld) ∙ ap (λ y. swap y a (slice_index u d))
    (transpose-transpose n x sx)) in
    λ i. other d ld i && (set_alike odd bits d (slice_index u d) (sym (carries d ld)) i
    && (sym (eqb-renamed (moved n transpose) (moved n transpose) (moved-undone n transpose transpose is)
    (moved-undone n transpose transpose is) q (rank (swap u c d))) ∙ ap (eqb q) moved_is) i))
    ∙ parity_below_reindex n (slice_index u) (one_to_one n u su)
    (λ b. differ b a && (is_set bits b && eqb q (rank (swap x a b)))))
  where
    other : (d : ℕ) → d < size g → differ d c ≡ differ (slice_index (transpose x) d) (slice_index (transpose x) c)
    other d ld =
        let su = IsBijection-transposed (size g) x sx in
        ap not (eqb_alike d c (slice_index (transpose x) d) (slice_index (transpose x) c)
        (ap (slice_index (transpose x)))
        (λ e. elim (cases_eq d c) [ inl i ↦ i | inr p ↦ absurd (su.apart d c ld lc p e) ]))

-- the exchanges in order are states
pub All-in_order : (n : ℕ) (x : List ℕ) → IsSize n → IsBijection n x → (a odd : ℕ) → a < n
    → All (λ y. IsState y × (length y ≡ n)) (in_order x a odd)
All-in_order n x big sx a odd la k d l =
    let sy = in_order_states n x sx a odd la (get_or (in_order x a odd) k d)
    (Contains-get_or (in_order x a odd) k d l) in
    let e = sy.long in (
      record {
        size = subst IsSize (sym e) big;
        bijection = subst (λ m. IsBijection m (get_or (in_order x a odd) k d)) (sym e) sy;
      },
      e,
    )

-- ---- bits that are carried along a list
-- the bits at the places of the first k are carried, the others are not set
pub record AreCarried (columns : List ℕ) (odd k bits : ℕ) : Type 0 where
  pub near : (d : ℕ) → d < k → bit_at bits (slice_index columns d) ≡ bit_at odd d
  pub far : (d : ℕ) → d < length columns → k ≤ d → bit_at bits (slice_index columns d) ≡ 0

-- before the first
pub none_carried : (columns : List ℕ) (odd : ℕ) → AreCarried columns odd 0 0
none_carried columns odd =
    record { near = λ d l. absurd (omega arith); far = λ d l m. bit_at-zero (slice_index columns d) }

module _ (columns : List ℕ) (s : IsBijection (length columns) columns) (odd k bits : ℕ) (lk : k < length columns)
    (short : length columns ≤ 10) (h : AreCarried columns odd k bits) where
  -- one that is set
  pub carried_yes : (row : ℕ) → row ≡ slice_index columns k → bit_at odd k ≡ 1
      → AreCarried columns odd (k + 1) (bit_or bits (1 * 2 ^ row % 2 ^ 16))
  carried_yes row is one =
      let small = s.small k lk in
      let low : row < 16 = omega arith in
      record {
        near = λ d l. elim (cases_eq d k) [
          | inl e ↦
              ap (bit_at (bit_or bits (1 * 2 ^ row % 2 ^ 16))) (ap (slice_index columns) e ∙ sym is)
              ∙ bit_at_set_same w16 bits row low ∙ sym (ap (bit_at odd) e ∙ one)
          | inr p ↦
              bit_at_set_other w16 bits row low (slice_index columns d) (λ e. s.apart d k (omega arith) lk p (e ∙ is))
              ∙ h.near d (omega arith)
        ];
        far = λ d l m. bit_at_set_other w16 bits row low (slice_index columns d)
            (λ e. s.apart d k l lk (omega arith) (e ∙ is)) ∙ h.far d l (omega arith);
      }

  -- one that is not
  pub carried_no : bit_at odd k ≢ 1 → AreCarried columns odd (k + 1) bits
  carried_no other =
      let two = bit_at-lt odd k in
      record {
        near = λ d l. elim (cases_eq d k) [
          | inl e ↦
              ap (λ i. bit_at bits (slice_index columns i)) e ∙ h.far k lk (omega arith)
              ∙ sym (ap (bit_at odd) e ∙ (let z : bit_at odd k ≡ 0 = omega arith in z))
          | inr p ↦ h.near d (omega arith)
        ];
        far = λ d l m. h.far d l (omega arith);
      }

-- ---- the answers of the two axes
module _ (t g : Marks) (st : IsGrid t) (axis : Axis) (c w : ℕ) (corner : Corner) (x : List ℕ) (sx : IsState x)
    (same_size : length x ≡ size t) (lc : c < size t) where
  bijection : IsBijection (size t) x
  bijection = subst (λ m. IsBijection m x) same_size sx.bijection

  -- columns
  pub columns_listed : axis ≡ Cols → t ≡ across axis g → w ≡ crossing_row t c corner → (odd : ℕ)
      → ((b : ℕ) → b < size t → bit_at odd b ≡ cond (is_odd_circle t c w x b) 1 0)
      → (items : List (List ℕ)) → items ≡ in_order x c odd → map rank items ≡ codes (image_of_state axis g c corner x)
  columns_listed by_cols is crossing odd has items listed =
      ap (map rank) listed
      ∙ codes-columns t st c corner lc x bijection odd
      (λ b l. has b l ∙ ap (λ r. cond (is_odd_circle t c r x b) 1 0) crossing)
      ∙ ap (λ h. codes (column_image h c corner x)) (is ∙ ap (λ a. across a g) by_cols)
      ∙ ap (λ a. codes (image_of_state a g c corner x)) (sym by_cols)

  -- rows
  pub rows_listed : IsGrid g → axis ≡ Rows → t ≡ across axis g → w ≡ crossing_row t c corner → (columns : List ℕ)
      → columns ≡ transpose x
      → (odd bits a : ℕ) → ((d : ℕ) → d < size t → bit_at odd d ≡ cond (is_odd_circle t c w columns d) 1 0)
      → ((d : ℕ) → d < length columns → bit_at bits (slice_index columns d) ≡ bit_at odd d) → a ≡ slice_index columns c
      → (items : List (List ℕ)) → items ≡ in_order x a bits → map rank items ≡ codes (image_of_state axis g c corner x)
  rows_listed sg by_rows is crossing columns turned odd bits a has carries at items listed =
      let grid_is : t ≡ transposed g = is ∙ ap (λ a. across a g) by_rows in
      let n_is : size t ≡ size g = ap size grid_is ∙ size-transposed g in
      let sx' = subst (λ m. IsBijection m x) n_is bijection in
      let long = (IsBijection-transposed (size g) x sx').long in
      let long' : length columns ≡ size g = ap length turned ∙ long in
      ap (map rank) (listed ∙ ap (λ k. in_order x k bits) (at ∙ ap (λ u. slice_index u c) turned))
      ∙ codes-rows g sg c corner (omega arith) x sx' odd bits
      (λ d l. has d (omega arith)
      ∙ (λ i. cond (is_odd_circle t c (crossing i) (turned i) d) 1 0)
      ∙ ap (λ h. cond (is_odd_circle h c (crossing_row h c corner) (transpose x) d) 1 0) grid_is)
      (λ d l. ap (λ u. bit_at bits (slice_index u d)) (sym turned) ∙ carries d (omega arith))
      ∙ ap (λ a. codes (image_of_state a g c corner x)) (sym by_rows)

-- and they are states
pub states_listed : (t : Marks) → IsGrid t → (x : List ℕ) → IsState x → length x ≡ size t → (a odd : ℕ) → a < length x
    → (items : List (List ℕ)) → items ≡ in_order x a odd
    → All (λ y. IsState y × (length y ≡ size t)) items
states_listed t st x sx same_size a odd la items listed =
    subst (All (λ y. IsState y × (length y ≡ size t))) (sym listed)
    (All-in_order (size t) x st.is_size (subst (λ m. IsBijection m x) same_size sx.bijection) a odd (omega arith))
