-- The states x+ and x- of a stabilised grid are borders of one state: from the state with two of their points exchanged
-- the empty square leads to them, and each other rectangle has a mark. A rectangle from it has the square at its lower
-- left corner and that at its upper right corner. Nearly each of these squares has an X; at the two exchanged points
-- they are the empty square and that with the O of the block.
use Rattle.std.proofs.Common.{◌≡◌, ◌≢◌, ℕ, zero, suc, ◌+◌, ◌<◌, ◌≤◌, true, false, not, ◌&&◌, slice_index, swap, refl, ap, ap₂, ◌∙◌, sym, eqb, arith, inl, inr}
use Rattle.std.proofs.lemmas.Bool.{cases_eq, eq-eqb, ne_eqb, or_left, or_right}
use Rattle.f2_algebra.specs.Chain.{single as one_code}
use Rattle.f2_algebra.proofs.Chains.Tables.{same}
use Rattle.state_rank.specs.Bijection.{IsSize, IsBijection}
use Rattle.state_rank.specs.States.{rank}
use Rattle.state_rank.proofs.BijectionLemmas.{IsOneToOne, one_to_one}
use Rattle.state_rank.proofs.SwapLemmas.{swap-swap, IsBijection-swap, slice_index-swap_first, slice_index-swap_second, slice_index-swap_other}
use Rattle.torus_geom.specs.Marks.{Marks, size, IsGrid}
use Rattle.torus_geom.specs.Range.{one_up, one_down}
use Rattle.torus_geom.specs.Chains.{single}
use Rattle.torus_geom.specs.Border.{border}
use Rattle.torus_geom.specs.Inner.CodeBorder.{border_of_state}
use Rattle.torus_geom.specs.Degrees.{bidegree}
use Rattle.f2_algebra.specs.Bigraded.{up_m}
use Rattle.torus_geom.specs.Front.{plus_state, minus_state}
use Rattle.torus_geom.proofs.Circles.BetweenLemmas.{between, between_start}
use Rattle.torus_geom.proofs.Circles.TurnLemmas.{one_up_below, one_down_below, one_up-one_down, one_down-one_up, one_up-below, one_up-last}
use Rattle.front_data.proofs.FrontLemmas.{plus_state-state, plus_state-one_up}
use Rattle.rectangles.proofs.Square.OpenRectangles.{is_open, unmarked}
use Rattle.rectangles.proofs.Square.EmptyRectangles.{is_clear_of}
use Rattle.stabilise.specs.declared.squares.Square.TheVariants.{Ne, Sw}
use Rattle.stabilise.specs.Stabilised.{lifted, stabilised}
use Rattle.stabilise.specs.Bounds.{plus_bound, minus_bound}
use Rattle.stabilise.proofs.PlaceLemmas.{lifted-below, lifted-above, lifted_one}
use Rattle.stabilise.proofs.StabilisedGrids.{size-stabilised, stabilised_is, IsGrid-stabilised}
use Rattle.torus_geom.proofs.Circles.NeighbourLemmas.{between_to_next, between_before_end, between_end_further, between_next_of, between_end_next}
use Rattle.stabilise.proofs.OneStep.{border-single_state, bidegree-single_state, border_of_state-one, not_open, is_open-square}

-- two tests that do not both hold
not_both : (a b i j : ℕ) → (a ≡ i → b ≡ j → ⊥) → (eqb a i && eqb b j) ≡ false
not_both a b i j h = elim (cases_eq a i) [
  | inl e ↦ elim (cases_eq b j) [
    | inl f ↦ absurd (h e f)
    | inr q ↦ ap (λ t. eqb a i && t) (ne_eqb b j q) ∙ same 1 (λ u. u && false) (λ u. false) refl (eqb a i)
  ]
  | inr p ↦ ap (λ t. t && eqb b j) (ne_eqb a i p)
]

-- and two that do
both : (a b i j : ℕ) → a ≡ i → b ≡ j → (eqb a i && eqb b j) ≡ true
both a b i j e f = ap₂ (λ u v. u && v) (eq-eqb a i e) (eq-eqb b j f)

-- no rectangle has one circle on both sides
open_apart : (n : ℕ) (O X f : ℕ → ℕ) (a b : ℕ) → a ≡ b → is_open n O X f a b ≡ false
open_apart n O X f a b e =
    ap (λ t. not t && (is_clear_of n f a b (f a) (f b) && unmarked n O X a b (f a) (f b))) (eq-eqb a b e)

-- ---- the lower left square empty
module _ (m c r : ℕ) (O X f : ℕ → ℕ) (lc : c + 1 < m) (one : IsOneToOne m f) (x_c : X c ≡ r + 1)
    (x_next : X (c + 1) ≡ r)
    (o_next : O (c + 1) ≡ r + 1) (o_c : O c ≢ r) (f_c : f c ≡ r) (f_next : f (c + 1) ≡ r + 1)
    (others : (t : ℕ) → t < m → t ≢ c → t ≢ c + 1 → f t ≡ X t) where
  open_sw : is_open m O X f c (c + 1) ≡ true
  open_sw = is_open-square m O X f c (c + 1) (omega arith) (λ t l. alone c t)
      (ap₂ (λ u v. between u v (O c)) f_c f_next ∙ alone r (O c) ∙ ne_eqb (O c) r o_c)
      (ap₂ (λ u v. between u v (X c)) f_c f_next ∙ alone r (X c) ∙ ne_eqb (X c) r (omega arith))
    where
      alone : (i t : ℕ) → between i (i + 1) t ≡ eqb t i
      alone i t = grind arith

  closed_sw : (a b : ℕ) → a < m → b < m → a ≢ b → (a ≡ c → b ≡ c + 1 → ⊥) → is_open m O X f a b ≡ false
  closed_sw a b la lb p h = elim (cases_eq a c) [
    | inl e ↦
        let q : b ≢ c + 1 = h e in
        let s : b ≢ c = omega arith in
        not_open m O X f a b (c + 1) (omega arith)
        (ap (λ i. between i b (c + 1)) e ∙ between_next_of c b s q)
        (or_left _ _ (ap₂ (λ u v. between u (f b) v) (ap f e ∙ f_c) o_next
        ∙ between_next_of r (f b) (λ i. one.apart b c lb (omega arith) s (i ∙ sym f_c))
        (λ i. one.apart b (c + 1) lb (omega arith) q (i ∙ sym f_next))))
    | inr q ↦
        let start : between (f a) (f b) (f a) ≡ true = between_start (f a) (f b) (one.apart a b la lb p) in
        elim (cases_eq a (c + 1)) [
          | inl e ↦
              not_open m O X f a b a la (between_start a b p)
              (or_left _ _ (ap (between (f a) (f b)) (ap O e ∙ o_next ∙ sym f_next ∙ ap f (sym e)) ∙ start))
          | inr s ↦
              not_open m O X f a b a la (between_start a b p)
              (or_right _ _ (ap (between (f a) (f b)) (sym (others a la q s)) ∙ start))
        ]
  ]

  pub only_sw : (a b : ℕ) → a < m → b < m → is_open m O X f a b ≡ (eqb a c && eqb b (c + 1))
  only_sw a b la lb = elim (cases_eq a b) [
    | inl e ↦ open_apart m O X f a b e ∙ sym (not_both a b c (c + 1) (λ i j. absurd (omega arith)))
    | inr p ↦ elim (cases_eq a c) [
      | inl e ↦ elim (cases_eq b (c + 1)) [
        | inl i ↦ (λ j. is_open m O X f (e j) (i j)) ∙ open_sw ∙ sym (both a b c (c + 1) e i)
        | inr q ↦
            closed_sw a b la lb p (λ _ j. q j) ∙ sym (not_both a b c (c + 1) (λ _ j. q j))
      ]
      | inr q ↦
          closed_sw a b la lb p (λ j _. q j) ∙ sym (not_both a b c (c + 1) (λ j _. q j))
    ]
  ]

-- ---- the upper right square empty
module _ (m c r : ℕ) (O X f : ℕ → ℕ) (lc : c + 1 < m) (lr : r + 1 < m) (one : IsOneToOne m f)
    (o_below : O (c + 1) < m) (x_below : (t : ℕ) → t < m → X t < m)
    (x_c : X c ≡ r + 1) (x_next : X (c + 1) ≡ r) (o_c : O c ≡ r) (o_next : O (c + 1) ≢ r + 1)
    (f_first : f (c + 1) ≡ r + 1) (f_second : f (one_up m (c + 1)) ≡ one_up m (r + 1))
    (others : (t : ℕ) → t < m → t ≢ c → t ≢ c + 1 → f (one_up m t) ≡ one_up m (X t)) where
  abbrev d : ℕ
  d = one_up m (c + 1)

  ld : d < m
  ld = one_up_below m (c + 1) lc

  c_not_d : c + 1 ≢ d
  c_not_d = apart m (c + 1) (omega arith) lc
    where
      apart : (m i : ℕ) → 2 ≤ m → i < m → i ≢ one_up m i
      apart zero i two l e = absurd (omega arith)
      apart (suc m) i two l e = elim (cases_eq i m) [
        | inl is ↦ let at : one_up (suc m) i ≡ 0 = ap (one_up (suc m)) is ∙ one_up-last m in absurd (omega arith)
        | inr p ↦ let at = one_up-below m i (omega arith) in absurd (omega arith)
      ]

  open_ne : is_open m O X f (c + 1) d ≡ true
  open_ne = is_open-square m O X f (c + 1) d c_not_d (λ t l. between_to_next m (c + 1) t (omega arith) lc l)
      (ap₂ (λ u v. between u v (O (c + 1))) f_first f_second
      ∙ between_to_next m (r + 1) (O (c + 1)) (omega arith) lr o_below ∙ ne_eqb (O (c + 1)) (r + 1) o_next)
      (ap₂ (λ u v. between u v (X (c + 1))) f_first f_second
      ∙ between_to_next m (r + 1) (X (c + 1)) (omega arith) lr (x_below (c + 1) lc)
      ∙ ne_eqb (X (c + 1)) (r + 1) (omega arith))

  closed_ne : (a b : ℕ) → a < m → b < m → a ≢ b → (a ≡ c + 1 → b ≡ d → ⊥) → is_open m O X f a b ≡ false
  closed_ne a b la lb p h = elim (cases_eq b (c + 1)) [
    | inl e ↦
        let q : a ≢ c + 1 = omega arith in
        not_open m O X f a b c (omega arith) (ap (λ j. between a j c) e ∙ between_end_next a c q)
        (or_left _ _ (ap₂ (between (f a)) (ap f e ∙ f_first) o_c
        ∙ between_end_next (f a) r (λ i. one.apart a (c + 1) la lc q (i ∙ sym f_first))))
    | inr q ↦ elim (cases_eq b d) [
      | inl e ↦
          let s : a ≢ c + 1 = λ i. h i e in
          let t : a ≢ d = λ i. p (i ∙ sym e) in
          not_open m O X f a b c (omega arith)
          (ap (λ j. between a j c) e ∙ between_end_further m c a lc la s t)
          (or_left _ _ (ap₂ (between (f a)) (ap f e ∙ f_second) o_c
          ∙ between_end_further m r (f a) lr (one.small a la)
          (λ i. one.apart a (c + 1) la lc s (i ∙ sym f_first)) (λ i. one.apart a d la ld t (i ∙ sym f_second))))
      | inr s ↦
          let t : ℕ = one_down m b in
          let lt : t < m = one_down_below m b lb in
          let up : one_up m t ≡ b = one_up-one_down m b lb in
          let row : one_down m (f b) ≡ X t =
          ap (one_down m) (ap f (sym up)
          ∙ others t lt (λ i. q (sym up ∙ ap (one_up m) i ∙ after)) (λ i. s (sym up ∙ ap (one_up m) i)))
          ∙ one_down-one_up m (X t) (x_below t lt) in
          not_open m O X f a b t lt (between_before_end m a b la lb p)
          (or_right _ _ (ap (between (f a) (f b)) (sym row)
          ∙ between_before_end m (f a) (f b) (one.small a la) (one.small b lb) (one.apart a b la lb p)))
    ]
  ]
    where
      after : one_up m c ≡ c + 1
      after = by m lc
        where
          by : (m : ℕ) → c + 1 < m → one_up m c ≡ c + 1
          by zero l = absurd (omega arith)
          by (suc m) l = one_up-below m c (omega arith)

  pub only_ne : (a b : ℕ) → a < m → b < m → is_open m O X f a b ≡ (eqb a (c + 1) && eqb b d)
  only_ne a b la lb = elim (cases_eq a b) [
    | inl e ↦ open_apart m O X f a b e ∙ sym (not_both a b (c + 1) d (λ i j. c_not_d (sym i ∙ e ∙ j)))
    | inr p ↦ elim (cases_eq a (c + 1)) [
      | inl e ↦ elim (cases_eq b d) [
        | inl i ↦ (λ j. is_open m O X f (e j) (i j)) ∙ open_ne ∙ sym (both a b (c + 1) d e i)
        | inr q ↦ closed_ne a b la lb p (λ _ j. q j) ∙ sym (not_both a b (c + 1) d (λ _ j. q j))
      ]
      | inr q ↦ closed_ne a b la lb p (λ j _. q j) ∙ sym (not_both a b (c + 1) d (λ j _. q j))
    ]
  ]

-- ---- for grids
module _ (g : Marks) (c : ℕ) (grid : IsGrid g) (lc : c < size g) (room : IsSize (size g + 1)) where
  abbrev n : ℕ
  n = size g

  abbrev r : ℕ
  r = slice_index g.x c

  -- After a stabilisation with the lower left square empty, x- is the border of one state.
  pub border_of_state-minus_bound :
      border_of_state (stabilised g c Sw) (minus_bound g c) ≡ one_code (rank (minus_state (stabilised g c Sw)))
  border_of_state-minus_bound =
      let h = stabilised g c Sw in
      let grid_h = IsGrid-stabilised g c Sw grid lc room in
      let long = size-stabilised g c Sw grid lc in
      let is = stabilised_is g c Sw grid lc in
      let y = minus_bound g c in
      let m = size h in
      let lm : c + 1 < m = omega arith in
      let rows_long = grid_h.x.long in
      let state = IsBijection-swap m h.x c (c + 1) (omega arith) lm grid_h.x in
      let c_stays : lifted (c + 1) c ≡ c = lifted-below (c + 1) c (omega arith) in
      let r_stays : lifted (r + 1) r ≡ r = lifted-below (r + 1) r (omega arith) in
      let x_c : slice_index h.x c ≡ r + 1 = ap (slice_index h.x) (sym c_stays) ∙ is.x.at in
      let x_next : slice_index h.x (c + 1) ≡ r = is.x.new ∙ r_stays in
      border_of_state-one h grid_h y state c (c + 1) (omega arith) lm
      (only_sw m c r (slice_index h.o) (slice_index h.x) (slice_index y) lm (one_to_one m y state) x_c x_next is.o.new
      (λ e. grid.apart c lc (lifted_one (r + 1) (slice_index g.o c) r
      (sym (is.o.old c lc) ∙ ap (slice_index h.o) c_stays ∙ e ∙ sym r_stays)))
      (slice_index-swap_first h.x c (c + 1) (omega arith) (omega arith) ∙ x_next)
      (slice_index-swap_second h.x c (c + 1) (omega arith) (omega arith) ∙ x_c)
      (λ t l p q. slice_index-swap_other h.x c (c + 1) t (omega arith) (omega arith) p q))
      ∙ ap (λ z. one_code (rank z)) (swap-swap m h.x grid_h.x c (c + 1) (omega arith) lm)

  -- After a stabilisation with the upper right square empty, x+ is the border of one state.
  pub border_of_state-plus_bound :
      border_of_state (stabilised g c Ne) (plus_bound g c) ≡ one_code (rank (plus_state (stabilised g c Ne)))
  border_of_state-plus_bound =
      let h = stabilised g c Ne in
      let grid_h = IsGrid-stabilised g c Ne grid lc room in
      let long = size-stabilised g c Ne grid lc in
      let is = stabilised_is g c Ne grid lc in
      let m = size h in
      let p = plus_state h in
      let plus = plus_state-state h grid_h in
      let plus_long = plus.long in
      let lm : c + 1 < m = omega arith in
      let small = grid.x.small c lc in
      let lr : r + 1 < m = omega arith in
      let size_is : n + 1 ≡ m = omega arith in
      let d : ℕ = one_up m (c + 1) in
      let ld : d < m = one_up_below m (c + 1) lm in
      let y = swap p (c + 1) d in
      let state = IsBijection-swap m p (c + 1) d lm ld plus in
      let c_moves : lifted c c ≡ c + 1 = lifted-above c c (omega arith) in
      let r_moves : lifted r r ≡ r + 1 = lifted-above r r (omega arith) in
      let x_c : slice_index h.x c ≡ r + 1 = is.x.new ∙ r_moves in
      let x_next : slice_index h.x (c + 1) ≡ r = ap (slice_index h.x) (sym c_moves) ∙ is.x.at in
      let up_c : one_up m c ≡ c + 1 = one_up_is m c lm in
      let up_r : one_up m r ≡ r + 1 = one_up_is m r lr in
      let p_first : slice_index p (c + 1) ≡ one_up m (r + 1) =
      ap (slice_index p) (sym up_c) ∙ plus_state-one_up h grid_h c (omega arith) ∙ ap (one_up m) x_c in
      let p_second : slice_index p d ≡ r + 1 =
      plus_state-one_up h grid_h (c + 1) lm ∙ ap (one_up m) x_next ∙ up_r in
      ap (λ k. border_of_state h (swap p (c + 1) (one_up k (c + 1)))) size_is
      ∙ border_of_state-one h grid_h y state (c + 1) d lm ld
      (only_ne m c r (slice_index h.o) (slice_index h.x) (slice_index y) lm lr (one_to_one m y state)
      (grid_h.o.small (c + 1) lm) grid_h.x.small x_c x_next is.o.new
      (λ e. grid.apart c lc (lifted_one r (slice_index g.o c) r
      (sym (is.o.old c lc) ∙ ap (slice_index h.o) c_moves ∙ e ∙ sym r_moves)))
      (slice_index-swap_first p (c + 1) d (omega arith) (omega arith) ∙ p_second)
      (slice_index-swap_second p (c + 1) d (omega arith) (omega arith) ∙ p_first)
      (λ t l u w.
      slice_index-swap_other p (c + 1) d (one_up m t) (omega arith) (omega arith)
      (λ i. u (sym (one_down-one_up m t l) ∙ ap (one_down m) (i ∙ sym up_c) ∙ one_down-one_up m c (omega arith)))
      (λ i. w (sym (one_down-one_up m t l) ∙ ap (one_down m) i ∙ one_down-one_up m (c + 1) lm))
      ∙ plus_state-one_up h grid_h t l))
      ∙ ap (λ z. one_code (rank z)) (swap-swap m p plus (c + 1) d lm ld)
    where
      one_up_is : (m i : ℕ) → i + 1 < m → one_up m i ≡ i + 1
      one_up_is zero i l = absurd (omega arith)
      one_up_is (suc m) i l = one_up-below m i (omega arith)

  -- Both are states.
  pub IsBijection-minus_bound : IsBijection (size (stabilised g c Sw)) (minus_bound g c)
  IsBijection-minus_bound =
      let h = stabilised g c Sw in
      let long = size-stabilised g c Sw grid lc in
      IsBijection-swap (size h) h.x c (c + 1) (omega arith) (omega arith) (IsGrid-stabilised g c Sw grid lc room).x

  pub IsBijection-plus_bound : IsBijection (size (stabilised g c Ne)) (plus_bound g c)
  IsBijection-plus_bound =
      let h = stabilised g c Ne in
      let long : size h ≡ n + 1 = size-stabilised g c Ne grid lc ∙ omega arith in
      let below = one_up_below (n + 1) (c + 1) (omega arith) in
      IsBijection-swap (size h) (plus_state h) (c + 1) (one_up (n + 1) (c + 1)) (omega arith) (omega arith)
      (plus_state-state h (IsGrid-stabilised g c Ne grid lc room))

  -- As chains: x- and x+ are borders.
  pub border-minus_bound : border (stabilised g c Sw) (single (minus_bound g c))
      ≡ single (minus_state (stabilised g c Sw))
  border-minus_bound =
      let grid_h = IsGrid-stabilised g c Sw grid lc room in
      border-single_state (stabilised g c Sw) grid_h (minus_state (stabilised g c Sw)) (minus_bound g c)
      IsBijection-minus_bound grid_h.x border_of_state-minus_bound

  pub border-plus_bound : border (stabilised g c Ne) (single (plus_bound g c)) ≡ single (plus_state (stabilised g c Ne))
  border-plus_bound =
      let grid_h = IsGrid-stabilised g c Ne grid lc room in
      border-single_state (stabilised g c Ne) grid_h (plus_state (stabilised g c Ne)) (plus_bound g c)
      IsBijection-plus_bound (plus_state-state (stabilised g c Ne) grid_h) border_of_state-plus_bound

  -- The bounds are one Maslov degree above them, in their Alexander degree.
  pub bidegree-minus_bound : bidegree (stabilised g c Sw) (minus_bound g c)
      ≡ up_m (bidegree (stabilised g c Sw) (minus_state (stabilised g c Sw)))
  bidegree-minus_bound =
      let grid_h = IsGrid-stabilised g c Sw grid lc room in
      bidegree-single_state (stabilised g c Sw) grid_h (minus_state (stabilised g c Sw)) (minus_bound g c)
      IsBijection-minus_bound grid_h.x border_of_state-minus_bound

  pub bidegree-plus_bound : bidegree (stabilised g c Ne) (plus_bound g c)
      ≡ up_m (bidegree (stabilised g c Ne) (plus_state (stabilised g c Ne)))
  bidegree-plus_bound =
      let grid_h = IsGrid-stabilised g c Ne grid lc room in
      bidegree-single_state (stabilised g c Ne) grid_h (plus_state (stabilised g c Ne)) (plus_bound g c)
      IsBijection-plus_bound (plus_state-state (stabilised g c Ne) grid_h) border_of_state-plus_bound
