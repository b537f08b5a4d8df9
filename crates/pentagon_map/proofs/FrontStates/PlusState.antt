-- `Over` carries the state of the upper right corners of the X to that of the exchanged grid.
-- Route: the X of the column before b is in the way of each rectangle that ends at circle b and row x(b), but for
-- b = c, if it is above the crossing, and for b = c + 1. That leaves the thin rectangle from c up to c + 1.
use Rattle.std.proofs.Common.{Bool, List, ap, ap₂, arith, cond, eqb, false, inl, inr, length, not, refl, slice_index, swap, sym, true, true≢false, ℕ, ◌&&◌, ◌<◌, ◌||◌, ◌∙◌, ◌≡◌, ◌≢◌, ◌⊎◌}
use Rattle.std.proofs.lemmas.Bool.{cases_Bool, cases_eq, eq-eqb, false_from_ne_true, ne_eqb}
use Rattle.std.proofs.lemmas.List.Edits.{length-swap}
use Rattle.f2_algebra.proofs.Chains.ParityLemmas.{below, parity-and, parity_below-one, parity_below-same}
use Rattle.f2_algebra.proofs.Chains.Sets.{holds-single, same_chain}
use Rattle.f2_algebra.proofs.Chains.Tables.{and-false, and-true, same}
use Rattle.f2_algebra.specs.Chain.{single}
use Rattle.state_rank.proofs.BijectionLemmas.{one_to_one, same_list}
use Rattle.state_rank.proofs.OrderLemmas.{length-tabulate}
use Rattle.state_rank.specs.Bijection.{IsBijection}
use Rattle.state_rank.specs.States.{rank}
use Rattle.torus_geom.proofs.Sums.AllBelowLemmas.{at_all_below}
use Rattle.torus_geom.proofs.Sums.TabulateLemmas.{slice_index-tabulate}
use Rattle.torus_geom.proofs.Circles.TurnLemmas.{composed_one, one_down-one_up, one_down_below, one_down_one, one_up-one_down, one_up_below, one_up_one, one_down-other}
use Rattle.torus_geom.specs.Front.{plus_state}
use Rattle.torus_geom.specs.Range.{one_down, one_up}
use Rattle.torus_geom.specs.Marks.{IsGrid, Marks, size}
use Rattle.rectangles.proofs.Square.CyclicOrder.{between, between_end}
use Rattle.rectangles.proofs.Square.EmptyRectangles.{free, is_clear_of}
use Rattle.rectangles.proofs.Square.Exchanges.{with_exchanged, with_exchanged-first, with_exchanged-other, with_exchanged-second}
use Rattle.rectangles.proofs.Square.OpenRectangles.{marks}
use Rattle.rectangles.proofs.Square.RectangleTests.{swap-with_exchanged}
use Rattle.state_rank.proofs.SwapLemmas.{IsBijection-swap}
use Rattle.rectangles.proofs.Square.TwoSteps.{differ, differ-self, differ-true}
use Rattle.grid_moves.specs.Moves.{are_commuting_columns, swapped_columns}
use Rattle.pentagon_map.proofs.ChainMap.CyclicSteps.{between-thin, one_up-other}
use Rattle.pentagon_map.proofs.ChainMap.PentagonSums.{crossing_row-below, holds-column_image, pentagon_at}
use Rattle.pentagon_map.proofs.ChainMap.RowArcs.{above_of}
use Rattle.pentagon_map.proofs.Crossing.CrossingRow.{IsCrossing, crossing_row-over, crossing_row_IsCrossing, four_rows}
use Rattle.pentagon_map.proofs.Crossing.FourNumbers.{AreFourRows}
use Rattle.torus_geom.proofs.Circles.NeighbourLemmas.{between_before_end}
use Rattle.pentagon_map.proofs.FrontStates.CyclicRows.{above_none, begin_up, both_up, end_up, last_row, not_between, turned_round}
use Rattle.pentagon_map.specs.Inner.CodeImages.{column_image}
use Rattle.pentagon_map.specs.Pentagon.{crossing_row}
use Rattle.pentagon_map.specs.declared.Corner.TheVariants.{Over}
use Rattle.pentagon_map.proofs.ChainMap.ThinColumns.{free_thin, clear_thin}
use Rattle.pentagon_map.proofs.ChainMap.PentagonTests.{two, lacks, penta}

-- a column with no mark in the rows, and one with its X in them
pub lacks_none : (O X : ℕ → ℕ) (c : ℕ) (Q : ℕ → Bool) → Q (O c) ≡ false → Q (X c) ≡ false → lacks O X c Q ≡ true
lacks_none O X c Q e f = λ i. not (e i || f i)

pub lacks_some : (O X : ℕ → ℕ) (c : ℕ) (Q : ℕ → Bool) → Q (X c) ≡ true → lacks O X c Q ≡ false
lacks_some O X c Q e = ap (λ z. not (Q (O c) || z)) e ∙ same 1 (λ z. not (z || true)) (λ z. false) refl (Q (O c))

module _ (n : ℕ) (g : Marks) (e : size g ≡ n) where
  -- the upper right corner of the X of the column before c
  pub plus_state-at : (c : ℕ) → c < n → slice_index (plus_state g) c ≡ one_up n (slice_index g.x (one_down n c))
  plus_state-at c l =
      slice_index-tabulate (size g) (λ c. one_up (size g) (slice_index g.x (one_down (size g) c))) c (omega arith)
      ∙ ap (λ m. one_up m (slice_index g.x (one_down m c))) e

  pub length-plus_state : length (plus_state g) ≡ n
  length-plus_state = length-tabulate (size g) (λ c. one_up (size g) (slice_index g.x (one_down (size g) c))) ∙ e

-- the upper right corners are a state
pub IsBijection-plus_state : (g : Marks) → IsGrid g → IsBijection (size g) (plus_state g)
IsBijection-plus_state g s =
    let n : ℕ = size g in
    let one =
    composed_one n (one_up n) (λ c. slice_index g.x (one_down n c)) (one_up_one n)
    (composed_one n (slice_index g.x) (one_down n) (one_to_one n g.x s.x) (one_down_one n)) in
    record {
      long = length-plus_state n g refl;
      small = λ c l. let i = plus_state-at n g refl c l in let k = one.small c l in omega arith;
      apart = λ b c lb lc p i. one.apart b c lb lc p
          (sym (plus_state-at n g refl b lb) ∙ i ∙ plus_state-at n g refl c lc);
    }

module _ (g : Marks) (s : IsGrid g) (c : ℕ) (lc : c < size g) (h : are_commuting_columns g c ≡ true) where
  abbrev n : ℕ
  n = size g

  abbrev x : List ℕ
  x = plus_state g

  sx : IsBijection n x
  sx = IsBijection-plus_state g s

  abbrev r : ℕ
  r = one_down (size g) c

  abbrev e : ℕ
  e = one_up (size g) c

  abbrev p : ℕ
  p = slice_index g.x (one_down (size g) c)

  abbrev q : ℕ
  q = slice_index g.x c

  abbrev o : ℕ
  o = slice_index g.o (one_down (size g) c)

  abbrev t : ℕ
  t = slice_index g.o c

  abbrev w : ℕ
  w = crossing_row g c Over

  lw : w < n
  lw = crossing_row-below g s c lc Over

  lr : r < n
  lr = one_down_below n c lc

  le : e < n
  le = one_up_below n c lc

  lp : p < n
  lp = s.x.small r lr

  lq : q < n
  lq = s.x.small c lc

  lt : t < n
  lt = s.o.small c lc

  lo : o < n
  lo = s.o.small r lr

  ce : c ≢ e
  ce i = one_up-other n c s.is_size.least lc (sym i)

  four : AreFourRows o p q t
  four = four_rows g s c lc h

  crossing : IsCrossing g c w
  crossing = crossing_row_IsCrossing g s c lc h Over

  row_at : (b : ℕ) → b < n → slice_index x b ≡ one_up n (slice_index g.x (one_down n b))
  row_at b l = plus_state-at n g refl b l

  row_c : slice_index x c ≡ one_up n p
  row_c = row_at c lc

  row_e : slice_index x e ≡ one_up n q
  row_e = row_at e le ∙ ap (λ k. one_up n (slice_index g.x k)) (one_down-one_up n c lc)

  rows_differ : one_up n p ≢ one_up n q
  rows_differ i = sx.apart c e lc le ce (row_c ∙ i ∙ sym row_e)

  -- elsewhere the X of the column before b is in the way
  blocked : (a b : ℕ) → a < n → b < n → a ≢ b → one_down n b ≢ r → one_down n b ≢ c
      → free n (two r c) (between a b)
      (marks (slice_index g.o) (slice_index g.x) (between (slice_index x a) (slice_index x b))) ≡ false
  blocked a b la lb ab u v = false_from_ne_true _ (λ h.
      let d : ℕ = one_down n b in
      let ld = one_down_below n b lb in
      let m = s.x.small d ld in
      let row : between (slice_index x a) (slice_index x b) (slice_index g.x d) ≡ true =
      ap (λ z. between (slice_index x a) z (slice_index g.x d)) (row_at b lb)
      ∙ last_row n (slice_index x a) (slice_index g.x d) (sx.small a la) m
      (λ i. sx.apart a b la lb ab (i ∙ sym (row_at b lb))) in
      true≢false (sym (at_all_below n (λ t. two r c t || not
      (between a b t
      && marks (slice_index g.o) (slice_index g.x) (between (slice_index x a) (slice_index x b)) t)) h d ld)
      ∙ (λ i. (ne_eqb d r u i || ne_eqb d c v i)
      || not (between_before_end n a b la lb ab i
      && (between (slice_index x a) (slice_index x b) (slice_index g.o d) || row i)))
      ∙ same 1 (λ z. not (z || true)) (λ z. false) refl
      (between (slice_index x a) (slice_index x b) (slice_index g.o d))))

  -- the test of a pentagon from x, in parts
  abbrev parts : ℕ → ℕ → Bool
  parts a b = pentagon_at g s c (crossing_row g c Over) lc lw (slice_index (plus_state g)) a b

  none_blocked : (a b : ℕ) → a < n → b < n → a ≢ b → one_down n b ≢ r → one_down n b ≢ c → parts a b ≡ false
  none_blocked a b la lb ab u v =
      ap (λ z. differ a b
      && (is_clear_of n (slice_index x) a b (slice_index x a) (slice_index x b)
      && ((eqb a c || eqb b c)
      && (between (slice_index x a) (slice_index x b) w
      && (z && (lacks (slice_index g.o) (slice_index g.x) c (between (slice_index x a) w)
      && lacks (slice_index g.o) (slice_index g.x) r (above_of w (slice_index x b))))))))
      (blocked a b la lb ab u v)
      ∙ same 4 (λ a b c d. a && (b && (c && (d && false)))) (λ a b c d. false) refl (differ a b)
      (is_clear_of n (slice_index x) a b (slice_index x a) (slice_index x b)) (eqb a c || eqb b c)
      (between (slice_index x a) (slice_index x b) w)

  -- up to the circle c, the X of the left column is in the way, if w is no row of it
  none_left : (a : ℕ) → a < n → a ≢ c → p ≢ w → parts a c ≡ false
  none_left a la ac pw =
      elim (cases_Bool (between (slice_index x a) (slice_index x c) w)) [
        | inl h ↦
            let wk : w ≢ slice_index x c =
            λ i. true≢false (sym h ∙ ap (between (slice_index x a) (slice_index x c)) i
            ∙ between_end (slice_index x a) (slice_index x c)) in
            let up : between w (slice_index x c) p ≡ true =
            ap (λ z. between w z p) row_c ∙ last_row n w p lw lp (λ i. wk (i ∙ sym row_c)) in
            ap (λ z. differ a c
            && (is_clear_of n (slice_index x) a c (slice_index x a) (slice_index x c)
            && ((eqb a c || eqb c c)
            && (between (slice_index x a) (slice_index x c) w
            && (free n (two r c) (between a c)
            (marks (slice_index g.o) (slice_index g.x) (between (slice_index x a) (slice_index x c)))
            && (lacks (slice_index g.o) (slice_index g.x) c (between (slice_index x a) w) && z))))))
            (lacks_some (slice_index g.o) (slice_index g.x) r (above_of w (slice_index x c))
            (λ i. up i && differ-true p w pw i))
            ∙ same 6 (λ a b c d f h. a && (b && (c && (d && (f && (h && false)))))) (λ a b c d f h. false) refl
            (differ a c) (is_clear_of n (slice_index x) a c (slice_index x a) (slice_index x c)) (eqb a c || eqb c c)
            (between (slice_index x a) (slice_index x c) w)
            (free n (two r c) (between a c)
            (marks (slice_index g.o) (slice_index g.x) (between (slice_index x a) (slice_index x c))))
            (lacks (slice_index g.o) (slice_index g.x) c (between (slice_index x a) w))
        | inr h ↦
            ap (λ z. differ a c
            && (is_clear_of n (slice_index x) a c (slice_index x a) (slice_index x c)
            && ((eqb a c || eqb c c)
            && (z && (free n (two r c) (between a c)
            (marks (slice_index g.o) (slice_index g.x) (between (slice_index x a) (slice_index x c)))
            && (lacks (slice_index g.o) (slice_index g.x) c (between (slice_index x a) w)
            && lacks (slice_index g.o) (slice_index g.x) r (above_of w (slice_index x c)))))))) h
            ∙ same 3 (λ a b c. a && (b && (c && false))) (λ a b c. false) refl (differ a c)
            (is_clear_of n (slice_index x) a c (slice_index x a) (slice_index x c)) (eqb a c || eqb c c)
      ]

  none_off : (a : ℕ) → a ≢ c → parts a e ≡ false
  none_off a ac =
      (λ i. differ a e
      && (is_clear_of n (slice_index x) a e (slice_index x a) (slice_index x e)
      && ((ne_eqb a c ac i || ne_eqb e c (λ z. ce (sym z)) i)
      && (between (slice_index x a) (slice_index x e) w
      && (free n (two r c) (between a e)
      (marks (slice_index g.o) (slice_index g.x) (between (slice_index x a) (slice_index x e)))
      && (lacks (slice_index g.o) (slice_index g.x) c (between (slice_index x a) w)
      && lacks (slice_index g.o) (slice_index g.x) r (above_of w (slice_index x e))))))))
      ∙ same 2 (λ a b. a && (b && false)) (λ a b. false) refl (differ a e)
      (is_clear_of n (slice_index x) a e (slice_index x a) (slice_index x e))

  -- the one pentagon
  the_one : between (one_up n p) (one_up n q) w ≡ true
      → lacks (slice_index g.o) (slice_index g.x) c (between (one_up n p) w) ≡ true
      → lacks (slice_index g.o) (slice_index g.x) r (above_of w (one_up n q)) ≡ true → parts c e ≡ true
  the_one h1 h2 h3 =
      let clean : free n (two r c) (between c e)
      (marks (slice_index g.o) (slice_index g.x) (between (slice_index x c) (slice_index x e))) ≡ true =
      free_thin n (two r c) (between c e)
      (marks (slice_index g.o) (slice_index g.x) (between (slice_index x c) (slice_index x e)))
      (λ t l. elim (cases_eq t c) [
        | inl i ↦
            ap (λ z. (eqb t r || z) || not (between c e t)) (eq-eqb t c i)
            ∙ same 2 (λ x y. (x || true) || y) (λ x y. true) refl (eqb t r) (not (between c e t))
        | inr v ↦
            ap (λ z. two r c t || not z) (between-thin n c t lc l v)
            ∙ same 1 (λ x. x || true) (λ x. true) refl (two r c t)
      ]) in
      (λ i. differ-true c e ce i
      && (clear_thin n (slice_index x) c e (slice_index x c) (slice_index x e) (λ t l v. between-thin n c t lc l v) i
      && ((eq-eqb c c refl i || eqb e c) && (between (row_c i) (row_e i) w
      && (clean i
      && (lacks (slice_index g.o) (slice_index g.x) c (between (row_c i) w)
      && lacks (slice_index g.o) (slice_index g.x) r (above_of w (row_e i))))))))
      ∙ (λ i. h1 i && (h2 i && h3 i))

  in_above : (k i : ℕ) → i ≢ w → above_of w k i ≡ false → between w k i ≡ false
  in_above k i v h = sym (ap (λ z. between w k i && z) (differ-true i w v) ∙ and-true (between w k i)) ∙ h

  at_t : w ≡ t → parts c e ≡ true
  at_t w_is =
      let tqp : between t q p ≡ false =
      ap (λ z. between z q p) (sym w_is) ∙ in_above q p (λ i. four.pt (i ∙ w_is)) crossing.x-x in
      let tqo : between t q o ≡ false =
      ap (λ z. between z q o) (sym w_is) ∙ in_above q o (λ i. four.ot (i ∙ w_is)) crossing.x-o in
      let pqt : between p q t ≡ true = turned_round p t q four.pt (λ i. four.qt (sym i)) (λ i. four.pq (sym i)) tqp in
      let ptq : between p t q ≡ false = not_between p t q four.pt (λ i. four.qt (sym i)) (λ i. four.pq (sym i)) tqp in
      the_one
      (ap (between (one_up n p) (one_up n q)) w_is ∙ both_up n p q t lp lq lt four.pq (λ i. four.pt (sym i)) pqt)
      (lacks_none (slice_index g.o) (slice_index g.x) c (between (one_up n p) w)
      (ap (λ z. between (one_up n p) z t) w_is ∙ between_end (one_up n p) t)
      (ap (λ z. between (one_up n p) z q) w_is ∙ begin_up n p t q lp lt lq (λ i. four.pt (sym i)) ptq))
      (lacks_none (slice_index g.o) (slice_index g.x) r (above_of w (one_up n q))
      (ap (λ z. above_of z (one_up n q) o) w_is
      ∙ ap (λ z. z && differ o t) (end_up n t q o lt lq lo (λ i. four.qt (sym i)) four.oq tqo))
      (ap (λ z. above_of z (one_up n q) p) w_is
      ∙ ap (λ z. z && differ p t) (end_up n t q p lt lq lp (λ i. four.qt (sym i)) four.pq tqp)))

  at_q : w ≡ q → parts c e ≡ true
  at_q w_is =
      let qtp : between q t p ≡ false =
      ap (λ z. between z t p) (sym w_is) ∙ in_above t p (λ i. four.pq (i ∙ w_is)) crossing.o-x in
      let pqt : between p q t ≡ false = not_between p q t four.pq four.qt (λ i. four.pt (sym i)) qtp in
      the_one
      (ap (between (one_up n p) (one_up n q)) w_is ∙ last_row n (one_up n p) q (one_up_below n p lp) lq rows_differ)
      (lacks_none (slice_index g.o) (slice_index g.x) c (between (one_up n p) w)
      (ap (λ z. between (one_up n p) z t) w_is ∙ begin_up n p q t lp lq lt (λ i. four.pq (sym i)) pqt)
      (ap (λ z. between (one_up n p) z q) w_is ∙ between_end (one_up n p) q))
      (lacks_none (slice_index g.o) (slice_index g.x) r (above_of w (one_up n q))
      (ap (λ z. above_of z (one_up n q) o) w_is ∙ above_none n q o lq lo)
      (ap (λ z. above_of z (one_up n q) p) w_is ∙ above_none n q p lq lp))

  -- the crossing is in a row of the right column
  place : (w ≡ t) ⊎ (w ≡ q)
  place = by (between o q t) (crossing_row-over g s c lc h)
    where
      by : (z : Bool) → w ≡ cond z t q → (w ≡ t) ⊎ (w ≡ q)
      by true e = inl e
      by false e = inr e

  pw : p ≢ w
  pw i = elim place [ inl a ↦ four.pt (i ∙ a) | inr a ↦ four.pq (i ∙ a) ]

  one_pentagon : (a b : ℕ) → a < n → b < n → parts a b ≡ (eqb a c && eqb b e)
  one_pentagon a b la lb = elim (cases_eq a b) [
    | inl i ↦
        ap (λ z. z
        && (is_clear_of n (slice_index x) a b (slice_index x a) (slice_index x b)
        && penta n r c w (slice_index g.o) (slice_index g.x) a b (slice_index x a) (slice_index x b)))
        (ap (λ z. differ z b) i ∙ differ-self b)
        ∙ sym (elim (cases_eq a c) [
          | inl j ↦ ap (λ z. eqb a c && z) (ne_eqb b e (λ k. ce (sym j ∙ i ∙ k))) ∙ and-false (eqb a c)
          | inr v ↦ ap (λ z. z && eqb b e) (ne_eqb a c v)
        ])
    | inr ab ↦ elim (cases_eq (one_down n b) c) [
      | inl j ↦
          let be : b ≡ e = sym (one_up-one_down n b lb) ∙ ap (one_up n) j in
          elim (cases_eq a c) [
            | inl k ↦
                ap₂ parts k be ∙ elim place [ inl i ↦ at_t i | inr i ↦ at_q i ]
                ∙ sym (λ i. eq-eqb a c k i && eq-eqb b e be i)
            | inr v ↦ ap (parts a) be ∙ none_off a v ∙ sym (ap (λ z. z && eqb b e) (ne_eqb a c v))
          ]
      | inr u ↦
          let be : b ≢ e = λ k. u (ap (one_down n) k ∙ one_down-one_up n c lc) in
          elim (cases_eq (one_down n b) r) [
            | inl j ↦
                let bc : b ≡ c = sym (one_up-one_down n b lb) ∙ ap (one_up n) j ∙ one_up-one_down n c lc in
                ap (parts a) bc ∙ none_left a la (λ k. ab (k ∙ sym bc)) pw
                ∙ sym (ap (λ z. eqb a c && z) (ne_eqb b e be) ∙ and-false (eqb a c))
            | inr v ↦ none_blocked a b la lb ab v u ∙ sym (ap (λ z. eqb a c && z) (ne_eqb b e be) ∙ and-false (eqb a c))
          ]
    ]
  ]

  -- the state that it leads to
  plus_moved : swap x c e ≡ plus_state (swapped_columns g c)
  plus_moved =
      let there : Marks = swapped_columns g c in
      let same_size : size there ≡ n = length-swap g.o r c in
      same_list n (swap x c e) (plus_state there) (IsBijection-swap n x c e lc le sx).long
      (length-plus_state n there same_size) (λ d l.
      let long = sx.long in
      ap (λ (f : ℕ → ℕ). f d) (swap-with_exchanged x c e (omega arith) (omega arith))
      ∙ each d l (cases_eq d c) (cases_eq d e)
      ∙ sym (plus_state-at n there same_size d l
      ∙ ap (λ (f : ℕ → ℕ). one_up n (f (one_down n d)))
      (let k = s.x.long in swap-with_exchanged g.x r c (omega arith) (omega arith))))
    where
      each : (d : ℕ) → d < n → (d ≡ c) ⊎ (d ≢ c) → (d ≡ e) ⊎ (d ≢ e)
          → with_exchanged (slice_index x) c e d ≡ one_up n (with_exchanged (slice_index g.x) r c (one_down n d))
      each d l (inl i) z =
          ap (with_exchanged (slice_index x) c e) i ∙ with_exchanged-first (slice_index x) c e ∙ row_e
          ∙ ap (one_up n) (sym (with_exchanged-first (slice_index g.x) r c))
          ∙ ap (λ (k : ℕ). one_up n (with_exchanged (slice_index g.x) r c (one_down n k))) (sym i)
      each d l (inr u) (inl i) =
          ap (with_exchanged (slice_index x) c e) i ∙ with_exchanged-second (slice_index x) c e ce ∙ row_c
          ∙ ap (one_up n) (sym (with_exchanged-second (slice_index g.x) r c (one_down-other n c s.is_size.least lc)))
          ∙ ap (λ (k : ℕ). one_up n (with_exchanged (slice_index g.x) r c k)) (sym (one_down-one_up n c lc))
          ∙ ap (λ (k : ℕ). one_up n (with_exchanged (slice_index g.x) r c (one_down n k))) (sym i)
      each d l (inr u) (inr v) =
          with_exchanged-other (slice_index x) c e d u v ∙ row_at d l
          ∙ ap (one_up n) (sym (with_exchanged-other (slice_index g.x) r c (one_down n d)
          (λ i. u (sym (one_up-one_down n d l) ∙ ap (one_up n) i ∙ one_up-one_down n c lc))
          (λ i. v (sym (one_up-one_down n d l) ∙ ap (one_up n) i))))

  -- `Over` carries the upper right corners to those of the exchanged grid.
  pub column_image-plus_state : column_image g c Over (plus_state g) ≡ single (rank (plus_state (swapped_columns g c)))
  column_image-plus_state = same_chain _ _ (λ k.
      holds-column_image g s c Over lc lw x sx k
      ∙ parity_below-same n _ (λ a. eqb a c && eqb k (rank (swap x a e))) (λ a la.
      parity_below-same n _ (λ b. eqb a c && (eqb b e && eqb k (rank (swap x a b)))) (λ b lb.
      ap (λ z. z && eqb k (rank (swap x a b))) (one_pentagon a b la lb)
      ∙ same 3 (λ p q r. (p && q) && r) (λ p q r. p && (q && r)) refl (eqb a c) (eqb b e) (eqb k (rank (swap x a b))))
      ∙ parity-and (eqb a c) (λ b. eqb b e && eqb k (rank (swap x a b))) (below n)
      ∙ ap (λ z. eqb a c && z) (parity_below-one n e (λ b. eqb k (rank (swap x a b))) le))
      ∙ parity_below-one n c (λ a. eqb k (rank (swap x a e))) lc
      ∙ ap (λ y. eqb k (rank y)) plus_moved
      ∙ sym (holds-single (rank (plus_state (swapped_columns g c))) k))
