-- `Under` carries the state of the lower left corners of the X to that of the exchanged grid.
-- Route: a rectangle that leaves this state has the X of its left column in it, unless that is one of the two
-- columns; with left on circle c that X is a mark below the crossing. That leaves the thin rectangle from c - 1 up
-- to c.
use Rattle.std.proofs.Common.{Bool, List, ap, ap₂, cond, eqb, false, inl, inr, not, refl, slice_index, swap, sym, true, true≢false, ℕ, ◌&&◌, ◌<◌, ◌||◌, ◌∙◌, ◌≡◌, ◌≢◌, ◌⊎◌}
use Rattle.std.proofs.lemmas.Bool.{cases_eq, eq-eqb, false_from_ne_true, ne_eqb}
use Rattle.f2_algebra.proofs.Chains.ParityLemmas.{below, parity-and, parity_below-one, parity_below-same}
use Rattle.f2_algebra.proofs.Chains.Sets.{holds-single, same_chain}
use Rattle.f2_algebra.proofs.Chains.Tables.{and-false, and-true, same}
use Rattle.f2_algebra.specs.Chain.{single}
use Rattle.state_rank.specs.States.{rank}
use Rattle.torus_geom.proofs.Sums.AllBelowLemmas.{at_all_below}
use Rattle.torus_geom.proofs.Circles.TurnLemmas.{one_down_below, one_up-one_down, one_down-other}
use Rattle.torus_geom.specs.Front.{minus_state}
use Rattle.torus_geom.specs.Range.{one_down}
use Rattle.torus_geom.specs.Marks.{IsGrid, Marks, size}
use Rattle.rectangles.proofs.Square.CyclicOrder.{between, between_same, between_start}
use Rattle.rectangles.proofs.Square.EmptyRectangles.{free, is_clear_of}
use Rattle.rectangles.proofs.Square.OpenRectangles.{marks}
use Rattle.rectangles.proofs.Square.TwoSteps.{differ, differ-self, differ-true}
use Rattle.grid_moves.specs.Moves.{are_commuting_columns, swapped_columns}
use Rattle.pentagon_map.proofs.ChainMap.CyclicSteps.{between-thin}
use Rattle.pentagon_map.proofs.ChainMap.PentagonSums.{crossing_row-below, holds-column_image, pentagon_at}
use Rattle.pentagon_map.proofs.ChainMap.RowArcs.{above_of}
use Rattle.pentagon_map.proofs.Crossing.CrossingRow.{IsCrossing, crossing_row-under, crossing_row_IsCrossing, four_rows}
use Rattle.pentagon_map.proofs.Crossing.FourNumbers.{AreFourRows}
use Rattle.pentagon_map.proofs.FrontStates.CyclicRows.{not_between, turned_round}
use Rattle.pentagon_map.proofs.FrontStates.PlusState.{lacks_none, lacks_some}
use Rattle.pentagon_map.specs.Inner.CodeImages.{column_image}
use Rattle.pentagon_map.specs.Pentagon.{crossing_row}
use Rattle.pentagon_map.specs.declared.Corner.TheVariants.{Under}
use Rattle.pentagon_map.proofs.ChainMap.ThinColumns.{free_thin, clear_thin}
use Rattle.pentagon_map.proofs.ChainMap.PentagonTests.{two, lacks, penta}

module _ (g : Marks) (s : IsGrid g) (c : ℕ) (lc : c < size g) (h : are_commuting_columns g c ≡ true) where
  abbrev n : ℕ
  n = size g

  abbrev x : List ℕ
  x = g.x

  abbrev r : ℕ
  r = one_down (size g) c

  abbrev p : ℕ
  p = slice_index g.x (one_down (size g) c)

  abbrev q : ℕ
  q = slice_index g.x c

  abbrev o : ℕ
  o = slice_index g.o (one_down (size g) c)

  abbrev t : ℕ
  t = slice_index g.o c

  abbrev w : ℕ
  w = crossing_row g c Under

  lw : w < n
  lw = crossing_row-below g s c lc Under

  lr : r < n
  lr = one_down_below n c lc

  rc : r ≢ c
  rc = one_down-other n c s.is_size.least lc

  four : AreFourRows o p q t
  four = four_rows g s c lc h

  crossing : IsCrossing g c w
  crossing = crossing_row_IsCrossing g s c lc h Under

  -- the crossing is in a row of the left column
  place : (w ≡ p) ⊎ (w ≡ o)
  place = by (between t p o) (crossing_row-under g s c lc h)
    where
      by : (z : Bool) → w ≡ cond z p o → (w ≡ p) ⊎ (w ≡ o)
      by true e = inl e
      by false e = inr e

  qw : q ≢ w
  qw i = elim place [ inl a ↦ four.pq (sym (i ∙ a)) | inr a ↦ four.oq (sym (i ∙ a)) ]

  -- the test of a pentagon from x, in parts
  abbrev parts : ℕ → ℕ → Bool
  parts a b = pentagon_at g s c (crossing_row g c Under) lc lw (slice_index g.x) a b

  -- with another column on the left, its X is in the way
  blocked : (a b : ℕ) → a < n → b < n → a ≢ b → a ≢ r → a ≢ c
      → free n (two r c) (between a b)
      (marks (slice_index g.o) (slice_index g.x) (between (slice_index x a) (slice_index x b))) ≡ false
  blocked a b la lb ab u v = false_from_ne_true _ (λ h.
      true≢false (sym (at_all_below n (λ t. two r c t || not
      (between a b t
      && marks (slice_index g.o) (slice_index g.x) (between (slice_index x a) (slice_index x b)) t)) h a la)
      ∙ (λ i. (ne_eqb a r u i || ne_eqb a c v i)
      || not (between_start a b ab i
      && (between (slice_index x a) (slice_index x b) (slice_index g.o a)
      || between_start (slice_index x a) (slice_index x b) (s.x.apart a b la lb ab) i)))
      ∙ same 1 (λ z. not (z || true)) (λ z. false) refl
      (between (slice_index x a) (slice_index x b) (slice_index g.o a))))

  none_blocked : (a b : ℕ) → a < n → b < n → a ≢ b → a ≢ r → a ≢ c → parts a b ≡ false
  none_blocked a b la lb ab u v =
      ap (λ z. differ a b
      && (is_clear_of n (slice_index x) a b (slice_index x a) (slice_index x b)
      && ((eqb a c || eqb b c)
      && (between (slice_index x a) (slice_index x b) w
      && (z && (lacks (slice_index g.o) (slice_index g.x) c (between (slice_index x a) w)
      && lacks (slice_index g.o) (slice_index g.x) r (above_of w (slice_index x b))))))))
      (blocked a b la lb ab u v)
      ∙ same 4 (λ a b c d. a && (b && (c && (d && false)))) (λ a b c d. false) refl (differ a b)
      (is_clear_of n (slice_index x) a b (slice_index x a) (slice_index x b)) (eqb a c || eqb b c)
      (between (slice_index x a) (slice_index x b) w)

  -- with circle c on the left, the X of column c is below the crossing
  none_right : (b : ℕ) → parts c b ≡ false
  none_right b =
      ap (λ z. differ c b
      && (is_clear_of n (slice_index x) c b (slice_index x c) (slice_index x b)
      && ((eqb c c || eqb b c)
      && (between (slice_index x c) (slice_index x b) w
      && (free n (two r c) (between c b)
      (marks (slice_index g.o) (slice_index g.x) (between (slice_index x c) (slice_index x b)))
      && (z && lacks (slice_index g.o) (slice_index g.x) r (above_of w (slice_index x b))))))))
      (lacks_some (slice_index g.o) (slice_index g.x) c (between q w) (between_start q w qw))
      ∙ same 5 (λ a b c d f. a && (b && (c && (d && (f && false))))) (λ a b c d f. false) refl
      (differ c b) (is_clear_of n (slice_index x) c b (slice_index x c) (slice_index x b)) (eqb c c || eqb b c)
      (between (slice_index x c) (slice_index x b) w)
      (free n (two r c) (between c b)
      (marks (slice_index g.o) (slice_index g.x) (between (slice_index x c) (slice_index x b))))

  none_off : (b : ℕ) → b ≢ c → parts r b ≡ false
  none_off b bc =
      (λ i. differ r b
      && (is_clear_of n (slice_index x) r b (slice_index x r) (slice_index x b)
      && ((ne_eqb r c rc i || ne_eqb b c bc i)
      && (between (slice_index x r) (slice_index x b) w
      && (free n (two r c) (between r b)
      (marks (slice_index g.o) (slice_index g.x) (between (slice_index x r) (slice_index x b)))
      && (lacks (slice_index g.o) (slice_index g.x) c (between (slice_index x r) w)
      && lacks (slice_index g.o) (slice_index g.x) r (above_of w (slice_index x b))))))))
      ∙ same 2 (λ a b. a && (b && false)) (λ a b. false) refl (differ r b)
      (is_clear_of n (slice_index x) r b (slice_index x r) (slice_index x b))

  thin : (t : ℕ) → t < n → t ≢ r → between r c t ≡ false
  thin t l v = ap (λ z. between r z t) (sym (one_up-one_down n c lc)) ∙ between-thin n r t lr l v

  -- the one pentagon
  the_one : between p q w ≡ true → lacks (slice_index g.o) (slice_index g.x) c (between p w) ≡ true
      → lacks (slice_index g.o) (slice_index g.x) r (above_of w q) ≡ true → parts r c ≡ true
  the_one h1 h2 h3 =
      let clean : free n (two r c) (between r c)
      (marks (slice_index g.o) (slice_index g.x) (between (slice_index x r) (slice_index x c))) ≡ true =
      free_thin n (two r c) (between r c)
      (marks (slice_index g.o) (slice_index g.x) (between (slice_index x r) (slice_index x c)))
      (λ t l. elim (cases_eq t r) [
        | inl i ↦ ap (λ z. (z || eqb t c) || not (between r c t)) (eq-eqb t r i)
        | inr v ↦ ap (λ z. two r c t || not z) (thin t l v) ∙ same 1 (λ x. x || true) (λ x. true) refl (two r c t)
      ]) in
      let corner : (eqb r c || eqb c c) ≡ true =
      ap (λ z. eqb r c || z) (eq-eqb c c refl) ∙ same 1 (λ z. z || true) (λ z. true) refl (eqb r c) in
      (λ i. differ-true r c rc i
      && (clear_thin n (slice_index x) r c (slice_index x r) (slice_index x c) (λ t l v. thin t l v) i
      && (corner i && (h1 i && (clean i && (h2 i && h3 i))))))

  in_above : (k i : ℕ) → i ≢ w → above_of w k i ≡ false → between w k i ≡ false
  in_above k i v h = sym (ap (λ z. between w k i && z) (differ-true i w v) ∙ and-true (between w k i)) ∙ h

  high : lacks (slice_index g.o) (slice_index g.x) r (above_of w q) ≡ true
  high = lacks_none (slice_index g.o) (slice_index g.x) r (above_of w q) crossing.x-o crossing.x-x

  whole : parts r c ≡ true
  whole = elim place [
    | inl e ↦
        the_one (ap (between p q) e ∙ between_start p q four.pq)
        (lacks_none (slice_index g.o) (slice_index g.x) c (between p w) (ap (λ z. between p z t) e ∙ between_same p t)
        (ap (λ z. between p z q) e ∙ between_same p q)) high
    | inr e ↦
        let oqp : between o q p ≡ false =
        ap (λ z. between z q p) (sym e) ∙ in_above q p (λ i. four.op (sym (i ∙ e))) crossing.x-x in
        let otp : between o t p ≡ false =
        ap (λ z. between z t p) (sym e) ∙ in_above t p (λ i. four.op (sym (i ∙ e))) crossing.o-x in
        the_one (ap (between p q) e ∙ turned_round p o q (λ i. four.op (sym i)) four.oq (λ i. four.pq (sym i)) oqp)
        (lacks_none (slice_index g.o) (slice_index g.x) c (between p w)
        (ap (λ z. between p z t) e ∙ not_between p o t (λ i. four.op (sym i)) four.ot (λ i. four.pt (sym i)) otp)
        (ap (λ z. between p z q) e ∙ not_between p o q (λ i. four.op (sym i)) four.oq (λ i. four.pq (sym i)) oqp)) high
  ]

  one_pentagon : (a b : ℕ) → a < n → b < n → parts a b ≡ (eqb a r && eqb b c)
  one_pentagon a b la lb = elim (cases_eq a r) [
    | inl i ↦ elim (cases_eq b c) [
      | inl j ↦ ap₂ parts i j ∙ whole ∙ sym (λ k. eq-eqb a r i k && eq-eqb b c j k)
      | inr v ↦ ap (λ k. parts k b) i ∙ none_off b v ∙ sym (ap (λ z. eqb a r && z) (ne_eqb b c v) ∙ and-false (eqb a r))
    ]
    | inr u ↦
        elim (cases_eq a c) [
          | inl j ↦ ap (λ k. parts k b) j ∙ none_right b
          | inr v ↦ elim (cases_eq a b) [
            | inl i ↦
                ap (λ z. z
                && (is_clear_of n (slice_index x) a b (slice_index x a) (slice_index x b)
                && penta n r c w (slice_index g.o) (slice_index g.x) a b (slice_index x a) (slice_index x b)))
                (ap (λ z. differ z b) i ∙ differ-self b)
            | inr ab ↦ none_blocked a b la lb ab u v
          ]
        ]
        ∙ sym (ap (λ z. z && eqb b c) (ne_eqb a r u))
  ]

  -- `Under` carries the lower left corners to those of the exchanged grid.
  pub column_image-minus_state : column_image g c Under (minus_state g)
      ≡ single (rank (minus_state (swapped_columns g c)))
  column_image-minus_state = same_chain _ _ (λ k.
      holds-column_image g s c Under lc lw x s.x k
      ∙ parity_below-same n _ (λ a. eqb a r && eqb k (rank (swap x a c))) (λ a la.
      parity_below-same n _ (λ b. eqb a r && (eqb b c && eqb k (rank (swap x a b)))) (λ b lb.
      ap (λ z. z && eqb k (rank (swap x a b))) (one_pentagon a b la lb)
      ∙ same 3 (λ p q r. (p && q) && r) (λ p q r. p && (q && r)) refl (eqb a r) (eqb b c) (eqb k (rank (swap x a b))))
      ∙ parity-and (eqb a r) (λ b. eqb b c && eqb k (rank (swap x a b))) (below n)
      ∙ ap (λ z. eqb a r && z) (parity_below-one n c (λ b. eqb k (rank (swap x a b))) lc))
      ∙ parity_below-one n r (λ a. eqb k (rank (swap x a c))) lr
      ∙ sym (holds-single (rank (swap g.x r c)) k))
