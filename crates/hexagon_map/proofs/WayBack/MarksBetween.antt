-- The crossings of a grid and of the exchanged grid: they are in different rows, no row of column c is strictly between
-- that of the way back and that of the way there, and no row of column c - 1 strictly between that of the way there and
-- that of the way back.
-- Ranges are linear over F2 in the orders of the numbers, so each fact is a table of twelve orders.
use Rattle.std.proofs.Common.{Bool, List, ap, arith, cond, false, ltb, not, refl, slice_index, subst, swap, sym, true, ℕ, ◌&&◌, ◌<◌, ◌∙◌, ◌≡◌, ◌≢◌}
use Rattle.std.proofs.lemmas.Bool.{and_parts}
use Rattle.std.proofs.lemmas.List.Edits.{length-swap}
use mathlib.Core.Bool.{beq}
use Rattle.f2_algebra.proofs.Chains.Tables.{Table, given, implies, same, ◌⊻◌}
use Rattle.rectangles.proofs.Square.CyclicOrder.{between, between_other, between_end}
use Rattle.rectangles.proofs.Square.TwoSteps.{differ}
use Rattle.state_rank.specs.Bijection.{IsBijection}
use Rattle.torus_geom.proofs.Circles.TurnLemmas.{one_down-other, one_down_below}
use Rattle.torus_geom.specs.Range.{one_down}
use Rattle.torus_geom.specs.Marks.{IsGrid, Marks, size}
use Rattle.grid_moves.proofs.Exchanged.CommutesAgain.{are_commuting-swapped}
use Rattle.grid_moves.proofs.Exchanged.SwapGridLemmas.{IsGrid-swapped_columns}
use Rattle.grid_moves.specs.Moves.{are_commuting_columns, swapped_columns}
use Rattle.grid_moves.specs.declared.commutations.Axis.TheVariants.{Cols}
use Rattle.pentagon_map.proofs.ChainMap.RowArcs.{above_of}
use Rattle.pentagon_map.proofs.Crossing.CrossingRow.{above_of-out, above_of-start, none_or_both, crossing_row-over, crossing_row-under, four_rows}
use Rattle.pentagon_map.proofs.Crossing.FourNumbers.{AreFourRows, orders, four_orders_hold, both_false}
use Rattle.pentagon_map.specs.Pentagon.{crossing_row}
use Rattle.pentagon_map.specs.declared.Corner.{Corner}
use Rattle.pentagon_map.specs.declared.Corner.TheVariants.{Over, Under}
use Rattle.rectangles.proofs.Square.RectangleTests.{swap-with_exchanged}
use Rattle.rectangles.proofs.Square.Exchanges.{with_exchanged, with_exchanged-first, with_exchanged-second}

-- ---- four rows: o and p of one column, t and q of the other
over_told : Bool → Bool → Bool → Bool → Bool → Bool → Bool → Bool → Bool → Bool → Bool
over_told opt opq oqt tpo otq top ptq qop pqt qpo =
    implies (beq opt opq)
    ((implies (oqt && tpo) (not otq && not top) && implies (oqt && not tpo) (not ptq && not tpo))
    && (implies (not oqt && tpo) (not oqt && not qop) && implies (not oqt && not tpo) (not pqt && not qpo)))

under_told : Bool → Bool → Bool → Bool → Bool → Bool → Bool → Bool → Bool → Bool → Bool → Bool → Bool
under_told opt opq oqt tpo qpt pqo tpq pto qot oqp toq otp =
    implies (beq opt opq)
    ((implies (tpo && oqt) (not qpt && not pqo) && implies (tpo && not oqt) (not tpq && not pto))
    && (implies (not tpo && oqt) (not qot && not oqp) && implies (not tpo && not oqt) (not toq && not otp)))

over_table : Table 12
unfolding orders over_told
over_table op po oq qo ot to pq qp pt tp qt tq =
    implies (orders op po oq qo ot to pq qp pt tp qt tq)
    (over_told (ot ⊻ pt ⊻ po) (oq ⊻ pq ⊻ po) (ot ⊻ qt ⊻ qo) (to ⊻ po ⊻ pt) (oq ⊻ tq ⊻ to) (tp ⊻ op ⊻ ot)
    (pq ⊻ tq ⊻ tp) (qp ⊻ op ⊻ oq) (pt ⊻ qt ⊻ qp) (qo ⊻ po ⊻ pq))

over_holds : (op po oq qo ot to pq qp pt tp qt tq : Bool) → over_table op po oq qo ot to pq qp pt tp qt tq ≡ true
unfolding over_table
over_holds = same 12 over_table (λ op po oq qo ot to pq qp pt tp qt tq. true) refl

under_table : Table 12
unfolding orders under_told
under_table op po oq qo ot to pq qp pt tp qt tq =
    implies (orders op po oq qo ot to pq qp pt tp qt tq)
    (under_told (ot ⊻ pt ⊻ po) (oq ⊻ pq ⊻ po) (ot ⊻ qt ⊻ qo) (to ⊻ po ⊻ pt) (qt ⊻ pt ⊻ pq) (po ⊻ qo ⊻ qp)
    (tq ⊻ pq ⊻ pt) (po ⊻ to ⊻ tp) (qt ⊻ ot ⊻ oq) (op ⊻ qp ⊻ qo) (tq ⊻ oq ⊻ ot) (op ⊻ tp ⊻ to))

under_holds : (op po oq qo ot to pq qp pt tp qt tq : Bool) → under_table op po oq qo ot to pq qp pt tp qt tq ≡ true
unfolding under_table
under_holds = same 12 under_table (λ op po oq qo ot to pq qp pt tp qt tq. true) refl

module _ (o p q t : ℕ) (d : AreFourRows o p q t) where
  po : p ≢ o
  po e = d.op (sym e)

  qo : q ≢ o
  qo e = d.oq (sym e)

  to : t ≢ o
  to e = d.ot (sym e)

  qp : q ≢ p
  qp e = d.pq (sym e)

  tp : t ≢ p
  tp e = d.pt (sym e)

  tq : t ≢ q
  tq e = d.qt (sym e)

  over_is : over_told (between o p t) (between o p q) (between o q t) (between t p o) (between o t q) (between t o p)
      (between p t q) (between q o p) (between p q t) (between q p o) ≡ true
  unfolding over_table
  over_is =
      (λ i. over_told (between_other o p t to tp i) (between_other o p q qo qp i) (between_other o q t to tq i)
      (between_other t p o d.ot d.op i) (between_other o t q qo d.qt i) (between_other t o p d.pt po i)
      (between_other p t q qp d.qt i) (between_other q o p d.pq po i) (between_other p q t tp tq i)
      (between_other q p o d.oq d.op i))
      ∙ given _ _ (four_orders_hold o p q t d) (over_holds (ltb o p) (ltb p o) (ltb o q) (ltb q o) (ltb o t) (ltb t o)
      (ltb p q) (ltb q p) (ltb p t) (ltb t p) (ltb q t) (ltb t q))

  under_is : under_told (between o p t) (between o p q) (between o q t) (between t p o) (between q p t) (between p q o)
      (between t p q) (between p t o) (between q o t) (between o q p) (between t o q) (between o t p) ≡ true
  unfolding under_table
  under_is =
      (λ i. under_told (between_other o p t to tp i) (between_other o p q qo qp i) (between_other o q t to tq i)
      (between_other t p o d.ot d.op i) (between_other q p t tq tp i) (between_other p q o d.op d.oq i)
      (between_other t p q d.qt qp i) (between_other p t o d.op d.ot i) (between_other q o t tq to i)
      (between_other o q p po d.pq i) (between_other t o q d.qt qo i) (between_other o t p po d.pt i))
      ∙ given _ _ (four_orders_hold o p q t d) (under_holds (ltb o p) (ltb p o) (ltb o q) (ltb q o) (ltb o t) (ltb t o)
      (ltb p q) (ltb q p) (ltb p t) (ltb t p) (ltb q t) (ltb t q))

-- the crossings w and v, of columns with the rows o and p, and t and q
pub record HaveNoMarkBetween (o p q t w v : ℕ) : Type 0 where
  pub differ : v ≢ w
  pub right_o : above_of v w t ≡ false
  pub right_x : above_of v w q ≡ false
  pub left_o : above_of w v o ≡ false
  pub left_x : above_of w v p ≡ false

ends : (a b : ℕ) → above_of a b b ≡ false
ends a b = ap (λ z. z && differ b a) (between_end a b)

module _ (o p q t : ℕ) (d : AreFourRows o p q t) (same_side : beq (between o p t) (between o p q) ≡ true) where
  -- `Over`: the first row of the right column met from o, and the first row of the left column met from t
  pub no_mark_between-over : (x y : Bool) → between o q t ≡ x → between t p o ≡ y
      → HaveNoMarkBetween o p q t (cond x t q) (cond y o p)
  unfolding over_told
  no_mark_between-over true true e f =
      let k = both_false o p q t d _ _ (given (between o q t && between t p o) _ (λ i. e i && f i)
      (and_parts _ _ (and_parts _ _ (given _ _ same_side (over_is o p q t d))).0).0) in
      record {
        differ = d.ot;
        right_o = ends o t;
        right_x = above_of-out o t q k.0;
        left_o = ends t o;
        left_x = above_of-out t o p k.1;
      }
  no_mark_between-over true false e f =
      let k = both_false o p q t d _ _ (given (between o q t && not (between t p o)) _ (λ i. e i && not (f i))
      (and_parts _ _ (and_parts _ _ (given _ _ same_side (over_is o p q t d))).0).1) in
      record {
        differ = d.pt;
        right_o = ends p t;
        right_x = above_of-out p t q k.0;
        left_o = above_of-out t p o k.1;
        left_x = ends t p;
      }
  no_mark_between-over false true e f =
      let k = both_false o p q t d _ _ (given (not (between o q t) && between t p o) _ (λ i. not (e i) && f i)
      (and_parts _ _ (and_parts _ _ (given _ _ same_side (over_is o p q t d))).1).0) in
      record {
        differ = d.oq;
        right_o = above_of-out o q t k.0;
        right_x = ends o q;
        left_o = ends q o;
        left_x = above_of-out q o p k.1;
      }
  no_mark_between-over false false e f =
      let k = both_false o p q t d _ _
      (given (not (between o q t) && not (between t p o)) _ (λ i. not (e i) && not (f i))
      (and_parts _ _ (and_parts _ _ (given _ _ same_side (over_is o p q t d))).1).1) in
      record {
        differ = d.pq;
        right_o = above_of-out p q t k.0;
        right_x = ends p q;
        left_o = above_of-out q p o k.1;
        left_x = ends q p;
      }

  -- `Under`: the last row of the left column met from t, and the last row of the right column met from o
  pub no_mark_between-under : (x y : Bool) → between t p o ≡ x → between o q t ≡ y
      → HaveNoMarkBetween o p q t (cond x p o) (cond y q t)
  unfolding under_told
  no_mark_between-under true true e f =
      let k = both_false o p q t d _ _ (given (between t p o && between o q t) _ (λ i. e i && f i)
      (and_parts _ _ (and_parts _ _ (given _ _ same_side (under_is o p q t d))).0).0) in
      record {
        differ = λ i. d.pq (sym i);
        right_o = above_of-out q p t k.0;
        right_x = above_of-start q p;
        left_o = above_of-out p q o k.1;
        left_x = above_of-start p q;
      }
  no_mark_between-under true false e f =
      let k = both_false o p q t d _ _ (given (between t p o && not (between o q t)) _ (λ i. e i && not (f i))
      (and_parts _ _ (and_parts _ _ (given _ _ same_side (under_is o p q t d))).0).1) in
      record {
        differ = λ i. d.pt (sym i);
        right_o = above_of-start t p;
        right_x = above_of-out t p q k.0;
        left_o = above_of-out p t o k.1;
        left_x = above_of-start p t;
      }
  no_mark_between-under false true e f =
      let k = both_false o p q t d _ _ (given (not (between t p o) && between o q t) _ (λ i. not (e i) && f i)
      (and_parts _ _ (and_parts _ _ (given _ _ same_side (under_is o p q t d))).1).0) in
      record {
        differ = λ i. d.oq (sym i);
        right_o = above_of-out q o t k.0;
        right_x = above_of-start q o;
        left_o = above_of-start o q;
        left_x = above_of-out o q p k.1;
      }
  no_mark_between-under false false e f =
      let k = both_false o p q t d _ _
      (given (not (between t p o) && not (between o q t)) _ (λ i. not (e i) && not (f i))
      (and_parts _ _ (and_parts _ _ (given _ _ same_side (under_is o p q t d))).1).1) in
      record {
        differ = λ i. d.ot (sym i);
        right_o = above_of-start t o;
        right_x = above_of-out t o q k.0;
        left_o = above_of-start o t;
        left_x = above_of-out o t p k.1;
      }

-- ---- the crossings of a grid
module _ (g : Marks) (s : IsGrid g) (c : ℕ) (lc : c < size g) (h : are_commuting_columns g c ≡ true) where
  abbrev n : ℕ
  n = size g

  abbrev b : ℕ
  b = one_down (size g) c

  lb : b < n
  lb = one_down_below n c lc

  sides_apart : b ≢ c
  sides_apart = one_down-other n c s.is_size.least lc

  abbrev there : Marks
  there = swapped_columns g c

  same_size : size there ≡ n
  same_size = length-swap g.o b c

  rows_exchanged : (rows : List ℕ) → IsBijection n rows
      → slice_index (swap rows b c) ≡ with_exchanged (slice_index rows) b c
  rows_exchanged rows k = let e = k.long in let l = lc in let m = lb in
      swap-with_exchanged rows b c (omega arith) (omega arith)

  left_row : (rows : List ℕ) → IsBijection n rows
      → slice_index (swap rows b c) (one_down (size there) c) ≡ slice_index rows c
  left_row rows k =
      ap (λ m. slice_index (swap rows b c) (one_down m c)) same_size ∙ ap (λ f. f b) (rows_exchanged rows k)
      ∙ with_exchanged-first (slice_index rows) b c

  right_row : (rows : List ℕ) → IsBijection n rows → slice_index (swap rows b c) c ≡ slice_index rows b
  right_row rows k =
      ap (λ f. f c) (rows_exchanged rows k) ∙ with_exchanged-second (slice_index rows) b c sides_apart

  below_there : c < size there
  below_there = let l = lc in let e = same_size in omega arith

  grid_there : IsGrid there
  grid_there = IsGrid-swapped_columns g c s lc

  commutes_there : are_commuting_columns there c ≡ true
  commutes_there = are_commuting-swapped Cols g s c lc h

  -- the crossings are in different rows, and what is between them
  pub no_mark_between-crossings : (corner : Corner)
      → HaveNoMarkBetween (slice_index g.o b) (slice_index g.x b) (slice_index g.x c) (slice_index g.o c)
      (crossing_row g c corner) (crossing_row (swapped_columns g c) c corner)
  no_mark_between-crossings Over =
      let o : ℕ = slice_index g.o b in
      let p : ℕ = slice_index g.x b in
      let q : ℕ = slice_index g.x c in
      let t : ℕ = slice_index g.o c in
      let back : crossing_row there c Over ≡ cond (between t p o) o p =
      crossing_row-over there grid_there c below_there commutes_there
      ∙ (λ i. cond (between (left_row g.o s.o i) (right_row g.x s.x i) (right_row g.o s.o i))
      (right_row g.o s.o i) (right_row g.x s.x i)) in
      subst (λ w. HaveNoMarkBetween o p q t w (crossing_row there c Over)) (sym (crossing_row-over g s c lc h))
      (subst (HaveNoMarkBetween o p q t (cond (between o q t) t q)) (sym back)
      (no_mark_between-over o p q t (four_rows g s c lc h) (none_or_both g s c lc h) (between o q t)
      (between t p o) refl refl))
  no_mark_between-crossings Under =
      let o : ℕ = slice_index g.o b in
      let p : ℕ = slice_index g.x b in
      let q : ℕ = slice_index g.x c in
      let t : ℕ = slice_index g.o c in
      let back : crossing_row there c Under ≡ cond (between o q t) q t =
      crossing_row-under there grid_there c below_there commutes_there
      ∙ (λ i. cond (between (right_row g.o s.o i) (left_row g.x s.x i) (left_row g.o s.o i))
      (left_row g.x s.x i) (left_row g.o s.o i)) in
      subst (λ w. HaveNoMarkBetween o p q t w (crossing_row there c Under)) (sym (crossing_row-under g s c lc h))
      (subst (HaveNoMarkBetween o p q t (cond (between t p o) p o)) (sym back)
      (no_mark_between-under o p q t (four_rows g s c lc h) (none_or_both g s c lc h) (between t p o)
      (between o q t) refl refl))
