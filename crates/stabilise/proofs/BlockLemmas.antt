-- Stabilisation and its undoing: a stabilised grid has the block, and the grid that a block gives back is one of which
-- the grid with the block is a stabilisation.
use Rattle.std.proofs.Common.{◌≡◌, ◌≢◌, ℕ, suc, ◌+◌, ◌-◌, ◌<◌, ◌≤◌, true, not, ◌&&◌, List, slice_index, swap, refl, ap, ap₂, subst, ◌∙◌, sym, eqb, arith, inl, inr}
use Rattle.std.proofs.lemmas.Bool.{cases_eq, eqb-true, eq-eqb, ne_eqb, and_parts}
use Rattle.state_rank.specs.Bijection.{IsBijection}
use Rattle.state_rank.proofs.SwapLemmas.{IsBijection-swap, slice_index-swap, exchanged}
use Rattle.torus_geom.specs.Marks.{Marks, size, IsGrid}
use Rattle.stabilise.specs.declared.squares.Square.{Square}
use Rattle.stabilise.specs.declared.squares.Square.TheVariants.{Nw, Ne, Sw, Se}
use Rattle.stabilise.specs.Stabilised.{lifted, lowered, new_column, new_row, empty_column, empty_row, inserted, removed, stabilised, is_block, destabilised}
use Rattle.stabilise.proofs.PlaceLemmas.{lifted_apart, lowered-lifted, lifted_one, lifted_below}
use Rattle.state_rank.proofs.SwapLemmas.{swap-swap}
use Rattle.stabilise.proofs.InsertedLists.{IsBijection-inserted, exchanged-new, exchanged-beside, exchanged-old}
use Rattle.stabilise.proofs.RemovedLists.{length-removed, at_removed, HasNew-removed, IsBijection-removed, inserted-removed, removed-inserted}
use Rattle.stabilise.proofs.StabilisedGrids.{new_column_beside, beside_below, lifted-new_column, lifted-new_row, k_below, v_below, stabilised_is}

-- the marks of a block
pub record HasBlock (h : Marks) (c r : ℕ) (empty : Square) : Type 0 where
  pub no_o : slice_index h.o (empty_column empty c) ≢ empty_row empty r
  pub no_x : slice_index h.x (empty_column empty c) ≢ empty_row empty r
  pub o : slice_index h.o (new_column empty c) ≡ new_row empty r
  pub x_beside : slice_index h.x (new_column empty c) ≡ empty_row empty r
  pub x_above : slice_index h.x (empty_column empty c) ≡ new_row empty r

-- the test finds them
pub HasBlock-of : (h : Marks) (c r : ℕ) (empty : Square) → is_block h c r empty ≡ true → HasBlock h c r empty
HasBlock-of h c r empty t =
    let parts = and_parts _ _ t in
    let none = and_parts _ _ parts.0 in
    let some = and_parts _ _ parts.1 in
    let xs = and_parts _ _ some.1 in
    record {
      no_o = apart _ _ none.0;
      no_x = apart _ _ none.1;
      o = eqb-true _ _ some.0;
      x_beside = eqb-true _ _ xs.0;
      x_above = eqb-true _ _ xs.1;
    }
  where
    apart : (a b : ℕ) → not (eqb a b) ≡ true → a ≢ b
    apart a b h e = grind arith

pub is_block-true : (h : Marks) (c r : ℕ) (empty : Square) → HasBlock h c r empty → is_block h c r empty ≡ true
is_block-true h c r empty s =
    ap₂ (λ a b. a && b)
    (ap₂ (λ a b. not a && not b) (ne_eqb _ _ s.no_o) (ne_eqb _ _ s.no_x))
    (ap₂ (λ a b. a && b) (eq-eqb _ _ s.o)
    (ap₂ (λ a b. a && b) (eq-eqb _ _ s.x_beside) (eq-eqb _ _ s.x_above)))

-- ---- from the grid to the block
module _ (g : Marks) (c : ℕ) (empty : Square) (grid : IsGrid g) (lc : c < size g) where
  -- A stabilised grid has the block.
  pub is_block-stabilised : is_block (stabilised g c empty) c (slice_index g.x c) empty ≡ true
  is_block-stabilised =
      let h = stabilised g c empty in
      let r = slice_index g.x c in
      let k = new_column empty c in
      let v = new_row empty r in
      let s = stabilised_is g c empty grid lc in
      let column : lifted k c ≡ empty_column empty c = lifted-new_column empty c in
      let row : lifted v r ≡ empty_row empty r = lifted-new_row empty r in
      is_block-true h c r empty (record {
        no_o = λ e. grid.apart c lc (lifted_one v (slice_index g.o c) r
            (sym (s.o.old c lc) ∙ ap (slice_index h.o) column ∙ e ∙ sym row));
        no_x = λ e. lifted_apart v r (row ∙ sym e ∙ ap (slice_index h.x) (sym column) ∙ s.x.at);
        o = s.o.new;
        x_beside = s.x.new ∙ row;
        x_above = ap (slice_index h.x) (sym column) ∙ s.x.at;
      })

  -- The block undone gives the grid back.
  pub destabilised-stabilised : destabilised (stabilised g c empty) c (slice_index g.x c) empty ≡ g
  destabilised-stabilised =
      let n = size g in
      let k = new_column empty c in
      let v = new_row empty (slice_index g.x c) in
      let lk = k_below g c empty grid lc in
      let lv = v_below g c empty grid lc in
      let x_inserted = IsBijection-inserted n k v g.x grid.x.long lk lv grid.x in
      let is_o = removed-inserted n k v g.o refl lk in
      let is_x =
      ap (removed k v) (swap-swap (suc n) (inserted k v g.x) x_inserted c (c + 1) (omega arith) (omega arith))
      ∙ removed-inserted n k v g.x grid.x.long lk in
      λ i. record { o = is_o i; x = is_x i }

-- ---- from the block to the grid
-- beside the two rows of the block there is a third one
third_row : (empty : Square) (r a m : ℕ) → a ≢ empty_row empty r → a ≢ new_row empty r → a < m → r + 1 < m → 3 ≤ m
third_row Nw r a m p q la lr = omega arith
third_row Ne r a m p q la lr = omega arith
third_row Sw r a m p q la lr = omega arith
third_row Se r a m p q la lr = omega arith

module _ (h : Marks) (c r : ℕ) (empty : Square) (grid : IsGrid h) (lc : c + 1 < size h) (lr : r + 1 < size h)
    (block : is_block h c r empty ≡ true) where
  abbrev n : ℕ
  n = size h - 1

  abbrev k : ℕ
  k = new_column empty c

  abbrev v : ℕ
  v = new_row empty r

  abbrev before : List ℕ
  before = swap h.x c (c + 1)

  abbrev g : Marks
  g = destabilised h c r empty

  has : HasBlock h c r empty
  has = HasBlock-of h c r empty block

  one_more : size h ≡ suc n
  one_more = omega arith

  c_below : c < n
  c_below = omega arith

  k_within : k < suc n
  k_within = beside_below n c k (omega arith) (new_column_beside empty c)

  column : lifted k c ≡ empty_column empty c
  column = lifted-new_column empty c

  row : lifted v r ≡ empty_row empty r
  row = lifted-new_row empty r

  o_bijection : IsBijection (suc n) h.o
  o_bijection = let P : ℕ → Type 0 = λ m. IsBijection m h.o in subst P one_more grid.o

  x_bijection : IsBijection (suc n) h.x
  x_bijection = let P : ℕ → Type 0 = λ m. IsBijection m h.x in subst P one_more grid.x

  before_bijection : IsBijection (suc n) before
  before_bijection = IsBijection-swap (suc n) h.x c (c + 1) (omega arith) (omega arith) x_bijection

  at_before : (i : ℕ) → slice_index before i ≡ slice_index h.x (exchanged c (c + 1) i)
  at_before i = let e = x_bijection.long in slice_index-swap h.x c (c + 1) i (omega arith) (omega arith)

  -- the O of the block
  pub o_of_block : slice_index h.o k ≡ v
  o_of_block = has.o

  -- and its X in the column of the O, once the X of the two columns are exchanged
  pub before_new : slice_index before k ≡ v
  before_new =
      at_before k ∙ ap (slice_index h.x) (exchanged-new c k (new_column_beside empty c) ∙ column) ∙ has.x_above

  before_old : slice_index before (lifted k c) ≡ lifted v r
  before_old =
      at_before (lifted k c) ∙ ap (slice_index h.x) (exchanged-beside c k (new_column_beside empty c)) ∙ has.x_beside
      ∙ sym row

  o_removed : IsBijection n g.o
  o_removed = IsBijection-removed n k v h.o one_more o_bijection k_within has.o

  x_removed : IsBijection n g.x
  x_removed = IsBijection-removed n k v before before_bijection.long before_bijection k_within before_new

  -- The X of column c is in row r.
  pub x-destabilised : slice_index g.x c ≡ r
  x-destabilised =
      at_removed n k v before before_bijection.long c c_below ∙ ap (lowered v) before_old ∙ lowered-lifted v r

  size-destabilised : size g ≡ n
  size-destabilised = length-removed n k v h.o one_more

  apart-destabilised : (d : ℕ) → d < n → slice_index g.o d ≢ slice_index g.x d
  apart-destabilised d l e =
      let of_o = HasNew-removed n k v h.o one_more o_bijection k_within has.o in
      let of_x = HasNew-removed n k v before before_bijection.long before_bijection k_within before_new in
      let same : slice_index h.o (lifted k d) ≡ slice_index before (lifted k d) =
      of_o.old d l ∙ ap (lifted v) e ∙ sym (of_x.old d l) in
      elim (cases_eq d c) [
        | inl is ↦
            has.no_o (ap (slice_index h.o) (sym column ∙ ap (lifted k) (sym is)) ∙ same
            ∙ ap (λ t. slice_index before (lifted k t)) is ∙ before_old ∙ row)
        | inr p ↦
            grid.apart (lifted k d) (let b = lifted_below n k d l in omega arith)
            (same ∙ at_before (lifted k d)
            ∙ ap (slice_index h.x) (exchanged-old c k d (new_column_beside empty c) p))
      ]

  -- There are three columns at least.
  pub three_columns : 3 ≤ size h
  three_columns =
      let e_below : empty_column empty c < suc n =
      subst (λ t. t < suc n) column (lifted_below n k c c_below) in
      third_row empty r (slice_index h.o (empty_column empty c)) (size h) has.no_o
      (λ e. o_bijection.apart (empty_column empty c) k e_below k_within
      (λ i. lifted_apart k c (column ∙ i)) (e ∙ sym has.o))
      (grid.o.small (empty_column empty c) (omega arith)) lr

  -- The grid that a block gives back is a grid: beside the rows of the block there is a third one.
  pub IsGrid-destabilised : IsGrid g
  IsGrid-destabilised =
      let back : n ≡ size g = sym size-destabilised in
      let greatest = grid.is_size.greatest in
      let three = three_columns in
      record {
        is_size = record { least = omega arith; greatest = omega arith };
        o = subst (λ m. IsBijection m g.o) back o_removed;
        x = subst (λ m. IsBijection m g.x) back x_removed;
        apart = λ d l. apart-destabilised d (omega arith);
      }

  -- The grid with the block is a stabilisation of it.
  pub stabilised-destabilised : stabilised g c empty ≡ h
  stabilised-destabilised =
      let is_o =
      ap (λ t. inserted k (new_row empty t) g.o) x-destabilised
      ∙ inserted-removed n k v h.o one_more o_bijection k_within has.o in
      let is_x =
      ap (λ t. swap (inserted k (new_row empty t) g.x) c (c + 1)) x-destabilised
      ∙ ap (λ rows. swap rows c (c + 1))
      (inserted-removed n k v before before_bijection.long before_bijection k_within before_new)
      ∙ swap-swap (suc n) h.x x_bijection c (c + 1) (omega arith) (omega arith) in
      λ i. record { o = is_o i; x = is_x i }
