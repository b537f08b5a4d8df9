-- The product of a table and a power of 1 + q^-1 t^-1, put into a map from bidegrees to ranks.
use Rattle.std.proofs.Common.{◌≡◌, ℕ, ◌+◌, ◌^◌, ◌<◌, ◌≤◌, ℤ, pos, Bool, true, false, cond, List, length, map, get_or, All, Option, Some, None, inl, inr, refl, sym, ap, subst, ◌∙◌, arith}
use Rattle.std.specs.Prelude.{◌-ℤ◌}
use Rattle.std.specs.Map.{lookup}
use Rattle.std.specs.Option.{unwrap_or, IfSome}
use Rattle.std.specs.Ordering.{is_eq}
use Rattle.std.specs.BTreeMap as tree
use Rattle.std.proofs.lemmas.Bool.{cases_eq, cases_lt}
use Rattle.std.proofs.lemmas.List.{get_or_default}
use Rattle.std.proofs.lemmas.List.Elements.{Contains-get_or}
use Rattle.gradings.specs.Degrees.{bidegree_cmp}
use Rattle.gradings.specs.declared.degrees.Bidegree.{Bidegree}
use Rattle.gradings.proofs.OrderLemmas.{bidegree_cmp_exact}
use Rattle.hat_division.specs.Table.{AreOrdered, IsTable}
use Rattle.hat_division.specs.Product.{product_rank, IsProduct}
use Rattle.hat_division.specs.RankMaps.{bidegree_key, Ranks, rank_in, row_of}
use Rattle.hat_division.specs.Inner.Products.{IsRankOfProduct, IsPartOfProduct, AreShiftsPut, AreRowsPut}
use Rattle.hat_division.specs.declared.tables.TableRow.{TableRow}
use Rattle.hat_division.proofs.ProductLemmas.{product-step, product_rank-small}
use Rattle.hat_division.proofs.RankMapLemmas.{is_equal, key_itself, rows-ordered, entry_of, rank_at-rows}
use Rattle.hat_division.proofs.WordLemmas.{IfSome-value}

-- ---- a rank is put into a map
module _ (old new : Ranks) (m a : ℤ) (rank : ℕ)
    (adds : (q : Bidegree) → tree.get bidegree_cmp new q
    ≡ cond (is_eq (bidegree_cmp (bidegree_key (m, a)) q)) (Some rank) (tree.get bidegree_cmp old q))
    (positive : 1 ≤ rank) where
  put-there : 0 < rank_in new a m
  put-there =
      let is : rank_in new a m ≡ rank =
      ap (λ o. unwrap_or o 0) (adds (bidegree_key (m, a))
      ∙ ap (λ b. cond b (Some rank) (tree.get bidegree_cmp old (bidegree_key (m, a))))
      (key_itself (bidegree_key (m, a)))) in
      omega arith

  put-above : (x y : ℤ) → 0 < rank_in old y x → 0 < rank_in new y x
  put-above x y taken =
      subst (λ o. 0 < unwrap_or o 0) (sym (adds (bidegree_key (x, y))))
      (by (is_eq (bidegree_cmp (bidegree_key (m, a)) (bidegree_key (x, y)))))
    where
      by : (t : Bool) → 0 < unwrap_or (cond t (Some rank) (tree.get bidegree_cmp old (bidegree_key (x, y)))) 0
      by true = omega arith
      by false = taken

  put-part : (k : ℕ) (rows : List TableRow) → rank ≡ product_rank k rows m a → IsPartOfProduct k rows old
      → IsPartOfProduct k rows new
  put-part k rows is part x y =
      subst (λ o. IfSome o (IsRankOfProduct k rows x y)) (sym (adds (bidegree_key (x, y))))
      (by (is_eq (bidegree_cmp (bidegree_key (m, a)) (bidegree_key (x, y)))) refl)
    where
      by : (t : Bool) → is_eq (bidegree_cmp (bidegree_key (m, a)) (bidegree_key (x, y))) ≡ t
          → IfSome (cond t (Some rank) (tree.get bidegree_cmp old (bidegree_key (x, y)))) (IsRankOfProduct k rows x y)
      by true e =
          let same : bidegree_key (m, a) ≡ bidegree_key (x, y) =
          bidegree_cmp_exact (bidegree_key (m, a)) (bidegree_key (x, y))
          (is_equal (bidegree_cmp (bidegree_key (m, a)) (bidegree_key (x, y))) e) in
          (omega arith, is ∙ ap (λ (q : Bidegree). product_rank k rows q.m q.a) same)
      by false e = part x y

-- ---- the ranks below one row
pub shifts-none : (k : ℕ) (rows : List TableRow) (row : TableRow) (old : Ranks) → IsPartOfProduct k rows old
    → AreShiftsPut k rows row 0 old old
shifts-none k rows row old part =
    record { part = part; stays = λ m a taken. taken; there = λ i l. absurd (omega arith) }

pub shifts-more : (k : ℕ) (rows : List TableRow) (row : TableRow) (n : ℕ) (old now new : Ranks) (m a : ℤ) (rank : ℕ)
    → m ≡ row.m -ℤ pos n → a ≡ row.a -ℤ pos n → rank ≡ product_rank k rows m a → 1 ≤ rank
    → ((q : Bidegree) → tree.get bidegree_cmp new q
    ≡ cond (is_eq (bidegree_cmp (bidegree_key (m, a)) q)) (Some rank) (tree.get bidegree_cmp now q))
    → AreShiftsPut k rows row n old now → AreShiftsPut k rows row (n + 1) old new
shifts-more k rows row n old now new m a rank em ea is positive adds so_far = record {
  part = put-part now new m a rank adds positive k rows is so_far.part;
  stays = λ x y taken. put-above now new m a rank adds positive x y (so_far.stays x y taken);
  there = λ i l. elim (cases_eq i n) [
    | inl e ↦
        let place : rank_in new a m ≡ rank_in new (row.a -ℤ pos i) (row.m -ℤ pos i) =
        λ t. rank_in new ((ea ∙ ap (λ o. row.a -ℤ pos o) (sym e)) t) ((em ∙ ap (λ o. row.m -ℤ pos o) (sym e)) t) in
        omega (arith, put-there now new m a rank adds positive)
    | inr other ↦
        put-above now new m a rank adds positive (row.m -ℤ pos i) (row.a -ℤ pos i) (so_far.there i (omega arith))
  ];
}

-- ---- the ranks below all rows
pub rows-none : (k : ℕ) (rows : List TableRow) (part : Ranks) → tree.IsEmpty part → AreRowsPut k rows 0 part
rows-none k rows part empty = record {
  so_far = λ m a. subst (λ o. IfSome o (IsRankOfProduct k rows m a))
      (sym (ap (λ es. lookup (tree.is_at (bidegree_cmp (bidegree_key (m, a)))) es) empty)) tt;
  there = λ j d i l. absurd (omega arith);
}

pub rows-more : (k : ℕ) (rows : List TableRow) (n : ℕ) (e : TableRow) (old new : Ranks) → n < length rows
    → AreRowsPut k rows n old → AreShiftsPut k rows (get_or rows n e) (k + 1) old new → AreRowsPut k rows (n + 1) new
rows-more k rows n e old new within so_far shifts = record {
  so_far = shifts.part;
  there = λ j d i l le. elim (cases_eq j n) [
    | inl is ↦
        let row : get_or rows j d ≡ get_or rows n e = ap (λ o. get_or rows o d) is ∙ get_or_default rows n d e within in
        subst (λ r. 0 < rank_in new (r.a -ℤ pos i) (r.m -ℤ pos i)) (sym row) (shifts.there i (omega arith))
    | inr other ↦
        shifts.stays ((get_or rows j d).m -ℤ pos i) ((get_or rows j d).a -ℤ pos i)
        (so_far.there j d i (omega arith) le)
  ];
}

-- all ranks of the product are put
pub rows-product : (k : ℕ) (rows : List TableRow) (part : Ranks) → AreRowsPut k rows (length rows) part
    → tree.IsOrdered bidegree_cmp part → IsProduct k rows (map row_of part.entries)
rows-product k rows part all ordered m a =
    rank_at-rows part ordered m a
    ∙ by (tree.get bidegree_cmp part (bidegree_key (m, a))) refl (all.so_far m a)
  where
    missed : 0 < product_rank k rows m a → rank_in part a m ≡ 0 → ⊥
    missed positive none =
        let t = product-step k rows m a positive in
        let d : TableRow = record { m = m; a = a; rank = 0 } in
        let at = t.4 d in
        let place : rank_in part ((get_or rows t.2 d).a -ℤ pos t.0) ((get_or rows t.2 d).m -ℤ pos t.0)
        ≡ rank_in part a m = λ i. rank_in part (at.1 i) (at.0 i) in
        omega (arith, all.there t.2 d t.0 t.3 t.1)

    by : (o : Option ℕ) → tree.get bidegree_cmp part (bidegree_key (m, a)) ≡ o → IfSome o (IsRankOfProduct k rows m a)
        → unwrap_or o 0 ≡ product_rank k rows m a
    by (Some d) found held = held.1
    by None none held = elim (cases_lt 0 (product_rank k rows m a)) [
      | inl positive ↦ absurd (missed positive (ap (λ o. unwrap_or o 0) none))
      | inr l ↦ omega arith
    ]

-- and their rows are a table
pub rows-table : (k : ℕ) (rows : List TableRow) (part : Ranks) → k ≤ 16 → AreOrdered rows
    → All (λ row. row.rank ≤ 2 ^ 32) rows → IsPartOfProduct k rows part → tree.IsOrdered bidegree_cmp part
    → IsTable (map row_of part.entries)
rows-table k rows part l ordered small held sorted = record {
  ordered = rows-ordered part.entries sorted;
  ranks = λ i d within.
      let row = get_or (map row_of part.entries) i d in
      let found = entry_of part sorted row (Contains-get_or (map row_of part.entries) i d within) in
      let has =
      IfSome-value (IsRankOfProduct k rows row.m row.a)
      (tree.get bidegree_cmp part (bidegree_key (row.m, row.a))) row.rank
      found (held row.m row.a) in
      record {
        positive = omega (arith, has.0);
        bounded = omega (arith, has.1, product_rank-small k rows row.m row.a l ordered small);
      };
}
