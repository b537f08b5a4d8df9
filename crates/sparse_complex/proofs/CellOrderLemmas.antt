-- The order of the cells.
use Rattle.std.proofs.Common.{◌≡◌, inr, inl, false, ◌⊎◌, ◌&&◌, not, ltb, slice_index_or, ℕ, ℤ, ◌+◌, ◌<◌, List, ap, ◌∙◌, sym, arith, ◌<ℤ◌}
use Rattle.std.proofs.lemmas.Bool.{cases_order, lt-ltb, le-ltb, false≢true}
use Rattle.std.specs.List.Sorted.{IsSortedBy, IsStableBy}
use Rattle.std.specs.Ordering.{int_cmp, is_lt}
use Rattle.std.specs.Cmp.{int_cmp_is}
use Rattle.std.specs.declared.cmp.Ordering.TheVariants.{Less, Equal}
use Rattle.std.proofs.lemmas.Cmp.{int_cmp_total}
use Rattle.std.proofs.lemmas.List.Sorted.{ties_stay_sorted}
use Rattle.std.proofs.lemmas.List.MinMax.{IsStrictWeakOrder-by_number, ranks_by}
use Rattle.std.proofs.Math.IntN.{pos, negsuc}
use Rattle.std.proofs.lemmas.Int.{ints}
use Rattle.f2_algebra.specs.Complex.{Complex}
use Rattle.sparse_complex.specs.declared.slices.Cell.{Cell}
use Rattle.sparse_complex.specs.Inner.Built.{AreCells}
use Rattle.sparse_complex.specs.Inner.Visits.{AreFirstCells, IsAscending}
use Rattle.sparse_complex.proofs.BuildLemmas.{cells-apart}

int_order : (m n : ℤ) → (m <ℤ n) ⊎ ((m ≡ n) ⊎ (n <ℤ m))
int_order (pos a) (pos b) = elim (cases_order a b) [
  | inl e ↦ inr (inl (ap pos e))
  | inr o ↦ elim o [ inl l ↦ inl (omega (arith, ints)) | inr l ↦ inr (inr (omega (arith, ints))) ]
]
int_order (pos a) (negsuc b) = inr (inr (omega (arith, ints)))
int_order (negsuc a) (pos b) = inl (omega (arith, ints))
int_order (negsuc a) (negsuc b) = elim (cases_order a b) [
  | inl e ↦ inr (inl (ap negsuc e))
  | inr o ↦ elim o [ inl l ↦ inr (inr (omega (arith, ints))) | inr l ↦ inl (omega (arith, ints)) ]
]

-- a stable sort by Maslov degree of cells in the order of their codes
pub ascending-sorted : (D : Complex ℤ) (n : ℕ) (xs ys : List Cell) → AreFirstCells D n xs → AreCells D n ys
    → IsSortedBy (λ x y. is_lt (int_cmp x.maslov y.maslov)) ys
    → IsStableBy (λ x y. is_lt (int_cmp x.maslov y.maslov)) xs ys → IsAscending ys
ascending-sorted D n xs ys first cells sorted stable k d l =
    elim (int_order (slice_index_or ys k d).maslov (slice_index_or ys (k + 1) d).maslov) [
      | inl less ↦ inl less
      | inr o ↦ elim o [
        | inl same ↦
            let e = int_cmp_is (slice_index_or ys k d).maslov (slice_index_or ys (k + 1) d).maslov Equal same in
            let f = int_cmp_is (slice_index_or ys (k + 1) d).maslov (slice_index_or ys k d).maslov Equal (sym same) in
            let stays = ties_stay_sorted (λ x y. ltb x.code y.code) (λ x y. is_lt (int_cmp x.maslov y.maslov))
            (IsStrictWeakOrder-by_number (λ (x : Cell). x.code)) (ranks_by int_cmp_total (λ (x : Cell). x.maslov)) xs ys
            (λ j c low m. le-ltb (slice_index_or xs (j + 1) c).code (slice_index_or xs j c).code
            (let h = first.rising j c m in omega arith)) stable k d l
            ((λ i. not (is_lt (sym e i)) && not (is_lt (sym f i)))) in
            inr (same, apart stays)
        | inr more ↦
            let e = int_cmp_is (slice_index_or ys (k + 1) d).maslov (slice_index_or ys k d).maslov Less more in
            absurd (false≢true (sym (sorted k d (omega arith) l) ∙ ap is_lt (sym e)))
      ]
    ]
  where
    apart : ltb (slice_index_or ys (k + 1) d).code (slice_index_or ys k d).code ≡ false
        → (slice_index_or ys k d).code < (slice_index_or ys (k + 1) d).code
    apart h = elim (cases_order (slice_index_or ys k d).code (slice_index_or ys (k + 1) d).code) [
      | inl e ↦ absurd (cells-apart D n ys cells k (k + 1) d (omega arith) l e)
      | inr o ↦ elim o [
        | inl low ↦ low
        | inr high ↦ absurd (false≢true
            (sym h ∙ lt-ltb (slice_index_or ys (k + 1) d).code (slice_index_or ys k d).code high))
      ]
    ]
