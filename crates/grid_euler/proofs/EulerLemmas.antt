-- The alternating sums of the ranks of homology are the Euler numbers.
-- Route: a log of the grid complex that leaves no arrow keeps the signed count of the cells; what is left is counted by
-- the ranks, and each of its degrees is that of one row. All this is said of codes; the last lemma says it of states.
use Rattle.std.proofs.Common.{◌≡◌, ℕ, ◌<◌, Bool, true, false, if◌then◌else◌, List, Option, Some, None, is_some, refl, sym, ap, ◌∙◌, arith}
use Rattle.std.specs.Prelude.{nat_lt}
use Rattle.std.proofs.Math.IntN.{ℤ, pos}
use Rattle.std.proofs.lemmas.Bool.{ltb-true}
use Rattle.std.proofs.lemmas.Int.{ints}
use Rattle.f2_algebra.specs.Chain.{nothing}
use Rattle.f2_algebra.specs.Complex.{Complex, IsComplex}
use Rattle.f2_algebra.specs.Cancel.{Entry, IsLog, after}
use Rattle.f2_algebra.proofs.Ranks.Existence.{reduce, exists_rank, codes_below, any-codes_below, has_degree, has_degree-is}
use Rattle.f2_algebra.proofs.Ranks.OrderLemmas.{same_bidegree, same_bidegree-is}
use Rattle.state_rank.specs.States.{factorial, unrank}
use Rattle.torus_geom.specs.Degrees.{bidegree}
use Rattle.torus_geom.specs.Inner.GridComplex.{grid_complex}
use Rattle.torus_geom.specs.Homology.{IsHomologyTable, Row}
use Rattle.torus_geom.specs.Inner.CodeHomology.{IsHomologyTable as IsCodeTable}
use Rattle.torus_geom.specs.Marks.{Marks, size, IsGrid}
use Rattle.torus_geom.proofs.Sums.SumLemmas.{sum_below_same}
use Rattle.rectangles.proofs.Homology.HomologyLemmas.{homology_table-states}
use Rattle.rectangles.proofs.Law.GridComplexLemmas.{grid_complex_rules}
use Rattle.grid_euler.specs.Euler.{IsTableOf, euler_number, alternating_sum}
use Rattle.grid_euler.specs.declared.tables.EulerRow.{EulerRow}
use Rattle.grid_euler.proofs.StateSums.{euler_number-codes}
use Rattle.grid_euler.proofs.SignedCounts.{IsBelow, value_in, signed_count, signed_count-after, count-left}
use Rattle.grid_euler.proofs.TableSums.{value_at, value_at-up, in_rows, in_rows-member, sum-rows, count-positive}

-- the cells of the grid complex are the codes below n!
cells_below : (g : Marks) → IsBelow (grid_complex g) (factorial (size g))
cells_below g s live = ltb-true s (factorial (size g)) (of_state (nat_lt s (factorial (size g))) live)
  where
    of_state : (b : Bool) → is_some (if b then Some (bidegree g (unrank (size g) s)) else None) ≡ true → b ≡ true
    of_state true h = refl
    of_state false h = h

-- the Euler number is the signed count of the cells
euler_number-count : (g : Marks) (a : ℤ)
    → euler_number g a ≡ signed_count (value_at a) (factorial (size g)) (grid_complex g)
euler_number-count g a =
    euler_number-codes g a
    ∙ sum_below_same (factorial (size g)) _ _ (λ s within. ap (λ b. value_in (value_at a)
    (if b then Some (bidegree g (unrank (size g) s)) else None)) (sym (is_below s (factorial (size g)) within)))
  where
    is_below : (s n : ℕ) → s < n → nat_lt s n ≡ true
    is_below s n l = grind arith

module _ (g : Marks) (grid : IsGrid g) (rows : List Row) (table : IsCodeTable g rows) (a : ℤ) where
  abbrev C : Complex (ℤ × ℤ)
  C = grid_complex g

  abbrev n : ℕ
  n = factorial (size g)

  rules : IsComplex C
  rules = grid_complex_rules g grid

  -- what a log that leaves no arrow leaves has the degrees of the rows, as often as their ranks say
  sum-left : (log : List Entry) → IsLog C log → ((s : ℕ) → (after C log).targets s ≡ nothing)
      → alternating_sum rows a ≡ signed_count (value_at a) n (after C log)
  sum-left log stands bare =
      let D = after C log in
      sym (sum-rows n D.degree a rows table.ordered
      (λ row inside. count-left same_bidegree same_bidegree-is C rules n (cells_below g) log stands bare
      (row.0, row.1) row.2 (((table.complete row.0 row.1 row.2).0 inside).1)))
      ∙ sum_below_same n _ _ (λ s within. in_table s within (D.degree s) refl)
    where
      in_table : (s : ℕ) → s < n → (o : Option (ℤ × ℤ)) → (after C log).degree s ≡ o
          → (if in_rows rows o then value_in (value_at a) o else pos 0) ≡ value_in (value_at a) o
      in_table s within None e = none (in_rows rows None)
        where
          none : (b : Bool) → (if b then pos 0 else pos 0) ≡ pos 0
          none true = refl
          none false = refl
      in_table s within (Some d) e =
          let (k, rank) = exists_rank same_bidegree same_bidegree-is C rules (codes_below n)
          (λ t live. any-codes_below n t (cells_below g t live)) d in
          let counted = count-left same_bidegree same_bidegree-is C rules n (cells_below g) log stands bare d k rank in
          let (j, some) = count-positive n s (λ t. has_degree same_bidegree d ((after C log).degree t)) within
          ((has_degree-is same_bidegree same_bidegree-is d ((after C log).degree s)).1 e) in
          let positive : 0 < k = omega (arith, ints, counted, some) in
          ap (λ b. if b then value_at a d else pos 0)
          (in_rows-member rows d.0 d.1 k ((table.complete d.0 d.1 k).1 (positive, rank)))

  -- the alternating sum of the rows of the table at a is the Euler number at a
  euler_of_code_rows : alternating_sum rows a ≡ euler_number g a
  euler_of_code_rows =
      let (log, stands, bare) = reduce C rules (codes_below n) (λ t live. any-codes_below n t (cells_below g t live)) in
      sum-left log stands bare
      ∙ sym (signed_count-after (value_at a) n C rules (value_at-up a) (cells_below g) log stands)
      ∙ sym (euler_number-count g a)

-- the same of the table over states
pub euler_of_rows : (g : Marks) → IsGrid g → (rows : List Row) → IsHomologyTable g rows → (a : ℤ)
    → alternating_sum rows a ≡ euler_number g a
euler_of_rows g grid rows table a = euler_of_code_rows g grid rows ((homology_table-states g rows).1 table) a

-- equal functions have one table
pub IsTableOf-same : (f h : ℤ → ℤ) (rows : List EulerRow) → ((a : ℤ) → f a ≡ h a) → IsTableOf f rows → IsTableOf h rows
IsTableOf-same f h rows same t = record {
  descending = t.descending;
  complete = λ row. (
    λ k. let (other, is) = (t.complete row).0 k in (other, is ∙ same row.a),
    λ k. (t.complete row).1 (k.0, k.1 ∙ sym (same row.a)),
  );
}
