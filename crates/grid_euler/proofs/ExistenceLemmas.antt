-- Each grid has a table of its Euler numbers.
use Rattle.std.proofs.Common.{◌≡◌, ◌≢◌, ℕ, zero, suc, ◌+◌, Bool, true, false, List, [], ◌∷◌, ◌++◌, get_or, refl, sym, subst, ◌∙◌, arith}
use Rattle.std.proofs.Math.IntN.{ℤ, pos}
use Rattle.std.proofs.lemmas.Bool.{false≢true}
use Rattle.std.proofs.lemmas.Bool.Decides.{Decides-int_eq}
use Rattle.std.specs.Ordering.{int_eq}
use Rattle.state_rank.specs.Bijection.{tabulate}
use Rattle.state_rank.specs.States.{factorial, unrank}
use Rattle.state_rank.proofs.OrderLemmas.{get_or-tabulate, length-tabulate}
use Rattle.state_rank.proofs.RankLemmas.{IsBijection-unrank}
use Rattle.torus_geom.specs.Marks.{Marks, size, IsGrid}
use Rattle.gradings.proofs.TableLemmas.{alexander_small}
use Rattle.grid_euler.specs.declared.tables.EulerRow.{EulerRow}
use Rattle.grid_euler.specs.Euler.{euler_number, IsTableOf, IsEulerTable}
use Rattle.grid_euler.specs.Inner.Sums.{places, degree_at, AreSums, Vanishes, ArePut}
use Rattle.grid_euler.proofs.PlaceLemmas.{put_none, put_row, put_skipped, put_all}
use Rattle.grid_euler.proofs.SumLemmas.{euler_number-vanishes}

-- the rows of the numbers before a place
rows_before : (sums : List ℤ) (k : ℕ) → (rows : List EulerRow) × ArePut sums k rows
rows_before sums zero = ([], put_none sums)
rows_before sums (suc k) =
    let (rows, put) = rows_before sums k in
    by rows put (int_eq (get_or sums k (pos 0)) (pos 0)) refl
  where
    next : k + 1 ≡ suc k
    next = omega arith

    new : EulerRow
    new = record { a = degree_at k; value = get_or sums k (pos 0) }

    by : (rows : List EulerRow) → ArePut sums k rows → (b : Bool) → int_eq (get_or sums k (pos 0)) (pos 0) ≡ b
        → (rows : List EulerRow) × ArePut sums (suc k) rows
    by rows put true e = (
      rows,
      subst (λ n. ArePut sums n rows) next
          (put_skipped sums k rows put ((Decides-int_eq (get_or sums k (pos 0)) (pos 0)).0 e)),
    )
    by rows put false e =
        let some : get_or sums k (pos 0) ≢ pos 0 =
        λ none. false≢true (sym e ∙ (Decides-int_eq (get_or sums k (pos 0)) (pos 0)).1 none) in (
          rows ++ new ∷ [],
          subst (λ n. ArePut sums n (rows ++ new ∷ [])) next
              (put_row sums k rows put new refl refl some),
        )

-- the rows of a function that is 0 at all great degrees
exists_table : (f : ℤ → ℤ) → Vanishes f → (rows : List EulerRow) × IsTableOf f rows
exists_table f none =
    let sums = tabulate places (λ k. f (degree_at k)) in
    let are : AreSums f (tabulate places (λ k. f (degree_at k))) = record {
      long = length-tabulate places (λ k. f (degree_at k));
      value = λ k l. get_or-tabulate places (λ k. f (degree_at k)) k (pos 0) l;
    } in
    let (rows, put) = rows_before (tabulate places (λ k. f (degree_at k))) places in
    (rows, put_all (tabulate places (λ k. f (degree_at k))) places refl rows put f are none)

-- each grid has its Euler numbers
pub exists_euler_table : (g : Marks) → IsGrid g → (rows : List EulerRow) × IsEulerTable g rows
exists_euler_table g grid =
    exists_table (euler_number g) (euler_number-vanishes g (factorial (size g)) refl
    (λ code within. alexander_small g grid (unrank (size g) code) (IsBijection-unrank (size g) code within)))
