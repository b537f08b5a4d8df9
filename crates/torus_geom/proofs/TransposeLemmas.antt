-- The transposed grid is a grid.
use Rattle.std.proofs.Common.{◌≡◌, ◌≢◌, ℕ, ◌<◌, List, length, slice_index, refl, ap, ◌∙◌, sym, arith, subst}
use Rattle.state_rank.specs.Bijection.{IsBijection, IsSize, column_of}
use Rattle.state_rank.specs.States.{IsState, transpose}
use Rattle.state_rank.proofs.BijectionLemmas.{one_to_one, row-column_of, column_of-below, column_of-one_to_one}
use Rattle.torus_geom.specs.Marks.{Marks, size, IsGrid}
use Rattle.torus_geom.specs.Transposed.{transposed}
use Rattle.state_rank.proofs.OrderLemmas.{length-tabulate}
use Rattle.torus_geom.proofs.Sums.TabulateLemmas.{slice_index-tabulate}

pub length-transpose : (rows : List ℕ) → length (transpose rows) ≡ length rows
length-transpose rows = length-tabulate (length rows) (column_of (length rows) (slice_index rows))

pub slice_index-transpose : (n : ℕ) (rows : List ℕ) (r : ℕ) → length rows ≡ n → r < n
    → slice_index (transpose rows) r ≡ column_of n (slice_index rows) r
slice_index-transpose n rows r e l =
    slice_index-tabulate (length rows) (column_of (length rows) (slice_index rows)) r (omega arith)
    ∙ ap (λ m. column_of m (slice_index rows) r) e

pub IsBijection-transposed : (n : ℕ) (rows : List ℕ) → IsBijection n rows → IsBijection n (transpose rows)
IsBijection-transposed n rows b =
    let columns = column_of-one_to_one n (slice_index rows) (one_to_one n rows b) in
    record {
      long = length-transpose rows ∙ b.long;
      small = λ r l. let e = slice_index-transpose n rows r b.long l in let k = columns.small r l in omega arith;
      apart = λ r q lr lq p e. columns.apart r q lr lq p
          (sym (slice_index-transpose n rows r b.long lr) ∙ e ∙ slice_index-transpose n rows q b.long lq);
    }

pub IsGrid-transposed : (g : Marks) → IsGrid g → IsGrid (transposed g)
IsGrid-transposed g grid = record {
  is_size = let P : ℕ → Type 0 = IsSize in subst P (sym long) grid.is_size;
  o = let P : ℕ → Type 0 = λ n. IsBijection n (transpose g.o) in
      subst P (sym long) (IsBijection-transposed (size g) g.o grid.o);
  x = let P : ℕ → Type 0 = λ n. IsBijection n (transpose g.x) in
      subst P (sym long) (IsBijection-transposed (size g) g.x grid.x);
  apart = λ r l e. differ r (let k = long in omega arith) e;
}
  where
    long : size (transposed g) ≡ size g
    long = length-transpose g.o

    -- a column with both marks in row r would have them in one square
    differ : (r : ℕ) → r < size g → slice_index (transpose g.o) r ≢ slice_index (transpose g.x) r
    differ r l e =
        let o_one = one_to_one (size g) g.o grid.o in
        let x_one = one_to_one (size g) g.x grid.x in
        let same : column_of (size g) (slice_index g.o) r ≡ column_of (size g) (slice_index g.x) r =
        sym (slice_index-transpose (size g) g.o r refl l) ∙ e ∙ slice_index-transpose (size g) g.x r grid.x.long l in
        grid.apart (column_of (size g) (slice_index g.o) r) (column_of-below (size g) (slice_index g.o) o_one r l)
        (row-column_of (size g) (slice_index g.o) o_one r l ∙ sym (row-column_of (size g) (slice_index g.x) x_one r l)
        ∙ ap (slice_index g.x) (sym same))

-- the transposed marks, from those of each kind
pub transposed_marks : (g h : Marks) (o x : List ℕ) → h ≡ g → o ≡ transpose h.o → x ≡ transpose h.x
    → record { o = o; x = x } ≡ transposed g
transposed_marks g h o x e at_o at_x = (λ i. record { o = at_o i; x = at_x i }) ∙ ap transposed e

-- the column of a row has its mark there, if the rows were read from a state
pub marked : (rows x marks : List ℕ) (r column : ℕ) → IsState x → rows ≡ x → x ≡ marks → r < length marks
    → column ≡ column_of (length rows) (slice_index rows) r → slice_index marks column ≡ r
marked rows x marks r column state e f l at =
    let long = ap length f in
    ap (slice_index marks) (at ∙ ap (λ y. column_of (length y) (slice_index y) r) e)
    ∙ sym (ap (λ y. slice_index y (column_of (length x) (slice_index x) r)) f)
    ∙ row-column_of (length x) (slice_index x) (one_to_one (length x) x state.bijection) r (omega arith)
