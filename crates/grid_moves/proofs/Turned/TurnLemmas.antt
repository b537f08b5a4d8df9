-- A turned grid is a grid, and its marks column by column.
use Rattle.std.proofs.Common.{◌≡◌, ◌≢◌, ℕ, ◌<◌, ◌≤◌, List, take, set, length, ◌+◌, slice_index, ap, ◌∙◌, sym, arith, inl, inr}
use Rattle.std.proofs.lemmas.List.{length-take-le, get_or-take, length-set, get_or-set_same, get_or-set_other}
use Rattle.std.proofs.lemmas.Bool.{cases_eq}
use Rattle.state_rank.specs.declared.TheConstants.{MAX_SIZE}
use Rattle.state_rank.specs.Bijection.{IsBijection}
use Rattle.state_rank.proofs.BijectionLemmas.{IsOneToOne, same_list}
use Rattle.torus_geom.specs.Marks.{Marks, size, IsGrid}
use Rattle.state_rank.proofs.OrderLemmas.{length-tabulate}
use Rattle.torus_geom.proofs.Sums.TabulateLemmas.{slice_index-tabulate}
use Rattle.grid_moves.specs.Moves.{source_column, moved_row, turned_rows, turned}
use Rattle.grid_moves.specs.declared.turns.Side.{Side}
use Rattle.grid_moves.specs.declared.turns.Side.TheVariants.{Left, Right, Up, Down}
use Rattle.torus_geom.proofs.Circles.TurnLemmas.{one_up_one, one_down_one}

same_number : (n : ℕ) → IsOneToOne n (λ c. c)
same_number n = record { small = λ c l. l; apart = λ b c lb lc p. p }

pub source_column-one_to_one : (side : Side) (n : ℕ) → IsOneToOne n (source_column side n)
source_column-one_to_one Left n = one_up_one n
source_column-one_to_one Right n = one_down_one n
source_column-one_to_one Up n = same_number n
source_column-one_to_one Down n = same_number n

pub moved_row-one_to_one : (side : Side) (n : ℕ) → IsOneToOne n (moved_row side n)
moved_row-one_to_one Left n = same_number n
moved_row-one_to_one Right n = same_number n
moved_row-one_to_one Up n = one_up_one n
moved_row-one_to_one Down n = one_down_one n

pub length-turned_rows : (side : Side) (n : ℕ) (rows : List ℕ) → length (turned_rows side n rows) ≡ n
length-turned_rows side n rows = length-tabulate n (λ c. moved_row side n (slice_index rows (source_column side n c)))

pub slice_index-turned_rows : (side : Side) (n : ℕ) (rows : List ℕ) (c : ℕ) → c < n
    → slice_index (turned_rows side n rows) c ≡ moved_row side n (slice_index rows (source_column side n c))
slice_index-turned_rows side n rows c l =
    slice_index-tabulate n (λ d. moved_row side n (slice_index rows (source_column side n d))) c l

pub IsBijection-turned_rows : (side : Side) (n : ℕ) (rows : List ℕ) → IsBijection n rows
    → IsBijection n (turned_rows side n rows)
IsBijection-turned_rows side n rows b = record {
  long = length-turned_rows side n rows;
  small = λ c l. let e = at c l in let k = value c l in omega arith;
  apart = λ c d lc ld p e.
      (moved_row-one_to_one side n).apart (slice_index rows (source_column side n c))
      (slice_index rows (source_column side n d))
      (b.small _ (sources.small c lc)) (b.small _ (sources.small d ld))
      (b.apart _ _ (sources.small c lc) (sources.small d ld) (sources.apart c d lc ld p))
      (sym (at c lc) ∙ e ∙ at d ld);
}
  where
    sources : IsOneToOne n (source_column side n)
    sources = source_column-one_to_one side n

    at : (c : ℕ) → c < n
        → slice_index (turned_rows side n rows) c ≡ moved_row side n (slice_index rows (source_column side n c))
    at c l = slice_index-turned_rows side n rows c l

    value : (c : ℕ) → c < n → moved_row side n (slice_index rows (source_column side n c)) < n
    value c l = (moved_row-one_to_one side n).small _ (b.small _ (sources.small c l))

pub IsGrid-turned : (side : Side) (g : Marks) → IsGrid g → IsGrid (turned side g)
IsGrid-turned side g grid = record {
  is_size = rw long grid.is_size;
  o = rw long (IsBijection-turned_rows side (size g) g.o grid.o);
  x = rw long (IsBijection-turned_rows side (size g) g.x grid.x);
  apart = λ c l e. differ c (let k = long in omega arith) e;
}
  where
    long : size (turned side g) ≡ size g
    long = length-turned_rows side (size g) g.o

    differ : (c : ℕ) → c < size g → slice_index (turned side g).o c ≢ slice_index (turned side g).x c
    differ c l e =
        let sources = source_column-one_to_one side (size g) in
        let below = sources.small c l in
        (moved_row-one_to_one side (size g)).apart _ _ (grid.o.small _ below) (grid.x.small _ below)
        (grid.apart _ below)
        (sym (slice_index-turned_rows side (size g) g.o c l) ∙ e ∙ slice_index-turned_rows side (size g) g.x c l)

-- the first k elements of an array are those of the turned rows
pub record HasTurned (side : Side) (n : ℕ) (rows into : List ℕ) (k : ℕ) : Type 0 where
  pub long : length into ≡ MAX_SIZE
  pub each : (c : ℕ) → c < k → slice_index into c ≡ moved_row side n (slice_index rows (source_column side n c))

-- one more column
pub HasTurned-more : (side : Side) (n : ℕ) (rows into : List ℕ) (k v : ℕ) → HasTurned side n rows into k → k < MAX_SIZE
    → v ≡ moved_row side n (slice_index rows (source_column side n k)) → HasTurned side n rows (set into k v) (k + 1)
HasTurned-more side n rows into k v h room e = record {
  long = length-set into k v ∙ h.long;
  each = λ c l. elim (cases_eq c k) [
    | inl i ↦
        ap (slice_index (set into k v)) i ∙ get_or-set_same into k v 0 (let m = h.long in omega arith) ∙ e
        ∙ ap (λ d. moved_row side n (slice_index rows (source_column side n d))) (sym i)
    | inr p ↦ get_or-set_other into k c v 0 p ∙ h.each c (omega arith)
  ];
}

-- all n of them make the list
pub take-turned : (side : Side) (n : ℕ) (rows into : List ℕ) → n ≤ MAX_SIZE → HasTurned side n rows into n
    → take n into ≡ turned_rows side n rows
take-turned side n rows into fits h =
    same_list n (take n into) (turned_rows side n rows) (length-take-le n into (let m = h.long in omega arith))
    (length-turned_rows side n rows)
    (λ c l. get_or-take n into c 0 l ∙ h.each c l ∙ sym (slice_index-turned_rows side n rows c l))

-- if both arrays have all columns, they begin with the marks of the turned grid
pub take-turned_marks : (side : Side) (g : Marks) (o x : List ℕ) (n k : ℕ) → IsGrid g → n ≡ size g → n ≤ k
    → HasTurned side n g.o o k → HasTurned side n g.x x k → record { o = take n o; x = take n x } ≡ turned side g
take-turned_marks side g o x n k grid e far ho hx =
    (λ i. record {
      o = take-turned side n g.o o small (first g.o o ho) i;
      x = take-turned side n g.x x small (first g.x x hx) i;
    })
    ∙ ap (λ m. record { o = turned_rows side m g.o; x = turned_rows side m g.x }) e
  where
    small : n ≤ MAX_SIZE
    small = let m = grid.is_size.greatest in omega arith

    first : (rows into : List ℕ) → HasTurned side n rows into k → HasTurned side n rows into n
    first rows into h = record { long = h.long; each = λ c l. h.each c (omega arith) }
