-- Transposing twice is nothing.
use Rattle.std.proofs.Common.{List, ap, refl, slice_index, sym, ℕ, ◌<◌, ◌∙◌, ◌≡◌}
use Rattle.state_rank.proofs.BijectionLemmas.{column_of-is, one_to_one, same_list}
use Rattle.state_rank.specs.Bijection.{IsBijection}
use Rattle.state_rank.specs.States.{transpose}
use Rattle.torus_geom.proofs.TransposeLemmas.{IsBijection-transposed, length-transpose, slice_index-transpose}
use Rattle.torus_geom.specs.Marks.{IsGrid, Marks, size}
use Rattle.torus_geom.specs.Transposed.{transposed}
use Rattle.grid_moves.proofs.Turned.CarriedChains.{AreInverse}

-- the column of the row of column c is c
pub transpose-at : (n : ℕ) (x : List ℕ) → IsBijection n x → (c : ℕ) → c < n
    → slice_index (transpose x) (slice_index x c) ≡ c
transpose-at n x sx c l = slice_index-transpose n x (slice_index x c) sx.long (sx.small c l)
    ∙ column_of-is n (slice_index x) (one_to_one n x sx) c (slice_index x c) l refl

-- Transposing twice is nothing.
pub transpose-transpose : (n : ℕ) (x : List ℕ) → IsBijection n x → transpose (transpose x) ≡ x
transpose-transpose n x sx =
    let su = IsBijection-transposed n x sx in
    same_list n (transpose (transpose x)) x (IsBijection-transposed n (transpose x) su).long sx.long (λ c l.
    ap (slice_index (transpose (transpose x))) (sym (transpose-at n x sx c l))
    ∙ transpose-at n (transpose x) su (slice_index x c) (sx.small c l))

-- the same of grids
pub transposed-transposed : (g : Marks) → IsGrid g → transposed (transposed g) ≡ g
transposed-transposed g s =
    λ i. record { o = transpose-transpose (size g) g.o s.o i; x = transpose-transpose (size g) g.x s.x i }

pub size-transposed : (g : Marks) → size (transposed g) ≡ size g
size-transposed g = length-transpose g.o

-- transposing undoes itself
pub transpose_AreInverse : (n : ℕ) → AreInverse n transpose transpose
transpose_AreInverse n =
    record {
      kept = IsBijection-transposed n;
      kept_back = IsBijection-transposed n;
      undone = transpose-transpose n;
      redone = transpose-transpose n;
    }
