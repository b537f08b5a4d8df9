-- A grid with two columns exchanged is a grid.
use Rattle.std.proofs.Common.{◌≡◌, ℕ, ◌<◌, List, swap, ap, ◌∙◌, sym, arith, subst}
use Rattle.std.proofs.lemmas.List.Edits.{length-swap}
use Rattle.state_rank.specs.Bijection.{IsBijection, IsSize}
use Rattle.state_rank.proofs.SwapLemmas.{IsBijection-swap, slice_index-swap, exchanged, exchanged_below}
use Rattle.torus_geom.specs.Marks.{Marks, size, IsGrid}
use Rattle.torus_geom.specs.Range.{one_down}
use Rattle.grid_moves.specs.Moves.{swapped_columns}
use Rattle.torus_geom.proofs.Circles.TurnLemmas.{one_down_below}

pub IsGrid-swapped_columns : (g : Marks) (c : ℕ) → IsGrid g → c < size g → IsGrid (swapped_columns g c)
IsGrid-swapped_columns g c grid l = record {
  is_size = let P : ℕ → Type 0 = IsSize in subst P (sym long) grid.is_size;
  o = let P : ℕ → Type 0 = λ n. IsBijection n (swap g.o b c) in
      subst P (sym long) (IsBijection-swap (size g) g.o b c below l grid.o);
  x = let P : ℕ → Type 0 = λ n. IsBijection n (swap g.x b c) in
      subst P (sym long) (IsBijection-swap (size g) g.x b c below l grid.x);
  apart = λ d k e.
      let m = exchanged_below (size g) b c d below l (let h = long in omega arith) in
      grid.apart (exchanged b c d) m
      (sym (slice_index-swap g.o b c d below l) ∙ e
      ∙ slice_index-swap g.x b c d (let h = grid.x.long in omega arith) (let h = grid.x.long in omega arith));
}
  where
    b : ℕ
    b = one_down (size g) c

    below : b < size g
    below = one_down_below (size g) c l

    long : size (swapped_columns g c) ≡ size g
    long = length-swap g.o b c

-- the exchanged states of the marks
pub swapped_marks : (g : Marks) (c n b : ℕ) (o x o_rows x_rows : List ℕ) → n ≡ size g → b ≡ one_down n c → o_rows ≡ g.o
    → x_rows ≡ g.x
    → o ≡ swap o_rows b c → x ≡ swap x_rows b c → record { o = o; x = x } ≡ swapped_columns g c
swapped_marks g c n b o x o_rows x_rows e before is_o is_x eo ex =
    (λ i. record { o = eo i; x = ex i })
    ∙ (λ i. record { o = swap (is_o i) b c; x = swap (is_x i) b c })
    ∙ ap (λ k. record { o = swap g.o k c; x = swap g.x k c }) (before ∙ ap (λ m. one_down m c) e)
