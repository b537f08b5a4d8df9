-- How large the degrees of a state can be, and the order of bidegrees.
--     greatest_degree      1,000: no degree of a state is above it, nor below its negative
--     IsSmallDegree d      d is from -1,000 to 1,000
--     bidegree_cmp d e     the order of bidegrees, as in a table: less if the Alexander degree of d is higher, or that
--                          is the same and its Maslov degree is higher
use Rattle.std.specs.Prelude.{ℤ, pos, neg_ℤ, ◌≤ℤ◌}
use Rattle.std.specs.Ordering.{int_cmp, on, flip_args, then_cmp}
use Rattle.std.specs.declared.cmp.Ordering.{Ordering}
use Rattle.gradings.specs.declared.degrees.Bidegree.{Bidegree}

abbrev pub greatest_degree : ℤ
greatest_degree = pos 1000

pub record IsSmallDegree (d : ℤ) : Type 0 where
  pub low : neg_ℤ greatest_degree ≤ℤ d
  pub high : d ≤ℤ greatest_degree

abbrev pub bidegree_cmp : Bidegree → Bidegree → Ordering
bidegree_cmp = then_cmp (flip_args (on (λ d. d.a) int_cmp)) (flip_args (on (λ d. d.m) int_cmp))
