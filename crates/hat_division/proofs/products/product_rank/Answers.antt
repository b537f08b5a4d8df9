-- One term after the other.
use Rattle.std.proofs.Common.{◌≡◌, ◌+◌, ◌*◌, ◌/◌, ◌^◌, ◌≤◌, ℤ, suc, pos, ◌+ℤ◌, sym, ap, ◌∙◌, arith}
use Rattle.std.proofs.lemmas.Int.{to_z-of_z}
use Rattle.std.proofs.lemmas.Nat.{mul-le}
use mir.Syntax.{w32}
use mir.Val.{to_z, of_z}
use Rattle.hat_division.specs.Product.{rank_at, sum_first}
use Rattle.hat_division.proofs.SumLemmas.{sum_first-zero, sum_first-suc, binomial-none}
use Rattle.hat_division.proofs.ProductLemmas.{product_term, product_rank-sum}
use Rattle.hat_division.proofs.WordLemmas.{rank_up, coefficient-next, coefficient-small, term-small}
use Rattle.hat_division.proofs.products.product_rank.Goals as goal

pub loop-i-init : goal.loop-i-init
loop-i-init c = record {
  sum = sym (sum_first-zero (product_term c.args.k c.args.rows.now (to_z w32 (of_z w32 c.args.m))
      (to_z w32 (of_z w32 c.args.a))));
  bounded = omega arith;
  coefficient = sym (binomial-none c.args.k);
}

pub overflow_mul-total : goal.overflow_mul-total
overflow_mul-total c =
    omega (
      arith,
      term-small c.args.k c.loop-i.i c.loop-i.binomial c.rank_at-rank.result c.args.rows.now _ _ c.requires.exponent
          c.loop-i.invariant.coefficient c.requires.ordered c.requires.small c.rank_at-rank.ensures,
    )

pub overflow_add-total : goal.overflow_add-total
overflow_add-total c = omega (
  arith,
  term-small c.args.k c.loop-i.i c.loop-i.binomial c.rank_at-rank.result c.args.rows.now _ _ c.requires.exponent
      c.loop-i.invariant.coefficient c.requires.ordered c.requires.small c.rank_at-rank.ensures,
  c.loop-i.invariant.bounded,
  c.requires.exponent,
)

pub overflow_mul-binomial : goal.overflow_mul-binomial
overflow_mul-binomial c =
    let small =
    coefficient-small c.args.k c.loop-i.i c.loop-i.binomial c.requires.exponent c.loop-i.invariant.coefficient in
    let few : c.from-in-loop-i-2.result ≤ 16 = omega (arith, c.requires.exponent, c.from-in-loop-i-2.ensures) in
    omega (arith, mul-le c.loop-i.binomial c.from-in-loop-i-2.result (2 ^ 16) 16 small few)

pub loop-i-preserved : goal.loop-i-preserved
loop-i-preserved c =
    let rows = c.args.rows.now in
    let m : ℤ = to_z w32 (of_z w32 c.args.m) in
    let a : ℤ = to_z w32 (of_z w32 c.args.a) in
    let i = c.loop-i.i in
    let next : suc i ≡ i + 1 = omega arith in
    let low : i ≤ 16 = omega (arith, c.requires.exponent) in
    let rank =
    rank_up rows c.args.m c.args.a c.from.result c.from-in-loop-i.result i c.rank_at-rank.result c.ranges.m c.ranges.a
    c.requires.maslov c.requires.alexander low c.from.ensures c.from-in-loop-i.ensures c.rank_at-rank.ensures in
    record {
      sum = omega (
        arith,
        c.loop-i.invariant.sum,
        ap (λ r. c.loop-i.binomial * r) rank,
        ap (λ b. b * rank_at rows (m +ℤ pos i) (a +ℤ pos i)) c.loop-i.invariant.coefficient,
        sum_first-suc i (product_term c.args.k rows m a),
        ap (λ n. sum_first n (product_term c.args.k rows m a)) next,
      );
      bounded =
          omega (
            arith,
            term-small c.args.k i c.loop-i.binomial c.rank_at-rank.result rows _ _ c.requires.exponent
                c.loop-i.invariant.coefficient c.requires.ordered c.requires.small c.rank_at-rank.ensures,
            c.loop-i.invariant.bounded,
          );
      coefficient =
          (λ t. c.loop-i.binomial * c.from-in-loop-i-2.ensures t / (c.from-in-loop-i-3.ensures t + 1))
          ∙ coefficient-next c.args.k i c.loop-i.binomial (omega arith) c.loop-i.invariant.coefficient;
    }

pub returns : goal.returns
returns c =
    let all : c.loop-i.i ≡ suc c.args.k = omega arith in
    c.loop-i.invariant.sum
    ∙ (λ t. sum_first (all t) (product_term c.args.k c.args.rows.now (to_z-of_z w32 c.args.m c.ranges.m t)
    (to_z-of_z w32 c.args.a c.ranges.a t)))
    ∙ sym (product_rank-sum c.args.k c.args.rows.now c.args.m c.args.a)
