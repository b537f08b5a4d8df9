-- The sum so far, and the next coefficient.
use Rattle.std.proofs.Common.{◌≡◌, ◌*◌, ◌^◌, ◌≤◌}
use Rattle.hat_division.specs.Product.{binomial, sum_first}
use Rattle.hat_division.proofs.ProductLemmas.{product_term}
use Rattle.hat_division.proofs.products.product_rank.Given as goal

abbrev pub invariant-loop-i : goal.invariant-loop-i
invariant-loop-i l = record {
  sum : l.total ≡ sum_first l.i (product_term l.k l.rows l.m l.a);
  bounded : l.total ≤ l.i * 2 ^ 48;
  coefficient : l.binomial ≡ binomial l.k l.i;
}
