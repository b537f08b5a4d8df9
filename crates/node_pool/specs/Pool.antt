-- A pool of nodes, as contracts see it.
--     PoolValue       the nodes by their ids; `spare`: how many more can be taken with no more memory; and `granted`:
--                     for how many more there is memory, as chunks are kept that were granted before a refusal
--     pool_code       how the logic stores such a value; it says nothing of pools
use Rattle.std.specs.Prelude.{ℕ, refl}
use Rattle.std.specs.Ordering.{nat_cmp}
use Rattle.std.specs.FinMap.{FinMap}
use Rattle.std.specs.FinMap as map
use Rattle.std.specs.Coded.{Coded, code_by, coded×, coded_ℕ}
use Rattle.node_pool.specs.declared.Node.{Node}
use Rattle.node_pool.specs.contracts.Node.{the_row}

pub record PoolValue : Type 0 where
  pub nodes : FinMap nat_cmp Node
  pub spare : ℕ
  pub granted : ℕ

abbrev pub pool_code : Coded PoolValue
pool_code =
    code_by ((FinMap nat_cmp Node × ℕ) × ℕ) (coded× (coded× (map.code coded_ℕ the_row.coded) coded_ℕ) coded_ℕ)
    (λ p. ((p.nodes, p.spare), p.granted))
    (λ t. record { nodes = t.0.0; spare = t.0.1; granted = t.1 }) (λ _. refl)
