use Rattle.std.proofs.Common.{◌+◌, ◌^◌, ap, refl, sym, subst, arith, length, ◌≤◌}
use Rattle.std.specs.FinMap.{len-empty}
use Rattle.std.specs.Ordering.{nat_cmp}
use Rattle.node_pool.specs.declared.Node.{Node}
use Rattle.node_pool.proofs.pools.Pool.new.Goals as goal

pub invariant_of-result : goal.invariant_of-result
invariant_of-result c =
    record {
      apart = tt;
      begun = omega arith;
      room = omega arith;
      small = subst (λ ns. length ns ≤ 2 ^ 48 + 4096) (sym c.new.ensures) (omega arith);
      count = ap (λ n. 0 + n) (len-empty nat_cmp Node);
    }

pub returns-clause-empty : goal.returns-clause-empty
returns-clause-empty c = (refl, len-empty nat_cmp Node)
