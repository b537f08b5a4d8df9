-- How a pool keeps its map: a list of places, of which some were given back and lead on to one another.
--     free_ids nodes n h             the places that were given back: n of them, from h on, each the `next_out` of the
--                                    one before
--     has is q                       whether q is in the list
--     live_map nodes gone n          the nodes at the places below n, but for those in `gone`
--     pool nodes head free fresh limit      the pool that these fields are
--     AreApart is n                  each of the list is below n, and stands once
--     IsPool nodes head free fresh limit    the places given back are apart and below fresh; fresh is at most what was
--                                           promised, and that is at most
--                                    what there is; free counts the places given back
use Prim.Native.Nat.{zero, suc}
use Rattle.std.specs.Prelude.{ℕ, ◌≡◌, ◌+◌, ◌-◌, ◌<◌, ◌≤◌, ◌^◌, Bool, false, cond, eqb, ◌||◌, List, [], ◌∷◌, length}
use Rattle.std.specs.Ordering.{nat_cmp}
use Rattle.std.specs.FinMap.{FinMap, empty, insert, len}
use Rattle.node_pool.specs.declared.Node.{Node}
use Rattle.node_pool.specs.Pool.{PoolValue}
use Rattle.node_pool.specs.Inner.Chunks.{node_at}

abbrev pub free_ids : List Node → ℕ → ℕ → List ℕ
free_ids nodes zero h = []
free_ids nodes (suc n) h = h ∷ free_ids nodes n (node_at nodes h).next_out

abbrev pub has : List ℕ → ℕ → Bool
has [] q = false
has (x ∷ xs) q = eqb q x || has xs q

abbrev pub live_map : List Node → List ℕ → ℕ → FinMap nat_cmp Node
live_map nodes gone zero = empty
live_map nodes gone (suc k) =
    cond (has gone k) (live_map nodes gone k) (insert (live_map nodes gone k) k (node_at nodes k))

abbrev pub pool : List Node → ℕ → ℕ → ℕ → ℕ → PoolValue
pool nodes head free fresh limit =
    record {
      nodes = live_map nodes (free_ids nodes free head) fresh;
      spare = free + (limit - fresh);
      granted = free + (length nodes - fresh);
    }

abbrev pub AreApart : List ℕ → ℕ → Type 0
AreApart [] n = Unit {0}
AreApart (x ∷ xs) n = (x < n) × (has xs x ≡ false) × AreApart xs n

pub record IsPool (nodes : List Node) (head free fresh limit : ℕ) : Type 0 where
  pub apart : AreApart (free_ids nodes free head) fresh
  pub begun : fresh ≤ limit
  pub room : limit ≤ length nodes
  pub small : length nodes ≤ 2 ^ 48 + 4096
  pub count : free + len (live_map nodes (free_ids nodes free head) fresh) ≡ fresh
