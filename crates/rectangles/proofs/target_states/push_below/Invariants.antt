use Rattle.std.proofs.Common.{◌≡◌, ◌++◌, length, map, take}
use Rattle.std.specs.List.{flat_map}
use Rattle.state_rank.specs.Bijection.{ascending}
use Rattle.state_rank.specs.States.{rank}
use Rattle.rectangles.specs.Inner.Open.{exchanges_below}
use Rattle.rectangles.proofs.target_states.push_below.Given as goal

abbrev pub invariant-loop-a : goal.invariant-loop-a
invariant-loop-a l =
    (l.indices.items
    ≡ l.fn.indices.items
    ++ map rank (flat_map (exchanges_below l.x l.columns l.odds) (take l.a (ascending (length l.x)))))
    × (l.indices.capacity ≡ l.fn.indices.capacity)
