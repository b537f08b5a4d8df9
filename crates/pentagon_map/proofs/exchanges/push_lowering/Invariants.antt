-- The exchanges with the circles so far are appended.
use Rattle.std.proofs.Common.{◌≡◌, ◌+◌, ◌≤◌, ◌++◌, length, take}
use Rattle.state_rank.specs.Bijection.{ascending}
use Rattle.pentagon_map.specs.Inner.Exchanges.{picked, lowers}
use Rattle.pentagon_map.proofs.exchanges.push_lowering.Given as goal

abbrev pub invariant-loop-b : goal.invariant-loop-b
invariant-loop-b l =
    (l.states.items ≡ l.fn.states.items ++ picked l.x l.a (lowers l.x l.a l.odd) (take l.b (ascending l.a)))
    × (l.states.capacity ≡ l.fn.states.capacity)
    × (length l.states.items ≤ length l.fn.states.items + l.b)
