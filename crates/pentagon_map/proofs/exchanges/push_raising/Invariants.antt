-- The exchanges with the circles so far are appended.
use Rattle.std.proofs.Common.{◌≡◌, ◌+◌, ◌-◌, ◌≤◌, ◌++◌, length, take, reverse}
use Rattle.state_rank.specs.Bijection.{ascending}
use Rattle.pentagon_map.specs.Inner.Exchanges.{picked, raises}
use Rattle.pentagon_map.proofs.exchanges.push_raising.Given as goal

abbrev pub invariant-loop-b : goal.invariant-loop-b
invariant-loop-b l =
    (l.states.items
    ≡ l.fn.states.items ++ picked l.x l.a (raises l.x l.a l.odd) (take (l.a - l.b) (reverse (ascending l.a))))
    × (l.states.capacity ≡ l.fn.states.capacity)
    × (length l.states.items ≤ length l.fn.states.items + (l.a - l.b))
