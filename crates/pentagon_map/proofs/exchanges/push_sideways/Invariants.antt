-- The exchanges with the circles so far are appended.
use Rattle.std.proofs.Common.{◌≡◌, ◌+◌, ◌≤◌, ◌++◌, length, take}
use Rattle.state_rank.specs.States.{transpose}
use Rattle.pentagon_map.specs.Inner.Exchanges.{picked, is_right_of}
use Rattle.pentagon_map.proofs.exchanges.push_sideways.Given as goal

abbrev pub invariant-loop-r : goal.invariant-loop-r
invariant-loop-r l =
    (l.states.items ≡ l.fn.states.items ++ picked l.x l.a (is_right_of l.a l.odd) (take l.r (transpose l.x)))
    × (l.states.capacity ≡ l.fn.states.capacity)
    × (length l.states.items ≤ length l.fn.states.items + l.r)
