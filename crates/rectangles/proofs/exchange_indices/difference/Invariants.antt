-- The columns from c on have added what they add.
use Rattle.std.proofs.Common.{◌≡◌, ◌+◌, ◌-◌, ◌*◌, ◌≤◌, length, drop}
use Rattle.rectangles.specs.Inner.ExchangeIndices.{gain}
use Rattle.rectangles.proofs.exchange_indices.difference.Given as goal

abbrev pub invariant-loop-c : goal.invariant-loop-c
invariant-loop-c l =
    ((l.c ≤ l.n) × (l.a + 1 ≤ l.c))
    × (l.sum
    ≡ l.first + gain l.low l.high l.first (l.first - l.second) (length l.x - (l.b + 1)) (drop l.c l.x))
    × (l.sum ≤ 362880 + 725760 * (l.n - l.c))
