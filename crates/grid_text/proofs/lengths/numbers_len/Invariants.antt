-- the bytes of the numbers so far
use Rattle.std.proofs.Common.{◌≡◌, ◌≤◌, ◌*◌, take, map, length}
use Rattle.std.specs.Fmt.{decimal}
use Rattle.grid_text.specs.PlainForm.{after_space}
use Rattle.grid_text.proofs.lengths.numbers_len.Given as goal

abbrev pub invariant-loop-n : goal.invariant-loop-n
invariant-loop-n l =
    (l.count ≡ length (after_space (map decimal (take l.n-index l.numbers)))) × (l.count ≤ 41 * l.n-index)
