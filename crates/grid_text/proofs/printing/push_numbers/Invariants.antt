-- the numbers so far
use Rattle.std.proofs.Common.{◌≡◌, ◌++◌, take, map}
use Rattle.std.specs.Fmt.{decimal}
use Rattle.grid_text.specs.PlainForm.{after_space}
use Rattle.grid_text.proofs.printing.push_numbers.Given as goal

abbrev pub invariant-loop-n : goal.invariant-loop-n
invariant-loop-n l = l.text.items ≡ l.initial.text.items ++ after_space (map decimal (take l.n-index l.numbers))
