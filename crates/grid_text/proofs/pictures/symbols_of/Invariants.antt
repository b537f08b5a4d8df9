-- the symbols so far are those of the words so far
use Rattle.std.proofs.Common.{◌≡◌, take}
use Rattle.std.specs.List.{flat_map}
use Rattle.grid_text.proofs.pictures.symbols_of.Given as goal

abbrev pub invariant-loop-word : goal.invariant-loop-word
invariant-loop-word l = l.row.items ≡ flat_map (λ w. w.now) (take l.word-index l.words)
