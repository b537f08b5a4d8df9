-- the rows so far follow the letter
use Rattle.std.proofs.Common.{◌≡◌, ◌++◌, ◌∷◌, [], take}
use Rattle.std.specs.List.{flat_map}
use Rattle.std.specs.Fmt.{decimal}
use Rattle.homology_cert.proofs.printing.push_marks.Given as goal

abbrev pub invariant-loop-row : goal.invariant-loop-row
invariant-loop-row l =
    l.text.items ≡ l.fn.text.items ++ (l.letter ∷ [] ++ flat_map (λ r. 32 ∷ decimal r) (take l.row-index l.rows))
