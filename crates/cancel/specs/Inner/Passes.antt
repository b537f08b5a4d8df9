-- What a pass over a log leaves for the pass back.
--     held log z                      for each entry, whether its y is in the rest of z before it
--     correction_by_marks log marks   the correction of a chain that has left these marks
use Rattle.std.specs.Prelude.{Bool, cond, List, [], ◌∷◌}
use Rattle.f2_algebra.specs.Chain.{Chain, holds, nothing, single, ◌⊕◌}
use Rattle.f2_algebra.specs.Cancel.{Entry, rest_of_one, lift_of_one}

abbrev pub held : List Entry → Chain → List Bool
held [] z = []
held (e ∷ log) z = holds z e.y ∷ held log (rest_of_one e z)

-- from the last entry to the first: x if the chain meets the sources oddly, and x once more if y was held
abbrev pub correction_by_marks : List Entry → List Bool → Chain
correction_by_marks [] marks = nothing
correction_by_marks (e ∷ log) [] = nothing
correction_by_marks (e ∷ log) (mark ∷ marks) =
    lift_of_one e (correction_by_marks log marks) ⊕ cond mark (single e.x) nothing
