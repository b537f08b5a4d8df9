-- The states so far are the first of the border.
use Rattle.std.proofs.Common.{◌≡◌, take}
use Rattle.torus_geom.specs.Border.{border}
use Rattle.torus_geom.specs.Chains.{members, single}
use Rattle.torus_geom.specs.Marks.{size}
use Rattle.rectangles.proofs.target_states.targets.Given as goal

abbrev pub invariant-loop-index : goal.invariant-loop-index
invariant-loop-index l =
    (l.states.items ≡ take l.index-index (members (size l.g) (border l.g (single l.x)))) × (l.states.capacity ≡ 45)
