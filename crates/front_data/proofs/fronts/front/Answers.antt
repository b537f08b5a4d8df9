use Rattle.std.proofs.Common.{pos, ap, ◌∙◌, arith, rules, w32, to_z, of_z, FitsSigned}
use Rattle.std.specs.Prelude.{int_div}
use Rattle.std.proofs.lemmas.Int.{ints, to_z-of_z, quot_fits}
use Rattle.torus_geom.specs.Front.{thurston_bennequin, rotation}
use Rattle.front_data.proofs.fronts.front.Goals as goal

pub returns-clause-tb : goal.returns-clause-tb
unfolding thurston_bennequin
returns-clause-tb c = let w = c.writhe.ensures in let e = c.north_east.ensures in omega (arith, ints)

pub returns-clause-rot : goal.returns-clause-rot
unfolding rotation
returns-clause-rot c =
    let doubled = c.doubled_rotation.ensures.value in
    let doubled_fits : FitsSigned w32 c.doubled_rotation.result = search rules in
    let fits = quot_fits w32 c.doubled_rotation.result (pos 2) doubled_fits (omega (arith, ints)) in
    ap (λ z. to_z w32 (of_z w32 (int_div z (pos 2)))) (to_z-of_z w32 c.doubled_rotation.result doubled_fits)
    ∙ to_z-of_z w32 (int_div c.doubled_rotation.result (pos 2)) fits
    ∙ ap (λ z. int_div z (pos 2)) doubled
