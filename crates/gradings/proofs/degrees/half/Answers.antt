use Rattle.std.proofs.Common.{ap, ◌∙◌, arith, w32, to_z, of_z, pos, FitsSigned}
use Rattle.std.specs.Prelude.{int_div}
use Rattle.std.proofs.lemmas.Int.{ints, to_z-of_z}
use Rattle.torus_geom.proofs.Sums.HalfLemmas.{int_div-double}
use Rattle.gradings.proofs.degrees.half.Goals as goal

pub returns : goal.returns
returns c a even =
    let fits : FitsSigned w32 c.args.doubled = c.ranges.doubled in
    let half_fits : FitsSigned w32 a = omega (arith, ints) in
    ap (λ z. to_z w32 (of_z w32 (int_div z (pos 2)))) (to_z-of_z w32 c.args.doubled fits ∙ even)
    ∙ ap (λ z. to_z w32 (of_z w32 z)) (int_div-double a) ∙ to_z-of_z w32 a half_fits
