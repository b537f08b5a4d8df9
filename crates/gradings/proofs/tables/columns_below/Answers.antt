-- A column more.
use Rattle.std.proofs.Common.{◌≡◌, ◌+◌, pos, ◌+ℤ◌, ◌-ℤ◌, add-one, ap, arith}
use Rattle.std.proofs.lemmas.Int.{ints}
use Rattle.torus_geom.specs.Counts.{sum_below}
use Rattle.gradings.proofs.tables.columns_below.Goals as goal

pub loop-c-preserved : goal.loop-c-preserved
loop-c-preserved c =
    let sum = c.loop-c.invariant.0 in
    let few = c.loop-c.invariant.1 in
    let more : sum_below (c.loop-c.c + 1) (λ d. pos 10 -ℤ pos d)
    ≡ (pos 10 -ℤ pos c.loop-c.c) +ℤ sum_below c.loop-c.c (λ d. pos 10 -ℤ pos d) =
    ap (λ n. sum_below n (λ d. pos 10 -ℤ pos d)) (add-one c.loop-c.c) in
    (omega (arith, ints), omega arith)
