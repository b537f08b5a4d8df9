use Rattle.std.proofs.Common.{◌≡◌, refl, pos, ◌+ℤ◌, ◌-ℤ◌, arith, length, slice_index, ltb}
use Rattle.std.proofs.lemmas.Int.{ints}
use Rattle.state_rank.specs.declared.TheConstants.{MAX_SIZE}
use Rattle.torus_geom.specs.Counts.{count_below}
use Rattle.gradings.proofs.TableLemmas.{IsFilledWith-more}
use Rattle.gradings.proofs.tables.column_weights.Goals as goal

pub loop-r-init : goal.loop-r-init
loop-r-init c = record { whole = refl; each = λ k l. absurd (omega arith) }

pub loop-r-preserved : goal.loop-r-preserved
loop-r-preserved c =
    let of_x = c.below.ensures.value in
    let x_low = c.below.ensures.low in
    let x_high = c.below.ensures.high in
    let of_o = c.below-in-loop-r.ensures.value in
    let o_low = c.below-in-loop-r.ensures.low in
    let o_high = c.below-in-loop-r.ensures.high in
    IsFilledWith-more _ _ _ _ (λ r v. pos v ≡ pos MAX_SIZE
    +ℤ (count_below (length c.args.x.now) (λ d. ltb (slice_index c.args.x.now d) r)
    -ℤ count_below (length c.args.o.now) (λ d. ltb (slice_index c.args.o.now d) r)))
    _ c.loop-r-test.true c.loop-r.invariant (omega (arith, ints))
