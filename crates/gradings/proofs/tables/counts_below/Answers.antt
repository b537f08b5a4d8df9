use Rattle.std.proofs.Common.{◌≡◌, refl, pos, arith, length, slice_index, ltb}
use Rattle.std.proofs.lemmas.Int.{ints}
use Rattle.torus_geom.specs.Counts.{count_below}
use Rattle.gradings.proofs.TableLemmas.{IsFilledWith-more}
use Rattle.gradings.proofs.tables.counts_below.Goals as goal

pub loop-r-init : goal.loop-r-init
loop-r-init c = record { whole = refl; each = λ k l. absurd (omega arith) }

pub loop-r-preserved : goal.loop-r-preserved
loop-r-preserved c =
    let value = c.below.ensures.value in
    let low = c.below.ensures.low in
    let high = c.below.ensures.high in
    IsFilledWith-more _ _ _ _ (λ r v. pos v ≡ count_below (length c.args.rows.now)
    (λ d. ltb (slice_index c.args.rows.now d) r)) _ c.loop-r-test.true c.loop-r.invariant (omega (arith, ints))
