use Rattle.std.proofs.Common.{refl, arith}
use Rattle.std.proofs.lemmas.Int.{ints}
use Rattle.gradings.proofs.TableLemmas.{IsPairCount-more}
use Rattle.gradings.proofs.tables.pairs.Goals as goal

pub loop-d-preserved : goal.loop-d-preserved
loop-d-preserved c =
    let low = c.below-count.ensures.low in
    let high = c.below-count.ensures.high in
    let old_low = c.loop-d.invariant.low in
    let old_high = c.loop-d.invariant.high in
    let inside = c.loop-d-test.true in
    let room = c.requires in
    IsPairCount-more _ _ _ _ _ _ c.loop-d-test.true refl c.loop-d.invariant c.below-count.ensures.value low high
    (omega (arith, ints))
