-- The sets of the circles are written one by one.
use Rattle.std.proofs.Common.{◌≡◌, ℕ, ◌<◌, length, slice_index, refl, ◌∙◌, arith}
use Rattle.std.proofs.lemmas.List.{length-set}
use Rattle.std.specs.Int.{bit_at}
use Rattle.rectangles.specs.Inner.Open.{odd_bit}
use Rattle.rectangles.proofs.Sweep.PushLemmas.{filled_more}
use Rattle.rectangles.proofs.target_states.odd_pairs.Goals as goal

pub loop-a-init : goal.loop-a-init
loop-a-init c = (refl, λ a l. absurd (omega arith))

pub loop-a-preserved : goal.loop-a-preserved
loop-a-preserved c =
    let short = c.size-a-end.ensures.state.size.greatest in
    let full = c.loop-a.invariant.0 in (
      length-set c.loop-a.odds c.loop-a.a c.odd_rows.result ∙ full,
      filled_more c.loop-a.odds c.loop-a.a c.odd_rows.result 0
          (λ a v. (b : ℕ) → b < length c.args.x.now
          → bit_at v (slice_index c.args.x.now b) ≡ odd_bit c.args.opens.now a b)
          (omega arith) c.loop-a.invariant.1 c.odd_rows.ensures,
    )

pub returns-clause-odd : goal.returns-clause-odd
returns-clause-odd c = λ a b la lb. c.loop-a.invariant.1 a (omega arith) b lb
