-- The sets of the circles are written one by one.
use Rattle.std.proofs.Common.{◌≡◌, ℕ, ◌<◌, length, cond, refl, ◌∙◌, arith}
use Rattle.std.proofs.lemmas.List.{length-set}
use Rattle.std.specs.Int.{bit_at}
use Rattle.rectangles.specs.Inner.Open.{is_open}
use Rattle.rectangles.proofs.Sweep.PushLemmas.{filled_more}
use Rattle.rectangles.proofs.target_states.open_rectangles.Goals as goal

pub loop-a-init : goal.loop-a-init
loop-a-init c = (refl, λ a l. absurd (omega arith))

pub loop-a-preserved : goal.loop-a-preserved
loop-a-preserved c =
    let short = c.size-a-end.ensures.grid.is_size.greatest in
    let full = c.loop-a.invariant.0 in (
      length-set c.loop-a.opens c.loop-a.a c.open_rights.result ∙ full,
      filled_more c.loop-a.opens c.loop-a.a c.open_rights.result 0
          (λ a v. (b : ℕ) → b < length c.args.x.now → bit_at v b ≡ cond (is_open c.args.marks.now c.args.x.now a b) 1 0)
          (omega arith) c.loop-a.invariant.1 c.open_rights.ensures,
    )

pub returns-clause-rectangles : goal.returns-clause-rectangles
returns-clause-rectangles c = λ a b la lb. c.loop-a.invariant.1 a (omega arith) b lb
