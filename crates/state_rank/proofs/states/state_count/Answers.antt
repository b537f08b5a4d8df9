-- One more factor makes the next factorial.
use Rattle.std.proofs.Common.{◌≡◌, ◌+◌, ◌*◌, ◌<◌, ◌^◌, refl, subst, sym, ◌∙◌}
use Rattle.state_rank.specs.States.{factorial}
use Rattle.state_rank.proofs.LehmerLemmas.{factorial-next, next_factorial_fits}
use Rattle.state_rank.proofs.states.state_count.Goals as goal

pub loop-k-init : goal.loop-k-init
unfolding factorial
loop-k-init c = refl

pub overflow_mul-count : goal.overflow_mul-count
overflow_mul-count c =
    let product : c.loop-k.count * (c.from.result + 1) ≡ factorial (c.loop-k.k + 1) =
    (λ i. c.loop-k.invariant i * (c.from.ensures i + 1)) ∙ factorial-next c.loop-k.k in
    let fits : c.loop-k.count * (c.from.result + 1) < 2 ^ 32 =
    subst (λ p. p < 2 ^ 32) (sym product)
    (next_factorial_fits c.loop-k.k c.args.n c.loop-k-test.true c.requires.greatest) in
    record { fits = fits }

pub loop-k-preserved : goal.loop-k-preserved
loop-k-preserved c = (λ i. c.loop-k.invariant i * (c.from.ensures i + 1)) ∙ factorial-next c.loop-k.k
