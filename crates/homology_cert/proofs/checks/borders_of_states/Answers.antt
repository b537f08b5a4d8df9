-- One more border is that of the state of the next index.
use Rattle.std.proofs.Common.{◌≡◌, ◌<◌, sym, ap, subst, ◌∙◌, arith}
use Rattle.state_rank.specs.Bijection.{IsBijection}
use Rattle.state_rank.specs.States.{factorial, unrank}
use Rattle.state_rank.proofs.RankLemmas.{IsBijection-unrank}
use Rattle.torus_geom.specs.Marks.{size}
use Rattle.torus_geom.specs.Inner.CodeBorder.{border_of_state}
use Rattle.rectangles.proofs.Homology.BorderLaws.{border_of_state_answer}
use Rattle.homology_cert.proofs.Certified.CheckLemmas.{map-ascending}
use Rattle.homology_cert.proofs.checks.borders_of_states.Goals as goal

pub loop-code-preserved : goal.loop-code-preserved
loop-code-preserved c =
    let g = c.args.g.now in
    let code = c.loop-code.code in
    let more = map-ascending (λ s. border_of_state g (unrank (size g) s)) code in
    let x_is : c.unrank.result ≡ unrank (size g) code =
    c.unrank.ensures.state ∙ ap (λ n. unrank n code) c.size-n.ensures.size in
    let count : c.state_count-code-end.result ≡ factorial (size g) =
    c.state_count-code-end.ensures ∙ ap factorial c.size-n.ensures.size in
    let below : code < factorial (size g) = omega (arith, count, c.loop-code-test.true) in
    let state = subst (IsBijection (size g)) (sym x_is) (IsBijection-unrank (size g) code below) in
    let border = border_of_state_answer g c.unrank.result state c.in_ok-border_of_state.field-0
    c.in_ok-border_of_state.ensures.indices c.in_ok-border_of_state.ensures.border ∙ ap (border_of_state g) x_is in
    grind (arith, c.loop-code.invariant, c.in_ok-push.ensures.items, border, more)
