-- One component after another.
use Rattle.std.proofs.Common.{◌≡◌, ◌+◌, ◌-◌, ap, ◌∙◌, arith}
use Rattle.std.specs.Prelude.{slice_index}
use Rattle.std.proofs.lemmas.List.{take_all}
use Rattle.multi_degree.specs.ComponentDegrees.{component_exponents}
use Rattle.grid_job.proofs.Reported.ComponentLemmas.{length-component_exponents, exponents-next}
use Rattle.grid_job.proofs.components.exponents_of.Goals as goal

pub loop-i-preserved : goal.loop-i-preserved
loop-i-preserved c =
    let g = c.args.g.now in
    let i = c.loop-i.i in
    let back : (i + 1) - 1 ≡ i = omega arith in
    exponents-next g c.loop-i.exponents.items _ i c.component_exponents.result
    (omega (arith, c.loop-i-test.true, c.components-i-end.ensures.number)) c.loop-i.invariant
    (c.component_exponents.ensures ∙ ap (slice_index (component_exponents g)) back) c.in_ok-push.ensures.items

pub returns : goal.returns
returns c =
    let g = c.args.g.now in
    c.loop-i.invariant
    ∙ take_all c.loop-i.i (component_exponents g)
    (omega (arith, length-component_exponents g, c.loop-i-test.false, c.components-i-end.ensures.number))
