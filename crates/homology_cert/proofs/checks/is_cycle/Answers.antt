-- The border that the call answers is that of the codes.
use Rattle.std.proofs.Common.{length, ap, ◌==◌, ◌∙◌}
use Rattle.homology_cert.specs.Inner.CodeTests.{is_empty_chain}
use Rattle.rectangles.proofs.Homology.BorderLaws.{border_answer}
use Rattle.homology_cert.proofs.checks.is_cycle.Goals as goal

pub returns : goal.returns
returns c =
    let border = border_answer c.args.g.now c.in_ok-border.border c.args.z.now c.in_ok-border.ensures.indices_again
    c.requires c.in_ok-border.ensures.border in
    c.is_empty.ensures ∙ ap (λ codes. length codes == 0) c.codes.ensures ∙ ap is_empty_chain border
