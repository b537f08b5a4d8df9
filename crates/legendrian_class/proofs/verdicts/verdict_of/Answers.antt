-- The least code of the border is the rank of its least state.
use Rattle.std.proofs.Common.{refl, sym, subst, ◌∙◌}
use Rattle.rectangles.proofs.Homology.BorderLaws.{border_answer}
use Rattle.legendrian_class.specs.Inner.Parts.{IsLeast}
use Rattle.legendrian_class.proofs.verdicts.verdict_of.Goals as goal

pub returns-in-Some : goal.returns-in-Some
returns-in-Some c =
    let border = border_answer c.args.g.now c.in_ok-border.field-0 c.args.z.now c.in_ok-border.ensures.indices_again
    c.requires.indices c.in_ok-border.ensures.border in
    let least = subst (λ y. IsLeast y c.in-Some.state) border c.in-Some.ensures.least in
    record { held = least.0; least = least.1 }

pub cycle_verdict-requires-clause-cycle : goal.cycle_verdict-requires-clause-cycle
cycle_verdict-requires-clause-cycle c =
    sym (border_answer c.args.g.now c.in_ok-border.field-0 c.args.z.now c.in_ok-border.ensures.indices_again
    c.requires.indices c.in_ok-border.ensures.border)
    ∙ c.in-None.ensures.none refl
