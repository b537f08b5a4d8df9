-- A class is a chain of one state, and a cycle.
use Rattle.std.proofs.Common.{true, false, refl, ap, ◌∙◌}
use Rattle.f2_algebra.specs.Chain.{single as one_code}
use Rattle.state_rank.specs.States.{rank, unrank}
use Rattle.torus_geom.specs.Codes.{states_of}
use Rattle.torus_geom.specs.Marks.{size}
use Rattle.legendrian_class.specs.VerdictCodes.{verdict_of}
use Rattle.legendrian_class.specs.declared.verdicts.ClassVerdict.TheVariants.{NotCycle, Null, Alive}
use Rattle.grid_job.proofs.Reported.ClassLemmas.{class_is_cycle, class_verdict, HasIndices-class, states_of-class}
use Rattle.grid_job.proofs.Generated.MadeLemmas.{HasClassVerdict-of}
use Rattle.grid_job.proofs.made.is_alive.Goals as goal

pub verdict-requires : goal.verdict-requires
verdict-requires c =
    let is_class = c.in_ok-z.ensures ∙ ap one_code (c.rank.ensures.rank ∙ ap rank c.class_state-x.ensures) in
    record { indices = HasIndices-class c.args.g.now c.size.ensures.grid c.args.sign c.in_ok-z.z is_class }

pub unreachable-requires : goal.unreachable-requires
unreachable-requires c =
    let g = c.args.g.now in
    let is_class = c.in_ok-z.ensures ∙ ap one_code (c.rank.ensures.rank ∙ ap rank c.class_state-x.ensures) in
    class_is_cycle g c.size.ensures.grid c.args.sign (unrank (size g) c.in-NotCycle.state)
    (class_verdict g c.size.ensures.grid c.args.sign c.in_ok-z.z is_class c.in_ok-verdict.field-0
    (NotCycle c.in-NotCycle.state) c.in-NotCycle.is c.in_ok-verdict.ensures.verdict)

pub returns-in-Null : goal.returns-in-Null
returns-in-Null c =
    let g = c.args.g.now in
    let is_class = c.in_ok-z.ensures ∙ ap one_code (c.rank.ensures.rank ∙ ap rank c.class_state-x.ensures) in
    HasClassVerdict-of g c.args.sign (states_of (size g) c.in_ok-z.z) (verdict_of (size g) c.in_ok-verdict.field-0)
    (verdict_of (size g) (Null c.in-Null.bound)) false
    (states_of-class g c.size.ensures.grid c.args.sign c.in_ok-z.z is_class) (ap (verdict_of (size g)) c.in-Null.is)
    c.in_ok-verdict.ensures.verdict refl

pub returns : goal.returns
returns c =
    let g = c.args.g.now in
    let is_class = c.in_ok-z.ensures ∙ ap one_code (c.rank.ensures.rank ∙ ap rank c.class_state-x.ensures) in
    HasClassVerdict-of g c.args.sign (states_of (size g) c.in_ok-z.z) (verdict_of (size g) c.in_ok-verdict.field-0)
    (verdict_of (size g) (Alive c.in-Alive.cocycle)) true
    (states_of-class g c.size.ensures.grid c.args.sign c.in_ok-z.z is_class) (ap (verdict_of (size g)) c.in-Alive.is)
    c.in_ok-verdict.ensures.verdict refl
