-- By what is left of the part after the log.
use Rattle.std.proofs.Common.{refl, sym, ap, ◌∙◌, w32, rules}
use mir.Val.{SFits}
use Rattle.std.proofs.lemmas.Int.{to_z-of_z}
use Rattle.f2_algebra.specs.Chain.{holds}
use Rattle.f2_algebra.specs.Bigraded.{at_alexander}
use Rattle.torus_geom.specs.Inner.GridComplex.{grid_complex}
use Rattle.sparse_complex.proofs.GridPartLemmas.{part_rules}
use Rattle.legendrian_class.proofs.PartLemmas.{null-pushed, alive-pulled}
use Rattle.cancel.specs.Logs.{log_of}
use Rattle.legendrian_class.proofs.parts.part_verdict.Goals as goal

pub returns-in_default : goal.returns-in_default
returns-in_default c =
    let fits : SFits w32 c.args.a = search rules in
    null-pushed (at_alexander c.args.a (grid_complex c.args.g.now)) c.in_ok-slice.slice.slice c.reduce.new.slice.slice
    (log_of c.in_ok-log.log) c.args.part.now
    (c.in_ok-slice.ensures ∙ ap (λ a. at_alexander a (grid_complex c.args.g.now)) (to_z-of_z w32 c.args.a fits))
    c.in_ok-log.ensures.reduced (part_rules c.args.g.now c.args.a c.size-size.ensures.grid) c.requires.cycle
    c.in_ok-pushed.pushed.correction
    (sym c.in_ok-pushed.ensures.rest ∙ c.in_default.ensures.none refl) c.in_ok-pushed.ensures.correction

pub returns : goal.returns
returns c =
    let fits : SFits w32 c.args.a = search rules in
    alive-pulled (at_alexander c.args.a (grid_complex c.args.g.now)) c.in_ok-slice.slice.slice c.reduce.new.slice.slice
    (log_of c.in_ok-log.log) c.args.part.now
    (c.in_ok-slice.ensures ∙ ap (λ a. at_alexander a (grid_complex c.args.g.now)) (to_z-of_z w32 c.args.a fits))
    c.in_ok-log.ensures.reduced (part_rules c.args.g.now c.args.a c.size-size.ensures.grid) c.requires.cycle
    c.in_ok-cocycle.cocycle c.in-Some.code c.requires.cells
    (sym (ap (λ z. holds z c.in-Some.code) c.in_ok-pushed.ensures.rest) ∙ c.in-Some.ensures.least.0)
    c.in_ok-cocycle.ensures.map
