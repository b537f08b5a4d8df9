-- The pairs of the log.
use Rattle.std.proofs.Common.{◌∙◌, [], ℤ, map, w32, sym, ap, subst}
use mir.Val.{of_z, to_z}
use Rattle.std.proofs.lemmas.Int.{to_z-of_z}
use Rattle.f2_algebra.specs.Bigraded.{at_alexander}
use Rattle.f2_algebra.specs.Cancel.{IsLog}
use Rattle.f2_algebra.specs.Slice.{slice_complex}
use Rattle.cancel.specs.Logs.{log_of}
use Rattle.torus_geom.specs.Inner.GridComplex.{grid_complex}
use Rattle.homology_cert.specs.Inner.CodeTests.{has_bidegree}
use Rattle.homology_cert.specs.Inner.Making.{cycle_pair, left_codes, steps_after}
use Rattle.homology_cert.proofs.Homology.SliceRanks.{reduction_of}
use Rattle.homology_cert.proofs.Made.MakingLemmas.{made_cell}
use Rattle.homology_cert.proofs.making.cell_of_slice.Goals as goal

pub steps_of-requires : goal.steps_of-requires
steps_of-requires c =
    let g = c.args.g.now in
    let reduction = reduction_of g c.args.a c.args.slice.slice c.reduce.new.slice.slice (log_of c.in_ok-log.log)
    c.requires.built c.in_ok-log.ensures.reduced in
    subst (λ (a : ℤ). IsLog (at_alexander a (grid_complex g)) (log_of c.in_ok-log.log))
    (sym (to_z-of_z w32 c.args.a c.ranges.a)) reduction.stands

pub returns : goal.returns
returns c =
    let g = c.args.g.now in
    let log = log_of c.in_ok-log.log in
    let slice = slice_complex c.reduce.new.slice.slice in
    let same_m = to_z-of_z w32 c.args.m c.ranges.m in
    let same_a = to_z-of_z w32 c.args.a c.ranges.a in (
      made_cell g c.args.m c.args.a (to_z w32 (of_z w32 c.args.m), to_z w32 (of_z w32 c.args.a)) c.args.slice.slice
          c.reduce.new.slice.slice log c.in_ok-cycles.cycles.items c.in_ok-steps.steps.items
          (λ i. (same_m i, same_a i)) c.requires.state c.requires.built c.in_ok-log.ensures.reduced
          (c.in_ok-cycles.ensures ∙ ap (λ m. map (cycle_pair log) (left_codes g slice m)) same_m)
          (c.in_ok-steps.ensures ∙ (λ i. steps_after (has_bidegree g (same_m i, same_a i)) [] log)),
      λ i. (same_m i, same_a i),
    )
