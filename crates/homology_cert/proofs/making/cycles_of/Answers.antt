-- Each code in turn.
use Rattle.std.proofs.Common.{◌≡◌, ◌∙◌, ◌+◌, ℕ, Global, Vec, map, w32, sym, ap, subst, arith}
use Rattle.std.specs.List.{filter}
use Rattle.std.proofs.lemmas.Int.{to_z-of_z}
use mir.Val.{of_z, to_z}
use Rattle.f2_algebra.specs.Slice.{slice_complex}
use Rattle.cancel.specs.Logs.{log_of}
use Rattle.state_rank.specs.Bijection.{ascending}
use Rattle.state_rank.specs.States.{factorial}
use Rattle.torus_geom.specs.Marks.{size}
use Rattle.homology_cert.specs.Inner.Making.{cycle_pair, degree_is}
use Rattle.homology_cert.specs.declared.certificates.CyclePair.{CyclePair}
use Rattle.homology_cert.proofs.Made.MakingLemmas.{cycles-pushed, cycles-kept}
use Rattle.homology_cert.proofs.making.cycles_of.Goals as goal
use Rattle.homology_cert.proofs.making.cycles_of.Goals.{then-is_left+in_ok-cycle+in_ok-cocycle+in_ok-push, else-is_left}

pub loop-code-preserved : goal.loop-code-preserved
loop-code-preserved c =
    let f = cycle_pair (log_of c.args.log.now) in
    let p = λ (s : ℕ). degree_is (to_z w32 (of_z w32 c.args.m)) ((slice_complex c.args.slice.now.slice).degree s) in
    elim c.if-is_left.branch [
      | then-is_left+in_ok-cycle+in_ok-cocycle+in_ok-push w ↦
          cycles-pushed f p c.loop-code.code c.loop-code.pairs.items c.if-is_left.pairs.items w.in_ok-cycle.cycle
          w.in_ok-cocycle.cocycle c.loop-code.invariant (sym c.is_left.ensures ∙ w.if-is_left.true)
          w.in_ok-cycle.ensures.lift w.in_ok-cocycle.ensures.map
          (ap (λ pairs. pairs.items) w.pairs-is ∙ w.in_ok-push.ensures.items)
      | else-is_left w ↦
          subst (λ (pairs : Vec CyclePair Global). pairs.items ≡ map f (filter p (ascending (c.loop-code.code + 1))))
          (sym w.pairs-is)
          (cycles-kept f p c.loop-code.code c.loop-code.pairs.items c.loop-code.invariant
          (sym c.is_left.ensures ∙ w.if-is_left.false))
    ]

pub returns : goal.returns
returns c =
    let all : c.loop-code.code ≡ factorial (size c.args.g.now) =
    let count = c.state_count-code-end.ensures ∙ ap factorial c.size.ensures.size in let end =
    c.loop-code-test.false in let near = c.loop-code.auto.code-end in omega (arith, count, end, near) in
    c.loop-code.invariant
    ∙ ap (λ m. map (cycle_pair (log_of c.args.log.now))
    (filter (λ s. degree_is m ((slice_complex c.args.slice.now.slice).degree s)) (ascending c.loop-code.code)))
    (to_z-of_z w32 c.args.m c.ranges.m)
    ∙ ap (λ n. map (cycle_pair (log_of c.args.log.now))
    (filter (λ s. degree_is c.args.m ((slice_complex c.args.slice.now.slice).degree s)) (ascending n))) all
