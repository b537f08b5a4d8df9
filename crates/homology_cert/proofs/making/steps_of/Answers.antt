-- Each entry in turn.
use Rattle.std.proofs.Common.{◌≡◌, ◌++◌, ◌∙◌, [], drop, take, length, get_or, w32, sym, ap, subst, append-nil, ◌+◌, ◌≤◌, Vec, Global, arith}
use Rattle.std.proofs.lemmas.Int.{to_z-of_z}
use Rattle.std.proofs.lemmas.List.{drop_all, length-map}
use mir.Val.{of_z, to_z}
use Rattle.f2_algebra.specs.Chain.{single}
use Rattle.f2_algebra.specs.Cancel.{IsLog, lift, pull}
use Rattle.f2_algebra.specs.Bigraded.{at_alexander}
use Rattle.torus_geom.specs.Inner.GridComplex.{grid_complex}
use Rattle.homology_cert.specs.declared.certificates.StepPair.{StepPair}
use Rattle.cancel.specs.declared.logs.LogEntry.{LogEntry}
use Rattle.cancel.specs.Logs.{log_of, entry_of}
use Rattle.homology_cert.specs.Inner.CodeTests.{has_bidegree}
use Rattle.homology_cert.specs.Inner.Making.{steps_after}
use Rattle.homology_cert.proofs.Made.MakingLemmas.{steps-pushed, steps-kept, sources-below}
use Rattle.homology_cert.proofs.making.steps_of.Goals as goal
use Rattle.homology_cert.proofs.making.steps_of.Goals.{then-has_bidegree+in_ok-step+in_ok-probe+in_ok-push, else-has_bidegree}

pub loop-k-init : goal.loop-k-init
loop-k-init c =
    ap (λ xs. xs ++ steps_after (has_bidegree c.args.g.now (to_z w32 (of_z w32 c.args.m), to_z w32 (of_z w32 c.args.a)))
    [] (log_of c.entries-entries.result.now)) c.new-pairs.ensures.items

pub has_bidegree-requires : goal.has_bidegree-requires
has_bidegree-requires c =
    sources-below c.args.g.now c.size-size.ensures.grid c.args.a c.entries-entries.result.now
    (subst (λ entries. IsLog (at_alexander c.args.a (grid_complex c.args.g.now)) (log_of entries))
    (sym c.entries-entries.ensures.entries) c.requires) c.loop-k.k _ c.loop-k-test.true

pub lift_before-requires : goal.lift_before-requires
lift_before-requires c = let same = ap length c.entries-entries.ensures.entries in let below =
    c.loop-k-test.true in omega (arith, same, below)

pub pull_before-requires : goal.pull_before-requires
pull_before-requires c = let same = ap length c.entries-entries.ensures.entries in let below =
    c.loop-k-test.true in omega (arith, same, below)

pub loop-k-preserved : goal.loop-k-preserved
loop-k-preserved c =
    let p = has_bidegree c.args.g.now (to_z w32 (of_z w32 c.args.m), to_z w32 (of_z w32 c.args.a)) in
    let entries = c.entries-entries.result.now in
    let none : LogEntry = record {
      x = 0;
      y = 0;
      sources = record { ref_ptr = (0, 0); now = [] };
      targets =
          record { ref_ptr = (0, 0); now = [] };
    } in
    let entry = get_or entries c.loop-k.k none in
    elim c.if-has_bidegree.branch [
      | then-has_bidegree+in_ok-step+in_ok-probe+in_ok-push w ↦
          steps-pushed p entries c.loop-k.k none c.loop-k.pairs.items c.if-has_bidegree.pairs.items w.in_ok-step.step
          w.in_ok-probe.probe c.loop-k-test.true c.loop-k.invariant
          (sym c.has_bidegree.ensures ∙ w.if-has_bidegree.true)
          (w.in_ok-step.ensures.lift ∙ ap (λ xs. lift (take c.loop-k.k (log_of xs)) (single entry.x))
          (sym c.entries-entries.ensures.entries))
          (w.in_ok-probe.ensures.map ∙ ap (λ xs. pull (take c.loop-k.k (log_of xs)) (single entry.y))
          (sym c.entries-entries.ensures.entries))
          (ap (λ pairs. pairs.items) w.pairs-is ∙ w.in_ok-push.ensures.items)
      | else-has_bidegree w ↦
          subst (λ (pairs : Vec StepPair Global). pairs.items ++ steps_after p (take (c.loop-k.k + 1) (log_of entries))
          (drop (c.loop-k.k + 1) (log_of entries)) ≡ steps_after p [] (log_of entries)) (sym w.pairs-is)
          (steps-kept p entries c.loop-k.k none c.loop-k.pairs.items c.loop-k-test.true c.loop-k.invariant
          (sym c.has_bidegree.ensures ∙ w.if-has_bidegree.false))
    ]

pub returns : goal.returns
returns c =
    let p = has_bidegree c.args.g.now (to_z w32 (of_z w32 c.args.m), to_z w32 (of_z w32 c.args.a)) in
    let log = log_of c.entries-entries.result.now in
    let long = length-map c.entries-entries.result.now entry_of in
    let end = c.loop-k-test.false in
    let all : length log ≤ c.loop-k.k = omega (arith, long, end) in
    sym (append-nil c.loop-k.pairs.items)
    ∙ sym (ap (λ xs. c.loop-k.pairs.items ++ steps_after p (take c.loop-k.k log) xs) (drop_all c.loop-k.k log all))
    ∙ c.loop-k.invariant
    ∙ (λ i. steps_after (has_bidegree c.args.g.now (
      to_z-of_z w32 c.args.m c.ranges.m i,
      to_z-of_z w32 c.args.a c.ranges.a
          i,
    )) [] (log_of (c.entries-entries.ensures.entries i)))
