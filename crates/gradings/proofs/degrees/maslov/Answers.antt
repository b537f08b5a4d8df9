use Rattle.std.proofs.Common.{◌∙◌, length, arith}
use Rattle.std.proofs.lemmas.Int.{ints}
use Rattle.torus_geom.proofs.Sums.RunningSums.{IsSum-more, IsSum-all}
use Rattle.gradings.proofs.MaslovLemmas.{gain-take, maslov-gains}
use Rattle.gradings.proofs.degrees.maslov.Goals as goal

pub loop-c-preserved : goal.loop-c-preserved
loop-c-preserved c =
    let term = c.gain-sum.ensures in
    let inside = c.loop-c-test.true in
    let value = term.value ∙ gain-take c.args.marks.now c.args.points.now c.loop-c.c c.requires.points.long inside in
    IsSum-more _ _ _ _ _ _ c.loop-c.invariant value term.low term.high (omega (arith, ints))

pub returns-clause-degree : goal.returns-clause-degree
returns-clause-degree c =
    let all = IsSum-all _ _ _ _ (length c.args.marks.now) c.loop-c.invariant (omega arith) in
    let law =
    maslov-gains (length c.args.marks.now) c.args.marks.now c.args.points.now c.requires.marks c.requires.points in
    omega (arith, ints)
