use Rattle.std.proofs.Common.{◌+◌, arith}
use Rattle.homology_cert.specs.Inner.CodeTests.{has_bidegree}
use Rattle.homology_cert.proofs.Certified.CheckLemmas.{ascending-count, counted}
use Rattle.homology_cert.proofs.checks.state_count_at.Goals as goal

pub overflow_add-count : goal.overflow_add-count
overflow_add-count c =
    let test = has_bidegree c.args.g.now (c.args.d.now.m, c.args.d.now.a) in
    let more =
    counted test c.loop-code.code c.loop-code.count c.from-count.result c.has_bidegree.result c.loop-code.invariant
    c.has_bidegree.ensures c.from-count.ensures in
    let bound = ascending-count test (c.loop-code.code + 1) in
    omega arith

pub loop-code-preserved : goal.loop-code-preserved
loop-code-preserved c =
    counted (has_bidegree c.args.g.now (c.args.d.now.m, c.args.d.now.a)) c.loop-code.code c.loop-code.count
    c.from-count.result c.has_bidegree.result c.loop-code.invariant c.has_bidegree.ensures c.from-count.ensures
