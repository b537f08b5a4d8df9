-- Each step toggles one arrow, or passes y.
use Rattle.std.proofs.Common.{◌<◌, sym, subst}
use Rattle.std.proofs.lemmas.Bool.{eq-eqb, ne_eqb}
use Rattle.sparse_complex.proofs.WriteLemmas.{head_is, is_node-contains}
use Rattle.sparse_complex.proofs.WalkLemmas.{out-live, out-facts, out-begin}
use Rattle.sparse_complex.proofs.FillLemmas.{from-start, from-skip, from-room, from-toggle, from-smaller, from-end}
use Rattle.sparse_complex.proofs.links.Links.toggle_from.Goals as goal

pub loop-at-init : goal.loop-at-init
loop-at-init c =
    let b = out-begin c.args.self.now c.requires.listed c.args.x _
    (head_is _ c.args.x _ c.requires.ends.1 c.index.ensures) in
    from-start c.args.from c.args.x c.args.y c.args.self.now c.requires.listed _ b.0 b.1

pub get-node-requires : goal.get-node-requires
get-node-requires c =
    is_node-contains _ _
    (out-live c.loop-at.self c.loop-at.invariant.listed c.args.x c.loop-at.at c.loop-at.invariant.on
    c.loop-at-test.true)

pub toggle-requires-clause-ends : goal.toggle-requires-clause-ends
toggle-requires-clause-ends c =
    let s = out-facts c.loop-at.self c.loop-at.invariant.listed c.args.x c.loop-at.at _ c.loop-at.invariant.on
    c.loop-at-test.true c.get-node.ensures.node in
    (subst (λ w. c.args.from < w) (sym c.loop-at.invariant.width) c.requires.ends.0, s.to_in)

pub toggle-requires-clause-room : goal.toggle-requires-clause-room
toggle-requires-clause-room c =
    let s = out-facts c.loop-at.self c.loop-at.invariant.listed c.args.x c.loop-at.at _ c.loop-at.invariant.on
    c.loop-at-test.true c.get-node.ensures.node in
    from-room c.args.from c.args.x c.args.y c.args.self.now c.requires.listed c.loop-at.self c.loop-at.at
    c.loop-at.invariant _ s (ne_eqb c.get-node.result.to c.args.y c.if-node-y.true) c.requires.room

pub loop-at-smaller-then-node-y : goal.loop-at-smaller-then-node-y
loop-at-smaller-then-node-y c =
    let s = out-facts c.loop-at.self c.loop-at.invariant.listed c.args.x c.loop-at.at _ c.loop-at.invariant.on
    c.loop-at-test.true c.get-node.ensures.node in
    from-smaller c.args.from c.args.x c.args.y c.args.self.now c.requires.listed c.loop-at.self c.loop-at.at
    c.loop-at.invariant _ s
    (ne_eqb c.get-node.result.to c.args.y c.if-node-y.true) c.requires.distinct c.toggle.new.self c.toggle.ensures

pub loop-at-preserved-then-node-y : goal.loop-at-preserved-then-node-y
loop-at-preserved-then-node-y c =
    let s = out-facts c.loop-at.self c.loop-at.invariant.listed c.args.x c.loop-at.at _ c.loop-at.invariant.on
    c.loop-at-test.true c.get-node.ensures.node in
    from-toggle c.args.from c.args.x c.args.y c.args.self.now c.requires.listed c.loop-at.self c.loop-at.at
    c.loop-at.invariant _ s
    (ne_eqb c.get-node.result.to c.args.y c.if-node-y.true) c.requires.distinct c.toggle.new.self c.toggle.ensures

pub loop-at-smaller : goal.loop-at-smaller
loop-at-smaller c =
    (out-facts c.loop-at.self c.loop-at.invariant.listed c.args.x c.loop-at.at _ c.loop-at.invariant.on
    c.loop-at-test.true c.get-node.ensures.node).smaller

pub loop-at-preserved : goal.loop-at-preserved
loop-at-preserved c =
    let s = out-facts c.loop-at.self c.loop-at.invariant.listed c.args.x c.loop-at.at _ c.loop-at.invariant.on
    c.loop-at-test.true c.get-node.ensures.node in
    from-skip c.args.from c.args.x c.args.y c.args.self.now c.requires.listed c.loop-at.self c.loop-at.at
    c.loop-at.invariant _ s (eq-eqb c.get-node.result.to c.args.y c.if-node-y.false)

pub returns : goal.returns
returns c =
    from-end c.args.from c.args.x c.args.y c.args.self.now c.requires.listed c.loop-at.self c.loop-at.at
    c.loop-at.invariant c.loop-at-test.false
