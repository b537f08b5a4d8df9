-- Each step goes through one source, or passes x.
use Rattle.std.proofs.Common.{◌<◌, sym, subst}
use Rattle.std.proofs.lemmas.Bool.{eq-eqb, ne_eqb}
use Rattle.sparse_complex.proofs.WriteLemmas.{head_is, is_node-contains}
use Rattle.sparse_complex.proofs.WalkLemmas.{in-live, in-facts, in-begin}
use Rattle.sparse_complex.proofs.FillSourceLemmas.{fill-start, fill-skip, fill-room, fill-toggle, fill-smaller, fill-end}
use Rattle.sparse_complex.proofs.links.Links.fill.Goals as goal

pub loop-at-init : goal.loop-at-init
loop-at-init c =
    let b = in-begin c.args.self.now c.requires.listed c.args.y _
    (head_is _ c.args.y _ c.requires.ends.1 c.index.ensures) in
    fill-start c.args.x c.args.y c.args.self.now c.requires.listed _ b.0 b.1 c.requires.room

pub get-node-requires : goal.get-node-requires
get-node-requires c =
    is_node-contains _ _
    (in-live c.loop-at.self c.loop-at.invariant.listed c.args.y c.loop-at.at c.loop-at.invariant.on c.loop-at-test.true)

pub toggle_from-requires-clause-ends : goal.toggle_from-requires-clause-ends
toggle_from-requires-clause-ends c =
    let s = in-facts c.loop-at.self c.loop-at.invariant.listed c.args.y c.loop-at.at _ c.loop-at.invariant.on
    c.loop-at-test.true c.get-node.ensures.node in
    (s.from_in, subst (λ w. c.args.x < w) (sym c.loop-at.invariant.width) c.requires.ends.0)

pub toggle_from-requires-clause-room : goal.toggle_from-requires-clause-room
toggle_from-requires-clause-room c =
    let s = in-facts c.loop-at.self c.loop-at.invariant.listed c.args.y c.loop-at.at _ c.loop-at.invariant.on
    c.loop-at-test.true c.get-node.ensures.node in
    fill-room c.args.x c.args.y c.args.self.now c.requires.listed c.loop-at.self c.loop-at.at c.loop-at.invariant _ s
    (ne_eqb c.get-node.result.from c.args.x c.if-node-x.true)

pub loop-at-smaller-then-node-x : goal.loop-at-smaller-then-node-x
loop-at-smaller-then-node-x c =
    let s = in-facts c.loop-at.self c.loop-at.invariant.listed c.args.y c.loop-at.at _ c.loop-at.invariant.on
    c.loop-at-test.true c.get-node.ensures.node in
    fill-smaller c.args.x c.args.y c.args.self.now c.requires.listed c.loop-at.self c.loop-at.at c.loop-at.invariant _ s
    (ne_eqb c.get-node.result.from c.args.x c.if-node-x.true) c.toggle_from.new.self c.toggle_from.ensures

pub loop-at-preserved-then-node-x : goal.loop-at-preserved-then-node-x
loop-at-preserved-then-node-x c =
    let s = in-facts c.loop-at.self c.loop-at.invariant.listed c.args.y c.loop-at.at _ c.loop-at.invariant.on
    c.loop-at-test.true c.get-node.ensures.node in
    fill-toggle c.args.x c.args.y c.args.self.now c.requires.listed c.loop-at.self c.loop-at.at c.loop-at.invariant _ s
    (ne_eqb c.get-node.result.from c.args.x c.if-node-x.true) c.toggle_from.new.self c.toggle_from.ensures

pub loop-at-smaller : goal.loop-at-smaller
loop-at-smaller c =
    (in-facts c.loop-at.self c.loop-at.invariant.listed c.args.y c.loop-at.at _ c.loop-at.invariant.on
    c.loop-at-test.true c.get-node.ensures.node).smaller

pub loop-at-preserved : goal.loop-at-preserved
loop-at-preserved c =
    let s = in-facts c.loop-at.self c.loop-at.invariant.listed c.args.y c.loop-at.at _ c.loop-at.invariant.on
    c.loop-at-test.true c.get-node.ensures.node in
    fill-skip c.args.x c.args.y c.args.self.now c.requires.listed c.loop-at.self c.loop-at.at c.loop-at.invariant _ s
    (eq-eqb c.get-node.result.from c.args.x c.if-node-x.false)

pub returns : goal.returns
returns c =
    fill-end c.args.x c.args.y c.args.self.now c.requires.listed c.loop-at.self c.loop-at.at c.loop-at.invariant
    c.loop-at-test.false
