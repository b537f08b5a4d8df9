-- Each step counts one more, unless it is the one that is left out.
use Rattle.std.proofs.Common.{◌∷◌, ap, ◌∙◌, length, arith}
use Rattle.sparse_complex.specs.Inner.Lists.{node_at, outs_from}
use Rattle.sparse_complex.specs.Inner.Graph.{outs_of, tos, targets, others}
use Rattle.sparse_complex.proofs.WriteLemmas.{head_is, is_node-contains}
use Rattle.sparse_complex.proofs.WalkLemmas.{out-live, out-facts, out-begin, out-none, out-length}
use Rattle.sparse_complex.proofs.GraphLemmas.{length-map}
use Rattle.sparse_complex.proofs.CountLemmas.{counted_step, others-shorter}
use Rattle.sparse_complex.proofs.links.Links.count_out.Goals as goal

pub loop-at-init : goal.loop-at-init
loop-at-init c =
    let b = out-begin c.args.self.now c.requires.listed c.args.key _
    (head_is _ c.args.key _ c.requires.key c.index.ensures) in
    record { on = b.0; ahead = omega (arith, ap (λ is. length (others c.args.target (tos c.args.self.now is))) b.1) }

pub overflow_add-count : goal.overflow_add-count
overflow_add-count c =
    let s = out-facts c.args.self.now c.requires.listed c.args.key c.loop-at.at _ c.loop-at.invariant.on
    c.loop-at-test.true c.get-node.ensures.node in
    let ks = targets c.args.self.now c.args.key in
    let next = counted_step c.args.target c.loop-at.count c.from-count.result _ c.get-node.result.to _ _
    (ap (tos c.args.self.now) s.ahead
    ∙ ap (λ k. k ∷ tos c.args.self.now (outs_from c.args.self.now.pool.nodes c.get-node.result.next_out)) s.to_is)
    c.from-count.ensures c.loop-at.invariant.ahead in
    let m = out-length c.args.self.now c.requires.listed c.args.key in
    let few = others-shorter c.args.target ks in
    let long = length-map (λ i. (node_at c.args.self.now.pool.nodes i).to) (outs_of c.args.self.now c.args.key) in
    omega arith

pub get-node-requires : goal.get-node-requires
get-node-requires c =
    is_node-contains _ _
    (out-live c.args.self.now c.requires.listed c.args.key c.loop-at.at c.loop-at.invariant.on c.loop-at-test.true)

pub loop-at-smaller : goal.loop-at-smaller
loop-at-smaller c =
    (out-facts c.args.self.now c.requires.listed c.args.key c.loop-at.at _ c.loop-at.invariant.on c.loop-at-test.true
    c.get-node.ensures.node).smaller

pub loop-at-preserved : goal.loop-at-preserved
loop-at-preserved c =
    let s = out-facts c.args.self.now c.requires.listed c.args.key c.loop-at.at _ c.loop-at.invariant.on
    c.loop-at-test.true c.get-node.ensures.node in
    record {
      on = s.on;
      ahead = counted_step c.args.target c.loop-at.count c.from-count.result _ c.get-node.result.to _ _
          (ap (tos c.args.self.now) s.ahead
          ∙ ap (λ k. k ∷ tos c.args.self.now (outs_from c.args.self.now.pool.nodes c.get-node.result.next_out)) s.to_is)
          c.from-count.ensures c.loop-at.invariant.ahead;
    }

pub returns : goal.returns
returns c =
    let n = c.loop-at.invariant.ahead in
    omega (
      arith,
      n,
      ap (λ is. length (others c.args.target (tos c.args.self.now is)))
          (out-none c.args.self.now c.requires.listed c.loop-at.at c.loop-at-test.false),
    )
