-- Each step counts one more, unless it is the one that is left out.
use Rattle.std.proofs.Common.{◌∷◌, ap, ◌∙◌, length, arith}
use Rattle.sparse_complex.specs.Inner.Lists.{node_at, ins_from}
use Rattle.sparse_complex.specs.Inner.Graph.{ins_of, froms, sources, others}
use Rattle.sparse_complex.proofs.WriteLemmas.{head_is, is_node-contains}
use Rattle.sparse_complex.proofs.WalkLemmas.{in-live, in-facts, in-begin, in-none, in-length}
use Rattle.sparse_complex.proofs.GraphLemmas.{length-map}
use Rattle.sparse_complex.proofs.CountLemmas.{counted_step, others-shorter}
use Rattle.sparse_complex.proofs.links.Links.count_in.Goals as goal

pub loop-at-init : goal.loop-at-init
loop-at-init c =
    let b = in-begin c.args.self.now c.requires.listed c.args.key _
    (head_is _ c.args.key _ c.requires.key c.index.ensures) in
    record { on = b.0; ahead = omega (arith, ap (λ is. length (others c.args.source (froms c.args.self.now is))) b.1) }

pub overflow_add-count : goal.overflow_add-count
overflow_add-count c =
    let s = in-facts c.args.self.now c.requires.listed c.args.key c.loop-at.at _ c.loop-at.invariant.on
    c.loop-at-test.true c.get-node.ensures.node in
    let ks = sources c.args.self.now c.args.key in
    let next = counted_step c.args.source c.loop-at.count c.from-count.result _ c.get-node.result.from _ _
    (ap (froms c.args.self.now) s.ahead
    ∙ ap (λ k. k ∷ froms c.args.self.now (ins_from c.args.self.now.pool.nodes c.get-node.result.next_in)) s.from_is)
    c.from-count.ensures c.loop-at.invariant.ahead in
    let m = in-length c.args.self.now c.requires.listed c.args.key in
    let few = others-shorter c.args.source ks in
    let long = length-map (λ i. (node_at c.args.self.now.pool.nodes i).from) (ins_of c.args.self.now c.args.key) in
    omega arith

pub get-node-requires : goal.get-node-requires
get-node-requires c =
    is_node-contains _ _
    (in-live c.args.self.now c.requires.listed c.args.key c.loop-at.at c.loop-at.invariant.on c.loop-at-test.true)

pub loop-at-smaller : goal.loop-at-smaller
loop-at-smaller c =
    (in-facts c.args.self.now c.requires.listed c.args.key c.loop-at.at _ c.loop-at.invariant.on c.loop-at-test.true
    c.get-node.ensures.node).smaller

pub loop-at-preserved : goal.loop-at-preserved
loop-at-preserved c =
    let s = in-facts c.args.self.now c.requires.listed c.args.key c.loop-at.at _ c.loop-at.invariant.on
    c.loop-at-test.true c.get-node.ensures.node in
    record {
      on = s.on;
      ahead = counted_step c.args.source c.loop-at.count c.from-count.result _ c.get-node.result.from _ _
          (ap (froms c.args.self.now) s.ahead
          ∙ ap (λ k. k ∷ froms c.args.self.now
          (ins_from c.args.self.now.pool.nodes c.get-node.result.next_in)) s.from_is)
          c.from-count.ensures c.loop-at.invariant.ahead;
    }

pub returns : goal.returns
returns c =
    let n = c.loop-at.invariant.ahead in
    omega (
      arith,
      n,
      ap (λ is. length (others c.args.source (froms c.args.self.now is)))
          (in-none c.args.self.now c.requires.listed c.loop-at.at c.loop-at-test.false),
    )
