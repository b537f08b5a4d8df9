-- The larger of two targets is one.
use Rattle.std.proofs.Common.{◌≡◌, true}
use Rattle.sparse_complex.specs.Inner.Graph.{has_arrow}
use Rattle.sparse_complex.proofs.WriteLemmas.{head_is, is_node-contains}
use Rattle.sparse_complex.proofs.WalkLemmas.{out-live, out-facts, out-begin}
use Rattle.sparse_complex.proofs.ArrowChangeLemmas.{larger, one_of, some_id}
use Rattle.sparse_complex.proofs.links.Links.last_target.Goals as goal

pub get-first-requires : goal.get-first-requires
get-first-requires c =
    let e = head_is _ c.args.key _ c.requires.key c.index.ensures in
    is_node-contains _ _ (out-live c.args.self.now c.requires.listed c.args.key _
    (out-begin c.args.self.now c.requires.listed c.args.key _ e).0 (some_id _ _ c.requires.some e))

pub loop-at-init : goal.loop-at-init
loop-at-init c =
    let e = head_is _ c.args.key _ c.requires.key c.index.ensures in
    let s = out-facts c.args.self.now c.requires.listed c.args.key _ _
    (out-begin c.args.self.now c.requires.listed c.args.key _ e).0
    (some_id _ _ c.requires.some e) c.get-first.ensures.node in
    record { on = s.on; one = s.arrow }

pub get-node-requires : goal.get-node-requires
get-node-requires c =
    is_node-contains _ _
    (out-live c.args.self.now c.requires.listed c.args.key c.loop-at.at c.loop-at.invariant.on c.loop-at-test.true)

pub loop-at-smaller : goal.loop-at-smaller
loop-at-smaller c =
    (out-facts c.args.self.now c.requires.listed c.args.key c.loop-at.at _ c.loop-at.invariant.on c.loop-at-test.true
    c.get-node.ensures.node).smaller

pub loop-at-preserved : goal.loop-at-preserved
loop-at-preserved c =
    let s = out-facts c.args.self.now c.requires.listed c.args.key c.loop-at.at _ c.loop-at.invariant.on
    c.loop-at-test.true c.get-node.ensures.node in
    record {
      on = s.on;
      one = larger (λ k. has_arrow c.args.self.now c.args.key k
          ≡ true) c.loop-at.last c.get-node.result.to c.max-last.result
          (one_of c.loop-at.last c.get-node.result.to c.max-last.result c.max-last.ensures) c.loop-at.invariant.one
          s.arrow;
    }
