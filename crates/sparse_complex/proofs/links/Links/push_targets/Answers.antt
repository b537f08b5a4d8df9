-- Each step appends one more.
use Rattle.std.proofs.Common.{◌<◌, ◌++◌, [], ◌∷◌, map, ap, sym, subst, ◌∙◌, append_assoc, append-nil}
use Rattle.sparse_complex.specs.Inner.Lists.{outs_from}
use Rattle.sparse_complex.specs.Inner.Graph.{tos, code_at}
use Rattle.sparse_complex.proofs.WriteLemmas.{head_is, is_node-contains}
use Rattle.sparse_complex.proofs.WalkLemmas.{out-live, out-facts, out-begin, out-none}
use Rattle.sparse_complex.proofs.QueryLemmas.{on_err-from}
use Rattle.sparse_complex.proofs.links.Links.push_targets.Goals as goal

pub loop-at-init : goal.loop-at-init
loop-at-init c =
    let b = out-begin c.args.self.now c.requires.listed c.args.key _
    (head_is _ c.args.key _ c.requires.key c.index.ensures) in
    record {
      on = b.0;
      ahead = ap (λ is. c.args.into.now.items ++ map (code_at c.args.cells.now) (tos c.args.self.now is)) b.1;
    }

pub get-node-requires : goal.get-node-requires
get-node-requires c =
    is_node-contains _ _
    (out-live c.args.self.now c.requires.listed c.args.key c.loop-at.at c.loop-at.invariant.on c.loop-at-test.true)

pub bounds-cells-node : goal.bounds-cells-node
bounds-cells-node c =
    subst (λ n. c.get-node.result.to < n) (sym c.requires.cells)
    (out-facts c.args.self.now c.requires.listed c.args.key c.loop-at.at _ c.loop-at.invariant.on c.loop-at-test.true
    c.get-node.ensures.node).to_in

pub loop-at-smaller : goal.loop-at-smaller
loop-at-smaller c =
    (out-facts c.args.self.now c.requires.listed c.args.key c.loop-at.at _ c.loop-at.invariant.on c.loop-at-test.true
    c.get-node.ensures.node).smaller

pub loop-at-preserved : goal.loop-at-preserved
unfolding code_at
loop-at-preserved c =
    let s = out-facts c.args.self.now c.requires.listed c.args.key c.loop-at.at _ c.loop-at.invariant.on
    c.loop-at-test.true c.get-node.ensures.node in
    let rest =
    map (code_at c.args.cells.now)
    (tos c.args.self.now (outs_from c.args.self.now.pool.nodes c.get-node.result.next_out)) in
    record {
      on = s.on;
      ahead =
          ap (λ xs. xs ++ rest) c.in_ok-push.ensures.items
          ∙ append_assoc c.loop-at.into.items (code_at c.args.cells.now c.get-node.result.to ∷ []) rest
          ∙ ap (λ k. c.loop-at.into.items ++ code_at c.args.cells.now k ∷ rest) (sym s.to_is)
          ∙ ap (λ is. c.loop-at.into.items ++ map (code_at c.args.cells.now) (tos c.args.self.now is)) (sym s.ahead)
          ∙ c.loop-at.invariant.ahead;
    }

pub returns-clause-all : goal.returns-clause-all
returns-clause-all c =
    sym (append-nil c.loop-at.into.items)
    ∙ ap (λ is. c.loop-at.into.items ++ map (code_at c.args.cells.now) (tos c.args.self.now is))
    (sym (out-none c.args.self.now c.requires.listed c.loop-at.at c.loop-at-test.false))
    ∙ c.loop-at.invariant.ahead

pub returns-in_err-push-clause-some : goal.returns-in_err-push-clause-some
returns-in_err-push-clause-some c =
    let rest =
    map (code_at c.args.cells.now) (tos c.args.self.now (outs_from c.args.self.now.pool.nodes c.loop-at.at)) in
    on_err-from c.from_residual.result
    (rest, ap (λ xs. xs ++ rest) c.in_err-push.ensures.items ∙ c.loop-at.invariant.ahead)
