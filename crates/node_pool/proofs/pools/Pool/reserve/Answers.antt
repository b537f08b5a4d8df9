use Rattle.std.proofs.Common.{◌∙◌, ap, arith}
use Rattle.node_pool.proofs.PoolCallLemmas.{grows}
use Rattle.node_pool.proofs.FreeListLemmas.{length-longer}
use Rattle.node_pool.proofs.pools.Pool.reserve.Goals as goal

pub invariant_of-self : goal.invariant_of-self
invariant_of-self c =
    let p = c.self.inside in let ms = c.grow_to.new.nodes in let kept = c.grow_to.ensures.kept in
    (grows p.nodes ms p.head p.free p.fresh p.limit p.limit kept
    (omega (arith, c.self.invariant.room, length-longer p.nodes ms kept)) c.self.invariant.begun
    c.grow_to.ensures.bound c.self.invariant).0

pub returns-in_err-grow_to-clause-nodes : goal.returns-in_err-grow_to-clause-nodes
returns-in_err-grow_to-clause-nodes c =
    let p = c.self.inside in let ms = c.grow_to.new.nodes in let kept = c.grow_to.ensures.kept in
    (grows p.nodes ms p.head p.free p.fresh p.limit p.limit kept
    (omega (arith, c.self.invariant.room, length-longer p.nodes ms kept)) c.self.invariant.begun
    c.grow_to.ensures.bound c.self.invariant).1
    ∙ ap (λ v. v.nodes) c.self.view_is

pub invariant_of-self-2 : goal.invariant_of-self-2
invariant_of-self-2 c =
    let p = c.self.inside in let ms = c.grow_to.new.nodes in let kept = c.grow_to.ensures.kept in
    let n = c.len-self-inside.result in
    (grows p.nodes ms p.head p.free p.fresh p.limit n kept (omega (arith, c.len-self-inside.ensures.count))
    (omega (
      arith,
      c.len-self-inside.ensures.count,
      c.self.invariant.begun,
      c.self.invariant.room,
      length-longer p.nodes ms kept,
    )) c.grow_to.ensures.bound c.self.invariant).0

pub returns-clause-nodes : goal.returns-clause-nodes
returns-clause-nodes c =
    let p = c.self.inside in let ms = c.grow_to.new.nodes in let kept = c.grow_to.ensures.kept in
    let n = c.len-self-inside.result in
    (grows p.nodes ms p.head p.free p.fresh p.limit n kept (omega (arith, c.len-self-inside.ensures.count))
    (omega (
      arith,
      c.len-self-inside.ensures.count,
      c.self.invariant.begun,
      c.self.invariant.room,
      length-longer p.nodes ms kept,
    )) c.grow_to.ensures.bound c.self.invariant).1
    ∙ ap (λ v. v.nodes) c.self.view_is
