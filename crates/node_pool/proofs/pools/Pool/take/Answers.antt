use Rattle.std.proofs.Common.{◌+◌, ◌-◌, List, sym, ap, ◌∙◌, subst, arith}
use Rattle.std.specs.FinMap.{get, insert}
use Rattle.node_pool.specs.declared.Node.{Node}
use Rattle.node_pool.specs.Inner.FreeList.{free_ids, live_map, IsPool}
use Rattle.node_pool.proofs.PoolCallLemmas.{takes_given_back, takes_fresh}
use Rattle.node_pool.proofs.pools.Pool.take.Goals as goal

pub invariant_of-self : goal.invariant_of-self
invariant_of-self c =
    let p = c.self.inside in
    subst (λ (s : List Node × Node). IsPool s.0 s.1.next_out (p.free - 1) p.fresh p.limit)
    (λ i. (sym c.write.ensures i, sym c.read.ensures i))
    (takes_given_back p.nodes p.head p.free p.fresh p.limit c.args.node c.if-self-gt0.true c.self.invariant).0

pub returns-then-self-gt0-clause-new : goal.returns-then-self-gt0-clause-new
returns-then-self-gt0-clause-new c =
    let p = c.self.inside in
    sym (ap (λ v. get v.nodes p.head) c.self.view_is)
    ∙ (takes_given_back p.nodes p.head p.free p.fresh p.limit c.args.node c.if-self-gt0.true c.self.invariant).2

pub returns-then-self-gt0-clause-nodes : goal.returns-then-self-gt0-clause-nodes
returns-then-self-gt0-clause-nodes c =
    let p = c.self.inside in
    ap (λ (s : List Node × Node). live_map s.0 (free_ids s.0 (p.free - 1) s.1.next_out) p.fresh)
    (λ i. (c.write.ensures i, c.read.ensures i))
    ∙ (takes_given_back p.nodes p.head p.free p.fresh p.limit c.args.node c.if-self-gt0.true c.self.invariant).1
    ∙ ap (λ v. insert v.nodes p.head c.args.node) c.self.view_is

pub invariant_of-self-2 : goal.invariant_of-self-2
invariant_of-self-2 c =
    let p = c.self.inside in
    subst (λ ns. IsPool ns p.head p.free (p.fresh + 1) p.limit) (sym c.write-2.ensures)
    (takes_fresh p.nodes p.head p.free p.fresh p.limit c.args.node
    (omega (arith, c.if-self-gt0.false, ap (λ v. v.spare) c.self.view_is, c.requires, c.self.invariant.begun))
    c.self.invariant).0

pub returns-clause-new : goal.returns-clause-new
returns-clause-new c =
    let p = c.self.inside in
    sym (ap (λ v. get v.nodes p.fresh) c.self.view_is)
    ∙ (takes_fresh p.nodes p.head p.free p.fresh p.limit c.args.node
    (omega (arith, c.if-self-gt0.false, ap (λ v. v.spare) c.self.view_is, c.requires, c.self.invariant.begun))
    c.self.invariant).2

pub returns-clause-nodes : goal.returns-clause-nodes
returns-clause-nodes c =
    let p = c.self.inside in
    ap (λ ns. live_map ns (free_ids ns p.free p.head) (p.fresh + 1)) c.write-2.ensures
    ∙ (takes_fresh p.nodes p.head p.free p.fresh p.limit c.args.node
    (omega (arith, c.if-self-gt0.false, ap (λ v. v.spare) c.self.view_is, c.requires, c.self.invariant.begun))
    c.self.invariant).1
    ∙ ap (λ v. insert v.nodes p.fresh c.args.node) c.self.view_is
