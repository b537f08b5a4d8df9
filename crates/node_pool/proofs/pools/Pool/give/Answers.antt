use Rattle.std.proofs.Common.{◌+◌, refl, sym, ap, ◌∙◌, subst, arith}
use Rattle.std.specs.FinMap.{contains_key, remove}
use Rattle.node_pool.specs.Inner.FreeList.{free_ids, live_map, IsPool}
use Rattle.node_pool.proofs.FreeListLemmas.{live_place}
use Rattle.node_pool.proofs.PoolCallLemmas.{gives_back}
use Rattle.node_pool.proofs.pools.Pool.give.Goals as goal

pub write-requires : goal.write-requires
write-requires c =
    let p = c.self.inside in
    let a = live_place p.nodes (free_ids p.nodes p.free p.head) p.fresh c.args.id
    (ap (λ v. contains_key v.nodes c.args.id) c.self.view_is ∙ c.requires) in
    omega (arith, a.0, c.self.invariant.begun, c.self.invariant.room)

pub invariant_of-self : goal.invariant_of-self
invariant_of-self c =
    let p = c.self.inside in
    subst (λ ns. IsPool ns c.args.id (p.free + 1) p.fresh p.limit) (sym c.write.ensures)
    (gives_back p.nodes p.head p.free p.fresh p.limit c.args.id _ refl
    (ap (λ v. contains_key v.nodes c.args.id) c.self.view_is ∙ c.requires) c.self.invariant).0

pub returns-clause-nodes : goal.returns-clause-nodes
returns-clause-nodes c =
    let p = c.self.inside in
    ap (λ ns. live_map ns (free_ids ns (p.free + 1) c.args.id) p.fresh) c.write.ensures
    ∙ (gives_back p.nodes p.head p.free p.fresh p.limit c.args.id _ refl
    (ap (λ v. contains_key v.nodes c.args.id) c.self.view_is ∙ c.requires) c.self.invariant).1
    ∙ ap (λ v. remove v.nodes c.args.id) c.self.view_is
