use Rattle.std.proofs.Common.{sym, ap, ◌∙◌, arith, Some}
use Rattle.std.specs.FinMap.{get, contains_key}
use Rattle.node_pool.specs.Inner.FreeList.{free_ids}
use Rattle.node_pool.proofs.FreeListLemmas.{live_place, get-live_map_live}
use Rattle.node_pool.proofs.pools.Pool.get.Goals as goal

pub read-requires : goal.read-requires
read-requires c =
    let p = c.self.inside in
    let a = live_place p.nodes (free_ids p.nodes p.free p.head) p.fresh c.args.id
    (ap (λ v. contains_key v.nodes c.args.id) c.self.view_is ∙ c.requires) in
    omega (arith, a.0, c.self.invariant.begun, c.self.invariant.room)

pub returns-clause-node : goal.returns-clause-node
returns-clause-node c =
    let p = c.self.inside in let gone = free_ids p.nodes p.free p.head in
    let a = live_place p.nodes gone p.fresh c.args.id
    (ap (λ v. contains_key v.nodes c.args.id) c.self.view_is ∙ c.requires) in
    sym (ap (λ v. get v.nodes c.args.id) c.self.view_is) ∙ get-live_map_live p.nodes gone p.fresh c.args.id a
    ∙ ap (λ n. Some n) (sym c.read.ensures)

pub returns-clause-id : goal.returns-clause-id
returns-clause-id c =
    let p = c.self.inside in
    let a = live_place p.nodes (free_ids p.nodes p.free p.head) p.fresh c.args.id
    (ap (λ v. contains_key v.nodes c.args.id) c.self.view_is ∙ c.requires) in
    omega (arith, a.0, c.self.invariant.begun, c.self.invariant.room, c.self.invariant.small)
