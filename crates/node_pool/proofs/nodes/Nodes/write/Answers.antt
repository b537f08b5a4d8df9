use Rattle.std.proofs.Common.{◌≡◌, ◌<◌, ◌≤◌, ◌%◌, ◌/◌, ◌^◌, sym, ap, ◌∙◌, subst, length, set, length-set}
use Rattle.node_pool.proofs.ChunkLemmas.{chunk_place, length-get_or_whole, joined-set, AreWhole-set}
use Rattle.node_pool.proofs.nodes.Nodes.write.Goals as goal

pub index_mut-chunk-requires : goal.index_mut-chunk-requires
index_mut-chunk-requires c =
    subst (λ n. c.args.id / 4096 < n) (sym c.self.inside.chunks.ok.0)
    (chunk_place c.self.inside.chunks.items c.args.id c.self.invariant.0
    (subst (λ ns. c.args.id < length ns) (sym c.self.view_is) c.requires)).0

pub write-requires : goal.write-requires
write-requires c =
    let whole = c.self.invariant.0 in let cs = c.self.inside.chunks.items in let id = c.args.id in
    let chunk = c.index_mut-chunk.result.now in
    let there = chunk_place cs id whole (subst (λ ns. id < length ns) (sym c.self.view_is) c.requires) in (
      there.1,
      ap (λ x. length x) c.index_mut-chunk.ensures.value ∙ length-get_or_whole cs (id / 4096) chunk whole there.0,
    )

pub invariant_of-self : goal.invariant_of-self
invariant_of-self c =
    let whole = c.self.invariant.0 in let cs = c.self.inside.chunks.items in let id = c.args.id in
    let chunk = c.index_mut-chunk.result.now in
    let there = chunk_place cs id whole (subst (λ ns. id < length ns) (sym c.self.view_is) c.requires) in
    let size : length c.write.new.self ≡ 4096 = ap (λ x. length x) c.write.ensures
    ∙ length-set chunk (id % 4096) c.args.node ∙ ap (λ x. length x) c.index_mut-chunk.ensures.value
    ∙ length-get_or_whole cs (id / 4096) chunk whole there.0 in (
      AreWhole-set cs (id / 4096) c.write.new.self whole size,
      subst (λ n. n ≤ 2 ^ 37) (sym (length-set cs (id / 4096) c.write.new.self)) c.self.invariant.1,
    )

pub returns : goal.returns
returns c =
    let whole = c.self.invariant.0 in let cs = c.self.inside.chunks.items in let id = c.args.id in
    let chunk = c.index_mut-chunk.result.now in
    let there = chunk_place cs id whole (subst (λ ns. id < length ns) (sym c.self.view_is) c.requires) in
    ap (λ x. Rattle.node_pool.specs.Inner.Chunks.joined (set cs (id / 4096) x))
    (c.write.ensures ∙ ap (λ x. set x (id % 4096) c.args.node) c.index_mut-chunk.ensures.value)
    ∙ joined-set cs id chunk c.args.node whole there.0 there.1 ∙ ap (λ x. set x id c.args.node) c.self.view_is
