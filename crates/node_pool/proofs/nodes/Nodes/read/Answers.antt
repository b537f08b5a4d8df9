use Rattle.std.proofs.Common.{◌<◌, ◌%◌, ◌/◌, sym, ap, ◌∙◌, subst, length}
use Rattle.node_pool.specs.Inner.Chunks.{node_at}
use Rattle.node_pool.proofs.ChunkLemmas.{chunk_place, length-get_or_whole, node_at-joined}
use Rattle.node_pool.proofs.nodes.Nodes.read.Goals as goal

pub index-chunk-requires : goal.index-chunk-requires
index-chunk-requires c =
    subst (λ n. c.args.id / 4096 < n) (sym c.self.inside.chunks.ok.0)
    (chunk_place c.self.inside.chunks.items c.args.id c.self.invariant.0
    (subst (λ ns. c.args.id < length ns) (sym c.self.view_is) c.requires)).0

pub read-requires : goal.read-requires
read-requires c =
    let whole = c.self.invariant.0 in let cs = c.self.inside.chunks.items in let id = c.args.id in
    let chunk = c.index-chunk.result.now in
    let there = chunk_place cs id whole (subst (λ ns. id < length ns) (sym c.self.view_is) c.requires) in
    (there.1, ap (λ x. length x) c.index-chunk.ensures ∙ length-get_or_whole cs (id / 4096) chunk whole there.0)

pub returns : goal.returns
returns c =
    let whole = c.self.invariant.0 in let cs = c.self.inside.chunks.items in let id = c.args.id in
    let chunk = c.index-chunk.result.now in
    let there = chunk_place cs id whole (subst (λ ns. id < length ns) (sym c.self.view_is) c.requires) in
    c.read.ensures ∙ ap (λ x. node_at x (id % 4096)) c.index-chunk.ensures
    ∙ sym (node_at-joined cs id chunk whole there.0 there.1) ∙ ap (λ x. node_at x id) c.self.view_is
