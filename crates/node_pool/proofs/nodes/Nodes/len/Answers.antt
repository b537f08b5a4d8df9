use Rattle.std.proofs.Common.{sym, ap, ◌∙◌, length, ◌*◌}
use Rattle.node_pool.proofs.ChunkLemmas.{length-joined}
use Rattle.node_pool.proofs.nodes.Nodes.len.Goals as goal

pub returns-clause-count : goal.returns-clause-count
returns-clause-count c =
    ap (λ n. n * 4096) (c.len.ensures ∙ c.self.inside.chunks.ok.0)
    ∙ sym (length-joined c.self.inside.chunks.items c.self.invariant.0) ∙ ap (λ ns. length ns) c.self.view_is
