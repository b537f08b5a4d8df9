-- A node more, and four writes.
use Rattle.std.proofs.Common.{◌≡◌, ap, ◌∙◌}
use Rattle.sparse_complex.specs.Inner.Lists.{no_id, is_node, with_prev_out, with_prev_in, with_first_out, with_first_in, linked_nodes, linked_heads}
use Rattle.sparse_complex.proofs.WriteLemmas.{head_is, can_link, none_is_node, small_id, linked_nodes-is, linked_heads-is, AreInLists-same}
use Rattle.sparse_complex.proofs.PutInLemmas.{AreInLists-linked}
use Rattle.sparse_complex.proofs.GraphLemmas.{no_node}
use Rattle.sparse_complex.proofs.links.Links.link.Goals as goal

pub write_prev_out-requires : goal.write_prev_out-requires
write_prev_out-requires c = λ e.
    ap (λ ns. is_node ns c.index.result.now.first_out) c.take-id.ensures.nodes
    ∙ (can_link _ _ c.requires.listed c.take-id.result c.args.from c.args.to c.index.result.now c.index-2.result.now
    (head_is _ c.args.from _ c.requires.ends.0 c.index.ensures)
    (head_is _ c.args.to _ c.requires.ends.1 c.index-2.ensures)).write_1 e

pub write_prev_in-requires : goal.write_prev_in-requires
write_prev_in-requires c = λ e.
    ap (λ ns. is_node ns c.index-2.result.now.first_in)
    (c.write_prev_out.ensures.nodes
    ∙ ap (λ ns. with_prev_out ns c.index.result.now.first_out c.take-id.result) c.take-id.ensures.nodes)
    ∙ (can_link _ _ c.requires.listed c.take-id.result c.args.from c.args.to c.index.result.now c.index-2.result.now
    (head_is _ c.args.from _ c.requires.ends.0 c.index.ensures)
    (head_is _ c.args.to _ c.requires.ends.1 c.index-2.ensures)).write_2 e

nodes-after : (c : goal.After-write_next_in)
    → c.write_next_in.new.self.pool.nodes
    ≡ linked_nodes c.args.self.now.pool.nodes c.args.self.now.heads.items c.take-id.result c.args.from c.args.to
nodes-after c =
    c.write_next_in.ensures.nodes ∙ c.write_next_out.ensures.nodes ∙ c.write_prev_in.ensures.nodes
    ∙ ap (λ ns. with_prev_in ns c.index-2.result.now.first_in c.take-id.result)
    (c.write_prev_out.ensures.nodes
    ∙ ap (λ ns. with_prev_out ns c.index.result.now.first_out c.take-id.result) c.take-id.ensures.nodes)
    ∙ linked_nodes-is _ _ c.take-id.result c.args.from c.args.to c.index.result.now c.index-2.result.now
    (head_is _ c.args.from _ c.requires.ends.0 c.index.ensures)
    (head_is _ c.args.to _ c.requires.ends.1 c.index-2.ensures)

heads-after : (c : goal.After-write_next_in)
    → c.write_next_in.new.self.heads.items
    ≡ linked_heads c.args.self.now.heads.items c.take-id.result c.args.from c.args.to
heads-after c =
    c.write_next_in.ensures.heads
    ∙ ap (λ hs. with_first_in hs no_id c.args.to c.take-id.result)
    (c.write_next_out.ensures.heads
    ∙ ap (λ hs. with_first_out hs no_id c.args.from c.take-id.result)
    (c.write_prev_in.ensures.heads ∙ c.write_prev_out.ensures.heads))
    ∙ linked_heads-is _ c.take-id.result c.args.from c.args.to

pub returns-clause-linked : goal.returns-clause-linked
returns-clause-linked c = record {
  id = c.take-id.result;
  fresh = none_is_node _ c.take-id.result c.take-id.ensures.new;
  is_id = small_id c.take-id.result c.take-id.ensures.id;
  nodes = nodes-after c;
  heads = heads-after c;
}

pub returns-clause-listed : goal.returns-clause-listed
returns-clause-listed c =
    AreInLists-same _ _ _ _ (nodes-after c) (heads-after c)
    (AreInLists-linked _ _ c.requires.listed c.take-id.result (none_is_node _ c.take-id.result c.take-id.ensures.new)
    (small_id c.take-id.result c.take-id.ensures.id)
    c.args.from c.args.to c.requires.ends.0 c.requires.ends.1
    (no_node c.args.self.now c.requires.listed c.args.from c.args.to c.requires.absent))
