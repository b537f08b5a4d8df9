-- Four writes and one node less.
use Rattle.std.proofs.Common.{◌≡◌, ◌<◌, ap, sym, subst, ◌∙◌, length}
use Rattle.std.specs.FinMap as fin
use Rattle.sparse_complex.specs.Inner.Lists.{is_node, with_prev_out, with_next_in, with_prev_in, with_first_in, unlinked_nodes, unlinked_heads}
use Rattle.sparse_complex.proofs.LinkLemmas.{node_is}
use Rattle.sparse_complex.proofs.WriteLemmas.{is_node-contains, can_unlink, unlinked_nodes-is, unlinked_heads-is, AreInLists-same}
use Rattle.sparse_complex.proofs.UnlinkLemmas.{AreInLists-unlinked}
use Rattle.sparse_complex.proofs.links.Links.unlink.Goals as goal

pub get-node-requires : goal.get-node-requires
get-node-requires c = is_node-contains _ _ c.requires.live

pub write_next_out-requires-clause-key : goal.write_next_out-requires-clause-key
write_next_out-requires-clause-key c =
    (can_unlink _ _ c.requires.listed c.args.id c.requires.live _
    (node_is _ c.args.id _ c.get-node.ensures.node)).from_in

pub write_next_out-requires-clause-at : goal.write_next_out-requires-clause-at
write_next_out-requires-clause-at c =
    (can_unlink _ _ c.requires.listed c.args.id c.requires.live _
    (node_is _ c.args.id _ c.get-node.ensures.node)).write_1

pub write_prev_out-requires : goal.write_prev_out-requires
write_prev_out-requires c = λ e.
    ap (λ ns. is_node ns c.get-node.result.next_out) c.write_next_out.ensures.nodes
    ∙ (can_unlink _ _ c.requires.listed c.args.id c.requires.live _
    (node_is _ c.args.id _ c.get-node.ensures.node)).write_2 e

pub write_next_in-requires-clause-key : goal.write_next_in-requires-clause-key
write_next_in-requires-clause-key c =
    subst (λ hs. c.get-node.result.to < length hs)
    (sym (c.write_prev_out.ensures.heads ∙ c.write_next_out.ensures.heads))
    (can_unlink _ _ c.requires.listed c.args.id c.requires.live _ (node_is _ c.args.id _ c.get-node.ensures.node)).to_in

pub write_next_in-requires-clause-at : goal.write_next_in-requires-clause-at
write_next_in-requires-clause-at c = λ e.
    ap (λ ns. is_node ns c.get-node.result.prev_in)
    (c.write_prev_out.ensures.nodes
    ∙ ap (λ ns. with_prev_out ns c.get-node.result.next_out c.get-node.result.prev_out)
    c.write_next_out.ensures.nodes)
    ∙ (can_unlink _ _ c.requires.listed c.args.id c.requires.live _
    (node_is _ c.args.id _ c.get-node.ensures.node)).write_3 e

pub write_prev_in-requires : goal.write_prev_in-requires
write_prev_in-requires c = λ e.
    ap (λ ns. is_node ns c.get-node.result.next_in)
    (c.write_next_in.ensures.nodes
    ∙ ap (λ ns. with_next_in ns c.get-node.result.prev_in c.get-node.result.next_in)
    (c.write_prev_out.ensures.nodes
    ∙ ap (λ ns. with_prev_out ns c.get-node.result.next_out c.get-node.result.prev_out)
    c.write_next_out.ensures.nodes))
    ∙ (can_unlink _ _ c.requires.listed c.args.id c.requires.live _
    (node_is _ c.args.id _ c.get-node.ensures.node)).write_4 e

pub give-requires : goal.give-requires
give-requires c =
    is_node-contains _ _
    (ap (λ ns. is_node ns c.args.id)
    (c.write_prev_in.ensures.nodes
    ∙ ap (λ ns. with_prev_in ns c.get-node.result.next_in c.get-node.result.prev_in)
    (c.write_next_in.ensures.nodes
    ∙ ap (λ ns. with_next_in ns c.get-node.result.prev_in c.get-node.result.next_in)
    (c.write_prev_out.ensures.nodes
    ∙ ap (λ ns. with_prev_out ns c.get-node.result.next_out c.get-node.result.prev_out)
    c.write_next_out.ensures.nodes)))
    ∙ (can_unlink _ _ c.requires.listed c.args.id c.requires.live _
    (node_is _ c.args.id _ c.get-node.ensures.node)).give)

nodes-after : (c : goal.After-give) → c.give.new.self.nodes ≡ unlinked_nodes c.args.self.now.pool.nodes c.args.id
nodes-after c =
    c.give.ensures.nodes
    ∙ ap (λ ns. fin.remove ns c.args.id)
    (c.write_prev_in.ensures.nodes
    ∙ ap (λ ns. with_prev_in ns c.get-node.result.next_in c.get-node.result.prev_in)
    (c.write_next_in.ensures.nodes
    ∙ ap (λ ns. with_next_in ns c.get-node.result.prev_in c.get-node.result.next_in)
    (c.write_prev_out.ensures.nodes
    ∙ ap (λ ns. with_prev_out ns c.get-node.result.next_out c.get-node.result.prev_out)
    c.write_next_out.ensures.nodes)))
    ∙ unlinked_nodes-is c.args.self.now.pool.nodes c.args.id c.get-node.result
    (node_is _ c.args.id _ c.get-node.ensures.node)

heads-after : (c : goal.After-give)
    → c.write_prev_in.new.self.heads.items
    ≡ unlinked_heads c.args.self.now.pool.nodes c.args.self.now.heads.items c.args.id
heads-after c =
    c.write_prev_in.ensures.heads ∙ c.write_next_in.ensures.heads
    ∙ ap (λ hs. with_first_in hs c.get-node.result.prev_in c.get-node.result.to c.get-node.result.next_in)
    (c.write_prev_out.ensures.heads ∙ c.write_next_out.ensures.heads)
    ∙ unlinked_heads-is c.args.self.now.pool.nodes c.args.self.now.heads.items c.args.id c.get-node.result
    (node_is _ c.args.id _ c.get-node.ensures.node)

pub returns-clause-unlinked : goal.returns-clause-unlinked
returns-clause-unlinked c = record { nodes = nodes-after c; heads = heads-after c }

pub returns-clause-listed : goal.returns-clause-listed
returns-clause-listed c =
    AreInLists-same _ _ _ _ (nodes-after c) (heads-after c)
    (AreInLists-unlinked _ _ c.requires.listed c.args.id c.requires.live)
