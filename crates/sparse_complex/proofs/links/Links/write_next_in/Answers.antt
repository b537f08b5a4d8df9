-- At an id the node is written, and else the head.
use Rattle.std.proofs.Common.{ap, sym, ◌∙◌}
use Rattle.std.proofs.lemmas.Bool.{ne_eqb}
use Rattle.node_pool.specs.declared.Node.{Node}
use Rattle.sparse_complex.specs.declared.links.Head.{Head}
use Rattle.sparse_complex.specs.Inner.Lists.{no_id}
use Rattle.sparse_complex.proofs.LinkLemmas.{node_is}
use Rattle.sparse_complex.proofs.WriteLemmas.{head_is, with_node-is, first-is, is_node-contains}
use Rattle.sparse_complex.proofs.links.Links.write_next_in.Goals as goal

pub returns-then-at-eq-NO_NODE-clause-heads : goal.returns-then-at-eq-NO_NODE-clause-heads
returns-then-at-eq-NO_NODE-clause-heads c =
    first-is c.args.self.now.heads.items c.args.at c.args.key _ _ c.if-at-eq-NO_NODE.true
    (ap (λ (h : Head). record h { first_in = c.args.next })
    (sym (head_is c.args.self.now.heads.items c.args.key _ c.requires.key c.index_mut.ensures.value)))

pub get-node-requires : goal.get-node-requires
get-node-requires c = is_node-contains _ _ (c.requires.at (ne_eqb c.args.at no_id c.if-at-eq-NO_NODE.false))

pub returns-clause-nodes : goal.returns-clause-nodes
returns-clause-nodes c =
    c.set.ensures.nodes
    ∙ with_node-is c.args.self.now.pool.nodes c.args.at _ _ c.if-at-eq-NO_NODE.false
    (ap (λ (n : Node). record n { next_in = c.args.next })
    (sym (node_is c.args.self.now.pool.nodes c.args.at _ c.get-node.ensures.node)))
