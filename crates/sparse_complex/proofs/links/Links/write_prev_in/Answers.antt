-- At an id the node is written.
use Rattle.std.proofs.Common.{ap, sym, ◌∙◌}
use Rattle.std.proofs.lemmas.Bool.{ne_eqb}
use Rattle.node_pool.specs.declared.Node.{Node}
use Rattle.sparse_complex.specs.Inner.Lists.{no_id}
use Rattle.sparse_complex.proofs.LinkLemmas.{node_is}
use Rattle.sparse_complex.proofs.WriteLemmas.{with_node-is, is_node-contains}
use Rattle.sparse_complex.proofs.links.Links.write_prev_in.Goals as goal

pub get-node-requires : goal.get-node-requires
get-node-requires c = is_node-contains _ _ (c.requires (ne_eqb c.args.at no_id c.if-at-eq-NO_NODE.false))

pub returns-clause-nodes : goal.returns-clause-nodes
returns-clause-nodes c =
    c.set.ensures.nodes
    ∙ with_node-is c.args.self.now.pool.nodes c.args.at _ _ c.if-at-eq-NO_NODE.false
    (ap (λ (n : Node). record n { prev_in = c.args.prev })
    (sym (node_is c.args.self.now.pool.nodes c.args.at _ c.get-node.ensures.node)))
