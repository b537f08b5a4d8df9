-- Arrows between keys, kept as nodes of a pool. Each node stands in two doubly linked lists: that of the
-- arrows out of its source, and that of the arrows into its target.
--     Nodes                         the nodes by their ids
--     no_id                         the id that no node has
--     among q xs                    whether q is an element of the list
--     AreDistinct xs                no element of the list comes twice
--     node_at nodes i               the node of the id i
--     is_node nodes i               whether the id i has a node
--     head_at heads k               the first ids of the two lists of the key k
--     ids_from next n h             the ids from h on, each the next of the one before: at most n of them
--     outs_from nodes i             the rest of a list of arrows out of a key, from the id i on
--     ins_from nodes i              the rest of a list of arrows into a key, from the id i on
--     outs nodes heads k            the ids of the arrows out of the key k, in the order of its list
--     ins nodes heads k             those of the arrows into k
--     IsList next prev p h is       the ids are linked both ways: h is the first, and p stands before it
--     AreLists live key next ..     the ids of each key are those in its list, each once, and linked
--     AreInLists nodes heads        both are so for all nodes, and no two nodes have the same ends
--     with_next_out nodes at v      the nodes, where v follows `at` in its list of arrows out of a key
--     with_first_out heads at k v   the heads, where v is the first arrow out of k, if `at` is no id
--     unlinked_nodes nodes id       the nodes without that of the id, whose neighbours are linked
--     unlinked_heads ..             the heads after that
--     linked_nodes nodes heads ..   the nodes with a new one, of an arrow from p to q, before all others
--     linked_heads ..               the heads after that
use Rattle.std.specs.Prelude.{◌≡◌, ℕ, zero, suc, ◌<◌, Bool, true, false, cond, ◌&&◌, eqb, List, [], ◌∷◌, length, get_or, slice_set}
use Rattle.std.specs.declared.option.Option.{Option}
use Rattle.std.specs.declared.option.Option.TheVariants.{None, Some}
use Rattle.std.specs.List.{list_any}
use Rattle.std.specs.Ordering.{nat_cmp}
use Rattle.std.specs.FinMap as fin
use Rattle.node_pool.specs.declared.Node.{Node}
use Rattle.sparse_complex.specs.declared.links.Head.{Head}

abbrev pub Nodes : Type 0
Nodes = fin.FinMap nat_cmp Node

-- the id that no node has
abbrev pub no_id : ℕ
no_id = 18446744073709551615

-- whether q is an element of the list
abbrev pub among : ℕ → List ℕ → Bool
among q xs = list_any (eqb q) xs

-- no element of the list comes twice
abbrev pub AreDistinct : List ℕ → Type 0
AreDistinct [] = Unit {0}
AreDistinct (x ∷ xs) = (among x xs ≡ false) × AreDistinct xs

-- what stands for the node of an id that has none
abbrev pub blank_node : Node
blank_node = record { from = 0; to = 0; next_out = 0; prev_out = 0; next_in = 0; prev_in = 0 }

abbrev pub node_of : Option Node → Node
node_of None = blank_node
node_of (Some n) = n

unfoldable pub node_at : Nodes → ℕ → Node
node_at nodes i = node_of (fin.get nodes i)

unfoldable pub is_node : Nodes → ℕ → Bool
is_node nodes i = fin.contains_key nodes i

abbrev pub no_head : Head
no_head = record { first_out = no_id; first_in = no_id }

unfoldable pub head_at : List Head → ℕ → Head
head_at heads k = get_or heads k no_head

abbrev pub ids_from : (ℕ → ℕ) → ℕ → ℕ → List ℕ
ids_from next zero h = []
ids_from next (suc n) h = cond (eqb h no_id) [] (h ∷ ids_from next n (next h))

-- the rest of a list from an id on
unfoldable pub outs_from : Nodes → ℕ → List ℕ
outs_from nodes h = ids_from (λ i. (node_at nodes i).next_out) (fin.len nodes) h

unfoldable pub ins_from : Nodes → ℕ → List ℕ
ins_from nodes h = ids_from (λ i. (node_at nodes i).next_in) (fin.len nodes) h

abbrev pub outs : Nodes → List Head → ℕ → List ℕ
outs nodes heads k = outs_from nodes (head_at heads k).first_out

abbrev pub ins : Nodes → List Head → ℕ → List ℕ
ins nodes heads k = ins_from nodes (head_at heads k).first_in

abbrev pub IsList : (ℕ → ℕ) → (ℕ → ℕ) → ℕ → ℕ → List ℕ → Type 0
IsList next prev p h [] = h ≡ no_id
IsList next prev p h (i ∷ is) = (h ≡ i) × (prev i ≡ p) × IsList next prev i (next i) is

pub record AreLists (live : ℕ → Bool) (key next prev : ℕ → ℕ) (width : ℕ) (head : ℕ → ℕ)
    (lists : ℕ → List ℕ) : Type 0 where
  pub bounded : (i : ℕ) → live i ≡ true → key i < width
  pub members : (k i : ℕ) → among i (lists k) ≡ (live i && eqb (key i) k)
  pub distinct : (k : ℕ) → AreDistinct (lists k)
  pub linked : (k : ℕ) → IsList next prev no_id (head k) (lists k)

pub record AreInLists (nodes : Nodes) (heads : List Head) : Type 0 where
  pub ids : (i : ℕ) → is_node nodes i ≡ true → eqb i no_id ≡ false
  pub out_lists : AreLists (is_node nodes) (λ i. (node_at nodes i).from) (λ i. (node_at nodes i).next_out)
      (λ i. (node_at nodes i).prev_out) (length heads)
      (λ k. (head_at heads k).first_out) (outs nodes heads)
  pub in_lists : AreLists (is_node nodes) (λ i. (node_at nodes i).to) (λ i. (node_at nodes i).next_in)
      (λ i. (node_at nodes i).prev_in) (length heads)
      (λ k. (head_at heads k).first_in) (ins nodes heads)
  pub simple : (i j : ℕ) → is_node nodes i ≡ true → is_node nodes j ≡ true
      → (node_at nodes i).from ≡ (node_at nodes j).from → (node_at nodes i).to ≡ (node_at nodes j).to → i ≡ j

-- ---- what the writes do
-- at no id nothing is written
abbrev pub with_node : Nodes → ℕ → Node → Nodes
with_node nodes at n = cond (eqb at no_id) nodes (fin.insert nodes at n)

abbrev pub with_next_out : Nodes → ℕ → ℕ → Nodes
with_next_out nodes at v = with_node nodes at (record (node_at nodes at) { next_out = v })

abbrev pub with_prev_out : Nodes → ℕ → ℕ → Nodes
with_prev_out nodes at v = with_node nodes at (record (node_at nodes at) { prev_out = v })

abbrev pub with_next_in : Nodes → ℕ → ℕ → Nodes
with_next_in nodes at v = with_node nodes at (record (node_at nodes at) { next_in = v })

abbrev pub with_prev_in : Nodes → ℕ → ℕ → Nodes
with_prev_in nodes at v = with_node nodes at (record (node_at nodes at) { prev_in = v })

-- after no id, the head of the key is written
abbrev pub with_first_out : List Head → ℕ → ℕ → ℕ → List Head
with_first_out heads at k v = cond (eqb at no_id) (slice_set heads k (record (head_at heads k) { first_out = v })) heads

abbrev pub with_first_in : List Head → ℕ → ℕ → ℕ → List Head
with_first_in heads at k v = cond (eqb at no_id) (slice_set heads k (record (head_at heads k) { first_in = v })) heads

-- the nodes and the heads without a node
unfoldable pub unlinked_nodes : Nodes → ℕ → Nodes
unlinked_nodes nodes id =
    let n = node_at nodes id in
    fin.remove (with_prev_in (with_next_in (with_prev_out
    (with_next_out nodes n.prev_out n.next_out) n.next_out n.prev_out) n.prev_in n.next_in) n.next_in n.prev_in)
    id

unfoldable pub unlinked_heads : Nodes → List Head → ℕ → List Head
unlinked_heads nodes heads id =
    let n = node_at nodes id in
    with_first_in (with_first_out heads n.prev_out n.from n.next_out) n.prev_in n.to n.next_in

-- the node of an arrow that is put in before all others
abbrev pub new_node : List Head → ℕ → ℕ → Node
new_node heads p q =
    record {
      from = p;
      to = q;
      next_out = (head_at heads p).first_out;
      prev_out = no_id;
      next_in = (head_at heads q).first_in;
      prev_in = no_id;
    }

unfoldable pub linked_nodes : Nodes → List Head → ℕ → ℕ → ℕ → Nodes
linked_nodes nodes heads id p q =
    with_prev_in (with_prev_out (fin.insert nodes id (new_node heads p q)) (head_at heads p).first_out id)
    (head_at heads q).first_in id

unfoldable pub linked_heads : List Head → ℕ → ℕ → ℕ → List Head
linked_heads heads id p q = with_first_in (with_first_out heads no_id p id) no_id q id
