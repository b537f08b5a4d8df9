-- A node taken out.
use Rattle.std.proofs.Common.{◌≡◌, ℕ, ◌<◌, Bool, true, false, not, cond, ◌&&◌, eqb, List, length, refl, sym, ap, subst, ◌∙◌}
use Rattle.std.proofs.lemmas.Bool.{and_parts}
use Rattle.node_pool.specs.declared.Node.{Node}
use Rattle.sparse_complex.specs.declared.links.Head.{Head}
use Rattle.sparse_complex.specs.Inner.Lists.{Nodes, no_id, node_at, is_node, head_at, outs_from, ins_from, outs, ins, AreLists, AreInLists, with_next_out, with_prev_out, with_next_in, with_prev_in, with_first_out, unlinked_nodes, unlinked_heads}
use Rattle.sparse_complex.proofs.ListLemmas.{leave_out}
use Rattle.sparse_complex.proofs.ThreadLemmas.{next-live, prev-live, thread-unlinked, AreLists-lists}
use Rattle.sparse_complex.proofs.LinkLemmas.{field-same, field-with_node, first-same, first-with, is_node-remove, is_node-with_node, length-with, node_at-remove, thread-ids_from}

module _ (nodes : Nodes) (heads : List Head) (t : AreInLists nodes heads) (id : ℕ)
    (here : is_node nodes id ≡ true) where
  abbrev pub n : Node
  n = node_at nodes id

  abbrev step_1 : Nodes
  step_1 = with_next_out nodes n.prev_out n.next_out

  abbrev step_2 : Nodes
  step_2 = with_prev_out step_1 n.next_out n.prev_out

  abbrev step_3 : Nodes
  step_3 = with_next_in step_2 n.prev_in n.next_in

  abbrev step_4 : Nodes
  step_4 = with_prev_in step_3 n.next_in n.prev_in

  live-4 : (i : ℕ) → is_node step_4 i ≡ is_node nodes i
  live-4 i =
      let l1 = is_node-with_node nodes n.prev_out (record (node_at nodes n.prev_out) { next_out = n.next_out })
      (prev-live _ _ _ _ _ _ _ t.out_lists t.ids id here) in
      let l2 = is_node-with_node step_1 n.next_out (record (node_at step_1 n.next_out) { prev_out = n.prev_out })
      (λ e. l1 n.next_out ∙ next-live _ _ _ _ _ _ _ t.out_lists t.ids id here e) in
      let l3 = is_node-with_node step_2 n.prev_in (record (node_at step_2 n.prev_in) { next_in = n.next_in })
      (λ e. l2 n.prev_in ∙ l1 n.prev_in ∙ prev-live _ _ _ _ _ _ _ t.in_lists t.ids id here e) in
      let l4 = is_node-with_node step_3 n.next_in (record (node_at step_3 n.next_in) { prev_in = n.prev_in })
      (λ e. l3 n.next_in ∙ l2 n.next_in ∙ l1 n.next_in ∙ next-live _ _ _ _ _ _ _ t.in_lists t.ids id here e) in
      l4 i ∙ l3 i ∙ l2 i ∙ l1 i

  pub is_node-unlinked : (i : ℕ) → is_node (unlinked_nodes nodes id) i ≡ (is_node nodes i && not (eqb i id))
  unfolding unlinked_nodes
  is_node-unlinked i = is_node-remove step_4 id i ∙ ap (λ b. b && not (eqb i id)) (live-4 i)

  pub was_node : (i : ℕ) → is_node (unlinked_nodes nodes id) i ≡ true → (is_node nodes i ≡ true) × (eqb i id ≡ false)
  was_node i l =
      let p = and_parts (is_node nodes i) (not (eqb i id)) (sym (is_node-unlinked i) ∙ l) in
      (p.0, not-true (eqb i id) p.1)
    where
      not-true : (b : Bool) → not b ≡ true → b ≡ false
      not-true true h = sym h
      not-true false h = refl

  module _ (i : ℕ) (left : is_node (unlinked_nodes nodes id) i ≡ true) where
    ne : eqb i no_id ≡ false
    ne = t.ids i (was_node i left).0

    gone : node_at (unlinked_nodes nodes id) i ≡ node_at step_4 i
    unfolding unlinked_nodes
    gone = node_at-remove step_4 id i (was_node i left).1

    same_4 : (f : Node → ℕ)
        → f (record (node_at step_3 n.next_in) { prev_in = n.prev_in }) ≡ f (node_at step_3 n.next_in)
        → f (node_at step_4 i) ≡ f (node_at step_3 i)
    same_4 f e = field-same step_3 n.next_in (record (node_at step_3 n.next_in) { prev_in = n.prev_in }) f e i ne

    same_3 : (f : Node → ℕ)
        → f (record (node_at step_2 n.prev_in) { next_in = n.next_in }) ≡ f (node_at step_2 n.prev_in)
        → f (node_at step_3 i) ≡ f (node_at step_2 i)
    same_3 f e = field-same step_2 n.prev_in (record (node_at step_2 n.prev_in) { next_in = n.next_in }) f e i ne

    same_2 : (f : Node → ℕ)
        → f (record (node_at step_1 n.next_out) { prev_out = n.prev_out }) ≡ f (node_at step_1 n.next_out)
        → f (node_at step_2 i) ≡ f (node_at step_1 i)
    same_2 f e = field-same step_1 n.next_out (record (node_at step_1 n.next_out) { prev_out = n.prev_out }) f e i ne

    same_1 : (f : Node → ℕ)
        → f (record (node_at nodes n.prev_out) { next_out = n.next_out }) ≡ f (node_at nodes n.prev_out)
        → f (node_at step_1 i) ≡ f (node_at nodes i)
    same_1 f e = field-same nodes n.prev_out (record (node_at nodes n.prev_out) { next_out = n.next_out }) f e i ne

    pub from-unlinked : (node_at (unlinked_nodes nodes id) i).from ≡ (node_at nodes i).from
    from-unlinked = ap (λ m. m.from) gone ∙ same_4 (λ m. m.from) refl ∙ same_3 (λ m. m.from) refl
        ∙ same_2 (λ m. m.from) refl ∙ same_1 (λ m. m.from) refl

    pub to-unlinked : (node_at (unlinked_nodes nodes id) i).to ≡ (node_at nodes i).to
    to-unlinked = ap (λ m. m.to) gone ∙ same_4 (λ m. m.to) refl ∙ same_3 (λ m. m.to) refl ∙ same_2 (λ m. m.to) refl
        ∙ same_1 (λ m. m.to) refl

    next_out-unlinked : (node_at (unlinked_nodes nodes id) i).next_out
        ≡ cond (eqb i n.prev_out) n.next_out (node_at nodes i).next_out
    next_out-unlinked =
        ap (λ m. m.next_out) gone ∙ same_4 (λ m. m.next_out) refl ∙ same_3 (λ m. m.next_out) refl
        ∙ same_2 (λ m. m.next_out) refl
        ∙ field-with_node nodes n.prev_out (record (node_at nodes n.prev_out) { next_out = n.next_out })
        (λ m. m.next_out) i ne

    prev_out-unlinked : (node_at (unlinked_nodes nodes id) i).prev_out
        ≡ cond (eqb i n.next_out) n.prev_out (node_at nodes i).prev_out
    prev_out-unlinked =
        ap (λ m. m.prev_out) gone ∙ same_4 (λ m. m.prev_out) refl ∙ same_3 (λ m. m.prev_out) refl
        ∙ field-with_node step_1 n.next_out (record (node_at step_1 n.next_out) { prev_out = n.prev_out })
        (λ m. m.prev_out) i ne
        ∙ ap (λ j. cond (eqb i n.next_out) n.prev_out j) (same_1 (λ m. m.prev_out) refl)

    next_in-unlinked : (node_at (unlinked_nodes nodes id) i).next_in
        ≡ cond (eqb i n.prev_in) n.next_in (node_at nodes i).next_in
    next_in-unlinked =
        ap (λ m. m.next_in) gone ∙ same_4 (λ m. m.next_in) refl
        ∙ field-with_node step_2 n.prev_in (record (node_at step_2 n.prev_in) { next_in = n.next_in })
        (λ m. m.next_in) i ne
        ∙ ap (λ j. cond (eqb i n.prev_in) n.next_in j) (same_2 (λ m. m.next_in) refl ∙ same_1 (λ m. m.next_in) refl)

    prev_in-unlinked : (node_at (unlinked_nodes nodes id) i).prev_in
        ≡ cond (eqb i n.next_in) n.prev_in (node_at nodes i).prev_in
    prev_in-unlinked =
        ap (λ m. m.prev_in) gone
        ∙ field-with_node step_3 n.next_in (record (node_at step_3 n.next_in) { prev_in = n.prev_in })
        (λ m. m.prev_in) i ne
        ∙ ap (λ j. cond (eqb i n.next_in) n.prev_in j)
        (same_3 (λ m. m.prev_in) refl ∙ same_2 (λ m. m.prev_in) refl ∙ same_1 (λ m. m.prev_in) refl)

  pub from_in : n.from < length heads
  from_in = t.out_lists.bounded id here

  pub to_in : n.to < length (with_first_out heads n.prev_out n.from n.next_out)
  to_in = subst (λ m. n.to < m) (sym (length-with heads n.prev_out n.from
      (record (head_at heads n.from) { first_out = n.next_out }) from_in)) (t.in_lists.bounded id here)

  pub length-unlinked : length (unlinked_heads nodes heads id) ≡ length heads
  unfolding unlinked_heads
  length-unlinked =
      length-with (with_first_out heads n.prev_out n.from n.next_out) n.prev_in n.to
      (record (head_at (with_first_out heads n.prev_out n.from n.next_out) n.to) { first_in = n.next_in }) to_in
      ∙ length-with heads n.prev_out n.from (record (head_at heads n.from) { first_out = n.next_out }) from_in

  first_out-unlinked : (k : ℕ)
      → (head_at (unlinked_heads nodes heads id) k).first_out
      ≡ cond (eqb n.prev_out no_id && eqb k n.from) n.next_out (head_at heads k).first_out
  unfolding unlinked_heads
  first_out-unlinked k =
      first-same (with_first_out heads n.prev_out n.from n.next_out) n.prev_in n.to
      (record (head_at (with_first_out heads n.prev_out n.from n.next_out) n.to) { first_in = n.next_in }) to_in
      (λ h. h.first_out) refl k
      ∙ first-with heads n.prev_out n.from (record (head_at heads n.from) { first_out = n.next_out }) from_in
      (λ h. h.first_out) k

  first_in-unlinked : (k : ℕ)
      → (head_at (unlinked_heads nodes heads id) k).first_in
      ≡ cond (eqb n.prev_in no_id && eqb k n.to) n.next_in (head_at heads k).first_in
  unfolding unlinked_heads
  first_in-unlinked k =
      first-with (with_first_out heads n.prev_out n.from n.next_out) n.prev_in n.to
      (record (head_at (with_first_out heads n.prev_out n.from n.next_out) n.to) { first_in = n.next_in }) to_in
      (λ h. h.first_in) k
      ∙ ap (λ j. cond (eqb n.prev_in no_id && eqb k n.to) n.next_in j)
      (first-same heads n.prev_out n.from (record (head_at heads n.from) { first_out = n.next_out }) from_in
      (λ h. h.first_in) refl k)

  ids' : (i : ℕ) → is_node (unlinked_nodes nodes id) i ≡ true → eqb i no_id ≡ false
  ids' i l = t.ids i (was_node i l).0

  out_lists' : AreLists (is_node (unlinked_nodes nodes id)) (λ i. (node_at (unlinked_nodes nodes id) i).from)
      (λ i. (node_at (unlinked_nodes nodes id) i).next_out) (λ i. (node_at (unlinked_nodes nodes id) i).prev_out)
      (length heads) (λ k. (head_at (unlinked_heads nodes heads id) k).first_out)
      (λ k. leave_out id (outs nodes heads k))
  out_lists' =
      thread-unlinked _ _ _ _ _ _ _ t.out_lists t.ids id here _ _ _ _ _ is_node-unlinked from-unlinked next_out-unlinked
      prev_out-unlinked first_out-unlinked

  in_lists' : AreLists (is_node (unlinked_nodes nodes id)) (λ i. (node_at (unlinked_nodes nodes id) i).to)
      (λ i. (node_at (unlinked_nodes nodes id) i).next_in) (λ i. (node_at (unlinked_nodes nodes id) i).prev_in)
      (length heads) (λ k. (head_at (unlinked_heads nodes heads id) k).first_in) (λ k. leave_out id (ins nodes heads k))
  in_lists' =
      thread-unlinked _ _ _ _ _ _ _ t.in_lists t.ids id here _ _ _ _ _ is_node-unlinked to-unlinked next_in-unlinked
      prev_in-unlinked first_in-unlinked

  -- each list is without the node
  pub outs-unlinked : (k : ℕ)
      → outs (unlinked_nodes nodes id) (unlinked_heads nodes heads id) k ≡ leave_out id (outs nodes heads k)
  unfolding outs_from
  outs-unlinked k = thread-ids_from (unlinked_nodes nodes id) _ _ _ _ _ _ out_lists' ids' k

  pub ins-unlinked : (k : ℕ)
      → ins (unlinked_nodes nodes id) (unlinked_heads nodes heads id) k ≡ leave_out id (ins nodes heads k)
  unfolding ins_from
  ins-unlinked k = thread-ids_from (unlinked_nodes nodes id) _ _ _ _ _ _ in_lists' ids' k

  -- and the lists are kept
  pub AreInLists-unlinked : AreInLists (unlinked_nodes nodes id) (unlinked_heads nodes heads id)
  AreInLists-unlinked = record {
    ids = ids';
    out_lists = AreLists-lists _ _ _ _ _ _ _ _ _ (sym length-unlinked) outs-unlinked out_lists';
    in_lists = AreLists-lists _ _ _ _ _ _ _ _ _ (sym length-unlinked) ins-unlinked in_lists';
    simple = λ i j l m p q. t.simple i j (was_node i l).0 (was_node j m).0
        (sym (from-unlinked i l) ∙ p ∙ from-unlinked j m)
        (sym (to-unlinked i l) ∙ q ∙ to-unlinked j m);
  }
