-- A node put in.
use Rattle.std.proofs.Common.{◌≡◌, ℕ, ◌<◌, Bool, true, false, cond, ◌||◌, eqb, List, ◌∷◌, length, refl, sym, ap, subst, ◌∙◌}
use Rattle.std.specs.FinMap as fin
use Rattle.std.proofs.lemmas.Bool.{eqb-true, ne_eqb, eq-eqb, true≢false}
use Rattle.node_pool.specs.declared.Node.{Node}
use Rattle.sparse_complex.specs.declared.links.Head.{Head}
use Rattle.sparse_complex.specs.Inner.Lists.{Nodes, no_id, node_at, is_node, head_at, outs_from, ins_from, outs, ins, AreLists, AreInLists, with_prev_out, with_prev_in, with_first_out, new_node, linked_nodes, linked_heads}
use Rattle.sparse_complex.proofs.ThreadLemmas.{head-live, thread-linked, AreLists-lists}
use Rattle.sparse_complex.proofs.LinkLemmas.{ap-cond, field-same, field-with_node, first-same, first-with, is_node-insert, is_node-with_node, length-with, node_at-insert, thread-ids_from}
use Rattle.f2_algebra.proofs.Chains.Tables.{eqb_comm}

module _ (nodes : Nodes) (heads : List Head) (t : AreInLists nodes heads) (id : ℕ) (fresh : is_node nodes id ≡ false)
    (is_id : eqb id no_id ≡ false) (p q : ℕ) (p_in : p < length heads) (q_in : q < length heads)
    (none : (i : ℕ) → is_node nodes i ≡ true → (node_at nodes i).from ≡ p → (node_at nodes i).to ≡ q → ⊥) where
  abbrev put_1 : Nodes
  put_1 = fin.insert nodes id (new_node heads p q)

  abbrev put_2 : Nodes
  put_2 = with_prev_out put_1 (head_at heads p).first_out id

  abbrev put_3 : Nodes
  put_3 = with_prev_in put_2 (head_at heads q).first_in id

  old-in-1 : (i : ℕ) → is_node nodes i ≡ true → is_node put_1 i ≡ true
  old-in-1 i l = is_node-insert nodes id (new_node heads p q) i ∙ ap (λ b. eqb i id || b) l ∙ either (eqb i id)
    where
      either : (b : Bool) → (b || true) ≡ true
      either true = refl
      either false = refl

  pub is_node-linked : (i : ℕ) → is_node (linked_nodes nodes heads id p q) i ≡ (eqb i id || is_node nodes i)
  unfolding linked_nodes
  is_node-linked i =
      let l2 = is_node-with_node put_1 (head_at heads p).first_out
      (record (node_at put_1 (head_at heads p).first_out) { prev_out = id })
      (λ e. old-in-1 _ (head-live _ _ _ _ _ _ _ t.out_lists t.ids p e).0) in
      let l3 = is_node-with_node put_2 (head_at heads q).first_in
      (record (node_at put_2 (head_at heads q).first_in) { prev_in = id })
      (λ e. l2 _ ∙ old-in-1 _ (head-live _ _ _ _ _ _ _ t.in_lists t.ids q e).0) in
      l3 i ∙ l2 i ∙ is_node-insert nodes id (new_node heads p q) i

  module _ (i : ℕ) (ne : eqb i no_id ≡ false) where
    put-same_3 : (f : Node → ℕ)
        → f (record (node_at put_2 (head_at heads q).first_in) { prev_in = id })
        ≡ f (node_at put_2 (head_at heads q).first_in)
        → f (node_at (linked_nodes nodes heads id p q) i) ≡ f (node_at put_2 i)
    unfolding linked_nodes
    put-same_3 f e =
        field-same put_2 (head_at heads q).first_in
        (record (node_at put_2 (head_at heads q).first_in) { prev_in = id }) f e i ne

    put-same_2 : (f : Node → ℕ)
        → f (record (node_at put_1 (head_at heads p).first_out) { prev_out = id })
        ≡ f (node_at put_1 (head_at heads p).first_out) → f (node_at put_2 i) ≡ f (node_at put_1 i)
    put-same_2 f e =
        field-same put_1 (head_at heads p).first_out
        (record (node_at put_1 (head_at heads p).first_out) { prev_out = id }) f e i ne

    put-first : (f : Node → ℕ) → f (node_at put_1 i) ≡ cond (eqb i id) (f (new_node heads p q)) (f (node_at nodes i))
    put-first f = ap f (node_at-insert nodes id (new_node heads p q) i)
        ∙ ap-cond f (eqb i id) (new_node heads p q) (node_at nodes i)

    pub from-put : (node_at (linked_nodes nodes heads id p q) i).from ≡ cond (eqb i id) p (node_at nodes i).from
    from-put = put-same_3 (λ m. m.from) refl ∙ put-same_2 (λ m. m.from) refl ∙ put-first (λ m. m.from)

    pub to-put : (node_at (linked_nodes nodes heads id p q) i).to ≡ cond (eqb i id) q (node_at nodes i).to
    to-put = put-same_3 (λ m. m.to) refl ∙ put-same_2 (λ m. m.to) refl ∙ put-first (λ m. m.to)

    next_out-put : (node_at (linked_nodes nodes heads id p q) i).next_out
        ≡ cond (eqb i id) (head_at heads p).first_out (node_at nodes i).next_out
    next_out-put = put-same_3 (λ m. m.next_out) refl ∙ put-same_2 (λ m. m.next_out) refl ∙ put-first (λ m. m.next_out)

    next_in-put : (node_at (linked_nodes nodes heads id p q) i).next_in
        ≡ cond (eqb i id) (head_at heads q).first_in (node_at nodes i).next_in
    next_in-put = put-same_3 (λ m. m.next_in) refl ∙ put-same_2 (λ m. m.next_in) refl ∙ put-first (λ m. m.next_in)

    prev_out-put : (node_at (linked_nodes nodes heads id p q) i).prev_out
        ≡ cond (eqb i (head_at heads p).first_out) id (cond (eqb i id) no_id (node_at nodes i).prev_out)
    prev_out-put =
        put-same_3 (λ m. m.prev_out) refl
        ∙ field-with_node put_1 (head_at heads p).first_out
        (record (node_at put_1 (head_at heads p).first_out) { prev_out = id }) (λ m. m.prev_out) i ne
        ∙ ap (λ j. cond (eqb i (head_at heads p).first_out) id j) (put-first (λ m. m.prev_out))

    prev_in-put : (node_at (linked_nodes nodes heads id p q) i).prev_in
        ≡ cond (eqb i (head_at heads q).first_in) id (cond (eqb i id) no_id (node_at nodes i).prev_in)
    unfolding linked_nodes
    prev_in-put =
        field-with_node put_2 (head_at heads q).first_in
        (record (node_at put_2 (head_at heads q).first_in) { prev_in = id }) (λ m. m.prev_in) i ne
        ∙ ap (λ j. cond (eqb i (head_at heads q).first_in) id j)
        (put-same_2 (λ m. m.prev_in) refl ∙ put-first (λ m. m.prev_in))

  -- the new id is apart from the old ones
  old-distinct : (i : ℕ) → is_node nodes i ≡ true → eqb i id ≡ false
  old-distinct i l = ne_eqb i id (λ e. true≢false (sym l ∙ ap (is_node nodes) e ∙ fresh))

  pub at_old : {A : Type 0} (i : ℕ) → is_node nodes i ≡ true → (x y : A) → cond (eqb i id) x y ≡ y
  at_old i l x y = ap (λ b. cond b x y) (old-distinct i l)

  pub at_new : {A : Type 0} (x y : A) → cond (eqb id id) x y ≡ x
  at_new x y = ap (λ b. cond b x y) (eq-eqb id id refl)

  -- a head that is not no id is old
  id_no_head : (h : ℕ) → (eqb h no_id ≡ false → is_node nodes h ≡ true) → eqb id h ≡ false
  id_no_head h ok = by (eqb h no_id) refl
    where
      by : (b : Bool) → eqb h no_id ≡ b → eqb id h ≡ false
      by true e = ap (eqb id) (eqb-true h no_id e) ∙ is_id
      by false e = eqb_comm id h ∙ old-distinct h (ok e)

  pub length-linked : length (linked_heads heads id p q) ≡ length heads
  unfolding linked_heads
  length-linked =
      length-with (with_first_out heads no_id p id) no_id q
      (record (head_at (with_first_out heads no_id p id) q) { first_in = id })
      (subst (λ m. q < m) (sym (length-with heads no_id p (record (head_at heads p) { first_out = id }) p_in)) q_in)
      ∙ length-with heads no_id p (record (head_at heads p) { first_out = id }) p_in

  first_out-linked : (k : ℕ)
      → (head_at (linked_heads heads id p q) k).first_out ≡ cond (eqb k p) id (head_at heads k).first_out
  unfolding linked_heads
  first_out-linked k =
      first-same (with_first_out heads no_id p id) no_id q
      (record (head_at (with_first_out heads no_id p id) q) { first_in = id })
      (subst (λ m. q < m) (sym (length-with heads no_id p (record (head_at heads p) { first_out = id }) p_in)) q_in)
      (λ h. h.first_out) refl k
      ∙ first-with heads no_id p (record (head_at heads p) { first_out = id }) p_in (λ h. h.first_out) k

  first_in-linked : (k : ℕ)
      → (head_at (linked_heads heads id p q) k).first_in ≡ cond (eqb k q) id (head_at heads k).first_in
  unfolding linked_heads
  first_in-linked k =
      first-with (with_first_out heads no_id p id) no_id q
      (record (head_at (with_first_out heads no_id p id) q) { first_in = id })
      (subst (λ m. q < m) (sym (length-with heads no_id p (record (head_at heads p) { first_out = id }) p_in)) q_in)
      (λ h. h.first_in) k
      ∙ ap (λ j. cond (eqb k q) id j)
      (first-same heads no_id p (record (head_at heads p) { first_out = id }) p_in (λ h. h.first_in) refl k)

  put-ids : (i : ℕ) → is_node (linked_nodes nodes heads id p q) i ≡ true → eqb i no_id ≡ false
  put-ids i l = by (eqb i id) refl (sym (is_node-linked i) ∙ l)
    where
      by : (b : Bool) → eqb i id ≡ b → (b || is_node nodes i) ≡ true → eqb i no_id ≡ false
      by true e h = ap (λ j. eqb j no_id) (eqb-true i id e) ∙ is_id
      by false e h = t.ids i h

  put-out_lists : AreLists (is_node (linked_nodes nodes heads id p q))
      (λ i. (node_at (linked_nodes nodes heads id p q) i).from)
      (λ i. (node_at (linked_nodes nodes heads id p q) i).next_out)
      (λ i. (node_at (linked_nodes nodes heads id p q) i).prev_out)
      (length heads) (λ k. (head_at (linked_heads heads id p q) k).first_out)
      (λ k. cond (eqb k p) (id ∷ outs nodes heads k) (outs nodes heads k))
  put-out_lists = thread-linked _ _ _ _ _ _ _ t.out_lists t.ids id fresh is_id p p_in _ _ _ _ _ is_node-linked
      (from-put id is_id ∙ at_new _ _)
      (next_out-put id is_id ∙ at_new _ _)
      (prev_out-put id is_id
      ∙ ap (λ b. cond b id (cond (eqb id id) no_id (node_at nodes id).prev_out))
      (id_no_head _ (λ e. (head-live _ _ _ _ _ _ _ t.out_lists t.ids p e).0)) ∙ at_new _ _)
      (λ i l. from-put i (t.ids i l) ∙ at_old i l _ _)
      (λ i l. next_out-put i (t.ids i l) ∙ at_old i l _ _)
      (λ i l. prev_out-put i (t.ids i l) ∙ ap (λ j. cond (eqb i (head_at heads p).first_out) id j) (at_old i l _ _))
      first_out-linked

  put-in_lists : AreLists (is_node (linked_nodes nodes heads id p q))
      (λ i. (node_at (linked_nodes nodes heads id p q) i).to)
      (λ i. (node_at (linked_nodes nodes heads id p q) i).next_in)
      (λ i. (node_at (linked_nodes nodes heads id p q) i).prev_in)
      (length heads) (λ k. (head_at (linked_heads heads id p q) k).first_in)
      (λ k. cond (eqb k q) (id ∷ ins nodes heads k) (ins nodes heads k))
  put-in_lists = thread-linked _ _ _ _ _ _ _ t.in_lists t.ids id fresh is_id q q_in _ _ _ _ _ is_node-linked
      (to-put id is_id ∙ at_new _ _)
      (next_in-put id is_id ∙ at_new _ _)
      (prev_in-put id is_id
      ∙ ap (λ b. cond b id (cond (eqb id id) no_id (node_at nodes id).prev_in))
      (id_no_head _ (λ e. (head-live _ _ _ _ _ _ _ t.in_lists t.ids q e).0)) ∙ at_new _ _)
      (λ i l. to-put i (t.ids i l) ∙ at_old i l _ _)
      (λ i l. next_in-put i (t.ids i l) ∙ at_old i l _ _)
      (λ i l. prev_in-put i (t.ids i l) ∙ ap (λ j. cond (eqb i (head_at heads q).first_in) id j) (at_old i l _ _))
      first_in-linked

  -- the lists of its two ends begin with the node
  pub outs-linked : (k : ℕ)
      → outs (linked_nodes nodes heads id p q) (linked_heads heads id p q) k
      ≡ cond (eqb k p) (id ∷ outs nodes heads k) (outs nodes heads k)
  unfolding outs_from
  outs-linked k = thread-ids_from (linked_nodes nodes heads id p q) _ _ _ _ _ _ put-out_lists put-ids k

  pub ins-linked : (k : ℕ)
      → ins (linked_nodes nodes heads id p q) (linked_heads heads id p q) k
      ≡ cond (eqb k q) (id ∷ ins nodes heads k) (ins nodes heads k)
  unfolding ins_from
  ins-linked k = thread-ids_from (linked_nodes nodes heads id p q) _ _ _ _ _ _ put-in_lists put-ids k

  put-simple : (i j : ℕ) → is_node (linked_nodes nodes heads id p q) i ≡ true
      → is_node (linked_nodes nodes heads id p q) j ≡ true
      → (node_at (linked_nodes nodes heads id p q) i).from ≡ (node_at (linked_nodes nodes heads id p q) j).from
      → (node_at (linked_nodes nodes heads id p q) i).to ≡ (node_at (linked_nodes nodes heads id p q) j).to → i ≡ j
  put-simple i j l m f g = by (eqb i id) refl (eqb j id) refl (sym (is_node-linked i) ∙ l) (sym (is_node-linked j) ∙ m)
    where
      fr : cond (eqb i id) p (node_at nodes i).from ≡ cond (eqb j id) p (node_at nodes j).from
      fr = sym (from-put i (put-ids i l)) ∙ f ∙ from-put j (put-ids j m)

      tt : cond (eqb i id) q (node_at nodes i).to ≡ cond (eqb j id) q (node_at nodes j).to
      tt = sym (to-put i (put-ids i l)) ∙ g ∙ to-put j (put-ids j m)

      by : (b : Bool) → eqb i id ≡ b → (c : Bool) → eqb j id ≡ c → (b || is_node nodes i) ≡ true
          → (c || is_node nodes j) ≡ true → i ≡ j
      by true e true h a b = eqb-true i id e ∙ sym (eqb-true j id h)
      by true e false h a b = absurd (none j b
          (sym (ap (λ x. cond x p (node_at nodes i).from) (sym e) ∙ fr ∙ ap (λ x. cond x p (node_at nodes j).from) h))
          (sym (ap (λ x. cond x q (node_at nodes i).to) (sym e) ∙ tt ∙ ap (λ x. cond x q (node_at nodes j).to) h)))
      by false e true h a b = absurd (none i a
          (ap (λ x. cond x p (node_at nodes i).from) (sym e) ∙ fr ∙ ap (λ x. cond x p (node_at nodes j).from) h)
          (ap (λ x. cond x q (node_at nodes i).to) (sym e) ∙ tt ∙ ap (λ x. cond x q (node_at nodes j).to) h))
      by false e false h a b = t.simple i j a b
          (ap (λ x. cond x p (node_at nodes i).from) (sym e) ∙ fr ∙ ap (λ x. cond x p (node_at nodes j).from) h)
          (ap (λ x. cond x q (node_at nodes i).to) (sym e) ∙ tt ∙ ap (λ x. cond x q (node_at nodes j).to) h)

  -- and the lists are kept
  pub AreInLists-linked : AreInLists (linked_nodes nodes heads id p q) (linked_heads heads id p q)
  AreInLists-linked = record {
    ids = put-ids;
    out_lists = AreLists-lists _ _ _ _ _ _ _ _ _ (sym length-linked) outs-linked put-out_lists;
    in_lists = AreLists-lists _ _ _ _ _ _ _ _ _ (sym length-linked) ins-linked put-in_lists;
    simple = put-simple;
  }
