-- Walking along a list.
use Rattle.std.proofs.Common.{◌≡◌, ℕ, zero, suc, ◌+◌, ◌<◌, ◌≤◌, Bool, true, false, cond, ◌&&◌, ◌||◌, eqb, List, [], ◌∷◌, ◌++◌, length, length-append, append_assoc, Some, refl, sym, ap, subst, ◌∙◌, arith}
use Rattle.std.specs.FinMap as fin
use Rattle.std.proofs.lemmas.Bool.{eq-eqb, ne_eqb, true≢false}
use Rattle.f2_algebra.proofs.Chains.Sets.{any-append}
use Rattle.node_pool.specs.declared.Node.{Node}
use Rattle.sparse_complex.specs.declared.links.Head.{Head}
use Rattle.sparse_complex.specs.declared.links.Links.{Links}
use Rattle.sparse_complex.specs.Inner.Lists.{Nodes, no_id, among, node_at, is_node, head_at, ids_from, outs_from, ins_from, IsList, AreLists}
use Rattle.sparse_complex.specs.Inner.Graph.{AreListed, width, outs_of, ins_of, has_arrow}
use Rattle.sparse_complex.proofs.ListLemmas.{in_head, ids_from-list, IsList-at}
use Rattle.sparse_complex.proofs.ThreadLemmas.{members-ids}
use Rattle.sparse_complex.proofs.LinkLemmas.{distinct_length, node_is}
use Rattle.sparse_complex.proofs.GraphLemmas.{out_member, in_member, has_arrow-ends}
use Rattle.std.proofs.Math.Bool.{or-true}

-- the first of a list of ids
abbrev pub first : List ℕ → ℕ
first [] = no_id
first (x ∷ xs) = x

-- i is a place in the list: what is ahead of it follows what was passed
pub record IsOn (ahead : ℕ → List ℕ) (list : List ℕ) (i : ℕ) : Type 0 where
  pub passed : List ℕ
  pub whole : list ≡ passed ++ ahead i
  pub here : i ≡ first (ahead i)

list-first : (next prev : ℕ → ℕ) (is : List ℕ) (p h : ℕ) → IsList next prev p h is → h ≡ first is
list-first next prev [] p h l = l
list-first next prev (x ∷ is) p h l = l.0

-- the rest of a list is a list
list-rest : (next prev : ℕ → ℕ) (done is : List ℕ) (p h : ℕ) → IsList next prev p h (done ++ is)
    → (q : ℕ) × IsList next prev q (first is) is
list-rest next prev [] is p h l = (p, IsList-at next prev is p p h (first is) refl (list-first next prev is p h l) l)
list-rest next prev (x ∷ done) is p h l = list-rest next prev done is x (next x) l.2

module _ (next prev : ℕ → ℕ) (ahead : ℕ → List ℕ) (list : List ℕ) (h : ℕ) (l : IsList next prev no_id h list)
    (gives : (done is : List ℕ) → list ≡ done ++ is → ahead (first is) ≡ is) where
  -- the head is the place with nothing passed
  pub on-start : IsOn ahead list h
  on-start =
      let h_is = list-first next prev list no_id h l in
      let all : ahead h ≡ list = ap ahead h_is ∙ gives [] list refl in
      record { passed = []; whole = sym all; here = h_is ∙ ap first (sym all) }

  -- a step from one place to the next
  pub on-step : (i : ℕ) → IsOn ahead list i → eqb i no_id ≡ false
      → (ahead i ≡ i ∷ ahead (next i)) × IsOn ahead list (next i) × (among i list ≡ true)
  on-step i on ne = by (ahead i) refl
    where
      by : (is : List ℕ) → ahead i ≡ is
          → (ahead i ≡ i ∷ ahead (next i)) × IsOn ahead list (next i) × (among i list ≡ true)
      by [] e = absurd (true≢false (sym (eq-eqb i no_id (on.here ∙ ap first e)) ∙ ne))
      by (x ∷ is) e =
          let i_is : i ≡ x = on.here ∙ ap first e in
          let whole : list ≡ on.passed ++ (x ∷ is) = on.whole ∙ ap (λ js. on.passed ++ js) e in
          let rest =
          list-rest next prev on.passed (x ∷ is) no_id h (subst (λ js. IsList next prev no_id h js) whole l) in
          let next_is : next x ≡ first is = list-first next prev is x (next x) rest.1.2 in
          let further : list ≡ (on.passed ++ x ∷ []) ++ is = whole ∙ sym (append_assoc on.passed (x ∷ []) is) in
          let after : ahead (next i) ≡ is =
          ap ahead (ap next i_is ∙ next_is) ∙ gives (on.passed ++ x ∷ []) is further in (
            e ∙ (λ k. sym i_is k ∷ sym after k),
            record {
              passed = on.passed ++ x ∷ [];
              whole = further ∙ ap (λ js. (on.passed ++ x ∷ []) ++ js) (sym after);
              here = ap next i_is ∙ next_is ∙ ap first (sym after);
            },
            ap (among i) whole ∙ any-append i on.passed (x ∷ is)
                ∙ ap (λ b. among i on.passed || b) (ap (λ j. among j (x ∷ is)) i_is ∙ in_head x is)
                ∙ or-true (among i on.passed),
          )

  -- a place in a list that is the same elsewhere
  pub on-moved : (ahead' : ℕ → List ℕ) (list' : List ℕ) → list ≡ list' → (i : ℕ) → IsOn ahead' list' i
      → IsOn ahead list i × (ahead i ≡ ahead' i)
  on-moved ahead' list' same i on =
      let whole : list ≡ on.passed ++ ahead' i = same ∙ on.whole in
      let there : ahead i ≡ ahead' i = ap ahead on.here ∙ gives on.passed (ahead' i) whole in (
        record {
          passed = on.passed;
          whole = whole ∙ ap (λ js. on.passed ++ js) (sym there);
          here = on.here ∙ ap first (sym there);
        },
        there,
      )

-- what a chain gives from a place on
ids_from-gives : (nodes : Nodes) (key next prev : ℕ → ℕ) (width : ℕ) (head : ℕ → ℕ) (lists : ℕ → List ℕ)
    (t : AreLists (is_node nodes) key next prev width head lists)
    (ids : (i : ℕ) → is_node nodes i ≡ true → eqb i no_id ≡ false)
    (k : ℕ) (done is : List ℕ) → lists k ≡ done ++ is → ids_from next (fin.len nodes) (first is) ≡ is
ids_from-gives nodes key next prev width head lists t ids k done is e =
    let rest =
    list-rest next prev done is no_id (head k) (subst (λ js. IsList next prev no_id (head k) js) e (t.linked k)) in
    let all : length (lists k) ≤ fin.len nodes = distinct_length (lists k) nodes (t.distinct k) (λ i m. live i m) in
    let some : length (lists k) ≡ length done + length is = ap length e ∙ length-append done is in
    ids_from-list next prev is rest.0 (first is) (fin.len nodes) rest.1
    (λ i m. members-ids (is_node nodes) key next prev width head lists t ids k i
    (ap (among i) e ∙ any-append i done is ∙ ap (λ b. among i done || b) m ∙ or-true (among i done)))
    (omega arith)
  where
    live : (i : ℕ) → among i (lists k) ≡ true → is_node nodes i ≡ true
    live i m = both (is_node nodes i) (sym (t.members k i) ∙ m)
      where
        both : (b : Bool) → (b && eqb (key i) k) ≡ true → b ≡ true
        both true h = refl
        both false h = h

ids_from-none : (next : ℕ → ℕ) (n : ℕ) (h : ℕ) → h ≡ no_id → ids_from next n h ≡ []
ids_from-none next zero h e = refl
ids_from-none next (suc n) h e = ap (λ b. cond b [] (h ∷ ids_from next n (next h))) (eq-eqb h no_id e)

-- ---- along the arrows out of a key
module _ (l : Links) (t : AreListed l) where
  abbrev ahead_out : ℕ → List ℕ
  ahead_out i = outs_from l.pool.nodes i

  out-gives : (k : ℕ) (done is : List ℕ) → outs_of l k ≡ done ++ is → outs_from l.pool.nodes (first is) ≡ is
  unfolding outs_from
  out-gives k done is e = ids_from-gives l.pool.nodes _ _ _ _ _ _ t.out_lists t.ids k done is e

  pub out-none : (i : ℕ) → i ≡ no_id → outs_from l.pool.nodes i ≡ []
  unfolding outs_from
  out-none i e = ids_from-none _ (fin.len l.pool.nodes) i e

  pub out-start : (k : ℕ) → IsOn (outs_from l.pool.nodes) (outs_of l k) (head_at l.heads.items k).first_out
  out-start k = on-start _ _ (outs_from l.pool.nodes) (outs_of l k) _ (t.out_lists.linked k) (out-gives k)

  pub out-step : (k i : ℕ) → IsOn (outs_from l.pool.nodes) (outs_of l k) i → eqb i no_id ≡ false
      → (outs_from l.pool.nodes i ≡ i ∷ outs_from l.pool.nodes (node_at l.pool.nodes i).next_out)
      × IsOn (outs_from l.pool.nodes) (outs_of l k) (node_at l.pool.nodes i).next_out × (among i (outs_of l k) ≡ true)
  out-step k i on ne = on-step _ _ (outs_from l.pool.nodes) (outs_of l k) _ (t.out_lists.linked k) (out-gives k) i on ne

  pub out-moved : (k : ℕ) (m : Links) → outs_of l k ≡ outs_of m k → (i : ℕ)
      → IsOn (outs_from m.pool.nodes) (outs_of m k) i
      → IsOn (outs_from l.pool.nodes) (outs_of l k) i × (outs_from l.pool.nodes i ≡ outs_from m.pool.nodes i)
  out-moved k m same i on =
      on-moved _ _ (outs_from l.pool.nodes) (outs_of l k) _ (t.out_lists.linked k) (out-gives k)
      (outs_from m.pool.nodes) (outs_of m k) same i on

  -- ---- along the arrows into a key
  in-gives : (k : ℕ) (done is : List ℕ) → ins_of l k ≡ done ++ is → ins_from l.pool.nodes (first is) ≡ is
  unfolding ins_from
  in-gives k done is e = ids_from-gives l.pool.nodes _ _ _ _ _ _ t.in_lists t.ids k done is e

  pub in-none : (i : ℕ) → i ≡ no_id → ins_from l.pool.nodes i ≡ []
  unfolding ins_from
  in-none i e = ids_from-none _ (fin.len l.pool.nodes) i e

  pub in-start : (k : ℕ) → IsOn (ins_from l.pool.nodes) (ins_of l k) (head_at l.heads.items k).first_in
  in-start k = on-start _ _ (ins_from l.pool.nodes) (ins_of l k) _ (t.in_lists.linked k) (in-gives k)

  pub in-step : (k i : ℕ) → IsOn (ins_from l.pool.nodes) (ins_of l k) i → eqb i no_id ≡ false
      → (ins_from l.pool.nodes i ≡ i ∷ ins_from l.pool.nodes (node_at l.pool.nodes i).next_in)
      × IsOn (ins_from l.pool.nodes) (ins_of l k) (node_at l.pool.nodes i).next_in × (among i (ins_of l k) ≡ true)
  in-step k i on ne = on-step _ _ (ins_from l.pool.nodes) (ins_of l k) _ (t.in_lists.linked k) (in-gives k) i on ne

  pub in-moved : (k : ℕ) (m : Links) → ins_of l k ≡ ins_of m k → (i : ℕ) → IsOn (ins_from m.pool.nodes) (ins_of m k) i
      → IsOn (ins_from l.pool.nodes) (ins_of l k) i × (ins_from l.pool.nodes i ≡ ins_from m.pool.nodes i)
  in-moved k m same i on =
      on-moved _ _ (ins_from l.pool.nodes) (ins_of l k) _ (t.in_lists.linked k) (in-gives k) (ins_from m.pool.nodes)
      (ins_of m k) same i on

-- ---- what a step tells
-- the node at a place of the list of the arrows out of k
pub record OutStep (l : Links) (k i : ℕ) (n : Node) : Type 0 where
  pub live : is_node l.pool.nodes i ≡ true
  pub ahead : outs_from l.pool.nodes i ≡ i ∷ outs_from l.pool.nodes n.next_out
  pub on : IsOn (outs_from l.pool.nodes) (outs_of l k) n.next_out
  pub smaller : length (outs_from l.pool.nodes n.next_out) < length (outs_from l.pool.nodes i)
  pub from_is : (node_at l.pool.nodes i).from ≡ k
  pub to_is : (node_at l.pool.nodes i).to ≡ n.to
  pub to_in : n.to < width l
  pub arrow : has_arrow l k n.to ≡ true

pub record InStep (l : Links) (k i : ℕ) (n : Node) : Type 0 where
  pub live : is_node l.pool.nodes i ≡ true
  pub ahead : ins_from l.pool.nodes i ≡ i ∷ ins_from l.pool.nodes n.next_in
  pub on : IsOn (ins_from l.pool.nodes) (ins_of l k) n.next_in
  pub smaller : length (ins_from l.pool.nodes n.next_in) < length (ins_from l.pool.nodes i)
  pub to_is : (node_at l.pool.nodes i).to ≡ k
  pub from_is : (node_at l.pool.nodes i).from ≡ n.from
  pub from_in : n.from < width l
  pub arrow : has_arrow l n.from k ≡ true

one_more : (is js : List ℕ) (i : ℕ) → is ≡ i ∷ js → length js < length is
one_more is js i e = let m : length is ≡ suc (length js) = ap length e in omega arith

module _ (l : Links) (t : AreListed l) (k i : ℕ) where
  pub out-live : IsOn (outs_from l.pool.nodes) (outs_of l k) i → (i ≡ no_id → ⊥) → is_node l.pool.nodes i ≡ true
  out-live on ne = (out_member l t k i (out-step l t k i on (ne_eqb i no_id ne)).2).0

  pub in-live : IsOn (ins_from l.pool.nodes) (ins_of l k) i → (i ≡ no_id → ⊥) → is_node l.pool.nodes i ≡ true
  in-live on ne = (in_member l t k i (in-step l t k i on (ne_eqb i no_id ne)).2).0

  pub out-facts : (n : Node) → IsOn (outs_from l.pool.nodes) (outs_of l k) i → (i ≡ no_id → ⊥)
      → fin.get l.pool.nodes i ≡ Some n → OutStep l k i n
  out-facts n on ne got =
      let (a, o, m) = out-step l t k i on (ne_eqb i no_id ne) in
      let (live, from) = out_member l t k i m in
      subst (OutStep l k i) (node_is l.pool.nodes i n got) (record {
        live = live;
        ahead = a;
        on = o;
        smaller = one_more _ _ i a;
        from_is = from;
        to_is = refl;
        to_in = t.in_lists.bounded i live;
        arrow = has_arrow-ends l t i k (node_at l.pool.nodes i).to live from refl;
      })

  pub in-facts : (n : Node) → IsOn (ins_from l.pool.nodes) (ins_of l k) i → (i ≡ no_id → ⊥)
      → fin.get l.pool.nodes i ≡ Some n → InStep l k i n
  in-facts n on ne got =
      let (a, o, m) = in-step l t k i on (ne_eqb i no_id ne) in
      let (live, to) = in_member l t k i m in
      subst (InStep l k i) (node_is l.pool.nodes i n got) (record {
        live = live;
        ahead = a;
        on = o;
        smaller = one_more _ _ i a;
        to_is = to;
        from_is = refl;
        from_in = t.out_lists.bounded i live;
        arrow = has_arrow-ends l t i (node_at l.pool.nodes i).from k live refl to;
      })

module _ (l : Links) (t : AreListed l) (k : ℕ) where
  -- no list is longer than the nodes are many
  pub out-length : length (outs_of l k) ≤ fin.len l.pool.nodes
  out-length = distinct_length (outs_of l k) l.pool.nodes (t.out_lists.distinct k) (λ j m. (out_member l t k j m).0)

  pub in-length : length (ins_of l k) ≤ fin.len l.pool.nodes
  in-length = distinct_length (ins_of l k) l.pool.nodes (t.in_lists.distinct k) (λ j m. (in_member l t k j m).0)

  -- the place at which a walk begins, as the code reads it
  pub out-begin : (h : Head) → head_at l.heads.items k ≡ h
      → IsOn (outs_from l.pool.nodes) (outs_of l k) h.first_out × (outs_from l.pool.nodes h.first_out ≡ outs_of l k)
  out-begin h e = (
    subst (λ (g : Head). IsOn (outs_from l.pool.nodes) (outs_of l k) g.first_out) e (out-start l t k),
    ap (λ (g : Head). outs_from l.pool.nodes g.first_out) (sym e),
  )

  pub in-begin : (h : Head) → head_at l.heads.items k ≡ h
      → IsOn (ins_from l.pool.nodes) (ins_of l k) h.first_in × (ins_from l.pool.nodes h.first_in ≡ ins_of l k)
  in-begin h e = (
    subst (λ (g : Head). IsOn (ins_from l.pool.nodes) (ins_of l k) g.first_in) e (in-start l t k),
    ap (λ (g : Head). ins_from l.pool.nodes g.first_in) (sym e),
  )
