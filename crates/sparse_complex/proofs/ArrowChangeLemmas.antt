-- One arrow changes.
use Rattle.std.proofs.Common.{◌≡◌, ℕ, zero, suc, ◌+◌, ◌<◌, ◌≤◌, Bool, true, false, not, cond, ◌&&◌, ◌||◌, eqb, List, [], ◌∷◌, length, get_or, max, leb, Option, Some, None, is_some, IfSome, IsNone, replicate, nat_cmp, ◌⊎◌, inl, inr, refl, sym, ap, ap₂, subst, ◌∙◌, arith}
use Rattle.std.specs.FinMap as fin
use Rattle.std.proofs.lemmas.Bool.{eqb-true, ne_eqb, eq-eqb, true≢false, and_parts, and_from, not-true, or_cases, or_left, or_right}
use Rattle.f2_algebra.proofs.Chains.Tables.{◌⊻◌, same_test, eqb_comm}
use Rattle.node_pool.specs.declared.Node.{Node}
use Rattle.sparse_complex.specs.declared.links.Head.{Head}
use Rattle.sparse_complex.specs.declared.links.Links.{Links}
use Rattle.sparse_complex.specs.declared.slices.Cell.{Cell}
use Rattle.sparse_complex.specs.Inner.Lists.{Nodes, no_id, no_head, among, AreDistinct, node_at, is_node, head_at, ids_from, outs_from, ins_from, outs, ins, IsList, AreInLists}
use Rattle.sparse_complex.specs.Inner.Graph.{no_cell, code_at, IsArrow, AreListed, width, outs_of, ins_of, tos, has_arrow, IsLinked, IsUnlinked, IsToggled}
use Rattle.sparse_complex.proofs.ListLemmas.{leave_out}
use Rattle.sparse_complex.proofs.UnlinkLemmas.{from-unlinked, to-unlinked, is_node-unlinked, length-unlinked, outs-unlinked, ins-unlinked, AreInLists-unlinked}
use Rattle.sparse_complex.proofs.PutInLemmas.{from-put, to-put, is_node-linked, length-linked, outs-linked, ins-linked, AreInLists-linked}
use Rattle.sparse_complex.proofs.WriteLemmas.{AreInLists-same}
use Rattle.sparse_complex.proofs.GraphLemmas.{has_arrow-ends, no_node, node-has_arrow}

leave_out-none : (id : ℕ) (is : List ℕ) → among id is ≡ false → leave_out id is ≡ is
leave_out-none id [] h = refl
leave_out-none id (x ∷ is) h = by (eqb id x) refl h (leave_out-none id is)
  where
    by : (b : Bool) → eqb id x ≡ b → (b || among id is) ≡ false → (among id is ≡ false → leave_out id is ≡ is)
        → cond (not (eqb x id)) (x ∷ leave_out id is) (leave_out id is) ≡ x ∷ is
    by true e h r = absurd (true≢false h)
    by false e h r =
        ap (λ b. cond (not b) (x ∷ leave_out id is) (leave_out id is)) (eqb_comm x id ∙ e) ∙ ap (λ js. x ∷ js) (r h)

and_not : (a b : Bool) → (b ≡ true → a ≡ true) → (a && not b) ≡ (a ⊻ b)
and_not true true h = refl
and_not true false h = refl
and_not false true h = h refl
and_not false false h = refl

or_new : (a b : Bool) → (b ≡ true → a ≡ false) → (a || b) ≡ (a ⊻ b)
or_new true true h = h refl
or_new true false h = refl
or_new false true h = refl
or_new false false h = refl

module _ (old new : Links) (t : AreListed old) (id : ℕ) (here : is_node old.pool.nodes id ≡ true)
    (u : IsUnlinked id old new) where
  pub gone-listed : AreListed new
  gone-listed = AreInLists-same _ _ _ _ u.nodes u.heads (AreInLists-unlinked old.pool.nodes old.heads.items t id here)

  pub width-unlinked : width new ≡ width old
  width-unlinked = ap length u.heads ∙ length-unlinked old.pool.nodes old.heads.items t id here

  gone-node : (i : ℕ) → is_node new.pool.nodes i ≡ (is_node old.pool.nodes i && not (eqb i id))
  gone-node i = ap (λ ns. is_node ns i) u.nodes ∙ is_node-unlinked old.pool.nodes old.heads.items t id here i

  gone-was : (i : ℕ) → is_node new.pool.nodes i ≡ true → is_node old.pool.nodes i ≡ true
  gone-was i n = (and_parts (is_node old.pool.nodes i) (not (eqb i id)) (sym (gone-node i) ∙ n)).0

  gone-distinct : (i : ℕ) → is_node new.pool.nodes i ≡ true → eqb i id ≡ false
  gone-distinct i n =
      not-true (eqb i id) (and_parts (is_node old.pool.nodes i) (not (eqb i id)) (sym (gone-node i) ∙ n)).1

  gone-from : (i : ℕ) → is_node new.pool.nodes i ≡ true
      → (node_at new.pool.nodes i).from ≡ (node_at old.pool.nodes i).from
  gone-from i n = ap (λ ns. (node_at ns i).from) u.nodes
      ∙ from-unlinked old.pool.nodes old.heads.items t id here i (ap (λ ns. is_node ns i) (sym u.nodes) ∙ n)

  gone-to : (i : ℕ) → is_node new.pool.nodes i ≡ true → (node_at new.pool.nodes i).to ≡ (node_at old.pool.nodes i).to
  gone-to i n = ap (λ ns. (node_at ns i).to) u.nodes
      ∙ to-unlinked old.pool.nodes old.heads.items t id here i (ap (λ ns. is_node ns i) (sym u.nodes) ∙ n)

  pub gone-outs : (k : ℕ) → outs_of new k ≡ leave_out id (outs_of old k)
  gone-outs k = (λ j. outs (u.nodes j) (u.heads j) k) ∙ outs-unlinked old.pool.nodes old.heads.items t id here k

  pub gone-ins : (k : ℕ) → ins_of new k ≡ leave_out id (ins_of old k)
  gone-ins k = (λ j. ins (u.nodes j) (u.heads j) k) ∙ ins-unlinked old.pool.nodes old.heads.items t id here k

  -- the arrow of the node has left
  pub has_arrow-unlinked : (s r : ℕ)
      → has_arrow new s r
      ≡ (has_arrow old s r && not (eqb s (node_at old.pool.nodes id).from && eqb r (node_at old.pool.nodes id).to))
  has_arrow-unlinked s r = same_test _ _ forth back
    where
      test : Bool
      test = eqb s (node_at old.pool.nodes id).from && eqb r (node_at old.pool.nodes id).to

      forth : has_arrow new s r ≡ true
          → (has_arrow old s r && not (eqb s (node_at old.pool.nodes id).from && eqb r (node_at old.pool.nodes id).to))
          ≡ true
      forth h =
          let (i, n, e, f) = node-has_arrow new gone-listed s r h in
          let e' = sym (gone-from i n) ∙ e in
          let f' = sym (gone-to i n) ∙ f in
          let distinct = gone-distinct i n in
          and_from (has_arrow old s r) (not (eqb s (node_at old.pool.nodes id).from
          && eqb r (node_at old.pool.nodes id).to)) (has_arrow-ends old t i s r (gone-was i n) e' f')
          (ap not (other (eqb s (node_at old.pool.nodes id).from && eqb r (node_at old.pool.nodes id).to) refl i
          (gone-was i n) e' f' distinct))
        where
          other : (b : Bool) → (eqb s (node_at old.pool.nodes id).from && eqb r (node_at old.pool.nodes id).to) ≡ b
              → (i : ℕ) → is_node old.pool.nodes i ≡ true → (node_at old.pool.nodes i).from ≡ s
              → (node_at old.pool.nodes i).to ≡ r → eqb i id ≡ false
              → (eqb s (node_at old.pool.nodes id).from && eqb r (node_at old.pool.nodes id).to) ≡ false
          other true q i n e f distinct =
              let p = and_parts (eqb s (node_at old.pool.nodes id).from) (eqb r (node_at old.pool.nodes id).to) q in
              absurd (true≢false (sym (eq-eqb i id (t.simple i id n here
              (e ∙ eqb-true s (node_at old.pool.nodes id).from p.0)
              (f ∙ eqb-true r (node_at old.pool.nodes id).to p.1))) ∙ distinct))
          other false q i n e f distinct = q

      back : (has_arrow old s r && not (eqb s (node_at old.pool.nodes id).from && eqb r (node_at old.pool.nodes id).to))
          ≡ true → has_arrow new s r ≡ true
      back h =
          let p = and_parts (has_arrow old s r)
          (not (eqb s (node_at old.pool.nodes id).from && eqb r (node_at old.pool.nodes id).to)) h in
          let (i, n, e, f) = node-has_arrow old t s r p.0 in
          let distinct : eqb i id ≡ false =
          ne_eqb i id (λ q. true≢false (sym (and_from (eqb s (node_at old.pool.nodes id).from)
          (eqb r (node_at old.pool.nodes id).to)
          (eq-eqb s (node_at old.pool.nodes id).from (sym e ∙ ap (λ j. (node_at old.pool.nodes j).from) q))
          (eq-eqb r (node_at old.pool.nodes id).to (sym f ∙ ap (λ j. (node_at old.pool.nodes j).to) q)))
          ∙ not-true (eqb s (node_at old.pool.nodes id).from && eqb r (node_at old.pool.nodes id).to) p.1)) in
          let stays = gone-node i ∙ and_from (is_node old.pool.nodes i) (not (eqb i id)) n (ap not distinct) in
          has_arrow-ends new gone-listed i s r stays (gone-from i stays ∙ e) (gone-to i stays ∙ f)

  -- so the arrow is toggled
  pub IsToggled-unlinked : (p q : ℕ) → (node_at old.pool.nodes id).from ≡ p → (node_at old.pool.nodes id).to ≡ q
      → old.pool.spare ≤ new.pool.spare + 1 → IsToggled p q old new
  IsToggled-unlinked p q e f room = record {
    listed = gone-listed;
    width = ap length u.heads ∙ length-unlinked old.pool.nodes old.heads.items t id here;
    arrows = λ s r.
        has_arrow-unlinked s r
        ∙ (λ i. has_arrow old s r && not (eqb s (e i) && eqb r (f i)))
        ∙ and_not (has_arrow old s r) (eqb s p && eqb r q)
        (λ h. let a = and_parts (eqb s p) (eqb r q) h in
        has_arrow-ends old t id s r here (e ∙ sym (eqb-true s p a.0)) (f ∙ sym (eqb-true r q a.1)));
    other_outs =
        λ k h. gone-outs k
        ∙ leave_out-none id (outs_of old k)
        (t.out_lists.members k id ∙ ap (λ b. is_node old.pool.nodes id && b) (ap (λ j. eqb j k) e ∙ eqb_comm p k ∙ h)
        ∙ and_false (is_node old.pool.nodes id));
    other_ins =
        λ k h. gone-ins k
        ∙ leave_out-none id (ins_of old k)
        (t.in_lists.members k id ∙ ap (λ b. is_node old.pool.nodes id && b) (ap (λ j. eqb j k) f ∙ eqb_comm q k ∙ h)
        ∙ and_false (is_node old.pool.nodes id));
    ends = λ i n m. (gone-from i m, gone-to i m);
    room = room;
  }
    where
      and_false : (b : Bool) → (b && false) ≡ false
      and_false true = refl
      and_false false = refl

module _ (old new : Links) (t : AreListed old) (p q : ℕ) (p_in : p < width old) (q_in : q < width old)
    (absent : has_arrow old p q ≡ false) (u : IsLinked p q old new) where
  pub none : (i : ℕ) → is_node old.pool.nodes i ≡ true → (node_at old.pool.nodes i).from ≡ p
      → (node_at old.pool.nodes i).to ≡ q → ⊥
  none = no_node old t p q absent

  put-listed : AreListed new
  put-listed =
      AreInLists-same _ _ _ _ u.nodes u.heads
      (AreInLists-linked old.pool.nodes old.heads.items t u.id u.fresh u.is_id p q p_in q_in none)

  put-node : (i : ℕ) → is_node new.pool.nodes i ≡ (eqb i u.id || is_node old.pool.nodes i)
  put-node i = ap (λ ns. is_node ns i) u.nodes
      ∙ is_node-linked old.pool.nodes old.heads.items t u.id u.fresh u.is_id p q p_in q_in none i

  put-from : (i : ℕ) → eqb i no_id ≡ false
      → (node_at new.pool.nodes i).from ≡ cond (eqb i u.id) p (node_at old.pool.nodes i).from
  put-from i ne = ap (λ ns. (node_at ns i).from) u.nodes
      ∙ from-put old.pool.nodes old.heads.items t u.id u.fresh u.is_id p q p_in q_in none i ne

  put-to : (i : ℕ) → eqb i no_id ≡ false
      → (node_at new.pool.nodes i).to ≡ cond (eqb i u.id) q (node_at old.pool.nodes i).to
  put-to i ne = ap (λ ns. (node_at ns i).to) u.nodes
      ∙ to-put old.pool.nodes old.heads.items t u.id u.fresh u.is_id p q p_in q_in none i ne

  put-old : (i : ℕ) → is_node old.pool.nodes i ≡ true → eqb i u.id ≡ false
  put-old i n = ne_eqb i u.id (λ e. true≢false (sym n ∙ ap (is_node old.pool.nodes) e ∙ u.fresh))

  put-outs : (k : ℕ) → outs_of new k ≡ cond (eqb k p) (u.id ∷ outs_of old k) (outs_of old k)
  put-outs k = (λ j. outs (u.nodes j) (u.heads j) k)
      ∙ outs-linked old.pool.nodes old.heads.items t u.id u.fresh u.is_id p q p_in q_in none k

  put-ins : (k : ℕ) → ins_of new k ≡ cond (eqb k q) (u.id ∷ ins_of old k) (ins_of old k)
  put-ins k = (λ j. ins (u.nodes j) (u.heads j) k)
      ∙ ins-linked old.pool.nodes old.heads.items t u.id u.fresh u.is_id p q p_in q_in none k

  old-ends : (i : ℕ) → is_node old.pool.nodes i ≡ true
      → ((node_at new.pool.nodes i).from ≡ (node_at old.pool.nodes i).from)
      × ((node_at new.pool.nodes i).to ≡ (node_at old.pool.nodes i).to)
  old-ends i n = (
    put-from i (t.ids i n) ∙ ap (λ b. cond b p (node_at old.pool.nodes i).from) (put-old i n),
    put-to i (t.ids i n) ∙ ap (λ b. cond b q (node_at old.pool.nodes i).to) (put-old i n),
  )

  -- there is one arrow more
  pub has_arrow-linked : (s r : ℕ) → has_arrow new s r ≡ (has_arrow old s r || (eqb s p && eqb r q))
  has_arrow-linked s r = same_test _ _ forth back
    where
      forth : has_arrow new s r ≡ true → (has_arrow old s r || (eqb s p && eqb r q)) ≡ true
      forth h =
          let (i, n, e, f) = node-has_arrow new put-listed s r h in
          let ne = put-listed.ids i n in
          elim (or_cases (eqb i u.id) (is_node old.pool.nodes i) (sym (put-node i) ∙ n)) [
            | inl is ↦ or_right (has_arrow old s r) (eqb s p && eqb r q)
                (and_from (eqb s p) (eqb r q) (eq-eqb s p (sym e ∙ put-from i ne
                ∙ ap (λ b. cond b p (node_at old.pool.nodes i).from) is))
                (eq-eqb r q (sym f ∙ put-to i ne ∙ ap (λ b. cond b q (node_at old.pool.nodes i).to) is)))
            | inr is ↦ let o = old-ends i is in
                or_left (has_arrow old s r) (eqb s p && eqb r q)
                (has_arrow-ends old t i s r is (sym o.0 ∙ e) (sym o.1 ∙ f))
          ]

      back : (has_arrow old s r || (eqb s p && eqb r q)) ≡ true → has_arrow new s r ≡ true
      back h = elim (or_cases (has_arrow old s r) (eqb s p && eqb r q) h) [
        | inl a ↦
            let (i, n, e, f) = node-has_arrow old t s r a in
            let o = old-ends i n in
            has_arrow-ends new put-listed i s r (put-node i ∙ or_right (eqb i u.id) (is_node old.pool.nodes i) n)
            (o.0 ∙ e) (o.1 ∙ f)
        | inr a ↦
            let b = and_parts (eqb s p) (eqb r q) a in
            has_arrow-ends new put-listed u.id s r
            (put-node u.id ∙ or_left (eqb u.id u.id) (is_node old.pool.nodes u.id) (eq-eqb u.id u.id refl))
            (put-from u.id u.is_id ∙ ap (λ b. cond b p (node_at old.pool.nodes u.id).from) (eq-eqb u.id u.id refl)
            ∙ sym (eqb-true s p b.0))
            (put-to u.id u.is_id ∙ ap (λ b. cond b q (node_at old.pool.nodes u.id).to) (eq-eqb u.id u.id refl)
            ∙ sym (eqb-true r q b.1))
      ]

  pub IsToggled-linked : old.pool.spare ≤ new.pool.spare + 1 → IsToggled p q old new
  IsToggled-linked room = record {
    listed = put-listed;
    width = ap length u.heads ∙ length-linked old.pool.nodes old.heads.items t u.id u.fresh u.is_id p q p_in q_in none;
    arrows = λ s r. has_arrow-linked s r
        ∙ or_new (has_arrow old s r) (eqb s p && eqb r q)
        (λ h. let a = and_parts (eqb s p) (eqb r q) h in
        ap₂ (has_arrow old) (eqb-true s p a.0) (eqb-true r q a.1) ∙ absent);
    other_outs = λ k h. put-outs k ∙ ap (λ b. cond b (u.id ∷ outs_of old k) (outs_of old k)) h;
    other_ins = λ k h. put-ins k ∙ ap (λ b. cond b (u.id ∷ ins_of old k) (ins_of old k)) h;
    ends = λ i n m. old-ends i n;
    room = room;
  }

-- the code that is read at a key
pub cell_is : (cells : List Cell) (k : ℕ) (x : Cell) → k < length cells → x ≡ get_or cells k x
    → code_at cells k ≡ x.code
unfolding code_at
cell_is cells k x l e = ap (λ (z : Cell). z.code) (default cells k no_cell x l ∙ sym e)
  where
    default : (cells : List Cell) (k : ℕ) (d e : Cell) → k < length cells → get_or cells k d ≡ get_or cells k e
    default [] k d e l = absurd (omega arith)
    default (y ∷ cells) zero d e l = refl
    default (y ∷ cells) (suc k) d e l = default cells k d e (omega arith)

-- a head that is an id
pub some_id : (h g : Head) → eqb h.first_out no_id ≡ false → h ≡ g → g.first_out ≡ no_id → ⊥
some_id h g e f n = true≢false (sym (eq-eqb h.first_out no_id (ap (λ (x : Head). x.first_out) f ∙ n)) ∙ e)

pub larger : (P : ℕ → Type 0) (a b m : ℕ) → (m ≡ a) ⊎ (m ≡ b) → P a → P b → P m
larger P a b m (inl e) p q = subst P (sym e) p
larger P a b m (inr e) p q = subst P (sym e) q

pub one_of : (a b m : ℕ) → m ≡ max a b → (m ≡ a) ⊎ (m ≡ b)
one_of a b m e = by (leb a b) refl
  where
    by : (c : Bool) → leb a b ≡ c → (m ≡ a) ⊎ (m ≡ b)
    by true h = inr (grind (arith, e, h))
    by false h = inl (grind (arith, e, h))

pub lt_or_eq : (k n : ℕ) → k < n + 1 → (k < n) ⊎ (k ≡ n)
lt_or_eq k n l = by (eqb k n) refl
  where
    by : (b : Bool) → eqb k n ≡ b → (k < n) ⊎ (k ≡ n)
    by true e = inr (eqb-true k n e)
    by false e = inl (grind (arith, e, l))

-- what a search answers
pub found-has_arrow : (l : Links) (t : AreListed l) (p q : ℕ) (o : Option ℕ) → IfSome o (IsArrow l p q)
    → (IsNone o → has_arrow l p q ≡ false) → is_some o ≡ has_arrow l p q
found-has_arrow l t p q None f n = sym (n refl)
found-has_arrow l t p q (Some i) f n = sym (has_arrow-ends l t i p q f.0 f.1 f.2)

-- ---- no arrows
module _ (nodes : Nodes) (heads : List Head) (empty : nodes ≡ fin.empty)
    (none : (k : ℕ) → head_at heads k ≡ no_head) where
  no-node : (i : ℕ) → is_node nodes i ≡ false
  unfolding is_node
  no-node i = ap (λ ns. is_some (fin.get ns i)) empty ∙ ap is_some (fin.get-empty nat_cmp i)

  no-len : fin.len nodes ≡ 0
  no-len = ap fin.len empty ∙ fin.len-empty nat_cmp Node

  outs-none : (k : ℕ) → outs nodes heads k ≡ []
  unfolding outs_from
  outs-none k = ap (λ n. ids_from (λ i. (node_at nodes i).next_out) n (head_at heads k).first_out) no-len

  ins-none : (k : ℕ) → ins nodes heads k ≡ []
  unfolding ins_from
  ins-none k = ap (λ n. ids_from (λ i. (node_at nodes i).next_in) n (head_at heads k).first_in) no-len

  pub listed-none : AreInLists nodes heads
  listed-none = record {
    ids = λ i l. absurd (true≢false (sym l ∙ no-node i));
    out_lists = record {
      bounded = λ i l. absurd (true≢false (sym l ∙ no-node i));
      members = λ k i. ap (among i) (outs-none k) ∙ sym (ap (λ b. b && eqb (node_at nodes i).from k) (no-node i));
      distinct = λ k. subst AreDistinct (sym (outs-none k)) tt;
      linked = λ k. subst (λ is. IsList (λ i. (node_at nodes i).next_out) (λ i. (node_at nodes i).prev_out) no_id
          (head_at heads k).first_out is) (sym (outs-none k)) (ap (λ (h : Head). h.first_out) (none k));
    };
    in_lists = record {
      bounded = λ i l. absurd (true≢false (sym l ∙ no-node i));
      members = λ k i. ap (among i) (ins-none k) ∙ sym (ap (λ b. b && eqb (node_at nodes i).to k) (no-node i));
      distinct = λ k. subst AreDistinct (sym (ins-none k)) tt;
      linked = λ k. subst (λ is. IsList (λ i. (node_at nodes i).next_in) (λ i. (node_at nodes i).prev_in) no_id
          (head_at heads k).first_in is) (sym (ins-none k)) (ap (λ (h : Head). h.first_in) (none k));
    };
    simple = λ i j l m e f. absurd (true≢false (sym l ∙ no-node i));
  }

pub has_arrow-none : (l : Links) → l.pool.nodes ≡ fin.empty → ((k : ℕ) → head_at l.heads.items k ≡ no_head) → (s t : ℕ)
    → has_arrow l s t ≡ false
unfolding has_arrow
has_arrow-none l empty none s t = ap (λ is. among t (tos l is)) (outs-none l.pool.nodes l.heads.items empty none s)

pub head_at-replicate : (n k : ℕ) → head_at (replicate n no_head) k ≡ no_head
unfolding head_at
head_at-replicate n k = by n k
  where
    by : (n k : ℕ) → get_or (replicate n no_head) k no_head ≡ no_head
    by zero k = refl
    by (suc n) zero = refl
    by (suc n) (suc k) = by n k
