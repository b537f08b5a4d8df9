-- All arrows of a key leave.
use Rattle.std.proofs.Common.{◌≡◌, ℕ, suc, ◌<◌, ◌≤◌, Bool, true, false, not, cond, ◌&&◌, ◌||◌, eqb, List, [], ◌∷◌, length, refl, sym, ap, ap₂, subst, ◌∙◌, arith}
use Rattle.std.proofs.lemmas.Bool.{eqb-true, ne_eqb, true≢false, false≢true, and_parts}
use Rattle.sparse_complex.specs.declared.links.Head.{Head}
use Rattle.sparse_complex.specs.declared.links.Links.{Links}
use Rattle.sparse_complex.specs.Inner.Lists.{no_id, among, node_at, is_node, head_at}
use Rattle.sparse_complex.specs.Inner.Graph.{AreListed, width, outs_of, ins_of, tos, froms, has_arrow, IsUnlinked, IsCleared}
use Rattle.sparse_complex.proofs.ListLemmas.{leave_out}
use Rattle.sparse_complex.proofs.ThreadLemmas.{head-live, live-member}
use Rattle.sparse_complex.proofs.GraphLemmas.{has_arrow-targets, has_arrow-sources}
use Rattle.sparse_complex.proofs.ArrowChangeLemmas.{gone-listed, gone-outs, gone-ins, has_arrow-unlinked, width-unlinked}
use Rattle.sparse_complex.proofs.WalkLemmas.{out-none, in-none, out-begin, in-begin}
use Rattle.f2_algebra.proofs.Chains.Tables.{and-true, eqb_comm}

leave_out-shorter : (id : ℕ) (is : List ℕ) → among id is ≡ true → length (leave_out id is) < length is
leave_out-shorter id is m = by is m
  where
    no_longer : (is : List ℕ) → length (leave_out id is) ≤ length is
    no_longer [] = omega arith
    no_longer (x ∷ is) = step (not (eqb x id)) (no_longer is)
      where
        step : (b : Bool) → length (leave_out id is) ≤ length is
            → length (cond b (x ∷ leave_out id is) (leave_out id is)) ≤ suc (length is)
        step true l = omega arith
        step false l = omega arith

    by : (is : List ℕ) → among id is ≡ true → length (leave_out id is) < length is
    by [] m = absurd (false≢true m)
    by (x ∷ is) m = step (eqb x id) refl (no_longer is) (λ t. by is t)
      where
        step : (b : Bool) → eqb x id ≡ b → length (leave_out id is) ≤ length is
            → (among id is ≡ true → length (leave_out id is) < length is)
            → length (cond (not b) (x ∷ leave_out id is) (leave_out id is)) < suc (length is)
        step true e l r = omega arith
        step false e l r = let k = r (ap (λ c. c || among id is) (sym (eqb_comm id x ∙ e)) ∙ m) in omega arith

-- the arrows of a key are leaving
pub record ClearPlace (gone : ℕ → ℕ → Bool) (old now : Links) : Type 0 where
  pub listed : AreListed now
  pub width : width now ≡ width old
  pub arrows : (s t : ℕ) → gone s t ≡ false → has_arrow now s t ≡ has_arrow old s t

pub clear-start : (gone : ℕ → ℕ → Bool) (old : Links) → AreListed old → ClearPlace gone old old
clear-start gone old t = record { listed = t; width = refl; arrows = λ s t e. refl }

pub clear-step : (gone : ℕ → ℕ → Bool) (old now : Links) → ClearPlace gone old now
    → (id : ℕ) (here : is_node now.pool.nodes id ≡ true)
    → gone (node_at now.pool.nodes id).from (node_at now.pool.nodes id).to ≡ true → (new : Links)
    → IsUnlinked id now new → ClearPlace gone old new
clear-step gone old now c id here g new u = record {
  listed = gone-listed now new c.listed id here u;
  width = width-unlinked now new c.listed id here u ∙ c.width;
  arrows = λ s r e.
      has_arrow-unlinked now new c.listed id here u s r
      ∙ ap (λ b. has_arrow now s r && not b)
      (other s r e (eqb s (node_at now.pool.nodes id).from && eqb r (node_at now.pool.nodes id).to) refl)
      ∙ and-true (has_arrow now s r) ∙ c.arrows s r e;
}
  where
    other : (s r : ℕ) → gone s r ≡ false → (b : Bool)
        → (eqb s (node_at now.pool.nodes id).from && eqb r (node_at now.pool.nodes id).to) ≡ b
        → (eqb s (node_at now.pool.nodes id).from && eqb r (node_at now.pool.nodes id).to) ≡ false
    other s r e true h =
        let p = and_parts (eqb s (node_at now.pool.nodes id).from) (eqb r (node_at now.pool.nodes id).to) h in
        absurd (true≢false (sym g ∙ ap₂ gone (sym (eqb-true s (node_at now.pool.nodes id).from p.0))
        (sym (eqb-true r (node_at now.pool.nodes id).to p.1)) ∙ e))
    other s r e false h = h

pub clear-end : (gone : ℕ → ℕ → Bool) (old now : Links) → ClearPlace gone old now
    → ((s t : ℕ) → gone s t ≡ true → has_arrow now s t ≡ false) → IsCleared gone old now
clear-end gone old now c none = record { listed = c.listed; width = c.width; arrows = λ s r. by s r (gone s r) refl }
  where
    by : (s r : ℕ) (b : Bool) → gone s r ≡ b → has_arrow now s r ≡ (has_arrow old s r && not (gone s r))
    by s r true e = none s r e ∙ sym (ap (λ b. has_arrow old s r && not b) e ∙ and_false (has_arrow old s r))
      where
        and_false : (b : Bool) → (b && false) ≡ false
        and_false true = refl
        and_false false = refl
    by s r false e = c.arrows s r e ∙ sym (ap (λ b. has_arrow old s r && not b) e ∙ and-true (has_arrow old s r))

-- the first arrow of a key, as the code reads it
module _ (l : Links) (t : AreListed l) (k : ℕ) (h : Head) (e : head_at l.heads.items k ≡ h) where
  first_out-live : (h.first_out ≡ no_id → ⊥)
      → (is_node l.pool.nodes h.first_out ≡ true) × ((node_at l.pool.nodes h.first_out).from ≡ k)
  first_out-live ne =
      subst (λ (g : Head). (eqb g.first_out no_id ≡ false
      → (is_node l.pool.nodes g.first_out ≡ true) × ((node_at l.pool.nodes g.first_out).from ≡ k))) e
      (λ z. head-live _ _ _ _ _ _ _ t.out_lists t.ids k z) (ne_eqb h.first_out no_id ne)

  first_in-live : (h.first_in ≡ no_id → ⊥)
      → (is_node l.pool.nodes h.first_in ≡ true) × ((node_at l.pool.nodes h.first_in).to ≡ k)
  first_in-live ne =
      subst (λ (g : Head). (eqb g.first_in no_id ≡ false → (is_node l.pool.nodes g.first_in ≡ true)
      × ((node_at l.pool.nodes g.first_in).to ≡ k))) e (λ z. head-live _ _ _ _ _ _ _ t.in_lists t.ids k z)
      (ne_eqb h.first_in no_id ne)

  -- if there is no first arrow there is none
  pub no_out : h.first_out ≡ no_id → (u : ℕ) → has_arrow l k u ≡ false
  no_out none u =
      sym (has_arrow-targets l t k u)
      ∙ ap (λ is. among u (tos l is)) (sym (out-begin l t k h e).1 ∙ out-none l t h.first_out none)

  pub no_in : h.first_in ≡ no_id → (s : ℕ) → has_arrow l s k ≡ false
  no_in none s =
      sym (has_arrow-sources l t s k)
      ∙ ap (λ is. among s (froms l is)) (sym (in-begin l t k h e).1 ∙ in-none l t h.first_in none)

-- fewer are left
pub clear-smaller-out : (now new : Links) (t : AreListed now) (id k : ℕ) (here : is_node now.pool.nodes id ≡ true)
    → (node_at now.pool.nodes id).from ≡ k → IsUnlinked id now new → length (outs_of new k) < length (outs_of now k)
clear-smaller-out now new t id k here e u =
    let g = ap length (gone-outs now new t id here u k) in
    let s = leave_out-shorter id (outs_of now k)
    (ap (λ j. among id (outs_of now j)) (sym e) ∙ live-member _ _ _ _ _ _ _ t.out_lists t.ids id here) in
    omega arith

pub clear-smaller-in : (now new : Links) (t : AreListed now) (id k : ℕ) (here : is_node now.pool.nodes id ≡ true)
    → (node_at now.pool.nodes id).to ≡ k → IsUnlinked id now new → length (ins_of new k) < length (ins_of now k)
clear-smaller-in now new t id k here e u =
    let g = ap length (gone-ins now new t id here u k) in
    let s = leave_out-shorter id (ins_of now k)
    (ap (λ j. among id (ins_of now j)) (sym e) ∙ live-member _ _ _ _ _ _ _ t.in_lists t.ids id here) in
    omega arith

-- the node that is first, by its id
pub node-first_out : (l : Links) (t : AreListed l) (k i : ℕ) → (head_at l.heads.items k).first_out ≡ i → (i ≡ no_id → ⊥)
    → (is_node l.pool.nodes i ≡ true) × ((node_at l.pool.nodes i).from ≡ k)
node-first_out l t k i e ne =
    subst (λ j. (is_node l.pool.nodes j ≡ true) × ((node_at l.pool.nodes j).from ≡ k)) e
    (first_out-live l t k (head_at l.heads.items k) refl (λ h. ne (sym e ∙ h)))

pub node-first_in : (l : Links) (t : AreListed l) (k i : ℕ) → (head_at l.heads.items k).first_in ≡ i → (i ≡ no_id → ⊥)
    → (is_node l.pool.nodes i ≡ true) × ((node_at l.pool.nodes i).to ≡ k)
node-first_in l t k i e ne =
    subst (λ j. (is_node l.pool.nodes j ≡ true) × ((node_at l.pool.nodes j).to ≡ k)) e
    (first_in-live l t k (head_at l.heads.items k) refl (λ h. ne (sym e ∙ h)))
