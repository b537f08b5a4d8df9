-- What the lists say of the arrows: which keys have an arrow, and what putting one in and taking one out does.
use Rattle.std.proofs.Common.{◌≡◌, ℕ, suc, ◌<◌, Bool, true, false, List, [], ◌∷◌, map, length, inl, inr, refl, sym, ap, ap₂, subst, ◌∙◌}
use Rattle.std.proofs.lemmas.Bool.{true≢false, false≢true}
use Rattle.sparse_complex.specs.declared.links.Links.{Links}
use Rattle.sparse_complex.specs.Inner.Lists.{among, AreDistinct, node_at, is_node}
use Rattle.sparse_complex.specs.Inner.Graph.{AreListed, width, outs_of, ins_of, targets, sources, has_arrow}
use Rattle.sparse_complex.proofs.ListLemmas.{in_head, in_tail, in_cases}
use Rattle.sparse_complex.proofs.ThreadLemmas.{member-live, live-member}
use Rattle.f2_algebra.proofs.Chains.Tables.{same_test}

-- ---- images of lists
pub among-map : (f : ℕ → ℕ) (is : List ℕ) (i : ℕ) → among i is ≡ true → among (f i) (map f is) ≡ true
among-map f [] i m = absurd (false≢true m)
among-map f (x ∷ is) i m = elim (in_cases i x is m) [
  | inl e ↦ ap (λ j. among (f j) (f x ∷ map f is)) e ∙ in_head (f x) (map f is)
  | inr t ↦ in_tail (f i) (f x) (map f is) (among-map f is i t)
]

pub among-of_map : (f : ℕ → ℕ) (is : List ℕ) (x : ℕ) → among x (map f is) ≡ true
    → (i : ℕ) × (among i is ≡ true) × (f i ≡ x)
among-of_map f [] x m = absurd (false≢true m)
among-of_map f (i ∷ is) x m = elim (in_cases x (f i) (map f is) m) [
  | inl e ↦ (i, in_head i is, sym e)
  | inr t ↦ let r = among-of_map f is x t in (r.0, in_tail r.0 i is r.1, r.2)
]

-- images under a function that tells members apart are apart
pub AreDistinct-map : (f : ℕ → ℕ) (is : List ℕ)
    → ((i j : ℕ) → among i is ≡ true → among j is ≡ true → f i ≡ f j → i ≡ j) → AreDistinct is → AreDistinct (map f is)
AreDistinct-map f [] one a = tt
AreDistinct-map f (x ∷ is) one a = (
  none (among (f x) (map f is)) refl,
  AreDistinct-map f is (λ i j m n. one i j (in_tail i x is m) (in_tail j x is n)) a.1,
)
  where
    none : (b : Bool) → among (f x) (map f is) ≡ b → b ≡ false
    none true e =
        let r = among-of_map f is (f x) e in
        absurd (true≢false (sym r.1 ∙ ap (λ j. among j is) (one r.0 x (in_tail r.0 x is r.1) (in_head x is) r.2) ∙ a.0))
    none false e = refl

pub map-same : (f g : ℕ → ℕ) (is : List ℕ) → ((i : ℕ) → among i is ≡ true → f i ≡ g i) → map f is ≡ map g is
map-same f g [] h = refl
map-same f g (x ∷ is) h = λ k. h x (in_head x is) k ∷ map-same f g is (λ i m. h i (in_tail i x is m)) k

pub length-map : (f : ℕ → ℕ) (is : List ℕ) → length (map f is) ≡ length is
length-map f [] = refl
length-map f (x ∷ is) = ap suc (length-map f is)

-- ---- arrows are nodes
module _ (l : Links) (t : AreListed l) where
  pub out_member : (k i : ℕ) → among i (outs_of l k) ≡ true
      → (is_node l.pool.nodes i ≡ true) × ((node_at l.pool.nodes i).from ≡ k)
  out_member k i m = member-live _ _ _ _ _ _ _ t.out_lists t.ids k i m

  pub in_member : (k i : ℕ) → among i (ins_of l k) ≡ true
      → (is_node l.pool.nodes i ≡ true) × ((node_at l.pool.nodes i).to ≡ k)
  in_member k i m = member-live _ _ _ _ _ _ _ t.in_lists t.ids k i m

  -- a node is an arrow between its ends
  has_arrow-node : (i : ℕ) → is_node l.pool.nodes i ≡ true
      → has_arrow l (node_at l.pool.nodes i).from (node_at l.pool.nodes i).to ≡ true
  unfolding has_arrow
  has_arrow-node i n =
      among-map (λ j. (node_at l.pool.nodes j).to) (outs_of l (node_at l.pool.nodes i).from) i
      (live-member _ _ _ _ _ _ _ t.out_lists t.ids i n)

  pub has_arrow-ends : (i s u : ℕ) → is_node l.pool.nodes i ≡ true → (node_at l.pool.nodes i).from ≡ s
      → (node_at l.pool.nodes i).to ≡ u → has_arrow l s u ≡ true
  has_arrow-ends i s u n e f = ap₂ (has_arrow l) (sym e) (sym f) ∙ has_arrow-node i n

  -- an arrow is a node
  pub node-has_arrow : (s u : ℕ) → has_arrow l s u ≡ true
      → (i : ℕ) × (is_node l.pool.nodes i ≡ true) × ((node_at l.pool.nodes i).from ≡ s)
      × ((node_at l.pool.nodes i).to ≡ u)
  unfolding has_arrow
  node-has_arrow s u h =
      let r = among-of_map (λ j. (node_at l.pool.nodes j).to) (outs_of l s) u h in
      let m = out_member s r.0 r.1 in
      (r.0, m.0, m.1, r.2)

  -- the sources of a key have arrows to it
  pub has_arrow-sources : (s u : ℕ) → among s (sources l u) ≡ has_arrow l s u
  has_arrow-sources s u = same_test _ _ forth back
    where
      forth : among s (sources l u) ≡ true → has_arrow l s u ≡ true
      forth h =
          let r = among-of_map (λ j. (node_at l.pool.nodes j).from) (ins_of l u) s h in
          let m = in_member u r.0 r.1 in
          has_arrow-ends r.0 s u m.0 r.2 m.1

      back : has_arrow l s u ≡ true → among s (sources l u) ≡ true
      back h =
          let (i, n, e, f) = node-has_arrow s u h in
          ap₂ (λ a b. among a (sources l b)) (sym e) (sym f)
          ∙ among-map (λ j. (node_at l.pool.nodes j).from) (ins_of l (node_at l.pool.nodes i).to) i
          (live-member _ _ _ _ _ _ _ t.in_lists t.ids i n)

  pub has_arrow-targets : (s u : ℕ) → among u (targets l s) ≡ has_arrow l s u
  unfolding has_arrow
  has_arrow-targets s u = refl

  -- both ends of an arrow are keys
  pub has_arrow-from : (s u : ℕ) → has_arrow l s u ≡ true → s < width l
  has_arrow-from s u h = let (i, n, e, f) = node-has_arrow s u h in subst (λ k. k < width l) e (t.out_lists.bounded i n)

  pub has_arrow-to : (s u : ℕ) → has_arrow l s u ≡ true → u < width l
  has_arrow-to s u h = let (i, n, e, f) = node-has_arrow s u h in subst (λ k. k < width l) f (t.in_lists.bounded i n)

  -- the targets of a key are apart, and so are the sources
  pub distinct-targets : (k : ℕ) → AreDistinct (targets l k)
  distinct-targets k =
      AreDistinct-map (λ j. (node_at l.pool.nodes j).to) (outs_of l k)
      (λ i j m n e. let a = out_member k i m in let b = out_member k j n in t.simple i j a.0 b.0 (a.1 ∙ sym b.1) e)
      (t.out_lists.distinct k)

  pub distinct-sources : (k : ℕ) → AreDistinct (sources l k)
  distinct-sources k =
      AreDistinct-map (λ j. (node_at l.pool.nodes j).from) (ins_of l k)
      (λ i j m n e. let a = in_member k i m in let b = in_member k j n in t.simple i j a.0 b.0 e (a.1 ∙ sym b.1))
      (t.in_lists.distinct k)

  -- no node has ends that have no arrow
  pub no_node : (s u : ℕ) → has_arrow l s u ≡ false → (i : ℕ) → is_node l.pool.nodes i ≡ true
      → (node_at l.pool.nodes i).from ≡ s → (node_at l.pool.nodes i).to ≡ u → ⊥
  no_node s u h i n e f = true≢false (sym (has_arrow-ends i s u n e f) ∙ h)
