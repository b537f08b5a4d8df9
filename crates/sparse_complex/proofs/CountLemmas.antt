-- How many arrows there are: at most one from each key to each key. And what a walk has counted_step of a list.
use Rattle.std.proofs.Common.{◌≡◌, ℕ, zero, suc, ◌+◌, ◌-◌, ◌*◌, ◌^◌, ◌<◌, ◌≤◌, Bool, true, false, not, cond, ◌||◌, eqb, List, [], ◌∷◌, ◌++◌, length, length-append, Option, Some, None, is_some, nat_cmp, ◌⊎◌, inl, inr, refl, sym, ap, ◌∙◌, arith, le_trans}
use mir.Val.{bool_byte}
use Rattle.std.specs.FinMap as fin
use Rattle.std.specs.Cmp.{nat_cmp_total}
use Rattle.std.specs.List.{AllByRecursion, IsDistinct}
use Rattle.std.proofs.lemmas.Bool.{false≢true, and_parts}
use Rattle.std.proofs.lemmas.Map.Steps.{length-le_from_distinct_below}
use Rattle.f2_algebra.proofs.Chains.Sets.{any-append}
use Rattle.node_pool.specs.declared.Node.{Node}
use Rattle.sparse_complex.specs.declared.links.Links.{Links}
use Rattle.sparse_complex.specs.Inner.Lists.{Nodes, among, AreDistinct, is_node, node_at}
use Rattle.sparse_complex.specs.Inner.Graph.{AreListed, width, outs_of, targets, sources, others}
use Rattle.sparse_complex.specs.Inner.Stored.{most_keys}
use Rattle.sparse_complex.proofs.ThreadLemmas.{live-member}
use Rattle.sparse_complex.proofs.LinkLemmas.{is_node-remove}
use Rattle.sparse_complex.proofs.ArrowChangeLemmas.{lt_or_eq}
use Rattle.sparse_complex.proofs.GraphLemmas.{length-map, has_arrow-from, has_arrow-to, has_arrow-sources, has_arrow-targets, distinct-sources, distinct-targets}

-- ---- a walk that counts
others-first : (k j : ℕ) (ks : List ℕ) → length (others k (j ∷ ks)) ≡ bool_byte (not (eqb j k)) + length (others k ks)
others-first k j ks = by (eqb j k)
  where
    by : (b : Bool) → length (cond (not b) (j ∷ others k ks) (others k ks)) ≡ bool_byte (not b) + length (others k ks)
    by true = omega arith
    by false = omega arith

-- a step that counts the next key unless it is k
pub counted_step : (k count one total next : ℕ) (now rest : List ℕ) → now ≡ next ∷ rest
    → one ≡ bool_byte (not (eqb next k)) → count + length (others k now) ≡ total
    → count + one + length (others k rest) ≡ total
counted_step k count one total next now rest is one_is so_far =
    let e : length (others k now) ≡ bool_byte (not (eqb next k)) + length (others k rest) =
    ap (λ ks. length (others k ks)) is ∙ others-first k next rest in
    omega (arith, e, one_is, so_far)

pub others-shorter : (k : ℕ) (ks : List ℕ) → length (others k ks) ≤ length ks
others-shorter k [] = omega arith
others-shorter k (j ∷ ks) = by (not (eqb j k)) (others-shorter k ks)
  where
    by : (b : Bool) → length (others k ks) ≤ length ks
        → length (cond b (j ∷ others k ks) (others k ks)) ≤ suc (length ks)
    by true l = omega arith
    by false l = omega arith

-- ---- keys that are apart
not_among : (x : ℕ) (xs : List ℕ) → among x xs ≡ false → AllByRecursion (λ y. eqb x y ≡ false) xs
not_among x [] h = tt
not_among x (y ∷ xs) h = both (eqb x y) (not_among x xs) refl h
  where
    both : (a : Bool) → (among x xs ≡ false → AllByRecursion (λ z. eqb x z ≡ false) xs) → eqb x y ≡ a
        → (a || among x xs) ≡ false → AllByRecursion (λ z. eqb x z ≡ false) (y ∷ xs)
    both true rest e f = absurd (false≢true (sym f))
    both false rest e f = (e, rest f)

distinct : (xs : List ℕ) → AreDistinct xs → IsDistinct eqb xs
unfolding IsDistinct
distinct [] a = tt
distinct (x ∷ xs) a = (not_among x xs a.0, distinct xs a.1)

module _ (l : Links) (t : AreListed l) where
  -- no key has more targets, or sources, than there are keys
  pub length-targets : (k : ℕ) → length (targets l k) ≤ width l
  length-targets k =
      length-le_from_distinct_below (targets l k) (width l) (distinct (targets l k) (distinct-targets l t k))
      (λ q h. has_arrow-to l t k q (sym (has_arrow-targets l t k q) ∙ h))

  pub length-sources : (k : ℕ) → length (sources l k) ≤ width l
  length-sources k =
      length-le_from_distinct_below (sources l k) (width l) (distinct (sources l k) (distinct-sources l t k))
      (λ q h. has_arrow-from l t q k (sym (has_arrow-sources l t q k) ∙ h))

-- ---- all nodes
no_nodes : (nodes : Nodes) → ((i : ℕ) → is_node nodes i ≡ false) → fin.len nodes ≡ 0
unfolding is_node
no_nodes nodes none =
    ap fin.len (fin.same_map nat_cmp_total fin.nat_cmp-IsAntisymmetric nodes fin.empty
    (λ i. is_none (fin.get nodes i) (none i) ∙ sym (fin.get-empty nat_cmp i)))
    ∙ fin.len-empty nat_cmp Node
  where
    is_none : (o : Option Node) → is_some o ≡ false → o ≡ None
    is_none None e = refl
    is_none (Some n) e = absurd (false≢true (sym e))

-- a list that has the ids of all nodes is as long as they are many
covered_length : (is : List ℕ) (nodes : Nodes) → ((i : ℕ) → is_node nodes i ≡ true → among i is ≡ true)
    → fin.len nodes ≤ length is
covered_length [] nodes all = let none = no_nodes nodes (λ i. no (is_node nodes i) (all i)) in omega arith
  where
    no : (b : Bool) → (b ≡ true → false ≡ true) → b ≡ false
    no true h = sym (h refl)
    no false h = refl
covered_length (x ∷ is) nodes all =
    less (fin.contains_key nodes x) (fin.len-remove nat_cmp_total nodes x)
    (covered_length is (fin.remove nodes x) (λ i h.
    let both = and_parts (is_node nodes i) (not (eqb i x)) (sym (is_node-remove nodes x i) ∙ h) in
    other (eqb i x) both.1 (among i is) (all i both.0)))
  where
    other : (b : Bool) → not b ≡ true → (c : Bool) → (b || c) ≡ true → c ≡ true
    other true n c h = absurd (false≢true n)
    other false n c h = h

    less : (b : Bool) → fin.len (fin.remove nodes x) ≡ cond b (fin.len nodes - 1) (fin.len nodes)
        → fin.len (fin.remove nodes x) ≤ length is → fin.len nodes ≤ suc (length is)
    less true e l = omega arith
    less false e l = omega arith

-- the ids of the arrows out of the keys below n
abbrev all_outs : Links → ℕ → List ℕ
all_outs l zero = []
all_outs l (suc n) = outs_of l n ++ all_outs l n

module _ (l : Links) (t : AreListed l) where
  in_all_outs : (n k i : ℕ) → k < n → among i (outs_of l k) ≡ true → among i (all_outs l n) ≡ true
  in_all_outs zero k i m h = absurd (omega arith)
  in_all_outs (suc n) k i m h =
      any-append i (outs_of l n) (all_outs l n) ∙ by (λ low. in_all_outs n k i low h) (lt_or_eq k n (omega arith))
    where
      right : (b c : Bool) → c ≡ true → (b || c) ≡ true
      right true c e = refl
      right false c e = e

      by : (k < n → among i (all_outs l n) ≡ true) → (k < n) ⊎ (k ≡ n)
          → (among i (outs_of l n) || among i (all_outs l n)) ≡ true
      by before (inl low) = right (among i (outs_of l n)) (among i (all_outs l n)) (before low)
      by before (inr last) = ap (λ b. b || among i (all_outs l n)) (ap (λ j. among i (outs_of l j)) (sym last) ∙ h)

  length-all_outs : (n : ℕ) → length (all_outs l n) ≤ n * width l
  length-all_outs zero = le_zero
    where
      le_zero : 0 ≤ 0 * width l
      le_zero = omega arith
  length-all_outs (suc n) =
      more n (width l) _ _ _ (length-append (outs_of l n) (all_outs l n)) _
      (sym (length-map (λ i. (node_at l.pool.nodes i).to) (outs_of l n)))
      (length-targets l t n) (length-all_outs n)
    where
      more : (n w a b c : ℕ) → c ≡ a + b → (d : ℕ) → a ≡ d → d ≤ w → b ≤ n * w → c ≤ suc n * w
      more n w a b c e d f g h = grind arith

  -- there are no more arrows than pairs of keys
  pub few_nodes : fin.len l.pool.nodes ≤ width l * width l
  few_nodes =
      let all = length-all_outs (width l) in
      let cover = covered_length (all_outs l (width l)) l.pool.nodes
      (λ i h. in_all_outs (width l) (node_at l.pool.nodes i).from i (t.out_lists.bounded i h)
      (live-member _ _ _ _ _ _ _ t.out_lists t.ids i h)) in
      le_trans cover all

-- ---- the numbers fit
product_fits : (a b : ℕ) → a ≤ most_keys → b ≤ most_keys → a * b ≤ 2 ^ 44
product_fits a b l m = grind (arith, l, m)

module _ (l : Links) (t : AreListed l) (small : width l ≤ most_keys) where
  pub nodes_fit : fin.len l.pool.nodes ≤ 2 ^ 44
  nodes_fit = le_trans (few_nodes l t) (product_fits (width l) (width l) small small)

  -- the toggles of a cancellation fit too
  pub toggles_fit : (x y a b : ℕ) → a ≡ length (others x (sources l y)) → b ≡ length (others y (targets l x))
      → a * b ≤ 2 ^ 44
  toggles_fit x y a b e f =
      let few = length-sources l t y in
      let fewer = others-shorter x (sources l y) in
      let less = length-targets l t x in
      let lesser = others-shorter y (targets l x) in
      product_fits a b (omega arith) (omega arith)
