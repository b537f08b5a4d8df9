-- Chain maps send cycles to cycles and boundaries to boundaries, and maps that are inverse up to homotopy keep the
-- ranks.
use Rattle.std.proofs.Common.{◌≡◌, ℕ, Bool, true, false, List, [], ◌∷◌, map, Some, refl, sym, ap, ap₂, ◌∙◌}
use Rattle.std.proofs.lemmas.List.{length-map}
use Rattle.std.proofs.lemmas.List.Elements.{All-map, All-weaker}
use Rattle.std.specs.List.{items_where_true}
use Rattle.f2_algebra.specs.Chain.{Chain, single, ◌⊕◌, chain_sums, total}
use Rattle.f2_algebra.specs.Complex.{Complex, border, AllOfDegree, IsCycle, IsBoundary, IsRank}
use Rattle.f2_algebra.specs.Dimension.{IsBasis}
use Rattle.f2_algebra.specs.Maps.{extended, IsChainMap, IsHomotopy}
use Rattle.f2_algebra.proofs.Chains.Sets.{weight-some}
use Rattle.f2_algebra.proofs.Chains.Sums.{add_assoc, add_self, add-nothing, add_swap, add_back, IsLinear, linear-nothing, holds-sum_over, sum_over-add, sum_over-same, linear-sum_over, sum_over-singles, sum_over_both}
use Rattle.f2_algebra.proofs.Cancelling.Cancellation.{complex_border-add}
use Rattle.f2_algebra.proofs.Ranks.RankLemmas.{cycle-picked, degree-add}

-- the image of a sum is the sum of the images
pub extended-linear : (f : ℕ → Chain) → IsLinear (extended f)
extended-linear f z w = sum_over-add z w f

module _ {G : Type 0} (C D : Complex G) (f : ℕ → Chain) (is : IsChainMap C D f) where
  -- the image of a chain of one degree has that degree
  pub extended_degree : (m : G) (z : Chain) → AllOfDegree C m z → AllOfDegree D m (extended f z)
  extended_degree m z of s h =
      let (t, in_z, in_f) = weight-some _ z (sym (holds-sum_over z f s) ∙ h) in
      is.degrees t m (of t in_z) s in_f

  -- the image of a border is the border of the image
  pub extended_border : (m : G) (z : Chain) → AllOfDegree C m z → extended f (border C z) ≡ border D (extended f z)
  extended_border m z of =
      linear-sum_over (extended f) (extended-linear f) z C.targets
      ∙ sum_over-same z _ _ (λ s h. is.commutes s m (of s h))
      ∙ sym (linear-sum_over (border D) (complex_border-add D) z f)

  -- the image of a cycle is a cycle
  pub extended_cycle : (m : G) (z : Chain) → IsCycle C m z → IsCycle D m (extended f z)
  extended_cycle m z c = (
    extended_degree m z c.0,
    sym (extended_border m z c.0) ∙ ap (extended f) c.1
        ∙ linear-nothing (extended f) (extended-linear f),
  )

  -- the image of a boundary is a boundary
  pub extended_boundary : (m : G) (z : Chain) → IsBoundary C m z → IsBoundary D m (extended f z)
  extended_boundary m z (w, of, e) = (
    extended f w,
    (λ s h. extended_degree (C.up m) w of s h ∙ ap Some (is.same_up m)),
    sym (extended_border (C.up m) w of) ∙ ap (extended f) e,
  )

module _ {G : Type 0} (C : Complex G) (f g h : ℕ → Chain) (is : IsHomotopy C f g h) where
  homotopy_law : (m : G) (z : Chain) → AllOfDegree C m z
      → z ⊕ extended g (extended f z) ≡ border C (extended h z) ⊕ extended h (border C z)
  homotopy_law m z of =
      ap₂ ◌⊕◌ (sym (sum_over-singles z)) (linear-sum_over (extended g) (extended-linear g) z f)
      ∙ sym (sum_over_both z single (λ s. extended g (f s)))
      ∙ sum_over-same z _ _ (λ s i. is.law s m (of s i))
      ∙ sum_over_both z (λ s. border C (h s)) (λ s. extended h (C.targets s))
      ∙ ap₂ ◌⊕◌ (sym (linear-sum_over (border C) (complex_border-add C) z h))
      (sym (linear-sum_over (extended h) (extended-linear h) z C.targets))

  -- a cycle and its image there and back differ by a boundary
  pub there_and_back : (m : G) (z : Chain) → IsCycle C m z → IsBoundary C m (z ⊕ extended g (extended f z))
  there_and_back m z c = (
    extended h z,
    (λ s i. let (t, in_z, in_h) = weight-some _ z (sym (holds-sum_over z h s) ∙ i) in
        is.raises t m (c.0 t in_z) s in_h),
    sym (homotopy_law m z c.0
        ∙ ap (λ u. border C (extended h z) ⊕ u) (ap (extended h) c.1 ∙ linear-nothing (extended h) (extended-linear h))
        ∙ add-nothing _),
  )

boundary-add : {G : Type 0} (C : Complex G) (m : G) (z w : Chain) → IsBoundary C m z → IsBoundary C m w
    → IsBoundary C m (z ⊕ w)
boundary-add C m z w a b =
    (a.0 ⊕ b.0, degree-add C (C.up m) a.0 b.0 a.1 b.1, complex_border-add C a.0 b.0 ∙ ap₂ ◌⊕◌ a.2 b.2)

boundary-same : {G : Type 0} (C : Complex G) (m : G) (z w : Chain) → z ≡ w → IsBoundary C m z → IsBoundary C m w
boundary-same C m z w e b = (b.0, b.1, b.2 ∙ e)

extended_picked : (f : ℕ → Chain) (ps : List Bool) (hs : List Chain)
    → extended f (total (items_where_true ps hs)) ≡ total (items_where_true ps (map (extended f) hs))
extended_picked f [] hs = linear-nothing (extended f) (extended-linear f)
extended_picked f (p ∷ ps) [] = linear-nothing (extended f) (extended-linear f)
extended_picked f (true ∷ ps) (x ∷ hs) = extended-linear f x _ ∙ ap (λ u. extended f x ⊕ u) (extended_picked f ps hs)
extended_picked f (false ∷ ps) (x ∷ hs) = extended_picked f ps hs

-- maps f and g that are inverse to each other up to homotopy
pub record AreInverse {G : Type 0} (C D : Complex G) (f g h k : ℕ → Chain) : Type 0 where
  pub there : IsChainMap C D f
  pub back : IsChainMap D C g
  pub on_first : IsHomotopy C f g h
  pub on_second : IsHomotopy D g f k

module _ {G : Type 0} (C D : Complex G) (f g h k : ℕ → Chain) (are : AreInverse C D f g h k) (m : G) (hs : List Chain)
    (basis : IsBasis chain_sums (IsCycle C m) (IsBoundary C m) hs) where
  to : (w : Chain) → IsCycle D m w → (ps : List Bool) → IsBoundary C m (extended g w ⊕ total (items_where_true ps hs))
      → IsBoundary D m (w ⊕ total (items_where_true ps (map (extended f) hs)))
  to w c ps b =
      boundary-same D m _ _
      (ap (λ u. (w ⊕ extended f (extended g w)) ⊕ u)
      (extended-linear f (extended g w) _ ∙ ap (λ u. extended f (extended g w) ⊕ u) (extended_picked f ps hs))
      ∙ add_assoc w _ _
      ∙ ap (λ u. w ⊕ u) (add_back (extended f (extended g w)) _))
      (boundary-add D m _ _ (there_and_back D g f k are.on_second m w c) (extended_boundary C D f are.there m _ b))

  from : (w : Chain) → IsCycle D m w → (ps : List Bool)
      → IsBoundary D m (w ⊕ total (items_where_true ps (map (extended f) hs)))
      → IsBoundary C m (extended g w ⊕ total (items_where_true ps hs))
  from w c ps b =
      boundary-same C m _ _
      (ap₂ ◌⊕◌ (extended-linear g w _ ∙ ap (λ u. extended g w ⊕ extended g u) (sym (extended_picked f ps hs))) refl
      ∙ add_swap (extended g w) _ (total (items_where_true ps hs)) _
      ∙ ap (λ u. (extended g w ⊕ total (items_where_true ps hs)) ⊕ u) (add_self _) ∙ add-nothing _)
      (boundary-add C m _ _ (extended_boundary D C g are.back m _ b)
      (there_and_back C f g h are.on_first m _ (cycle-picked C m ps hs basis.cycles)))

  -- the images of a basis are a basis
  pub basis_of_image : IsBasis chain_sums (IsCycle D m) (IsBoundary D m) (map (extended f) hs)
  basis_of_image = record {
    cycles = All-map (IsCycle D m) (extended f) hs
        (All-weaker (IsCycle C m) (λ z. IsCycle D m (extended f z)) (extended_cycle C D f are.there m) hs basis.cycles);
    one_subset = λ w c.
        let (ps, (l, b), one) = basis.one_subset (extended g w) (extended_cycle D C g are.back m w c) in (
          ps,
          (l ∙ sym (length-map hs (extended f)), to w c ps b),
          λ qs (n, d). one qs (n ∙ length-map hs (extended f), from w c qs d),
        );
  }

-- maps that are inverse up to homotopy keep the ranks
pub rank_of_image : {G : Type 0} (C D : Complex G) (f g h k : ℕ → Chain) → AreInverse C D f g h k → (m : G) (d : ℕ)
    → IsRank C m d → IsRank D m d
rank_of_image C D f g h k are m d (hs, basis, l) =
    (map (extended f) hs, basis_of_image C D f g h k are m hs basis, length-map hs (extended f) ∙ l)
