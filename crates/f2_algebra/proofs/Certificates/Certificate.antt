-- Pairs that pass the tests of a certificate show the rank.
use Rattle.std.proofs.Common.{◌≡◌, ℕ, suc, ◌+◌, Bool, true, false, cond, List, [], ◌∷◌, ◌++◌, map, length, All, AllPairs, Some, refl, sym, ap, ap₂, ◌∙◌, arith, length-append}
use Rattle.std.proofs.lemmas.List.{length-map}
use Rattle.std.proofs.lemmas.List.Elements.{All-head, All-tail, All-nil, All-cons}
use Rattle.f2_algebra.specs.Chain.{Chain, holds, codes, nothing, ◌⊕◌, pairs_oddly}
use Rattle.f2_algebra.specs.Complex.{Complex, border, IsComplex, AllOfDegree, IsCycle, IsBoundary, IsRank}
use Rattle.f2_algebra.specs.Certificate.{IsAllCells, CyclePair, StepPair, AreCyclePairs, AreStepPairs}
use Rattle.f2_algebra.proofs.Chains.Sets.{weight-nothing, weight-some, pairs_oddly-weight}
use Rattle.f2_algebra.proofs.Chains.Sums.{holds-sum_over, add_comm, add_assoc, add_self, add-nothing, nothing-add, add_swap, add_back, pairs_oddly-add}
use Rattle.f2_algebra.proofs.Cancelling.Cancellation.{same_some, complex_border-add, border-nothing, complex_border-border}
use Rattle.f2_algebra.proofs.Ranks.RankLemmas.{degree-add, degree-nothing}
use Rattle.f2_algebra.proofs.Certificates.Verdict.{even_with_borders}
use Rattle.f2_algebra.proofs.Certificates.Span.{pick, pick-cons, pick-xor, xor_picks, no_picks, length-xor_picks, same_of_xor, Row, Every, every_all, IsTriangular, vectors, independent, independent_mod, spans, IsInside}

-- ---- lists
-- what holds of all elements, by recursion
pub Every-All : {X : Type 0} (P : X → Type 0) (xs : List X) → All P xs → Every P xs
Every-All P [] h = tt
Every-All P (x ∷ xs) h = (All-head P x xs h, Every-All P xs (All-tail P x xs h))

-- and back
pub all_from : {X : Type 0} (P : X → Type 0) (xs : List X) → Every P xs → All P xs
all_from P [] h = All-nil P
all_from P (x ∷ xs) h = All-cons P x xs h.0 (all_from P xs h.1)

-- what holds of each image holds of the list of images
pub every_map : {X Y : Type 0} (P : Y → Type 0) (f : X → Y) (xs : List X) → Every (λ x. P (f x)) xs → Every P (map f xs)
every_map P f [] h = tt
every_map P f (x ∷ xs) h = (h.0, every_map P f xs h.1)

-- what follows from a property of each element holds of each
pub every_weaker : {X : Type 0} (P Q : X → Type 0) (xs : List X) → ((x : X) → P x → Q x) → Every P xs → Every Q xs
every_weaker P Q [] w h = tt
every_weaker P Q (x ∷ xs) w h = (w x h.0, every_weaker P Q xs w h.1)

-- what holds of each element of two lists holds of each of both together
pub every_append : {X : Type 0} (P : X → Type 0) (xs ys : List X) → Every P xs → Every P ys → Every P (xs ++ ys)
every_append P [] ys h k = k
every_append P (x ∷ xs) ys h k = (h.0, every_append P xs ys h.1 k)

-- the first element is related to each later one
pub pairs_head : {X : Type 0} (R : X → X → Type 0) (x : X) (xs : List X) → AllPairs R (x ∷ xs) → All (R x) xs
pairs_head R x xs h k d l = h 0 (suc k) d (omega arith) (omega arith)

-- the pairs of the rest are pairs of the list
pub pairs_tail : {X : Type 0} (R : X → X → Type 0) (x : X) (xs : List X) → AllPairs R (x ∷ xs) → AllPairs R xs
pairs_tail R x xs h i j d p q = h (suc i) (suc j) d (omega arith) (omega arith)

-- ---- triangular rows
IsTriangular-map : {X : Type 0} (row : X → Row) (xs : List X) → Every (λ x. (row x).test (row x).vector ≡ true) xs
    → AllPairs (λ x y. (row x).test (row y).vector ≡ false) xs → IsTriangular (map row xs)
IsTriangular-map row [] own later = tt
IsTriangular-map row (x ∷ xs) own later = (
  own.0,
  every_map _ row xs (Every-All (λ y. (row x).test (row y).vector ≡ false) xs
      (pairs_head (λ x y. (row x).test (row y).vector ≡ false) x xs later)),
  IsTriangular-map row xs own.1 (pairs_tail (λ x y. (row x).test (row y).vector ≡ false) x xs later),
)

IsTriangular-append : (xs ys : List Row) → IsTriangular xs → IsTriangular ys
    → Every (λ r. Every (λ s. r.test s.vector ≡ false) ys) xs → IsTriangular (xs ++ ys)
IsTriangular-append [] ys tx ty cross = ty
IsTriangular-append (x ∷ xs) ys tx ty cross =
    (tx.0, every_append _ xs ys tx.1 cross.0, IsTriangular-append xs ys tx.2 ty cross.1)

-- ---- the rows of a certificate
module _ {G : Type 0} (C : Complex G) where
  abbrev step_row : StepPair → Row
  step_row p =
      record {
        vector = p.step;
        test = λ z. pairs_oddly (border C z) p.probe;
        linear = λ z w. ap (λ c. pairs_oddly c p.probe) (complex_border-add C z w)
            ∙ pairs_oddly-add (border C z) (border C w) p.probe;
      }

  abbrev boundary_row : StepPair → Row
  boundary_row p =
      record {
        vector = border C p.step;
        test = λ z. pairs_oddly z p.probe;
        linear = λ z w. pairs_oddly-add z w p.probe;
      }

abbrev cycle_row : CyclePair → Row
cycle_row p =
    record { vector = p.cycle; test = λ z. pairs_oddly z p.cocycle; linear = λ z w. pairs_oddly-add z w p.cocycle }

pairs-nothing : (f : Chain) → pairs_oddly nothing f ≡ false
pairs-nothing f = pairs_oddly-weight nothing f ∙ weight-nothing (holds f)

border-pick : {G : Type 0} (C : Complex G) (ps : List Bool) (xs : List StepPair)
    → border C (pick ps (vectors (map (step_row C) xs))) ≡ pick ps (vectors (map (boundary_row C) xs))
border-pick C [] xs = border-nothing C
border-pick C (p ∷ ps) [] = border-nothing C
border-pick C (true ∷ ps) (x ∷ xs) = complex_border-add C x.step _ ∙ ap (λ c. border C x.step ⊕ c) (border-pick C ps xs)
border-pick C (false ∷ ps) (x ∷ xs) = border-pick C ps xs

vectors-append : (xs ys : List Row) → vectors (xs ++ ys) ≡ vectors xs ++ vectors ys
vectors-append [] ys = refl
vectors-append (x ∷ xs) ys = ap (λ vs. x.vector ∷ vs) (vectors-append xs ys)

abbrev Split : List Bool → List Row → List Row → Type 0
Split ps xs ys = (bs : List Bool) × (cs : List Bool) × (length bs ≡ length xs) × (length cs ≡ length ys)
    × (pick ps (vectors (xs ++ ys)) ≡ pick bs (vectors xs) ⊕ pick cs (vectors ys))

split : (ps : List Bool) (xs ys : List Row) → length ps ≡ length (xs ++ ys) → Split ps xs ys
split ps [] ys l = ([], ps, refl, l, sym (nothing-add _))
split [] (x ∷ xs) ys l = absurd (omega arith)
split (p ∷ ps) (x ∷ xs) ys l =
    let (bs, cs, lb, lc, e) = split ps xs ys (omega arith) in (
      p ∷ bs,
      cs,
      ap suc lb,
      lc,
      pick-cons p ps x.vector _ ∙ ap (λ c. cond p x.vector nothing ⊕ c) e ∙ sym (add_assoc _ _ _)
          ∙ ap (λ c. c ⊕ pick cs (vectors ys)) (sym (pick-cons p bs x.vector (vectors xs))),
    )

degree-pick : {G : Type 0} (C : Complex G) (m : G) (rs : List Row) → Every (λ r. AllOfDegree C m r.vector) rs
    → (ps : List Bool) → AllOfDegree C m (pick ps (vectors rs))
degree-pick C m [] h [] = degree-nothing C m
degree-pick C m [] h (p ∷ ps) = degree-nothing C m
degree-pick C m (r ∷ rs) h [] = degree-nothing C m
degree-pick C m (r ∷ rs) h (true ∷ ps) = degree-add C m r.vector _ h.0 (degree-pick C m rs h.1 ps)
degree-pick C m (r ∷ rs) h (false ∷ ps) = degree-pick C m rs h.1 ps

module _ {G : Type 0} (C : Complex G) (laws : IsComplex C) (m : G) (cells : Chain) (all : IsAllCells C m cells)
    (cycles : List CyclePair) (steps above : List StepPair)
    (cp : AreCyclePairs C m cycles) (sp : AreStepPairs C m steps) (ap' : AreStepPairs C (C.up m) above)
    (count : length (codes cells) ≡ length steps + (length cycles + length above)) where
  abbrev rows : List Row
  rows = map (step_row C) steps ++ (map cycle_row cycles ++ map (boundary_row C) above)

  closed_by : (p : StepPair) (q : CyclePair) → IsCycle C m q.cycle → pairs_oddly (border C q.cycle) p.probe ≡ false
  closed_by p q c = ap (λ z. pairs_oddly z p.probe) c.1 ∙ pairs-nothing p.probe

  twice_by : (p q : StepPair) → pairs_oddly (border C (border C q.step)) p.probe ≡ false
  twice_by p q = ap (λ z. pairs_oddly z p.probe) (complex_border-border C laws q.step) ∙ pairs-nothing p.probe

  every_cycle : Every (λ (q : CyclePair). IsCycle C m q.cycle) cycles
  every_cycle = Every-All (λ (q : CyclePair). IsCycle C m q.cycle) cycles cp.cycles

  every_cocycle : Every (λ (q : CyclePair). (s : ℕ) → pairs_oddly (C.targets s) q.cocycle ≡ false) cycles
  every_cocycle =
      Every-All (λ (q : CyclePair). (s : ℕ) → pairs_oddly (C.targets s) q.cocycle ≡ false) cycles cp.cocycles

  tri_cycles : IsTriangular (map cycle_row cycles)
  tri_cycles =
      IsTriangular-map cycle_row cycles
      (Every-All (λ (p : CyclePair). pairs_oddly p.cycle p.cocycle ≡ true) cycles cp.own)
      (λ i j d l k. (cp.others i j d l k).1)

  tri_boundaries : (m' : G) (xs : List StepPair) → AreStepPairs C m' xs → IsTriangular (map (boundary_row C) xs)
  tri_boundaries m' xs x =
      IsTriangular-map (boundary_row C) xs
      (Every-All (λ (p : StepPair). pairs_oddly (border C p.step) p.probe ≡ true) xs x.own) x.later

  tri : IsTriangular rows
  tri = IsTriangular-append (map (step_row C) steps) (map cycle_row cycles ++ map (boundary_row C) above)
      (IsTriangular-map (step_row C) steps
      (Every-All (λ (p : StepPair). pairs_oddly (border C p.step) p.probe ≡ true) steps sp.own) sp.later)
      (IsTriangular-append (map cycle_row cycles) (map (boundary_row C) above) tri_cycles
      (tri_boundaries (C.up m) above ap')
      (every_map _ cycle_row cycles (every_weaker (λ (q : CyclePair). (s : ℕ)
      → pairs_oddly (C.targets s) q.cocycle ≡ false) _ cycles
      (λ q c. every_map _ (boundary_row C) above (every_all _ above (λ p. even_with_borders C q.cocycle c p.step)))
      every_cocycle)))
      (every_map _ (step_row C) steps (every_all _ steps (λ p.
      every_append _ (map cycle_row cycles) (map (boundary_row C) above)
      (every_map _ cycle_row cycles (every_weaker (λ (q : CyclePair). IsCycle C m q.cycle) _ cycles
      (λ q c. closed_by p q c) every_cycle))
      (every_map _ (boundary_row C) above (every_all _ above (λ q. twice_by p q))))))

  border_degree : (z : Chain) → AllOfDegree C (C.up m) z → AllOfDegree C m (border C z)
  border_degree z of s h =
      let (t, in_z, t_to_s) = weight-some _ z (sym (holds-sum_over z C.targets s) ∙ h) in
      let (k, above_k, below) = laws.lowers t s t_to_s in
      below ∙ ap Some (laws.up_one k m (same_some _ _ (sym above_k ∙ of t in_z)))

  every_step : (m' : G) (xs : List StepPair) → AreStepPairs C m' xs
      → Every (λ (p : StepPair). AllOfDegree C m' p.step) xs
  every_step m' xs x = Every-All (λ (p : StepPair). AllOfDegree C m' p.step) xs x.steps

  row_degrees : Every (λ r. AllOfDegree C m r.vector) rows
  row_degrees =
      every_append _ (map (step_row C) steps) (map cycle_row cycles ++ map (boundary_row C) above)
      (every_map _ (step_row C) steps (every_step m steps sp))
      (every_append _ (map cycle_row cycles) (map (boundary_row C) above)
      (every_map _ cycle_row cycles (every_weaker (λ (q : CyclePair). IsCycle C m q.cycle) _ cycles
      (λ q c. c.0) every_cycle))
      (every_map _ (boundary_row C) above
      (every_weaker (λ (p : StepPair). AllOfDegree C (C.up m) p.step) _ above (λ p of. border_degree p.step of)
      (every_step (C.up m) above ap'))))

  inside : Every (λ r. IsInside cells r.vector) rows
  inside = every_weaker (λ r. AllOfDegree C m r.vector) _ rows (λ r of s h. (all s).1 (of s h)) row_degrees

  row_count : length (codes cells) ≡ length rows
  row_count = omega (
    arith,
    count,
    length-append (map (step_row C) steps) (map cycle_row cycles ++ map (boundary_row C) above),
    length-append (map cycle_row cycles) (map (boundary_row C) above),
    length-map steps (step_row C),
    length-map cycles cycle_row,
    length-map above (boundary_row C),
  )

  abbrev basis : List Chain
  basis = vectors (map cycle_row cycles)

  unmarked : (xs : List StepPair) → pick (no_picks (map (boundary_row C) xs)) (vectors (map (step_row C) xs)) ≡ nothing
  unmarked [] = refl
  unmarked (x ∷ xs) = unmarked xs

  closed_pick : (xs : List CyclePair) → Every (λ (q : CyclePair). IsCycle C m q.cycle) xs → (ps : List Bool)
      → border C (pick ps (vectors (map cycle_row xs))) ≡ nothing
  closed_pick xs h [] = border-nothing C
  closed_pick [] h (p ∷ ps) = border-nothing C
  closed_pick (x ∷ xs) h (true ∷ ps) =
      complex_border-add C x.cycle _ ∙ ap₂ ◌⊕◌ h.0.1 (closed_pick xs h.1 ps) ∙ add_self nothing
  closed_pick (x ∷ xs) h (false ∷ ps) = closed_pick xs h.1 ps

  cancel : (z st h b : Chain) → z ≡ st ⊕ (h ⊕ b) → st ≡ nothing → z ⊕ h ≡ b
  cancel z st h b e none =
      ap (λ c. c ⊕ h) (e ∙ ap (λ c. c ⊕ (h ⊕ b)) none ∙ nothing-add _) ∙ add_comm (h ⊕ b) h ∙ add_back h b

  found : (z : Chain) → IsCycle C m z
      → (ps : List Bool) × (length ps ≡ length (map cycle_row cycles)) × IsBoundary C m (z ⊕ pick ps basis)
  found z c =
      let (ps, l, e) = spans rows tri cells row_count inside z (λ s h. (all s).1 (c.0 s h)) in
      let (ss, bcs, la, lbc, e1) =
      split ps (map (step_row C) steps) (map cycle_row cycles ++ map (boundary_row C) above) l in
      let (bs, cs, lb, lc, e2) = split bcs (map cycle_row cycles) (map (boundary_row C) above) lbc in
      let sum_s = pick ss (vectors (map (step_row C) steps)) in
      let sum_h = pick bs basis in
      let w = pick cs (vectors (map (step_row C) above)) in
      let sum_b = pick cs (vectors (map (boundary_row C) above)) in
      let is_b : border C w ≡ sum_b = border-pick C cs above in
      let parts : z ≡ sum_s ⊕ (sum_h ⊕ sum_b) = sym e ∙ e1 ∙ ap (λ u. sum_s ⊕ u) e2 in
      let rest_closed : border C (sum_h ⊕ sum_b) ≡ nothing =
      complex_border-add C sum_h sum_b
      ∙ ap₂ ◌⊕◌ (closed_pick cycles every_cycle bs) (ap (border C) (sym is_b) ∙ complex_border-border C laws w)
      ∙ add_self nothing
      in
      let no_s : border C sum_s ≡ nothing =
      sym (add-nothing _) ∙ ap (λ u. border C sum_s ⊕ u) (sym rest_closed) ∙ sym (complex_border-add C sum_s _)
      ∙ ap (border C) (sym parts) ∙ c.1
      in
      let none =
      independent (map (boundary_row C) steps) (tri_boundaries m steps sp) ss
      (la ∙ length-map steps (step_row C) ∙ sym (length-map steps (boundary_row C)))
      (sym (border-pick C ss steps) ∙ no_s) in (
        bs,
        lb,
        (
          w,
          degree-pick C (C.up m) (map (step_row C) above)
              (every_map _ (step_row C) above (every_step (C.up m) above ap')) cs,
          is_b ∙ sym (cancel z sum_s sum_h sum_b parts (ap (λ ms. pick ms (vectors (map (step_row C) steps))) none
              ∙ unmarked steps)),
        ),
      )

  to_basis : (ps : List Bool) → length ps ≡ length (map cycle_row cycles) → length ps ≡ length basis
  to_basis ps l = l ∙ sym (length-map (map cycle_row cycles) (λ (r : Row). r.vector))

  from_basis : (ps : List Bool) → length ps ≡ length basis → length ps ≡ length (map cycle_row cycles)
  from_basis ps l = l ∙ length-map (map cycle_row cycles) (λ (r : Row). r.vector)

  one : (z : Chain) (ps qs : List Bool) → length ps ≡ length (map cycle_row cycles)
      → length qs ≡ length (map cycle_row cycles) → IsBoundary C m (z ⊕ pick ps basis)
      → IsBoundary C m (z ⊕ pick qs basis) → ps ≡ qs
  one z ps qs lp lq bp bq =
      let u = border C (bp.0 ⊕ bq.0) in
      let twice : pick (xor_picks ps qs) basis ≡ u =
      pick-xor basis ps qs (to_basis ps lp) (to_basis qs lq)
      ∙ sym (complex_border-add C bp.0 bq.0 ∙ ap₂ ◌⊕◌ bp.2 bq.2 ∙ add_swap z (pick ps basis) z (pick qs basis)
      ∙ ap (λ c. c ⊕ (pick ps basis ⊕ pick qs basis)) (add_self z) ∙ nothing-add _)
      in
      same_of_xor (map cycle_row cycles) ps qs lp lq
      (independent_mod (map cycle_row cycles) tri_cycles u
      (every_map _ cycle_row cycles (every_weaker (λ (q : CyclePair). (s : ℕ)
      → pairs_oddly (C.targets s) q.cocycle ≡ false) _ cycles
      (λ q even. even_with_borders C q.cocycle even (bp.0 ⊕ bq.0)) every_cocycle))
      (xor_picks ps qs) (length-xor_picks (length (map cycle_row cycles)) ps qs lp lq) twice)

  -- the number of cycle pairs is the rank
  pub rank_of_certificate : IsRank C m (length cycles)
  rank_of_certificate = (
    basis,
    record {
      cycles = all_from (IsCycle C m) basis
          (every_map (IsCycle C m) (λ (r : Row). r.vector) (map cycle_row cycles)
          (every_map _ cycle_row cycles every_cycle));
      one_subset = λ z c.
          let (ps, l, b) = found z c in
          (ps, (to_basis ps l, b), λ qs f. one z qs ps (from_basis qs f.0) l f.1 b);
    },
    length-map (map cycle_row cycles) (λ (r : Row). r.vector) ∙ length-map cycles cycle_row,
  )
