-- The pairs that a log makes pass the tests of a certificate.
use Rattle.std.proofs.Common.{◌≡◌, ℕ, zero, suc, Bool, true, false, not, cond, ◌&&◌, ◌||◌, eqb, List, [], ◌∷◌, ◌++◌, map, AllPairs, Some, is_some, ◌↔◌, inl, inr, refl, sym, ap, ap₂, ◌∙◌, arith}
use Rattle.std.proofs.lemmas.Bool.{eqb-true, ne_eqb, eq-eqb, true≢false, and_parts}
use Rattle.f2_algebra.specs.Chain.{Chain, holds, codes, nothing, single, pairs_oddly}
use Rattle.f2_algebra.specs.Complex.{Complex, arrow, border, IsComplex, AllOfDegree, AllCells, IsCycle}
use Rattle.f2_algebra.specs.Cancel.{is_one_of, without, cancelled, Entry, IsEntry, IsLog, after, rest, lift_of_one, lift, pull_of_one, pull}
use Rattle.f2_algebra.specs.Certificate.{IsAllCells, CyclePair, StepPair, AreCyclePairs, AreStepPairs}
use Rattle.f2_algebra.proofs.Chains.Tables.{◌⊻◌}
use Rattle.f2_algebra.proofs.Chains.Sets.{any, IsApart, IsApart-codes, holds-nothing, holds-single, holds-add, holds-codes, weight-some, xor-true, pairs_oddly-weight}
use Rattle.f2_algebra.proofs.Chains.Sums.{holds-when, pairs_oddly-single, linear-nothing}
use Rattle.f2_algebra.proofs.Cancelling.Cancellation.{same_some, ends_differ, border-single, border-no_arrow, holds-without, Free, rest-free, border-free, lift-border, rest-lift, rest-border, degree-cancelled, cancelled_IsComplex}
use Rattle.f2_algebra.proofs.Cancelling.LogLemmas.{none_where, live_below, cells-free, lift_origin, same_targets, not_one, lift_degrees, pull_degrees, border-lift, rest_border, rest_lift, lift-linear, pairs-rest_of_one, pairs-pull_single, pull_IsPull, lift-push}
use Rattle.f2_algebra.proofs.Certificates.Span.{Every, every_all}
use Rattle.f2_algebra.proofs.Certificates.Certificate.{Every-All, all_from, every_map, every_weaker, pairs_head, pairs_tail}

-- ---- lists
-- R holds of each element and each later one, by recursion
abbrev pub Pairwise : {X : Type 0} → (X → X → Type 0) → List X → Type 0
Pairwise R [] = Unit {0}
Pairwise R (x ∷ xs) = Every (R x) xs × Pairwise R xs

-- what holds of all pairs, by recursion
pub pairwise : {X : Type 0} (R : X → X → Type 0) (xs : List X) → AllPairs R xs → Pairwise R xs
pairwise R [] h = tt
pairwise R (x ∷ xs) h = (Every-All (R x) xs (pairs_head R x xs h), pairwise R xs (pairs_tail R x xs h))

-- and back
pub pairs_from : {X : Type 0} (R : X → X → Type 0) (xs : List X) → Pairwise R xs → AllPairs R xs
pairs_from R [] h i j d p q = absurd (omega arith)
pairs_from R (x ∷ xs) h i zero d p q = absurd (omega arith)
pairs_from R (x ∷ xs) h zero (suc j) d p q = all_from (R x) xs h.0 j d (omega arith)
pairs_from R (x ∷ xs) h (suc i) (suc j) d p q = pairs_from R xs h.1 i j d (omega arith) (omega arith)

-- what follows from two properties of each element holds of each
pub every_both : {X : Type 0} (P Q S : X → Type 0) (xs : List X) → ((x : X) → P x → Q x → S x) → Every P xs → Every Q xs
    → Every S xs
every_both P Q S [] f h k = tt
every_both P Q S (x ∷ xs) f h k = (f x h.0 k.0, every_both P Q S xs f h.1 k.1)

-- what follows for the images of each pair holds of the list of images
pub pairwise_map : {X Y : Type 0} (P : X → Type 0) (R : X → X → Type 0) (S : Y → Y → Type 0) (f : X → Y) (xs : List X)
    → ((x y : X) → P x → P y → R x y → S (f x) (f y)) → Every P xs → Pairwise R xs → Pairwise S (map f xs)
pairwise_map P R S f [] g h k = tt
pairwise_map P R S f (x ∷ xs) g h k = (
  every_map (S (f x)) f xs (every_both P (R x) (λ y. S (f x) (f y)) xs (λ y p r. g x y h.0 p r) h.1 k.0),
  pairwise_map P R S f xs g h.1 k.1,
)

-- ---- the step pairs of a log, at the entries whose x passes the test
-- the pair of the complex before an entry that comes from one after it
abbrev pub lifted_pair : Entry → StepPair → StepPair
lifted_pair e q = record { step = lift_of_one e q.step; probe = pull_of_one e q.probe }

-- the pair that an entry makes itself
abbrev pub own_pair : Entry → StepPair
own_pair e = record { step = single e.x; probe = single e.y }

-- the step pairs of a log, for the entries whose x passes the test
abbrev pub step_pairs : (ℕ → Bool) → List Entry → List StepPair
step_pairs p [] = []
step_pairs p (e ∷ log) =
    cond (p e.x) (own_pair e ∷ map (lifted_pair e) (step_pairs p log)) (map (lifted_pair e) (step_pairs p log))

-- p tells the cells of degree m
abbrev pub IsTest : {G : Type 0} → Complex G → G → (ℕ → Bool) → Type 0
IsTest C m p = (s : ℕ) → is_some (C.degree s) ≡ true → (p s ≡ true) ↔ (C.degree s ≡ Some m)

-- the tests, each element with those that follow
pub record StepsPass {G : Type 0} (C : Complex G) (m : G) (qs : List StepPair) : Type 0 where
  pub steps : Every (λ (q : StepPair). AllOfDegree C m q.step) qs
  pub probes : Every (λ (q : StepPair). (s : ℕ) → holds q.probe s ≡ true
      → (n : G) × (C.degree s ≡ Some n) × (C.up n ≡ m)) qs
  pub own : Every (λ (q : StepPair). pairs_oddly (border C q.step) q.probe ≡ true) qs
  pub later : Pairwise (λ (p q : StepPair). pairs_oddly (border C q.step) p.probe ≡ false) qs

module _ {G : Type 0} (C : Complex G) (laws : IsComplex C) (e : Entry) (fits : IsEntry C e) (m : G) where
  abbrev D : Complex G
  D = cancelled C e.x e.y

  degree_cells : (z : Chain) → AllOfDegree D m z → AllCells D z
  degree_cells z of s h = ap is_some (of s h)

  free_of : (z : Chain) → AllOfDegree D m z → Free C laws e fits z
  free_of z of = cells-free C laws e fits z (degree_cells z of)

  -- the pairing of a border with a probe stays
  same_pairing : (q r : StepPair) → AllOfDegree D m q.step
      → pairs_oddly (border C (lift_of_one e q.step)) (pull_of_one e r.probe) ≡ pairs_oddly (border D q.step) r.probe
  same_pairing q r of =
      sym (pairs-rest_of_one e (border C (lift_of_one e q.step)) r.probe)
      ∙ ap (λ c. pairs_oddly c r.probe)
      (rest-border C laws e fits (lift_of_one e q.step)
      ∙ ap (border D) (rest-lift C laws e fits q.step (free_of q.step of)))

  lift_degree : (z : Chain) → AllOfDegree D m z → AllOfDegree C m (lift_of_one e z)
  lift_degree z of s h = let (t, in_z, same) = lift_origin C laws e fits z (degree_cells z of) s h in same ∙ of t in_z

  abbrev IsBelow : Complex G → ℕ → Type 0
  IsBelow E s = (n : G) × (E.degree s ≡ Some n) × (E.up n ≡ m)

  pull_origin : (f : Chain) → AllCells D f → (s : ℕ) → holds (pull_of_one e f) s ≡ true
      → (t : ℕ) × (holds f t ≡ true) × (C.degree s ≡ D.degree t)
  pull_origin f cells s h =
      elim (xor-true (holds (without e.x e.y f) s) (holds (cond (pairs_oddly e.targets f) (single e.y) nothing) s)
      (sym (holds-add _ _ s) ∙ h)) [
        | inl a ↦
            let (in_f, free) =
            and_parts (holds f s) (not (is_one_of e.x e.y s)) (sym (holds-without C laws e fits f s) ∙ a) in
            (s, in_f, sym (degree-cancelled C laws e fits s (not_one C laws e fits s _ free)))
        | inr b ↦
            let (pairs, is_y) =
            and_parts (pairs_oddly e.targets f) (holds (single e.y) s) (sym (holds-when _ (single e.y) s) ∙ b) in
            let (t, in_targets, in_f) =
            weight-some (holds f) e.targets (sym (pairs_oddly-weight e.targets f) ∙ pairs) in
            let (x_to_t, _) = and_parts (arrow C e.x t) (not (eqb t e.y)) (sym (fits.other_targets t) ∙ in_targets) in (
              t,
              in_f,
              ap C.degree (eqb-true s e.y (sym (holds-single e.y s) ∙ is_y)) ∙ same_targets C laws e fits t x_to_t
                  ∙ sym (live_below C laws e fits t (cells t in_f)),
            )
      ]

  pull_below : (f : Chain) → ((s : ℕ) → holds f s ≡ true → IsBelow D s) → (s : ℕ) → holds (pull_of_one e f) s ≡ true
      → IsBelow C s
  pull_below f below s h =
      let (t, in_f, same) = pull_origin f (λ u i. ap is_some ((below u i).1)) s h in
      let (n, is, up) = below t in_f in
      (n, same ∙ is, up)

  lifted_pass : (qs : List StepPair) → StepsPass D m qs → StepsPass C m (map (lifted_pair e) qs)
  lifted_pass qs h = record {
    steps = every_map (λ (q : StepPair). AllOfDegree C m q.step) (lifted_pair e) qs
        (every_weaker (λ (q : StepPair). AllOfDegree D m q.step) _ qs (λ q of. lift_degree q.step of) h.steps);
    probes = every_map (λ (q : StepPair). (s : ℕ) → holds q.probe s ≡ true → IsBelow C s) (lifted_pair e) qs
        (every_weaker (λ (q : StepPair). (s : ℕ) → holds q.probe s ≡ true → IsBelow D s) _ qs
        (λ q below. pull_below q.probe below) h.probes);
    own = every_map (λ (q : StepPair). pairs_oddly (border C q.step) q.probe ≡ true) (lifted_pair e) qs
        (every_both (λ (q : StepPair). AllOfDegree D m q.step)
        (λ (q : StepPair). pairs_oddly (border D q.step) q.probe ≡ true) _ qs
        (λ q of odd. same_pairing q q of ∙ odd) h.steps h.own);
    later = pairwise_map (λ (q : StepPair). AllOfDegree D m q.step)
        (λ (p q : StepPair). pairs_oddly (border D q.step) p.probe ≡ false)
        (λ (p q : StepPair). pairs_oddly (border C q.step) p.probe ≡ false) (lifted_pair e) qs
        (λ p q _ of even. same_pairing q p of ∙ even) h.steps h.later;
  }

  -- y is in no border of a lift
  no_y : (z : Chain) → AllOfDegree D m z → pairs_oddly (border C (lift_of_one e z)) (single e.y) ≡ false
  no_y z of =
      let free = free_of z of in
      pairs_oddly-single e.y _
      ∙ ap (λ c. holds c e.y) (lift-border C laws e fits z free)
      ∙ holds-add (border D z) _ e.y
      ∙ ap₂ ◌⊻◌
      (ap (λ c. holds c e.y) (border-free C laws e fits z free) ∙ (rest-free C laws e fits (border C z)).1)
      (holds-when (pairs_oddly (border D z) e.sources) (single e.x) e.y
      ∙ ap (λ b. pairs_oddly (border D z) e.sources && b)
      (holds-single e.x e.y ∙ ne_eqb e.y e.x (λ same. ends_differ C laws e fits (sym same)))
      ∙ never (pairs_oddly (border D z) e.sources))
    where
      never : (b : Bool) → (b && false) ≡ false
      never true = refl
      never false = refl

  own_pass : C.degree e.x ≡ Some m → (qs : List StepPair) → StepsPass D m qs
      → StepsPass C m (own_pair e ∷ map (lifted_pair e) qs)
  own_pass is qs h =
      let later = lifted_pass qs h in
      let (k, x_above, y_below) = laws.lowers e.x e.y fits.arrows in
      record {
        steps = (λ s i. ap C.degree (eqb-true s e.x (sym (holds-single e.x s) ∙ i)) ∙ is, later.steps);
        probes = (
          λ s i. (
            k,
            ap C.degree (eqb-true s e.y (sym (holds-single e.y s) ∙ i)) ∙ y_below,
            same_some _ _ (sym x_above ∙ is),
          ),
          later.probes,
        );
        own = (
          pairs_oddly-single e.y (border C (single e.x)) ∙ ap (λ c. holds c e.y) (border-single C e.x)
              ∙ fits.arrows,
          later.own,
        );
        later = (
          every_map _ (lifted_pair e) qs
              (every_weaker (λ (q : StepPair). AllOfDegree D m q.step) _ qs (λ q of. no_y q.step of) h.steps),
          later.later,
        );
      }

  -- a test of the degree remains one after an entry
  pub test_after : (p : ℕ → Bool) → IsTest C m p → IsTest D m p
  test_after p test s live =
      let same = live_below C laws e fits s live in
      let is = test s (sym (ap is_some same) ∙ live) in
      (λ h. same ∙ is.0 h, λ h. is.1 (sym same ∙ h))

  -- x is a cell
  pub x_live : is_some (C.degree e.x) ≡ true
  x_live = let (_, x_above, _) = laws.lowers e.x e.y fits.arrows in ap is_some x_above

  next_pass : (p : ℕ → Bool) → IsTest C m p → (qs : List StepPair) → StepsPass D m qs → (b : Bool) → p e.x ≡ b
      → StepsPass C m (cond b (own_pair e ∷ map (lifted_pair e) qs) (map (lifted_pair e) qs))
  next_pass p test qs h true is = own_pass ((test e.x x_live).0 is) qs h
  next_pass p test qs h false is = lifted_pass qs h

steps_pass : {G : Type 0} (C : Complex G) → IsComplex C → (log : List Entry) → IsLog C log → (m : G) (p : ℕ → Bool)
    → IsTest C m p → StepsPass C m (step_pairs p log)
steps_pass C laws [] stands m p test = record { steps = tt; probes = tt; own = tt; later = tt }
steps_pass C laws (e ∷ log) stands m p test =
    next_pass C laws e stands.0 m p test (step_pairs p log)
    (steps_pass (cancelled C e.x e.y) (cancelled_IsComplex C laws e stands.0) log stands.1 m p
    (test_after C laws e stands.0 m p test))
    (p e.x) refl

-- the step pairs of a log pass
pub step_pairs_pass : {G : Type 0} (C : Complex G) → IsComplex C → (log : List Entry) → IsLog C log
    → (m : G) (p : ℕ → Bool) → IsTest C m p → AreStepPairs C m (step_pairs p log)
step_pairs_pass {G} C laws log stands m p test =
    let h = steps_pass C laws log stands m p test in
    let qs = step_pairs p log in
    record {
      steps = all_from (λ (q : StepPair). AllOfDegree C m q.step) qs h.steps;
      probe_degrees =
          all_from (λ (q : StepPair). (s : ℕ) → holds q.probe s ≡ true → (n : G) × (C.degree s ≡ Some n) × (C.up n ≡ m))
          qs h.probes;
      own = all_from (λ (q : StepPair). pairs_oddly (border C q.step) q.probe ≡ true) qs h.own;
      later = pairs_from (λ (p q : StepPair). pairs_oddly (border C q.step) p.probe ≡ false) qs h.later;
    }

-- ---- the cycle pairs of a log that leaves no arrow
-- the pair of the lift and the pull of a cell that is left
abbrev pub cycle_pair : List Entry → ℕ → CyclePair
cycle_pair log c = record { cycle = lift log (single c); cocycle = pull log (single c) }

apart_pairwise : (xs : List ℕ) → IsApart xs → Pairwise (λ (x y : ℕ). eqb y x ≡ false) xs
apart_pairwise [] h = tt
apart_pairwise (x ∷ xs) h = (head xs h.0, apart_pairwise xs h.1)
  where
    head : (ys : List ℕ) → any x ys ≡ false → Every (λ (y : ℕ). eqb y x ≡ false) ys
    head [] a = tt
    head (y ∷ ys) a = (
      none_where (eqb y x) (λ is. true≢false (sym (ap (λ b. b || any x ys) (eq-eqb x y (sym (eqb-true y x is))))
          ∙ a)),
      head ys (in_rest (eqb x y) a),
    )
      where
        in_rest : (b : Bool) {c : Bool} → (b || c) ≡ false → c ≡ false
        in_rest true i = absurd (true≢false i)
        in_rest false i = i

module _ {G : Type 0} (C : Complex G) (laws : IsComplex C) (log : List Entry) (stands : IsLog C log)
    (bare : (s : ℕ) → (after C log).targets s ≡ nothing) (m : G) (cells : Chain)
    (all : IsAllCells (after C log) m cells) where
  is_cell : (s : ℕ) → any s (codes cells) ≡ true → (after C log).degree s ≡ Some m
  is_cell s i = (all s).0 (holds-codes cells s ∙ i)

  single_cells : (s : ℕ) → (after C log).degree s ≡ Some m → AllCells (after C log) (single s)
  single_cells s is t h =
      ap (λ u. is_some ((after C log).degree u)) (eqb-true t s (sym (holds-single s t) ∙ h)) ∙ ap is_some is

  each_cell : (xs : List ℕ) → ((s : ℕ) → any s xs ≡ true → (after C log).degree s ≡ Some m)
      → Every (λ (s : ℕ). (after C log).degree s ≡ Some m) xs
  each_cell [] h = tt
  each_cell (x ∷ xs) h =
      (h x (ap (λ b. b || any x xs) (eq-eqb x x refl)), each_cell xs (λ s i. h s (in_tail (eqb s x) i)))
    where
      in_tail : (b : Bool) {c : Bool} → c ≡ true → (b || c) ≡ true
      in_tail true i = refl
      in_tail false i = i

  closed : (s : ℕ) → (after C log).degree s ≡ Some m → IsCycle C m (lift log (single s))
  closed s is = (
    λ u h. let (t, in_s, same) = lift_degrees C laws log stands (single s) (single_cells s is) u h in
        same ∙ ap (after C log).degree (eqb-true t s (sym (holds-single s t) ∙ in_s)) ∙ is,
    border-lift C laws log stands (single s) (single_cells s is)
        ∙ ap (lift log) (border-no_arrow (after C log) bare (single s)) ∙ linear-nothing (lift log) (lift-linear log),
  )

  coclosed : (s t : ℕ) → pairs_oddly (C.targets t) (pull log (single s)) ≡ false
  coclosed s t =
      pairs-pull_single log s (C.targets t)
      ∙ ap (λ c. holds c s) (ap (rest log) (sym (border-single C t)) ∙ rest_border C laws log stands (single t)
      ∙ border-no_arrow (after C log) bare _)
      ∙ holds-nothing s

  pairing : (c d : ℕ) → (after C log).degree c ≡ Some m
      → pairs_oddly (lift log (single c)) (pull log (single d)) ≡ eqb d c
  pairing c d is = pairs-pull_single log d (lift log (single c))
      ∙ ap (λ z. holds z d) (rest_lift C laws log stands (single c) (single_cells c is)) ∙ holds-single c d

  -- the cycle pairs of a log that leaves no arrow pass
  pub cycle_pairs_pass : AreCyclePairs C m (map (cycle_pair log) (codes cells))
  cycle_pairs_pass =
      let xs = codes cells in
      let each = each_cell xs is_cell in
      let P = λ (s : ℕ). (after C log).degree s ≡ Some m in
      record {
        cycles = all_from (λ (p : CyclePair). IsCycle C m p.cycle) _
            (every_map (λ (p : CyclePair). IsCycle C m p.cycle) (cycle_pair log) xs (every_weaker P _ xs closed each));
        cocycle_degrees =
            all_from (λ (p : CyclePair). AllOfDegree C m p.cocycle) _
            (every_map (λ (p : CyclePair). AllOfDegree C m p.cocycle) (cycle_pair log) xs
            (every_weaker P _ xs (λ s is t h. pull_degrees C laws log stands s (pull log (single s))
            (pull_IsPull log s) t h ∙ is) each));
        cocycles =
            all_from (λ (p : CyclePair). (t : ℕ) → pairs_oddly (C.targets t) p.cocycle ≡ false) _
            (every_map (λ (p : CyclePair). (t : ℕ) → pairs_oddly (C.targets t) p.cocycle ≡ false) (cycle_pair log) xs
            (every_all _ xs coclosed));
        own = all_from (λ (p : CyclePair). pairs_oddly p.cycle p.cocycle ≡ true) _
            (every_map (λ (p : CyclePair). pairs_oddly p.cycle p.cocycle ≡ true) (cycle_pair log) xs
            (every_weaker P _ xs (λ s is. pairing s s is ∙ eq-eqb s s refl) each));
        others = pairs_from (λ (p q : CyclePair). (pairs_oddly p.cycle q.cocycle ≡ false)
            × (pairs_oddly q.cycle p.cocycle ≡ false)) _
            (pairwise_map P (λ (x y : ℕ). eqb y x ≡ false) _ (cycle_pair log) xs
            (λ x y px py d. (pairing x y px ∙ d, pairing y x py ∙ flipped x y ∙ d)) each
            (apart_pairwise xs (IsApart-codes cells)));
      }
    where
      flipped : (a b : ℕ) → eqb a b ≡ eqb b a
      flipped a b = grind arith

-- ---- the step pairs by the entries before each: the lift of x and the pull of y from these
-- the pair of the first complex that comes from one after a log
abbrev pub lifted_by : List Entry → StepPair → StepPair
lifted_by done q = record { step = lift done q.step; probe = pull done q.probe }

-- the step pairs of the entries of a log that stands after the entries done
abbrev pub step_pairs_after : (ℕ → Bool) → List Entry → List Entry → List StepPair
step_pairs_after p done [] = []
step_pairs_after p done (e ∷ log) =
    cond (p e.x) (lifted_by done (own_pair e) ∷ step_pairs_after p (done ++ e ∷ []) log)
    (step_pairs_after p (done ++ e ∷ []) log)

-- the pull by one more entry at the end
pub pull-push : (log : List Entry) (e : Entry) (f : Chain) → pull (log ++ e ∷ []) f ≡ pull log (pull_of_one e f)
pull-push [] e f = refl
pull-push (g ∷ log) e f = ap (pull_of_one g) (pull-push log e f)

pairs-push : (done : List Entry) (e : Entry) (qs : List StepPair)
    → map (lifted_by (done ++ e ∷ [])) qs ≡ map (lifted_by done) (map (lifted_pair e) qs)
pairs-push done e [] = refl
pairs-push done e (q ∷ qs) =
    λ i. record { step = lift-push done e q.step i; probe = pull-push done e q.probe i } ∷ pairs-push done e qs i

cond-map : {X Y : Type 0} (f : X → Y) (b : Bool) (x : X) (xs : List X)
    → cond b (f x ∷ map f xs) (map f xs) ≡ map f (cond b (x ∷ xs) xs)
cond-map f true x xs = refl
cond-map f false x xs = refl

-- these are the step pairs of the log, lifted by what is done
pub step_pairs_after-lifted : (p : ℕ → Bool) (done log : List Entry)
    → step_pairs_after p done log ≡ map (lifted_by done) (step_pairs p log)
step_pairs_after-lifted p done [] = refl
step_pairs_after-lifted p done (e ∷ log) =
    ap (λ qs. cond (p e.x) (lifted_by done (own_pair e) ∷ qs) qs)
    (step_pairs_after-lifted p (done ++ e ∷ []) log ∙ pairs-push done e (step_pairs p log))
    ∙ cond-map (lifted_by done) (p e.x) (own_pair e) (map (lifted_pair e) (step_pairs p log))

map-self : (qs : List StepPair) → map (lifted_by []) qs ≡ qs
map-self [] = refl
map-self (q ∷ qs) = ap (λ rs. q ∷ rs) (map-self qs)

-- with nothing done they are the step pairs of the log
pub step_pairs-after : (p : ℕ → Bool) (log : List Entry) → step_pairs_after p [] log ≡ step_pairs p log
step_pairs-after p log = step_pairs_after-lifted p [] log ∙ map-self (step_pairs p log)
