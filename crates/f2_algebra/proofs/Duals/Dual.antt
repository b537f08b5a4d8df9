-- A complex and its dual have the same ranks.
use Rattle.std.proofs.Common.{◌≡◌, ℕ, ◌+◌, Bool, true, false, List, [], ◌∷◌, ◌++◌, map, length, Some, is_some, ◌↔◌, refl, sym, ap, subst, ◌∙◌, arith}
use Rattle.std.proofs.lemmas.List.{length-map, length-append}
use Rattle.f2_algebra.specs.Chain.{Chain, holds, codes, nothing, pairs_oddly}
use Rattle.f2_algebra.specs.Complex.{Complex, border, IsComplex, AllOfDegree, IsCycle, IsRank}
use Rattle.f2_algebra.specs.Certificate.{IsAllCells, CyclePair, StepPair, AreCyclePairs, AreStepPairs}
use Rattle.f2_algebra.specs.Dual.{IsDualOf}
use Rattle.f2_algebra.proofs.Chains.Sets.{same_chain, holds-nothing, weight, weight-same, pairs_oddly-weight, pairs_oddly-comm}
use Rattle.f2_algebra.proofs.Chains.Sums.{holds-sum_over, weight-sum_over}
use Rattle.f2_algebra.proofs.Certificates.Span.{Every}
use Rattle.f2_algebra.proofs.Certificates.Certificate.{Every-All, all_from, every_map, every_weaker, every_append, rank_of_certificate}
use Rattle.f2_algebra.specs.Cancel.{after}
use Rattle.f2_algebra.proofs.Cancelling.LogLemmas.{live_at_first}
use Rattle.f2_algebra.proofs.Ranks.RankLemmas.{one_rank}
use Rattle.f2_algebra.proofs.Ranks.Existence.{HasAllCells, reduce, has_degree, has_degree-is, cells_of, cells_of-all}
use Rattle.f2_algebra.proofs.Cancelling.LogCounts.{count_log}
use Rattle.f2_algebra.proofs.Certificates.LogCertificate.{IsTest, step_pairs, cycle_pair, step_pairs_pass, cycle_pairs_pass, Pairwise, pairwise, pairs_from, every_both, pairwise_map}
use Rattle.f2_algebra.proofs.Chains.Cardinality.{cardinality-length}

-- ---- a list reversed round
reversed : {X : Type 0} → List X → List X
reversed [] = []
reversed (x ∷ xs) = reversed xs ++ x ∷ []

reversed-length : {X : Type 0} (xs : List X) → length (reversed xs) ≡ length xs
unfolding reversed
reversed-length [] = refl
reversed-length (x ∷ xs) = omega (arith, length-append (reversed xs) (x ∷ []), reversed-length xs)

reversed-every : {X : Type 0} (P : X → Type 0) (xs : List X) → Every P xs → Every P (reversed xs)
unfolding reversed
reversed-every P [] h = tt
reversed-every P (x ∷ xs) h = every_append P (reversed xs) (x ∷ []) (reversed-every P xs h.1) (h.0, tt)

pairwise_push : {X : Type 0} (R : X → X → Type 0) (xs : List X) (y : X) → Pairwise R xs → Every (λ x. R x y) xs
    → Pairwise R (xs ++ y ∷ [])
pairwise_push R [] y h k = (tt, tt)
pairwise_push R (x ∷ xs) y h k = (every_append (R x) xs (y ∷ []) h.0 (k.0, tt), pairwise_push R xs y h.1 k.1)

reversed-pairwise : {X : Type 0} (R : X → X → Type 0) (xs : List X) → Pairwise R xs
    → Pairwise (λ x y. R y x) (reversed xs)
unfolding reversed
reversed-pairwise R [] h = tt
reversed-pairwise R (x ∷ xs) h =
    pairwise_push (λ a b. R b a) (reversed xs) x (reversed-pairwise R xs h.1) (reversed-every (R x) xs h.0)

abbrev swap_step : StepPair → StepPair
swap_step q = record { step = q.probe; probe = q.step }

abbrev swap_cycle : CyclePair → CyclePair
swap_cycle q = record { cycle = q.cocycle; cocycle = q.cycle }

module _ {G H : Type 0} (C : Complex G) (flip : G → H) (D : Complex H) (dual : IsDualOf C flip D) where
  at_code : (z : Chain) (t : ℕ) → weight (holds z) (D.targets t) ≡ holds (border C z) t
  at_code z t =
      sym (pairs_oddly-weight (D.targets t) z) ∙ pairs_oddly-comm (D.targets t) z ∙ pairs_oddly-weight z (D.targets t)
      ∙ weight-same _ _ z (λ s _. dual.arrows s t) ∙ sym (holds-sum_over z C.targets t)

  -- the pairing of a border with a cochain, from both sides
  adjoint : (z f : Chain) → pairs_oddly (border D f) z ≡ pairs_oddly (border C z) f
  adjoint z f =
      pairs_oddly-weight (border D f) z ∙ weight-sum_over (holds z) f D.targets
      ∙ weight-same _ _ f (λ t _. at_code z t)
      ∙ sym (pairs_oddly-weight f (border C z)) ∙ pairs_oddly-comm f (border C z)

  -- a chain is a cycle of the dual if it pairs evenly with each border
  closed_of : (f : Chain) → ((s : ℕ) → pairs_oddly (C.targets s) f ≡ false) → border D f ≡ nothing
  closed_of f even = same_chain _ _ (λ s.
      holds-sum_over f D.targets s ∙ weight-same _ _ f (λ t _. dual.arrows s t)
      ∙ sym (pairs_oddly-weight f (C.targets s)) ∙ pairs_oddly-comm f (C.targets s) ∙ even s ∙ sym (holds-nothing s))

  coclosed_of : (z : Chain) → border C z ≡ nothing → (t : ℕ) → pairs_oddly (D.targets t) z ≡ false
  coclosed_of z closed t =
      pairs_oddly-weight (D.targets t) z ∙ at_code z t ∙ ap (λ c. holds c t) closed ∙ holds-nothing t

  dual_degree : (m : G) (z : Chain) → AllOfDegree C m z → AllOfDegree D (flip m) z
  dual_degree m z of s h = dual.degrees s m (of s h)

  dual_cycle_pairs : (m : G) (ps : List CyclePair) → AreCyclePairs C m ps → AreCyclePairs D (flip m) (map swap_cycle ps)
  dual_cycle_pairs m ps a =
      let qs = map swap_cycle ps in
      let cyc = Every-All (λ (p : CyclePair). IsCycle C m p.cycle) ps a.cycles in
      let deg = Every-All (λ (p : CyclePair). AllOfDegree C m p.cocycle) ps a.cocycle_degrees in
      let coc = Every-All (λ (p : CyclePair). (s : ℕ) → pairs_oddly (C.targets s) p.cocycle ≡ false) ps a.cocycles in
      let own = Every-All (λ (p : CyclePair). pairs_oddly p.cycle p.cocycle ≡ true) ps a.own in
      let others =
      pairwise (λ (p q : CyclePair). (pairs_oddly p.cycle q.cocycle ≡ false) × (pairs_oddly q.cycle p.cocycle ≡ false))
      ps a.others in
      record {
        cycles = all_from (λ (p : CyclePair). IsCycle D (flip m) p.cycle) qs
            (every_map (λ (p : CyclePair). IsCycle D (flip m) p.cycle) swap_cycle ps
            (every_both (λ (p : CyclePair). AllOfDegree C m p.cocycle)
            (λ (p : CyclePair). (s : ℕ) → pairs_oddly (C.targets s) p.cocycle ≡ false) _ ps
            (λ p of even. (dual_degree m p.cocycle of, closed_of p.cocycle even)) deg coc));
        cocycle_degrees =
            all_from (λ (p : CyclePair). AllOfDegree D (flip m) p.cocycle) qs
            (every_map (λ (p : CyclePair). AllOfDegree D (flip m) p.cocycle) swap_cycle ps
            (every_weaker (λ (p : CyclePair). IsCycle C m p.cycle) _ ps (λ p c. dual_degree m p.cycle c.0) cyc));
        cocycles =
            all_from (λ (p : CyclePair). (t : ℕ) → pairs_oddly (D.targets t) p.cocycle ≡ false) qs
            (every_map (λ (p : CyclePair). (t : ℕ) → pairs_oddly (D.targets t) p.cocycle ≡ false) swap_cycle ps
            (every_weaker (λ (p : CyclePair). IsCycle C m p.cycle) _ ps (λ p c. coclosed_of p.cycle c.1) cyc));
        own = all_from (λ (p : CyclePair). pairs_oddly p.cycle p.cocycle ≡ true) qs
            (every_map (λ (p : CyclePair). pairs_oddly p.cycle p.cocycle ≡ true) swap_cycle ps
            (every_weaker (λ (p : CyclePair). pairs_oddly p.cycle p.cocycle ≡ true) _ ps
            (λ p o. pairs_oddly-comm p.cocycle p.cycle ∙ o) own));
        others = pairs_from (λ (p q : CyclePair). (pairs_oddly p.cycle q.cocycle ≡ false)
            × (pairs_oddly q.cycle p.cocycle ≡ false)) qs
            (pairwise_map (λ (p : CyclePair). IsCycle C m p.cycle)
            (λ (p q : CyclePair). (pairs_oddly p.cycle q.cocycle ≡ false) × (pairs_oddly q.cycle p.cocycle ≡ false)) _
            swap_cycle ps
            (λ p q _ _ r. (pairs_oddly-comm p.cocycle q.cycle ∙ r.1, pairs_oddly-comm q.cocycle p.cycle ∙ r.0)) cyc
            others);
      }

  dual_step_pairs : (n : G) (k : H) → D.up (flip n) ≡ k → ((i : G) → C.up i ≡ n → flip i ≡ k) → (ps : List StepPair)
      → AreStepPairs C n ps → AreStepPairs D k (map swap_step (reversed ps))
  dual_step_pairs n k up down ps a =
      let rs = reversed ps in
      let qs = map swap_step rs in
      let steps =
      reversed-every (λ (p : StepPair). AllOfDegree C n p.step) ps
      (Every-All (λ (p : StepPair). AllOfDegree C n p.step) ps a.steps) in
      let probes =
      reversed-every (λ (p : StepPair). (s : ℕ) → holds p.probe s ≡ true
      → (i : G) × (C.degree s ≡ Some i) × (C.up i ≡ n)) ps
      (Every-All (λ (p : StepPair). (s : ℕ) → holds p.probe s ≡ true
      → (i : G) × (C.degree s ≡ Some i) × (C.up i ≡ n)) ps
      a.probe_degrees) in
      let own =
      reversed-every (λ (p : StepPair). pairs_oddly (border C p.step) p.probe ≡ true) ps
      (Every-All (λ (p : StepPair). pairs_oddly (border C p.step) p.probe ≡ true) ps a.own) in
      let later =
      reversed-pairwise (λ (p q : StepPair). pairs_oddly (border C q.step) p.probe ≡ false) ps
      (pairwise (λ (p q : StepPair). pairs_oddly (border C q.step) p.probe ≡ false) ps a.later) in
      record {
        steps = all_from (λ (p : StepPair). AllOfDegree D k p.step) qs
            (every_map (λ (p : StepPair). AllOfDegree D k p.step) swap_step rs
            (every_weaker (λ (p : StepPair). (s : ℕ) → holds p.probe s ≡ true
            → (i : G) × (C.degree s ≡ Some i) × (C.up i ≡ n)) _ rs
            (λ p b s h. let (i, is, at) = b s h in dual.degrees s i is ∙ ap Some (down i at)) probes));
        probe_degrees =
            all_from (λ (p : StepPair). (s : ℕ) → holds p.probe s ≡ true
            → (j : H) × (D.degree s ≡ Some j) × (D.up j ≡ k))
            qs (every_map (λ (p : StepPair). (s : ℕ) → holds p.probe s ≡ true
            → (j : H) × (D.degree s ≡ Some j) × (D.up j ≡ k)) swap_step rs
            (every_weaker (λ (p : StepPair). AllOfDegree C n p.step) _ rs
            (λ p of s h. (flip n, dual.degrees s n (of s h), up)) steps));
        own = all_from (λ (p : StepPair). pairs_oddly (border D p.step) p.probe ≡ true) qs
            (every_map (λ (p : StepPair). pairs_oddly (border D p.step) p.probe ≡ true) swap_step rs
            (every_weaker (λ (p : StepPair). pairs_oddly (border C p.step) p.probe ≡ true) _ rs
            (λ p o. adjoint p.step p.probe ∙ o) own));
        later = pairs_from (λ (p q : StepPair). pairs_oddly (border D q.step) p.probe ≡ false) qs
            (pairwise_map (λ (p : StepPair). AllOfDegree C n p.step)
            (λ (p q : StepPair). pairs_oddly (border C p.step) q.probe ≡ false) _ swap_step rs
            (λ p q _ _ e. adjoint p.step q.probe ∙ e) steps later);
      }

  -- what shows the rank of C in degree m shows it of D in the flipped degree
  pub dual_rank : IsComplex C → IsComplex D → (m : G) (cells : Chain) → IsAllCells C m cells
      → (cycles : List CyclePair) (steps above : List StepPair)
      → AreCyclePairs C m cycles → AreStepPairs C m steps → AreStepPairs C (C.up m) above
      → length (codes cells) ≡ length steps + (length cycles + length above) → IsRank D (flip m) (length cycles)
  dual_rank laws laws_d m cells all cycles steps above cp sp hp count =
      let r = rank_of_certificate D laws_d (flip m) cells
      (λ s. (
        λ h. dual.degrees s m ((all s).0 h),
        λ e. let (n, is, at) = dual.back s (flip m) e in (all s).1 (is ∙ ap Some (dual.flip_one n m at)),
      ))
      (map swap_cycle cycles) (map swap_step (reversed above)) (map swap_step (reversed steps))
      (dual_cycle_pairs m cycles cp)
      (dual_step_pairs (C.up m) (flip m) (dual.flip_up m) (λ i e. ap flip (laws.up_one i m e)) above hp)
      (dual_step_pairs m (D.up (flip m)) refl (λ i e. sym (dual.flip_up i) ∙ ap (λ n. D.up (flip n)) e) steps sp)
      (omega (
        arith,
        count,
        length-map cycles swap_cycle,
        length-map (reversed above) swap_step,
        length-map (reversed steps) swap_step,
        reversed-length above,
        reversed-length steps,
      )) in
      (r.0, r.1, r.2 ∙ length-map cycles swap_cycle)

-- a finite complex and its dual have the same ranks
pub ranks_of_dual : {G H : Type 0} (eq : G → G → Bool) (eq_is : (m n : G) → (eq m n ≡ true) ↔ (m ≡ n)) (C : Complex G)
    → IsComplex C → (xs : List ℕ) → HasAllCells C xs
    → (flip : G → H) (D : Complex H) → IsDualOf C flip D → IsComplex D → (m : G) (d : ℕ) → IsRank C m d
    → IsRank D (flip m) d
ranks_of_dual eq eq_is C laws xs in_xs flip D dual laws_d m d rank =
    let (log, stands, bare) = reduce C laws xs in_xs in
    let in_after : HasAllCells (after C log) xs =
    λ s live. in_xs s (sym (ap is_some (live_at_first C laws log stands s live)) ∙ live) in
    let z = cells_of eq eq_is C xs m in
    let w = cells_of eq eq_is (after C log) xs m in
    let all = cells_of-all eq eq_is C xs in_xs m in
    let all_w = cells_of-all eq eq_is (after C log) xs in_after m in
    let p = λ (s : ℕ). has_degree eq m (C.degree s) in
    let pu = λ (s : ℕ). has_degree eq (C.up m) (C.degree s) in
    let test : IsTest C m p = λ s _. has_degree-is eq eq_is m (C.degree s) in
    let test_up : IsTest C (C.up m) pu = λ s _. has_degree-is eq eq_is (C.up m) (C.degree s) in
    let cycles = map (cycle_pair log) (codes w) in
    let steps = step_pairs p log in
    let above = step_pairs pu log in
    let cp = cycle_pairs_pass C laws log stands bare m w all_w in
    let sp = step_pairs_pass C laws log stands m p test in
    let hp = step_pairs_pass C laws log stands (C.up m) pu test_up in
    let n = count_log C laws log stands m p pu test test_up z w all all_w in
    let count : length (codes z) ≡ length steps + (length cycles + length above) =
    omega (arith, n, cardinality-length z, cardinality-length w, length-map (codes w) (cycle_pair log)) in
    let there = rank_of_certificate C laws m z all cycles steps above cp sp hp count in
    subst (IsRank D (flip m)) (one_rank C m (length cycles) d there rank)
    (dual_rank C flip D dual laws laws_d m z all cycles steps above cp sp hp count)
