-- A check of the definitions on a complex whose ranks are known, that of the states of a grid of size 3 for the unknot:
-- cell 1 of degree (0,0); cells 0, 3 and 4 of degree (-1,-1), each with one arrow, to cell 2 of degree (-2,-1); and
-- cell 5 of degree (-2,-2).
-- The rank at (-1,-1) is 2.
use Rattle.std.proofs.Common.{◌≡◌, eqb, slice_index, inl, inr, subst, ℕ, zero, suc, ◌+◌, ◌<◌, ℤ, pos, negsuc, true, false, List, [], ◌∷◌, length, Option, Some, None, refl, sym, ap, ◌∙◌, arith}
use Rattle.std.proofs.lemmas.Bool.{false≢true, eqb-true, or_cases}
use Rattle.std.proofs.lemmas.Int.{ints}
use Rattle.f2_algebra.specs.Chain.{Chain, holds, of_codes, nothing, single, ◌⊕◌, pairs_oddly}
use Rattle.f2_algebra.specs.Complex.{Complex, arrow, border, IsComplex, IsAbove, AllOfDegree, IsCycle, IsRank}
use Rattle.f2_algebra.specs.Certificate.{IsAllCells, CyclePair, StepPair, AreCyclePairs, AreStepPairs}
use Rattle.f2_algebra.specs.Bigraded.{up_m}
use Rattle.f2_algebra.proofs.Ranks.Bigraded.{up_m_one, up_m_other}
use Rattle.f2_algebra.proofs.Chains.Sets.{any, holds-of_codes, holds-nothing, holds-single}
use Rattle.f2_algebra.proofs.Chains.Sums.{add_self, add-nothing, pairs_oddly-single, sum_over-list}
use Rattle.f2_algebra.proofs.Cancelling.Cancellation.{same_some, border-single, border-nothing}
use Rattle.f2_algebra.proofs.Chains.Lists.{codes-of_codes}
use Rattle.f2_algebra.proofs.Certificates.Span.{Every}
use Rattle.f2_algebra.proofs.Certificates.Certificate.{all_from, rank_of_certificate}
use Rattle.f2_algebra.proofs.Certificates.LogCertificate.{pairs_from}
use Rattle.f2_algebra.proofs.Certificates.CertificateRanks.{no_steps}

abbrev degree_of : ℕ → Option (ℤ × ℤ)
degree_of zero = Some (negsuc 0, negsuc 0)
degree_of (suc zero) = Some (pos 0, pos 0)
degree_of (suc (suc zero)) = Some (negsuc 1, negsuc 0)
degree_of (suc (suc (suc zero))) = Some (negsuc 0, negsuc 0)
degree_of (suc (suc (suc (suc zero)))) = Some (negsuc 0, negsuc 0)
degree_of (suc (suc (suc (suc (suc zero))))) = Some (negsuc 1, negsuc 1)
degree_of (suc (suc (suc (suc (suc (suc n)))))) = None

abbrev targets_of : ℕ → Chain
targets_of zero = single 2
targets_of (suc zero) = nothing
targets_of (suc (suc zero)) = nothing
targets_of (suc (suc (suc zero))) = single 2
targets_of (suc (suc (suc (suc zero)))) = single 2
targets_of (suc (suc (suc (suc (suc n))))) = nothing

abbrev example : Complex (ℤ × ℤ)
example = record { up = up_m; degree = degree_of; targets = targets_of }

abbrev middle : ℤ × ℤ
middle = (negsuc 0, negsuc 0)

none : {A : Type 0} (t : ℕ) → holds nothing t ≡ true → A
none t h = absurd (false≢true (sym (holds-nothing t) ∙ h))

at_two : (s t : ℕ) → degree_of s ≡ Some middle → holds (single 2) t ≡ true → IsAbove example s t
at_two s t is h = ((negsuc 1, negsuc 0), is, ap degree_of (eqb-true t 2 (sym (holds-single 2 t) ∙ h)))

lowers : (s t : ℕ) → arrow example s t ≡ true → IsAbove example s t
lowers zero t a = at_two 0 t refl a
lowers (suc zero) t a = none t a
lowers (suc (suc zero)) t a = none t a
lowers (suc (suc (suc zero))) t a = at_two 3 t refl a
lowers (suc (suc (suc (suc zero)))) t a = at_two 4 t refl a
lowers (suc (suc (suc (suc (suc n))))) t a = none t a

squares : (s : ℕ) → border example (targets_of s) ≡ nothing
squares zero = border-single example 2
squares (suc zero) = border-nothing example
squares (suc (suc zero)) = border-nothing example
squares (suc (suc (suc zero))) = border-single example 2
squares (suc (suc (suc (suc zero)))) = border-single example 2
squares (suc (suc (suc (suc (suc n))))) = border-nothing example

laws : IsComplex example
laws = record { up_one = up_m_one; up_other = up_m_other; lowers = lowers; squares = squares }

abbrev cells : Chain
cells = of_codes (0 ∷ 3 ∷ 4 ∷ [])

code_in : (P : ℕ → Type 0) (xs : List ℕ) → Every P xs → (s : ℕ) → any s xs ≡ true → P s
code_in P [] h s i = absurd (false≢true i)
code_in P (x ∷ xs) h s i = elim (or_cases (eqb s x) (any s xs) i) [
  | inl e ↦ subst P (sym (eqb-true s x e)) h.0
  | inr j ↦ code_in P xs h.1 s j
]

of_middle : (xs : List ℕ) → Every (λ (s : ℕ). degree_of s ≡ Some middle) xs → AllOfDegree example middle (of_codes xs)
of_middle xs h s i = code_in (λ (t : ℕ). degree_of t ≡ Some middle) xs h s (sym (holds-of_codes xs s) ∙ i)

in_cells : (s : ℕ) → degree_of s ≡ Some middle → any s (0 ∷ 3 ∷ 4 ∷ []) ≡ true
in_cells zero e = refl
in_cells (suc zero) e = let h : pos 0 ≡ negsuc 0 = ap (λ p. p.0) (same_some _ middle e) in cc
in_cells (suc (suc zero)) e = let h : negsuc 1 ≡ negsuc 0 = ap (λ p. p.0) (same_some _ middle e) in
    absurd (omega (arith, ints))
in_cells (suc (suc (suc zero))) e = refl
in_cells (suc (suc (suc (suc zero)))) e = refl
in_cells (suc (suc (suc (suc (suc zero))))) e = let h : negsuc 1 ≡ negsuc 0 = ap (λ p. p.0) (same_some _ middle e) in
    absurd (omega (arith, ints))
in_cells (suc (suc (suc (suc (suc (suc n)))))) e = cc

all : IsAllCells example middle cells
all s = (of_middle (0 ∷ 3 ∷ 4 ∷ []) (refl, (refl, (refl, tt))) s, λ e. holds-of_codes _ s ∙ in_cells s e)

rising : (k : ℕ) → k + 1 < 3 → slice_index (0 ∷ 3 ∷ 4 ∷ []) k < slice_index (0 ∷ 3 ∷ 4 ∷ []) (k + 1)
rising zero l = omega arith
rising (suc zero) l = omega arith
rising (suc (suc k)) l = absurd (omega arith)

abbrev pair_one : CyclePair
pair_one = record { cycle = of_codes (0 ∷ 3 ∷ []); cocycle = of_codes (3 ∷ []) }

abbrev pair_two : CyclePair
pair_two = record { cycle = of_codes (0 ∷ 4 ∷ []); cocycle = of_codes (4 ∷ []) }

abbrev step_one : StepPair
step_one = record { step = of_codes (0 ∷ []); probe = of_codes (2 ∷ []) }

twice : single 2 ⊕ (single 2 ⊕ nothing) ≡ nothing
twice = ap (λ c. single 2 ⊕ c) (add-nothing (single 2)) ∙ add_self (single 2)

cycle_one : IsCycle example middle (of_codes (0 ∷ 3 ∷ []))
cycle_one =
    (of_middle (0 ∷ 3 ∷ []) (refl, (refl, tt)), sum_over-list (0 ∷ 3 ∷ []) (refl, (refl, tt)) targets_of ∙ twice)

cycle_two : IsCycle example middle (of_codes (0 ∷ 4 ∷ []))
cycle_two =
    (of_middle (0 ∷ 4 ∷ []) (refl, (refl, tt)), sum_over-list (0 ∷ 4 ∷ []) (refl, (refl, tt)) targets_of ∙ twice)

pairs_one : (z : Chain) (t : ℕ) → pairs_oddly z (of_codes (t ∷ [])) ≡ holds z t
pairs_one z t = pairs_oddly-single t z

cocycle : (t : ℕ) → eqb t 2 ≡ false → (s : ℕ) → pairs_oddly (targets_of s) (of_codes (t ∷ [])) ≡ false
cocycle t ne s = pairs_one (targets_of s) t ∙ not_there s
  where
    not_there : (s : ℕ) → holds (targets_of s) t ≡ false
    not_there zero = holds-single 2 t ∙ ne
    not_there (suc zero) = holds-nothing t
    not_there (suc (suc zero)) = holds-nothing t
    not_there (suc (suc (suc zero))) = holds-single 2 t ∙ ne
    not_there (suc (suc (suc (suc zero)))) = holds-single 2 t ∙ ne
    not_there (suc (suc (suc (suc (suc n))))) = holds-nothing t

pairing : (xs : List ℕ) (t : ℕ) → pairs_oddly (of_codes xs) (of_codes (t ∷ [])) ≡ any t xs
pairing xs t = pairs_one (of_codes xs) t ∙ holds-of_codes xs t

abbrev both_pairs : List CyclePair
both_pairs = pair_one ∷ pair_two ∷ []

cycle_pairs : AreCyclePairs example middle both_pairs
cycle_pairs = record {
  cycles = all_from (λ (p : CyclePair). IsCycle example middle p.cycle) both_pairs (cycle_one, (cycle_two, tt));
  cocycle_degrees =
      all_from (λ (p : CyclePair). AllOfDegree example middle p.cocycle) both_pairs
      (of_middle (3 ∷ []) (refl, tt), (of_middle (4 ∷ []) (refl, tt), tt));
  cocycles =
      all_from (λ (p : CyclePair). (s : ℕ) → pairs_oddly (targets_of s) p.cocycle ≡ false) both_pairs
      (cocycle 3 refl, (cocycle 4 refl, tt));
  own = all_from (λ (p : CyclePair). pairs_oddly p.cycle p.cocycle ≡ true) both_pairs (pairing _ 3, (pairing _ 4, tt));
  others = pairs_from (λ (p q : CyclePair). (pairs_oddly p.cycle q.cocycle ≡ false)
      × (pairs_oddly q.cycle p.cocycle ≡ false)) both_pairs (((pairing _ 4, pairing _ 3), tt), (tt, tt));
}

step_pairs : AreStepPairs example middle (step_one ∷ [])
step_pairs = record {
  steps = all_from (λ (p : StepPair). AllOfDegree example middle p.step) (step_one ∷ [])
      (of_middle (0 ∷ []) (refl, tt), tt);
  probe_degrees =
      all_from (λ (p : StepPair). (s : ℕ) → holds p.probe s ≡ true
      → (n : ℤ × ℤ) × (degree_of s ≡ Some n) × (up_m n ≡ middle)) (step_one ∷ [])
      ((λ s i. ((negsuc 1, negsuc 0), ap degree_of (eqb-true s 2 (sym (holds-single 2 s) ∙ i)), refl)), tt);
  own = all_from (λ (p : StepPair). pairs_oddly (border example p.step) p.probe ≡ true) (step_one ∷ [])
      (ap (λ z. pairs_oddly z (single 2)) (border-single example 0) ∙ pairing (2 ∷ []) 2, tt);
  later = pairs_from (λ (p q : StepPair). pairs_oddly (border example q.step) p.probe ≡ false) (step_one ∷ []) (tt, tt);
}

-- the rank is the one that is known
pub rank_is_two : IsRank example middle 2
rank_is_two =
    rank_of_certificate example laws middle cells all (pair_one ∷ pair_two ∷ [])
    (step_one ∷ []) [] cycle_pairs step_pairs (no_steps example (up_m middle))
    (ap length (codes-of_codes (0 ∷ 3 ∷ 4 ∷ []) rising))
