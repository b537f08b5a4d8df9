-- How many cells a log cancels in each degree.
use Rattle.std.proofs.Common.{◌≡◌, ℕ, ◌+◌, ◌≢◌, Bool, true, false, not, cond, ◌&&◌, ◌||◌, eqb, List, [], ◌∷◌, map, length, Some, is_some, refl, sym, ap, ap₂, ◌∙◌, arith}
use Rattle.std.proofs.lemmas.Bool.{ne_eqb, and_parts}
use Rattle.std.proofs.lemmas.List.{length-map}
use Rattle.f2_algebra.specs.Chain.{Chain, holds, where_code}
use Rattle.f2_algebra.specs.Complex.{Complex, IsComplex}
use Rattle.f2_algebra.specs.Cancel.{is_one_of, without, cancelled, Entry, IsEntry, IsLog, after}
use Rattle.f2_algebra.specs.Certificate.{IsAllCells}
use Rattle.f2_algebra.proofs.Chains.Tables.{and-true, same_test}
use Rattle.f2_algebra.proofs.Chains.Sets.{same_chain, holds-where_code}
use Rattle.f2_algebra.proofs.Cancelling.Cancellation.{same_some, ends_differ, degree-cancelled, cancelled_IsComplex}
use Rattle.f2_algebra.proofs.Cancelling.LogLemmas.{live_code, live_below, not_one}
use Rattle.f2_algebra.proofs.Certificates.LogCertificate.{IsTest, step_pairs, lifted_pair, own_pair, test_after, x_live}
use Rattle.f2_algebra.proofs.Chains.Cardinality.{cardinality, cardinality-without}

two_tests : (h a b : Bool) → (h && not (a || b)) ≡ ((h && not a) && not b)
two_tests true true b = refl
two_tests true false b = refl
two_tests false a b = refl

cardinality-two : (z : Chain) (x y : ℕ) → x ≢ y
    → cardinality z ≡ cardinality (without x y z) + (cond (holds z x) 1 0 + cond (holds z y) 1 0)
cardinality-two z x y ends_differ =
    let w = where_code (λ t. not (eqb t x)) z in
    let both : without x y z ≡ where_code (λ t. not (eqb t y)) w =
    same_chain _ _ (λ q. holds-where_code _ z q ∙ two_tests (holds z q) (eqb q x) (eqb q y)
    ∙ sym (holds-where_code _ w q ∙ ap (λ b. b && not (eqb q y)) (holds-where_code _ z q)))
    in
    let y_in : holds w y ≡ holds z y =
    holds-where_code _ z y ∙ ap (λ b. holds z y && not b) (ne_eqb y x (λ s. ends_differ (sym s)))
    ∙ and-true (holds z y) in
    cardinality-without z x
    ∙ ap (λ n. n + cond (holds z x) 1 0)
    (cardinality-without w y ∙ ap₂ (λ c b. cardinality c + cond b 1 0) (sym both) y_in) ∙ omega arith

length-cond : {X : Type 0} (b : Bool) (x : X) (xs : List X) → length (cond b (x ∷ xs) xs) ≡ cond b 1 0 + length xs
length-cond true x xs = omega arith
length-cond false x xs = omega arith

module _ {G : Type 0} (C : Complex G) (laws : IsComplex C) (e : Entry) (fits : IsEntry C e) (m : G) (p pu : ℕ → Bool)
    (test : IsTest C m p) (test_up : IsTest C (C.up m) pu) (z : Chain) (all : IsAllCells C m z) where
  x_in : holds z e.x ≡ p e.x
  x_in = same_test _ _ (λ h. (test e.x (x_live C laws e fits m)).1 ((all e.x).0 h))
      (λ h. (all e.x).1 ((test e.x (x_live C laws e fits m)).0 h))

  y_in : holds z e.y ≡ pu e.x
  y_in =
      let (k, x_above, y_below) = laws.lowers e.x e.y fits.arrows in
      same_test _ _
      (λ h. (test_up e.x (x_live C laws e fits m)).1
      (x_above ∙ ap (λ n. Some (C.up n)) (same_some k m (sym y_below ∙ (all e.y).0 h))))
      (λ h. (all e.y).1 (y_below ∙ ap Some (laws.up_one k m
      (same_some _ _ (sym x_above ∙ (test_up e.x (x_live C laws e fits m)).0 h)))))

  all_after : IsAllCells (cancelled C e.x e.y) m (without e.x e.y z)
  all_after s = (
    λ h.
        let (in_z, free) = and_parts (holds z s) (not (is_one_of e.x e.y s)) (sym (holds-where_code _ z s) ∙ h) in
        degree-cancelled C laws e fits s (not_one C laws e fits s _ free) ∙ (all s).0 in_z,
    λ is.
        let live : is_some ((cancelled C e.x e.y).degree s) ≡ true = ap is_some is in
        holds-where_code _ z s
        ∙ ap₂ (λ a b. a && not b) ((all s).1 (sym (live_below C laws e fits s live) ∙ is))
        (live_code C e.x e.y s live),
  )

-- a degree has as many cells as are left in it, and one for each arrow that began or ended there
pub count_log : {G : Type 0} (C : Complex G) → IsComplex C → (log : List Entry) → IsLog C log
    → (m : G) (p pu : ℕ → Bool) → IsTest C m p → IsTest C (C.up m) pu
    → (z w : Chain) → IsAllCells C m z → IsAllCells (after C log) m w
    → cardinality z ≡ cardinality w + (length (step_pairs p log) + length (step_pairs pu log))
count_log C laws [] stands m p pu test test_up z w in_z in_w =
    ap cardinality (same_chain z w (λ s. same_test _ _ (λ h. (in_w s).1 ((in_z s).0 h))
    (λ h. (in_z s).1 ((in_w s).0 h)))) ∙ omega arith
count_log C laws (e ∷ log) stands m p pu test test_up z w in_z in_w =
    let fits = stands.0 in
    let later =
    count_log (cancelled C e.x e.y) (cancelled_IsComplex C laws e fits) log stands.1 m p pu
    (test_after C laws e fits m p test) (test_after C laws e fits (C.up m) pu test_up) (without e.x e.y z) w
    (all_after C laws e fits m p pu test test_up z in_z) in_w in
    let here = cardinality-two z e.x e.y (ends_differ C laws e fits)
    ∙ ap₂ (λ a b. cardinality (without e.x e.y z) + (cond a 1 0 + cond b 1 0))
    (x_in C laws e fits m p pu test test_up z in_z) (y_in C laws e fits m p pu test test_up z in_z) in
    omega (
      arith,
      here,
      later,
      length-cond (p e.x) (own_pair e) (map (lifted_pair e) (step_pairs p log)),
      length-cond (pu e.x) (own_pair e) (map (lifted_pair e) (step_pairs pu log)),
      length-map (step_pairs p log) (lifted_pair e),
      length-map (step_pairs pu log) (lifted_pair e),
    )
