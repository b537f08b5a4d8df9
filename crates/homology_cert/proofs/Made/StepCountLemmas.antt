-- All logs of a slice that leave no arrow have as many steps of each degree.
--
-- A degree has as many states as are left in it, and one for each step of it and of the degree above (f2_algebra). What
-- is left is the rank, so two logs have as many steps of two degrees next to each other together. No state is above the
-- greatest degree, so down from there they have as many steps of each.
use Rattle.std.proofs.Common.{◌≡◌, ℕ, zero, suc, ◌+◌, Bool, true, false, List, length, ℤ, pos, negsuc, ◌+ℤ◌, ◌-ℤ◌, ◌<ℤ◌, ◌≤ℤ◌, inl, inr, refl, sym, ap, subst, ◌∙◌, arith}
use Rattle.std.specs.Prelude.{int_lt}
use Rattle.std.proofs.lemmas.Int.{ints}
use Rattle.std.proofs.lemmas.Bool.{cases_Bool}
use Rattle.f2_algebra.specs.Chain.{Chain, nothing}
use Rattle.f2_algebra.specs.Complex.{Complex, IsComplex}
use Rattle.f2_algebra.specs.Cancel.{Entry, IsLog, after}
use Rattle.f2_algebra.specs.Certificate.{IsAllCells}
use Rattle.f2_algebra.proofs.Ranks.RankLemmas.{rank_of_log, one_rank}
use Rattle.f2_algebra.proofs.Certificates.LogCertificate.{IsTest, step_pairs}
use Rattle.f2_algebra.proofs.Cancelling.LogCounts.{count_log}
use Rattle.f2_algebra.proofs.Chains.Cardinality.{cardinality, cardinality-length}

-- two lists of numbers by degree, with one sum of each two that stand next to each other, and with none above b
from_above : (f h : ℤ → ℕ) → ((m : ℤ) → f m + f (m +ℤ pos 1) ≡ h m + h (m +ℤ pos 1)) → (b : ℤ)
    → f (b +ℤ pos 1) ≡ h (b +ℤ pos 1) → (k : ℕ) → f (b +ℤ pos 1 -ℤ pos k) ≡ h (b +ℤ pos 1 -ℤ pos k)
from_above f h sums b top zero = ap f (none b) ∙ top ∙ sym (ap h (none b))
  where
    none : (b : ℤ) → b +ℤ pos 1 -ℤ pos 0 ≡ b +ℤ pos 1
    none b = omega (arith, ints)
from_above f h sums b top (suc k) =
    let later = from_above f h sums b top k in
    let m = b +ℤ pos 1 -ℤ pos (suc k) in
    let next : m +ℤ pos 1 ≡ b +ℤ pos 1 -ℤ pos k = omega (arith, ints) in
    let both = sums m in
    let same : f (m +ℤ pos 1) ≡ h (m +ℤ pos 1) = ap f next ∙ later ∙ sym (ap h next) in
    omega (arith, both, same)

-- if none is above b, the numbers are the same at each degree
pub same_everywhere : (f h : ℤ → ℕ) → ((m : ℤ) → f m + f (m +ℤ pos 1) ≡ h m + h (m +ℤ pos 1)) → (b : ℤ)
    → ((m : ℤ) → b <ℤ m → (f m ≡ 0) × (h m ≡ 0)) → (m : ℤ) → f m ≡ h m
same_everywhere f h sums b none m = elim (cases_Bool (int_lt b m)) [
  | inl above ↦ let no = none m (lt_from b m above) in no.0 ∙ sym no.1
  | inr within ↦
      let (k, is) = steps_down b m (le_from b m within) in
      let top = none (b +ℤ pos 1) (omega (arith, ints)) in
      subst (λ n. f n ≡ h n) is (from_above f h sums b (top.0 ∙ sym top.1) k)
]
  where
    lt_from : (b m : ℤ) → int_lt b m ≡ true → b <ℤ m
    lt_from b m h = grind (arith, ints)

    le_from : (b m : ℤ) → int_lt b m ≡ false → m ≤ℤ b
    le_from b m h = grind (arith, ints)

    down : (b m e : ℤ) → m ≤ℤ b → b +ℤ pos 1 -ℤ m ≡ e → (k : ℕ) × (b +ℤ pos 1 -ℤ pos k ≡ m)
    down b m (pos k) low is = (k, omega (arith, ints, is))
    down b m (negsuc k) low is = absurd (omega (arith, ints, is, low))

    steps_down : (b m : ℤ) → m ≤ℤ b → (k : ℕ) × (b +ℤ pos 1 -ℤ pos k ≡ m)
    steps_down b m low = down b m (b +ℤ pos 1 -ℤ m) low refl

module _ (C : Complex ℤ) (laws : IsComplex C) (up : (m : ℤ) → C.up m ≡ m +ℤ pos 1) (tests : ℤ → ℕ → Bool)
    (are : (m : ℤ) → IsTest C m (tests m)) (cells : ℤ → Chain) (all : (m : ℤ) → IsAllCells C m (cells m)) where
  -- the number of steps of degree m
  abbrev steps_of : List Entry → ℤ → ℕ
  steps_of log m = length (step_pairs (tests m) log)

  module _ (log : List Entry) (stands : IsLog C log) (bare : (s : ℕ) → (after C log).targets s ≡ nothing)
      (left : ℤ → Chain) (left_all : (m : ℤ) → IsAllCells (after C log) m (left m)) where
    -- the states of a degree are those left, and one for each step of it and of the degree above
    pub counted_steps : (m : ℤ) → cardinality (cells m) ≡ cardinality (left m) +
        (steps_of log m + steps_of log (m +ℤ pos 1))
    counted_steps m =
        count_log C laws log stands m (tests m) (tests (m +ℤ pos 1)) (are m)
        (subst (λ n. IsTest C n (tests (m +ℤ pos 1))) (sym (up m)) (are (m +ℤ pos 1)))
        (cells m) (left m) (all m) (left_all m)

  module _ (log other : List Entry) (stands : IsLog C log) (others : IsLog C other)
      (bare : (s : ℕ) → (after C log).targets s ≡ nothing) (other_bare : (s : ℕ) → (after C other).targets s ≡ nothing)
      (left other_left : ℤ → Chain) (left_all : (m : ℤ) → IsAllCells (after C log) m (left m))
      (other_all : (m : ℤ) → IsAllCells (after C other) m (other_left m))
      (b : ℤ) (high : (m : ℤ) → b <ℤ m → cardinality (cells m) ≡ 0) where
    -- both leave as many states of each degree
    same_left : (m : ℤ) → cardinality (left m) ≡ cardinality (other_left m)
    same_left m =
        cardinality-length (left m)
        ∙ one_rank C m _ _ (rank_of_log C laws log stands bare m (left m) (left_all m))
        (rank_of_log C laws other others other_bare m (other_left m) (other_all m))
        ∙ sym (cardinality-length (other_left m))

    -- both logs have as many steps of each degree
    pub first_failing-steps : (m : ℤ) → steps_of log m ≡ steps_of other m
    first_failing-steps = same_everywhere (steps_of log) (steps_of other) sums b none
      where
        sums : (m : ℤ) → steps_of log m + steps_of log (m +ℤ pos 1) ≡ steps_of other m + steps_of other (m +ℤ pos 1)
        sums m =
            let here = counted_steps log stands bare left left_all m in
            let there = counted_steps other others other_bare other_left other_all m in
            let kept = same_left m in
            omega (arith, here, there, kept)

        none : (m : ℤ) → b <ℤ m → (steps_of log m ≡ 0) × (steps_of other m ≡ 0)
        none m above =
            let here = counted_steps log stands bare left left_all m in
            let there = counted_steps other others other_bare other_left other_all m in
            let no = high m above in
            (omega (arith, here, no), omega (arith, there, no))
