-- Tables by the degrees of components are tables of the general kind: so a table has at most one quotient by factors
-- 1 + q^-1 t_i^-1, and has one or has none.
use Rattle.std.proofs.Common.{◌≡◌, ◌↔◌, ◌⊎◌, ℕ, zero, suc, ◌≤◌, ℤ, pos, ◌+ℤ◌, true, List, [], ◌∷◌, ◌++◌, length, slice_index, All, inl, inr, refl, sym, ap, ◌∙◌, arith}
use Rattle.std.specs.Prelude.{◌-ℤ◌, int_lt}
use Rattle.std.specs.Ordering.{int_eq}
use Rattle.std.proofs.lemmas.Bool.{or_left, or_right, and_from}
use Rattle.std.proofs.lemmas.Bool.Decides.{Decides-int_eq}
use Rattle.std.proofs.lemmas.Int.{ints}
use Rattle.hat_division.specs.DegreeLists.{is_higher, same_degrees, stands_before_by_component, raised_at, lowered_at}
use Rattle.hat_division.specs.Factors.{times_all, copies}
use Rattle.hat_division.specs.MultiTable.{degrees_of, component_rank_at, AreInComponentOrder, step_up, steps_below, steps_up, IsQuotientBy, IsMultiQuotient}
use Rattle.hat_division.specs.declared.multi_tables.MultiRow.{MultiRow}
use Rattle.hat_division.proofs.Multi.DegreeListLemmas.{same_degrees-is, same_multidegree, same_multidegree-is, multidegree_before-itself, multidegree_before-transitive, multidegree_before-or}
use Rattle.hat_division.proofs.Factors.FactorLemmas.{IsStepUp, AreStepsUp, one_up_down, one_down_up}
use Rattle.hat_division.proofs.Factors.TableShapes.{TableShape, ranks_of, ranks_of-sum}
use Rattle.hat_division.proofs.Factors.FactorQuotients.{IsQuotientOf, one_quotient, decide_quotient}

-- the height is the Maslov degree
abbrev pub multi_shape : TableShape MultiRow (ℤ × List ℤ)
multi_shape = record {
  key = degrees_of;
  rank = λ row. row.rank;
  make = λ k n. record { m = k.0; d = k.1; rank = n };
  key_made = λ k n. refl;
  rank_made = λ k n. refl;
  made = λ row. refl;
  same = same_multidegree;
  same_is = same_multidegree-is;
  before = stands_before_by_component;
  before_itself = multidegree_before-itself;
  before_later = multidegree_before-transitive;
  before_or = multidegree_before-or;
  height = λ k. k.0;
}

-- the ranks are those of the general kind
pub component_rank_at-ranks_of : (rows : List MultiRow) (k : ℤ × List ℤ)
    → component_rank_at rows k ≡ ranks_of multi_shape rows k
component_rank_at-ranks_of rows k = sym (ranks_of-sum multi_shape rows k)

-- ---- steps
pub lowered_at-raised_at : (i : ℕ) (ds : List ℤ) → lowered_at i (raised_at i ds) ≡ ds
lowered_at-raised_at i [] = refl
lowered_at-raised_at zero (d ∷ ds) = ap (λ e. e ∷ ds) (let e : (d +ℤ pos 2) -ℤ pos 2 ≡ d = omega (arith, ints) in e)
lowered_at-raised_at (suc i) (d ∷ ds) = ap (λ l. d ∷ l) (lowered_at-raised_at i ds)

pub raised_at-lowered_at : (i : ℕ) (ds : List ℤ) → raised_at i (lowered_at i ds) ≡ ds
raised_at-lowered_at i [] = refl
raised_at-lowered_at zero (d ∷ ds) = ap (λ e. e ∷ ds) (let e : (d -ℤ pos 2) +ℤ pos 2 ≡ d = omega (arith, ints) in e)
raised_at-lowered_at (suc i) (d ∷ ds) = ap (λ l. d ∷ l) (raised_at-lowered_at i ds)

abbrev pub step_up_IsStepUp : (i : ℕ) → IsStepUp (λ (k : ℤ × List ℤ). k.0) (step_up i)
step_up_IsStepUp i = record {
  raises = λ k. refl;
  down = λ k. (k.0 -ℤ pos 1, lowered_at i k.1);
  back = λ k. λ j. (one_up_down k.0 j, lowered_at-raised_at i k.1 j);
  forth = λ k. λ j. (one_down_up k.0 j, raised_at-lowered_at i k.1 j);
}

steps_copied : (i e : ℕ) (ups : List (ℤ × List ℤ → ℤ × List ℤ)) → AreStepsUp (λ (k : ℤ × List ℤ). k.0) ups
    → AreStepsUp (λ (k : ℤ × List ℤ). k.0) (copies e (step_up i) ++ ups)
steps_copied i zero ups rest = rest
steps_copied i (suc e) ups rest = (step_up_IsStepUp i, steps_copied i e ups rest)

pub copies_AreStepsUp : (i e : ℕ) → AreStepsUp (λ (k : ℤ × List ℤ). k.0) (copies e (step_up i))
copies_AreStepsUp i zero = tt
copies_AreStepsUp i (suc e) = (step_up_IsStepUp i, copies_AreStepsUp i e)

pub steps_below_AreStepsUp : (es : List ℕ) (n : ℕ) → AreStepsUp (λ (k : ℤ × List ℤ). k.0) (steps_below es n)
steps_below_AreStepsUp es zero = tt
steps_below_AreStepsUp es (suc i) =
    steps_copied i (slice_index es i) (steps_below es i) (steps_below_AreStepsUp es i)

pub steps_up_AreStepsUp : (es : List ℕ) → AreStepsUp (λ (k : ℤ × List ℤ). k.0) (steps_up es)
steps_up_AreStepsUp es = steps_below_AreStepsUp es (length es)

-- a step up comes before
pub step_up-before : (i : ℕ) (k : ℤ × List ℤ) → stands_before_by_component (step_up i k) k ≡ true
step_up-before i k = elim (raised_at-or i k.1) [
  | inl h ↦ or_left (is_higher (raised_at i k.1) k.1) _ h
  | inr e ↦ or_right (is_higher (raised_at i k.1) k.1) _
      (and_from (same_degrees (raised_at i k.1) k.1) (int_lt k.0 (k.0 +ℤ pos 1))
      ((same_degrees-is (raised_at i k.1) k.1).1 e)
      (next k.0))
]
  where
    next : (m : ℤ) → int_lt m (m +ℤ pos 1) ≡ true
    next m = grind (arith, ints)

    two_more : (d : ℤ) → int_lt d (d +ℤ pos 2) ≡ true
    two_more d = grind (arith, ints)

    raised_at-or : (i : ℕ) (ds : List ℤ) → (is_higher (raised_at i ds) ds ≡ true) ⊎ (raised_at i ds ≡ ds)
    raised_at-or i [] = inr refl
    raised_at-or zero (d ∷ ds) = inl (or_left (int_lt d (d +ℤ pos 2)) _ (two_more d))
    raised_at-or (suc i) (d ∷ ds) = elim (raised_at-or i ds) [
      | inl h ↦ inl (or_right (int_lt d d) _
          (and_from (int_eq d d) (is_higher (raised_at i ds) ds) ((Decides-int_eq d d).1 refl) h))
      | inr e ↦ inr (ap (λ l. d ∷ l) e)
    ]

-- ---- quotients
-- what it is to be a quotient, in both words
pub quotient_by-is : (ups : List (ℤ × List ℤ → ℤ × List ℤ)) (rows q : List MultiRow)
    → IsQuotientBy ups rows q ↔ IsQuotientOf multi_shape ups rows q
quotient_by-is ups rows q = (
  λ h. record {
    positive = record { ordered = h.ordered; positive = h.positive };
    product = λ k. sym (component_rank_at-ranks_of rows k) ∙ h.product k
        ∙ (λ i. times_all ups (λ l. component_rank_at-ranks_of q l i) k);
  },
  λ h. record {
    ordered = h.positive.ordered;
    positive = h.positive.positive;
    product = λ k. component_rank_at-ranks_of rows k ∙ h.product k
        ∙ (λ i. times_all ups (λ l. sym (component_rank_at-ranks_of q l) i) k);
  },
)

-- a table has at most one quotient
pub one_multi_quotient : (es : List ℕ) (rows p q : List MultiRow) → IsMultiQuotient es rows p
    → IsMultiQuotient es rows q → p ≡ q
one_multi_quotient es rows p q hp hq =
    one_quotient multi_shape (steps_up es) (steps_up_AreStepsUp es) rows p q
    ((quotient_by-is (steps_up es) rows p).0 hp)
    ((quotient_by-is (steps_up es) rows q).0 hq)

-- and it has one or has none
pub decide_multi_quotient : (es : List ℕ) (rows : List MultiRow) → AreInComponentOrder rows
    → All (λ row. 1 ≤ row.rank) rows
    → ((q : List MultiRow) × IsMultiQuotient es rows q) ⊎ ((q : List MultiRow) → IsMultiQuotient es rows q → ⊥)
decide_multi_quotient es rows ordered positive =
    elim (decide_quotient multi_shape (steps_up es) (steps_up_AreStepsUp es) rows
    (record { ordered = ordered; positive = positive })) [
      | inl found ↦ inl (found.0, (quotient_by-is (steps_up es) rows found.0).1 found.1)
      | inr none ↦ inr (λ q h. none q ((quotient_by-is (steps_up es) rows q).0 h))
    ]
