-- Sums modulo 2 over the rectangles of a grid and over its states: the border of a state is the sum,
-- over the ordered pairs of vertical circles, of the states that the open ones lead to.
use Rattle.std.proofs.Common.{◌≡◌, ℕ, ◌+◌, ◌<◌, Bool, true, not, ◌&&◌, List, [], ◌∷◌, length, map, slice_index, slice_index_or, swap, AllPairs, refl, ap, ap₂, subst, ◌∙◌, sym, eqb, arith, inl, inr}
use Rattle.std.specs.List.{filter}
use Rattle.std.specs.List.Sorted.{IsStrictlyIncreasing}
use Rattle.std.proofs.lemmas.Bool.{cases_eq, eq-eqb, ne_eqb, eqb-true, false_from_ne_true, and_parts}
use Rattle.f2_algebra.specs.Chain.{codes, is_odd}
use Rattle.f2_algebra.proofs.Chains.Tables.{same, and_comm, eqb_comm}
use Rattle.f2_algebra.proofs.Chains.ParityLemmas.{parity, parity-ext, parity-and, parity-map, parity-filter, parity-flat_map, parity_swap, is_odd-filter, below, parity_below, parity_below-same, parity_below-one}
use Rattle.f2_algebra.proofs.Chains.Sets.{weight, weight-list}
use Rattle.f2_algebra.proofs.Chains.Lists.{codes-of_codes}
use Rattle.std.proofs.lemmas.List.Kept.{AllPairs-filter}
use Rattle.state_rank.specs.Bijection.{IsBijection, tabulate, ascending}
use Rattle.state_rank.specs.States.{is_before, states, rank, unrank, factorial}
use Rattle.state_rank.proofs.BijectionLemmas.{same_list}
use Rattle.state_rank.proofs.MemberLemmas.{member_of_filter}
use Rattle.state_rank.proofs.OrderLemmas.{member_of_states, length-states, states_rise}
use Rattle.state_rank.proofs.RankLemmas.{IsBijection-unrank, rank-unrank, rank-below, unrank-rank, ranks_rise}
use Rattle.state_rank.proofs.SwapLemmas.{IsBijection-swap}
use Rattle.torus_geom.specs.Counts.{all_below}
use Rattle.torus_geom.proofs.Sums.AllBelowLemmas.{at_all_below}
use Rattle.torus_geom.specs.Marks.{Marks, size, IsGrid}
use Rattle.torus_geom.specs.Rectangle.{is_same, is_empty, is_unmarked, pairs_apart, rectangles}
use Rattle.torus_geom.specs.Inner.CodeBorder.{states_where, border_of_state}
use Rattle.torus_geom.specs.Border.{is_step}
use Rattle.torus_geom.specs.declared.rects.Rect.{Rect}
use Rattle.rectangles.proofs.Square.TwoSteps.{differ, differ-true, differ_apart, guard}
use Rattle.rectangles.proofs.Square.OpenRectangles.{is_open, unmarked}
use Rattle.rectangles.proofs.Square.EmptyRectangles.{is_clear_of}
use Rattle.rectangles.proofs.Square.RectangleTests.{is_empty-corners, is_unmarked-corners}
use Rattle.torus_geom.proofs.Sums.TabulateLemmas.{parity-tabulate}
use Rattle.torus_geom.proofs.Circles.RectangleLemmas.{corners}
use Rattle.torus_geom.proofs.Chains.StateTests.{is_same-refl}

-- ---- sums over rectangles

-- a sum over the ordered pairs of different numbers
pub parity-pairs_apart : (p : ℕ × ℕ → Bool) (n : ℕ)
    → parity p (pairs_apart n) ≡ parity_below n (λ a. parity_below n (λ b. differ a b && p (a, b)))
parity-pairs_apart p n =
    parity-flat_map p (λ a. map (λ b. (a, b)) (filter (λ b. not (eqb a b)) (ascending n))) (ascending n)
    ∙ parity-tabulate (λ a. parity p (map (λ b. (a, b)) (filter (λ b. not (eqb a b)) (ascending n)))) n (λ c. c)
    ∙ parity_below-same n (λ a. parity p (map (λ b. (a, b)) (filter (λ b. not (eqb a b)) (ascending n))))
    (λ a. parity_below n (λ b. differ a b && p (a, b))) (λ a l.
    parity-map p (λ b. (a, b)) (filter (λ b. not (eqb a b)) (ascending n))
    ∙ parity-filter (λ b. p (a, b)) (λ b. not (eqb a b)) (ascending n)
    ∙ parity-tabulate (λ b. differ a b && p (a, b)) n (λ c. c))

-- a sum over the rectangles: over two vertical circles and two horizontal ones
pub parity-rectangles : (p : Rect → Bool) (n : ℕ)
    → parity p (rectangles n)
    ≡ parity_below n (λ a. parity_below n (λ b. differ a b
    && parity_below n (λ j. parity_below n (λ k. differ j k && p (corners a b j k)))))
parity-rectangles p n =
    parity-flat_map p (λ (c : ℕ × ℕ). map (λ (r : ℕ × ℕ). corners c.0 c.1 r.0 r.1) (pairs_apart n)) (pairs_apart n)
    ∙ parity-ext _ (λ (c : ℕ × ℕ). parity_below n (λ j. parity_below n (λ k. differ j k && p (corners c.0 c.1 j k))))
    (pairs_apart n) (λ c.
    parity-map p (λ (r : ℕ × ℕ). corners c.0 c.1 r.0 r.1) (pairs_apart n)
    ∙ parity-pairs_apart (λ (r : ℕ × ℕ). p (corners c.0 c.1 r.0 r.1)) n)
    ∙ parity-pairs_apart (λ (c : ℕ × ℕ). parity_below n
    (λ j. parity_below n (λ k. differ j k && p (corners c.0 c.1 j k)))) n

-- of two circles with given rows there is one rectangle
pub parity-corners : (n r s : ℕ) → r < n → s < n → (t : Bool) (q : ℕ → ℕ → Bool)
    → parity_below n (λ j. parity_below n (λ k. differ j k && ((eqb r j && (eqb s k && t)) && q j k)))
    ≡ (differ r s && (t && q r s))
parity-corners n r s lr ls t q =
    parity_below-same n (λ j. parity_below n (λ k. differ j k && ((eqb r j && (eqb s k && t)) && q j k)))
    (λ j. eqb j r && (differ j s && (t && q j s))) (λ j lj.
    parity_below-same n (λ k. differ j k && ((eqb r j && (eqb s k && t)) && q j k))
    (λ k. eqb k s && (differ j k && (eqb j r && (t && q j k)))) (λ k lk.
    ap₂ (λ u v. differ j k && ((u && (v && t)) && q j k)) (eqb_comm r j) (eqb_comm s k)
    ∙ same 5 (λ d u v t q. d && ((u && (v && t)) && q)) (λ d u v t q. v && (d && (u && (t && q)))) refl (differ j k)
    (eqb j r) (eqb k s) t (q j k))
    ∙ parity_below-one n s (λ k. differ j k && (eqb j r && (t && q j k))) ls
    ∙ same 4 (λ d u t q. d && (u && (t && q))) (λ d u t q. u && (d && (t && q))) refl (differ j s) (eqb j r) t (q j s))
    ∙ parity_below-one n r (λ j. differ j s && (t && q j s)) lr

-- the steps from a state to y, by their vertical circles
pub is_odd-steps : (g : Marks) → IsGrid g → (x : List ℕ) → IsBijection (size g) x → (y : List ℕ)
    → is_odd (length (filter (is_step g x y) (rectangles (size g))))
    ≡ parity_below (size g) (λ a. parity_below (size g)
    (λ b. is_open (size g) (slice_index g.o) (slice_index g.x) (slice_index x) a b && is_same (swap x a b) y))
is_odd-steps g s x sx y =
    let n : ℕ = size g in
    is_odd-filter (is_step g x y) (rectangles n)
    ∙ parity-rectangles (is_step g x y) n
    ∙ parity_below-same n _ _ (λ a la. parity_below-same n _ _ (λ b lb.
    ap (λ t. differ a b && t) (parity-corners n (slice_index x a) (slice_index x b) (sx.small a la) (sx.small b lb)
    (is_same (swap x a b) y) (λ j k. is_empty x (corners a b j k) && is_unmarked g (corners a b j k)))
    ∙ guard (differ a b) _ (is_same (swap x a b) y && (empty_at a b && unmarked_at a b)) (λ d.
    ap (λ t. t
    && (is_same (swap x a b) y
    && (is_empty x (corners a b (slice_index x a) (slice_index x b))
    && is_unmarked g (corners a b (slice_index x a) (slice_index x b)))))
    (differ-true (slice_index x a) (slice_index x b) (sx.apart a b la lb (differ_apart a b d)))
    ∙ ap₂ (λ t u. is_same (swap x a b) y && (t && u))
    (is_empty-corners n x sx a b (slice_index x a) (slice_index x b) la lb (sx.small a la) (sx.small b lb))
    (is_unmarked-corners g s a b (slice_index x a) (slice_index x b) la lb (sx.small a la) (sx.small b lb)))
    ∙ same 4 (λ d t e u. d && (t && (e && u))) (λ d t e u. (d && (e && u)) && t) refl (differ a b)
    (is_same (swap x a b) y) (empty_at a b) (unmarked_at a b)))
  where
    empty_at : ℕ → ℕ → Bool
    empty_at a b = is_clear_of (size g) (slice_index x) a b (slice_index x a) (slice_index x b)

    unmarked_at : ℕ → ℕ → Bool
    unmarked_at a b = unmarked (size g) (slice_index g.o) (slice_index g.x) a b (slice_index x a) (slice_index x b)

-- ---- sums over states
tabulate-slice : {A : Type 0} (xs : List A) (d : A) → tabulate (length xs) (λ k. slice_index_or xs k d) ≡ xs
tabulate-slice [] d = refl
tabulate-slice (x ∷ xs) d = ap (λ ys. x ∷ ys) (tabulate-slice xs d)

-- the states are the values of unrank
pub states-unrank : (n : ℕ) → states n ≡ tabulate (factorial n) (unrank n)
unfolding unrank
states-unrank n = sym (tabulate-slice (states n) []) ∙ ap (λ m. tabulate m (unrank n)) (length-states n)

-- two states of one size that the test finds the same are equal
pub is_same-equal : (n : ℕ) (x y : List ℕ) → IsBijection n x → IsBijection n y → is_same x y ≡ true → x ≡ y
is_same-equal n x y sx sy h = same_list n x y sx.long sy.long (λ c l.
    eqb-true (slice_index x c) (slice_index y c)
    (at_all_below n (λ c. eqb (slice_index x c) (slice_index y c))
    (subst (λ m. all_below m (λ c. eqb (slice_index x c) (slice_index y c)) ≡ true) sx.long (and_parts _ _ h).1) c
    l))

-- a state is the one of index k if its index is k
is_same-unrank : (n : ℕ) (x : List ℕ) → IsBijection n x → (k : ℕ) → k < factorial n
    → is_same x (unrank n k) ≡ eqb k (rank x)
is_same-unrank n x sx k l = elim (cases_eq k (rank x)) [
  | inl e ↦ ap (is_same x) (ap (unrank n) e ∙ unrank-rank n x sx) ∙ is_same-refl x ∙ sym (eq-eqb k (rank x) e)
  | inr p ↦
      false_from_ne_true _ (λ h. p (sym (rank-unrank n k l)
      ∙ sym (ap rank (is_same-equal n x (unrank n k) sx (IsBijection-unrank n k l) h))))
      ∙ sym (ne_eqb k (rank x) p)
]

-- a sum over the states with one term
pub parity-states_one : (n : ℕ) (x : List ℕ) → IsBijection n x → (h : List ℕ → Bool)
    → parity (λ y. is_same x y && h y) (states n) ≡ h x
parity-states_one n x sx h =
    ap (parity (λ y. is_same x y && h y)) (states-unrank n)
    ∙ parity-tabulate (λ y. is_same x y && h y) (factorial n) (unrank n)
    ∙ parity_below-same (factorial n) _ (λ k. eqb k (rank x) && h (unrank n k))
    (λ k l. ap (λ b. b && h (unrank n k)) (is_same-unrank n x sx k l))
    ∙ parity_below-one (factorial n) (rank x) (λ k. h (unrank n k)) (rank-below n x sx)
    ∙ ap h (unrank-rank n x sx)

-- ---- the border of a state
rises : (xs : List ℕ) → AllPairs (λ j k. j < k) xs → IsStrictlyIncreasing xs
rises xs pairs k l = pairs k (k + 1) 0 (omega arith) l

-- the codes of the states that pass a test are their indices, in this order
pub codes-states_where : (n : ℕ) (test : List ℕ → Bool)
    → codes (states_where n test) ≡ map rank (filter test (states n))
codes-states_where n test =
    codes-of_codes (map rank (filter test (states n)))
    (rises _ (ranks_rise n (filter test (states n))
    (λ x c. member_of_states n x (member_of_filter test (states n) x c).0)
    (AllPairs-filter (λ x y. is_before x y ≡ true) test (states n) (states_rise n))))

-- the weight of the states that pass a test
pub weight-states_where : (p : ℕ → Bool) (n : ℕ) (test : List ℕ → Bool)
    → weight p (states_where n test) ≡ parity (λ y. test y && p (rank y)) (states n)
weight-states_where p n test =
    weight-list p (states_where n test) ∙ ap (parity p) (codes-states_where n test)
    ∙ parity-map p rank (filter test (states n)) ∙ parity-filter (λ y. p (rank y)) test (states n)

-- the weight of the border of a state: a sum over the open rectangles that leave it
pub weight-border_of_state : (g : Marks) → IsGrid g → (x : List ℕ) → IsBijection (size g) x → (p : ℕ → Bool)
    → weight p (border_of_state g x)
    ≡ parity_below (size g) (λ a. parity_below (size g)
    (λ b. is_open (size g) (slice_index g.o) (slice_index g.x) (slice_index x) a b && p (rank (swap x a b))))
unfolding border_of_state
weight-border_of_state g s x sx p =
    let n : ℕ = size g in
    weight-states_where p n (λ y. is_odd (length (filter (is_step g x y) (rectangles n))))
    ∙ parity-ext _ (λ y. parity_below n (λ a. parity_below n (λ b. open_to a b y && p (rank y)))) (states n) (λ y.
    ap (λ t. t && p (rank y)) (is_odd-steps g s x sx y) ∙ and_comm _ (p (rank y))
    ∙ sym (parity-and (p (rank y)) (λ a. parity_below n (λ b. open_to a b y)) (below n))
    ∙ parity_below-same n _ _ (λ a la. sym (parity-and (p (rank y)) (λ b. open_to a b y) (below n))
    ∙ parity_below-same n _ _ (λ b lb. and_comm (p (rank y)) (open_to a b y))))
    ∙ parity_swap (λ y a. parity_below n (λ b. open_to a b y && p (rank y))) (states n) (below n)
    ∙ parity_below-same n _ _ (λ a la.
    parity_swap (λ y b. open_to a b y && p (rank y)) (states n) (below n)
    ∙ parity_below-same n _ _ (λ b lb.
    parity-ext _ (λ y. open_at a b && (is_same (swap x a b) y && p (rank y))) (states n)
    (λ y. same 3 (λ o t q. (o && t) && q) (λ o t q. o && (t && q)) refl (open_at a b) (is_same (swap x a b) y)
    (p (rank y)))
    ∙ parity-and (open_at a b) (λ y. is_same (swap x a b) y && p (rank y)) (states n)
    ∙ ap (λ t. open_at a b && t) (parity-states_one n (swap x a b) (IsBijection-swap n x a b la lb sx)
    (λ y. p (rank y)))))
  where
    open_at : ℕ → ℕ → Bool
    open_at a b = is_open (size g) (slice_index g.o) (slice_index g.x) (slice_index x) a b

    open_to : ℕ → ℕ → List ℕ → Bool
    open_to a b y = open_at a b && is_same (swap x a b) y
