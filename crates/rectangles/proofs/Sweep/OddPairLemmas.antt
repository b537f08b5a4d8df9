-- The states of the border of a state are its exchanges at odd pairs: two circles with exactly one open
-- rectangle between them.
-- Route: of the exchanges at two ordered circles those at (a, b) and (b, a) alone are equal, so the sum
-- over all ordered circles that tells whether a state is in the border has two terms.
use Rattle.std.proofs.Common.{◌≡◌, ◌≢◌, ◌⊎◌, ℕ, zero, suc, ◌<◌, Bool, true, false, not, ◌&&◌, ◌||◌, List, length, slice_index, swap, Contains, refl, ap, ap₂, subst, ◌∙◌, sym, eqb, arith, inl, inr, true≢false}
use Rattle.std.proofs.lemmas.Bool.{cases_Bool, cases_eq, cases_order, eq-eqb, ne_eqb, eqb-true, and_parts, and_left, and_right, false_from_ne_true}
use Rattle.std.specs.List.{filter}
use Rattle.f2_algebra.specs.Chain.{is_odd}
use Rattle.f2_algebra.proofs.Chains.Tables.{◌⊻◌, same}
use Rattle.f2_algebra.proofs.Chains.ParityLemmas.{below, parity_below, parity_below-same, parity_below-one, parity-xor}
use Rattle.state_rank.specs.Bijection.{IsBijection}
use Rattle.state_rank.specs.States.{states}
use Rattle.state_rank.proofs.BijectionLemmas.{same_list}
use Rattle.state_rank.proofs.MemberLemmas.{Contains-filter, member_of_filter}
use Rattle.state_rank.proofs.OrderLemmas.{member_of_states, Contains-states}
use Rattle.state_rank.proofs.SwapLemmas.{slice_index-swap_first, slice_index-swap_second, slice_index-swap_other, IsBijection-swap}
use Rattle.torus_geom.specs.Marks.{Marks, size, IsGrid}
use Rattle.torus_geom.specs.Rectangle.{is_same, rectangles}
use Rattle.torus_geom.specs.Border.{is_step}
use Rattle.rectangles.specs.Inner.Open.{is_open, is_odd_pair}
use Rattle.rectangles.proofs.Square.OpenRectangles as tests
use Rattle.rectangles.proofs.Square.RectangleTests.{is_empty-corners, is_unmarked-corners}
use Rattle.rectangles.proofs.Square.RectangleSums.{is_odd-steps, is_same-equal}
use Rattle.torus_geom.proofs.Chains.StateTests.{is_same-refl}

-- if an odd number of tests hold, one holds
pub parity_below-some : (n : ℕ) (f : ℕ → Bool) → parity_below n f ≡ true → (t : ℕ) × (t < n) × (f t ≡ true)
parity_below-some zero f h = absurd (true≢false (sym h))
parity_below-some (suc n) f h = elim (cases_Bool (f n)) [
  | inl e ↦ (n, omega arith, e)
  | inr e ↦ let r = parity_below-some n f (sym (ap (λ b. b ⊻ parity_below n f) e) ∙ h) in let l = r.1 in
      (r.0, omega arith, r.2)
]

module _ (g : Marks) (s : IsGrid g) (x : List ℕ) (sx : IsBijection (size g) x) where
  -- the test of the square law is the definition
  is_open-test : (a b : ℕ) → a < size g → b < size g
      → tests.is_open (size g) (slice_index g.o) (slice_index g.x) (slice_index x) a b ≡ is_open g x a b
  unfolding is_open
  is_open-test a b la lb = sym (ap₂ (λ t u. not (eqb a b) && (t && u))
      (is_empty-corners (size g) x sx a b (slice_index x a) (slice_index x b) la lb (sx.small a la) (sx.small b lb))
      (is_unmarked-corners g s a b (slice_index x a) (slice_index x b) la lb (sx.small a la) (sx.small b lb)))

  is_open-same : (a : ℕ) → is_open g x a a ≡ false
  unfolding is_open
  is_open-same a = and_left _ _ (ap not (eq-eqb a a refl))

  within : (a : ℕ) → a < size g → a < length x
  within a l = let e = sx.long in omega arith

  -- the point on a is moved by the exchange at a and b, and at no other circles
  moved : (a b c : ℕ) → a < size g → b < size g → c < size g → c ≢ a → c ≢ b
      → slice_index (swap x a b) c ≡ slice_index x c
  moved a b c la lb lc p q = slice_index-swap_other x a b c (within a la) (within b lb) p q

  -- if an exchange moves the point on d, d is one of its circles
  one_of_two : (a b c d : ℕ) → a < size g → b < size g → c < size g → d < size g → c ≢ d → swap x c d ≡ swap x a b
      → (c ≡ a) ⊎ (c ≡ b)
  one_of_two a b c d la lb lc ld p e = elim (cases_eq c a) [
    | inl i ↦ inl i
    | inr q ↦ elim (cases_eq c b) [
      | inl i ↦ inr i
      | inr r ↦
          absurd (sx.apart c d lc ld p (sym (sym (slice_index-swap_first x c d (within c lc) (within d ld))
          ∙ ap (λ y. slice_index y c) e ∙ moved a b c la lb lc q r)))
    ]
  ]

  swap_comm : (a b : ℕ) → a < size g → b < size g → a ≢ b → swap x a b ≡ swap x b a
  swap_comm a b la lb p =
      same_list (size g) (swap x a b) (swap x b a) (IsBijection-swap (size g) x a b la lb sx).long
      (IsBijection-swap (size g) x b a lb la sx).long (λ c l. elim (cases_eq c a) [
        | inl e ↦
            ap (slice_index (swap x a b)) e ∙ slice_index-swap_first x a b (within a la) (within b lb)
            ∙ sym (slice_index-swap_second x b a (within b lb) (within a la)) ∙ ap (slice_index (swap x b a)) (sym e)
        | inr q ↦ elim (cases_eq c b) [
          | inl e ↦
              ap (slice_index (swap x a b)) e ∙ slice_index-swap_second x a b (within a la) (within b lb)
              ∙ sym (slice_index-swap_first x b a (within b lb) (within a la)) ∙ ap (slice_index (swap x b a)) (sym e)
          | inr r ↦ moved a b c la lb l q r ∙ sym (moved b a c lb la l r q)
        ]
      ])

  -- one term of the sum for the exchange at a and b
  term : (a b c d : ℕ) → a < size g → b < size g → c < size g → d < size g → a ≢ b
      → (is_open g x c d && is_same (swap x c d) (swap x a b))
      ≡ ((eqb c a && (eqb d b && is_open g x a b)) ⊻ (eqb c b && (eqb d a && is_open g x b a)))
  term a b c d la lb lc ld p = elim (cases_eq c d) [
    | inl e ↦
        let none : is_open g x c d ≡ false = ap (λ i. is_open g x i d) e ∙ is_open-same d in
        ap (λ t. t && is_same (swap x c d) (swap x a b)) none ∙ sym (ends c d e)
    | inr q ↦ elim (cases_eq c a) [
      | inl i ↦ elim (cases_eq d b) [
        | inl j ↦
            let first : is_open g x c d ≡ is_open g x a b = λ k. is_open g x (i k) (j k) in
            let equal : is_same (swap x c d) (swap x a b) ≡ true =
            (λ k. is_same (swap x (i k) (j k)) (swap x a b)) ∙ is_same-refl (swap x a b) in
            ap₂ (λ t u. t && u) first equal
            ∙ same 1 (λ t. t && true) (λ t. t) refl (is_open g x a b)
            ∙ sym ((λ k. (eq-eqb c a i k && (eq-eqb d b j k && is_open g x a b))
            ⊻ (ne_eqb c b (λ e. p (sym i ∙ e)) k && (eqb d a && is_open g x b a)))
            ∙ same 1 (λ t. t ⊻ false) (λ t. t) refl (is_open g x a b))
        | inr r ↦ other c d lc ld q (λ e. r e.1) (λ e. p (sym i ∙ e.0))
      ]
      | inr r ↦ elim (cases_eq c b) [
        | inl i ↦ elim (cases_eq d a) [
          | inl j ↦
              let first : is_open g x c d ≡ is_open g x b a = λ k. is_open g x (i k) (j k) in
              let equal : is_same (swap x c d) (swap x a b) ≡ true = (λ k. is_same (swap x (i k) (j k)) (swap x a b))
              ∙ ap (λ y. is_same y (swap x a b)) (sym (swap_comm a b la lb p)) ∙ is_same-refl (swap x a b) in
              ap₂ (λ t u. t && u) first equal
              ∙ same 1 (λ t. t && true) (λ t. t) refl (is_open g x b a)
              ∙ sym (λ k. (ne_eqb c a r k && (eqb d b && is_open g x a b))
              ⊻ (eq-eqb c b i k && (eq-eqb d a j k && is_open g x b a)))
          | inr t ↦ other c d lc ld q (λ e. r e.0) (λ e. t e.1)
        ]
        | inr t ↦ other c d lc ld q (λ e. r e.0) (λ e. t e.0)
      ]
    ]
  ]
    where
      pair_no : (u v w : Bool) → (u ≡ true → v ≡ true → ⊥) → (u && (v && w)) ≡ false
      pair_no true true w h = absurd (h refl refl)
      pair_no true false w h = refl
      pair_no false v w h = refl

      neither : (c d : ℕ) → (((c ≡ a) × (d ≡ b)) → ⊥) → (((c ≡ b) × (d ≡ a)) → ⊥)
          → ((eqb c a && (eqb d b && is_open g x a b)) ⊻ (eqb c b && (eqb d a && is_open g x b a))) ≡ false
      neither c d h k =
          ap₂ (λ t u. t ⊻ u) (pair_no (eqb c a) (eqb d b) (is_open g x a b) (λ u v. h (eqb-true c a u, eqb-true d b v)))
          (pair_no (eqb c b) (eqb d a) (is_open g x b a) (λ u v. k (eqb-true c b u, eqb-true d a v)))

      ends : (c d : ℕ) → c ≡ d
          → ((eqb c a && (eqb d b && is_open g x a b)) ⊻ (eqb c b && (eqb d a && is_open g x b a))) ≡ false
      ends c d e = neither c d (λ h. p (sym h.0 ∙ e ∙ h.1)) (λ h. p (sym h.1 ∙ sym e ∙ h.0))

      other : (c d : ℕ) → c < size g → d < size g → c ≢ d → (((c ≡ a) × (d ≡ b)) → ⊥) → (((c ≡ b) × (d ≡ a)) → ⊥)
          → (is_open g x c d && is_same (swap x c d) (swap x a b))
          ≡ ((eqb c a && (eqb d b && is_open g x a b)) ⊻ (eqb c b && (eqb d a && is_open g x b a)))
      other c d lc ld q h k =
          and_right _ _ (false_from_ne_true _ (λ t.
          let e = is_same-equal (size g) (swap x c d) (swap x a b) (IsBijection-swap (size g) x c d lc ld sx)
          (IsBijection-swap (size g) x a b la lb sx) t in
          let first = one_of_two a b c d la lb lc ld q e in
          let second = one_of_two a b d c la lb ld lc (λ i. q (sym i)) (sym (swap_comm c d lc ld q) ∙ e) in
          elim first [
            | inl i ↦ elim second [ inl j ↦ q (i ∙ sym j) | inr j ↦ h (i, j) ]
            | inr i ↦ elim second [ inl j ↦ k (i, j) | inr j ↦ q (i ∙ sym j) ]
          ]))
          ∙ sym (neither c d h k)

  -- a sum with one term
  one_term : (a b : ℕ) (t : Bool) → a < size g → b < size g
      → parity_below (size g) (λ c. parity_below (size g) (λ d. eqb c a && (eqb d b && t))) ≡ t
  one_term a b t la lb =
      parity_below-same (size g) _ (λ c. eqb c a && t) (λ c lc.
      parity_below-same (size g) _ (λ d. eqb d b && (eqb c a && t))
      (λ d ld. same 3 (λ u v w. u && (v && w)) (λ u v w. v && (u && w)) refl (eqb c a) (eqb d b) t)
      ∙ parity_below-one (size g) b (λ d. eqb c a && t) lb)
      ∙ parity_below-one (size g) a (λ c. t) la

  -- whether an odd number of steps lead to y
  unfoldable pub steps_to : List ℕ → Bool
  steps_to y = is_odd (length (filter (is_step g x y) (rectangles (size g))))

  steps_sum : (y : List ℕ)
      → steps_to y ≡ parity_below (size g) (λ c. parity_below (size g) (λ d. is_open g x c d && is_same (swap x c d) y))
  unfolding steps_to
  steps_sum y =
      is_odd-steps g s x sx y
      ∙ parity_below-same (size g) _ _
      (λ c lc. parity_below-same (size g) _ _ (λ d ld. ap (λ t. t && is_same (swap x c d) y) (is_open-test c d lc ld)))

  -- whether an odd number of steps lead to the exchange at two circles
  steps-swap : (a b : ℕ) → a < size g → b < size g → a ≢ b → steps_to (swap x a b) ≡ is_odd_pair g x a b
  unfolding is_odd_pair
  steps-swap a b la lb p =
      steps_sum (swap x a b)
      ∙ parity_below-same (size g) _
      (λ c. parity_below (size g) (λ d. eqb c a && (eqb d b && is_open g x a b))
      ⊻ parity_below (size g) (λ d. eqb c b && (eqb d a && is_open g x b a))) (λ c lc.
      parity_below-same (size g) _ _ (λ d ld. term a b c d la lb lc ld p)
      ∙ parity-xor (λ d. eqb c a && (eqb d b && is_open g x a b)) (λ d. eqb c b && (eqb d a && is_open g x b a))
      (below (size g)))
      ∙ parity-xor (λ c. parity_below (size g) (λ d. eqb c a && (eqb d b && is_open g x a b)))
      (λ c. parity_below (size g) (λ d. eqb c b && (eqb d a && is_open g x b a))) (below (size g))
      ∙ ap₂ (λ t u. t ⊻ u) (one_term a b (is_open g x a b) la lb) (one_term b a (is_open g x b a) lb la)
      ∙ same 2 (λ t u. t ⊻ u) (λ t u. (t && not u) || (not t && u)) refl (is_open g x a b) (is_open g x b a)

  -- two circles, the lower first, with exactly one open rectangle between them, whose exchange is y
  pub record IsOddExchange (y : List ℕ) (a b : ℕ) : Type 0 where
    pub order : a < b
    pub below : b < size g
    pub odd : is_odd_pair g x a b ≡ true
    pub is : swap x a b ≡ y

  -- the states to which an odd number of steps lead, in lexicographic order
  unfoldable pub reached : List (List ℕ)
  reached = filter steps_to (states (size g))

  -- each state of the border is the exchange at an odd pair
  pub odd_exchange : (y : List ℕ) → Contains reached y → (a : ℕ) × (b : ℕ) × IsOddExchange y a b
  unfolding reached
  odd_exchange y m =
      let member = member_of_filter steps_to (states (size g)) y m in
      let sum : parity_below (size g) (λ c. parity_below (size g) (λ d. is_open g x c d && is_same (swap x c d) y))
      ≡ true = sym (steps_sum y) ∙ member.1 in
      let c = parity_below-some (size g)
      (λ c. parity_below (size g) (λ d. is_open g x c d && is_same (swap x c d) y)) sum in
      let d = parity_below-some (size g) (λ d. is_open g x c.0 d && is_same (swap x c.0 d) y) c.2 in
      let parts = and_parts (is_open g x c.0 d.0) (is_same (swap x c.0 d.0) y) d.2 in
      let p : c.0 ≢ d.0 = λ e. true≢false (sym parts.0 ∙ ap (λ i. is_open g x i d.0) e ∙ is_open-same d.0) in
      let is : swap x c.0 d.0 ≡ y =
      is_same-equal (size g) (swap x c.0 d.0) y (IsBijection-swap (size g) x c.0 d.0 c.1 d.1 sx)
      (member_of_states (size g) y member.0) parts.1 in
      elim (cases_order c.0 d.0) [
        | inl e ↦ absurd (p e)
        | inr o ↦ elim o [
          | inl l ↦ (
            c.0,
            d.0,
            record {
              order = l;
              below = d.1;
              odd = sym (steps-swap c.0 d.0 c.1 d.1 p) ∙ ap steps_to is ∙ member.1;
              is = is;
            },
          )
          | inr l ↦
              let back : swap x d.0 c.0 ≡ y = sym (swap_comm c.0 d.0 c.1 d.1 p) ∙ is in (
                d.0,
                c.0,
                record {
                  order = l;
                  below = c.1;
                  odd = sym (steps-swap d.0 c.0 d.1 c.1 (λ e. p (sym e))) ∙ ap steps_to back ∙ member.1;
                  is = back;
                },
              )
        ]
      ]

  -- each exchange at an odd pair is in the border
  pub Contains-reached : (y : List ℕ) (a b : ℕ) → IsOddExchange y a b → Contains reached y
  unfolding reached
  Contains-reached y a b h =
      let o = h.order in let l = h.below in
      let la : a < size g = omega arith in
      subst (Contains (filter steps_to (states (size g)))) h.is
      (Contains-filter steps_to (states (size g)) (swap x a b)
      (Contains-states (size g) (swap x a b) (IsBijection-swap (size g) x a b la l sx))
      (steps-swap a b la l (omega arith) ∙ h.odd))
