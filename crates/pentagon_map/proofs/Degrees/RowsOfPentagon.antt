-- The marks of the exchanged grid in a pentagon, row by row: whether the row of the left column, or that of the
-- right one, is in its rows.
-- Route: count the rows from the crossing row w; there ranges are those of numbers with 0 for w.
use Rattle.std.proofs.Common.{ap, arith, false, inl, inr, leb, ltb, not, refl, sym, true, true≢false, ℕ, ◌&&◌, ◌<◌, ◌∙◌, ◌≡◌, ◌≢◌, ◌≤◌}
use Rattle.std.proofs.lemmas.Bool.{cases_eq, cases_lt}
use Rattle.f2_algebra.proofs.Chains.Tables.{and-true, same, ◌⊻◌}
use Rattle.rectangles.proofs.Square.CyclicOrder.{between, between_end}
use Rattle.rectangles.proofs.Square.TwoSteps.{differ-true}
use Rattle.pentagon_map.proofs.ChainMap.RowArcs.{above_of}
use Rattle.pentagon_map.proofs.Degrees.CountedFrom.{between-counted_from, counted_from, counted_from-apart, counted_from-one, counted_from-self}

-- the order of two numbers
is_up : (x y : ℕ) → x ≤ y → leb x y ≡ true
is_up x y h = grind arith

not_up : (x y : ℕ) → y < x → leb x y ≡ false
not_up x y h = grind arith

not_less : (x y : ℕ) → y ≤ x → ltb x y ≡ false
not_less x y h = grind arith

is_less : (x y : ℕ) → x < y → ltb x y ≡ true
is_less x y h = grind arith

pub less_is : (x y : ℕ) → ltb x y ≡ not (leb y x)
less_is x y = grind arith

-- with 0 for the crossing row
left_from_zero : (j k a b : ℕ) → j ≢ k → a ≢ b → 0 < k → between j k 0 ≡ true → between j 0 b ≡ false → (0 < a → k ≤ a)
    → (0 < a → b < a) → between j k a ≡ between j b a
left_from_zero j k a b p q some h1 h2 h3 h4 = elim (cases_eq a 0) [
  | inl e ↦ at_zero a j k b e p q h1 h2
  | inr r ↦ elim (cases_eq j 0) [
    | inl e ↦ first_row j k a b e (h3 (omega arith)) (h4 (omega arith))
    | inr t ↦
        wrapped j k a b (omega arith) (h3 (omega arith)) (h4 (omega arith)) (past j b (omega arith) h2)
        (goes_round j k (omega arith) some h1)
  ]
]
  where
    past : (j b : ℕ) → 0 < j → between j 0 b ≡ false → b < j
    past j b s h = grind arith

    goes_round : (j k : ℕ) → 0 < j → 0 < k → between j k 0 ≡ true → k < j
    goes_round j k s t h = grind arith

    at_zero : (a j k b : ℕ) → a ≡ 0 → j ≢ k → a ≢ b → between j k 0 ≡ true → between j 0 b ≡ false
        → between j k a ≡ between j b a
    at_zero a j k b e p q h1 h2 =
        ap (between j k) e ∙ h1 ∙ sym (ap (between j b) e ∙ (let some : 0 < b = omega arith in round j b some h2))
      where
        round : (j b : ℕ) → 0 < b → between j 0 b ≡ false → between j b 0 ≡ true
        round j b s h = grind arith

    first_row : (j k a b : ℕ) → j ≡ 0 → k ≤ a → b < a → between j k a ≡ between j b a
    first_row j k a b e h3 h4 = out j k a e h3 ∙ sym (out j b a e (omega arith))
      where
        out : (j k a : ℕ) → j ≡ 0 → k ≤ a → between j k a ≡ false
        out j k a e h = grind arith

    wrapped : (j k a b : ℕ) → 0 < j → k ≤ a → b < a → b < j → k < j → between j k a ≡ between j b a
    wrapped j k a b s h3 h4 h5 h6 = from_start j k a h6 h3 ∙ sym (from_start j b a h5 (omega arith))
      where
        from_start : (j k a : ℕ) → k < j → k ≤ a → between j k a ≡ leb j a
        from_start j k a h i = grind arith

right_from_zero : (j k a b : ℕ) → j ≢ k → a ≢ b → 0 < k → between j k 0 ≡ true → between j 0 b ≡ false → (0 < a → k ≤ a)
    → (0 < a → b < a) → between j k b ≡ between k b a
right_from_zero j k a b p q some h1 h2 h3 h4 = elim (cases_eq a 0) [
  | inl e ↦ elim (cases_eq j 0) [
    | inl f ↦ in_low j k a b e f some (omega arith)
    | inr t ↦ in_wrap j k a b e some (omega arith) (past j b (omega arith) h2) (goes_round j k (omega arith) some h1)
  ]
  | inr r ↦ elim (cases_eq j 0) [
    | inl f ↦ low_row j k a b f some (h3 (omega arith)) (h4 (omega arith))
    | inr t ↦
        wrap_row j k a b (h3 (omega arith)) (h4 (omega arith)) (past j b (omega arith) h2)
        (goes_round j k (omega arith) some h1)
  ]
]
  where
    past : (j b : ℕ) → 0 < j → between j 0 b ≡ false → b < j
    past j b s h = grind arith

    goes_round : (j k : ℕ) → 0 < j → 0 < k → between j k 0 ≡ true → k < j
    goes_round j k s t h = grind arith

    before : (k b a : ℕ) → a ≡ 0 → 0 < k → 0 < b → between k b a ≡ ltb b k
    before k b a e s z = λ i. not_up k a (omega arith) i ⊻ not_up b a (omega arith) i ⊻ ltb b k

    in_low : (j k a b : ℕ) → a ≡ 0 → j ≡ 0 → 0 < k → 0 < b → between j k b ≡ between k b a
    in_low j k a b e f s z = low j k b f ∙ sym (before k b a e s z)
      where
        low : (j k b : ℕ) → j ≡ 0 → between j k b ≡ ltb b k
        low j k b f = (λ v. is_up j b (omega arith) v ⊻ leb k b ⊻ not_less k j (omega arith) v)
            ∙ same 1 (λ t. (true ⊻ t) ⊻ false) (λ t. not t) refl (leb k b) ∙ sym (less_is b k)

    in_wrap : (j k a b : ℕ) → a ≡ 0 → 0 < k → 0 < b → b < j → k < j → between j k b ≡ between k b a
    in_wrap j k a b e s z h i = wrap j k b h i ∙ sym (before k b a e s z)
      where
        wrap : (j k b : ℕ) → b < j → k < j → between j k b ≡ ltb b k
        wrap j k b h i = (λ v. not_up j b h v ⊻ leb k b ⊻ is_less k j i v)
            ∙ same 1 (λ t. (false ⊻ t) ⊻ true) (λ t. not t) refl (leb k b) ∙ sym (less_is b k)

    under : (k a b : ℕ) → k ≤ a → b < a → between k b a ≡ ltb b k
    under k a b h i = λ v. is_up k a h v ⊻ is_up b a (omega arith) v ⊻ ltb b k

    low_row : (j k a b : ℕ) → j ≡ 0 → 0 < k → k ≤ a → b < a → between j k b ≡ between k b a
    low_row j k a b f s h i = low j k b f ∙ sym (under k a b h i)
      where
        low : (j k b : ℕ) → j ≡ 0 → between j k b ≡ ltb b k
        low j k b f = (λ v. is_up j b (omega arith) v ⊻ leb k b ⊻ not_less k j (omega arith) v)
            ∙ same 1 (λ t. (true ⊻ t) ⊻ false) (λ t. not t) refl (leb k b) ∙ sym (less_is b k)

    wrap_row : (j k a b : ℕ) → k ≤ a → b < a → b < j → k < j → between j k b ≡ between k b a
    wrap_row j k a b h i u v = wrap j k b u v ∙ sym (under k a b h i)
      where
        wrap : (j k b : ℕ) → b < j → k < j → between j k b ≡ ltb b k
        wrap j k b h i = (λ v. not_up j b h v ⊻ leb k b ⊻ is_less k j i v)
            ∙ same 1 (λ t. (false ⊻ t) ⊻ true) (λ t. not t) refl (leb k b) ∙ sym (less_is b k)

-- the rows of a pentagon: j and k its low and high rows, w the crossing row, a the row of a mark of the left column
-- and b that of the mark of the right one
pub record AreRows (n j k w a b : ℕ) : Type 0 where
  pub j_below : j < n
  pub k_below : k < n
  pub w_below : w < n
  pub a_below : a < n
  pub b_below : b < n
  pub jk : j ≢ k
  pub ab : a ≢ b
  pub crosses : between j k w ≡ true
  pub below : between j w b ≡ false
  pub above : above_of w k a ≡ false
  pub crossing : above_of w b a ≡ false

module _ (n j k w a b : ℕ) (d : AreRows n j k w a b) where
  at : ℕ → ℕ
  at i = counted_from n w i

  same_range : (x y i : ℕ) → x < n → y < n → i < n
      → between (counted_from n w x) (counted_from n w y) (counted_from n w i) ≡ between x y i
  same_range x y i lx ly li = between-counted_from n w x y i d.w_below lx ly li

  zero_is : counted_from n w w ≡ 0
  zero_is = counted_from-self n w

  kw : k ≢ w
  kw e = true≢false (sym d.crosses ∙ ap (between j k) (sym e) ∙ between_end j k)

  wide : 0 < counted_from n w k
  wide = counted_from-apart n w k d.w_below kw

  h1 : between (counted_from n w j) (counted_from n w k) 0 ≡ true
  h1 = ap (between (counted_from n w j) (counted_from n w k)) (sym zero_is)
      ∙ same_range j k w d.j_below d.k_below d.w_below ∙ d.crosses

  h2 : between (counted_from n w j) 0 (counted_from n w b) ≡ false
  h2 = ap (λ z. between (counted_from n w j) z (counted_from n w b)) (sym zero_is)
      ∙ same_range j w b d.j_below d.w_below d.b_below ∙ d.below

  not_w : 0 < counted_from n w a → a ≢ w
  not_w l e = let z = ap (counted_from n w) e ∙ zero_is in absurd (omega arith)

  past_zero : (k a : ℕ) → between 0 k a ≡ false → 0 < k → k ≤ a
  past_zero k a h s = elim (cases_lt a k) [
    | inl l ↦ absurd (true≢false (sym (inside k a l) ∙ h))
    | inr l ↦ l
  ]
    where
      inside : (k a : ℕ) → a < k → between 0 k a ≡ true
      inside k a l = λ i. is_up 0 a (omega arith) i ⊻ not_up k a l i ⊻ not_less k 0 (omega arith) i

  outside : (i : ℕ) → i < n → i ≢ w → above_of w i a ≡ false → a ≢ w → counted_from n w i ≤ counted_from n w a
  outside i li p h q =
      past_zero (counted_from n w i) (counted_from n w a)
      (ap (λ z. between z (counted_from n w i) (counted_from n w a)) (sym zero_is)
      ∙ same_range w i a d.w_below li d.a_below
      ∙ sym (ap (λ z. between w i a && z) (differ-true a w q) ∙ and-true (between w i a)) ∙ h)
      (counted_from-apart n w i d.w_below p)

  h3 : 0 < counted_from n w a → counted_from n w k ≤ counted_from n w a
  h3 l = outside k d.k_below kw d.above (not_w l)

  apart : (x y : ℕ) → x < n → y < n → x ≢ y → counted_from n w x ≢ counted_from n w y
  apart x y lx ly p e = p (counted_from-one n w x y d.w_below lx ly e)

  h4 : 0 < counted_from n w a → counted_from n w b < counted_from n w a
  h4 l = elim (cases_eq b w) [
    | inl e ↦ let z = ap (counted_from n w) e ∙ zero_is in omega arith
    | inr p ↦ let m = outside b d.b_below p d.crossing (not_w l) in let q = apart a b d.a_below d.b_below d.ab in
        omega arith
  ]

  -- the row of the left column is in the rows of the pentagon, by the low row
  pub left_in : between j k a ≡ between j b a
  left_in =
      sym (same_range j k a d.j_below d.k_below d.a_below)
      ∙ left_from_zero (counted_from n w j) (counted_from n w k) (counted_from n w a) (counted_from n w b)
      (apart j k d.j_below d.k_below d.jk) (apart a b d.a_below d.b_below d.ab) wide h1 h2 h3 h4
      ∙ same_range j b a d.j_below d.b_below d.a_below

  -- and the row of the right one, by the high row
  pub right_in : between j k b ≡ between k b a
  right_in =
      sym (same_range j k b d.j_below d.k_below d.b_below)
      ∙ right_from_zero (counted_from n w j) (counted_from n w k) (counted_from n w a) (counted_from n w b)
      (apart j k d.j_below d.k_below d.jk) (apart a b d.a_below d.b_below d.ab) wide h1 h2 h3 h4
      ∙ same_range k b a d.k_below d.b_below d.a_below
