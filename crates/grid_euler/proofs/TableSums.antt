-- The alternating sum of the rows of a table, as a sum over cells.
-- Route: row by row. The cells of the degree of the first row are as many as its rank, and no later row has this
-- degree.
use Rattle.std.proofs.Common.{◌≡◌, ℕ, zero, suc, ◌+◌, ◌<◌, ◌%◌, Bool, true, false, not, eqb, ◌||◌, List, [], ◌∷◌, Contains, AllPairs, Option, Some, if◌then◌else◌, inl, inr, refl, sym, ap, ap₂, subst, ◌∙◌, arith}
use Rattle.std.proofs.Math.IntN.{ℤ, pos, negsuc, neg_ℤ, ◌+ℤ◌}
use Rattle.std.proofs.lemmas.Bool.{cases_eq, false≢true, false_from_ne_true}
use Rattle.std.proofs.lemmas.Int.{ints}
use Rattle.std.specs.Ordering.{int_eq}
use Rattle.f2_algebra.specs.Bigraded as bigraded
use Rattle.f2_algebra.proofs.Ranks.OrderLemmas.{same_bidegree, same_bidegree-is}
use Rattle.f2_algebra.proofs.Ranks.OrderLemmas.{StandsBefore-asymmetric}
use Rattle.f2_algebra.proofs.Ranks.Existence.{has_degree, has_degree-is}
use Rattle.state_rank.proofs.MemberLemmas.{member_cases, member_head, member_tail, no_member, pairs_head, pairs_tail}
use Rattle.torus_geom.specs.Counts.{sum_below, count_below, one_if}
use Rattle.torus_geom.specs.Homology.{Row}
use Rattle.torus_geom.proofs.Sums.SumLemmas.{sum_below-zero, sum_below_vanishes, balanced_sum}
use Rattle.grid_euler.specs.Euler.{is_even, signed, alternating_sum}
use Rattle.grid_euler.proofs.SignedCounts.{value_in}

-- ---- degrees
-- what a bidegree adds to the Euler number at a
abbrev pub value_at : ℤ → ℤ × ℤ → ℤ
value_at a d = if int_eq d.1 a then signed d.0 1 else pos 0

opposite : (a b : Bool) → a ≡ not b
    → (if a then pos 1 else neg_ℤ (pos 1)) +ℤ (if b then pos 1 else neg_ℤ (pos 1)) ≡ pos 0
opposite true true e = absurd (false≢true (sym e))
opposite true false e = refl
opposite false true e = refl
opposite false false e = absurd (false≢true e)

-- a degree and the one above it have opposite signs
signed-up : (m : ℤ) → signed (m +ℤ pos 1) 1 +ℤ signed m 1 ≡ pos 0
signed-up (pos k) = opposite (is_even (pos (k + 1))) (is_even (pos k)) (turns k)
  where
    turns : (k : ℕ) → eqb ((k + 1) % 2) 0 ≡ not (eqb (k % 2) 0)
    turns k = grind arith
signed-up (negsuc zero) = refl
signed-up (negsuc (suc k)) =
    let up : negsuc (suc k) +ℤ pos 1 ≡ negsuc k = omega (arith, ints) in
    ap (λ m. signed m 1 +ℤ signed (negsuc (suc k)) 1) up
    ∙ opposite (is_even (negsuc k)) (is_even (negsuc (suc k))) (turns k)
  where
    turns : (k : ℕ) → eqb (suc k % 2) 0 ≡ not (eqb (suc (suc k) % 2) 0)
    turns k = grind arith

-- they add opposite numbers
pub value_at-up : (a : ℤ) (d : ℤ × ℤ) → value_at a (d.0 +ℤ pos 1, d.1) +ℤ value_at a d ≡ pos 0
value_at-up a d = at_test (int_eq d.1 a) _ _ (signed-up d.0)
  where
    at_test : (b : Bool) (x y : ℤ) → x +ℤ y ≡ pos 0 → (if b then x else pos 0) +ℤ (if b then y else pos 0) ≡ pos 0
    at_test true x y h = h
    at_test false x y h = refl

-- ---- counts
natural : (n : ℕ) (p : ℕ → Bool) → (k : ℕ) × (count_below n p ≡ pos k)
natural zero p = (0, refl)
natural (suc n) p = let (k, e) = natural n p in at_test (p n) k e
  where
    at_test : (b : Bool) (k : ℕ) → count_below n p ≡ pos k → (j : ℕ) × (one_if b +ℤ count_below n p ≡ pos j)
    at_test true k e = (suc k, omega (arith, ints))
    at_test false k e = (k, omega (arith, ints))

-- a count with a member is above 0
pub count-positive : (n s : ℕ) (p : ℕ → Bool) → s < n → p s ≡ true → (k : ℕ) × (count_below n p ≡ pos (suc k))
count-positive zero s p l h = absurd (omega arith)
count-positive (suc n) s p l h =
    let later = count-positive n s p in
    elim (cases_eq s n) [
      | inl e ↦
          let (k, is) = natural n p in
          let here : one_if (p n) ≡ pos 1 = ap one_if (ap p (sym e) ∙ h) in
          (k, omega (arith, ints))
      | inr ne ↦ let (k, is) = later (below ne) h in at_test (p n) k is
    ]
  where
    below : (s ≡ n → ⊥) → s < n
    below ne = grind arith

    at_test : (b : Bool) (k : ℕ) → count_below n p ≡ pos (suc k) → (j : ℕ) × (one_if b +ℤ count_below n p ≡ pos (suc j))
    at_test true k e = (suc k, omega (arith, ints))
    at_test false k e = (k, omega (arith, ints))

-- the sum of -1 at the places that are counted
sum-opposite : (n : ℕ) (p : ℕ → Bool)
    → sum_below n (λ s. if p s then neg_ℤ (pos 1) else pos 0) +ℤ count_below n p ≡ pos 0
sum-opposite zero p = refl
sum-opposite (suc n) p = at_test (p n) _ _ (sum-opposite n p)
  where
    at_test : (b : Bool) (x y : ℤ) → x +ℤ y ≡ pos 0
        → ((if b then neg_ℤ (pos 1) else pos 0) +ℤ x) +ℤ (one_if b +ℤ y) ≡ pos 0
    at_test true x y h = omega (arith, ints)
    at_test false x y h = omega (arith, ints)

-- a value that is taken at as many places as are counted
sum-part : (here even : Bool) (n d : ℕ) (p : ℕ → Bool) → count_below n p ≡ pos d
    → sum_below n (λ s. if p s then (if here then (if even then pos 1 else neg_ℤ (pos 1)) else pos 0) else pos 0)
    ≡ (if here then (if even then pos d else neg_ℤ (pos d)) else pos 0)
sum-part true true n d p h = h
sum-part true false n d p h =
    let opposite : sum_below n (λ s. if p s then neg_ℤ (pos 1) else pos 0) +ℤ count_below n p ≡ pos 0 =
    sum-opposite n p in
    omega (arith, ints)
sum-part false even n d p h = sum_below_vanishes n _ (λ s _. none (p s))
  where
    none : (b : Bool) → (if b then pos 0 else pos 0) ≡ pos 0
    none true = refl
    none false = refl

-- ---- rows
-- in a table the first of two rows stands before the other
abbrev pub StandsBefore : Row → Row → Type 0
StandsBefore p q = bigraded.StandsBefore (p.0, p.1) (q.0, q.1)

-- the row has the degree
abbrev pub is_at : Row → Option (ℤ × ℤ) → Bool
is_at row o = has_degree same_bidegree (row.0, row.1) o

-- some row has the degree
abbrev pub in_rows : List Row → Option (ℤ × ℤ) → Bool
in_rows [] o = false
in_rows (row ∷ rows) o = is_at row o || in_rows rows o

other : (p q : ℤ × ℤ) → bigraded.StandsBefore p q → same_bidegree p q ≡ false
other p q before = false_from_ne_true _ (λ t.
    let same = (same_bidegree-is p q).0 t in
    let loop : bigraded.StandsBefore q q = subst (λ d. bigraded.StandsBefore d q) same before in
    StandsBefore-asymmetric q q loop loop)

-- no later row has the degree of a row
fresh : (row : Row) (rows : List Row) → ((q : Row) → Contains rows q → StandsBefore row q)
    → in_rows rows (Some (row.0, row.1)) ≡ false
fresh row [] before = refl
fresh row (q ∷ rows) before =
    ap₂ ◌||◌ (other (row.0, row.1) (q.0, q.1) (before q (member_head q rows)))
    (fresh row rows (λ r inside. before r (member_tail q rows r inside)))

-- a row of the table has its degree
pub in_rows-member : (rows : List Row) (m a : ℤ) (d : ℕ) → Contains rows (m, a, d) → in_rows rows (Some (m, a)) ≡ true
in_rows-member [] m a d inside = absurd (no_member (m, a, d) inside)
in_rows-member (row ∷ rows) m a d inside =
    let later = in_rows-member rows m a d in
    elim (member_cases row rows (m, a, d) inside) [
      | inl same ↦
          ap (λ b. b || in_rows rows (Some (m, a)))
          ((same_bidegree-is (m, a) (row.0, row.1)).1 (λ i. ((sym same i).0, (sym same i).1)))
      | inr after ↦ either (is_at row (Some (m, a))) (later after)
    ]
  where
    either : (b : Bool) {c : Bool} → c ≡ true → (b || c) ≡ true
    either true h = refl
    either false h = h

-- of two tests that do not both pass, the sum of what each takes
split : (here later : Bool) (x value : ℤ) → (here ≡ true → (later ≡ false) × (x ≡ value))
    → (if here || later then x else pos 0) ≡ (if here then value else pos 0) +ℤ (if later then x else pos 0)
split true later x value h =
    let e = (h refl).1 in
    let none : (if later then x else pos 0) ≡ pos 0 = ap (λ b. if b then x else pos 0) (h refl).0 in
    omega (arith, ints)
split false later x value h = omega (arith, ints)

module _ (n : ℕ) (degree : ℕ → Option (ℤ × ℤ)) (a : ℤ) where
  -- the alternating sum of the rows is the sum over the places with the degree of a row
  pub sum-rows : (rows : List Row) → AllPairs StandsBefore rows
      → ((row : Row) → Contains rows row → count_below n (λ s. is_at row (degree s)) ≡ pos row.2)
      → sum_below n (λ s. if in_rows rows (degree s) then value_in (value_at a) (degree s) else pos 0)
      ≡ alternating_sum rows a
  sum-rows [] ordered counts = sum_below-zero n
  sum-rows (row ∷ rows) ordered counts =
      let first = sum-part (int_eq row.1 a) (is_even row.0) n row.2 (λ s. is_at row (degree s))
      (counts row (member_head row rows)) in
      let later = sum-rows rows (pairs_tail StandsBefore row rows ordered)
      (λ q inside. counts q (member_tail row rows q inside)) in
      balanced_sum n _ (λ s. if is_at row (degree s) then value_at a (row.0, row.1) else pos 0)
      (λ s. if in_rows rows (degree s) then value_in (value_at a) (degree s) else pos 0)
      (λ s _. split (is_at row (degree s)) (in_rows rows (degree s)) (value_in (value_at a) (degree s))
      (value_at a (row.0, row.1)) (at_row s))
      ∙ ap₂ (λ x y. x +ℤ y) first later
    where
      at_row : (s : ℕ) → is_at row (degree s) ≡ true
          → (in_rows rows (degree s) ≡ false) × (value_in (value_at a) (degree s) ≡ value_at a (row.0, row.1))
      at_row s h =
          let is : degree s ≡ Some (row.0, row.1) =
          (has_degree-is same_bidegree same_bidegree-is (row.0, row.1) (degree s)).0 h in (
            ap (in_rows rows) is ∙ fresh row rows (pairs_head StandsBefore row rows ordered),
            ap (value_in (value_at a)) is,
          )
