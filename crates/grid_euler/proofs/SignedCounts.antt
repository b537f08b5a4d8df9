-- The cells of a complex, each counted with a value of its degree that changes its sign from a degree to the one above.
-- Route: an arrow ends one degree below its beginning, so that cancelling it takes two opposite values from the sum;
-- if no arrow is left, the rank of a degree is the number of its cells.
use Rattle.std.proofs.Common.{◌≡◌, ℕ, zero, suc, ◌+◌, ◌<◌, Bool, true, false, cond, ◌&&◌, ◌||◌, eqb, List, [], ◌∷◌, length, Option, Some, None, is_some, ◌↔◌, refl, sym, ap, ap₂, ◌∙◌, arith}
use Rattle.std.proofs.Math.IntN.{ℤ, pos, ◌+ℤ◌}
use Rattle.std.proofs.lemmas.Bool.{ne_eqb, eq-eqb}
use Rattle.std.proofs.lemmas.Int.{ints}
use Rattle.std.specs.List.{filter}
use Rattle.f2_algebra.specs.Chain.{nothing}
use Rattle.f2_algebra.specs.Complex.{Complex, IsComplex, IsRank}
use Rattle.f2_algebra.specs.Cancel.{cancelled, Entry, IsEntry, IsLog, after}
use Rattle.f2_algebra.proofs.Chains.Sets.{any, any-filter, IsApart}
use Rattle.f2_algebra.proofs.Chains.Cardinality.{cardinality-length, cardinality-of_codes}
use Rattle.f2_algebra.proofs.Cancelling.Cancellation.{ends_differ, degree-cancelled, cancelled_IsComplex}
use Rattle.f2_algebra.proofs.Cancelling.LogLemmas.{live_at_first, live_below}
use Rattle.f2_algebra.proofs.Ranks.Existence.{HasAllCells, codes_below, any-codes_below, has_degree, cells_of, cells_of-all}
use Rattle.f2_algebra.proofs.Ranks.RankLemmas.{rank_of_log, one_rank}
use Rattle.torus_geom.specs.Counts.{sum_below, count_below, one_if}
use Rattle.torus_geom.proofs.Sums.SumLemmas.{sum_below_but_two}

-- the value of a degree, 0 if there is none
abbrev pub value_in : {G : Type 0} → (G → ℤ) → Option G → ℤ
value_in value None = pos 0
value_in value (Some m) = value m

-- the sum of the values of the degrees of the codes below n
abbrev pub signed_count : {G : Type 0} → (G → ℤ) → ℕ → Complex G → ℤ
signed_count value n C = sum_below n (λ s. value_in value (C.degree s))

-- each cell is below n
abbrev pub IsBelow : {G : Type 0} → Complex G → ℕ → Type 0
IsBelow C n = (s : ℕ) → is_some (C.degree s) ≡ true → s < n

-- the value of a degree is opposite to that of the degree above
abbrev pub Alternates : {G : Type 0} → (G → ℤ) → Complex G → Type 0
Alternates {G} value C = (m : G) → value (C.up m) +ℤ value m ≡ pos 0

module _ {G : Type 0} (value : G → ℤ) (n : ℕ) where
  -- cancelling an arrow keeps the sum
  pub signed_count-cancelled : (C : Complex G) → IsComplex C → Alternates value C → IsBelow C n
      → (e : Entry) → IsEntry C e
      → signed_count value n C ≡ signed_count value n (cancelled C e.x e.y)
  signed_count-cancelled C laws alternates below e fits =
      let (m, x_above, y_below) = laws.lowers e.x e.y fits.arrows in
      let old = λ (s : ℕ). value_in value (C.degree s) in
      let new = λ (s : ℕ). value_in value ((cancelled C e.x e.y).degree s) in
      let x_gone : new e.x ≡ pos 0 =
      ap (λ b. value_in value (cond b None (C.degree e.x))) (ap (λ b. b || eqb e.x e.y) (eq-eqb e.x e.x refl)) in
      let y_gone : new e.y ≡ pos 0 =
      ap (λ b. value_in value (cond b None (C.degree e.y))) (last (eqb e.y e.x) (eq-eqb e.y e.y refl)) in
      let x_old : old e.x ≡ value (C.up m) = ap (value_in value) x_above in
      let y_old : old e.y ≡ value m = ap (value_in value) y_below in
      let opposite = alternates m in
      let kept =
      sum_below_but_two n e.x e.y old new (below e.x (ap is_some x_above)) (below e.y (ap is_some y_below))
      (ends_differ C laws e fits)
      (λ s _ not_x not_y. ap (value_in value)
      (sym (degree-cancelled C laws e fits s (ap₂ ◌||◌ (ne_eqb s e.x not_x) (ne_eqb s e.y not_y)))))
      in
      omega (arith, ints)
    where
      last : (a : Bool) {b : Bool} → b ≡ true → (a || b) ≡ true
      last true h = refl
      last false h = h

  -- a log keeps it
  pub signed_count-after : (C : Complex G) → IsComplex C → Alternates value C → IsBelow C n
      → (log : List Entry) → IsLog C log
      → signed_count value n C ≡ signed_count value n (after C log)
  signed_count-after C laws alternates below [] stands = refl
  signed_count-after C laws alternates below (e ∷ log) stands =
      signed_count-cancelled C laws alternates below e stands.0
      ∙ signed_count-after (cancelled C e.x e.y) (cancelled_IsComplex C laws e stands.0) alternates
      (λ s live. below s (sym (ap is_some (live_below C laws e stands.0 s live)) ∙ live)) log stands.1

-- ---- the codes below n
past-codes_below : (n s : ℕ) → n < s + 1 → any s (codes_below n) ≡ false
unfolding codes_below
past-codes_below zero s l = refl
past-codes_below (suc n) s l =
    ap₂ ◌||◌ (ne_eqb s n (λ e. absurd (omega arith))) (past-codes_below n s (omega arith))

-- those of them that pass a test are distinct
apart-filter : (p : ℕ → Bool) (n : ℕ) → IsApart (filter p (codes_below n))
unfolding codes_below
apart-filter p zero = tt
apart-filter p (suc n) =
    at_test (p n) (any-filter n p (codes_below n) ∙ ap (λ b. b && p n) (past-codes_below n n (omega arith)))
    (apart-filter p n)
  where
    at_test : (b : Bool) → any n (filter p (codes_below n)) ≡ false → IsApart (filter p (codes_below n))
        → IsApart (cond b (n ∷ filter p (codes_below n)) (filter p (codes_below n)))
    at_test true new before = (new, before)
    at_test false new before = before

-- and as many as are counted
count-filter : (p : ℕ → Bool) (n : ℕ) → pos (length (filter p (codes_below n))) ≡ count_below n p
unfolding codes_below
count-filter p zero = refl
count-filter p (suc n) = at_test (p n) (count-filter p n)
  where
    at_test : (b : Bool) → pos (length (filter p (codes_below n))) ≡ count_below n p
        → pos (length (cond b (n ∷ filter p (codes_below n)) (filter p (codes_below n)))) ≡ one_if b +ℤ count_below n p
    at_test true before = omega (arith, ints)
    at_test false before = omega (arith, ints)

-- ---- if no arrow is left
module _ {G : Type 0} (eq : G → G → Bool) (eq_is : (m n : G) → (eq m n ≡ true) ↔ (m ≡ n)) where
  -- the rank in degree m is the number of cells of this degree that a log leaves
  pub count-left : (C : Complex G) → IsComplex C → (n : ℕ) → IsBelow C n → (log : List Entry) → IsLog C log
      → ((s : ℕ) → (after C log).targets s ≡ nothing) → (m : G) (d : ℕ) → IsRank C m d
      → count_below n (λ s. has_degree eq m ((after C log).degree s)) ≡ pos d
  count-left C laws n below log stands bare m d rank =
      let D = after C log in
      let within : HasAllCells D (codes_below n) =
      λ s live. any-codes_below n s (below s (sym (ap is_some (live_at_first C laws log stands s live)) ∙ live)) in
      let cells = cells_of eq eq_is D (codes_below n) m in
      let counted = rank_of_log C laws log stands bare m cells (cells_of-all eq eq_is D (codes_below n) within m) in
      sym (count-filter (λ s. has_degree eq m (D.degree s)) n)
      ∙ ap pos (sym (cardinality-of_codes _ (apart-filter (λ s. has_degree eq m (D.degree s)) n))
      ∙ cardinality-length cells ∙ one_rank C m _ d counted rank)
