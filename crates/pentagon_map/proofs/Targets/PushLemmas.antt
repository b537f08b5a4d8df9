-- What the loops keep that collect the odd circles and append the exchanges.
use Rattle.std.proofs.Common.{Bool, List, [], ap, arith, bit_or, cond, eqb, false, inl, inr, length, ltb, map, not, refl, slice_index, swap, sym, take, true, ℕ, ◌%◌, ◌&&◌, ◌*◌, ◌++◌, ◌+◌, ◌<◌, ◌^◌, ◌||◌, ◌∙◌, ◌∷◌, ◌≡◌, ◌≤◌}
use Rattle.std.proofs.lemmas.Bool.{cases_eq}
use Rattle.std.proofs.lemmas.List.{append-nil, append_assoc, map-append, take_all}
use Rattle.std.proofs.lemmas.List.Elements.{filter_more}
use Rattle.std.proofs.lemmas.Nat.Bits.{bit_at-zero, bit_at_set_other, bit_at_set_same}
use Rattle.std.specs.Int.{bit_at, w16}
use Rattle.std.specs.List.{filter}
use Rattle.f2_algebra.proofs.Chains.Tables.{same}
use Rattle.torus_geom.specs.Range.{one_down, one_up}
use Rattle.torus_geom.specs.Marks.{Marks, size}
use Rattle.torus_geom.specs.Range.{in_range}
use Rattle.torus_geom.specs.Rectangle.{is_empty}
use Rattle.torus_geom.specs.declared.rects.Rect.{Rect}
use Rattle.rectangles.specs.Inner.Open.{leaving}
use Rattle.pentagon_map.specs.Inner.Exchanges.{is_odd_circle, is_pentagon_at, is_set, lowers, picked, raises}
use Rattle.pentagon_map.specs.Pentagon.{has_mark_in_rows, is_pentagonal, is_unmarked_beside}

-- one circle more, appended if it passes
pub picked_more : (x : List ℕ) (a : ℕ) (test : ℕ → Bool) (circles : List ℕ) (i b : ℕ) → i < length circles
    → slice_index circles i ≡ b
    → (old items : List (List ℕ)) → items ≡ old ++ picked x a test (take i circles) → (t : Bool) → test b ≡ t
    → items ++ cond t (swap x a b ∷ []) [] ≡ old ++ picked x a test (take (i + 1) circles)
picked_more x a test circles i b l at old items h t e =
    ap (λ ys. ys ++ cond t (swap x a b ∷ []) []) h
    ∙ append_assoc old (picked x a test (take i circles)) (cond t (swap x a b ∷ []) [])
    ∙ ap (λ ys. old ++ ys) (sym (
    ap (map (λ d. swap x a d)) (filter_more test circles i 0 l)
    ∙ map-append (λ d. swap x a d) (filter test (take i circles))
    (cond (test (slice_index circles i)) (slice_index circles i ∷ []) [])
    ∙ ap (λ d. picked x a test (take i circles) ++ map (λ d. swap x a d) (cond (test d) (d ∷ []) [])) at
    ∙ ap (λ s. picked x a test (take i circles) ++ map (λ d. swap x a d) (cond s (b ∷ []) [])) e
    ∙ ap (λ ys. picked x a test (take i circles) ++ ys) (by t)))
  where
    by : (t : Bool) → map (λ d. swap x a d) (cond t (b ∷ []) []) ≡ cond t (swap x a b ∷ []) []
    by true = refl
    by false = refl

-- appended
pub picked_yes : (x : List ℕ) (a : ℕ) (test : ℕ → Bool) (circles : List ℕ) (i b : ℕ) → i < length circles
    → slice_index circles i ≡ b
    → (old items : List (List ℕ)) → items ≡ old ++ picked x a test (take i circles) → test b ≡ true
    → items ++ (swap x a b ∷ []) ≡ old ++ picked x a test (take (i + 1) circles)
picked_yes x a test circles i b l at old items h e = picked_more x a test circles i b l at old items h true e

-- left out
pub picked_no : (x : List ℕ) (a : ℕ) (test : ℕ → Bool) (circles : List ℕ) (i b : ℕ) → i < length circles
    → slice_index circles i ≡ b
    → (old items : List (List ℕ)) → items ≡ old ++ picked x a test (take i circles) → test b ≡ false
    → items ≡ old ++ picked x a test (take (i + 1) circles)
picked_no x a test circles i b l at old items h e =
    sym (append-nil items) ∙ picked_more x a test circles i b l at old items h false e

-- all circles
pub picked_all : (x : List ℕ) (a : ℕ) (test : ℕ → Bool) (circles : List ℕ) (i : ℕ) → length circles ≤ i
    → (old items : List (List ℕ)) → items ≡ old ++ picked x a test (take i circles)
    → items ≡ old ++ picked x a test circles
picked_all x a test circles i l old items h = h ∙ ap (λ cs. old ++ picked x a test cs) (take_all i circles l)

-- ---- the bits of the odd circles
-- the bits of the circles before k are those of the odd ones, the others are not set
pub record IsOddBefore (g : Marks) (c w : ℕ) (x : List ℕ) (k odd : ℕ) : Type 0 where
  pub near : (b : ℕ) → b < k → bit_at odd b ≡ cond (is_odd_circle g c w x b) 1 0
  pub far : (b : ℕ) → k ≤ b → bit_at odd b ≡ 0

-- before the first circle
pub odd_before_none : (g : Marks) (c w : ℕ) (x : List ℕ) → IsOddBefore g c w x 0 0
odd_before_none g c w x = record { near = λ b l. absurd (omega arith); far = λ b l. bit_at-zero b }

-- one circle more that is odd
pub odd_before_yes : (g : Marks) (c w : ℕ) (x : List ℕ) (k odd : ℕ) → k < 16 → IsOddBefore g c w x k odd
    → is_odd_circle g c w x k ≡ true → IsOddBefore g c w x (k + 1) (bit_or odd (1 * 2 ^ k % 2 ^ 16))
odd_before_yes g c w x k odd low h e = record {
  near = λ b l. elim (cases_eq b k) [
    | inl i ↦
        ap (bit_at (bit_or odd (1 * 2 ^ k % 2 ^ 16))) i ∙ bit_at_set_same w16 odd k low
        ∙ sym (ap (λ d. cond (is_odd_circle g c w x d) 1 0) i ∙ ap (λ t. cond t 1 0) e)
    | inr q ↦ bit_at_set_other w16 odd k low b q ∙ h.near b (omega arith)
  ];
  far = λ b l. bit_at_set_other w16 odd k low b (omega arith) ∙ h.far b (omega arith);
}

-- one that is not
pub odd_before_no : (g : Marks) (c w : ℕ) (x : List ℕ) (k odd : ℕ) → IsOddBefore g c w x k odd
    → is_odd_circle g c w x k ≡ false → IsOddBefore g c w x (k + 1) odd
odd_before_no g c w x k odd h e = record {
  near = λ b l. elim (cases_eq b k) [
    | inl i ↦
        ap (bit_at odd) i ∙ h.far k (omega arith)
        ∙ sym (ap (λ d. cond (is_odd_circle g c w x d) 1 0) i ∙ ap (λ t. cond t 1 0) e)
    | inr q ↦ h.near b (omega arith)
  ];
  far = λ b l. h.far b (omega arith);
}

-- ---- the tests that the loops make
-- a circle whose row is higher and whose bit is set
pub lowers_is : (x : List ℕ) (a odd b row_a row_b : ℕ) (t : Bool) → row_a ≡ slice_index x a → row_b ≡ slice_index x b
    → t ≡ (ltb row_a row_b && is_set odd b) → lowers x a odd b ≡ t
lowers_is x a odd b row_a row_b t ea eb e = sym (e ∙ λ i. ltb (ea i) (eb i) && is_set odd b)

-- a circle whose row is lower
pub raises_is : (x : List ℕ) (a odd b row_a row_b : ℕ) (t : Bool) → row_a ≡ slice_index x a → row_b ≡ slice_index x b
    → t ≡ (ltb row_b row_a && is_set odd b) → raises x a odd b ≡ t
raises_is x a odd b row_a row_b t ea eb e = sym (e ∙ λ i. ltb (eb i) (ea i) && is_set odd b)

-- the place after i
pub at_next : (x : List ℕ) (a : ℕ) (test : ℕ → Bool) (circles : List ℕ) (old : List (List ℕ)) (i j : ℕ) → j ≡ i + 1
    → old ++ picked x a test (take (i + 1) circles) ≡ old ++ picked x a test (take j circles)
at_next x a test circles old i j e = ap (λ k. old ++ picked x a test (take k circles)) (sym e)

-- ---- a pentagon of a state
-- a rectangle that leaves x, by its circles
pub leaving_is : (x : List ℕ) (a b : ℕ) (r : Rect) → r.left ≡ a → r.right ≡ b → r.low ≡ slice_index x a
    → r.high ≡ slice_index x b → r ≡ leaving x a b
leaving_is x a b r l k j h = λ i. record { left = l i; right = k i; low = j i; high = h i }

-- the tests in the order of the code
pub pentagon_by_parts : (g : Marks) (c w : ℕ) (x : List ℕ) (a b : ℕ) (r : Rect) → r ≡ leaving x a b
    → ((((eqb r.left c || eqb r.right c)
    && (in_range (size g) r.low r.high w
    && (not (has_mark_in_rows g c r.low w)
    && not (has_mark_in_rows g (one_down (size g) c) (one_up (size g) w) r.high)))) && is_unmarked_beside g c r)
    && is_empty x r)
    ≡ is_pentagon_at g c w x a b
unfolding is_pentagon_at
pentagon_by_parts g c w x a b r e =
    same 6 (λ p q s t u v. ((p && (q && (s && t))) && u) && v) (λ p q s t u v. v && (p && (q && (u && (s && t))))) refl
    (eqb r.left c || eqb r.right c) (in_range (size g) r.low r.high w) (not (has_mark_in_rows g c r.low w))
    (not (has_mark_in_rows g (one_down (size g) c) (one_up (size g) w) r.high))
    (is_unmarked_beside g c r) (is_empty x r)
    ∙ ap (λ q. is_empty x q && is_pentagonal g c w q) e
