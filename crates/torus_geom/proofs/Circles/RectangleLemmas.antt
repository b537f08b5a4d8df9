-- The rectangles of a grid are proper, their ranges have their first circle and the one before their
-- end, and a state that no step leaves has an empty border.
use Rattle.std.proofs.Common.{◌≡◌, ◌≢◌, ℕ, zero, suc, ◌+◌, ◌-◌, ◌<◌, Bool, true, false, not, cond, ◌&&◌, ◌||◌, List, [], ◌∷◌, length, map, slice_index, Contains, refl, ap, subst, ◌∙◌, eqb, arith, inl, inr, sym}
use Rattle.std.specs.List.{filter}
use Rattle.std.proofs.lemmas.Bool.{cases_lt, cases_eq, cases_Bool, false≢true, and_parts, eqb-true}
use Rattle.f2_algebra.specs.Chain.{of_codes, nothing, is_odd}
use Rattle.state_rank.specs.Bijection.{ascending}
use Rattle.state_rank.specs.States.{states, rank}
use Rattle.state_rank.proofs.MemberLemmas.{member_head, member_tail, member_of_map, member_of_filter, member_of_flat_map}
use Rattle.state_rank.proofs.OrderLemmas.{member_of_ascending}
use Rattle.torus_geom.specs.Marks.{Marks, size}
use Rattle.torus_geom.specs.Range.{in_range}
use Rattle.torus_geom.specs.Rectangle.{IsProper, pairs_apart, rectangles, is_unmarked}
use Rattle.torus_geom.specs.Border.{is_step}
use Rattle.torus_geom.specs.Inner.CodeBorder.{border_of_state}
use Rattle.torus_geom.specs.Range.{one_down}
use Rattle.torus_geom.specs.declared.rects.Rect.{Rect}
use Rattle.torus_geom.proofs.Sums.AllBelowLemmas.{at_all_below}
use Rattle.torus_geom.proofs.Circles.RangeLemmas.{in_range-plain, in_range-across}
use Rattle.torus_geom.proofs.Circles.TurnLemmas.{one_down-first, one_down-above}

-- ---- the rectangles of a grid

-- the pairs are of different numbers below n
pub member_of_pairs_apart : (n : ℕ) (c : ℕ × ℕ) → Contains (pairs_apart n) c → (c.0 < n) × (c.1 < n) × (c.0 ≢ c.1)
member_of_pairs_apart n c h =
    let (a, in_first, in_pairs) =
    member_of_flat_map (λ a. map (λ b. (a, b)) (filter (λ b. not (eqb a b)) (ascending n))) (ascending n) c h in
    let (b, in_filter, is) = member_of_map (λ b. (a, b)) (filter (λ b. not (eqb a b)) (ascending n)) c in_pairs in
    let (in_second, differ) = member_of_filter (λ b. not (eqb a b)) (ascending n) b in_filter in
    let P : ℕ × ℕ → Type 0 = λ d. (d.0 < n) × (d.1 < n) × (d.0 ≢ d.1) in
    subst P is (member_of_ascending n a in_first, member_of_ascending n b in_second, apart a b differ)
  where
    apart : (a b : ℕ) → not (eqb a b) ≡ true → a ≢ b
    apart a b h e = grind arith

-- they are proper
pub member_of_rectangles : (n : ℕ) (r : Rect) → Contains (rectangles n) r → IsProper n r
member_of_rectangles n r h =
    let rectangle : ℕ × ℕ → ℕ × ℕ → Rect = λ c r. record { left = c.0; right = c.1; low = r.0; high = r.1 } in
    let (c, in_columns, in_rows) =
    member_of_flat_map (λ (c : ℕ × ℕ). map (rectangle c) (pairs_apart n)) (pairs_apart n) r h in
    let (d, in_pairs, is) = member_of_map (rectangle c) (pairs_apart n) r in_rows in
    let columns = member_of_pairs_apart n c in_columns in
    let rows = member_of_pairs_apart n d in_pairs in
    subst (IsProper n) is (record {
      left_below = columns.0;
      right_below = columns.1;
      low_below = rows.0;
      high_below = rows.1;
      columns = columns.2;
      rows = rows.2;
    })

-- ---- circles of a range

-- a range has its first circle
pub in_range-start : (n a b : ℕ) → a < n → b < n → a ≢ b → in_range n a b a ≡ true
in_range-start n a b la lb p = elim (cases_lt a b) [
  | inl l ↦ in_range-plain n a b a l lb la ∙ grind arith
  | inr l ↦ in_range-across n a b a (omega arith) la la ∙ grind arith
]

-- and the circle before its end
pub in_range-one_down : (n a b : ℕ) → a < n → b < n → a ≢ b → in_range n a b (one_down n b) ≡ true
in_range-one_down n a b la lb p = elim (cases_eq b 0) [
  | inl e ↦
      let some : n ≡ (n - 1) + 1 = omega arith in
      let before : one_down n b ≡ n - 1 = ap (one_down n) e ∙ first n some in
      in_range-across n a b (one_down n b) (omega arith) la (omega arith) ∙ grind (arith, before)
  | inr q ↦
      let before : one_down n b ≡ b - 1 = above n b (omega arith) lb in
      elim (cases_lt a b) [
        | inl l ↦ in_range-plain n a b (one_down n b) l lb (omega arith) ∙ grind (arith, before)
        | inr l ↦ in_range-across n a b (one_down n b) (omega arith) la (omega arith) ∙ grind (arith, before)
      ]
]
  where
    first : (m : ℕ) → m ≡ (m - 1) + 1 → one_down m 0 ≡ m - 1
    first zero e = absurd (omega arith)
    first (suc m) e = one_down-first m ∙ (let i : m ≡ suc m - 1 = omega arith in i)

    above : (m c : ℕ) → 0 < c → c < m → one_down m c ≡ c - 1
    above zero c l k = absurd (omega arith)
    above (suc m) c l k = let e : c ≡ (c - 1) + 1 = omega arith in
        ap (one_down (suc m)) e ∙ one_down-above m (c - 1) (omega arith)

-- ---- steps

-- an unmarked rectangle has no X at a column and a row of its own
pub no_x_inside : (g : Marks) (r : Rect) (c : ℕ) → is_unmarked g r ≡ true → c < size g
    → in_range (size g) r.left r.right c ≡ true → in_range (size g) r.low r.high (slice_index g.x c) ≡ true → ⊥
no_x_inside g r c unmarked l column row =
    none _ _ _ (at_all_below (size g) (λ c. not (in_range (size g) r.left r.right c
    && (in_range (size g) r.low r.high (slice_index g.o c)
    || in_range (size g) r.low r.high (slice_index g.x c)))) unmarked c l) column row
  where
    none : (u v w : Bool) → not (u && (v || w)) ≡ true → u ≡ true → w ≡ true → ⊥
    none true true w h i j = false≢true h
    none true false true h i j = false≢true h
    none true false false h i j = false≢true j
    none false v w h i j = false≢true i

-- a list of which nothing passes
filter_none : {A : Type 0} (p : A → Bool) (xs : List A) → ((a : A) → Contains xs a → p a ≡ false) → filter p xs ≡ []
filter_none p [] h = refl
filter_none p (x ∷ xs) h = ap (λ b. cond b (x ∷ filter p xs) (filter p xs)) (h x (member_head x xs))
    ∙ filter_none p xs (λ a m. h a (member_tail x xs a m))

-- a state that no step leaves has an empty border
pub border_of_state-no_step : (g : Marks) (x : List ℕ)
    → ((y : List ℕ) (r : Rect) → IsProper (size g) r → is_step g x y r ≡ true → ⊥) → border_of_state g x ≡ nothing
unfolding border_of_state
border_of_state-no_step g x none =
    ap (λ ys. of_codes (map rank ys))
    (filter_none (λ y. is_odd (length (filter (is_step g x y) (rectangles (size g))))) (states (size g))
    (λ y m. ap (λ rs. is_odd (length rs)) (no_steps y)))
  where
    no_steps : (y : List ℕ) → filter (is_step g x y) (rectangles (size g)) ≡ []
    no_steps y = filter_none (is_step g x y) (rectangles (size g)) (λ r m. elim (cases_Bool (is_step g x y r)) [
      | inl step ↦ absurd (none y r (member_of_rectangles (size g) r m) step)
      | inr e ↦ e
    ])

-- the rectangle with these circles
abbrev pub corners : ℕ → ℕ → ℕ → ℕ → Rect
corners a b j k = record { left = a; right = b; low = j; high = k }

-- no rectangle leaves the empty list
pub border_of_state-nil : (g : Marks) → border_of_state g [] ≡ nothing
border_of_state-nil g = border_of_state-no_step g [] (λ y r proper step.
    let led = (and_parts _ _ step).0 in
    let low = and_parts _ _ led in
    let high = and_parts _ _ low.1 in
    proper.rows (sym (eqb-true 0 r.low low.0) ∙ eqb-true 0 r.high high.0))
