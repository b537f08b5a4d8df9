-- Open rectangles: empty and unmarked ones, as tests. Two that go round a column or a row hold a mark;
-- beside three columns each is the value of its arcs.
use Rattle.std.proofs.Common.{◌≡◌, ◌≢◌, ℕ, ◌<◌, Bool, true, false, not, ◌&&◌, ◌||◌, refl, ap, ap₂, ◌∙◌, sym, true≢false}
use mathlib.Core.Path.{fun_ext}
use Rattle.std.proofs.lemmas.Bool.{and_from, and_parts, false_from_ne_true}
use mathlib.Core.Bool.{beq}
use Rattle.f2_algebra.proofs.Chains.Tables.{same, and_assoc}
use Rattle.rectangles.proofs.Square.TwoSteps.{differ}
use Rattle.rectangles.proofs.Square.CyclicOrder.{between, between_start, between_back, Place, first, second, third, next, span, order_of, AreApart}
use Rattle.state_rank.proofs.BijectionLemmas.{IsOneToOne}
use Rattle.torus_geom.proofs.Sums.AllBelowLemmas.{at_all_below}
use Rattle.rectangles.proofs.Square.Exchanges.{with_exchanged, with_exchanged-first, with_exchanged-second, with_exchanged-other}
use Rattle.rectangles.proofs.Square.EmptyRectangles.{is_clear_of, free, free_cols, free_rows}
use Rattle.rectangles.proofs.Square.ThreeColumns.{value_is, rectangle_value, IsAdditive, start_of, end_of, is_one_of_three, empty_is, span_is}

-- three columns by their places
abbrev pub three : ℕ → ℕ → ℕ → Place → ℕ
three a b c first = a
three a b c second = b
three a b c third = c

-- a column has a mark in the rows that Q passes
abbrev pub marks : (ℕ → ℕ) → (ℕ → ℕ) → (ℕ → Bool) → ℕ → Bool
marks O X Q t = Q (O t) || Q (X t)

-- no column from a up to b has a mark in the rows from j up to k
abbrev pub unmarked : ℕ → (ℕ → ℕ) → (ℕ → ℕ) → ℕ → ℕ → ℕ → ℕ → Bool
unmarked n O X a b j k = free n (λ t. false) (between a b) (marks O X (between j k))

-- the rectangle with corners at the columns a and b of the state f is empty and unmarked
abbrev pub is_open : ℕ → (ℕ → ℕ) → (ℕ → ℕ) → (ℕ → ℕ) → ℕ → ℕ → Bool
is_open n O X f a b = differ a b && (is_clear_of n f a b (f a) (f b) && unmarked n O X a b (f a) (f b))

-- no two passes of a column leave it free
pub no_column : (n : ℕ) (O X : ℕ → ℕ) (a b j k : ℕ) → a < n → a ≢ b → j ≢ k
    → (unmarked n O X a b j k && unmarked n O X a b k j) ≡ false
no_column n O X a b j k l p q = false_from_ne_true _ (λ e.
    let h = and_parts (unmarked n O X a b j k) (unmarked n O X a b k j) e in
    let x = at_all_below n (λ t. false || not (between a b t && marks O X (between j k) t)) h.0 a l in
    let y = at_all_below n (λ t. false || not (between a b t && marks O X (between k j) t)) h.1 a l in
    true≢false (sym (and_from _ _ x y)
    ∙ ap₂ (λ u v. not (u && marks O X (between j k) a) && not (u && (v || between k j (X a)))) (between_start a b p)
    (between_back j k (O a) q)
    ∙ same 3 (λ u v w. not (u || v) && not (not u || w)) (λ u v w. false) refl (between j k (O a)) (between j k (X a))
    (between k j (X a))))

-- no two passes of a row, one on each side, leave it free
pub no_row : (n : ℕ) (O X : ℕ → ℕ) (a b j k c : ℕ) → c < n → O c ≡ j → a ≢ b → j ≢ k
    → (unmarked n O X a b j k && unmarked n O X b a j k) ≡ false
no_row n O X a b j k c l e p q = false_from_ne_true _ (λ i.
    let h = and_parts (unmarked n O X a b j k) (unmarked n O X b a j k) i in
    let x = at_all_below n (λ t. false || not (between a b t && marks O X (between j k) t)) h.0 c l in
    let y = at_all_below n (λ t. false || not (between b a t && marks O X (between j k) t)) h.1 c l in
    true≢false (sym (and_from _ _ x y)
    ∙ ap₂ (λ u v. not (between a b c && (u || between j k (X c))) && not (v && (u || between j k (X c))))
    (ap (between j k) e ∙ between_start j k q) (between_back a b c p)
    ∙ same 1 (λ u. not (u && true) && not (not u && true)) (λ u. false) refl (between a b c)))

-- no column that P passes has a row that Q passes, of f but for the columns that skip passes, and of O and X but for
-- those that bare passes
abbrev pub clear : ℕ → (ℕ → ℕ) → (ℕ → ℕ) → (ℕ → ℕ) → (ℕ → Bool) → (ℕ → Bool) → (ℕ → Bool) → (ℕ → Bool) → Bool
clear n O X f skip bare P Q = free n skip P (λ t. Q (f t)) && free n bare P (marks O X Q)

clear_cols : (n : ℕ) (O X f : ℕ → ℕ) (skip bare : ℕ → Bool) (Q : ℕ → Bool)
    → IsAdditive (λ P. clear n O X f skip bare P Q)
clear_cols n O X f skip bare Q P P' =
    ap₂ (λ x y. x && y) (free_cols n skip P P' (λ t. Q (f t))) (free_cols n bare P P' (marks O X Q))
    ∙ same 4 (λ a b c d. (a && b) && (c && d)) (λ a b c d. (a && c) && (b && d)) refl
    (free n skip P (λ t. Q (f t))) (free n skip P' (λ t. Q (f t))) (free n bare P (marks O X Q))
    (free n bare P' (marks O X Q))

clear_rows : (n : ℕ) (O X f : ℕ → ℕ) (skip bare : ℕ → Bool) (P : ℕ → Bool) → IsAdditive (clear n O X f skip bare P)
clear_rows n O X f skip bare P Q Q' =
    ap₂ (λ x y. x && y) (free_rows n skip P (λ t. Q (f t)) (λ t. Q' (f t)))
    (ap (free n bare P) (fun_ext (λ t. same 4 (λ a b c d. (a || b) || (c || d)) (λ a b c d. (a || c) || (b || d)) refl
    (Q (O t)) (Q' (O t)) (Q (X t)) (Q' (X t))))
    ∙ free_rows n bare P (marks O X Q) (marks O X Q'))
    ∙ same 4 (λ a b c d. (a && b) && (c && d)) (λ a b c d. (a && c) && (b && d)) refl
    (free n skip P (λ t. Q (f t))) (free n skip P (λ t. Q' (f t))) (free n bare P (marks O X Q))
    (free n bare P (marks O X Q'))

-- the rows of the three columns
abbrev pub rows_of : (ℕ → ℕ) → (Place → ℕ) → Place → ℕ
rows_of f p x = f (p x)

-- the value at each two arcs
abbrev pub arc_values : ℕ → (ℕ → ℕ) → (ℕ → ℕ) → (ℕ → ℕ) → (ℕ → Bool) → (Place → ℕ) → Place → Place → Bool
arc_values n O X f bare p x y =
    clear n O X f (is_one_of_three p) bare (span p (order_of p) x) (span (rows_of f p) (order_of (rows_of f p)) y)

-- ---- three columns
-- three different columns
pub record AreColumns (n : ℕ) (p : Place → ℕ) : Type 0 where
  pub apart : AreApart p
  pub small : (x : Place) → p x < n

-- their rows are different
pub rows_apart : (n : ℕ) (f : ℕ → ℕ) (p : Place → ℕ) → IsOneToOne n f → AreColumns n p → AreApart (rows_of f p)
rows_apart n f p one d = record {
  ab = one.apart _ _ (d.small first) (d.small second) d.apart.ab;
  bc = one.apart _ _ (d.small second) (d.small third) d.apart.bc;
  ca = one.apart _ _ (d.small third) (d.small first) d.apart.ca;
}

-- a rectangle at two of the three columns, of a state g that is f but for these three
pub open-rectangle_value : (n : ℕ) (O X f : ℕ → ℕ) (bare : ℕ → Bool) (p : Place → ℕ) → IsOneToOne n f → AreColumns n p
    → (g : ℕ → ℕ) → ((t : ℕ) → t < n → ((x : Place) → t ≢ p x) → g t ≡ f t)
    → (s : Bool) (m : Place) (s' : Bool) (m' : Place)
    → g (start_of p s m) ≡ start_of (rows_of f p) s' m' → g (end_of p s m) ≡ end_of (rows_of f p) s' m'
    → g (p (next (next m))) ≡ rows_of f p (next (next m'))
    → (is_clear_of n g (start_of p s m) (end_of p s m) (g (start_of p s m)) (g (end_of p s m))
    && free n bare (between (start_of p s m) (end_of p s m))
    (marks O X (between (g (start_of p s m)) (g (end_of p s m)))))
    ≡ rectangle_value (order_of p) (order_of (rows_of f p)) (arc_values n O X f bare p) s m s' m'
open-rectangle_value n O X f bare p one d g off s m s' m' e1 e2 e3 =
    let q : Place → ℕ = rows_of f p in
    let qa = rows_apart n f p one d in
    ap (λ y. y
    && free n bare (between (start_of p s m) (end_of p s m))
    (marks O X (between (g (start_of p s m)) (g (end_of p s m)))))
    (empty_is n f g p q d.apart qa d.small
    (λ t l o. (off t l o, λ x. one.apart t (p x) l (d.small x) (o x))) s m s' m' e1 e2 e3)
    ∙ (λ i. (not (not (beq (order_of p) s) && not (beq (order_of q) s'))
    && free n (is_one_of_three p) (span p s m) (λ t. span q s' m' (f t)))
    && free n bare (between (start_of p s m) (end_of p s m)) (marks O X (between (e1 i) (e2 i))))
    ∙ (λ i. (not (not (beq (order_of p) s) && not (beq (order_of q) s'))
    && free n (is_one_of_three p) (span p s m) (λ t. span q s' m' (f t)))
    && free n bare (span_is p s m i) (marks O X (span_is q s' m' i)))
    ∙ and_assoc (not (not (beq (order_of p) s) && not (beq (order_of q) s')))
    (free n (is_one_of_three p) (span p s m) (λ t. span q s' m' (f t)))
    (free n bare (span p s m) (marks O X (span q s' m')))
    ∙ ap (λ r. not (not (beq (order_of p) s) && not (beq (order_of q) s')) && r)
    (value_is p q d.apart qa (clear n O X f (is_one_of_three p) bare) (clear_cols n O X f (is_one_of_three p) bare)
    (clear_rows n O X f (is_one_of_three p) bare) s m s' m')

-- where the exchanges at the places m and next m leave the rows
module _ (n : ℕ) (f : ℕ → ℕ) (p : Place → ℕ) (d : AreColumns n p) where
  -- an exchange leaves the other columns
  pub second_off : (m : Place) (t : ℕ) → t < n → ((x : Place) → t ≢ p x) → with_exchanged f (p m) (p (next m)) t ≡ f t
  second_off m t l o = with_exchanged-other f (p m) (p (next m)) t (o m) (o (next m))

  -- the row at the start of the second rectangle
  pub second_start : (m : Place) (s : Bool)
      → with_exchanged f (p m) (p (next m)) (start_of p s (next m)) ≡ start_of (rows_of f p) (not s) (next (next m))
  second_start first true = with_exchanged-second f (p first) (p second) d.apart.ab
  second_start second true = with_exchanged-second f (p second) (p third) d.apart.bc
  second_start third true = with_exchanged-second f (p third) (p first) d.apart.ca
  second_start first false = with_exchanged-other f (p first) (p second) (p third) d.apart.ca (λ e. d.apart.bc (sym e))
  second_start second false = with_exchanged-other f (p second) (p third) (p first) d.apart.ab (λ e. d.apart.ca (sym e))
  second_start third false = with_exchanged-other f (p third) (p first) (p second) d.apart.bc (λ e. d.apart.ab (sym e))

  -- and at its end
  pub second_end : (m : Place) (s : Bool)
      → with_exchanged f (p m) (p (next m)) (end_of p s (next m)) ≡ end_of (rows_of f p) (not s) (next (next m))
  second_end first false = with_exchanged-second f (p first) (p second) d.apart.ab
  second_end second false = with_exchanged-second f (p second) (p third) d.apart.bc
  second_end third false = with_exchanged-second f (p third) (p first) d.apart.ca
  second_end first true = with_exchanged-other f (p first) (p second) (p third) d.apart.ca (λ e. d.apart.bc (sym e))
  second_end second true = with_exchanged-other f (p second) (p third) (p first) d.apart.ab (λ e. d.apart.ca (sym e))
  second_end third true = with_exchanged-other f (p third) (p first) (p second) d.apart.bc (λ e. d.apart.ab (sym e))

  -- and at the third column
  pub second_third : (m : Place)
      → with_exchanged f (p m) (p (next m)) (p (next (next (next m)))) ≡ rows_of f p (next (next (next (next m))))
  second_third first = with_exchanged-first f (p first) (p second)
  second_third second = with_exchanged-first f (p second) (p third)
  second_third third = with_exchanged-first f (p third) (p first)

-- the row at the start of the first rectangle
pub first_start : (f : ℕ → ℕ) (p : Place → ℕ) (s : Bool) (m : Place) → f (start_of p s m) ≡ start_of (rows_of f p) s m
first_start f p true m = refl
first_start f p false m = refl

-- and at its end
pub first_end : (f : ℕ → ℕ) (p : Place → ℕ) (s : Bool) (m : Place) → f (end_of p s m) ≡ end_of (rows_of f p) s m
first_end f p true m = refl
first_end f p false m = refl

-- the first rectangle of two, by its arcs
pub first_step-value : (n : ℕ) (O X f : ℕ → ℕ) (bare : ℕ → Bool) (p : Place → ℕ) → IsOneToOne n f → AreColumns n p
    → (s : Bool) (m : Place)
    → (is_clear_of n f (start_of p s m) (end_of p s m) (f (start_of p s m)) (f (end_of p s m))
    && free n bare (between (start_of p s m) (end_of p s m))
    (marks O X (between (f (start_of p s m)) (f (end_of p s m)))))
    ≡ rectangle_value (order_of p) (order_of (rows_of f p)) (arc_values n O X f bare p) s m s m
first_step-value n O X f bare p one d s m =
    open-rectangle_value n O X f bare p one d f (λ t l o. refl) s m s m (first_start f p s m) (first_end f p s m) refl

-- the second rectangle of two, by its arcs
pub second_step-value : (n : ℕ) (O X f : ℕ → ℕ) (bare : ℕ → Bool) (p : Place → ℕ) → IsOneToOne n f → AreColumns n p
    → (s : Bool) (m : Place) → let g : ℕ → ℕ = with_exchanged f (p m) (p (next m)) in
    (is_clear_of n g (start_of p s (next m)) (end_of p s (next m)) (g (start_of p s (next m))) (g (end_of p s (next m)))
    && free n bare (between (start_of p s (next m)) (end_of p s (next m)))
    (marks O X (between (g (start_of p s (next m))) (g (end_of p s (next m))))))
    ≡ rectangle_value (order_of p) (order_of (rows_of f p)) (arc_values n O X f bare p) s (next m) (not s)
    (next (next m))
second_step-value n O X f bare p one d s m =
    open-rectangle_value n O X f bare p one d (with_exchanged f (p m) (p (next m))) (second_off n f p d m) s
    (next m) (not s)
    (next (next m)) (second_start n f p d m s) (second_end n f p d m s) (second_third n f p d m)
