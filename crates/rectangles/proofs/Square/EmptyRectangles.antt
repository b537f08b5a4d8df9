-- When a rectangle is empty and unmarked, as tests of columns; what that comes to beside four columns,
-- and that two steps at four columns may be taken in either order.
use Rattle.std.proofs.Common.{◌≡◌, ◌≢◌, ℕ, ◌<◌, Bool, true, false, not, ◌&&◌, ◌||◌, refl, ap, ap₂, ◌∙◌, sym, eqb, inl, inr}
use mathlib.Core.Logic.{◌⊎◌}
use Rattle.std.proofs.lemmas.Bool.{eq-eqb, ne_eqb, cases_eq, and_from}
use mathlib.Core.Bool.{beq}
use Rattle.f2_algebra.proofs.Chains.Tables.{Table, same, beq_same, implies, given, and-true, and-false}
use Rattle.rectangles.proofs.Square.TwoSteps.{differ, differ-true, differ-self}
use Rattle.rectangles.proofs.Square.CyclicOrder.{between, between_end, four, four_hold}
use Rattle.torus_geom.specs.Counts.{all_below}
use Rattle.rectangles.proofs.Square.ColumnTests.{all_below-and, all_below-split}
use Rattle.rectangles.proofs.Square.Exchanges.{with_exchanged, with_exchanged-first, with_exchanged-second, with_exchanged-other}
use Rattle.torus_geom.proofs.Sums.AllBelowLemmas.{all_below-same}
use Rattle.torus_geom.proofs.Circles.BetweenLemmas.{is_between}

-- no place of f lies inside the columns from a up to b and inside the rows from j up to k
abbrev pub is_clear_of : ℕ → (ℕ → ℕ) → ℕ → ℕ → ℕ → ℕ → Bool
is_clear_of n f a b j k = all_below n (λ t. not (is_between a b t && is_between j k (f t)))

-- no column that P passes, but for those that skip passes, has h
abbrev pub free : ℕ → (ℕ → Bool) → (ℕ → Bool) → (ℕ → Bool) → Bool
free n skip P h = all_below n (λ t. skip t || not (P t && h t))

-- for a number that is not the start
pub is_between-other : (a b c : ℕ) → c ≢ a → is_between a b c ≡ between a b c
is_between-other a b c p = ap (λ r. between a b c && r) (differ-true c a p) ∙ and-true (between a b c)

-- the start is not inside
pub is_between-start : (a b : ℕ) → is_between a b a ≡ false
is_between-start a b = ap (λ r. between a b a && r) (differ-self a) ∙ and-false (between a b a)

-- nor is the end
pub is_between-end : (a b : ℕ) → is_between a b b ≡ false
is_between-end a b = ap (λ r. r && differ b a) (between_end a b)

-- two tests of columns that stand end to end
pub free_cols : (n : ℕ) (skip P Q h : ℕ → Bool) → free n skip (λ t. P t || Q t) h ≡ (free n skip P h && free n skip Q h)
free_cols n skip P Q h =
    all_below-same n (λ t. skip t || not ((P t || Q t) && h t))
    (λ t. (skip t || not (P t && h t)) && (skip t || not (Q t && h t))) (λ t l.
    same 4 (λ s p q h. s || not ((p || q) && h)) (λ s p q h. (s || not (p && h)) && (s || not (q && h))) refl (skip t)
    (P t) (Q t) (h t))
    ∙ all_below-and n (λ t. skip t || not (P t && h t)) (λ t. skip t || not (Q t && h t))

-- two tests of rows that stand end to end
pub free_rows : (n : ℕ) (skip P h k : ℕ → Bool) → free n skip P (λ t. h t || k t) ≡ (free n skip P h && free n skip P k)
free_rows n skip P h k =
    all_below-same n (λ t. skip t || not (P t && (h t || k t)))
    (λ t. (skip t || not (P t && h t)) && (skip t || not (P t && k t))) (λ t l.
    same 4 (λ s p h k. s || not (p && (h || k))) (λ s p h k. (s || not (p && h)) && (s || not (p && k))) refl (skip t)
    (P t) (h t) (k t))
    ∙ all_below-and n (λ t. skip t || not (P t && h t)) (λ t. skip t || not (P t && k t))

-- ---- four columns
rest : ℕ → (ℕ → ℕ) → ℕ → ℕ → ℕ → ℕ → ℕ → ℕ → Bool
rest n g a b c d j k = all_below n (λ t. eqb t d || (eqb t c || not (is_between a b t && is_between j k (g t))))

split_two : (n : ℕ) (g : ℕ → ℕ) (a b c d j k : ℕ) → c < n → d < n → c ≢ d → c ≢ a → d ≢ a → g c ≢ j → g d ≢ j
    → is_clear_of n g a b j k
    ≡ (not (between a b c && between j k (g c)) && (not (between a b d && between j k (g d)) && rest n g a b c d j k))
unfolding rest
split_two n g a b c d j k lc ld cd ca da cj dj =
    all_below-split n c (λ t. not (is_between a b t && is_between j k (g t))) lc
    ∙ ap (λ r. not (is_between a b c && is_between j k (g c)) && r)
    (all_below-split n d (λ t. eqb t c || not (is_between a b t && is_between j k (g t))) ld
    ∙ ap (λ r. (r || not (is_between a b d && is_between j k (g d))) && rest n g a b c d j k)
    (ne_eqb d c (λ e. cd (sym e))))
    ∙ (λ i. not (is_between-other a b c ca i && is_between-other j k (g c) cj i)
    && (not (is_between-other a b d da i && is_between-other j k (g d) dj i) && rest n g a b c d j k))

rest_other : (n : ℕ) (f : ℕ → ℕ) (a b c d j k : ℕ) → rest n (with_exchanged f c d) a b c d j k ≡ rest n f a b c d j k
unfolding rest
rest_other n f a b c d j k =
    all_below-same n (λ t. eqb t d || (eqb t c || not (is_between a b t && is_between j k (with_exchanged f c d t))))
    (λ t. eqb t d || (eqb t c || not (is_between a b t && is_between j k (f t))))
    (λ t l. each t (cases_eq t c) (cases_eq t d))
  where
    each : (t : ℕ) → (t ≡ c) ⊎ (t ≢ c) → (t ≡ d) ⊎ (t ≢ d)
        → (eqb t d || (eqb t c || not (is_between a b t && is_between j k (with_exchanged f c d t))))
        ≡ (eqb t d || (eqb t c || not (is_between a b t && is_between j k (f t))))
    each t p (inl e) =
        ap (λ r. r || (eqb t c || not (is_between a b t && is_between j k (with_exchanged f c d t)))) (eq-eqb t d e)
        ∙ sym (ap (λ r. r || (eqb t c || not (is_between a b t && is_between j k (f t)))) (eq-eqb t d e))
    each t (inl e) (inr q) =
        ap (λ r. eqb t d || (r || not (is_between a b t && is_between j k (with_exchanged f c d t)))) (eq-eqb t c e)
        ∙ sym (ap (λ r. eqb t d || (r || not (is_between a b t && is_between j k (f t)))) (eq-eqb t c e))
    each t (inr p) (inr q) =
        ap (λ r. eqb t d || (eqb t c || not (is_between a b t && is_between j k r))) (with_exchanged-other f c d t p q)

four_table : Table 10
four_table p1 p2 q1 q2 P1 P2 Q1 Q2 x y =
    implies (four p1 p2 q1 q2 && four P1 P2 Q1 Q2)
    (beq ((not (p1 && P1) && (not (p2 && P2) && x)) && (not (q1 && Q2) && (not (q2 && Q1) && y)))
    ((not (q1 && Q1) && (not (q2 && Q2) && y)) && (not (p1 && P2) && (not (p2 && P1) && x))))

four_holds : (p1 p2 q1 q2 P1 P2 Q1 Q2 x y : Bool) → four_table p1 p2 q1 q2 P1 P2 Q1 Q2 x y ≡ true
unfolding four_table
four_holds = same 10 four_table (λ p1 p2 q1 q2 P1 P2 Q1 Q2 x y. true) refl

-- the four numbers are different
pub record AreFourApart (a b c d : ℕ) : Type 0 where
  pub ab : a ≢ b
  pub ac : a ≢ c
  pub ad : a ≢ d
  pub bc : b ≢ c
  pub bd : b ≢ d
  pub cd : c ≢ d

-- two steps at four columns may be taken in either order
pub empty_apart : (n : ℕ) (f : ℕ → ℕ) (a b c d : ℕ) → a < n → b < n → c < n → d < n → AreFourApart a b c d
    → AreFourApart (f a) (f b) (f c) (f d)
    → (is_clear_of n f a b (f a) (f b) && is_clear_of n (with_exchanged f a b) c d (f c) (f d))
    ≡ (is_clear_of n f c d (f c) (f d) && is_clear_of n (with_exchanged f c d) a b (f a) (f b))
unfolding four_table
empty_apart n f a b c d la lb lc ld o r =
    ap₂ (λ x y. x && y)
    (split_two n f a b c d (f a) (f b) lc ld o.cd (λ e. o.ac (sym e)) (λ e. o.ad (sym e)) (λ e. r.ac (sym e))
    (λ e. r.ad (sym e)))
    (split_two n (with_exchanged f a b) c d a b (f c) (f d) la lb o.ab o.ac o.bc
    (λ e. r.bc (sym (with_exchanged-first f a b) ∙ e)) (λ e. r.ac (sym (with_exchanged-second f a b o.ab) ∙ e))
    ∙ (λ i. not (between c d a && between (f c) (f d) (with_exchanged-first f a b i))
    && (not (between c d b && between (f c) (f d) (with_exchanged-second f a b o.ab i))
    && rest_other n f c d a b (f c) (f d) i)))
    ∙ beq_same _ _ (given _ _ (and_from _ _ (four_hold a b c d o.ab o.ac o.ad o.bc o.bd o.cd)
    (four_hold (f a) (f b) (f c) (f d) r.ab r.ac r.ad r.bc r.bd r.cd))
    (four_holds (between a b c) (between a b d) (between c d a) (between c d b)
    (between (f a) (f b) (f c)) (between (f a) (f b) (f d)) (between (f c) (f d) (f a)) (between (f c) (f d) (f b))
    (rest n f a b c d (f a) (f b)) (rest n f c d a b (f c) (f d))))
    ∙ sym (ap₂ (λ x y. x && y)
    (split_two n f c d a b (f c) (f d) la lb o.ab o.ac o.bc r.ac r.bc)
    (split_two n (with_exchanged f c d) a b c d (f a) (f b) lc ld o.cd (λ e. o.ac (sym e)) (λ e. o.ad (sym e))
    (λ e. r.ad (sym (sym (with_exchanged-first f c d) ∙ e)))
    (λ e. r.ac (sym (sym (with_exchanged-second f c d o.cd) ∙ e)))
    ∙ (λ i. not (between a b c && between (f a) (f b) (with_exchanged-first f c d i))
    && (not (between a b d && between (f a) (f b) (with_exchanged-second f c d o.cd i))
    && rest_other n f a b c d (f a) (f b) i))))
