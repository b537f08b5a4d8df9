-- Two steps at three columns, one of them shared: the arcs into which three columns and their three
-- rows cut the two circles decide all. A test that goes over arcs is told by its value at the nine
-- pairs of arcs; with these the twelve terms of three columns cancel, by a table.
use Rattle.std.proofs.Common.{◌≡◌, ◌≢◌, ℕ, ◌<◌, Bool, true, false, not, ◌&&◌, ◌||◌, refl, ap, ap₂, ◌∙◌, sym, eqb, inl, inr, cond, subst}
use mathlib.Core.Path.{fun_ext}
use mathlib.Core.Logic.{◌⊎◌}
use Rattle.std.proofs.lemmas.Bool.{eq-eqb, ne_eqb, cases_eq}
use mathlib.Core.Bool.{beq}
use Rattle.f2_algebra.proofs.Chains.Tables.{◌⊻◌, Table, same}
use Rattle.rectangles.proofs.Square.CyclicOrder.{between, Place, first, second, third, next, span, order_of, AreApart, span_union, span_third}
use Rattle.rectangles.proofs.Square.ColumnTests.{all_below-split}
use Rattle.rectangles.proofs.Square.EmptyRectangles.{is_between-other, is_between-start, is_between-end, is_clear_of, free}
use Rattle.torus_geom.proofs.Sums.AllBelowLemmas.{all_below-same}
use Rattle.torus_geom.proofs.Circles.BetweenLemmas.{is_between}

-- a test of a range, from its value at the three arcs
abbrev pub along : Bool → Bool → Place → (Place → Bool) → Bool
along u s m h = cond (beq u s) (h m) (h (next m) && h (next (next m)))

-- a test of a range of columns and a range of rows, from its value at the nine pairs of arcs
abbrev pub value : Bool → Bool → (Place → Place → Bool) → Bool → Place → Bool → Place → Bool
value u v g s m s' m' = along u s m (λ x. along v s' m' (λ y. g x y))

-- and the third place is not in both ranges
abbrev pub rectangle_value : Bool → Bool → (Place → Place → Bool) → Bool → Place → Bool → Place → Bool
rectangle_value u v g s m s' m' = not (not (beq u s) && not (beq v s')) && value u v g s m s' m'

-- ---- the twelve terms cancel
-- one of the four terms at a shared place: the values of its two rectangles
abbrev pub shared_term : Bool → Bool → (Place → Place → Bool) → Place → Bool → Bool → Bool
shared_term u v g m s s' = rectangle_value u v g s m s m && rectangle_value u v g s' (next m) (not s') (next (next m))

-- the sum of the four terms
abbrev pub terms : Bool → Bool → (Place → Place → Bool) → Place → Bool
terms u v g m =
    (shared_term u v g m true true ⊻ shared_term u v g m true false)
    ⊻ (shared_term u v g m false true ⊻ shared_term u v g m false false)

-- a table of nine values as a function of two arcs
abbrev pub nine : Bool → Bool → Bool → Bool → Bool → Bool → Bool → Bool → Bool → Place → Place → Bool
nine a b c d e f g h i first first = a
nine a b c d e f g h i first second = b
nine a b c d e f g h i first third = c
nine a b c d e f g h i second first = d
nine a b c d e f g h i second second = e
nine a b c d e f g h i second third = f
nine a b c d e f g h i third first = g
nine a b c d e f g h i third second = h
nine a b c d e f g h i third third = i

terms_table : Bool → Bool → Table 9
terms_table u v a b c d e f g h i = let k = nine a b c d e f g h i in
    terms u v k first ⊻ (terms u v k second ⊻ terms u v k third)

terms_none : (u v a b c d e f g h i : Bool) → terms_table u v a b c d e f g h i ≡ false
unfolding terms_table
terms_none true true = same 9 (terms_table true true) (λ a b c d e f g h i. false) refl
terms_none true false = same 9 (terms_table true false) (λ a b c d e f g h i. false) refl
terms_none false true = same 9 (terms_table false true) (λ a b c d e f g h i. false) refl
terms_none false false = same 9 (terms_table false false) (λ a b c d e f g h i. false) refl

-- the terms of the three places cancel
pub terms_cancel : (u v : Bool) (g : Place → Place → Bool)
    → terms u v g first ⊻ (terms u v g second ⊻ terms u v g third) ≡ false
unfolding terms_table
terms_cancel u v g =
    terms_none u v (g first first) (g first second) (g first third) (g second first) (g second second) (g second third)
    (g third first) (g third second) (g third third)

-- ---- what goes by arcs
-- a test that two ranges end to end pass if both do
abbrev pub IsAdditive : ((ℕ → Bool) → Bool) → Type 0
IsAdditive h = (P Q : ℕ → Bool) → h (λ t. P t || Q t) ≡ (h P && h Q)

-- a test that goes over arcs, of a range between two of the numbers
pub along_is : (p : Place → ℕ) → AreApart p → (h : (ℕ → Bool) → Bool) → IsAdditive h → (s : Bool) (m : Place)
    → h (span p s m) ≡ along (order_of p) s m (λ x. h (span p (order_of p) x))
along_is p d h add s m = go (order_of p) s refl
  where
    go : (u s : Bool) → order_of p ≡ u → h (span p s m) ≡ along u s m (λ x. h (span p u x))
    go true true e = refl
    go false false e = refl
    go true false e =
        ap h (fun_ext (λ t. subst (λ (u : Bool). span p (not u) m t
        ≡ (span p u (next m) t || span p u (next (next m)) t)) e (span_union p d m t)))
        ∙ add (span p true (next m)) (span p true (next (next m)))
    go false true e =
        ap h (fun_ext (λ t. subst (λ (u : Bool). span p (not u) m t
        ≡ (span p u (next m) t || span p u (next (next m)) t)) e (span_union p d m t)))
        ∙ add (span p false (next m)) (span p false (next (next m)))

-- and of two ranges
pub value_is : (p q : Place → ℕ) → AreApart p → AreApart q → (h : (ℕ → Bool) → (ℕ → Bool) → Bool)
    → ((Q : ℕ → Bool) → IsAdditive (λ P. h P Q)) → ((P : ℕ → Bool) → IsAdditive (h P))
    → (s : Bool) (m : Place) (s' : Bool) (m' : Place)
    → h (span p s m) (span q s' m')
    ≡ value (order_of p) (order_of q) (λ x y. h (span p (order_of p) x) (span q (order_of q) y)) s m s' m'
value_is p q d r h cols rows s m s' m' =
    along_is p d (λ P. h P (span q s' m')) (cols (span q s' m')) s m
    ∙ ap (along (order_of p) s m) (fun_ext (λ x. along_is q r (h (span p (order_of p) x))
    (rows (span p (order_of p) x)) s' m'))

-- ---- emptiness beside three columns
-- where the range of a place begins, in either direction
abbrev pub start_of : (Place → ℕ) → Bool → Place → ℕ
start_of p s m = cond s (p m) (p (next m))

-- where it ends
abbrev pub end_of : (Place → ℕ) → Bool → Place → ℕ
end_of p s m = cond s (p (next m)) (p m)

-- it is the range between these
pub span_is : (p : Place → ℕ) (s : Bool) (m : Place) → between (start_of p s m) (end_of p s m) ≡ span p s m
span_is p true m = refl
span_is p false m = refl

-- t is one of the three
abbrev pub is_one_of_three : (Place → ℕ) → ℕ → Bool
is_one_of_three p t = eqb t (p first) || (eqb t (p second) || eqb t (p third))

empty-beside : (n : ℕ) (f g : ℕ → ℕ) (skip : ℕ → Bool) (a b c : ℕ) → c < n → c ≢ a → g c ≢ g a
    → ((t : ℕ) → skip t ≡ (eqb t a || (eqb t b || eqb t c)))
    → ((t : ℕ) → t < n → t ≢ a → t ≢ b → t ≢ c → (g t ≡ f t) × (f t ≢ g a))
    → is_clear_of n g a b (g a) (g b)
    ≡ (not (between a b c && between (g a) (g b) (g c)) && free n skip (between a b) (λ t. between (g a) (g b) (f t)))
empty-beside n f g skip a b c lc ca rc sk off =
    all_below-split n c (λ t. not (is_between a b t && is_between (g a) (g b) (g t))) lc
    ∙ ap₂ (λ x y. x && y)
    (λ i. not (is_between-other a b c ca i && is_between-other (g a) (g b) (g c) rc i))
    (all_below-same n (λ t. eqb t c || not (is_between a b t && is_between (g a) (g b) (g t)))
    (λ t. skip t || not (between a b t && between (g a) (g b) (f t)))
    (λ t l. each t l (cases_eq t a) (cases_eq t b) (cases_eq t c)
    ∙ ap (λ r. r || not (between a b t && between (g a) (g b) (f t))) (sym (sk t))))
  where
    each : (t : ℕ) → t < n → (t ≡ a) ⊎ (t ≢ a) → (t ≡ b) ⊎ (t ≢ b) → (t ≡ c) ⊎ (t ≢ c)
        → (eqb t c || not (is_between a b t && is_between (g a) (g b) (g t)))
        ≡ ((eqb t a || (eqb t b || eqb t c)) || not (between a b t && between (g a) (g b) (f t)))
    each t l (inl e) y z =
        ap (λ r. eqb t c || not (r && is_between (g a) (g b) (g t))) (ap (is_between a b) e ∙ is_between-start a b)
        ∙ same 1 (λ x. x || true) (λ x. true) refl (eqb t c)
        ∙ ap (λ r. (r || (eqb t b || eqb t c)) || not (between a b t && between (g a) (g b) (f t))) (sym (eq-eqb t a e))
    each t l (inr p) (inl e) z =
        ap (λ r. eqb t c || not (r && is_between (g a) (g b) (g t))) (ap (is_between a b) e ∙ is_between-end a b)
        ∙ same 3 (λ x y z. x || true) (λ x y z. (y || (true || x)) || z) refl (eqb t c) (eqb t a)
        (not (between a b t && between (g a) (g b) (f t)))
        ∙ ap (λ r. (eqb t a || (r || eqb t c)) || not (between a b t && between (g a) (g b) (f t))) (sym (eq-eqb t b e))
    each t l (inr p) (inr q) (inl e) =
        ap (λ r. r || not (is_between a b t && is_between (g a) (g b) (g t))) (eq-eqb t c e)
        ∙ same 3 (λ x y z. true) (λ x y z. (x || (y || true)) || z) refl (eqb t a) (eqb t b)
        (not (between a b t && between (g a) (g b) (f t)))
        ∙ ap (λ r. (eqb t a || (eqb t b || r)) || not (between a b t && between (g a) (g b) (f t))) (sym (eq-eqb t c e))
    each t l (inr p) (inr q) (inr r) =
        let o = off t l p q r in
        ap₂ (λ x y. x || not (is_between a b t && is_between (g a) (g b) y)) (ne_eqb t c r) o.0
        ∙ (λ i. not (is_between-other a b t p i && is_between-other (g a) (g b) (f t) o.1 i))
        ∙ sym (λ i. (ne_eqb t a p i || (ne_eqb t b q i || ne_eqb t c r i))
        || not (between a b t && between (g a) (g b) (f t)))

-- what holds at both ends of a range and at the third place holds at the three places
three_cases : (P : ℕ → Type 0) (p : Place → ℕ) (s : Bool) (m : Place) → P (start_of p s m) → P (end_of p s m)
    → P (p (next (next m))) → (x : Place) → P (p x)
three_cases P p true first a b c first = a
three_cases P p true first a b c second = b
three_cases P p true first a b c third = c
three_cases P p true second a b c first = c
three_cases P p true second a b c second = a
three_cases P p true second a b c third = b
three_cases P p true third a b c first = b
three_cases P p true third a b c second = c
three_cases P p true third a b c third = a
three_cases P p false first a b c first = b
three_cases P p false first a b c second = a
three_cases P p false first a b c third = c
three_cases P p false second a b c first = c
three_cases P p false second a b c second = b
three_cases P p false second a b c third = a
three_cases P p false third a b c first = a
three_cases P p false third a b c second = c
three_cases P p false third a b c third = b

is_one_of_three-by_span : (p : Place → ℕ) (s : Bool) (m : Place) (t : ℕ)
    → is_one_of_three p t ≡ (eqb t (start_of p s m) || (eqb t (end_of p s m) || eqb t (p (next (next m)))))
is_one_of_three-by_span p true first t = refl
is_one_of_three-by_span p true second t =
    same 3 (λ a b c. a || (b || c)) (λ a b c. b || (c || a)) refl (eqb t (p first)) (eqb t (p second)) (eqb t (p third))
is_one_of_three-by_span p true third t =
    same 3 (λ a b c. a || (b || c)) (λ a b c. c || (a || b)) refl (eqb t (p first)) (eqb t (p second)) (eqb t (p third))
is_one_of_three-by_span p false first t =
    same 3 (λ a b c. a || (b || c)) (λ a b c. b || (a || c)) refl (eqb t (p first)) (eqb t (p second)) (eqb t (p third))
is_one_of_three-by_span p false second t =
    same 3 (λ a b c. a || (b || c)) (λ a b c. c || (b || a)) refl (eqb t (p first)) (eqb t (p second)) (eqb t (p third))
is_one_of_three-by_span p false third t =
    same 3 (λ a b c. a || (b || c)) (λ a b c. a || (c || b)) refl (eqb t (p first)) (eqb t (p second)) (eqb t (p third))

-- the two are different
pub start_of-end_of : (p : Place → ℕ) → AreApart p → (s : Bool) (m : Place) → start_of p s m ≢ end_of p s m
start_of-end_of p d true first = d.ab
start_of-end_of p d true second = d.bc
start_of-end_of p d true third = d.ca
start_of-end_of p d false first = λ e. d.ab (sym e)
start_of-end_of p d false second = λ e. d.bc (sym e)
start_of-end_of p d false third = λ e. d.ca (sym e)

-- the third number is not the start
pub third-start_of : (p : Place → ℕ) → AreApart p → (s : Bool) (m : Place) → p (next (next m)) ≢ start_of p s m
third-start_of p d true first = d.ca
third-start_of p d true second = d.ab
third-start_of p d true third = d.bc
third-start_of p d false first = λ e. d.bc (sym e)
third-start_of p d false second = λ e. d.ca (sym e)
third-start_of p d false third = λ e. d.ab (sym e)

at_start : (P : ℕ → Type 0) (p : Place → ℕ) → ((x : Place) → P (p x)) → (s : Bool) (m : Place) → P (start_of p s m)
at_start P p h true m = h m
at_start P p h false m = h (next m)

-- whether a rectangle at two of the three columns is empty, by the columns beside them
pub empty_is : (n : ℕ) (f g : ℕ → ℕ) (p q : Place → ℕ) → AreApart p → AreApart q → ((x : Place) → p x < n)
    → ((t : ℕ) → t < n → ((x : Place) → t ≢ p x) → (g t ≡ f t) × ((x : Place) → f t ≢ q x))
    → (s : Bool) (m : Place) (s' : Bool) (m' : Place)
    → g (start_of p s m) ≡ start_of q s' m' → g (end_of p s m) ≡ end_of q s' m'
    → g (p (next (next m))) ≡ q (next (next m'))
    → is_clear_of n g (start_of p s m) (end_of p s m) (g (start_of p s m)) (g (end_of p s m))
    ≡ (not (not (beq (order_of p) s) && not (beq (order_of q) s'))
    && free n (is_one_of_three p) (span p s m) (λ t. span q s' m' (f t)))
empty_is n f g p q d r lt off s m s' m' e1 e2 e3 =
    empty-beside n f g (is_one_of_three p) (start_of p s m) (end_of p s m) (p (next (next m))) (lt (next (next m)))
    (third-start_of p d s m)
    (λ e. third-start_of q r s' m' (sym e3 ∙ e ∙ e1))
    (is_one_of_three-by_span p s m)
    (λ t l x y z. let o = off t l (three_cases (λ w. t ≢ w) p s m x y z) in
    (o.0, λ e. at_start (λ w. f t ≢ w) q o.1 s' m' (e ∙ e1)))
    ∙ (λ i. not (between (start_of p s m) (end_of p s m) (p (next (next m))) && between (e1 i) (e2 i) (e3 i))
    && free n (is_one_of_three p) (between (start_of p s m) (end_of p s m)) (λ t. between (e1 i) (e2 i) (f t)))
    ∙ (λ i. not (span_is p s m i (p (next (next m))) && span_is q s' m' i (q (next (next m'))))
    && free n (is_one_of_three p) (span_is p s m i) (λ t. span_is q s' m' i (f t)))
    ∙ (λ i. not (span_third p d s m i && span_third q r s' m' i)
    && free n (is_one_of_three p) (span p s m) (λ t. span q s' m' (f t)))
