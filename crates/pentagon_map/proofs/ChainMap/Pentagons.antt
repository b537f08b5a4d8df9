-- The image of a chain under the exchange of two columns: a step by a pentagon and a step by a corner set, in either
-- order, lead to each state an even number of times.
use Rattle.std.proofs.Common.{Bool, ap, ap₂, eqb, false, not, refl, sym, true, ℕ, ◌&&◌, ◌||◌, ◌∙◌, ◌≡◌, ◌≢◌}
use Rattle.std.proofs.lemmas.Bool.{eq-eqb, ne_eqb}
use Rattle.f2_algebra.proofs.Chains.Tables.{same, ◌⊻◌}
use Rattle.state_rank.proofs.BijectionLemmas.{IsOneToOne}
use Rattle.rectangles.proofs.Square.CyclicOrder.{Place, between, between_end, between_start, first, next, order_of, second, span, span_third, third}
use Rattle.rectangles.proofs.Square.EmptyRectangles.{free, is_clear_of}
use Rattle.rectangles.proofs.Square.Exchanges.{with_exchanged}
use Rattle.rectangles.proofs.Square.OpenRectangles.{AreColumns, arc_values, first_end, first_start, first_step-value, is_open, marks, rows_apart, rows_of, second_end, second_start, second_step-value}
use Rattle.rectangles.proofs.Square.ThreeColumns.{along, along_is, end_of, rectangle_value, span_is, start_of, start_of-end_of, shared_term}
use Rattle.rectangles.proofs.Square.TwoSteps.{differ, differ-self, differ-true}
use Rattle.pentagon_map.proofs.ChainMap.PairedTerms.{has_corner, has_left, has_right, pair_weight, pent, strip}
use Rattle.pentagon_map.proofs.ChainMap.RowArcs.{IsIn, above_of, pent_is, where_is}
use Rattle.pentagon_map.proofs.ChainMap.PentagonTests.{AreSides, two, lacks, lacks_add}
use Rattle.pentagon_map.proofs.ChainMap.PentagonTests as tests

module _ (n r s w : ℕ) (O X : ℕ → ℕ) where
  abbrev O' : ℕ → ℕ
  O' = tests.O' n r s w O X

  abbrev X' : ℕ → ℕ
  X' = tests.X' n r s w O X

  abbrev penta : ℕ → ℕ → ℕ → ℕ → Bool
  penta = tests.penta n r s w O X

  abbrev is_open_pentagon : (ℕ → ℕ) → ℕ → ℕ → Bool
  is_open_pentagon = tests.is_open_pentagon n r s w O X

  abbrev sides : Bool → Bool → ℕ → ℕ → ℕ → ℕ → Bool
  sides = tests.sides n r s w O X

  module _ (e : AreSides n r s) (f : ℕ → ℕ) (one : IsOneToOne n f) (p : Place → ℕ) (d : AreColumns n p)
      (at0 : p first ≡ s) where
    pub right_is : (sg : Bool) (m : Place) → between (start_of p sg m) (end_of p sg m) s ≡ has_right (order_of p) m sg
    right_is true first = ap (between (p first) (p second)) (sym at0) ∙ between_start (p first) (p second) d.apart.ab
    right_is false first = ap (between (p second) (p first)) (sym at0) ∙ between_end (p second) (p first)
    right_is true third = ap (between (p third) (p first)) (sym at0) ∙ between_end (p third) (p first)
    right_is false third =
        ap (between (p first) (p third)) (sym at0) ∙ between_start (p first) (p third) (λ i. d.apart.ca (sym i))
    right_is true second = ap (between (p second) (p third)) (sym at0) ∙ span_third p d.apart true second
    right_is false second = ap (between (p third) (p second)) (sym at0) ∙ span_third p d.apart false second

    pub s-other : (x : Place) → p x ≢ p first → eqb (p x) s ≡ false
    s-other x q = ne_eqb (p x) s (λ i. q (i ∙ sym at0))

    pub left_is : (sg : Bool) (m : Place) → between (start_of p sg m) (end_of p sg m) r ≡ has_left (order_of p) m sg
    left_is true first =
        e.before (p first) (p second) (d.small first) (d.small second) d.apart.ab
        ∙ ap₂ (λ x y. (between (p first) (p second) s && x) || y)
        (ap (λ z. differ z (p first)) (sym at0) ∙ differ-self (p first)) (s-other second (λ i. d.apart.ab (sym i)))
        ∙ same 1 (λ x. (x && false) || false) (λ x. false) refl (between (p first) (p second) s)
    left_is false first =
        e.before (p second) (p first) (d.small second) (d.small first) (λ i. d.apart.ab (sym i))
        ∙ ap (λ y. (between (p second) (p first) s && differ s (p second)) || y) (eq-eqb (p first) s at0)
        ∙ same 1 (λ x. x || true) (λ x. true) refl (between (p second) (p first) s && differ s (p second))
    left_is true third =
        e.before (p third) (p first) (d.small third) (d.small first) d.apart.ca
        ∙ ap (λ y. (between (p third) (p first) s && differ s (p third)) || y) (eq-eqb (p first) s at0)
        ∙ same 1 (λ x. x || true) (λ x. true) refl (between (p third) (p first) s && differ s (p third))
    left_is false third =
        e.before (p first) (p third) (d.small first) (d.small third) (λ i. d.apart.ca (sym i))
        ∙ ap₂ (λ x y. (between (p first) (p third) s && x) || y)
        (ap (λ z. differ z (p first)) (sym at0) ∙ differ-self (p first)) (s-other third d.apart.ca)
        ∙ same 1 (λ x. (x && false) || false) (λ x. false) refl (between (p first) (p third) s)
    left_is true second =
        e.before (p second) (p third) (d.small second) (d.small third) d.apart.bc
        ∙ ap₂ (λ x y. (between (p second) (p third) s && x) || y) (differ-true s (p second) (λ i. d.apart.ab (at0 ∙ i)))
        (s-other third d.apart.ca)
        ∙ same 1 (λ x. (x && true) || false) (λ x. x) refl (between (p second) (p third) s)
        ∙ right_is true second
    left_is false second =
        e.before (p third) (p second) (d.small third) (d.small second) (λ i. d.apart.bc (sym i))
        ∙ ap₂ (λ x y. (between (p third) (p second) s && x) || y)
        (differ-true s (p third) (λ i. d.apart.ca (sym (at0 ∙ i)))) (s-other second (λ i. d.apart.ab (sym i)))
        ∙ same 1 (λ x. (x && true) || false) (λ x. x) refl (between (p third) (p second) s)
        ∙ right_is false second

    pub corner_is : (sg : Bool) (m : Place) → (eqb (start_of p sg m) s || eqb (end_of p sg m) s) ≡ has_corner m
    corner_is true first = ap (λ x. x || eqb (p second) s) (eq-eqb (p first) s at0)
    corner_is false first = ap (λ x. eqb (p second) s || x) (eq-eqb (p first) s at0)
        ∙ same 1 (λ x. x || true) (λ x. true) refl (eqb (p second) s)
    corner_is true second = ap₂ (λ x y. x || y) (s-other second (λ i. d.apart.ab (sym i))) (s-other third d.apart.ca)
    corner_is false second = ap₂ (λ x y. x || y) (s-other third d.apart.ca) (s-other second (λ i. d.apart.ab (sym i)))
    corner_is true third = ap (λ x. eqb (p third) s || x) (eq-eqb (p first) s at0)
        ∙ same 1 (λ x. x || true) (λ x. true) refl (eqb (p third) s)
    corner_is false third = ap (λ x. x || eqb (p third) s) (eq-eqb (p first) s at0)

    -- the arc that w is in, and what is asked of the arcs of rows
    pub place : (y : Place) × IsIn (rows_of f p) (order_of (rows_of f p)) w y
    place = where_is (rows_of f p) (rows_apart n f p one d) w

    abbrev pub no_left : Place → Bool
    no_left x = lacks O X r (span (rows_of f p) (order_of (rows_of f p)) x)

    abbrev pub no_right : Place → Bool
    no_right x = lacks O X s (span (rows_of f p) (order_of (rows_of f p)) x)

    pub low_part : Bool
    low_part = lacks O X s (between (start_of (rows_of f p) (order_of (rows_of f p)) place.0) w)

    pub high_part : Bool
    high_part = lacks O X r (above_of w (end_of (rows_of f p) (order_of (rows_of f p)) place.0))

    abbrev pub cells : Place → Place → Bool
    cells = arc_values n O X f (two r s) p

    abbrev pub the_pent : Bool → Place → Bool
    the_pent = pent (order_of (rows_of f p)) place.0 no_left no_right low_part high_part

    pub penta_rect : (g : ℕ → ℕ) (sg : Bool) (m : Place) (s' : Bool) (m' : Place)
        → g (start_of p sg m) ≡ start_of (rows_of f p) s' m' → g (end_of p sg m) ≡ end_of (rows_of f p) s' m'
        → (is_clear_of n g (start_of p sg m) (end_of p sg m) (g (start_of p sg m)) (g (end_of p sg m))
        && free n (two r s) (between (start_of p sg m) (end_of p sg m))
        (marks O X (between (g (start_of p sg m)) (g (end_of p sg m)))))
        ≡ rectangle_value (order_of p) (order_of (rows_of f p)) cells sg m s' m'
        → is_open_pentagon g (start_of p sg m) (end_of p sg m)
        ≡ (rectangle_value (order_of p) (order_of (rows_of f p)) cells sg m s' m' && (has_corner m && the_pent s' m'))
    unfolding low_part high_part
    penta_rect g sg m s' m' e1 e2 h =
        let q : Place → ℕ = rows_of f p in
        let em : Bool = is_clear_of n g (start_of p sg m) (end_of p sg m) (g (start_of p sg m)) (g (end_of p sg m)) in
        let fr : Bool =
        free n (two r s) (between (start_of p sg m) (end_of p sg m))
        (marks O X (between (g (start_of p sg m)) (g (end_of p sg m)))) in
        (λ i. differ-true (start_of p sg m) (end_of p sg m) (start_of-end_of p d.apart sg m) i
        && (em && (corner_is sg m i
        && (between (e1 i) (e2 i) w
        && (fr && (lacks O X s (between (e1 i) w) && lacks O X r (above_of w (e2 i))))))))
        ∙ same 6 (λ a c b g x y. a && (c && (b && (g && (x && y)))))
        (λ a c b g x y. (a && g) && (c && (b && (x && y)))) refl
        em (has_corner m) (between (start_of q s' m') (end_of q s' m') w) fr
        (lacks O X s (between (start_of q s' m') w)) (lacks O X r (above_of w (end_of q s' m')))
        ∙ ap₂ (λ x y. x && (has_corner m && y)) h
        (pent_is (lacks O X s) (lacks O X r) (lacks_add O X s) (lacks_add O X r) w q
        (rows_apart n f p one d) place.0 place.1 s' m')

    pub along_of : (c : ℕ) (g : ℕ → ℕ) (sg : Bool) (m : Place) (s' : Bool) (m' : Place)
        → g (start_of p sg m) ≡ start_of (rows_of f p) s' m' → g (end_of p sg m) ≡ end_of (rows_of f p) s' m'
        → lacks O X c (between (g (start_of p sg m)) (g (end_of p sg m)))
        ≡ along (order_of (rows_of f p)) s' m' (λ x. lacks O X c (span (rows_of f p) (order_of (rows_of f p)) x))
    along_of c g sg m s' m' e1 e2 =
        (λ i. lacks O X c (between (e1 i) (e2 i)))
        ∙ ap (lacks O X c) (span_is (rows_of f p) s' m')
        ∙ along_is (rows_of f p) (rows_apart n f p one d) (lacks O X c) (lacks_add O X c) s' m'

    sides_rect : (cl cr : ℕ) (g : ℕ → ℕ) (sg : Bool) (m : Place) (s' : Bool) (m' : Place)
        → g (start_of p sg m) ≡ start_of (rows_of f p) s' m' → g (end_of p sg m) ≡ end_of (rows_of f p) s' m'
        → (is_clear_of n g (start_of p sg m) (end_of p sg m) (g (start_of p sg m)) (g (end_of p sg m))
        && free n (two r s) (between (start_of p sg m) (end_of p sg m))
        (marks O X (between (g (start_of p sg m)) (g (end_of p sg m)))))
        ≡ rectangle_value (order_of p) (order_of (rows_of f p)) cells sg m s' m'
        → (differ (start_of p sg m) (end_of p sg m)
        && (is_clear_of n g (start_of p sg m) (end_of p sg m) (g (start_of p sg m)) (g (end_of p sg m))
        && sides (lacks O X cl (between (g (start_of p sg m)) (g (end_of p sg m))))
        (lacks O X cr (between (g (start_of p sg m)) (g (end_of p sg m)))) (start_of p sg m) (end_of p sg m)
        (g (start_of p sg m)) (g (end_of p sg m))))
        ≡ (rectangle_value (order_of p) (order_of (rows_of f p)) cells sg m s' m'
        && strip (order_of p) (order_of (rows_of f p))
        (λ x. lacks O X cl (span (rows_of f p) (order_of (rows_of f p)) x))
        (λ x. lacks O X cr (span (rows_of f p) (order_of (rows_of f p)) x)) m sg s' m')
    sides_rect cl cr g sg m s' m' e1 e2 h =
        let em : Bool = is_clear_of n g (start_of p sg m) (end_of p sg m) (g (start_of p sg m)) (g (end_of p sg m)) in
        let fr : Bool =
        free n (two r s) (between (start_of p sg m) (end_of p sg m))
        (marks O X (between (g (start_of p sg m)) (g (end_of p sg m)))) in
        (λ i. differ-true (start_of p sg m) (end_of p sg m) (start_of-end_of p d.apart sg m) i && (em
        && (not (right_is sg m i && not (along_of cr g sg m s' m' e1 e2 i))
        && (not (left_is sg m i && not (along_of cl g sg m s' m' e1 e2 i)) && fr))))
        ∙ same 4 (λ a x y g. a && (x && (y && g))) (λ a x y g. (a && g) && (x && y)) refl em
        (not (has_right (order_of p) m sg
        && not (along (order_of (rows_of f p)) s' m'
        (λ x. lacks O X cr (span (rows_of f p) (order_of (rows_of f p)) x)))))
        (not (has_left (order_of p) m sg
        && not (along (order_of (rows_of f p)) s' m'
        (λ x. lacks O X cl (span (rows_of f p) (order_of (rows_of f p)) x))))) fr
        ∙ ap (λ x. x
        && strip (order_of p) (order_of (rows_of f p))
        (λ x. lacks O X cl (span (rows_of f p) (order_of (rows_of f p)) x))
        (λ x. lacks O X cr (span (rows_of f p) (order_of (rows_of f p)) x)) m sg s' m') h

    pub orig_rect : (g : ℕ → ℕ) (sg : Bool) (m : Place) (s' : Bool) (m' : Place)
        → g (start_of p sg m) ≡ start_of (rows_of f p) s' m' → g (end_of p sg m) ≡ end_of (rows_of f p) s' m'
        → (is_clear_of n g (start_of p sg m) (end_of p sg m) (g (start_of p sg m)) (g (end_of p sg m))
        && free n (two r s) (between (start_of p sg m) (end_of p sg m))
        (marks O X (between (g (start_of p sg m)) (g (end_of p sg m)))))
        ≡ rectangle_value (order_of p) (order_of (rows_of f p)) cells sg m s' m'
        → is_open n O X g (start_of p sg m) (end_of p sg m)
        ≡ (rectangle_value (order_of p) (order_of (rows_of f p)) cells sg m s' m'
        && strip (order_of p) (order_of (rows_of f p)) no_left no_right m sg s' m')
    orig_rect g sg m s' m' e1 e2 h =
        ap (λ x. differ (start_of p sg m) (end_of p sg m)
        && (is_clear_of n g (start_of p sg m) (end_of p sg m) (g (start_of p sg m)) (g (end_of p sg m)) && x))
        (tests.unmarked_is n r s w O X e (start_of p sg m) (end_of p sg m) (g (start_of p sg m)) (g (end_of p sg m)))
        ∙ sides_rect r s g sg m s' m' e1 e2 h

    exch_rect : (g : ℕ → ℕ) (sg : Bool) (m : Place) (s' : Bool) (m' : Place)
        → g (start_of p sg m) ≡ start_of (rows_of f p) s' m' → g (end_of p sg m) ≡ end_of (rows_of f p) s' m'
        → (is_clear_of n g (start_of p sg m) (end_of p sg m) (g (start_of p sg m)) (g (end_of p sg m))
        && free n (two r s) (between (start_of p sg m) (end_of p sg m))
        (marks O X (between (g (start_of p sg m)) (g (end_of p sg m)))))
        ≡ rectangle_value (order_of p) (order_of (rows_of f p)) cells sg m s' m'
        → is_open n O' X' g (start_of p sg m) (end_of p sg m)
        ≡ (rectangle_value (order_of p) (order_of (rows_of f p)) cells sg m s' m'
        && strip (order_of p) (order_of (rows_of f p)) no_right no_left m sg s' m')
    exch_rect g sg m s' m' e1 e2 h =
        ap (λ x. differ (start_of p sg m) (end_of p sg m)
        && (is_clear_of n g (start_of p sg m) (end_of p sg m) (g (start_of p sg m)) (g (end_of p sg m)) && x))
        (tests.exchanged_is n r s w O X e (start_of p sg m) (end_of p sg m) (g (start_of p sg m)) (g (end_of p sg m)))
        ∙ sides_rect s r g sg m s' m' e1 e2 h

    unfoldable pub the_weight : Place → Bool → Bool → Bool
    the_weight = pair_weight (order_of p) (order_of (rows_of f p)) place.0 no_left no_right low_part high_part

    pub one_term : (m : Place) (s1 s2 : Bool) (t : Bool) → let g : ℕ → ℕ = with_exchanged f (p m) (p (next m)) in
        ((is_open_pentagon f (start_of p s1 m) (end_of p s1 m)
        && (is_open n O' X' g (start_of p s2 (next m)) (end_of p s2 (next m)) && t))
        ⊻ (is_open n O X f (start_of p s1 m) (end_of p s1 m)
        && (is_open_pentagon g (start_of p s2 (next m)) (end_of p s2 (next m)) && t)))
        ≡ ((shared_term (order_of p) (order_of (rows_of f p)) cells m s1 s2 && the_weight m s1 s2) && t)
    unfolding the_weight
    one_term m s1 s2 t =
        let g : ℕ → ℕ = with_exchanged f (p m) (p (next m)) in
        let q : Place → ℕ = rows_of f p in
        let h1 = first_step-value n O X f (two r s) p one d s1 m in
        let h2 = second_step-value n O X f (two r s) p one d s2 m in
        let a1 = first_start f p s1 m in
        let b1 = first_end f p s1 m in
        let a2 = second_start n f p d m s2 in
        let b2 = second_end n f p d m s2 in
        (λ i. (penta_rect f s1 m s1 m a1 b1 h1 i && (exch_rect g s2 (next m) (not s2) (next (next m)) a2 b2 h2 i && t))
        ⊻ (orig_rect f s1 m s1 m a1 b1 h1 i && (penta_rect g s2 (next m) (not s2) (next (next m)) a2 b2 h2 i && t)))
        ∙ same 7 (λ x c y z o k t. ((x && c) && ((y && z) && t)) ⊻ ((x && o) && ((y && k) && t)))
        (λ x c y z o k t. ((x && y) && ((c && z) ⊻ (o && k))) && t) refl
        (rectangle_value (order_of p) (order_of q) cells s1 m s1 m) (has_corner m && the_pent s1 m)
        (rectangle_value (order_of p) (order_of q) cells s2 (next m) (not s2) (next (next m)))
        (strip (order_of p) (order_of q) no_right no_left (next m) s2 (not s2) (next (next m)))
        (strip (order_of p) (order_of q) no_left no_right m s1 s1 m)
        (has_corner (next m) && the_pent (not s2) (next (next m))) t
