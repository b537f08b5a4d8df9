-- Two steps on the way back at three columns cancel: if one of the columns is that of the moved circle, the terms
-- come in equal pairs, and elsewhere there is no term.
use Rattle.std.proofs.Common.{◌≡◌, ◌≢◌, ℕ, ◌<◌, Bool, true, false, not, ◌&&◌, ◌||◌, refl, ap, ap₂, ◌∙◌, sym, eqb, inl, inr}
use Rattle.std.proofs.lemmas.Bool.{eq-eqb, ne_eqb, cases_eq}
use Rattle.f2_algebra.proofs.Chains.Tables.{◌⊻◌, same}
use Rattle.rectangles.proofs.Square.TwoSteps.{differ, differ-true, three_differ, three_differ-next, at_three}
use Rattle.rectangles.proofs.Square.CyclicOrder.{between, Place, first, second, third, next, span, order_of, AreApart}
use Rattle.rectangles.proofs.Square.Exchanges.{exchanged_comm, exchanged_three, with_exchanged}
use Rattle.rectangles.proofs.Square.EmptyRectangles.{is_clear_of, free}
use Rattle.rectangles.proofs.Square.ThreeColumns.{end_of, rectangle_value, shared_term, start_of, start_of-end_of}
use Rattle.pentagon_map.proofs.ChainMap.PairedTerms.{weighted, weighted_cancel, pent, strip, has_corner}
use Rattle.pentagon_map.proofs.ChainMap.RowArcs.{IsIn, where_is, pent_is, above_of}
use Rattle.rectangles.proofs.Square.OpenRectangles.{three, is_open, marks, rows_of, rows_apart, arc_values, AreColumns, first_step-value, second_step-value, first_start, first_end, second_start, second_end}
use Rattle.state_rank.proofs.BijectionLemmas.{IsOneToOne}
use Rattle.rectangles.proofs.Square.SquareLemmas.{AreColumns-from}
use Rattle.pentagon_map.proofs.ChainMap.Pentagons.{corner_is, orig_rect, s-other}
use Rattle.hexagon_map.proofs.WayBack.RowFacts as F
use Rattle.hexagon_map.proofs.WayBack.RowFacts.{Order, hex_rows, at_first, but_second, but_third, Lies}
use Rattle.pentagon_map.proofs.Degrees.CountedFrom.{counted_from}
use Rattle.hexagon_map.proofs.WayBack.RowShapes as S
use Rattle.pentagon_map.proofs.ChainMap.PentagonTests.{AreSides, is_open_pentagon, lacks, lacks_add, two}
use Rattle.hexagon_map.proofs.WayBack.HexagonWeights.{up, arc_of, hex, hex_weight, is_right, is_left}
use Rattle.hexagon_map.proofs.WayBack.HexagonTables.{hex_paired}
use Rattle.hexagon_map.proofs.WayBack.Hexagons.{open_back, open_hexa, return_steps}

-- what each of the six ranges gives
record Six (w v : ℕ) (o : Order) (r l : Bool) (a x e : ℕ) : Type 0 where
  first : hex_rows w v r l a x ≡ at_first o r l
  second : hex_rows w v r l x e ≡ false
  third : hex_rows w v r l e a ≡ false
  not_first : hex_rows w v r l x a ≡ false
  not_second : hex_rows w v r l e x ≡ but_second o r l
  not_third : hex_rows w v r l a e ≡ but_third o r l

hex_at : (q : Place → ℕ) (V : Bool) (y : Place) (o : Order) (w v : ℕ) (r l : Bool)
    → Six w v o r l (start_of q V y) (end_of q V y) (end_of q V (up V y)) → (s : Bool) (m : Place)
    → hex_rows w v r l (start_of q s m) (end_of q s m) ≡ hex V y o s m r l
hex_at q true first o w v r l h true first = h.first
hex_at q true first o w v r l h true second = h.second
hex_at q true first o w v r l h true third = h.third
hex_at q true second o w v r l h true first = h.third
hex_at q true second o w v r l h true second = h.first
hex_at q true second o w v r l h true third = h.second
hex_at q true third o w v r l h true first = h.second
hex_at q true third o w v r l h true second = h.third
hex_at q true third o w v r l h true third = h.first
hex_at q true first o w v r l h false first = h.not_first
hex_at q true first o w v r l h false second = h.not_second
hex_at q true first o w v r l h false third = h.not_third
hex_at q true second o w v r l h false first = h.not_third
hex_at q true second o w v r l h false second = h.not_first
hex_at q true second o w v r l h false third = h.not_second
hex_at q true third o w v r l h false first = h.not_second
hex_at q true third o w v r l h false second = h.not_third
hex_at q true third o w v r l h false third = h.not_first
hex_at q false first o w v r l h true first = h.not_first
hex_at q false first o w v r l h true second = h.not_third
hex_at q false first o w v r l h true third = h.not_second
hex_at q false second o w v r l h true first = h.not_second
hex_at q false second o w v r l h true second = h.not_first
hex_at q false second o w v r l h true third = h.not_third
hex_at q false third o w v r l h true first = h.not_third
hex_at q false third o w v r l h true second = h.not_second
hex_at q false third o w v r l h true third = h.not_first
hex_at q false first o w v r l h false first = h.first
hex_at q false first o w v r l h false second = h.third
hex_at q false first o w v r l h false third = h.second
hex_at q false second o w v r l h false first = h.second
hex_at q false second o w v r l h false second = h.first
hex_at q false second o w v r l h false third = h.third
hex_at q false third o w v r l h false first = h.third
hex_at q false third o w v r l h false second = h.second
hex_at q false third o w v r l h false third = h.first

module _ (n r s w v : ℕ) (O X : ℕ → ℕ) (sd : AreSides n r s) (small : (c : ℕ) → c < n → (O c < n) × (X c < n))
    (lw : w < n) (lv : v < n) (vw : v ≢ w) (lacks_s : lacks O X s (above_of v w) ≡ true)
    (lacks_r : lacks O X r (above_of w v) ≡ true) where
  module _ (f : ℕ → ℕ) (one : IsOneToOne n f) (p : Place → ℕ) (d : AreColumns n p) (at0 : p first ≡ s) where
    abbrev rows : Place → ℕ
    rows = rows_of f p

    abbrev V : Bool
    V = order_of (rows_of f p)

    abbrev U : Bool
    U = order_of p

    apart : AreApart rows
    apart = rows_apart n f p one d

    rows_small : (t : Place) → rows t < n
    rows_small t = one.small (p t) (d.small t)

    here : (y : Place) × IsIn rows V w y
    here = where_is rows apart w

    placed : (o : Order) × Lies o (counted_from n (start_of rows V here.0) (end_of rows V here.0))
        (counted_from n (start_of rows V here.0) (end_of rows V (up V here.0)))
        (counted_from n (start_of rows V here.0) w)
        (counted_from n (start_of rows V here.0) v)
    placed = S.placed n r s w v O X small sd.r-lt sd.s-lt lw lv vw lacks_s lacks_r rows apart rows_small V refl here.0
        here.1.here

    back_in : IsIn rows V v (arc_of V here.0 placed.0)
    back_in = S.v_in n r s w v O X small sd.r-lt sd.s-lt lw lv vw lacks_s lacks_r rows apart rows_small V refl here.0
        here.1.here placed.0 placed.1

    abbrev no_left : Place → Bool
    no_left x = lacks O X r (span rows V x)

    abbrev no_right : Place → Bool
    no_right x = lacks O X s (span rows V x)

    abbrev cells : Place → Place → Bool
    cells = arc_values n O X f (two r s) p

    six : (R L : Bool) → Six w v placed.0 R L (start_of rows V here.0) (end_of rows V here.0)
        (end_of rows V (up V here.0))
    six R L =
        let A = S.arcs n rows apart rows_small V refl here.0 in
        let xe = S.x-e n r s w v O X small sd.r-lt sd.s-lt lw lv vw lacks_s lacks_r rows apart rows_small V refl
        here.0 here.1.here in
        let wx = S.w-x n r s w v O X small sd.r-lt sd.s-lt lw lv vw lacks_s lacks_r rows apart rows_small V refl
        here.0 here.1.here in
        let x0 = S.x_off n r s w v O X small sd.r-lt sd.s-lt lw lv vw lacks_s lacks_r rows apart rows_small V refl
        here.0 here.1.here in
        let a : ℕ = start_of rows V here.0 in
        let x : ℕ = end_of rows V here.0 in
        let e : ℕ = end_of rows V (up V here.0) in
        record {
          first = F.arc_first n a x e w v A.a_below A.x_below A.e_below lw lv xe wx x0 R L placed.0 placed.1;
          second = F.second n a x e w v A.a_below A.x_below A.e_below lw lv xe wx x0 R L placed.0 placed.1;
          third = F.third n a x e w v A.a_below A.x_below A.e_below lw lv xe wx x0 R L placed.0 placed.1;
          not_first = F.not_first n a x e w v A.a_below A.x_below A.e_below lw lv xe wx x0 R L placed.0 placed.1;
          not_second = F.not_second n a x e w v A.a_below A.x_below A.e_below lw lv xe wx x0 R L placed.0 placed.1;
          not_third = F.not_third n a x e w v A.a_below A.x_below A.e_below lw lv xe wx x0 R L placed.0 placed.1;
        }

    right_of : (sg : Bool) (m : Place) → eqb (end_of p sg m) s ≡ is_right m sg
    right_of true first = s-other n r s w O X sd f one p d at0 second (λ i. d.apart.ab (sym i))
    right_of false first = eq-eqb (p first) s at0
    right_of true second = s-other n r s w O X sd f one p d at0 third d.apart.ca
    right_of false second = s-other n r s w O X sd f one p d at0 second (λ i. d.apart.ab (sym i))
    right_of true third = eq-eqb (p first) s at0
    right_of false third = s-other n r s w O X sd f one p d at0 third d.apart.ca

    left_of : (sg : Bool) (m : Place) → eqb (start_of p sg m) s ≡ is_left m sg
    left_of true first = eq-eqb (p first) s at0
    left_of false first = s-other n r s w O X sd f one p d at0 second (λ i. d.apart.ab (sym i))
    left_of true second = s-other n r s w O X sd f one p d at0 second (λ i. d.apart.ab (sym i))
    left_of false second = s-other n r s w O X sd f one p d at0 third d.apart.ca
    left_of true third = s-other n r s w O X sd f one p d at0 third d.apart.ca
    left_of false third = eq-eqb (p first) s at0

    abbrev Fits : (ℕ → ℕ) → Bool → Place → Bool → Place → Type 0
    Fits g sg m s' m' =
        (is_clear_of n g (start_of p sg m) (end_of p sg m) (g (start_of p sg m)) (g (end_of p sg m))
        && free n (two r s) (between (start_of p sg m) (end_of p sg m))
        (marks O X (between (g (start_of p sg m)) (g (end_of p sg m)))))
        ≡ rectangle_value U V cells sg m s' m'

    -- a pentagon for the row z of the arc Y
    pent_rect : (z hc kc : ℕ) (Y : Place) → IsIn rows V z Y
        → (g : ℕ → ℕ) (sg : Bool) (m : Place) (s' : Bool) (m' : Place)
        → g (start_of p sg m) ≡ start_of rows s' m' → g (end_of p sg m) ≡ end_of rows s' m' → Fits g sg m s' m'
        → (differ (start_of p sg m) (end_of p sg m)
        && (is_clear_of n g (start_of p sg m) (end_of p sg m) (g (start_of p sg m)) (g (end_of p sg m))
        && ((eqb (start_of p sg m) s || eqb (end_of p sg m) s) && (between (g (start_of p sg m)) (g (end_of p sg m)) z
        && (free n (two r s) (between (start_of p sg m) (end_of p sg m))
        (marks O X (between (g (start_of p sg m)) (g (end_of p sg m))))
        && (lacks O X hc (between (g (start_of p sg m)) z) && lacks O X kc (above_of z (g (end_of p sg m)))))))))
        ≡ (rectangle_value U V cells sg m s' m'
        && (has_corner m && pent V Y (λ x. lacks O X kc (span rows V x)) (λ x. lacks O X hc (span rows V x))
        (lacks O X hc (between (start_of rows V Y) z)) (lacks O X kc (above_of z (end_of rows V Y))) s' m'))
    pent_rect z hc kc Y inn g sg m s' m' e1 e2 h =
        let em : Bool = is_clear_of n g (start_of p sg m) (end_of p sg m) (g (start_of p sg m)) (g (end_of p sg m)) in
        let fr : Bool = free n (two r s) (between (start_of p sg m) (end_of p sg m))
        (marks O X (between (g (start_of p sg m)) (g (end_of p sg m)))) in
        (λ i. differ-true (start_of p sg m) (end_of p sg m) (start_of-end_of p d.apart sg m) i
        && (em && (corner_is n r s w O X sd f one p d at0 sg m i
        && (between (e1 i) (e2 i) z
        && (fr && (lacks O X hc (between (e1 i) z) && lacks O X kc (above_of z (e2 i))))))))
        ∙ same 6 (λ a c b g x y. a && (c && (b && (g && (x && y)))))
        (λ a c b g x y. (a && g) && (c && (b && (x && y)))) refl
        em (has_corner m) (between (start_of rows s' m') (end_of rows s' m') z) fr
        (lacks O X hc (between (start_of rows s' m') z)) (lacks O X kc (above_of z (end_of rows s' m')))
        ∙ ap₂ (λ x y. x && (has_corner m && y)) h
        (pent_is (lacks O X hc) (lacks O X kc) (lacks_add O X hc) (lacks_add O X kc) z rows apart Y inn s' m')

    hexa_rect : (g : ℕ → ℕ) (sg : Bool) (m : Place) (s' : Bool) (m' : Place)
        → g (start_of p sg m) ≡ start_of rows s' m' → g (end_of p sg m) ≡ end_of rows s' m' → Fits g sg m s' m'
        → open_hexa n r s w v O X g (start_of p sg m) (end_of p sg m)
        ≡ (rectangle_value U V cells sg m s' m' && hex V here.0 placed.0 s' m' (is_right m sg) (is_left m sg))
    hexa_rect g sg m s' m' e1 e2 h =
        let em : Bool = is_clear_of n g (start_of p sg m) (end_of p sg m) (g (start_of p sg m)) (g (end_of p sg m)) in
        let fr : Bool = free n (two r s) (between (start_of p sg m) (end_of p sg m))
        (marks O X (between (g (start_of p sg m)) (g (end_of p sg m)))) in
        (λ i. differ-true (start_of p sg m) (end_of p sg m) (start_of-end_of p d.apart sg m) i
        && (em && (hex_rows w v (right_of sg m i) (left_of sg m i) (e1 i) (e2 i) && fr)))
        ∙ same 3 (λ a b c. a && (b && c)) (λ a b c. (a && c) && b) refl em
        (hex_rows w v (is_right m sg) (is_left m sg) (start_of rows s' m') (end_of rows s' m')) fr
        ∙ ap₂ (λ x y. x && y) h (hex_at rows V here.0 placed.0 w v (is_right m sg) (is_left m sg)
        (six (is_right m sg) (is_left m sg)) s' m')

    abbrev rm : Bool
    rm = lacks O X s (between (start_of rows V here.0) w)

    abbrev lp : Bool
    lp = lacks O X r (above_of w (end_of rows V here.0))

    abbrev lb : Bool
    lb = lacks O X r (between (start_of rows V (arc_of V here.0 placed.0)) v)

    abbrev rb : Bool
    rb = lacks O X s (above_of v (end_of rows V (arc_of V here.0 placed.0)))

    abbrev the_weight : Place → Bool → Bool → Bool
    the_weight = hex_weight U V here.0 placed.0 no_left no_right rm lp lb rb

    one_term : (m : Place) (s1 s2 : Bool) (t : Bool) → let g : ℕ → ℕ = with_exchanged f (p m) (p (next m)) in
        ((is_open_pentagon n r s w O X f (start_of p s1 m) (end_of p s1 m)
        && (open_back n r s w v O X g (start_of p s2 (next m)) (end_of p s2 (next m)) && t))
        ⊻ ((is_open n O X f (start_of p s1 m) (end_of p s1 m)
        && (open_hexa n r s w v O X g (start_of p s2 (next m)) (end_of p s2 (next m)) && t))
        ⊻ (open_hexa n r s w v O X f (start_of p s1 m) (end_of p s1 m)
        && (is_open n O X g (start_of p s2 (next m)) (end_of p s2 (next m)) && t))))
        ≡ ((shared_term U V cells m s1 s2 && the_weight m s1 s2) && t)
    one_term m s1 s2 t =
        let g : ℕ → ℕ = with_exchanged f (p m) (p (next m)) in
        let h1 = first_step-value n O X f (two r s) p one d s1 m in
        let h2 = second_step-value n O X f (two r s) p one d s2 m in
        let a1 = first_start f p s1 m in
        let b1 = first_end f p s1 m in
        let a2 = second_start n f p d m s2 in
        let b2 = second_end n f p d m s2 in
        (λ i. (pent_rect w s r here.0 here.1 f s1 m s1 m a1 b1 h1 i
        && (pent_rect v r s (arc_of V here.0 placed.0) back_in g s2 (next m) (not s2) (next (next m)) a2 b2 h2 i
        && t))
        ⊻ ((orig_rect n r s w O X sd f one p d at0 f s1 m s1 m a1 b1 h1 i
        && (hexa_rect g s2 (next m) (not s2) (next (next m)) a2 b2 h2 i && t))
        ⊻ (hexa_rect f s1 m s1 m a1 b1 h1 i
        && (orig_rect n r s w O X sd f one p d at0 g s2 (next m) (not s2) (next (next m)) a2 b2 h2 i && t))))
        ∙ same 9 (λ x c y z k1 l2 l1 k2 t. ((x && c) && ((y && z) && t))
        ⊻ (((x && k1) && ((y && l2) && t)) ⊻ ((x && l1) && ((y && k2) && t))))
        (λ x c y z k1 l2 l1 k2 t. ((x && y) && ((c && z) ⊻ ((k1 && l2) ⊻ (l1 && k2)))) && t) refl
        (rectangle_value U V cells s1 m s1 m) (has_corner m && pent V here.0 no_left no_right rm lp s1 m)
        (rectangle_value U V cells s2 (next m) (not s2) (next (next m)))
        (has_corner (next m) && pent V (arc_of V here.0 placed.0) no_right no_left lb rb (not s2) (next (next m)))
        (strip U V no_left no_right m s1 s1 m)
        (hex V here.0 placed.0 (not s2) (next (next m)) (is_right (next m) s2) (is_left (next m) s2))
        (hex V here.0 placed.0 s1 m (is_right m s1) (is_left m s1))
        (strip U V no_left no_right (next m) s2 (not s2) (next (next m))) t

  module _ (f : ℕ → ℕ) (one : IsOneToOne n f) (T : (ℕ → ℕ) → Bool) where
    abbrev ways : ℕ → ℕ → ℕ → ℕ → Bool
    ways = return_steps n r s w v O X f T

    three_is : (p : Place → ℕ) (d : AreColumns n p) (at0 : p first ≡ s) (m : Place)
        → at_three n ways (p m) (p (next m)) (p (next (next m)))
        ≡ (weighted (order_of p) (order_of (rows_of f p)) (arc_values n O X f (two r s) p) (the_weight f one p d at0)
        m && T (with_exchanged (with_exchanged f (p m) (p (next m))) (p (next m)) (p (next (next m)))))
    three_is p d at0 m =
        let a : ℕ = p m in
        let b : ℕ = p (next m) in
        let c : ℕ = p (next (next m)) in
        let g : ℕ → ℕ = with_exchanged f a b in
        let t : Bool = T (with_exchanged g b c) in
        let u : Bool = order_of p in
        let vv : Bool = order_of (rows_of f p) in
        let k : Place → Place → Bool = arc_values n O X f (two r s) p in
        let W : Place → Bool → Bool → Bool = the_weight f one p d at0 in
        let P : ℕ → ℕ → Bool = is_open_pentagon n r s w O X f in
        let Q : ℕ → ℕ → Bool = is_open n O X f in
        let H : ℕ → ℕ → Bool = open_hexa n r s w v O X f in
        let step : ℕ → ℕ → (ℕ → ℕ) → ℕ → ℕ → Bool → Bool =
        λ a b g c d t. (P a b && (open_back n r s w v O X g c d && t))
        ⊻ ((Q a b && (open_hexa n r s w v O X g c d && t)) ⊻ (H a b && (is_open n O X g c d && t))) in
        (λ i. (step a b g b c t ⊻ step a b g c b (T (exchanged_comm g c b i)))
        ⊻ (step b a (exchanged_comm f b a i) b c (T (with_exchanged (exchanged_comm f b a i) b c))
        ⊻ step b a (exchanged_comm f b a i) c b (T (with_exchanged (exchanged_comm f b a i) c b))))
        ∙ (λ i. (step a b g b c t ⊻ step a b g c b t)
        ⊻ (step b a g b c t ⊻ step b a g c b (T (exchanged_comm g c b i))))
        ∙ (λ i. (one_term f one p d at0 m true true t i ⊻ one_term f one p d at0 m true false t i)
        ⊻ (one_term f one p d at0 m false true t i ⊻ one_term f one p d at0 m false false t i))
        ∙ same 5 (λ x y z w t. ((x && t) ⊻ (y && t)) ⊻ ((z && t) ⊻ (w && t))) (λ x y z w t. ((x ⊻ y) ⊻ (z ⊻ w)) && t)
        refl
        (shared_term u vv k m true true && W m true true) (shared_term u vv k m true false && W m true false)
        (shared_term u vv k m false true && W m false true) (shared_term u vv k m false false && W m false false) t

    three_at : (p : Place → ℕ) (d : AreColumns n p) (at0 : p first ≡ s)
        → at_three n ways (p first) (p second) (p third)
        ⊻ (at_three n ways (p second) (p third) (p first)
        ⊻ at_three n ways (p third) (p first) (p second)) ≡ false
    three_at p d at0 =
        let a : ℕ = p first in
        let b : ℕ = p second in
        let c : ℕ = p third in
        let u : Bool = order_of p in
        let vv : Bool = order_of (rows_of f p) in
        let k : Place → Place → Bool = arc_values n O X f (two r s) p in
        let W : Place → Bool → Bool → Bool = the_weight f one p d at0 in
        let t : Bool = T (with_exchanged (with_exchanged f a b) b c) in
        let e1 : with_exchanged (with_exchanged f b c) c a ≡ with_exchanged (with_exchanged f a b) b c =
        sym (exchanged_three f a b c d.apart.ab d.apart.bc d.apart.ca) in
        let e2 : with_exchanged (with_exchanged f c a) a b ≡ with_exchanged (with_exchanged f a b) b c =
        exchanged_three f c a b d.apart.ca d.apart.ab d.apart.bc in
        let y = here f one p d at0 in
        let o = placed f one p d at0 in
        let shape = S.row_shape n r s w v O X small sd.r-lt sd.s-lt lw lv vw lacks_s lacks_r (rows_of f p)
        (apart f one p d at0) (rows_small f one p d at0) vv refl y.0 y.1.here o.0 o.1 in
        (λ i. three_is p d at0 first i ⊻ (three_is p d at0 second i ⊻ three_is p d at0 third i))
        ∙ (λ i. (weighted u vv k W first && t)
        ⊻ ((weighted u vv k W second && T (e1 i)) ⊻ (weighted u vv k W third && T (e2 i))))
        ∙ same 4 (λ x y z w. (x && w) ⊻ ((y && w) ⊻ (z && w))) (λ x y z w. (x ⊻ (y ⊻ z)) && w) refl
        (weighted u vv k W first) (weighted u vv k W second) (weighted u vv k W third) t
        ∙ ap (λ z. z && t) (weighted_cancel u vv k W
        (hex_paired u vv y.0 o.0 (no_left f one p d at0) (no_right f one p d at0) (rm f one p d at0)
        (lp f one p d at0) (lb f one p d at0) (rb f one p d at0) shape))

    -- if no place is s there is no pentagon and no hexagon
    no_penta : (g : ℕ → ℕ) (a b : ℕ) → a ≢ s → b ≢ s → is_open_pentagon n r s w O X g a b ≡ false
    no_penta g a b p q =
        (λ i. differ a b && (is_clear_of n g a b (g a) (g b) && ((ne_eqb a s p i || ne_eqb b s q i)
        && (between (g a) (g b) w
        && (free n (two r s) (between a b) (marks O X (between (g a) (g b)))
        && (lacks O X s (between (g a) w) && lacks O X r (above_of w (g b))))))))
        ∙ same 2 (λ x y. x && (y && false)) (λ x y. false) refl (differ a b) (is_clear_of n g a b (g a) (g b))

    no_hexa : (g : ℕ → ℕ) (a b : ℕ) → a ≢ s → b ≢ s → open_hexa n r s w v O X g a b ≡ false
    no_hexa g a b p q =
        (λ i. differ a b && (is_clear_of n g a b (g a) (g b)
        && (hex_rows w v (ne_eqb b s q i) (ne_eqb a s p i) (g a) (g b)
        && free n (two r s) (between a b) (marks O X (between (g a) (g b))))))
        ∙ same 2 (λ x y. x && (y && false)) (λ x y. false) refl (differ a b) (is_clear_of n g a b (g a) (g b))

    no_return : (a b c d : ℕ) → a ≢ s → b ≢ s → c ≢ s → d ≢ s → ways a b c d ≡ false
    no_return a b c d pa pb pc pd =
        let t : Bool = T (with_exchanged (with_exchanged f a b) c d) in
        (λ i. (no_penta f a b pa pb i && (open_back n r s w v O X (with_exchanged f a b) c d && t))
        ⊻ ((is_open n O X f a b && (no_hexa (with_exchanged f a b) c d pc pd i && t))
        ⊻ (no_hexa f a b pa pb i && (is_open n O X (with_exchanged f a b) c d && t))))
        ∙ same 1 (λ x. (x && false) ⊻ false) (λ x. false) refl (is_open n O X f a b)

    none_three : (a b c : ℕ) → a ≢ s → b ≢ s → c ≢ s → at_three n ways a b c ≡ false
    none_three a b c pa pb pc = λ i. (no_return a b b c pa pb pb pc i ⊻ no_return a b c b pa pb pc pb i)
        ⊻ (no_return b a b c pb pa pb pc i ⊻ no_return b a c b pb pa pc pb i)

    pub hexagons_at_three : (a b c : ℕ) → a < n → b < n → c < n → three_differ a b c ≡ true
        → at_three n ways a b c ⊻ (at_three n ways b c a ⊻ at_three n ways c a b) ≡ false
    hexagons_at_three a b c la lb lc h = elim (cases_eq a s) [
      | inl i ↦ three_at (three a b c) (AreColumns-from n a b c la lb lc h) i
      | inr pa ↦ elim (cases_eq b s) [
        | inl i ↦
            same 3 (λ x y z. x ⊻ (y ⊻ z)) (λ x y z. y ⊻ (z ⊻ x)) refl (at_three n ways a b c)
            (at_three n ways b c a) (at_three n ways c a b)
            ∙ three_at (three b c a) (AreColumns-from n b c a lb lc la (three_differ-next a b c ∙ h)) i
        | inr pb ↦ elim (cases_eq c s) [
          | inl i ↦
              same 3 (λ x y z. x ⊻ (y ⊻ z)) (λ x y z. z ⊻ (x ⊻ y)) refl (at_three n ways a b c)
              (at_three n ways b c a) (at_three n ways c a b)
              ∙ three_at (three c a b) (AreColumns-from n c a b lc la lb (sym (three_differ-next c a b) ∙ h)) i
          | inr pc ↦ λ i. none_three a b c pa pb pc i ⊻ (none_three b c a pb pc pa i ⊻ none_three c a b pc pa pb i)
        ]
      ]
    ]
