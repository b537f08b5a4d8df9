-- Two border steps in a row lead to each state an even number of times. At four columns they may be
-- taken in either order; at three columns the region is cut in two ways; at two columns the two
-- rectangles make an annulus, which holds a mark.
use Rattle.std.proofs.Common.{◌≡◌, ℕ, ◌<◌, Bool, true, false, not, ◌&&◌, refl, ap, ap₂, ◌∙◌, sym, inl, inr}
use Rattle.std.proofs.lemmas.Bool.{cases_eq, and_parts}
use Rattle.f2_algebra.proofs.Chains.Tables.{◌⊻◌, same, and-false}
use Rattle.state_rank.proofs.BijectionLemmas.{IsOneToOne}
use Rattle.f2_algebra.proofs.Chains.ParityLemmas.{parity_below, parity_below-none}
use Rattle.rectangles.proofs.Square.TwoSteps.{differ, differ-true, differ-self, differ_apart, three_differ, four_differ, over_two_steps, at_three, at_two, steps_cancel}
use Rattle.rectangles.proofs.Square.CyclicOrder.{Place, first, second, third, next, order_of}
use Rattle.rectangles.proofs.Square.Exchanges.{with_exchanged, with_exchanged-first, with_exchanged-second, with_exchanged-other, exchanged_comm, exchanged_apart, exchanged_three}
use Rattle.rectangles.proofs.Square.EmptyRectangles.{is_clear_of, empty_apart, AreFourApart}
use Rattle.rectangles.proofs.Square.ThreeColumns.{rectangle_value, terms, terms_cancel, start_of, end_of, start_of-end_of}
use Rattle.rectangles.proofs.Square.OpenRectangles.{three, is_open, unmarked, no_column, no_row, rows_of, arc_values, AreColumns, first_step-value, second_step-value}

-- four columns that the test finds different are so
pub AreFourApart-from : (a b c d : ℕ) → four_differ a b c d ≡ true → AreFourApart a b c d
AreFourApart-from a b c d h =
    let x = and_parts (differ a b) _ h in
    let y = and_parts (differ c d) _ x.1 in
    let z = and_parts (differ c a && differ c b) (differ d a && differ d b) y.1 in
    let u = and_parts (differ c a) (differ c b) z.0 in
    let v = and_parts (differ d a) (differ d b) z.1 in
    record {
      ab = differ_apart a b x.0;
      ac = λ e. differ_apart c a u.0 (sym e);
      ad = λ e. differ_apart d a v.0 (sym e);
      bc = λ e. differ_apart c b u.1 (sym e);
      bd = λ e. differ_apart d b v.1 (sym e);
      cd = differ_apart c d y.0;
    }

-- the rows of four different columns are different
pub AreFourApart-rows : (n : ℕ) (f : ℕ → ℕ) → IsOneToOne n f → (a b c d : ℕ) → a < n → b < n → c < n → d < n
    → AreFourApart a b c d → AreFourApart (f a) (f b) (f c) (f d)
AreFourApart-rows n f one a b c d la lb lc ld o = record {
  ab = one.apart a b la lb o.ab;
  ac = one.apart a c la lc o.ac;
  ad = one.apart a d la ld o.ad;
  bc = one.apart b c lb lc o.bc;
  bd = one.apart b d lb ld o.bd;
  cd = one.apart c d lc ld o.cd;
}

-- three columns that the test finds different are so
pub AreColumns-from : (n a b c : ℕ) → a < n → b < n → c < n → three_differ a b c ≡ true → AreColumns n (three a b c)
AreColumns-from n a b c la lb lc h =
    let x = and_parts (differ a b) _ h in
    let y = and_parts (differ b c) (differ c a) x.1 in
    record {
      apart = record { ab = differ_apart a b x.0; bc = differ_apart b c y.0; ca = differ_apart c a y.1 };
      small = elim [ first ↦ la | second ↦ lb | third ↦ lc ];
    }

module _ (n : ℕ) (O X : ℕ → ℕ) (f : ℕ → ℕ) (T : (ℕ → ℕ) → Bool) where
  -- two steps from f to a state that T passes
  abbrev pub two_steps : ℕ → ℕ → ℕ → ℕ → Bool
  two_steps a b c d =
      is_open n O X f a b && (is_open n O X (with_exchanged f a b) c d && T (with_exchanged (with_exchanged f a b) c d))

  module _ (onto : (r : ℕ) → r < n → (c : ℕ) × (c < n) × (O c ≡ r)) (one : IsOneToOne n f) where
    first_is : (p : Place → ℕ) → AreColumns n p → (s : Bool) (m : Place)
        → is_open n O X f (start_of p s m) (end_of p s m)
        ≡ rectangle_value (order_of p) (order_of (rows_of f p)) (arc_values n O X f (λ t. false) p) s m s m
    first_is p d s m =
        ap₂ (λ x y. x && y) (differ-true _ _ (start_of-end_of p d.apart s m))
        (first_step-value n O X f (λ t. false) p one d s m)

    second_is : (p : Place → ℕ) → AreColumns n p → (s : Bool) (m : Place)
        → is_open n O X (with_exchanged f (p m) (p (next m))) (start_of p s (next m)) (end_of p s (next m))
        ≡ rectangle_value (order_of p) (order_of (rows_of f p)) (arc_values n O X f (λ t. false) p) s (next m) (not s)
        (next (next m))
    second_is p d s m =
        ap₂ (λ x y. x && y) (differ-true _ _ (start_of-end_of p d.apart s (next m)))
        (second_step-value n O X f (λ t. false) p one d s m)

    three_is : (p : Place → ℕ) → AreColumns n p → (m : Place)
        → at_three n two_steps (p m) (p (next m)) (p (next (next m)))
        ≡ (terms (order_of p) (order_of (rows_of f p)) (arc_values n O X f (λ t. false) p) m
        && T (with_exchanged (with_exchanged f (p m) (p (next m))) (p (next m)) (p (next (next m)))))
    three_is p d m =
        let a : ℕ = p m in
        let b : ℕ = p (next m) in
        let c : ℕ = p (next (next m)) in
        let g : ℕ → ℕ = with_exchanged f a b in
        let w : Bool = T (with_exchanged g b c) in
        let u : Bool = order_of p in
        let v : Bool = order_of (rows_of f p) in
        let k : Place → Place → Bool = arc_values n O X f (λ t. false) p in
        (λ i. ((is_open n O X f a b && (is_open n O X g b c && w))
        ⊻ (is_open n O X f a b && (is_open n O X g c b && T (exchanged_comm g c b i))))
        ⊻ ((is_open n O X f b a
        && (is_open n O X (exchanged_comm f b a i) b c && T (with_exchanged (exchanged_comm f b a i) b c)))
        ⊻ (is_open n O X f b a
        && (is_open n O X (exchanged_comm f b a i) c b && T (with_exchanged (exchanged_comm f b a i) c b)))))
        ∙ ap (λ (y : Bool). ((is_open n O X f a b && (is_open n O X g b c && w))
        ⊻ (is_open n O X f a b && (is_open n O X g c b && w)))
        ⊻ ((is_open n O X f b a && (is_open n O X g b c && w)) ⊻ (is_open n O X f b a && (is_open n O X g c b && y))))
        (ap T (exchanged_comm g c b))
        ∙ (λ i. ((first_is p d true m i && (second_is p d true m i && w))
        ⊻ (first_is p d true m i && (second_is p d false m i && w)))
        ⊻ ((first_is p d false m i && (second_is p d true m i && w))
        ⊻ (first_is p d false m i && (second_is p d false m i && w))))
        ∙ same 5 (λ x y z t w. ((x && (z && w)) ⊻ (x && (t && w))) ⊻ ((y && (z && w)) ⊻ (y && (t && w))))
        (λ x y z t w. ((x && z ⊻ (x && t)) ⊻ ((y && z) ⊻ (y && t))) && w) refl
        (rectangle_value u v k true m true m) (rectangle_value u v k false m false m)
        (rectangle_value u v k true (next m) false (next (next m)))
        (rectangle_value u v k false (next m) true (next (next m))) w

    three_none : (a b c : ℕ) → a < n → b < n → c < n → three_differ a b c ≡ true
        → at_three n two_steps a b c ⊻ (at_three n two_steps b c a ⊻ at_three n two_steps c a b) ≡ false
    three_none a b c la lb lc h =
        let p : Place → ℕ = three a b c in
        let d = AreColumns-from n a b c la lb lc h in
        let q : Place → ℕ = rows_of f p in
        let k : Place → Place → Bool = arc_values n O X f (λ t. false) p in
        let w : Bool = T (with_exchanged (with_exchanged f a b) b c) in
        let e1 : with_exchanged (with_exchanged f b c) c a ≡ with_exchanged (with_exchanged f a b) b c =
        sym (exchanged_three f a b c d.apart.ab d.apart.bc d.apart.ca) in
        let e2 : with_exchanged (with_exchanged f c a) a b ≡ with_exchanged (with_exchanged f a b) b c =
        exchanged_three f c a b d.apart.ca d.apart.ab d.apart.bc in
        (λ i. three_is p d first i ⊻ (three_is p d second i ⊻ three_is p d third i))
        ∙ (λ i. (terms (order_of p) (order_of q) k first && w)
        ⊻ ((terms (order_of p) (order_of q) k second && T (e1 i))
        ⊻ (terms (order_of p) (order_of q) k third && T (e2 i))))
        ∙ same 4 (λ x y z w. (x && w) ⊻ ((y && w) ⊻ (z && w))) (λ x y z w. (x ⊻ (y ⊻ z)) && w) refl
        (terms (order_of p) (order_of q) k first) (terms (order_of p) (order_of q) k second)
        (terms (order_of p) (order_of q) k third) w
        ∙ ap (λ r. r && w) (terms_cancel (order_of p) (order_of q) k)

    four_none : (a b c d : ℕ) → a < n → b < n → c < n → d < n → four_differ a b c d ≡ true
        → two_steps a b c d ≡ two_steps c d a b
    four_none a b c d la lb lc ld h =
        let o = AreFourApart-from a b c d h in
        let g : ℕ → ℕ = with_exchanged f a b in
        let k : ℕ → ℕ = with_exchanged f c d in
        let gc : g c ≡ f c = with_exchanged-other f a b c (λ e. o.ac (sym e)) (λ e. o.bc (sym e)) in
        let gd : g d ≡ f d = with_exchanged-other f a b d (λ e. o.ad (sym e)) (λ e. o.bd (sym e)) in
        let ka : k a ≡ f a = with_exchanged-other f c d a o.ac o.ad in
        let kb : k b ≡ f b = with_exchanged-other f c d b o.bc o.bd in
        let ab : Bool = differ a b in
        let cd : Bool = differ c d in
        let ub : Bool = unmarked n O X a b (f a) (f b) in
        let ud : Bool = unmarked n O X c d (f c) (f d) in
        let w : Bool = T (with_exchanged g c d) in
        (λ i. (ab && (is_clear_of n f a b (f a) (f b) && ub))
        && ((cd && (is_clear_of n g c d (gc i) (gd i) && unmarked n O X c d (gc i) (gd i))) && w))
        ∙ same 7 (λ p x u q y v w. (p && (x && u)) && ((q && (y && v)) && w))
        (λ p x u q y v w. (x && y) && ((p && (q && (u && v))) && w)) refl
        ab (is_clear_of n f a b (f a) (f b)) ub cd (is_clear_of n g c d (f c) (f d)) ud w
        ∙ ap₂ (λ x y. x && ((ab && (cd && (ub && ud))) && y))
        (empty_apart n f a b c d la lb lc ld o (AreFourApart-rows n f one a b c d la lb lc ld o))
        (ap T (exchanged_apart f a b c d o.ac o.ad o.bc o.bd))
        ∙ same 7 (λ p x u q y v w. (y && x) && ((p && (q && (u && v))) && w))
        (λ p x u q y v w. (q && (y && v)) && ((p && (x && u)) && w)) refl
        ab (is_clear_of n k a b (f a) (f b)) ub cd (is_clear_of n f c d (f c) (f d)) ud (T (with_exchanged k a b))
        ∙ sym (λ i. (cd && (is_clear_of n f c d (f c) (f d) && ud))
        && ((ab && (is_clear_of n k a b (ka i) (kb i) && unmarked n O X a b (ka i) (kb i)))
        && T (with_exchanged k a b)))

    two_none : (a b : ℕ) → a < n → b < n → at_two n two_steps a b ≡ false
    two_none a b la lb = elim (cases_eq a b) [
      | inl e ↦ ap (λ r. r && (two_steps a b a b ⊻ two_steps a b b a)) (ap (λ r. differ r b) e ∙ differ-self b)
      | inr p ↦
          let g : ℕ → ℕ = with_exchanged f a b in
          let ga : g a ≡ f b = with_exchanged-first f a b in
          let gb : g b ≡ f a = with_exchanged-second f a b p in
          let rows = one.apart a b la lb p in
          let ub : Bool = unmarked n O X a b (f a) (f b) in
          let o = onto (f a) (one.small a la) in
          (λ i. differ a b
          && (((differ a b && (is_clear_of n f a b (f a) (f b) && ub))
          && ((differ a b && (is_clear_of n g a b (g a) (g b) && unmarked n O X a b (ga i) (gb i)))
          && T (with_exchanged g a b)))
          ⊻ ((differ a b && (is_clear_of n f a b (f a) (f b) && ub))
          && ((differ b a && (is_clear_of n g b a (g b) (g a) && unmarked n O X b a (gb i) (ga i)))
          && T (with_exchanged g b a)))))
          ∙ same 7 (λ ab x u y v w p. ab && (((ab && (x && u)) && ((ab && (y && v)) && w)) ⊻ p))
          (λ ab x u y v w p. ab && (((ab && (x && (ab && (y && w)))) && (u && v)) ⊻ p)) refl
          (differ a b) (is_clear_of n f a b (f a) (f b)) ub (is_clear_of n g a b (g a) (g b))
          (unmarked n O X a b (f b) (f a)) (T (with_exchanged g a b))
          ((differ a b && (is_clear_of n f a b (f a) (f b) && ub))
          && ((differ b a && (is_clear_of n g b a (g b) (g a) && unmarked n O X b a (f a) (f b)))
          && T (with_exchanged g b a)))
          ∙ ap (λ r. differ a b
          && (((differ a b
          && (is_clear_of n f a b (f a) (f b)
          && (differ a b && (is_clear_of n g a b (g a) (g b) && T (with_exchanged g a b))))) && r)
          ⊻ ((differ a b && (is_clear_of n f a b (f a) (f b) && ub))
          && ((differ b a && (is_clear_of n g b a (g b) (g a) && unmarked n O X b a (f a) (f b)))
          && T (with_exchanged g b a)))))
          (no_column n O X a b (f a) (f b) la p rows)
          ∙ same 8 (λ ab z x u ba y v w. ab && ((z && false) ⊻ ((ab && (x && u)) && ((ba && (y && v)) && w))))
          (λ ab z x u ba y v w. (ab && (x && (ba && (y && w)))) && (u && v)) refl
          (differ a b) (differ a b && (is_clear_of n f a b (f a) (f b)
          && (differ a b && (is_clear_of n g a b (g a) (g b) && T (with_exchanged g a b)))))
          (is_clear_of n f a b (f a) (f b)) ub (differ b a) (is_clear_of n g b a (g b) (g a))
          (unmarked n O X b a (f a) (f b)) (T (with_exchanged g b a))
          ∙ ap (λ r. (differ a b && (is_clear_of n f a b (f a) (f b)
          && (differ b a && (is_clear_of n g b a (g b) (g a) && T (with_exchanged g b a))))) && r)
          (no_row n O X a b (f a) (f b) o.0 o.1 o.2 p rows)
          ∙ and-false _
    ]

    -- the sum over two steps vanishes
    pub twice_none : over_two_steps n two_steps ≡ false
    twice_none =
        steps_cancel n two_steps
        (λ a c d. ap (λ r. (r && (is_clear_of n f a a (f a) (f a) && unmarked n O X a a (f a) (f a)))
        && (is_open n O X (with_exchanged f a a) c d && T (with_exchanged (with_exchanged f a a) c d))) (differ-self a))
        (λ a b c. let g : ℕ → ℕ = with_exchanged f a b in
        ap (λ r. is_open n O X f a b
        && ((r && (is_clear_of n g c c (g c) (g c) && unmarked n O X c c (g c) (g c))) && T (with_exchanged g c c)))
        (differ-self c) ∙ and-false _)
        four_none three_none
        (parity_below-none n (λ a. parity_below n (at_two n two_steps a))
        (λ a la. parity_below-none n (at_two n two_steps a) (λ b lb. two_none a b la lb)))
