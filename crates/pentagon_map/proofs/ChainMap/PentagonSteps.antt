-- Two steps, one of them by a pentagon: at three columns, at four, and where a column is neither r nor s.
use Rattle.std.proofs.Common.{Bool, ap, eqb, false, inl, inr, not, refl, sym, true, ℕ, ◌&&◌, ◌<◌, ◌||◌, ◌∙◌, ◌≡◌, ◌≢◌}
use Rattle.std.proofs.lemmas.Bool.{cases_eq, ne_eqb}
use Rattle.f2_algebra.proofs.Chains.Tables.{and-false, same, ◌⊻◌}
use Rattle.state_rank.proofs.BijectionLemmas.{IsOneToOne}
use Rattle.rectangles.proofs.Square.CyclicOrder.{Place, between, first, next, order_of, second, third}
use Rattle.rectangles.proofs.Square.EmptyRectangles.{AreFourApart, empty_apart, free, is_clear_of}
use Rattle.rectangles.proofs.Square.Exchanges.{with_exchanged, with_exchanged-other, exchanged_apart, exchanged_comm, exchanged_three}
use Rattle.rectangles.proofs.Square.OpenRectangles.{AreColumns, arc_values, is_open, marks, rows_of, three, unmarked}
use Rattle.rectangles.proofs.Square.SquareLemmas.{AreColumns-from, AreFourApart-from, AreFourApart-rows}
use Rattle.rectangles.proofs.Square.ThreeColumns.{shared_term}
use Rattle.rectangles.proofs.Square.TwoSteps.{at_three, differ, differ-true, four_differ, three_differ, three_differ-next}
use Rattle.pentagon_map.proofs.ChainMap.PairedTerms.{weighted, weighted_cancel, weights_paired}
use Rattle.pentagon_map.proofs.ChainMap.RowArcs.{above_of}
use Rattle.pentagon_map.proofs.ChainMap.PentagonTests.{AreSides, two, lacks, lacks_add}
use Rattle.pentagon_map.proofs.ChainMap.PentagonTests as tests
use Rattle.pentagon_map.proofs.ChainMap.Pentagons as pairs

module _ (n r s w : ℕ) (O X : ℕ → ℕ) where
  abbrev O' : ℕ → ℕ
  O' = tests.O' n r s w O X

  abbrev X' : ℕ → ℕ
  X' = tests.X' n r s w O X

  abbrev penta : ℕ → ℕ → ℕ → ℕ → Bool
  penta = tests.penta n r s w O X

  abbrev is_open_pentagon : (ℕ → ℕ) → ℕ → ℕ → Bool
  is_open_pentagon = tests.is_open_pentagon n r s w O X

  module _ (f : ℕ → ℕ) (T : (ℕ → ℕ) → Bool) where
    -- a pentagon and then a corner set of the exchanged grid, or a corner set and then a pentagon, to a state that T
    -- passes
    abbrev pub pair_steps : ℕ → ℕ → ℕ → ℕ → Bool
    pair_steps a b c d =
        (is_open_pentagon f a b && (is_open n O' X' (with_exchanged f a b) c d
        && T (with_exchanged (with_exchanged f a b) c d)))
        ⊻ (is_open n O X f a b && (is_open_pentagon (with_exchanged f a b) c d
        && T (with_exchanged (with_exchanged f a b) c d)))

    module _ (e : AreSides n r s) (one : IsOneToOne n f) where
      three_is : (p : Place → ℕ) (d : AreColumns n p) (at0 : p first ≡ s) (m : Place)
          → at_three n pair_steps (p m) (p (next m)) (p (next (next m)))
          ≡ (weighted (order_of p) (order_of (rows_of f p)) (arc_values n O X f (two r s) p)
          (pairs.the_weight n r s w O X e f one p d at0) m
          && T (with_exchanged (with_exchanged f (p m) (p (next m))) (p (next m)) (p (next (next m)))))
      three_is p d at0 m =
          let a : ℕ = p m in
          let b : ℕ = p (next m) in
          let c : ℕ = p (next (next m)) in
          let g : ℕ → ℕ = with_exchanged f a b in
          let t : Bool = T (with_exchanged g b c) in
          let u : Bool = order_of p in
          let v : Bool = order_of (rows_of f p) in
          let k : Place → Place → Bool = arc_values n O X f (two r s) p in
          let S : Place → Bool → Bool → Bool = pairs.the_weight n r s w O X e f one p d at0 in
          (λ i. (pair_steps a b b c
          ⊻ ((is_open_pentagon f a b && (is_open n O' X' g c b && T (exchanged_comm g c b i)))
          ⊻ (is_open n O X f a b && (is_open_pentagon g c b && T (exchanged_comm g c b i)))))
          ⊻ (((is_open_pentagon f b a
          && (is_open n O' X' (exchanged_comm f b a i) b c && T (with_exchanged (exchanged_comm f b a i) b c)))
          ⊻ (is_open n O X f b a
          && (is_open_pentagon (exchanged_comm f b a i) b c && T (with_exchanged (exchanged_comm f b a i) b c))))
          ⊻ ((is_open_pentagon f b a
          && (is_open n O' X' (exchanged_comm f b a i) c b && T (with_exchanged (exchanged_comm f b a i) c b)))
          ⊻ (is_open n O X f b a
          && (is_open_pentagon (exchanged_comm f b a i) c b && T (with_exchanged (exchanged_comm f b a i) c b))))))
          ∙ (λ i. (pair_steps a b b c
          ⊻ ((is_open_pentagon f a b && (is_open n O' X' g c b && t))
          ⊻ (is_open n O X f a b && (is_open_pentagon g c b && t))))
          ⊻ (((is_open_pentagon f b a && (is_open n O' X' g b c && t))
          ⊻ (is_open n O X f b a && (is_open_pentagon g b c && t)))
          ⊻ ((is_open_pentagon f b a && (is_open n O' X' g c b && T (exchanged_comm g c b i)))
          ⊻ (is_open n O X f b a && (is_open_pentagon g c b && T (exchanged_comm g c b i))))))
          ∙ (λ i. (pairs.one_term n r s w O X e f one p d at0 m true true t i
          ⊻ pairs.one_term n r s w O X e f one p d at0 m true false t i)
          ⊻ (pairs.one_term n r s w O X e f one p d at0 m false true t i
          ⊻ pairs.one_term n r s w O X e f one p d at0 m false false t i))
          ∙ same 5 (λ x y z w t. ((x && t) ⊻ (y && t)) ⊻ ((z && t) ⊻ (w && t)))
          (λ x y z w t. ((x ⊻ y) ⊻ (z ⊻ w)) && t) refl
          (shared_term u v k m true true && S m true true) (shared_term u v k m true false && S m true false)
          (shared_term u v k m false true && S m false true) (shared_term u v k m false false && S m false false) t

      three_at : (p : Place → ℕ) (d : AreColumns n p) (at0 : p first ≡ s)
          → at_three n pair_steps (p first) (p second) (p third)
          ⊻ (at_three n pair_steps (p second) (p third) (p first)
          ⊻ at_three n pair_steps (p third) (p first) (p second)) ≡ false
      unfolding pairs.the_weight
      three_at p d at0 =
          let a : ℕ = p first in
          let b : ℕ = p second in
          let c : ℕ = p third in
          let u : Bool = order_of p in
          let v : Bool = order_of (rows_of f p) in
          let k : Place → Place → Bool = arc_values n O X f (two r s) p in
          let S : Place → Bool → Bool → Bool = pairs.the_weight n r s w O X e f one p d at0 in
          let t : Bool = T (with_exchanged (with_exchanged f a b) b c) in
          let e1 : with_exchanged (with_exchanged f b c) c a ≡ with_exchanged (with_exchanged f a b) b c =
          sym (exchanged_three f a b c d.apart.ab d.apart.bc d.apart.ca) in
          let e2 : with_exchanged (with_exchanged f c a) a b ≡ with_exchanged (with_exchanged f a b) b c =
          exchanged_three f c a b d.apart.ca d.apart.ab d.apart.bc in
          (λ i. three_is p d at0 first i ⊻ (three_is p d at0 second i ⊻ three_is p d at0 third i))
          ∙ (λ i. (weighted u v k S first && t)
          ⊻ ((weighted u v k S second && T (e1 i)) ⊻ (weighted u v k S third && T (e2 i))))
          ∙ same 4 (λ x y z w. (x && w) ⊻ ((y && w) ⊻ (z && w))) (λ x y z w. (x ⊻ (y ⊻ z)) && w) refl
          (weighted u v k S first) (weighted u v k S second) (weighted u v k S third) t
          ∙ ap (λ z. z && t) (weighted_cancel u v k S (weights_paired u v (pairs.place n r s w O X e f one p d at0).0
          (pairs.no_left n r s w O X e f one p d at0) (pairs.no_right n r s w O X e f one p d at0)
          (pairs.low_part n r s w O X e f one p d at0)
          (pairs.high_part n r s w O X e f one p d at0)))

      -- if no place is s there is no pentagon
      no_penta : (g : ℕ → ℕ) (a b : ℕ) → a ≢ s → b ≢ s → is_open_pentagon g a b ≡ false
      no_penta g a b p q =
          (λ i. differ a b && (is_clear_of n g a b (g a) (g b) && ((ne_eqb a s p i || ne_eqb b s q i)
          && (between (g a) (g b) w
          && (free n (two r s) (between a b) (marks O X (between (g a) (g b)))
          && (lacks O X s (between (g a) w) && lacks O X r (above_of w (g b))))))))
          ∙ same 2 (λ x y. x && (y && false)) (λ x y. false) refl (differ a b) (is_clear_of n g a b (g a) (g b))

      no_pair : (a b c d : ℕ) → a ≢ s → b ≢ s → c ≢ s → d ≢ s → pair_steps a b c d ≡ false
      no_pair a b c d pa pb pc pd =
          (λ i. (no_penta f a b pa pb i
          && (is_open n O' X' (with_exchanged f a b) c d && T (with_exchanged (with_exchanged f a b) c d)))
          ⊻ (is_open n O X f a b && (no_penta (with_exchanged f a b) c d pc pd i
          && T (with_exchanged (with_exchanged f a b) c d))))
          ∙ and-false (is_open n O X f a b)

      none_three : (a b c : ℕ) → a ≢ s → b ≢ s → c ≢ s → at_three n pair_steps a b c ≡ false
      none_three a b c pa pb pc =
          λ i. (no_pair a b b c pa pb pb pc i ⊻ no_pair a b c b pa pb pc pb i)
          ⊻ (no_pair b a b c pb pa pb pc i ⊻ no_pair b a c b pb pa pc pb i)

      pub three_none : (a b c : ℕ) → a < n → b < n → c < n → three_differ a b c ≡ true
          → at_three n pair_steps a b c ⊻ (at_three n pair_steps b c a ⊻ at_three n pair_steps c a b) ≡ false
      three_none a b c la lb lc h = elim (cases_eq a s) [
        | inl i ↦ three_at (three a b c) (AreColumns-from n a b c la lb lc h) i
        | inr pa ↦ elim (cases_eq b s) [
          | inl i ↦
              same 3 (λ x y z. x ⊻ (y ⊻ z)) (λ x y z. y ⊻ (z ⊻ x)) refl (at_three n pair_steps a b c)
              (at_three n pair_steps b c a) (at_three n pair_steps c a b)
              ∙ three_at (three b c a) (AreColumns-from n b c a lb lc la (three_differ-next a b c ∙ h)) i
          | inr pb ↦ elim (cases_eq c s) [
            | inl i ↦
                same 3 (λ x y z. x ⊻ (y ⊻ z)) (λ x y z. z ⊻ (x ⊻ y)) refl (at_three n pair_steps a b c)
                (at_three n pair_steps b c a) (at_three n pair_steps c a b)
                ∙ three_at (three c a b) (AreColumns-from n c a b lc la lb (sym (three_differ-next c a b) ∙ h)) i
            | inr pc ↦ λ i. none_three a b c pa pb pc i ⊻ (none_three b c a pb pc pa i ⊻ none_three c a b pc pa pb i)
          ]
        ]
      ]

      -- beside columns apart from s the exchange changes nothing
      far : (c d j k : ℕ) → c < n → d < n → c ≢ d → s ≢ c → s ≢ d → unmarked n O' X' c d j k ≡ unmarked n O X c d j k
      far c d j k lc ld cd sc sd =
          let x : Bool = between c d s in
          let b : between c d r ≡ x =
          e.before c d lc ld cd ∙ (λ i. (x && differ-true s c sc i) || ne_eqb d s (λ y. sd (sym y)) i)
          ∙ same 1 (λ x. (x && true) || false) (λ x. x) refl x in
          tests.exchanged_is n r s w O X e c d j k
          ∙ ap (λ z. not (x && not (lacks O X r (between j k)))
          && (not (z && not (lacks O X s (between j k)))
          && free n (two r s) (between c d) (marks O X (between j k)))) b
          ∙ same 4 (λ x l r g. not (x && not l) && (not (x && not r) && g))
          (λ x l r g. not (x && not r) && (not (x && not l) && g)) refl
          x (lacks O X r (between j k)) (lacks O X s (between j k))
          (free n (two r s) (between c d) (marks O X (between j k)))
          ∙ ap (λ z. not (x && not (lacks O X s (between j k)))
          && (not (z && not (lacks O X r (between j k)))
          && free n (two r s) (between c d) (marks O X (between j k)))) (sym b)
          ∙ sym (tests.unmarked_is n r s w O X e c d j k)

      near : (a b c d j k j' k' : ℕ) → c < n → d < n → AreFourApart a b c d
          → (penta a b j k && unmarked n O' X' c d j' k') ≡ (penta a b j k && unmarked n O X c d j' k')
      near a b c d j k j' k' lc ld o = elim (cases_eq a s) [
        | inl i ↦ ap (λ z. penta a b j k && z) (far c d j' k' lc ld o.cd (λ x. o.ac (i ∙ x)) (λ x. o.ad (i ∙ x)))
        | inr p ↦ elim (cases_eq b s) [
          | inl i ↦ ap (λ z. penta a b j k && z) (far c d j' k' lc ld o.cd (λ x. o.bc (i ∙ x)) (λ x. o.bd (i ∙ x)))
          | inr q ↦
              let no : (eqb a s || eqb b s) ≡ false = λ i. ne_eqb a s p i || ne_eqb b s q i in
              let rest : Bool = between j k w
              && (free n (two r s) (between a b) (marks O X (between j k))
              && (lacks O X s (between j w) && lacks O X r (above_of w k))) in
              ap (λ z. (z && rest) && unmarked n O' X' c d j' k') no
              ∙ sym (ap (λ z. (z && rest) && unmarked n O X c d j' k') no)
        ]
      ]

      pub four_none : (a b c d : ℕ) → a < n → b < n → c < n → d < n → four_differ a b c d ≡ true
          → pair_steps a b c d ≡ pair_steps c d a b
      four_none a b c d la lb lc ld h =
          let o = AreFourApart-from a b c d h in
          let back : AreFourApart c d a b =
          record {
            ab = o.cd;
            ac = λ e. o.ac (sym e);
            ad = λ e. o.bc (sym e);
            bc = λ e. o.ad (sym e);
            bd = λ e. o.bd (sym e);
            cd = o.ab;
          } in
          let g : ℕ → ℕ = with_exchanged f a b in
          let k : ℕ → ℕ = with_exchanged f c d in
          let gc : g c ≡ f c = with_exchanged-other f a b c (λ e. o.ac (sym e)) (λ e. o.bc (sym e)) in
          let gd : g d ≡ f d = with_exchanged-other f a b d (λ e. o.ad (sym e)) (λ e. o.bd (sym e)) in
          let ka : k a ≡ f a = with_exchanged-other f c d a o.ac o.ad in
          let kb : k b ≡ f b = with_exchanged-other f c d b o.bc o.bd in
          let ab : Bool = differ a b in
          let cd : Bool = differ c d in
          let t : Bool = T (with_exchanged g c d) in
          let t' : Bool = T (with_exchanged k a b) in
          let clear_ab : Bool = is_clear_of n f a b (f a) (f b) in
          let clear_cd_after : Bool = is_clear_of n g c d (f c) (f d) in
          let clear_cd : Bool = is_clear_of n f c d (f c) (f d) in
          let clear_ab_after : Bool = is_clear_of n k a b (f a) (f b) in
          let penta_ab : Bool = penta a b (f a) (f b) in
          let penta_cd : Bool = penta c d (f c) (f d) in
          let unmarked_ab : Bool = unmarked n O X a b (f a) (f b) in
          let unmarked_cd : Bool = unmarked n O X c d (f c) (f d) in
          (λ i. ((ab && (clear_ab && penta_ab))
          && ((cd && (is_clear_of n g c d (gc i) (gd i) && unmarked n O' X' c d (gc i) (gd i))) && t))
          ⊻ ((ab && (clear_ab && unmarked_ab))
          && ((cd && (is_clear_of n g c d (gc i) (gd i) && penta c d (gc i) (gd i))) && t)))
          ∙ same 9 (λ p q x y t k m l j. ((p && (x && k)) && ((q && (y && m)) && t))
          ⊻ ((p && (x && l)) && ((q && (y && j)) && t)))
          (λ p q x y t k m l j. (x && y) && (((p && q) && t) && ((k && m) ⊻ (l && j)))) refl
          ab cd clear_ab clear_cd_after t penta_ab (unmarked n O' X' c d (f c) (f d)) unmarked_ab penta_cd
          ∙ (λ i. empty_apart n f a b c d la lb lc ld o (AreFourApart-rows n f one a b c d la lb lc ld o) i
          && (((ab && cd) && ap T (exchanged_apart f a b c d o.ac o.ad o.bc o.bd) i)
          && (near a b c d (f a) (f b) (f c) (f d) lc ld o i ⊻ (unmarked_ab && penta_cd))))
          ∙ same 8 (λ p q z t k m l j. z && (((p && q) && t) && ((k && m) ⊻ (l && j))))
          (λ p q z t k m l j. z && (((p && q) && t) && ((j && l) ⊻ (m && k)))) refl
          ab cd (clear_cd && clear_ab_after) t' penta_ab unmarked_cd unmarked_ab penta_cd
          ∙ ap (λ z. (clear_cd && clear_ab_after) && (((ab && cd) && t') && (z ⊻ (unmarked_cd && penta_ab))))
          (sym (near c d a b (f c) (f d) (f a) (f b) la lb back))
          ∙ same 9 (λ p q x y t k m l j. (x && y) && (((p && q) && t) && ((k && m) ⊻ (l && j))))
          (λ p q x y t k m l j. ((q && (x && k)) && ((p && (y && m)) && t))
          ⊻ ((q && (x && l)) && ((p && (y && j)) && t))) refl
          ab cd clear_cd clear_ab_after t' penta_cd (unmarked n O' X' a b (f a) (f b)) unmarked_cd penta_ab
          ∙ sym (λ i. ((cd && (clear_cd && penta_cd)) && ((ab
          && (is_clear_of n k a b (ka i) (kb i) && unmarked n O' X' a b (ka i) (kb i))) && t'))
          ⊻ ((cd && (clear_cd && unmarked_cd))
          && ((ab && (is_clear_of n k a b (ka i) (kb i) && penta a b (ka i) (kb i))) && t')))
