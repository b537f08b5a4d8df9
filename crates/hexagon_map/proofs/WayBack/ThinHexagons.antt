-- Two steps between the same two columns on the way back: the two thin annuli beside the moved circle give each state
-- once, and there is no other.
use Rattle.std.proofs.Common.{◌≡◌, ◌≢◌, ℕ, ◌<◌, Bool, true, false, not, ◌&&◌, ◌||◌, refl, ap, ap₂, ◌∙◌, sym, eqb, inl, inr, subst₂, true≢false}
use Rattle.std.proofs.lemmas.Bool.{eq-eqb, ne_eqb, cases_eq}
use Rattle.f2_algebra.proofs.Chains.Tables.{◌⊻◌, same, and-false, xor-false}
use Rattle.f2_algebra.proofs.Chains.ParityLemmas.{parity_below-one, parity-xor, parity-and, below}
use Rattle.rectangles.proofs.Square.TwoSteps.{differ, differ-true, differ-self, over_two_steps, at_two, steps_left}
use Rattle.f2_algebra.proofs.Chains.ParityLemmas.{parity_below, parity_below-same}
use Rattle.rectangles.proofs.Square.CyclicOrder.{between, between_start}
use Rattle.rectangles.proofs.Square.Exchanges.{exchanged-exchanged, not_both, with_exchanged, with_exchanged-first, with_exchanged-second}
use Rattle.rectangles.proofs.Square.EmptyRectangles.{is_clear_of, free}
use Rattle.pentagon_map.proofs.ChainMap.RowArcs.{above_of}
use Rattle.rectangles.proofs.Square.OpenRectangles.{is_open, unmarked, marks}
use Rattle.state_rank.proofs.BijectionLemmas.{IsOneToOne}
use Rattle.hexagon_map.proofs.WayBack.RowFacts.{hex_rows}
use Rattle.hexagon_map.proofs.WayBack.Hexagons.{back, open_back, hexa, open_hexa, return_steps}
use Rattle.pentagon_map.proofs.ChainMap.PentagonTests.{AreSides, is_open_pentagon, lacks, penta, two}
use Rattle.pentagon_map.proofs.ChainMap.ThinColumns.{AreBusy, IsThin, clear_thin}
use Rattle.hexagon_map.proofs.WayBack.HexagonsAtThree.{hexagons_at_three}
use Rattle.hexagon_map.proofs.WayBack.HexagonsAtFour.{hexagons_at_four}
use Rattle.hexagon_map.proofs.WayBack.ThinAnnuli as Annuli
use Rattle.hexagon_map.proofs.WayBack.ThinAnnuli.{around_none, up_none, up_right, up_left}

module _ (n r s e w v : ℕ) (O X : ℕ → ℕ) (sd : AreSides n r s) (thin : IsThin n r s e) (busy : AreBusy n r s O X)
    (small : (c : ℕ) → c < n → (O c < n) × (X c < n))
    (lw : w < n) (lv : v < n) (vw : v ≢ w) (lacks_s : lacks O X s (above_of v w) ≡ true)
    (lacks_r : lacks O X r (above_of w v) ≡ true) where
  abbrev there_and_up : ℕ → ℕ → ℕ → ℕ → Bool
  there_and_up = Annuli.there_and_up n r s w v O X

  module _ (f : ℕ → ℕ) (one : IsOneToOne n f) (T : (ℕ → ℕ) → Bool) where
    abbrev ways : ℕ → ℕ → ℕ → ℕ → Bool
    ways = return_steps n r s w v O X f T

    across : (a b : ℕ) → a < n → b < n → a ≢ b → ways a b b a ≡ false
    across a b la lb p =
        let g : ℕ → ℕ = with_exchanged f a b in
        let ga : g a ≡ f b = with_exchanged-first f a b in
        let gb : g b ≡ f a = with_exchanged-second f a b p in
        let E1 : Bool = is_clear_of n f a b (f a) (f b) in
        let E2 : Bool = is_clear_of n g b a (g b) (g a) in
        let t : Bool = T (with_exchanged g b a) in
        (λ i. ((differ a b && (E1 && penta n r s w O X a b (f a) (f b)))
        && ((differ b a && (E2 && back n r s w v O X b a (gb i) (ga i))) && t))
        ⊻ (((differ a b && (E1 && unmarked n O X a b (f a) (f b)))
        && ((differ b a && (E2 && hexa n r s w v O X b a (gb i) (ga i))) && t))
        ⊻ ((differ a b && (E1 && hexa n r s w v O X a b (f a) (f b)))
        && ((differ b a && (E2 && unmarked n O X b a (gb i) (ga i))) && t))))
        ∙ same 11 (λ p q x y t k m l j u z. ((p && (x && k)) && ((q && (y && m)) && t))
        ⊻ (((p && (x && l)) && ((q && (y && j)) && t)) ⊻ ((p && (x && u)) && ((q && (y && z)) && t))))
        (λ p q x y t k m l j u z. ((x && y) && ((p && q) && t)) && ((k && m) ⊻ ((l && j) ⊻ (u && z)))) refl
        (differ a b) (differ b a) E1 E2 t (penta n r s w O X a b (f a) (f b)) (back n r s w v O X b a (f a) (f b))
        (unmarked n O X a b (f a) (f b)) (hexa n r s w v O X b a (f a) (f b)) (hexa n r s w v O X a b (f a) (f b))
        (unmarked n O X b a (f a) (f b))
        ∙ ap (λ z. ((E1 && E2) && ((differ a b && differ b a) && t)) && z)
        (around_none n r s w v O X sd busy a b (f a) (f b) (one.small a la) p (one.apart a b la lb p))
        ∙ and-false ((E1 && E2) && ((differ a b && differ b a) && t))

    along_twice : (a b : ℕ) → a ≢ b → ways a b a b
        ≡ ((is_clear_of n f a b (f a) (f b) && is_clear_of n (with_exchanged f a b) a b (f b) (f a))
        && (T f && there_and_up a b (f a) (f b)))
    along_twice a b p =
        let g : ℕ → ℕ = with_exchanged f a b in
        let ga : g a ≡ f b = with_exchanged-first f a b in
        let gb : g b ≡ f a = with_exchanged-second f a b p in
        let E1 : Bool = is_clear_of n f a b (f a) (f b) in
        let pq = differ-true a b p in
        (λ i. ((pq i && (E1 && penta n r s w O X a b (f a) (f b)))
        && ((pq i && (is_clear_of n g a b (ga i) (gb i) && back n r s w v O X a b (ga i) (gb i)))
        && T (exchanged-exchanged f a b i)))
        ⊻ (((pq i && (E1 && unmarked n O X a b (f a) (f b)))
        && ((pq i && (is_clear_of n g a b (ga i) (gb i) && hexa n r s w v O X a b (ga i) (gb i)))
        && T (exchanged-exchanged f a b i)))
        ⊻ ((pq i && (E1 && hexa n r s w v O X a b (f a) (f b)))
        && ((pq i && (is_clear_of n g a b (ga i) (gb i) && unmarked n O X a b (ga i) (gb i)))
        && T (exchanged-exchanged f a b i)))))
        ∙ same 9 (λ x y t k m l j u z. ((x && k) && ((y && m) && t))
        ⊻ (((x && l) && ((y && j) && t)) ⊻ ((x && u) && ((y && z) && t))))
        (λ x y t k m l j u z. (x && y) && (t && ((k && m) ⊻ ((l && j) ⊻ (u && z))))) refl
        E1 (is_clear_of n g a b (f b) (f a)) (T f) (penta n r s w O X a b (f a) (f b))
        (back n r s w v O X a b (f b) (f a))
        (unmarked n O X a b (f a) (f b)) (hexa n r s w v O X a b (f b) (f a)) (hexa n r s w v O X a b (f a) (f b))
        (unmarked n O X a b (f b) (f a))

    -- what each of the two thin annuli gives
    abbrev right_rest : Bool
    right_rest = T f && not (between (f s) w v)

    abbrev left_rest : Bool
    left_rest = T f && between (f s) w v

    at_thin : (a b : ℕ) (u : Bool) → a < n → b < n → (p : a ≢ b) → ((t : ℕ) → t < n → t ≢ a → between a b t ≡ false)
        → there_and_up a b (f a) (f b) ≡ u
        → at_two n ways a b ≡ (T f && u)
    at_thin a b u la lb p o h =
        (λ i. differ-true a b p i && (along_twice a b p i ⊻ across a b la lb p i))
        ∙ xor-false _
        ∙ (λ i. (clear_thin n f a b (f a) (f b) o i && clear_thin n (with_exchanged f a b) a b (f b) (f a) o i)
        && (T f && h i))

    at_none : (a b : ℕ) → a < n → b < n → (p : a ≢ b) → there_and_up a b (f a) (f b) ≡ false → at_two n ways a b ≡ false
    at_none a b la lb p h =
        (λ i. differ-true a b p i && (along_twice a b p i ⊻ across a b la lb p i))
        ∙ xor-false _
        ∙ ap (λ z. (is_clear_of n f a b (f a) (f b) && is_clear_of n (with_exchanged f a b) a b (f b) (f a))
        && (T f && z)) h
        ∙ same 2 (λ x y. x && (y && false)) (λ x y. false) refl
        (is_clear_of n f a b (f a) (f b) && is_clear_of n (with_exchanged f a b) a b (f b) (f a)) (T f)

    no_corner : (a b j i : ℕ) → a ≢ s → b ≢ s → there_and_up a b j i ≡ false
    no_corner a b j i p q =
        (λ z. (((ne_eqb a s p z || ne_eqb b s q z)
        && (between j i w && (free n (two r s) (between a b) (marks O X (between j i))
        && (lacks O X s (between j w) && lacks O X r (above_of w i))))) && back n r s w v O X a b i j)
        ⊻ ((unmarked n O X a b j i
        && (hex_rows w v (ne_eqb b s q z) (ne_eqb a s p z) i j
        && free n (two r s) (between a b) (marks O X (between i j))))
        ⊻ ((hex_rows w v (ne_eqb b s q z) (ne_eqb a s p z) j i
        && free n (two r s) (between a b) (marks O X (between j i))) && unmarked n O X a b i j)))
        ∙ same 1 (λ x. false ⊻ ((x && false) ⊻ false)) (λ x. false) refl (unmarked n O X a b j i)

    before_s : (b : ℕ) → b < n → b ≢ s → between s b r ≡ false
    before_s b lb q =
        sd.before s b sd.s-lt lb (λ x. q (sym x))
        ∙ ap₂ (λ x y. (between s b s && x) || y) (differ-self s) (ne_eqb b s q)
        ∙ same 1 (λ x. (x && false) || false) (λ x. false) refl (between s b s)

    two_is : (a b : ℕ) → a < n → b < n → at_two n ways a b ≡ (eqb a s && (eqb b e && right_rest))
        ⊻ (eqb a r && (eqb b s && left_rest))
    two_is a b la lb = elim (cases_eq a b) [
      | inl i ↦
          ap (λ z. z && (ways a b a b ⊻ ways a b b a)) (ap (λ z. differ z b) i ∙ differ-self b)
          ∙ sym (ap₂ (λ x y. (x && (eqb b e && right_rest)) ⊻ (y && (eqb b s && left_rest))) (ap (λ z. eqb z s) i)
          (ap (λ z. eqb z r) i)
          ∙ same 5 (λ x y z t u. (x && (y && u)) ⊻ (z && (x && t))) (λ x y z t u. ((x && y) && u) ⊻ ((z && x) && t))
          refl (eqb b s) (eqb b e) (eqb b r) left_rest right_rest
          ∙ (λ z. (not_both b s e (λ x. thin.apart (sym x)) z && right_rest)
          ⊻ (not_both b r s sd.apart z && left_rest)))
      | inr p ↦ elim (cases_eq a s) [
        | inl i ↦
            let ar : a ≢ r = λ x. sd.apart (sym x ∙ i) in
            elim (cases_eq b e) [
              | inl j ↦
                  at_thin a b (not (between (f s) w v)) la lb p
                  (λ t l q. subst₂ (λ (x y : ℕ). between x y t ≡ false) (sym i) (sym j)
                  (thin.right t l (λ x. q (x ∙ sym i))))
                  (ap₂ (λ x y. there_and_up x y (f x) (f y)) i j
                  ∙ up_right n r s e w v O X sd thin small lw lv vw lacks_s lacks_r (f s) (f e)
                  (one.small s sd.s-lt) (one.small e thin.e-lt)
                  (one.apart s e sd.s-lt thin.e-lt (λ x. thin.apart (sym x))))
                  ∙ sym ((λ z. (eq-eqb a s i z && (eq-eqb b e j z && right_rest))
                  ⊻ (ne_eqb a r ar z && (eqb b s && left_rest))) ∙ xor-false right_rest)
              | inr q ↦
                  at_none a b la lb p
                  (up_none n r s w v O X sd busy a b (f a) (f b) e thin.e-lt
                  (λ x. true≢false (sym (ap (λ y. between s b y) (sym x) ∙ thin.after b lb (λ y. p (i ∙ sym y)) q)
                  ∙ before_s b lb (λ y. p (i ∙ sym y))))
                  thin.apart
                  (ap (λ x. between x b e) i ∙ thin.after b lb (λ x. p (i ∙ sym x)) q) (one.apart a b la lb p))
                  ∙ sym ((λ z. (eqb a s && (ne_eqb b e q z && right_rest))
                  ⊻ (ne_eqb a r ar z && (eqb b s && left_rest))) ∙ xor-false (eqb a s && false)
                  ∙ and-false (eqb a s))
            ]
        | inr q ↦ elim (cases_eq b s) [
          | inl j ↦ elim (cases_eq a r) [
            | inl i ↦
                at_thin a b (between (f s) w v) la lb p
                (λ t l z. subst₂ (λ (x y : ℕ). between x y t ≡ false) (sym i) (sym j)
                (thin.left t l (λ x. z (x ∙ sym i))))
                (ap₂ (λ x y. there_and_up x y (f x) (f y)) i j
                ∙ up_left n r s e w v O X sd thin small lw lv vw lacks_s lacks_r (f r) (f s)
                (one.small r sd.r-lt) (one.small s sd.s-lt)
                (one.apart r s sd.r-lt sd.s-lt sd.apart))
                ∙ sym (λ z. (ne_eqb a s q z && (eqb b e && right_rest))
                ⊻ (eq-eqb a r i z && (eq-eqb b s j z && left_rest)))
            | inr y ↦
                at_none a b la lb p
                (up_none n r s w v O X sd busy a b (f a) (f b) a la y q (between_start a b p) (one.apart a b la lb p))
                ∙ sym (λ z. (ne_eqb a s q z && (eqb b e && right_rest)) ⊻ (ne_eqb a r y z && (eqb b s && left_rest)))
          ]
          | inr y ↦
              at_none a b la lb p (no_corner a b (f a) (f b) q y)
              ∙ sym ((λ z. (ne_eqb a s q z && (eqb b e && right_rest)) ⊻ (eqb a r && (ne_eqb b s y z && left_rest)))
              ∙ and-false (eqb a r))
        ]
      ]
    ]

    twice_sum : parity_below n (λ a. parity_below n (at_two n ways a)) ≡ T f
    twice_sum =
        parity_below-same n (λ a. parity_below n (at_two n ways a))
        (λ a. (eqb a s && right_rest) ⊻ (eqb a r && left_rest)) (λ a la.
        parity_below-same n (at_two n ways a)
        (λ b. (eqb a s && (eqb b e && right_rest)) ⊻ (eqb a r && (eqb b s && left_rest))) (λ b lb. two_is a b la lb)
        ∙ parity-xor (λ b. eqb a s && (eqb b e && right_rest)) (λ b. eqb a r && (eqb b s && left_rest)) (below n)
        ∙ ap₂ (λ x y. x ⊻ y)
        (parity-and (eqb a s) (λ b. eqb b e && right_rest) (below n)
        ∙ ap (λ z. eqb a s && z) (parity_below-one n e (λ b. right_rest) thin.e-lt))
        (parity-and (eqb a r) (λ b. eqb b s && left_rest) (below n)
        ∙ ap (λ z. eqb a r && z) (parity_below-one n s (λ b. left_rest) sd.s-lt)))
        ∙ parity-xor (λ a. eqb a s && right_rest) (λ a. eqb a r && left_rest) (below n)
        ∙ ap₂ (λ x y. x ⊻ y) (parity_below-one n s (λ a. right_rest) sd.s-lt)
        (parity_below-one n r (λ a. left_rest) sd.r-lt)
        ∙ same 2 (λ t b. (t && not b) ⊻ (t && b)) (λ t b. t) refl (T f) (between (f s) w v)

    -- on the way there and back, and by a corner set and a hexagon, each state is reached once from itself, and others
    -- an even number of times
    pub return_is : over_two_steps n ways ≡ T f
    return_is =
        steps_left n ways
        (λ a c d. let no : differ a a ≡ false = differ-self a in
        λ z. ((no z && (is_clear_of n f a a (f a) (f a) && penta n r s w O X a a (f a) (f a)))
        && (open_back n r s w v O X (with_exchanged f a a) c d && T (with_exchanged (with_exchanged f a a) c d)))
        ⊻ (((no z && (is_clear_of n f a a (f a) (f a) && unmarked n O X a a (f a) (f a)))
        && (open_hexa n r s w v O X (with_exchanged f a a) c d && T (with_exchanged (with_exchanged f a a) c d)))
        ⊻ ((no z && (is_clear_of n f a a (f a) (f a) && hexa n r s w v O X a a (f a) (f a)))
        && (is_open n O X (with_exchanged f a a) c d && T (with_exchanged (with_exchanged f a a) c d)))))
        (λ a b c. let no : differ c c ≡ false = differ-self c in let g : ℕ → ℕ = with_exchanged f a b in
        (λ z. (is_open_pentagon n r s w O X f a b
        && ((no z && (is_clear_of n g c c (g c) (g c) && back n r s w v O X c c (g c) (g c)))
        && T (with_exchanged g c c)))
        ⊻ ((is_open n O X f a b && ((no z && (is_clear_of n g c c (g c) (g c) && hexa n r s w v O X c c (g c) (g c)))
        && T (with_exchanged g c c)))
        ⊻ (open_hexa n r s w v O X f a b
        && ((no z && (is_clear_of n g c c (g c) (g c) && unmarked n O X c c (g c) (g c)))
        && T (with_exchanged g c c)))))
        ∙ same 3 (λ x y z. (x && false) ⊻ ((y && false) ⊻ (z && false))) (λ x y z. false) refl
        (is_open_pentagon n r s w O X f a b) (is_open n O X f a b) (open_hexa n r s w v O X f a b))
        (hexagons_at_four n r s w v O X f one T)
        (hexagons_at_three n r s w v O X sd small lw lv vw lacks_s lacks_r f one T)
        ∙ twice_sum
