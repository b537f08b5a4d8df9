-- Two steps between the same two columns, one by a pentagon: the thin annulus on the left of the moved circle cancels
-- with the one on its right, and there is no other.
use Rattle.std.proofs.Common.{Bool, ap, ap₂, eqb, false, inl, inr, not, refl, subst₂, sym, true, true≢false, ℕ, ◌&&◌, ◌<◌, ◌||◌, ◌∙◌, ◌≡◌, ◌≢◌}
use Rattle.std.proofs.lemmas.Bool.{cases_eq, eq-eqb, ne_eqb}
use mathlib.Core.Path.{fun_ext}
use Rattle.f2_algebra.proofs.Chains.ParityLemmas.{below, parity-and, parity-xor, parity_below, parity_below-one, parity_below-same}
use Rattle.f2_algebra.proofs.Chains.Tables.{and-false, same, xor-false, xor_self, ◌⊻◌}
use Rattle.state_rank.proofs.BijectionLemmas.{IsOneToOne}
use Rattle.rectangles.proofs.Square.CyclicOrder.{between, between_back, between_end, between_start}
use Rattle.rectangles.proofs.Square.EmptyRectangles.{free, is_clear_of}
use Rattle.rectangles.proofs.Square.Exchanges.{with_exchanged, exchanged-exchanged, with_exchanged-first, with_exchanged-second, not_both}
use Rattle.rectangles.proofs.Square.OpenRectangles.{is_open, marks, unmarked}
use Rattle.rectangles.proofs.Square.TwoSteps.{at_two, differ, differ-self, differ-true, over_two_steps, steps_cancel}
use Rattle.pentagon_map.proofs.ChainMap.RowArcs.{above_of, rest_below, rest_outside, rest_turned}
use Rattle.pentagon_map.proofs.ChainMap.ThinColumns.{IsThin, AreBusy, free_thin, clear_thin, two_ways, two_sides}
use Rattle.pentagon_map.proofs.ChainMap.PentagonTests.{two, lacks, lacks_add, AreSides, O', X', penta, is_open_pentagon, unmarked_is, exchanged_is}
use Rattle.pentagon_map.proofs.ChainMap.PentagonSteps.{four_none, pair_steps, three_none}

module _ (n r s e w : ℕ) (O X : ℕ → ℕ) (d : AreSides n r s) (thin : IsThin n r s e) (busy : AreBusy n r s O X) where
  -- both steps up the same range of columns
  abbrev up_twice : ℕ → ℕ → ℕ → ℕ → Bool
  up_twice a b j k =
      (penta n r s w O X a b j k && unmarked n (O' n r s w O X) (X' n r s w O X) a b k j)
      ⊻ (unmarked n O X a b j k && penta n r s w O X a b k j)

  -- one step up a range of columns, one up the other
  abbrev around : ℕ → ℕ → ℕ → ℕ → Bool
  around a b j k =
      (penta n r s w O X a b j k && unmarked n (O' n r s w O X) (X' n r s w O X) b a j k)
      ⊻ (unmarked n O X a b j k && penta n r s w O X b a j k)

  penta_parts : (a b j k : ℕ) (g : Bool) → Bool
  penta_parts a b j k g =
      (eqb a s || eqb b s) && (between j k w && (g && (lacks O X s (between j w) && lacks O X r (above_of w k))))

  around_none : (a b j k : ℕ) → j < n → a ≢ b → j ≢ k → around a b j k ≡ false
  around_none a b j k l ab q =
      let F : Bool = free n (two r s) (between a b) (marks O X (between j k)) in
      let G : Bool = free n (two r s) (between b a) (marks O X (between j k)) in
      let A : Bool = eqb a s || eqb b s in
      let A' : Bool = eqb b s || eqb a s in
      let B : Bool = between j k w in
      let C : Bool = lacks O X s (between j w) && lacks O X r (above_of w k) in
      let x : Bool = not (between b a s && not (lacks O X r (between j k))) in
      let y : Bool = not (between b a r && not (lacks O X s (between j k))) in
      let x' : Bool = not (between a b s && not (lacks O X s (between j k))) in
      let y' : Bool = not (between a b r && not (lacks O X r (between j k))) in
      (λ i. (penta n r s w O X a b j k && exchanged_is n r s w O X d b a j k i)
      ⊻ (unmarked_is n r s w O X d a b j k i && penta n r s w O X b a j k))
      ∙ same 10 (λ F G A A' B C x y z t. ((A && (B && (F && C))) && (x && (y && G)))
      ⊻ ((z && (t && F)) && (A' && (B && (G && C)))))
      (λ F G A A' B C x y z t. (F && G) && (((A && (B && C)) && (x && y)) ⊻ ((z && t) && (A' && (B && C))))) refl F G A
      A' B C x y x' y'
      ∙ ap (λ z. z && (((A && (B && C)) && (x && y)) ⊻ ((x' && y') && (A' && (B && C)))))
      (two_sides n r s O X a b j k busy l ab q)

  -- a range with a column apart from r and s
  up_none : (a b j k c : ℕ) → c < n → c ≢ r → c ≢ s → between a b c ≡ true → j ≢ k → up_twice a b j k ≡ false
  up_none a b j k c l cr cs i q =
      let F : Bool = free n (two r s) (between a b) (marks O X (between j k)) in
      let G : Bool = free n (two r s) (between a b) (marks O X (between k j)) in
      let A : Bool = eqb a s || eqb b s in
      let B : Bool = between j k w in
      let B' : Bool = between k j w in
      let C : Bool = lacks O X s (between j w) && lacks O X r (above_of w k) in
      let C' : Bool = lacks O X s (between k w) && lacks O X r (above_of w j) in
      let x : Bool = not (between a b s && not (lacks O X r (between k j)))
      && not (between a b r && not (lacks O X s (between k j))) in
      let y : Bool = not (between a b s && not (lacks O X s (between j k)))
      && not (between a b r && not (lacks O X r (between j k))) in
      (λ v. (penta n r s w O X a b j k && exchanged_is n r s w O X d a b k j v)
      ⊻ (unmarked_is n r s w O X d a b j k v && penta n r s w O X a b k j))
      ∙ same 11 (λ F G A B B' C C' x1 x2 y1 y2. ((A && (B && (F && C))) && (x1 && (x2 && G)))
      ⊻ ((y1 && (y2 && F)) && (A && (B' && (G && C')))))
      (λ F G A B B' C C' x1 x2 y1 y2. (F && G) && (((A && (B && C)) && (x1 && x2)) ⊻ ((y1 && y2) && (A && (B' && C')))))
      refl F G A B B' C C'
      (not (between a b s && not (lacks O X r (between k j)))) (not (between a b r && not (lacks O X s (between k j))))
      (not (between a b s && not (lacks O X s (between j k)))) (not (between a b r && not (lacks O X r (between j k))))
      ∙ ap (λ z. z && (((A && (B && C)) && x) ⊻ (y && (A && (B' && C'))))) (two_ways n r s O X a b j k c l cr cs i q)

  -- no row of R from j up to w, and none of L from above w up to j
  abbrev ends : ℕ → Bool
  ends j = lacks O X s (between j w) && lacks O X r (λ t. not (between j w t) && differ t w)

  two_cases : (b x y z : Bool) → (b ≡ true → x ≡ z) → (b ≡ false → y ≡ z) → ((b && x) ⊻ (not b && y)) ≡ z
  two_cases true x y z p q = xor-false x ∙ p refl
  two_cases false x y z p q = q refl

  up_right : (j k : ℕ) → j ≢ k → up_twice s e j k ≡ ends j
  up_right j k q =
      let B : Bool = between j k w in
      let noR : (ℕ → Bool) → Bool = lacks O X s in
      let noL : (ℕ → Bool) → Bool = lacks O X r in
      let clean : (h : ℕ → Bool) → free n (two r s) (between s e) h ≡ true =
      λ h. free_thin n (two r s) (between s e) h (λ t l. elim (cases_eq t s) [
        | inl i ↦
            ap (λ z. (eqb t r || z) || not (between s e t)) (eq-eqb t s i)
            ∙ same 2 (λ x y. (x || true) || y) (λ x y. true) refl (eqb t r) (not (between s e t))
        | inr p ↦ ap (λ z. two r s t || not z) (thin.right t l p) ∙ same 1 (λ x. x || true) (λ x. true) refl (two r s t)
      ]) in
      let here : between s e s ≡ true = between_start s e (λ i. thin.apart (sym i)) in
      let off : between s e r ≡ false = thin.right r d.r-lt d.apart in
      (λ v. (((eq-eqb s s refl v || eqb e s)
      && (B && (clean (marks O X (between j k)) v && (noR (between j w) && noL (above_of w k)))))
      && exchanged_is n r s w O X d s e k j v)
      ⊻ (unmarked_is n r s w O X d s e j k v
      && ((eq-eqb s s refl v || eqb e s)
      && (between_back j k w q v
      && (clean (marks O X (between k j)) v && (noR (between k w) && noL (above_of w j)))))))
      ∙ (λ v. ((B && (noR (between j w) && noL (above_of w k)))
      && (not (here v && not (noL (between k j)))
      && (not (off v && not (noR (between k j))) && clean (marks O X (between k j)) v)))
      ⊻ ((not (here v && not (noR (between j k)))
      && (not (off v && not (noL (between j k))) && clean (marks O X (between j k)) v))
      && (not B && (noR (between k w) && noL (above_of w j)))))
      ∙ same 7 (λ b x y z t u v. ((b && (x && y)) && (not (not z) && true))
      ⊻ ((not (not t) && true) && (not b && (u && v))))
      (λ b x y z t u v. (b && (x && (y && z))) ⊻ (not b && ((t && u) && v))) refl
      B (noR (between j w)) (noL (above_of w k)) (noL (between k j)) (noR (between j k)) (noR (between k w))
      (noL (above_of w j))
      ∙ two_cases B (noR (between j w) && (noL (above_of w k) && noL (between k j)))
      ((noR (between j k) && noR (between k w)) && noL (above_of w j)) (ends j)
      (λ b. ap (λ z. noR (between j w) && z)
      (sym (ap noL (fun_ext (λ t. rest_outside j k w t q b)) ∙ lacks_add O X r (above_of w k) (between k j))))
      (λ b. let b' : between k j w ≡ true = between_back j k w q ∙ ap not b in
      sym (ap₂ (λ x y. x && y) (ap noR (fun_ext (λ t. rest_below j k w t q b'))
      ∙ lacks_add O X s (between j k) (between k w)) (ap noL (fun_ext (λ t. rest_turned j k w t q b')))))

  up_left : (j k : ℕ) → j ≢ k → up_twice r s j k ≡ ends k
  up_left j k q =
      let B : Bool = between j k w in
      let noR : (ℕ → Bool) → Bool = lacks O X s in
      let noL : (ℕ → Bool) → Bool = lacks O X r in
      let kj : k ≢ j = λ i. q (sym i) in
      let clean : (h : ℕ → Bool) → free n (two r s) (between r s) h ≡ true =
      λ h. free_thin n (two r s) (between r s) h (λ t l. elim (cases_eq t r) [
        | inl i ↦ ap (λ z. (z || eqb t s) || not (between r s t)) (eq-eqb t r i)
        | inr p ↦ ap (λ z. two r s t || not z) (thin.left t l p) ∙ same 1 (λ x. x || true) (λ x. true) refl (two r s t)
      ]) in
      let corner : (eqb r s || eqb s s) ≡ true =
      ap (λ z. eqb r s || z) (eq-eqb s s refl) ∙ same 1 (λ x. x || true) (λ x. true) refl (eqb r s) in
      let here : between r s r ≡ true = between_start r s d.apart in
      let off : between r s s ≡ false = between_end r s in
      (λ v. ((corner v && (B && (clean (marks O X (between j k)) v && (noR (between j w) && noL (above_of w k)))))
      && exchanged_is n r s w O X d r s k j v)
      ⊻ (unmarked_is n r s w O X d r s j k v
      && (corner v
      && (between_back j k w q v
      && (clean (marks O X (between k j)) v && (noR (between k w) && noL (above_of w j)))))))
      ∙ (λ v. ((B && (noR (between j w) && noL (above_of w k)))
      && (not (off v && not (noL (between k j)))
      && (not (here v && not (noR (between k j))) && clean (marks O X (between k j)) v)))
      ⊻ ((not (off v && not (noR (between j k)))
      && (not (here v && not (noL (between j k))) && clean (marks O X (between j k)) v))
      && (not B && (noR (between k w) && noL (above_of w j)))))
      ∙ same 7 (λ b x y z t u v. ((b && (x && y)) && (not (not z) && true))
      ⊻ ((not (not t) && true) && (not b && (u && v))))
      (λ b x y z t u v. (b && ((z && x) && y)) ⊻ (not b && (u && (v && t)))) refl
      B (noR (between j w)) (noL (above_of w k)) (noR (between k j)) (noL (between j k)) (noR (between k w))
      (noL (above_of w j))
      ∙ two_cases B ((noR (between k j) && noR (between j w)) && noL (above_of w k))
      (noR (between k w) && (noL (above_of w j) && noL (between j k))) (ends k)
      (λ b. sym (ap₂ (λ x y. x && y) (ap noR (fun_ext (λ t. rest_below k j w t kj b))
      ∙ lacks_add O X s (between k j) (between j w)) (ap noL (fun_ext (λ t. rest_turned k j w t kj b)))))
      (λ b. let b' : between k j w ≡ true = between_back j k w q ∙ ap not b in
      ap (λ z. noR (between k w) && z)
      (sym (ap noL (fun_ext (λ t. rest_outside k j w t kj b')) ∙ lacks_add O X r (above_of w j) (between j k))))

  module _ (f : ℕ → ℕ) (one : IsOneToOne n f) (T : (ℕ → ℕ) → Bool) where
    abbrev steps : ℕ → ℕ → ℕ → ℕ → Bool
    steps = pair_steps n r s w O X f T

    -- the two steps, without emptiness
    across : (a b : ℕ) → a < n → b < n → a ≢ b → steps a b b a ≡ false
    across a b la lb p =
        let g : ℕ → ℕ = with_exchanged f a b in
        let ga : g a ≡ f b = with_exchanged-first f a b in
        let gb : g b ≡ f a = with_exchanged-second f a b p in
        let clear_ab : Bool = is_clear_of n f a b (f a) (f b) in
        let clear_ba : Bool = is_clear_of n g b a (g b) (g a) in
        let penta_ab : Bool = penta n r s w O X a b (f a) (f b) in
        let unmarked_ab : Bool = unmarked n O X a b (f a) (f b) in
        let t : Bool = T (with_exchanged g b a) in
        (λ i. ((differ a b && (clear_ab && penta_ab))
        && ((differ b a && (clear_ba && unmarked n (O' n r s w O X) (X' n r s w O X) b a (gb i) (ga i))) && t))
        ⊻ ((differ a b && (clear_ab && unmarked_ab))
        && ((differ b a && (clear_ba && penta n r s w O X b a (gb i) (ga i))) && t)))
        ∙ same 9 (λ p q x y t k m l j. ((p && (x && k)) && ((q && (y && m)) && t))
        ⊻ ((p && (x && l)) && ((q && (y && j)) && t)))
        (λ p q x y t k m l j. ((x && y) && ((p && q) && t)) && ((k && m) ⊻ (l && j))) refl
        (differ a b) (differ b a) clear_ab clear_ba t penta_ab
        (unmarked n (O' n r s w O X) (X' n r s w O X) b a (f a) (f b)) unmarked_ab (penta n r s w O X b a (f a) (f b))
        ∙ ap (λ z. ((clear_ab && clear_ba) && ((differ a b && differ b a) && t)) && z)
        (around_none a b (f a) (f b) (one.small a la) p (one.apart a b la lb p))
        ∙ and-false ((clear_ab && clear_ba) && ((differ a b && differ b a) && t))

    along_twice : (a b : ℕ) → a ≢ b
        → steps a b a b
        ≡ ((is_clear_of n f a b (f a) (f b) && is_clear_of n (with_exchanged f a b) a b (f b) (f a))
        && (T f && up_twice a b (f a) (f b)))
    along_twice a b p =
        let g : ℕ → ℕ = with_exchanged f a b in
        let ga : g a ≡ f b = with_exchanged-first f a b in
        let gb : g b ≡ f a = with_exchanged-second f a b p in
        let clear_ab : Bool = is_clear_of n f a b (f a) (f b) in
        let penta_ab : Bool = penta n r s w O X a b (f a) (f b) in
        let unmarked_ab : Bool = unmarked n O X a b (f a) (f b) in
        (λ i. ((differ-true a b p i && (clear_ab && penta_ab))
        && ((differ-true a b p i
        && (is_clear_of n g a b (ga i) (gb i)
        && unmarked n (O' n r s w O X) (X' n r s w O X) a b (ga i) (gb i))) && T (exchanged-exchanged f a b i)))
        ⊻ ((differ-true a b p i && (clear_ab && unmarked_ab))
        && ((differ-true a b p i && (is_clear_of n g a b (ga i) (gb i) && penta n r s w O X a b (ga i) (gb i)))
        && T (exchanged-exchanged f a b i))))
        ∙ same 7 (λ x y t k m l j. ((x && k) && ((y && m) && t)) ⊻ ((x && l) && ((y && j) && t)))
        (λ x y t k m l j. (x && y) && (t && ((k && m) ⊻ (l && j)))) refl
        clear_ab (is_clear_of n g a b (f b) (f a)) (T f) penta_ab
        (unmarked n (O' n r s w O X) (X' n r s w O X) a b (f b) (f a)) unmarked_ab (penta n r s w O X a b (f b) (f a))

    -- what each of the two thin annuli gives
    abbrev rest_of : Bool
    rest_of = T f && ends (f s)

    at_thin : (a b : ℕ) → a < n → b < n → (p : a ≢ b) → ((t : ℕ) → t < n → t ≢ a → between a b t ≡ false)
        → up_twice a b (f a) (f b) ≡ ends (f s)
        → at_two n steps a b ≡ rest_of
    at_thin a b la lb p o h =
        (λ i. differ-true a b p i && (along_twice a b p i ⊻ across a b la lb p i))
        ∙ xor-false _
        ∙ (λ i. (clear_thin n f a b (f a) (f b) o i && clear_thin n (with_exchanged f a b) a b (f b) (f a) o i)
        && (T f && h i))

    at_none : (a b : ℕ) → a < n → b < n → (p : a ≢ b) → up_twice a b (f a) (f b) ≡ false → at_two n steps a b ≡ false
    at_none a b la lb p h =
        (λ i. differ-true a b p i && (along_twice a b p i ⊻ across a b la lb p i))
        ∙ xor-false _
        ∙ ap (λ z. (is_clear_of n f a b (f a) (f b) && is_clear_of n (with_exchanged f a b) a b (f b) (f a))
        && (T f && z)) h
        ∙ same 2 (λ x y. x && (y && false)) (λ x y. false) refl
        (is_clear_of n f a b (f a) (f b) && is_clear_of n (with_exchanged f a b) a b (f b) (f a)) (T f)

    no_corner : (a b j k : ℕ) → a ≢ s → b ≢ s → up_twice a b j k ≡ false
    no_corner a b j k p q =
        let x : Bool = unmarked n O X a b j k in
        let y : Bool = unmarked n (O' n r s w O X) (X' n r s w O X) a b k j in
        (λ i. (((ne_eqb a s p i || ne_eqb b s q i)
        && (between j k w
        && (free n (two r s) (between a b) (marks O X (between j k))
        && (lacks O X s (between j w) && lacks O X r (above_of w k))))) && y)
        ⊻ (x && ((ne_eqb a s p i || ne_eqb b s q i)
        && (between k j w
        && (free n (two r s) (between a b) (marks O X (between k j))
        && (lacks O X s (between k w) && lacks O X r (above_of w j)))))))
        ∙ and-false x

    two_is : (a b : ℕ) → a < n → b < n
        → at_two n steps a b ≡ (eqb a s && (eqb b e && rest_of)) ⊻ (eqb a r && (eqb b s && rest_of))
    two_is a b la lb = elim (cases_eq a b) [
      | inl i ↦
          ap (λ z. z && (steps a b a b ⊻ steps a b b a)) (ap (λ z. differ z b) i ∙ differ-self b)
          ∙ sym (ap₂ (λ x y. (x && (eqb b e && rest_of)) ⊻ (y && (eqb b s && rest_of))) (ap (λ z. eqb z s) i)
          (ap (λ z. eqb z r) i)
          ∙ same 5 (λ x y z t u. (x && (y && u)) ⊻ (z && (x && u)))
          (λ x y z t u. ((x && y) && u) ⊻ ((z && x) && u)) refl (eqb b s) (eqb b e) (eqb b r) true rest_of
          ∙ (λ v. (not_both b s e (λ x. thin.apart (sym x)) v && rest_of) ⊻ (not_both b r s d.apart v && rest_of)))
      | inr p ↦ elim (cases_eq a s) [
        | inl i ↦
            let ar : a ≢ r = λ x. d.apart (sym x ∙ i) in
            elim (cases_eq b e) [
              | inl j ↦
                  at_thin a b la lb p (λ t l q. subst₂ (λ (x y : ℕ). between x y t ≡ false) (sym i) (sym j)
                  (thin.right t l (λ x. q (x ∙ sym i))))
                  (ap₂ (λ x y. up_twice x y (f x) (f y)) i j
                  ∙ up_right (f s) (f e) (one.apart s e d.s-lt thin.e-lt (λ x. thin.apart (sym x))))
                  ∙ sym ((λ v. (eq-eqb a s i v && (eq-eqb b e j v && rest_of))
                  ⊻ (ne_eqb a r ar v && (eqb b s && rest_of))) ∙ xor-false rest_of)
              | inr q ↦
                  at_none a b la lb p
                  (up_none a b (f a) (f b) e thin.e-lt
                  (λ x. true≢false (sym (ap (λ y. between s b y) (sym x) ∙ thin.after b lb (λ y. p (i ∙ sym y)) q)
                  ∙ before_s b lb (λ y. p (i ∙ sym y))))
                  thin.apart
                  (ap (λ x. between x b e) i ∙ thin.after b lb (λ x. p (i ∙ sym x)) q) (one.apart a b la lb p))
                  ∙ sym ((λ v. (eqb a s && (ne_eqb b e q v && rest_of)) ⊻ (ne_eqb a r ar v && (eqb b s && rest_of)))
                  ∙ xor-false (eqb a s && false) ∙ and-false (eqb a s))
            ]
        | inr q ↦ elim (cases_eq b s) [
          | inl j ↦ elim (cases_eq a r) [
            | inl i ↦
                at_thin a b la lb p (λ t l z. subst₂ (λ (x y : ℕ). between x y t ≡ false) (sym i) (sym j)
                (thin.left t l (λ x. z (x ∙ sym i))))
                (ap₂ (λ x y. up_twice x y (f x) (f y)) i j ∙ up_left (f r) (f s) (one.apart r s d.r-lt d.s-lt d.apart))
                ∙ sym (λ v. (ne_eqb a s q v && (eqb b e && rest_of)) ⊻ (eq-eqb a r i v && (eq-eqb b s j v && rest_of)))
            | inr z ↦
                at_none a b la lb p (up_none a b (f a) (f b) a la z q (between_start a b p) (one.apart a b la lb p))
                ∙ sym (λ v. (ne_eqb a s q v && (eqb b e && rest_of)) ⊻ (ne_eqb a r z v && (eqb b s && rest_of)))
          ]
          | inr z ↦
              at_none a b la lb p (no_corner a b (f a) (f b) q z)
              ∙ sym ((λ v. (ne_eqb a s q v && (eqb b e && rest_of)) ⊻ (eqb a r && (ne_eqb b s z v && rest_of)))
              ∙ and-false (eqb a r))
        ]
      ]
    ]
      where
        before_s : (b : ℕ) → b < n → b ≢ s → between s b r ≡ false
        before_s b lb q =
            d.before s b d.s-lt lb (λ x. q (sym x))
            ∙ ap₂ (λ x y. (between s b s && x) || y) (differ-self s) (ne_eqb b s q)
            ∙ same 1 (λ x. (x && false) || false) (λ x. false) refl (between s b s)

    twice_sum : parity_below n (λ a. parity_below n (at_two n steps a)) ≡ false
    twice_sum =
        parity_below-same n (λ a. parity_below n (at_two n steps a)) (λ a. (eqb a s && rest_of) ⊻ (eqb a r && rest_of))
        (λ a la.
        parity_below-same n (at_two n steps a)
        (λ b. (eqb a s && (eqb b e && rest_of)) ⊻ (eqb a r && (eqb b s && rest_of))) (λ b lb. two_is a b la lb)
        ∙ parity-xor (λ b. eqb a s && (eqb b e && rest_of)) (λ b. eqb a r && (eqb b s && rest_of)) (below n)
        ∙ ap₂ (λ x y. x ⊻ y)
        (parity-and (eqb a s) (λ b. eqb b e && rest_of) (below n)
        ∙ ap (λ z. eqb a s && z) (parity_below-one n e (λ b. rest_of) thin.e-lt))
        (parity-and (eqb a r) (λ b. eqb b s && rest_of) (below n)
        ∙ ap (λ z. eqb a r && z) (parity_below-one n s (λ b. rest_of) d.s-lt)))
        ∙ parity-xor (λ a. eqb a s && rest_of) (λ a. eqb a r && rest_of) (below n)
        ∙ ap₂ (λ x y. x ⊻ y) (parity_below-one n s (λ a. rest_of) d.s-lt) (parity_below-one n r (λ a. rest_of) d.r-lt)
        ∙ xor_self rest_of

    -- a pentagon and a corner set, in both orders, lead to each state an even number of times
    pub pairs_none : over_two_steps n steps ≡ false
    pairs_none =
        steps_cancel n steps
        (λ a c d. let no : differ a a ≡ false = differ-self a in
        λ v. ((no v && (is_clear_of n f a a (f a) (f a) && penta n r s w O X a a (f a) (f a)))
        && (is_open n (O' n r s w O X) (X' n r s w O X) (with_exchanged f a a) c d
        && T (with_exchanged (with_exchanged f a a) c d)))
        ⊻ ((no v && (is_clear_of n f a a (f a) (f a) && unmarked n O X a a (f a) (f a)))
        && (is_open_pentagon n r s w O X (with_exchanged f a a) c d && T (with_exchanged (with_exchanged f a a) c d))))
        (λ a b c. let no : differ c c ≡ false = differ-self c in let g : ℕ → ℕ = with_exchanged f a b in
        (λ v. (is_open_pentagon n r s w O X f a b
        && ((no v
        && (is_clear_of n g c c (g c) (g c) && unmarked n (O' n r s w O X) (X' n r s w O X) c c (g c) (g c)))
        && T (with_exchanged g c c)))
        ⊻ (is_open n O X f a b
        && ((no v && (is_clear_of n g c c (g c) (g c) && penta n r s w O X c c (g c) (g c)))
        && T (with_exchanged g c c))))
        ∙ ap₂ (λ x y. x ⊻ y) (and-false (is_open_pentagon n r s w O X f a b)) (and-false (is_open n O X f a b)))
        (four_none n r s w O X f T d one)
        (three_none n r s w O X f T d one)
        twice_sum
