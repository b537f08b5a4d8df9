-- Two steps between the same two columns on the way back, by the rows that they ask for: if the columns are not
-- those of a thin annulus beside the moved circle there is none, and each of the two thin annuli gives one or none.
use Rattle.std.proofs.Common.{◌≡◌, ◌≢◌, ℕ, ◌<◌, ◌≤◌, Bool, true, false, not, ◌&&◌, ◌||◌, refl, ap, ap₂, ◌∙◌, sym, eqb, arith, inl, inr, true≢false}
use Rattle.std.proofs.lemmas.Bool.{eq-eqb, ne_eqb, cases_eq, cases_lt, cases_Bool, and_from, and_parts}
use Rattle.f2_algebra.proofs.Chains.Tables.{◌⊻◌, same}
use Rattle.rectangles.proofs.Square.CyclicOrder.{between, between_start, between_end, between_back}
use Rattle.rectangles.proofs.Square.EmptyRectangles.{free}
use Rattle.pentagon_map.proofs.ChainMap.RowArcs.{above_of}
use Rattle.rectangles.proofs.Square.OpenRectangles.{unmarked, marks}
use Rattle.hexagon_map.proofs.WayBack.RotatedRows.{make_in, make_wrap, make_out, make_gap}
use Rattle.hexagon_map.proofs.WayBack.RowFacts as F
use Rattle.hexagon_map.proofs.WayBack.RowFacts.{hex_rows, k, into_first, into, zero_in, zero_out}
use Rattle.hexagon_map.proofs.WayBack.RowShapes.{sub_lacks}
use Rattle.hexagon_map.proofs.WayBack.Hexagons.{back, hexa}
use Rattle.pentagon_map.proofs.ChainMap.PentagonTests.{AreSides, lacks, penta, two, unmarked_is}
use Rattle.pentagon_map.proofs.ChainMap.ThinColumns.{AreBusy, IsThin, free_thin, two_sides, two_ways}

-- two steps that both ask what cannot hold of both
gone : (F G A B C A' B' C' x y h x' y' h' : Bool) → (F && G) ≡ false
    → ((A && (B && (F && C))) && (A' && (B' && (G && C'))))
    ⊻ (((x && (y && F)) && (h && G)) ⊻ ((h' && F) && (x' && (y' && G)))) ≡ false
gone F G A B C A' B' C' x y h x' y' h' e =
    ap₂ (λ p q. p ⊻ q)
    (same 8 (λ F G A B C A' B' C'. (A && (B && (F && C))) && (A' && (B' && (G && C'))))
    (λ F G A B C A' B' C'. (F && G) && (((A && B) && C) && ((A' && B') && C'))) refl F G A B C A' B' C')
    (ap₂ (λ p q. p ⊻ q)
    (same 5 (λ F G x y h. (x && (y && F)) && (h && G)) (λ F G x y h. (F && G) && ((x && y) && h)) refl F G x y h)
    (same 5 (λ F G x y h. (h && F) && (x && (y && G))) (λ F G x y h. (F && G) && ((x && y) && h)) refl F G x' y' h'))
    ∙ (λ i. (e i && (((A && B) && C) && ((A' && B') && C'))) ⊻ ((e i && ((x && y) && h)) ⊻ (e i && ((x' && y') && h'))))

-- what follows from the rest of a test may be left out
drop : (b x : Bool) → (b ≡ true → x ≡ true) → (b && x) ≡ b
drop true x h = h refl
drop false x h = refl

-- ---- which of w and v is met first, from j and from k
other_first : (j w v : ℕ) → v ≢ w → between j v w ≡ not (between j w v)
other_first j w v p = grind arith

module _ (n j i w v : ℕ) (lj : j < n) (li : i < n) (lw : w < n) (lv : v < n) (ji : j ≢ i) where
  abbrev K : ℕ → ℕ
  K t = k n j lj t

  in_is : (t : ℕ) → t < n → between j i t ≡ true → K t < K i
  in_is t lt h = zero_in (K i) (K t) (sym (into_first n j lj i t li lt) ∙ h)

  out_is : (t : ℕ) → t < n → between j i t ≡ false → K i ≤ K t
  out_is t lt h = zero_out (K i) (K t) (sym (into_first n j lj i t li lt) ∙ h)

  w_first : between j i w ≡ true → between j i v ≡ false → between j v w ≡ true
  w_first g h = let p = in_is w lw g in let q = out_is v lv h in into_first n j lj v w lv lw
      ∙ make_in 0 (K v) (K w) (omega arith) (omega arith)

  v_first : between j i w ≡ false → between j i v ≡ true → between j v w ≡ false
  v_first g h = let p = out_is w lw g in let q = in_is v lv h in into_first n j lj v w lv lw
      ∙ make_out 0 (K v) (K w) (omega arith) (inr (omega arith))

  -- both in the range from j up to i
  same_first : between j i w ≡ true → between j i v ≡ true → between i v w ≡ between j v w
  same_first g h =
      let p = in_is w lw g in
      let q = in_is v lv h in
      elim (cases_lt (K w) (K v)) [
        | inl l ↦ (into n j lj i v w li lv lw ∙ make_wrap (K i) (K v) (K w) q (inr l))
            ∙ sym (into_first n j lj v w lv lw ∙ make_in 0 (K v) (K w) (omega arith) l)
        | inr l ↦ (into n j lj i v w li lv lw ∙ make_gap (K i) (K v) (K w) (omega arith) l p)
            ∙ sym (into_first n j lj v w lv lw ∙ make_out 0 (K v) (K w) (omega arith) (inr l))
      ]

-- what the two thin annuli come to: x and y say whether w and v are in the range from j up to k, g and h whether w is
-- met first from j, from k
sum_right : (x y g h : Bool) → (x ≡ true → y ≡ false → g ≡ true) → (x ≡ false → y ≡ true → g ≡ false)
    → (x ≡ false → y ≡ false → h ≡ g)
    → (x && not y) ⊻ ((h && (not y && not x)) ⊻ (g && (y && x))) ≡ g
sum_right true true g h p q r = same 2 (λ g h. false ⊻ ((h && false) ⊻ (g && true))) (λ g h. g) refl g h
sum_right true false g h p q r = same 2 (λ g h. true ⊻ ((h && false) ⊻ (g && false))) (λ g h. true) refl g h
    ∙ sym (p refl refl)
sum_right false true g h p q r = same 2 (λ g h. false ⊻ ((h && false) ⊻ (g && false))) (λ g h. false) refl g h
    ∙ sym (q refl refl)
sum_right false false g h p q r = same 2 (λ g h. false ⊻ ((h && true) ⊻ (g && false))) (λ g h. h) refl g h ∙ r refl refl

sum_left : (x y g h : Bool) → (x ≡ true → y ≡ false → h ≡ true) → (x ≡ false → y ≡ true → h ≡ false)
    → (x ≡ true → y ≡ true → g ≡ h)
    → (x && not y) ⊻ ((h && (not y && not x)) ⊻ (g && (y && x))) ≡ h
sum_left true true g h p q r = same 2 (λ g h. false ⊻ ((h && false) ⊻ (g && true))) (λ g h. g) refl g h ∙ r refl refl
sum_left true false g h p q r = same 2 (λ g h. true ⊻ ((h && false) ⊻ (g && false))) (λ g h. true) refl g h
    ∙ sym (p refl refl)
sum_left false true g h p q r = same 2 (λ g h. false ⊻ ((h && false) ⊻ (g && false))) (λ g h. false) refl g h
    ∙ sym (q refl refl)
sum_left false false g h p q r = same 2 (λ g h. false ⊻ ((h && true) ⊻ (g && false))) (λ g h. h) refl g h

module _ (n r s w v : ℕ) (O X : ℕ → ℕ) where
  -- both steps up the same range of columns
  abbrev pub there_and_up : ℕ → ℕ → ℕ → ℕ → Bool
  there_and_up a b j i =
      (penta n r s w O X a b j i && back n r s w v O X a b i j)
      ⊻ ((unmarked n O X a b j i && hexa n r s w v O X a b i j)
      ⊻ (hexa n r s w v O X a b j i && unmarked n O X a b i j))

  -- one step up a range of columns, one up the other
  abbrev pub both_ways : ℕ → ℕ → ℕ → ℕ → Bool
  both_ways a b j i =
      (penta n r s w O X a b j i && back n r s w v O X b a j i)
      ⊻ ((unmarked n O X a b j i && hexa n r s w v O X b a j i)
      ⊻ (hexa n r s w v O X a b j i && unmarked n O X b a j i))

module _ (n r s w v : ℕ) (O X : ℕ → ℕ) (sd : AreSides n r s) (busy : AreBusy n r s O X) where
  -- one step up each of the two ranges of columns
  pub around_none : (a b j i : ℕ) → j < n → a ≢ b → j ≢ i → both_ways n r s w v O X a b j i ≡ false
  around_none a b j i l ab q =
      let F : Bool = free n (two r s) (between a b) (marks O X (between j i)) in
      let G : Bool = free n (two r s) (between b a) (marks O X (between j i)) in
      (λ z. (penta n r s w O X a b j i && back n r s w v O X b a j i)
      ⊻ ((unmarked_is n r s w O X sd a b j i z && hexa n r s w v O X b a j i)
      ⊻ (hexa n r s w v O X a b j i && unmarked_is n r s w O X sd b a j i z)))
      ∙ gone F G (eqb a s || eqb b s) (between j i w) (lacks O X s (between j w) && lacks O X r (above_of w i))
      (eqb b s || eqb a s) (between j i v) (lacks O X r (between j v) && lacks O X s (above_of v i))
      (not (between a b s && not (lacks O X s (between j i)))) (not (between a b r && not (lacks O X r (between j i))))
      (hex_rows w v (eqb a s) (eqb b s) j i)
      (not (between b a s && not (lacks O X s (between j i)))) (not (between b a r && not (lacks O X r (between j i))))
      (hex_rows w v (eqb b s) (eqb a s) j i)
      (two_sides n r s O X a b j i busy l ab q)

  -- both steps up a range that has a column besides those of the moved circle
  pub up_none : (a b j i c : ℕ) → c < n → c ≢ r → c ≢ s → between a b c ≡ true → j ≢ i
      → there_and_up n r s w v O X a b j i ≡ false
  up_none a b j i c l cr cs inn q =
      let F : Bool = free n (two r s) (between a b) (marks O X (between j i)) in
      let G : Bool = free n (two r s) (between a b) (marks O X (between i j)) in
      (λ z. (penta n r s w O X a b j i && back n r s w v O X a b i j)
      ⊻ ((unmarked_is n r s w O X sd a b j i z && hexa n r s w v O X a b i j)
      ⊻ (hexa n r s w v O X a b j i && unmarked_is n r s w O X sd a b i j z)))
      ∙ gone F G (eqb a s || eqb b s) (between j i w) (lacks O X s (between j w) && lacks O X r (above_of w i))
      (eqb a s || eqb b s) (between i j v) (lacks O X r (between i v) && lacks O X s (above_of v j))
      (not (between a b s && not (lacks O X s (between j i)))) (not (between a b r && not (lacks O X r (between j i))))
      (hex_rows w v (eqb b s) (eqb a s) i j)
      (not (between a b s && not (lacks O X s (between i j)))) (not (between a b r && not (lacks O X r (between i j))))
      (hex_rows w v (eqb b s) (eqb a s) j i)
      (two_ways n r s O X a b j i c l cr cs inn q)

module _ (n r s e w v : ℕ) (O X : ℕ → ℕ) (sd : AreSides n r s) (thin : IsThin n r s e)
    (small : (c : ℕ) → c < n → (O c < n) × (X c < n))
    (lw : w < n) (lv : v < n) (vw : v ≢ w) (lacks_s : lacks O X s (above_of v w) ≡ true)
    (lacks_r : lacks O X r (above_of w v) ≡ true) where
  -- what pentagons ask of rows besides, and hexagons' corner sets, holds
  module _ (j i : ℕ) (lj : j < n) (li : i < n) (q : j ≢ i) where
    off : (t : ℕ) → between i j t ≡ not (between j i t)
    off t = between_back j i t q

    is_true : (t : ℕ) → not (between j i t) ≡ true → between j i t ≡ false
    is_true t h = elim (cases_Bool (between j i t)) [ inl g ↦ absurd (true≢false (sym h ∙ ap not g)) | inr g ↦ g ]

    pents : (between j i w && not (between j i v)) ≡ true
        → ((lacks O X s (between j w) && lacks O X r (above_of w i))
        && (lacks O X r (between i v) && lacks O X s (above_of v j))) ≡ true
    pents h =
        let p = and_parts (between j i w) (not (between j i v)) h in
        let w_in = in_is n j i w v lj li lw lv q w lw p.0 in
        let v_out = out_is n j i w v lj li lw lv q v lv (is_true v p.1) in
        let v_in = in_is n i j v w li lj lv lw (λ z. q (sym z)) v lv (off v ∙ p.1) in
        let w_out = out_is n i j v w li lj lv lw (λ z. q (sym z)) w lw (off w ∙ ap not p.0) in
        let sub = sub_lacks n r s w v O X small sd.r-lt sd.s-lt lw lv vw lacks_s lacks_r in
        and_from _ _
        (and_from _ _ (sub s sd.s-lt (between j w) (above_of v w) lacks_s
        (λ t lt g. F.below_w n j lj i w v t li lw lv lt w_in v_out g))
        (sub r sd.r-lt (above_of w i) (above_of w v) lacks_r
        (λ t lt g. F.above_w n j lj i w v t li lw lv lt w_in v_out g)))
        (and_from _ _ (sub r sd.r-lt (between i v) (above_of w v) lacks_r
        (λ t lt g. F.below_w n i li j v w t lj lv lw lt v_in w_out g))
        (sub s sd.s-lt (above_of v j) (above_of v w) lacks_s
        (λ t lt g. F.above_w n i li j v w t lj lv lw lt v_in w_out g)))

    -- w is met first on the way up from i to j: the other range of rows has no row of s
    rest_s : (between i v w && (between i j v && between i j w)) ≡ true → lacks O X s (between j i) ≡ true
    rest_s h =
        let p = and_parts (between i v w) _ h in
        let u = and_parts (between i j v) (between i j w) p.1 in
        let first = zero_in (k n i li v) (k n i li w) (sym (into_first n i li v w lv lw) ∙ p.0) in
        let inn = in_is n i j v w li lj lv lw (λ z. q (sym z)) v lv u.0 in
        sub_lacks n r s w v O X small sd.r-lt sd.s-lt lw lv vw lacks_s lacks_r s sd.s-lt (between j i) (above_of v w)
        lacks_s
        (λ t lt g. F.outside n i li j w v t lj lw lv lt first inn (off t ∙ ap not g))

    rest_r : (between i w v && (between i j v && between i j w)) ≡ true → lacks O X r (between j i) ≡ true
    rest_r h =
        let p = and_parts (between i w v) _ h in
        let u = and_parts (between i j v) (between i j w) p.1 in
        let first = zero_in (k n i li w) (k n i li v) (sym (into_first n i li w v lw lv) ∙ p.0) in
        let inn = in_is n i j v w li lj lv lw (λ z. q (sym z)) w lw u.1 in
        sub_lacks n r s w v O X small sd.r-lt sd.s-lt lw lv vw lacks_s lacks_r r sd.r-lt (between j i) (above_of w v)
        lacks_r
        (λ t lt g. F.outside n i li j v w t lj lv lw lt first inn (off t ∙ ap not g))

  -- so these tests may be left out
  pents_are : (j i : ℕ) → j < n → i < n → j ≢ i
      → ((between j i w && (lacks O X s (between j w) && lacks O X r (above_of w i)))
      && (between i j v && (lacks O X r (between i v) && lacks O X s (above_of v j))))
      ≡ (between j i w && not (between j i v))
  pents_are j i lj li q =
      ap (λ z. (between j i w && (lacks O X s (between j w) && lacks O X r (above_of w i)))
      && (z && (lacks O X r (between i v) && lacks O X s (above_of v j)))) (off j i lj li q v)
      ∙ same 4 (λ a b c d. (a && b) && (c && d)) (λ a b c d. (a && c) && (b && d)) refl (between j i w)
      (lacks O X s (between j w) && lacks O X r (above_of w i)) (not (between j i v))
      (lacks O X r (between i v) && lacks O X s (above_of v j))
      ∙ drop (between j i w && not (between j i v)) _ (pents j i lj li q)

  -- the thin annulus on the right of the moved circle
  pub up_right : (j i : ℕ) → j < n → i < n → j ≢ i → there_and_up n r s w v O X s e j i ≡ not (between j w v)
  up_right j i lj li q =
      let clean : (h : ℕ → Bool) → free n (two r s) (between s e) h ≡ true =
      λ h. free_thin n (two r s) (between s e) h (λ t l. elim (cases_eq t s) [
        | inl u ↦ ap (λ z. (eqb t r || z) || not (between s e t)) (eq-eqb t s u)
            ∙ same 2 (λ x y. (x || true) || y) (λ x y. true) refl (eqb t r) (not (between s e t))
        | inr p ↦ ap (λ z. two r s t || not z) (thin.right t l p) ∙ same 1 (λ x. x || true) (λ x. true) refl (two r s t)
      ]) in
      let here : between s e s ≡ true = between_start s e (λ u. thin.apart (sym u)) in
      let away : between s e r ≡ false = thin.right r sd.r-lt sd.apart in
      let es : eqb e s ≡ false = ne_eqb e s thin.apart in
      let ss : eqb s s ≡ true = eq-eqb s s refl in
      let g : Bool = between j v w in
      let h : Bool = between i v w in
      (λ z. (((ss z || eqb e s)
      && (between j i w && (clean (marks O X (between j i)) z
      && (lacks O X s (between j w) && lacks O X r (above_of w i)))))
      && ((ss z || eqb e s) && (between i j v
      && (clean (marks O X (between i j)) z && (lacks O X r (between i v) && lacks O X s (above_of v j))))))
      ⊻ ((unmarked_is n r s w O X sd s e j i z && (hex_rows w v (es z) (ss z) i j && clean (marks O X (between i j)) z))
      ⊻ ((hex_rows w v (es z) (ss z) j i && clean (marks O X (between j i)) z)
      && unmarked_is n r s w O X sd s e i j z)))
      ∙ (λ z. ((between j i w && (lacks O X s (between j w) && lacks O X r (above_of w i)))
      && (between i j v && (lacks O X r (between i v) && lacks O X s (above_of v j))))
      ⊻ (((not (here z && not (lacks O X s (between j i)))
      && (not (away z && not (lacks O X r (between j i))) && clean (marks O X (between j i)) z))
      && ((h && (between i j v && between i j w)) && true))
      ⊻ (((g && (between j i v && between j i w)) && true)
      && (not (here z && not (lacks O X s (between i j)))
      && (not (away z && not (lacks O X r (between i j))) && clean (marks O X (between i j)) z)))))
      ∙ same 5 (λ x a b c d. x ⊻ (((not (not a) && true) && (b && true)) ⊻ ((c && true) && (not (not d) && true))))
      (λ x a b c d. x ⊻ ((b && a) ⊻ (c && d))) refl
      ((between j i w && (lacks O X s (between j w) && lacks O X r (above_of w i)))
      && (between i j v && (lacks O X r (between i v) && lacks O X s (above_of v j))))
      (lacks O X s (between j i)) (h && (between i j v && between i j w)) (g && (between j i v && between j i w))
      (lacks O X s (between i j))
      ∙ (λ z. pents_are j i lj li q z
      ⊻ (drop (h && (between i j v && between i j w)) (lacks O X s (between j i)) (rest_s j i lj li q) z
      ⊻ drop (g && (between j i v && between j i w)) (lacks O X s (between i j)) (rest_s i j li lj (λ u. q (sym u))) z))
      ∙ (λ z. (between j i w && not (between j i v))
      ⊻ ((h && (off j i lj li q v z && off j i lj li q w z)) ⊻ (g && (between j i v && between j i w))))
      ∙ sum_right (between j i w) (between j i v) g h
      (w_first n j i w v lj li lw lv q) (v_first n j i w v lj li lw lv q)
      (λ x y. sym (same_first n i j w v li lj lw lv (λ u. q (sym u)) (off j i lj li q w ∙ ap not x)
      (off j i lj li q v ∙ ap not y)))
      ∙ other_first j w v vw

  -- the thin annulus on its left
  pub up_left : (j i : ℕ) → j < n → i < n → j ≢ i → there_and_up n r s w v O X r s j i ≡ between i w v
  up_left j i lj li q =
      let clean : (h : ℕ → Bool) → free n (two r s) (between r s) h ≡ true =
      λ h. free_thin n (two r s) (between r s) h (λ t l. elim (cases_eq t r) [
        | inl u ↦ ap (λ z. (z || eqb t s) || not (between r s t)) (eq-eqb t r u)
        | inr p ↦ ap (λ z. two r s t || not z) (thin.left t l p) ∙ same 1 (λ x. x || true) (λ x. true) refl (two r s t)
      ]) in
      let corner : (eqb r s || eqb s s) ≡ true = ap (λ z. eqb r s || z) (eq-eqb s s refl)
      ∙ same 1 (λ x. x || true) (λ x. true) refl (eqb r s) in
      let here : between r s r ≡ true = between_start r s sd.apart in
      let away : between r s s ≡ false = between_end r s in
      let rs : eqb r s ≡ false = ne_eqb r s sd.apart in
      let ss : eqb s s ≡ true = eq-eqb s s refl in
      let g : Bool = between j w v in
      let h : Bool = between i w v in
      (λ z. ((corner z && (between j i w
      && (clean (marks O X (between j i)) z && (lacks O X s (between j w) && lacks O X r (above_of w i)))))
      && (corner z && (between i j v
      && (clean (marks O X (between i j)) z && (lacks O X r (between i v) && lacks O X s (above_of v j))))))
      ⊻ ((unmarked_is n r s w O X sd r s j i z && (hex_rows w v (ss z) (rs z) i j && clean (marks O X (between i j)) z))
      ⊻ ((hex_rows w v (ss z) (rs z) j i && clean (marks O X (between j i)) z)
      && unmarked_is n r s w O X sd r s i j z)))
      ∙ (λ z. ((between j i w && (lacks O X s (between j w) && lacks O X r (above_of w i)))
      && (between i j v && (lacks O X r (between i v) && lacks O X s (above_of v j))))
      ⊻ (((not (away z && not (lacks O X s (between j i)))
      && (not (here z && not (lacks O X r (between j i))) && clean (marks O X (between j i)) z))
      && (((h || false) && (between i j v && between i j w)) && true))
      ⊻ ((((g || false) && (between j i v && between j i w)) && true)
      && (not (away z && not (lacks O X s (between i j)))
      && (not (here z && not (lacks O X r (between i j))) && clean (marks O X (between i j)) z)))))
      ∙ same 7 (λ x a b c d y y'. x
      ⊻ (((not false && (not (not a) && true)) && (((b || false) && y) && true))
      ⊻ ((((c || false) && y') && true) && (not false && (not (not d) && true)))))
      (λ x a b c d y y'. x ⊻ (((b && y) && a) ⊻ ((c && y') && d))) refl
      ((between j i w && (lacks O X s (between j w) && lacks O X r (above_of w i)))
      && (between i j v && (lacks O X r (between i v) && lacks O X s (above_of v j))))
      (lacks O X r (between j i)) h g (lacks O X r (between i j)) (between i j v && between i j w)
      (between j i v && between j i w)
      ∙ (λ z. pents_are j i lj li q z
      ⊻ (drop (h && (between i j v && between i j w)) (lacks O X r (between j i)) (rest_r j i lj li q) z
      ⊻ drop (g && (between j i v && between j i w)) (lacks O X r (between i j)) (rest_r i j li lj (λ u. q (sym u))) z))
      ∙ (λ z. (between j i w && not (between j i v))
      ⊻ ((h && (off j i lj li q v z && off j i lj li q w z)) ⊻ (g && (between j i v && between j i w))))
      ∙ sum_left (between j i w) (between j i v) g h
      (λ x y. v_met i ∙ ap not
      (v_first n i j w v li lj lw lv (λ u. q (sym u)) (off j i lj li q w ∙ ap not x)
      (off j i lj li q v ∙ ap not y)))
      (λ x y. v_met i ∙ ap not
      (w_first n i j w v li lj lw lv (λ u. q (sym u)) (off j i lj li q w ∙ ap not x)
      (off j i lj li q v ∙ ap not y)))
      (λ x y. v_met j ∙ ap not (sym (same_first n j i w v lj li lw lv q x y)) ∙ sym (v_met i))
    where
      v_met : (t : ℕ) → between t w v ≡ not (between t v w)
      v_met t = other_first t v w (λ u. vw (sym u))
