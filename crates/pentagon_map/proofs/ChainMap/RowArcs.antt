-- A row w among the arcs into which three rows cut the circle of rows.
use Rattle.std.proofs.Common.{Bool, ap, ap₂, arith, false, inl, inr, not, refl, subst, sym, true, true≢false, ℕ, ◌&&◌, ◌||◌, ◌∙◌, ◌≡◌, ◌≢◌}
use Rattle.std.proofs.lemmas.Bool.{cases_eq}
use mathlib.Core.Path.{fun_ext}
use Rattle.f2_algebra.proofs.Chains.Tables.{and-false, and-true, same}
use Rattle.rectangles.proofs.Square.CyclicOrder.{AreApart, Place, between, between_back, between_same, exactly, first, is_cyclic, next, one_arc, order_of, second, span, span_union, third}
use Rattle.rectangles.proofs.Square.ThreeColumns.{IsAdditive, end_of, start_of}
use Rattle.rectangles.proofs.Square.TwoSteps.{differ, differ-self, differ-true}
use Rattle.pentagon_map.proofs.ChainMap.PairedTerms.{of_three, pent}

-- from a up to x, from x up to w: if w is from x up to y, and a, x and y are met in this order
h1 : (a x y w : ℕ) → a ≢ x → x ≢ y → y ≢ a → is_cyclic a x y ≡ true → between x y w ≡ true → w ≢ x
    → is_cyclic a x w ≡ true
h1 a x y w p q r t b e = grind arith

h2 : (a x y w : ℕ) → a ≢ x → x ≢ y → y ≢ a → is_cyclic a x y ≡ true → between x y w ≡ true → w ≢ a
h2 a x y w p q r t b e = grind arith

-- w in the arc from x to y, then on from y up to e
l1 : (x y e w : ℕ) → x ≢ y → y ≢ e → e ≢ x → is_cyclic x y e ≡ true → between x y w ≡ true → is_cyclic w y e ≡ true
l1 x y e w p q r t b = grind arith

l2 : (x y e w : ℕ) → x ≢ y → y ≢ e → e ≢ x → is_cyclic x y e ≡ true → between x y w ≡ true → w ≢ y
l2 x y e w p q r t b f = grind arith

l3 : (x y e w : ℕ) → x ≢ y → y ≢ e → e ≢ x → is_cyclic x y e ≡ true → between x y w ≡ true → w ≢ e
l3 x y e w p q r t b f = grind arith

l4 : (x y e w : ℕ) → x ≢ y → y ≢ e → e ≢ x → is_cyclic x y e ≡ true → between x y w ≡ true → between y e w ≡ false
l4 x y e w p q r t b = grind arith

-- above w, below e
abbrev pub above_of : ℕ → ℕ → ℕ → Bool
above_of w e t = between w e t && differ t w

three : ℕ → ℕ → ℕ → Place → ℕ
three a b c first = a
three a b c second = b
three a b c third = c

-- two ranges end to end
pub join : (a x w t : ℕ) → a ≢ x → x ≢ w → w ≢ a → is_cyclic a x w ≡ true
    → between a w t ≡ (between a x t || between x w t)
unfolding three
join a x w t p q r h =
    let d : AreApart (three a x w) = record { ab = p; bc = q; ca = r } in
    subst (λ (u : Bool). span (three a x w) (not u) third t
    ≡ (span (three a x w) u first t || span (three a x w) u second t)) h (span_union (three a x w) d third t)

-- w in the upper arc, from x to y
pub join_below : (a x y w t : ℕ) → a ≢ x → x ≢ y → y ≢ a → is_cyclic a x y ≡ true → between x y w ≡ true
    → between a w t ≡ (between a x t || between x w t)
join_below a x y w t p q r h b = elim (cases_eq w x) [
  | inl e ↦
      ap (λ v. between a v t) e ∙ same 1 (λ z. z) (λ z. z || false) refl (between a x t)
      ∙ ap (λ z. between a x t || z) (sym (between_same x t)) ∙ ap (λ v. between a x t || between x v t) (sym e)
  | inr ne ↦ join a x w t p (λ e. ne (sym e)) (h2 a x y w p q r h b) (h1 a x y w p q r h b ne)
]

-- w in the lower arc, from x to y; the row of w is left out
pub join_above : (x y e w t : ℕ) → x ≢ y → y ≢ e → e ≢ x → is_cyclic x y e ≡ true → between x y w ≡ true
    → (between w e t && differ t w) ≡ ((between w y t && differ t w) || between y e t)
join_above x y e w t p q r h b = elim (cases_eq t w) [
  | inl i ↦
      ap (λ z. between w e t && z) (ap (λ v. differ v w) i ∙ differ-self w) ∙ and-false (between w e t)
      ∙ sym (ap₂ (λ z v. (between w y t && z) || v) (ap (λ v. differ v w) i ∙ differ-self w)
      (ap (between y e) i ∙ l4 x y e w p q r h b)
      ∙ same 1 (λ z. (z && false) || false) (λ z. false) refl (between w y t))
  | inr ne ↦
      ap₂ (λ z v. z && v) (join w y e t (l2 x y e w p q r h b) q (λ i. l3 x y e w p q r h b (sym i))
      (l1 x y e w p q r h b)) (differ-true t w ne)
      ∙ same 2 (λ a b. (a || b) && true) (λ a b. (a && true) || b) refl (between w y t) (between y e t)
      ∙ ap (λ z. (between w y t && z) || between y e t) (sym (differ-true t w ne))
]

-- two rows j and k, and w
c1 : (j k w : ℕ) → j ≢ k → between j k w ≡ true → w ≢ j → is_cyclic w k j ≡ true
c1 j k w p b q = grind arith

c2 : (j k w : ℕ) → j ≢ k → between k j w ≡ true → w ≢ k → is_cyclic j k w ≡ true
c2 j k w p b q = grind arith

c3 : (j k w : ℕ) → j ≢ k → between k j w ≡ true → w ≢ j
c3 j k w p b e = grind arith

c4 : (j k w : ℕ) → j ≢ k → between j k w ≡ true → w ≢ k
c4 j k w p b e = grind arith

-- what is not from j up to w, nor w
pub rest_above : (j k w t : ℕ) → j ≢ k → between j k w ≡ true
    → (not (between j w t) && differ t w) ≡ ((between w k t && differ t w) || (between k j t && differ t w))
rest_above j k w t p b = elim (cases_eq w j) [
  | inl e ↦
      ap (λ z. not z && differ t w) (ap (λ v. between j v t) e ∙ between_same j t)
      ∙ same 2 (λ x y. y) (λ x y. (x && y) || (not x && y)) refl (between j k t) (differ t w)
      ∙ ap₂ (λ x y. (x && differ t w) || (y && differ t w)) (ap (λ v. between v k t) (sym e))
      (sym (between_back j k t p))
  | inr q ↦
      ap (λ z. z && differ t w) (sym (between_back j w t (λ e. q (sym e)))
      ∙ join w k j t (c4 j k w p b) (λ e. p (sym e)) (λ e. q (sym e)) (c1 j k w p b q))
      ∙ same 3 (λ x y z. (x || y) && z) (λ x y z. (x && z) || (y && z)) refl (between w k t) (between k j t)
      (differ t w)
]

pub rest_outside : (j k w t : ℕ) → j ≢ k → between j k w ≡ true
    → (not (between j w t) && differ t w) ≡ (above_of w k t || between k j t)
rest_outside j k w t p b = elim (cases_eq t w) [
  | inl i ↦
      let z : differ t w ≡ false = ap (λ v. differ v w) i ∙ differ-self w in
      ap (λ x. not (between j w t) && x) z ∙ and-false (not (between j w t))
      ∙ sym (ap₂ (λ x y. (between w k t && x) || y) z (ap (between k j) i ∙ between_back j k w p ∙ ap not b)
      ∙ same 1 (λ x. (x && false) || false) (λ x. false) refl (between w k t))
  | inr q ↦
      rest_above j k w t p b ∙ ap (λ x. (between w k t && differ t w) || (between k j t && x)) (differ-true t w q)
      ∙ ap (λ x. (between w k t && differ t w) || x) (and-true (between k j t))
]

pub rest_below : (j k w t : ℕ) → j ≢ k → between k j w ≡ true → between j w t ≡ (between j k t || between k w t)
rest_below j k w t p b = elim (cases_eq w k) [
  | inl e ↦
      ap (λ v. between j v t) e ∙ same 1 (λ z. z) (λ z. z || false) refl (between j k t)
      ∙ ap (λ z. between j k t || z) (sym (between_same k t)) ∙ ap (λ v. between j k t || between k v t) (sym e)
  | inr q ↦ join j k w t p (λ e. q (sym e)) (c3 j k w p b) (c2 j k w p b q)
]

pub rest_turned : (j k w t : ℕ) → j ≢ k → between k j w ≡ true
    → (not (between j w t) && differ t w) ≡ (between w j t && differ t w)
rest_turned j k w t p b = ap (λ z. z && differ t w) (sym (between_back j w t (λ e. c3 j k w p b (sym e))))

-- ---- which arc w is in
pub record IsIn (q : Place → ℕ) (v : Bool) (w : ℕ) (y : Place) : Type 0 where
  pub here : span q v y w ≡ true
  pub next_not : span q v (next y) w ≡ false
  pub last_not : span q v (next (next y)) w ≡ false

which : (x y z : Bool) → exactly x y z ≡ true
    → (m : Place) × (of_three x y z m ≡ true) × (of_three x y z (next m) ≡ false)
    × (of_three x y z (next (next m)) ≡ false)
which true true z h = absurd (true≢false (sym h))
which true false true h = absurd (true≢false (sym h))
which true false false h = (first, refl, refl, refl)
which false true true h = absurd (true≢false (sym h))
which false true false h = (second, refl, refl, refl)
which false false true h = (third, refl, refl, refl)
which false false false h = absurd (true≢false (sym h))

pub where_is : (q : Place → ℕ) → AreApart q → (w : ℕ) → (y : Place) × IsIn q (order_of q) w y
where_is q d w = go (which (at first) (at second) (at third) (one_arc q d w))
  where
    at : Place → Bool
    at m = span q (order_of q) m w

    whole : (m : Place) → of_three (at first) (at second) (at third) m ≡ at m
    whole first = refl
    whole second = refl
    whole third = refl

    go : (m : Place) × (of_three (at first) (at second) (at third) m ≡ true)
        × (of_three (at first) (at second) (at third) (next m) ≡ false)
        × (of_three (at first) (at second) (at third) (next (next m)) ≡ false) → (y : Place) × IsIn q (order_of q) w y
    go r = (
      r.0,
      record {
        here = sym (whole r.0) ∙ r.1;
        next_not = sym (whole (next r.0)) ∙ r.2;
        last_not = sym (whole (next (next r.0))) ∙ r.3;
      },
    )

-- ---- a range of rows about w: h tells of a set of rows whether it has no row of R, k whether it has none of L
pub is_cyclic-next : (a b c : ℕ) → a ≢ b → b ≢ c → c ≢ a → is_cyclic b c a ≡ is_cyclic a b c
is_cyclic-next a b c p q r = grind arith

pub is_cyclic-back : (a b c : ℕ) → a ≢ b → b ≢ c → c ≢ a → is_cyclic a c b ≡ not (is_cyclic a b c)
is_cyclic-back a b c p q r = grind arith

record Met (a x e : ℕ) : Type 0 where
  ax : a ≢ x
  xe : x ≢ e
  ea : e ≢ a
  order : is_cyclic a x e ≡ true

met_next : (a x e : ℕ) → Met a x e → Met x e a
met_next a x e d = record { ax = d.xe; xe = d.ea; ea = d.ax; order = is_cyclic-next a x e d.ax d.xe d.ea ∙ d.order }

met : (q : Place → ℕ) → AreApart q → order_of q ≡ true → Met (q first) (q second) (q third)
met q d h = record { ax = d.ab; xe = d.bc; ea = d.ca; order = h }

met_back : (q : Place → ℕ) → AreApart q → order_of q ≡ false → Met (q first) (q third) (q second)
met_back q d h =
    record {
      ax = λ e. d.ca (sym e);
      xe = λ e. d.bc (sym e);
      ea = λ e. d.ab (sym e);
      order = is_cyclic-back (q first) (q second) (q third) d.ab d.bc d.ca ∙ ap not h;
    }

whole : (a x e w : ℕ) → Met a x e → between a e w ≡ (between a x w || between x e w)
whole a x e w d = join a x e w d.ax d.xe d.ea d.order

in_case : (b x : Bool) → b ≡ true → (b && x) ≡ x
in_case b x h = ap (λ r. r && x) h

out_case : (b x : Bool) → b ≡ false → (b && x) ≡ false
out_case b x h = ap (λ r. r && x) h

module _ (h k : (ℕ → Bool) → Bool) (ha : IsAdditive h) (ka : IsAdditive k) (w : ℕ) where
  low_case : (a x e : ℕ) → Met a x e → between a x w ≡ true
      → (between a e w && (h (between a w) && k (above_of w e)))
      ≡ (h (between a w) && (k (above_of w x) && k (between x e)))
  low_case a x e d i =
      ap (λ r. r && (h (between a w) && k (above_of w e))) (whole a x e w d ∙ ap (λ r. r || between x e w) i)
      ∙ ap (λ r. h (between a w) && r)
      (ap k (fun_ext (λ t. join_above a x e w t d.ax d.xe d.ea d.order i)) ∙ ka (above_of w x) (between x e))

  high_case : (a x e : ℕ) → Met a x e → between x e w ≡ true
      → (between a e w && (h (between a w) && k (above_of w e)))
      ≡ ((h (between a x) && h (between x w)) && k (above_of w e))
  high_case a x e d i =
      ap (λ r. r && (h (between a w) && k (above_of w e)))
      (whole a x e w d ∙ ap (λ r. between a x w || r) i ∙ same 1 (λ z. z || true) (λ z. true) refl (between a x w))
      ∙ ap (λ r. r && k (above_of w e))
      (ap h (fun_ext (λ t. join_below a x e w t d.ax d.xe d.ea d.order i)) ∙ ha (between a x) (between x w))

  none_case : (a x e : ℕ) → Met a x e → between a x w ≡ false → between x e w ≡ false
      → (between a e w && (h (between a w) && k (above_of w e))) ≡ false
  none_case a x e d i j = out_case _ _ (whole a x e w d ∙ (λ z. i z || j z))

  pent_at : (q : Place → ℕ) → AreApart q → (v : Bool) → order_of q ≡ v → (s : Bool) (m y : Place) → IsIn q v w y
      → (between (start_of q s m) (end_of q s m) w && (h (between (start_of q s m) w) && k (above_of w (end_of q s m))))
      ≡ pent v y (λ x. k (span q v x)) (λ x. h (span q v x)) (h (between (start_of q v y) w))
      (k (above_of w (end_of q v y))) s m
  pent_at q d true f true first first i = in_case _ _ i.here
  pent_at q d true f true first second i = out_case _ _ i.last_not
  pent_at q d true f true first third i = out_case _ _ i.next_not
  pent_at q d true f true second first i = out_case _ _ i.next_not
  pent_at q d true f true second second i = in_case _ _ i.here
  pent_at q d true f true second third i = out_case _ _ i.last_not
  pent_at q d true f true third first i = out_case _ _ i.last_not
  pent_at q d true f true third second i = out_case _ _ i.next_not
  pent_at q d true f true third third i = in_case _ _ i.here
  pent_at q d true f false first first i =
      none_case (q second) (q third) (q first)
      (met_next (q first) (q second) (q third) (met q d f)) i.next_not i.last_not
  pent_at q d true f false first second i =
      low_case (q second) (q third) (q first) (met_next (q first) (q second) (q third) (met q d f)) i.here
  pent_at q d true f false first third i =
      high_case (q second) (q third) (q first) (met_next (q first) (q second) (q third) (met q d f)) i.here
  pent_at q d true f false second first i =
      high_case (q third) (q first) (q second)
      (met_next (q second) (q third) (q first) (met_next (q first) (q second) (q third) (met q d f))) i.here
  pent_at q d true f false second second i =
      none_case (q third) (q first) (q second)
      (met_next (q second) (q third) (q first) (met_next (q first) (q second) (q third) (met q d f))) i.next_not
      i.last_not
  pent_at q d true f false second third i =
      low_case (q third) (q first) (q second)
      (met_next (q second) (q third) (q first) (met_next (q first) (q second) (q third) (met q d f))) i.here
  pent_at q d true f false third first i = low_case (q first) (q second) (q third) (met q d f) i.here
  pent_at q d true f false third second i = high_case (q first) (q second) (q third) (met q d f) i.here
  pent_at q d true f false third third i = none_case (q first) (q second) (q third) (met q d f) i.next_not i.last_not
  pent_at q d false f true first first i =
      none_case (q first) (q third) (q second) (met_back q d f) i.last_not i.next_not
  pent_at q d false f true first second i = high_case (q first) (q third) (q second) (met_back q d f) i.here
  pent_at q d false f true first third i = low_case (q first) (q third) (q second) (met_back q d f) i.here
  pent_at q d false f true second first i =
      low_case (q second) (q first) (q third)
      (met_next (q third) (q second) (q first) (met_next (q first) (q third) (q second) (met_back q d f))) i.here
  pent_at q d false f true second second i =
      none_case (q second) (q first) (q third)
      (met_next (q third) (q second) (q first) (met_next (q first) (q third) (q second) (met_back q d f))) i.last_not
      i.next_not
  pent_at q d false f true second third i =
      high_case (q second) (q first) (q third)
      (met_next (q third) (q second) (q first) (met_next (q first) (q third) (q second) (met_back q d f))) i.here
  pent_at q d false f true third first i =
      high_case (q third) (q second) (q first) (met_next (q first) (q third) (q second) (met_back q d f)) i.here
  pent_at q d false f true third second i =
      low_case (q third) (q second) (q first) (met_next (q first) (q third) (q second) (met_back q d f)) i.here
  pent_at q d false f true third third i =
      none_case (q third) (q second) (q first)
      (met_next (q first) (q third) (q second) (met_back q d f)) i.last_not i.next_not
  pent_at q d false f false first first i = in_case _ _ i.here
  pent_at q d false f false first second i = out_case _ _ i.last_not
  pent_at q d false f false first third i = out_case _ _ i.next_not
  pent_at q d false f false second first i = out_case _ _ i.next_not
  pent_at q d false f false second second i = in_case _ _ i.here
  pent_at q d false f false second third i = out_case _ _ i.last_not
  pent_at q d false f false third first i = out_case _ _ i.last_not
  pent_at q d false f false third second i = out_case _ _ i.next_not
  pent_at q d false f false third third i = in_case _ _ i.here

  pub pent_is : (q : Place → ℕ) → AreApart q → (y : Place) → IsIn q (order_of q) w y → (s : Bool) (m : Place)
      → (between (start_of q s m) (end_of q s m) w && (h (between (start_of q s m) w) && k (above_of w (end_of q s m))))
      ≡ pent (order_of q) y (λ x. k (span q (order_of q) x)) (λ x. h (span q (order_of q) x))
      (h (between (start_of q (order_of q) y) w)) (k (above_of w (end_of q (order_of q) y))) s m
  pent_is q d y i s m = pent_at q d (order_of q) refl s m y i
