-- What is known of the arcs of rows, if no row of s is between v and w and no row of r between w and v.
use Rattle.std.proofs.Common.{◌≡◌, ◌≢◌, ◌⊎◌, ℕ, ◌<◌, ◌≤◌, Bool, true, false, not, ◌||◌, refl, ap, ap₂, ◌∙◌, sym, subst, arith, inl, inr, true≢false}
use Rattle.std.proofs.lemmas.Bool.{cases_Bool, and_parts, eq-eqb}
use Rattle.f2_algebra.proofs.Chains.Tables.{same, and_comm}
use Rattle.rectangles.proofs.Square.TwoSteps.{differ}
use Rattle.rectangles.proofs.Square.CyclicOrder.{between, between_other, is_cyclic, Place, first, second, third, span, order_of, AreApart}
use Rattle.rectangles.proofs.Square.ThreeColumns.{start_of, end_of, span_is}
use Rattle.pentagon_map.proofs.ChainMap.RowArcs.{is_cyclic-back, is_cyclic-next, above_of, IsIn}
use Rattle.pentagon_map.proofs.Degrees.CountedFrom.{counted_from, counted_from-apart, counted_from-one}
use Rattle.hexagon_map.proofs.WayBack.RotatedRows.{in_low, in_high, make_in, make_wrap, make_out}
use Rattle.hexagon_map.proofs.WayBack.RowFacts as F
use Rattle.hexagon_map.proofs.WayBack.RowFacts.{Order, early, late, above, below, Lies, lies, k, into, into_first, into_last, away, zero_in, zero_back, make_back, make_back_out, hex_rows, at_first, but_second, but_third}
use Rattle.hexagon_map.proofs.WayBack.HexagonWeights.{up, rel, arc_of, Shape, all_rel}
use Rattle.pentagon_map.proofs.ChainMap.PentagonTests.{lacks, lacks_add}

-- three arcs, from a, x and e
pub record Arcs (n a x e : ℕ) : Type 0 where
  pub a_below : a < n
  pub x_below : x < n
  pub e_below : e < n
  pub ax : a ≢ x
  pub xe : x ≢ e
  pub ea : e ≢ a
  pub met : is_cyclic a x e ≡ true

arcs_next : (n a x e : ℕ) → Arcs n a x e → Arcs n x e a
arcs_next n a x e d = record {
  a_below = d.x_below;
  x_below = d.e_below;
  e_below = d.a_below;
  ax = d.xe;
  xe = d.ea;
  ea = d.ax;
  met =
      is_cyclic-next a x e d.ax d.xe d.ea ∙ d.met;
}

module _ (n : ℕ) (q : Place → ℕ) (d : AreApart q) (small : (t : Place) → q t < n) where
  going : order_of q ≡ true → Arcs n (q first) (q second) (q third)
  going h = record {
    a_below = small first;
    x_below = small second;
    e_below = small third;
    ax = d.ab;
    xe = d.bc;
    ea =
        d.ca;
    met = h;
  }

  coming : order_of q ≡ false → Arcs n (q first) (q third) (q second)
  coming h = record {
    a_below = small first;
    x_below = small third;
    e_below = small second;
    ax = λ e. d.ca (sym e);
    xe = λ e. d.bc (sym e);
    ea = λ e. d.ab (sym e);
    met = is_cyclic-back (q first) (q second) (q third) d.ab d.bc d.ca ∙ ap not h;
  }

  pub arcs : (v : Bool) → order_of q ≡ v → (y : Place) → Arcs n (start_of q v y) (end_of q v y) (end_of q v (up v y))
  arcs true h first = going h
  arcs true h second = arcs_next n (q first) (q second) (q third) (going h)
  arcs true h third = arcs_next n (q second) (q third) (q first) (arcs_next n (q first) (q second) (q third) (going h))
  arcs false h third = coming h
  arcs false h second = arcs_next n (q first) (q third) (q second) (coming h)
  arcs false h first = arcs_next n (q third) (q second) (q first)
      (arcs_next n (q first) (q third) (q second) (coming h))

lo_up : (q : Place → ℕ) (v : Bool) (y : Place) → start_of q v (up v y) ≡ end_of q v y
lo_up q true first = refl
lo_up q true second = refl
lo_up q true third = refl
lo_up q false first = refl
lo_up q false second = refl
lo_up q false third = refl

hi_third : (q : Place → ℕ) (v : Bool) (y : Place) → end_of q v (up v (up v y)) ≡ start_of q v y
hi_third q true first = refl
hi_third q true second = refl
hi_third q true third = refl
hi_third q false first = refl
hi_third q false second = refl
hi_third q false third = refl

lo_third : (q : Place → ℕ) (v : Bool) (y : Place) → start_of q v (up v (up v y)) ≡ end_of q v (up v y)
lo_third q v y = lo_up q v (up v y)

around : (v : Bool) (y : Place) → up v (up v (up v y)) ≡ y
around true first = refl
around true second = refl
around true third = refl
around false first = refl
around false second = refl
around false third = refl

in_arc : (q : Place → ℕ) (v : Bool) (t : ℕ) (y : Place) → span q v y t ≡ true → span q v (up v y) t ≡ false
    → span q v (up v (up v y)) t ≡ false → IsIn q v t y
in_arc q true t y h i j = record { here = h; next_not = i; last_not = j }
in_arc q false t first h i j = record { here = h; next_not = j; last_not = i }
in_arc q false t second h i j = record { here = h; next_not = j; last_not = i }
in_arc q false t third h i j = record { here = h; next_not = j; last_not = i }

module _ (n r s w v : ℕ) (O X : ℕ → ℕ) (small : (c : ℕ) → c < n → (O c < n) × (X c < n)) (lr : r < n) (ls : s < n)
    (lw : w < n) (lv : v < n) (vw : v ≢ w)
    (lacks_s : lacks O X s (above_of v w) ≡ true) (lacks_r : lacks O X r (above_of w v) ≡ true) where
  pub sub_lacks : (c : ℕ) → c < n → (P Q : ℕ → Bool) → lacks O X c Q ≡ true
      → ((t : ℕ) → t < n → P t ≡ true → Q t ≡ true) → lacks O X c P ≡ true
  sub_lacks c lc P Q h sub = elim (cases_Bool (P (O c))) [
    | inl e ↦ absurd (true≢false (sym h ∙ ap (λ b. not (b || Q (X c))) (sub (O c) (small c lc).0 e)))
    | inr e ↦ elim (cases_Bool (P (X c))) [
      | inl i ↦ absurd (true≢false
          (sym h ∙ ap (λ b. not (Q (O c) || b)) (sub (X c) (small c lc).1 i)
          ∙ same 1 (λ b. not (b || true)) (λ b. false) refl (Q (O c))))
      | inr i ↦ λ j. not (e j || i j)
    ]
  ]

  same_lacks : (c : ℕ) → c < n → (P Q : ℕ → Bool) → ((t : ℕ) → t < n → P t ≡ Q t) → lacks O X c P ≡ lacks O X c Q
  same_lacks c lc P Q h = λ i. not (h (O c) (small c lc).0 i || h (X c) (small c lc).1 i)

  module _ (q : Place → ℕ) (d : AreApart q) (q-small : (t : Place) → q t < n) (V : Bool) (turned : order_of q ≡ V)
      (y : Place) (w_in : span q V y w ≡ true) where
    abbrev pub a : ℕ
    a = start_of q V y

    abbrev pub x : ℕ
    x = end_of q V y

    abbrev pub e : ℕ
    e = end_of q V (up V y)

    A : Arcs n (start_of q V y) (end_of q V y) (end_of q V (up V y))
    A = arcs n q d q-small V turned y

    abbrev K : ℕ → ℕ
    K t = counted_from n (start_of q V y) t

    pub x_off : 0 < K x
    x_off = counted_from-apart n a x A.a_below (λ i. A.ax (sym i))

    pub x-e : K x < K e
    x-e = zero_in (K e) (K x)
        (sym (into_first n a A.a_below e x A.e_below A.x_below) ∙ between_other a e x (λ i. A.ax (sym i)) A.xe ∙ A.met)

    pub w-x : K w < K x
    w-x = zero_in (K x) (K w)
        (sym (into_first n a A.a_below x w A.x_below lw) ∙ ap (λ (h : ℕ → Bool). h w) (span_is q V y) ∙ w_in)

    pub placed : (o : Order) × Lies o (K x) (K e) (K w) (K v)
    placed = lies (K x) (K e) (K w) (K v) w-x x-e (λ i. vw (counted_from-one n a v w A.a_below lv lw i))

    -- v in the three arcs
    first_arc : span q V y v ≡ between 0 (K x) (K v)
    first_arc = sym (ap (λ (h : ℕ → Bool). h v) (span_is q V y)) ∙ into_first n a A.a_below x v A.x_below lv

    second_arc : span q V (up V y) v ≡ between (K x) (K e) (K v)
    second_arc = sym (ap (λ (h : ℕ → Bool). h v) (span_is q V (up V y))) ∙ ap (λ (z : ℕ). between z e v) (lo_up q V y)
        ∙ into n a A.a_below x e v A.x_below A.e_below lv

    third_arc : span q V (up V (up V y)) v ≡ between (K e) 0 (K v)
    third_arc =
        sym (ap (λ (h : ℕ → Bool). h v) (span_is q V (up V (up V y))))
        ∙ ap₂ (λ (z t : ℕ). between z t v) (lo_third q V y) (hi_third q V y) ∙ into_last n a A.a_below e v A.e_below lv

    pub v_in : (o : Order) → Lies o (K x) (K e) (K w) (K v) → IsIn q V v (arc_of V y o)
    v_in early h =
        let i = w-x in let j = x-e in
        in_arc q V v y (first_arc ∙ make_in 0 (K x) (K v) (omega arith) (omega arith))
        (second_arc ∙ make_out (K x) (K e) (K v) (omega arith) (inl (omega arith)))
        (third_arc ∙ make_back_out (K e) (K v) (omega arith) (omega arith))
    v_in late (g, h) =
        let i = w-x in let j = x-e in
        in_arc q V v y (first_arc ∙ make_in 0 (K x) (K v) (omega arith) h)
        (second_arc ∙ make_out (K x) (K e) (K v) (omega arith) (inl h))
        (third_arc ∙ make_back_out (K e) (K v) (omega arith) (omega arith))
    v_in above (g, h) =
        let i = w-x in let j = x-e in
        in_arc q V v (up V y) (second_arc ∙ make_in (K x) (K e) (K v) g h)
        (third_arc ∙ make_back_out (K e) (K v) (omega arith) h)
        (subst (λ (t : Place). span q V t v ≡ false) (sym (around V y))
        (first_arc ∙ make_out 0 (K x) (K v) (omega arith) (inr g)))
    v_in below h =
        let i = w-x in let j = x-e in
        in_arc q V v (up V (up V y)) (third_arc ∙ make_back (K e) (K v) (omega arith) h)
        (subst (λ (t : Place). span q V t v ≡ false) (sym (around V y))
        (first_arc ∙ make_out 0 (K x) (K v) (omega arith) (inr (omega arith))))
        (subst (λ (t : Place). span q V (up V t) v ≡ false) (sym (around V y))
        (second_arc ∙ make_out (K x) (K e) (K v) (omega arith) (inr h)))

    -- rows of the arcs, counted from a
    abbrev in_second : ℕ → Bool
    in_second t = between (end_of q V y) (end_of q V (up V y)) t

    abbrev in_third : ℕ → Bool
    in_third t = between (end_of q V (up V y)) (start_of q V y) t

    second_from : (t : ℕ) → t < n → in_second t ≡ true → (K x ≤ K t) × (K t < K e)
    second_from t lt h =
        let j = x-e in
        let c = sym (into n a A.a_below x e t A.x_below A.e_below lt) ∙ h in
        (in_low (K x) (K e) (K t) (omega arith) c, in_high (K x) (K e) (K t) (omega arith) c)

    third_from : (t : ℕ) → t < n → in_third t ≡ true → K e ≤ K t
    third_from t lt h = let j = x-e in
        zero_back (K e) (K t) (omega arith) (sym (into_last n a A.a_below e t A.e_below lt) ∙ h)

    off_first : (t : ℕ) → t < n → K x ≤ K t → between a x t ≡ false
    off_first t lt h = into_first n a A.a_below x t A.x_below lt ∙ make_out 0 (K x) (K t) (omega arith) (inr h)

    -- v and w pass 0 on the way: what is from v on, or before w, is between v and w
    wraps : (t : ℕ) → t < n → K w < K v → (K v ≤ K t) ⊎ (K t < K w) → K t ≢ K v → above_of v w t ≡ true
    wraps t lt h i p = away n a A.a_below v w t lv lw lt (make_wrap (K v) (K w) (K t) h i) p

    goes : (t : ℕ) → t < n → K w < K t → K t < K v → above_of w v t ≡ true
    goes t lt h i = away n a A.a_below w v t lw lv lt (make_in (K w) (K v) (K t) (omega arith) i) (omega arith)

    not_same : (t : ℕ) → t < n → differ t v ≡ true → K t ≢ K v
    not_same t lt h i = true≢false (sym h ∙ ap (λ b. not b) (eq-eqb t v (counted_from-one n a t v A.a_below lt lv i)))

    abbrev pub L : Place → Bool
    L t = lacks O X r (span q V t)

    abbrev pub R : Place → Bool
    R t = lacks O X s (span q V t)

    second_lacks : (c : ℕ) → lacks O X c (span q V (up V y)) ≡ lacks O X c in_second
    second_lacks c = ap (lacks O X c) (sym (span_is q V (up V y)))
        ∙ ap (λ (z : ℕ). lacks O X c (between z e)) (lo_up q V y)

    third_lacks : (c : ℕ) → lacks O X c (span q V (up V (up V y))) ≡ lacks O X c in_third
    third_lacks c = ap (lacks O X c) (sym (span_is q V (up V (up V y))))
        ∙ ap₂ (λ (z t : ℕ). lacks O X c (between z t)) (lo_third q V y) (hi_third q V y)

    first_lacks : (c : ℕ) → lacks O X c (span q V y) ≡ lacks O X c (between a x)
    first_lacks c = ap (lacks O X c) (sym (span_is q V y))

    abbrev pub TheShape : Order → Type 0
    TheShape o = Shape V y o L R (lacks O X s (between (start_of q V y) w)) (lacks O X r (above_of w (end_of q V y)))
        (lacks O X r (between (start_of q V (arc_of V y o)) v)) (lacks O X s (above_of v (end_of q V (arc_of V y o))))

    pub row_shape : (o : Order) → Lies o (K x) (K e) (K w) (K v) → TheShape o
    row_shape early h =
        let j = x-e in
        let i = w-x in
        let out = λ (t : ℕ) (lt : t < n) (g : K x ≤ K t). F.outside n a A.a_below x v w t A.x_below lv lw lt h w-x
        (off_first t lt g) in
        let l1 = second_lacks r ∙ sub_lacks r lr in_second (above_of w v) lacks_r
        (λ t lt g. out t lt (second_from t lt g).0) in
        let l2 = third_lacks r ∙ sub_lacks r lr in_third (above_of w v) lacks_r
        (λ t lt g. out t lt (let u = third_from t lt g in omega arith)) in
        record {
          a = L y;
          b = lacks O X s (between a w);
          c = lacks O X s (above_of v x);
          d = R (up V y);
          e = R (up V (up V y));
          left_is = all_rel V y L ∙ (λ z. rel V y (L y) (l1 z) (l2 z));
          right_is = all_rel V y R ∙ ap (λ (z : Bool). rel V y z (R (up V y)) (R (up V (up V y))))
              (first_lacks s ∙ same_lacks s ls (between a x) (λ t. between a w t || above_of v x t)
              (λ t lt. F.in_two n a A.a_below x v w t A.x_below lv lw lt h w-x)
              ∙ lacks_add O X s (between a w) (above_of v x));
          rm-is = refl;
          lp-is = sub_lacks r lr (above_of w x) (above_of w v) lacks_r
              (λ t lt g. F.above_second n a A.a_below x v w t A.x_below lv lw lt h w-x g);
          lb-is = sub_lacks r lr (between a v) (above_of w v) lacks_r
              (λ t lt g. F.below_first n a A.a_below x v w t A.x_below lv lw lt h w-x g);
          rb-is = refl;
        }
    row_shape late (h, g0) =
        let j = x-e in
        let i = w-x in
        let out = λ (t : ℕ) (lt : t < n) (g : K x ≤ K t). F.outside n a A.a_below x w v t A.x_below lw lv lt h g0
        (off_first t lt g) in
        let r1 = second_lacks s ∙ sub_lacks s ls in_second (above_of v w) lacks_s
        (λ t lt g. out t lt (second_from t lt g).0) in
        let r2 = third_lacks s ∙ sub_lacks s ls in_third (above_of v w) lacks_s
        (λ t lt g. out t lt (let u = third_from t lt g in omega arith)) in
        record {
          a = R y;
          b = lacks O X r (above_of w x);
          c = lacks O X r (between a v);
          d = L (up V y);
          e = L (up V (up V y));
          left_is = all_rel V y L ∙ ap (λ (z : Bool). rel V y z (L (up V y)) (L (up V (up V y))))
              (first_lacks r ∙ same_lacks r lr (between a x) (λ t. between a v t || above_of w x t)
              (λ t lt. F.in_two n a A.a_below x w v t A.x_below lw lv lt h g0)
              ∙ lacks_add O X r (between a v) (above_of w x)
              ∙ and_comm (lacks O X r (between a v)) (lacks O X r (above_of w x)));
          right_is = all_rel V y R ∙ (λ z. rel V y (R y) (r1 z) (r2 z));
          rm-is = sub_lacks s ls (between a w) (above_of v w) lacks_s
              (λ t lt g. F.below_first n a A.a_below x w v t A.x_below lw lv lt h g0 g);
          lp-is = refl;
          lb-is = refl;
          rb-is = sub_lacks s ls (above_of v x) (above_of v w) lacks_s
              (λ t lt g. F.above_second n a A.a_below x w v t A.x_below lw lv lt h g0 g);
        }
    row_shape above (h, g0) =
        let j = x-e in
        let i = w-x in
        let r2 = third_lacks s ∙ sub_lacks s ls in_third (above_of v w) lacks_s
        (λ t lt g. let u = third_from t lt g in wraps t lt (omega arith) (inl (omega arith)) (omega arith)) in
        record {
          a = L y;
          b = L (up V y);
          c = L (up V (up V y));
          d = R y;
          e = R (up V y);
          left_is = all_rel V y L;
          right_is = all_rel V y R ∙ ap (λ (z : Bool). rel V y (R y) (R (up V y)) z) r2;
          rm-is = sub_lacks s ls (between a w) (above_of v w) lacks_s
              (λ t lt g. F.below_w n a A.a_below x w v t A.x_below lw lv lt w-x h g);
          lp-is = sub_lacks r lr (above_of w x) (above_of w v) lacks_r
              (λ t lt g. F.above_w n a A.a_below x w v t A.x_below lw lv lt w-x h g);
          lb-is = ap (λ (z : ℕ). lacks O X r (between z v)) (lo_up q V y)
              ∙ sub_lacks r lr (between x v) (above_of w v) lacks_r (λ t lt g.
              let c = sym (into n a A.a_below x v t A.x_below lv lt) ∙ g in
              let u = in_low (K x) (K v) (K t) h c in
              goes t lt (omega arith) (in_high (K x) (K v) (K t) h c));
          rb-is = sub_lacks s ls (above_of v e) (above_of v w) lacks_s (λ t lt g.
              let m = and_parts (between v e t) (differ t v) g in
              let c = sym (into n a A.a_below v e t lv A.e_below lt) ∙ m.0 in
              wraps t lt (omega arith) (inl (in_low (K v) (K e) (K t) (omega arith) c)) (not_same t lt m.1));
        }
    row_shape below h =
        let j = x-e in
        let i = w-x in
        let out : K x ≤ K v = omega arith in
        let l1 = second_lacks r ∙ sub_lacks r lr in_second (above_of w v) lacks_r
        (λ t lt g. let u = second_from t lt g in let u0 = u.0 in let u1 = u.1 in
        goes t lt (omega arith) (omega arith)) in
        record {
          a = L y;
          b = L (up V (up V y));
          c = R y;
          d = R (up V y);
          e = R (up V (up V y));
          left_is = all_rel V y L ∙ ap (λ (z : Bool). rel V y (L y) z (L (up V (up V y)))) l1;
          right_is = all_rel V y R;
          rm-is = sub_lacks s ls (between a w) (above_of v w) lacks_s
              (λ t lt g. F.below_w n a A.a_below x w v t A.x_below lw lv lt w-x out g);
          lp-is = sub_lacks r lr (above_of w x) (above_of w v) lacks_r
              (λ t lt g. F.above_w n a A.a_below x w v t A.x_below lw lv lt w-x out g);
          lb-is = ap (λ (z : ℕ). lacks O X r (between z v)) (lo_third q V y)
              ∙ sub_lacks r lr (between e v) (above_of w v) lacks_r (λ t lt g.
              let c = sym (into n a A.a_below e v t A.e_below lv lt) ∙ g in
              let u = in_low (K e) (K v) (K t) h c in
              goes t lt (omega arith) (in_high (K e) (K v) (K t) h c));
          rb-is = ap (λ (z : ℕ). lacks O X s (above_of v z)) (hi_third q V y)
              ∙ sub_lacks s ls (above_of v a) (above_of v w) lacks_s (λ t lt g.
              let m = and_parts (between v a t) (differ t v) g in
              let c = sym (into_last n a A.a_below v t lv lt) ∙ m.0 in
              wraps t lt (omega arith) (inl (zero_back (K v) (K t) (omega arith) c)) (not_same t lt m.1));
        }
