-- Where two rows w and v lie among the arcs into which three rows cut the circle of rows: what follows for ranges of
-- rows.
use Rattle.std.proofs.Common.{◌≡◌, ◌≢◌, ℕ, ◌<◌, ◌≤◌, Bool, true, false, ◌&&◌, ◌||◌, refl, ap, ap₂, ◌∙◌, sym, arith, inl, inr}
use Rattle.std.proofs.lemmas.Bool.{cases_lt, and_from, and_parts}
use Rattle.f2_algebra.proofs.Chains.Tables.{same, and-false}
use Rattle.rectangles.proofs.Square.TwoSteps.{differ, differ-true}
use Rattle.rectangles.proofs.Square.CyclicOrder.{between}
use Rattle.pentagon_map.proofs.ChainMap.RowArcs.{above_of}
use Rattle.pentagon_map.proofs.Degrees.CountedFrom.{between-counted_from, counted_from, counted_from-self}
use Rattle.hexagon_map.proofs.WayBack.RotatedRows.{in_low, in_high, make_in, make_wrap, make_out, make_gap}

pub zero_in : (y t : ℕ) → between 0 y t ≡ true → t < y
zero_in y t h = grind arith

pub zero_out : (y t : ℕ) → between 0 y t ≡ false → y ≤ t
zero_out y t h = grind arith

pub zero_back : (x t : ℕ) → 0 < x → between x 0 t ≡ true → x ≤ t
zero_back x t l h = grind arith

pub make_back : (x t : ℕ) → 0 < x → x ≤ t → between x 0 t ≡ true
make_back x t l h = grind arith

pub make_back_out : (x t : ℕ) → 0 < x → t < x → between x 0 t ≡ false
make_back_out x t l h = grind arith

module _ (n a : ℕ) (la : a < n) where
  abbrev pub k : ℕ → ℕ
  k t = counted_from n a t

  -- a range and its rows, counted from a
  pub into : (x y t : ℕ) → x < n → y < n → t < n → between x y t ≡ between (k x) (k y) (k t)
  into x y t lx ly lt = sym (between-counted_from n a x y t la lx ly lt)

  pub into_first : (y t : ℕ) → y < n → t < n → between a y t ≡ between 0 (k y) (k t)
  into_first y t ly lt = into a y t la ly lt ∙ ap (λ z. between z (k y) (k t)) (counted_from-self n a)

  pub into_last : (x t : ℕ) → x < n → t < n → between x a t ≡ between (k x) 0 (k t)
  into_last x t lx lt = into x a t lx la lt ∙ ap (λ z. between (k x) z (k t)) (counted_from-self n a)

  pub from-differ : (s t : ℕ) → s < n → t < n → k s ≢ k t → s ≢ t
  from-differ s t ls lt p e = p (ap k e)

  pub away : (p q t : ℕ) → p < n → q < n → t < n → between (k p) (k q) (k t) ≡ true → k t ≢ k p → above_of p q t ≡ true
  away p q t lp lq lt h d = and_from _ _ (into p q t lp lq lt ∙ h) (differ-true t p (from-differ t p lt lp d))

  -- the first arc is from a up to b; w is in it, v is not
  module _ (b w v t : ℕ) (lb : b < n) (lw : w < n) (lv : v < n) (lt : t < n) (w_in : k w < k b) (v_out : k b ≤ k v)
    where
      pub below_w : between a w t ≡ true → above_of v w t ≡ true
      below_w h = let i = zero_in (k w) (k t) (sym (into_first w t lw lt) ∙ h) in
          away v w t lv lw lt (make_wrap (k v) (k w) (k t) (omega arith) (inr i)) (omega arith)

      pub above_w : above_of w b t ≡ true → above_of w v t ≡ true
      above_w h =
          let p = and_parts (between w b t) (differ t w) h in
          let c = sym (into w b t lw lb lt) ∙ p.0 in
          let i = in_low (k w) (k b) (k t) (omega arith) c in
          let j = in_high (k w) (k b) (k t) (omega arith) c in
          and_from _ _ (into w v t lw lv lt ∙ make_in (k w) (k v) (k t) i (omega arith)) p.1

  -- p and q are in the first arc, p first
  module _ (b p q t : ℕ) (lb : b < n) (lp : p < n) (lq : q < n) (lt : t < n) (first : k p < k q) (inn : k q < k b) where
    pub outside : between a b t ≡ false → above_of q p t ≡ true
    outside h = let i = zero_out (k b) (k t) (sym (into_first b t lb lt) ∙ h) in
        away q p t lq lp lt (make_wrap (k q) (k p) (k t) first (inl (omega arith))) (omega arith)

    pub above_second : above_of q b t ≡ true → above_of q p t ≡ true
    above_second h =
        let r = and_parts (between q b t) (differ t q) h in
        let c = sym (into q b t lq lb lt) ∙ r.0 in
        let i = in_low (k q) (k b) (k t) (omega arith) c in
        and_from _ _ (into q p t lq lp lt ∙ make_wrap (k q) (k p) (k t) first (inl i)) r.1

    pub below_first : between a p t ≡ true → above_of q p t ≡ true
    below_first h = let i = zero_in (k p) (k t) (sym (into_first p t lp lt) ∙ h) in
        away q p t lq lp lt (make_wrap (k q) (k p) (k t) first (inr i)) (omega arith)

    pub in_two : between a b t ≡ (between a q t || above_of p b t)
    in_two = elim (cases_lt (k t) (k b)) [
      | inl h ↦ elim (cases_lt (k t) (k q)) [
        | inl i ↦
            (into_first b t lb lt ∙ make_in 0 (k b) (k t) (omega arith) h)
            ∙ sym (ap (λ z. z || above_of p b t) (into_first q t lq lt ∙ make_in 0 (k q) (k t) (omega arith) i))
        | inr i ↦
            (into_first b t lb lt ∙ make_in 0 (k b) (k t) (omega arith) h)
            ∙ sym (ap (λ z. between a q t || z)
            (away p b t lp lb lt (make_in (k p) (k b) (k t) (omega arith) h) (omega arith))
            ∙ same 1 (λ z. z || true) (λ z. true) refl (between a q t))
      ]
      | inr h ↦
          (into_first b t lb lt ∙ make_out 0 (k b) (k t) (omega arith) (inr h))
          ∙ sym (ap₂ (λ x y. x || (y && differ t p))
          (into_first q t lq lt ∙ make_out 0 (k q) (k t) (omega arith) (inr (omega arith)))
          (into p b t lp lb lt ∙ make_out (k p) (k b) (k t) (omega arith) (inr h)))
    ]

  -- three arcs, from a, x and e; p is in the first and q in the last
  module _ (x e p q t : ℕ) (lx : x < n) (le : e < n) (lp : p < n) (lq : q < n) (lt : t < n) (xe : k x < k e)
      (p_in : k p < k x) (q_in : k e ≤ k q) where
    pub middle : between x e t ≡ true → above_of p q t ≡ true
    middle h =
        let c = sym (into x e t lx le lt) ∙ h in
        let i = in_low (k x) (k e) (k t) (omega arith) c in
        let j = in_high (k x) (k e) (k t) (omega arith) c in
        away p q t lp lq lt (make_in (k p) (k q) (k t) (omega arith) (omega arith)) (omega arith)

-- ---- hexagons: the range of rows has both rows, and meets v first if c is on the right, w if it is on the left
abbrev pub hex_rows : ℕ → ℕ → Bool → Bool → ℕ → ℕ → Bool
hex_rows w v right left j k = ((right && between j w v) || (left && between j v w)) && (between j k v && between j k w)

pub data Order : Type 0 where
  -- v is in the arc of w, before it or after it; or in the arc after that of w, or in the one before
  early late above below : Order

-- counted from the start of the arc of w: its end x, the end e of the next arc, w, and v
abbrev pub Lies : Order → ℕ → ℕ → ℕ → ℕ → Type 0
Lies early x e w v = v < w
Lies late x e w v = (w < v) × (v < x)
Lies above x e w v = (x ≤ v) × (v < e)
Lies below x e w v = e ≤ v

pub lies : (x e w v : ℕ) → w < x → x < e → v ≢ w → (o : Order) × Lies o x e w v
lies x e w v wx xe p = elim (cases_lt v w) [
  | inl h ↦ (early, h)
  | inr h ↦ elim (cases_lt v x) [
    | inl i ↦ (late, (omega arith, i))
    | inr i ↦ elim (cases_lt v e) [ inl j ↦ (above, (i, j)) | inr j ↦ (below, j) ]
  ]
]

hex_out : (w v : ℕ) (r l : Bool) (j k : ℕ) → between j k w ≡ false → hex_rows w v r l j k ≡ false
hex_out w v r l j k h =
    ap (λ z. ((r && between j w v) || (l && between j v w)) && (between j k v && z)) h
    ∙ same 2 (λ x y. x && (y && false)) (λ x y. false) refl ((r && between j w v) || (l && between j v w))
    (between j k v)

hex_none : (w v : ℕ) (r l : Bool) (j k : ℕ) → between j k v ≡ false → hex_rows w v r l j k ≡ false
hex_none w v r l j k h = ap (λ z. ((r && between j w v) || (l && between j v w)) && (z && between j k w)) h
    ∙ and-false ((r && between j w v) || (l && between j v w))

hex_right : (w v : ℕ) (r l : Bool) (j k : ℕ) → between j w v ≡ true → between j v w ≡ false → between j k v ≡ true
    → between j k w ≡ true → hex_rows w v r l j k ≡ r
hex_right w v r l j k h1 h2 h3 h4 = (λ i. ((r && h1 i) || (l && h2 i)) && (h3 i && h4 i))
    ∙ same 2 (λ r l. ((r && true) || (l && false)) && true) (λ r l. r) refl r l

hex_left : (w v : ℕ) (r l : Bool) (j k : ℕ) → between j w v ≡ false → between j v w ≡ true → between j k v ≡ true
    → between j k w ≡ true → hex_rows w v r l j k ≡ l
hex_left w v r l j k h1 h2 h3 h4 = (λ i. ((r && h1 i) || (l && h2 i)) && (h3 i && h4 i))
    ∙ same 2 (λ r l. ((r && false) || (l && true)) && true) (λ r l. l) refl r l

-- what each of the six ranges gives
abbrev pub at_first : Order → Bool → Bool → Bool
at_first early r l = r
at_first late r l = l
at_first above r l = false
at_first below r l = false

abbrev pub but_second : Order → Bool → Bool → Bool
but_second early r l = r
but_second late r l = l
but_second above r l = false
but_second below r l = r

abbrev pub but_third : Order → Bool → Bool → Bool
but_third early r l = r
but_third late r l = l
but_third above r l = l
but_third below r l = false

module _ (x e w v : ℕ) (wx : w < x) (xe : x < e) (r l : Bool) where
  plain_first : (o : Order) → Lies o x e w v → hex_rows w v r l 0 x ≡ at_first o r l
  plain_first early h = hex_right w v r l 0 x (make_in 0 w v (omega arith) h)
      (make_out 0 v w (omega arith) (inr (omega arith))) (make_in 0 x v (omega arith) (omega arith))
      (make_in 0 x w (omega arith) wx)
  plain_first late (h, i) =
      hex_left w v r l 0 x (make_out 0 w v (omega arith) (inr (omega arith))) (make_in 0 v w (omega arith) h)
      (make_in 0 x v (omega arith) i) (make_in 0 x w (omega arith) wx)
  plain_first above (h, i) = hex_none w v r l 0 x (make_out 0 x v (omega arith) (inr h))
  plain_first below h = hex_none w v r l 0 x (make_out 0 x v (omega arith) (inr (omega arith)))

  plain_but_second : (o : Order) → Lies o x e w v → hex_rows w v r l e x ≡ but_second o r l
  plain_but_second early h =
      hex_right w v r l e x (make_wrap e w v (omega arith) (inr h))
      (make_gap e v w (omega arith) (omega arith) (omega arith)) (make_wrap e x v xe (inr (omega arith)))
      (make_wrap e x w xe (inr wx))
  plain_but_second late (h, i) =
      hex_left w v r l e x (make_gap e w v (omega arith) (omega arith) (omega arith))
      (make_wrap e v w (omega arith) (inr h)) (make_wrap e x v xe (inr i)) (make_wrap e x w xe (inr wx))
  plain_but_second above (h, i) = hex_none w v r l e x (make_gap e x v (omega arith) h i)
  plain_but_second below h =
      hex_right w v r l e x (make_wrap e w v (omega arith) (inl h)) (make_out e v w h (inl (omega arith)))
      (make_wrap e x v xe (inl h)) (make_wrap e x w xe (inr wx))

  plain_but_third : (o : Order) → Lies o x e w v → hex_rows w v r l 0 e ≡ but_third o r l
  plain_but_third early h =
      hex_right w v r l 0 e (make_in 0 w v (omega arith) h) (make_out 0 v w (omega arith) (inr (omega arith)))
      (make_in 0 e v (omega arith) (omega arith)) (make_in 0 e w (omega arith) (omega arith))
  plain_but_third late (h, i) =
      hex_left w v r l 0 e (make_out 0 w v (omega arith) (inr (omega arith))) (make_in 0 v w (omega arith) h)
      (make_in 0 e v (omega arith) (omega arith)) (make_in 0 e w (omega arith) (omega arith))
  plain_but_third above (h, i) =
      hex_left w v r l 0 e (make_out 0 w v (omega arith) (inr (omega arith)))
      (make_in 0 v w (omega arith) (omega arith)) (make_in 0 e v (omega arith) i)
      (make_in 0 e w (omega arith) (omega arith))
  plain_but_third below h = hex_none w v r l 0 e (make_out 0 e v (omega arith) (inr h))

module _ (n a x e w v : ℕ) (la : a < n) (lx : x < n) (le : e < n) (lw : w < n) (lv : v < n)
    (xe : k n a la x < k n a la e) (wx : k n a la w < k n a la x) (x_off : 0 < k n a la x) (r l : Bool) where
  turned_rows : (y z : ℕ) → y < n → z < n → hex_rows w v r l y z
      ≡ hex_rows (k n a la w) (k n a la v) r l (k n a la y) (k n a la z)
  turned_rows y z ly lz =
      λ i. ((r && into n a la y w v ly lw lv i) || (l && into n a la y v w ly lv lw i))
      && (into n a la y z v ly lz lv i && into n a la y z w ly lz lw i)

  from_first : (z : ℕ) → z < n → hex_rows w v r l a z ≡ hex_rows (k n a la w) (k n a la v) r l 0 (k n a la z)
  from_first z lz = turned_rows a z la lz
      ∙ ap (λ (t : ℕ). hex_rows (k n a la w) (k n a la v) r l t (k n a la z)) (counted_from-self n a)

  to_first : (z : ℕ) → z < n → hex_rows w v r l z a ≡ hex_rows (k n a la w) (k n a la v) r l (k n a la z) 0
  to_first z lz = turned_rows z a lz la
      ∙ ap (λ (t : ℕ). hex_rows (k n a la w) (k n a la v) r l (k n a la z) t) (counted_from-self n a)

  module _ (o : Order) (h : Lies o (k n a la x) (k n a la e) (k n a la w) (k n a la v)) where
    pub arc_first : hex_rows w v r l a x ≡ at_first o r l
    arc_first = from_first x lx ∙ plain_first (k n a la x) (k n a la e) (k n a la w) (k n a la v) wx xe r l o h

    pub second : hex_rows w v r l x e ≡ false
    second = turned_rows x e lx le
        ∙ hex_out (k n a la w) (k n a la v) r l (k n a la x) (k n a la e)
        (make_out (k n a la x) (k n a la e) (k n a la w) (omega arith) (inl wx))

    pub third : hex_rows w v r l e a ≡ false
    third = to_first e le ∙ hex_out (k n a la w) (k n a la v) r l (k n a la e) 0
        (make_back_out (k n a la e) (k n a la w) (omega arith) (omega arith))

    pub not_first : hex_rows w v r l x a ≡ false
    not_first = to_first x lx
        ∙ hex_out (k n a la w) (k n a la v) r l (k n a la x) 0 (make_back_out (k n a la x) (k n a la w) x_off wx)

    pub not_second : hex_rows w v r l e x ≡ but_second o r l
    not_second = turned_rows e x le lx
        ∙ plain_but_second (k n a la x) (k n a la e) (k n a la w) (k n a la v) wx xe r l o h

    pub not_third : hex_rows w v r l a e ≡ but_third o r l
    not_third = from_first e le ∙ plain_but_third (k n a la x) (k n a la e) (k n a la w) (k n a la v) wx xe r l o h
