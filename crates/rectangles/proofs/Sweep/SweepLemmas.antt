-- The sweep to the right from a circle: which rectangles with their left at this circle are open.
-- Route: circles and rows are counted by how far they are, right of the left circle and above its row.
-- A rectangle is open if its height is at most that of each mark of its columns and of each point of
-- its circles; the least of these heights so far is the limit of the sweep.
use Rattle.std.proofs.Common.{◌≡◌, ◌≢◌, ℕ, suc, ◌+◌, ◌-◌, ◌*◌, ◌%◌, ◌^◌, ◌<◌, ◌≤◌, Bool, true, false, not, ◌&&◌, ◌||◌, List, slice_index, refl, ap, ap₂, subst, ◌∙◌, sym, eqb, ltb, arith, inl, inr, cond, min, bit_or}
use Rattle.std.proofs.lemmas.Bool.{cases_eq, cases_lt, eq-eqb, ne_eqb, eqb-false, lt-ltb, le-ltb, ltb-false, and_from, and_parts, and_left, and_right, and_cases, not-true, or_parts, or_from, true≢false, false_from_ne_true}
use Rattle.std.proofs.lemmas.Nat.Bits.{bit_at-zero, bit_at_set_same, bit_at_set_other}
use Rattle.std.specs.Int.{bit_at, w16}
use Rattle.state_rank.specs.Bijection.{IsBijection}
use Rattle.torus_geom.specs.Counts.{all_below}
use Rattle.torus_geom.specs.Marks.{Marks, size, IsGrid}
use Rattle.torus_geom.specs.Range.{offset, in_range, is_inside}
use Rattle.torus_geom.specs.Rectangle.{is_empty, is_unmarked}
use Rattle.torus_geom.proofs.Sums.AllBelowLemmas.{at_all_below, all_below-true}
use Rattle.torus_geom.proofs.Circles.RangeLemmas.{offset-above, offset-below}
use Rattle.rectangles.specs.Inner.Open.{leaving, is_open}

-- ---- circles by how far right of a they are

-- the circle that is s steps right of a
abbrev pub turned : ℕ → ℕ → ℕ → ℕ
turned n a s = cond (ltb (a + s) n) (a + s) (a + s - n)

-- before the seam
pub turned-plain : (n a s : ℕ) → a + s < n → turned n a s ≡ a + s
turned-plain n a s l = ap (λ t. cond t (a + s) (a + s - n)) (lt-ltb (a + s) n l)

-- past the seam
pub turned-across : (n a s : ℕ) → n ≤ a + s → turned n a s ≡ a + s - n
turned-across n a s l = ap (λ t. cond t (a + s) (a + s - n)) (le-ltb (a + s) n l)

-- it is a circle
pub turned_below : (n a s : ℕ) → a < n → s < n → turned n a s < n
turned_below n a s la ls = elim (cases_lt (a + s) n) [
  | inl l ↦ let e = turned-plain n a s l in omega arith
  | inr l ↦ let e = turned-across n a s l in omega arith
]

-- a circle is less than n steps away
pub offset_less : (n a i : ℕ) → a < n → i < n → offset n a i < n
offset_less n a i la li = elim (cases_lt i a) [
  | inl l ↦ let e = offset-below n a i l la in omega arith
  | inr l ↦ let e = offset-above n a i l li in omega arith
]

-- the circle s steps right of a is s steps away
pub offset-turned : (n a s : ℕ) → a < n → s < n → offset n a (turned n a s) ≡ s
offset-turned n a s la ls = elim (cases_lt (a + s) n) [
  | inl l ↦ ap (offset n a) (turned-plain n a s l) ∙ offset-above n a (a + s) (omega arith) l ∙ omega arith
  | inr l ↦ ap (offset n a) (turned-across n a s l) ∙ offset-below n a (a + s - n) (omega arith) la ∙ omega arith
]

-- a circle is as far right of a as it is away
pub turned-offset : (n a i : ℕ) → a < n → i < n → turned n a (offset n a i) ≡ i
turned-offset n a i la li = elim (cases_lt i a) [
  | inl l ↦ ap (turned n a) (offset-below n a i l la) ∙ turned-across n a (i + (n - a)) (omega arith) ∙ omega arith
  | inr l ↦ ap (turned n a) (offset-above n a i l li) ∙ turned-plain n a (i - a) (omega arith) ∙ omega arith
]

-- a is not away from itself
pub offset-same : (n a : ℕ) → a < n → offset n a a ≡ 0
offset-same n a la = offset-above n a a (omega arith) la ∙ omega arith

-- different circles are at different distances
pub offset_apart : (n a i k : ℕ) → a < n → i < n → k < n → offset n a i ≡ offset n a k → i ≡ k
offset_apart n a i k la li lk e = sym (turned-offset n a i la li) ∙ ap (turned n a) e ∙ turned-offset n a k la lk

module _ (g : Marks) (x : List ℕ) (a : ℕ) where
  -- how far above the point on circle a the row r is
  abbrev pub rise : ℕ → ℕ
  rise r = offset (size g) (slice_index x a) r

  -- no mark of the first m columns from a on, and no point of the circles right of a, before the p-th,
  -- is less than d above the point on a
  pub record IsClear (m p d : ℕ) : Type 0 where
    pub below_o : (t : ℕ) → t < m → d ≤ rise (slice_index g.o (turned (size g) a t))
    pub below_x : (t : ℕ) → t < m → d ≤ rise (slice_index g.x (turned (size g) a t))
    pub below_points : (t : ℕ) → 0 < t → t < p → d ≤ rise (slice_index x (turned (size g) a t))

  -- the bit of b if the circles before the w-th right of a are looked at
  abbrev pub swept_bit : ℕ → ℕ → ℕ
  swept_bit w b = cond (ltb (offset (size g) a b) w && is_open g x a b) 1 0

  -- the circles before the w-th right of a are looked at, and the marks of the first m columns
  pub record IsSwept (m w limit rights : ℕ) : Type 0 where
    pub limit_less : limit < size g
    pub clear : (d : ℕ) → d < size g → d ≤ limit → IsClear m w d
    pub most : (d : ℕ) → d < size g → IsClear m w d → d ≤ limit
    pub bits : (b : ℕ) → b < size g → bit_at rights b ≡ swept_bit w b

module _ (g : Marks) (s : IsGrid g) (x : List ℕ) (sx : IsBijection (size g) x) (a : ℕ) (la : a < size g) where
  -- what is clear of more is clear of fewer
  pub fewer : (m p d n q : ℕ) → m ≤ n → p ≤ q → IsClear g x a n q d → IsClear g x a m p d
  fewer m p d n q lm lp h = record {
    below_o = λ t l. h.below_o t (omega arith);
    below_x = λ t l. h.below_x t (omega arith);
    below_points = λ t z l. h.below_points t z (omega arith);
  }

  -- the rise of a circle that is not a is not 0
  rise_positive : (b : ℕ) → b < size g → b ≢ a → 0 < rise g x a (slice_index x b)
  rise_positive b lb p = elim (cases_eq (rise g x a (slice_index x b)) 0) [
    | inl e ↦
        absurd (sx.apart b a lb la p (offset_apart (size g) (slice_index x a) (slice_index x b) (slice_index x a)
        (sx.small a la) (sx.small b lb) (sx.small a la)
        (e ∙ sym (offset-same (size g) (slice_index x a) (sx.small a la)))))
    | inr q ↦ omega arith
  ]

  -- ---- an open rectangle is clear

  module _ (b : ℕ) (lb : b < size g) where
    empty_test : ℕ → Bool
    empty_test t =
        not (is_inside (size g) a b t && is_inside (size g) (slice_index x a) (slice_index x b) (slice_index x t))

    unmarked_test : ℕ → Bool
    unmarked_test t = not (in_range (size g) a b t
        && (in_range (size g) (slice_index x a) (slice_index x b) (slice_index g.o t)
        || in_range (size g) (slice_index x a) (slice_index x b) (slice_index g.x t)))

    opened : is_open g x a b ≡ true
        → (a ≢ b) × (all_below (size g) empty_test ≡ true) × (all_below (size g) unmarked_test ≡ true)
    unfolding is_open empty_test unmarked_test
    opened h =
        let first = and_parts (not (eqb a b)) (is_empty x (leaving x a b) && is_unmarked g (leaving x a b)) h in
        let rest = and_parts (is_empty x (leaving x a b)) (is_unmarked g (leaving x a b)) first.1 in (
          eqb-false a b (not-true (eqb a b) first.0),
          subst (λ m. all_below m (λ t. not (is_inside m a b t
              && is_inside m (slice_index x a) (slice_index x b) (slice_index x t))) ≡ true) sx.long rest.0,
          rest.1,
        )

    closed : a ≢ b → all_below (size g) empty_test ≡ true → all_below (size g) unmarked_test ≡ true
        → is_open g x a b ≡ true
    unfolding is_open empty_test unmarked_test
    closed p e u =
        and_from _ _ (ap not (ne_eqb a b p))
        (and_from _ _ (subst (λ m. all_below m (λ t. not (is_inside m a b t
        && is_inside m (slice_index x a) (slice_index x b) (slice_index x t))) ≡ true) (sym sx.long) e) u)

    not_both : (u v : Bool) → not (u && v) ≡ true → u ≡ true → v ≡ false
    not_both true true h e = absurd (true≢false (sym h))
    not_both true false h e = refl
    not_both false v h e = absurd (true≢false (sym e))

    -- an open rectangle is clear of all marks and points of its columns
    pub clear_from_open : is_open g x a b ≡ true
        → IsClear g x a (offset (size g) a b) (offset (size g) a b) (rise g x a (slice_index x b))
    unfolding empty_test unmarked_test
    clear_from_open h =
        let o = opened h in
        let n = size g in
        let near : (t : ℕ) → t < offset n a b → t < n = λ t l. let f = offset_less n a b la lb in omega arith in
        let column : (t : ℕ) → t < offset n a b → in_range n a b (turned n a t) ≡ true =
        λ t l. let e = offset-turned n a t la (near t l) in lt-ltb _ _ (omega arith) in
        let marks : (t : ℕ) → t < offset n a b
        → (in_range n (slice_index x a) (slice_index x b) (slice_index g.o (turned n a t))
        || in_range n (slice_index x a) (slice_index x b) (slice_index g.x (turned n a t))) ≡ false =
        λ t l. not_both _ _ (at_all_below n unmarked_test o.2 (turned n a t) (turned_below n a t la (near t l)))
        (column t l)
        in
        record {
          below_o = λ t l. ltb-false _ _ (or_parts _ _ (marks t l)).0;
          below_x = λ t l. ltb-false _ _ (or_parts _ _ (marks t l)).1;
          below_points = λ t z l.
              let c : ℕ = turned n a t in
              let lc = turned_below n a t la (near t l) in
              let e = offset-turned n a t la (near t l) in
              let other : c ≢ a =
              λ i. let k : offset n a c ≡ 0 = ap (offset n a) i ∙ offset-same n a la in omega arith in
              let inside : is_inside n a b c ≡ true = and_from _ _ (column t l) (ap not (ne_eqb c a other)) in
              let row : is_inside n (slice_index x a) (slice_index x b) (slice_index x c) ≡ false =
              not_both _ _ (at_all_below n empty_test o.1 c lc) inside in
              elim (and_cases _ _ row) [
                | inl f ↦ ltb-false _ _ f
                | inr f ↦
                    absurd (true≢false (sym (ap not (ne_eqb (slice_index x c) (slice_index x a)
                    (sx.apart c a lc la other))) ∙ f))
              ];
        }

    -- a rectangle that is clear of them is open
    pub open_from_clear : b ≢ a
        → IsClear g x a (offset (size g) a b) (offset (size g) a b) (rise g x a (slice_index x b))
        → is_open g x a b ≡ true
    unfolding empty_test unmarked_test
    open_from_clear p h =
        let n = size g in
        closed (λ e. p (sym e))
        (all_below-true n empty_test (λ t l. elim (cases_lt (offset n a t) (offset n a b)) [
          | inl f ↦ elim (cases_eq t a) [
            | inl e ↦ ap not (and_left _ _ (ap₂ (λ u v. u && not v) (lt-ltb _ _ f) (eq-eqb t a e)))
            | inr q ↦
                let z : 0 < offset n a t = positive t l q in
                let up : rise g x a (slice_index x b) ≤ rise g x a (slice_index x t) =
                subst (λ c. rise g x a (slice_index x b) ≤ rise g x a (slice_index x c)) (turned-offset n a t la l)
                (h.below_points (offset n a t) z f) in
                ap not (and_right _ _ (and_left _ _ (le-ltb _ _ up)))
          ]
          | inr f ↦ ap not (and_left _ _ (and_left _ _ (le-ltb _ _ f)))
        ]))
        (all_below-true n unmarked_test (λ t l. elim (cases_lt (offset n a t) (offset n a b)) [
          | inl f ↦
              let up_o : rise g x a (slice_index x b) ≤ rise g x a (slice_index g.o t) =
              subst (λ c. rise g x a (slice_index x b) ≤ rise g x a (slice_index g.o c)) (turned-offset n a t la l)
              (h.below_o (offset n a t) f) in
              let up_x : rise g x a (slice_index x b) ≤ rise g x a (slice_index g.x t) =
              subst (λ c. rise g x a (slice_index x b) ≤ rise g x a (slice_index g.x c)) (turned-offset n a t la l)
              (h.below_x (offset n a t) f) in
              ap not (and_right _ _ (or_from _ _ (le-ltb _ _ up_o) (le-ltb _ _ up_x)))
          | inr f ↦ ap not (and_left _ _ (le-ltb _ _ f))
        ]))
      where
        positive : (t : ℕ) → t < size g → t ≢ a → 0 < offset (size g) a t
        positive t l q = elim (cases_eq (offset (size g) a t) 0) [
          | inl e ↦ absurd (q (offset_apart (size g) a t a la l la (e ∙ sym (offset-same (size g) a la))))
          | inr z ↦ omega arith
        ]

  -- ---- the sweep

  bit_no : (w b : ℕ) → is_open g x a b ≡ false → swept_bit g x a w b ≡ 0
  bit_no w b h = ap (λ t. cond t 1 0) (and_right _ _ h)

  bit_far : (w b : ℕ) → w ≤ offset (size g) a b → swept_bit g x a w b ≡ 0
  bit_far w b h = ap (λ t. cond t 1 0) (and_left _ _ (le-ltb _ _ h))

  bit_near : (w b : ℕ) → offset (size g) a b < w → swept_bit g x a w b ≡ cond (is_open g x a b) 1 0
  bit_near w b h = ap (λ t. cond (t && is_open g x a b) 1 0) (lt-ltb _ _ h)

  open-same : (b : ℕ) → b ≡ a → is_open g x a b ≡ false
  unfolding is_open
  open-same b e = and_left _ _ (ap not (eq-eqb a b (sym e)))

  -- before the first step
  pub swept_none : IsSwept g x a 0 1 (size g - 1) 0
  swept_none = record {
    limit_less = omega arith;
    clear = λ d l m. record {
      below_o = λ t k. absurd (omega arith);
      below_x = λ t k. absurd (omega arith);
      below_points = λ t z k. absurd (omega arith);
    };
    most = λ d l m. omega arith;
    bits = λ b l. bit_at-zero b ∙ elim (cases_lt (offset (size g) a b) 1) [
      | inl k ↦
          sym (bit_no 1 b (open-same b (offset_apart (size g) a b a la l la
          (let e = offset-same (size g) a la in omega arith))))
      | inr k ↦ sym (bit_far 1 b k)
    ];
  }

  -- the marks of one column more, the m-th right of a
  pub swept_marks : (m w limit rights least c : ℕ) → IsSwept g x a m w limit rights → c ≡ turned (size g) a m
      → least ≤ rise g x a (slice_index g.o c) → least ≤ rise g x a (slice_index g.x c)
      → ((d : ℕ) → d ≤ rise g x a (slice_index g.o c) → d ≤ rise g x a (slice_index g.x c) → d ≤ least)
      → (next : ℕ) → next ≡ min limit least → IsSwept g x a (suc m) w next rights
  swept_marks m w limit rights least c h at under_o under_x most next next_is =
      let k = h.limit_less in
      record {
        limit_less = omega arith;
        clear = λ d l low.
            let before = h.clear d l (omega arith) in
            record {
              below_o = λ t b. elim (cases_eq t m) [
                | inl e ↦
                    subst (λ i. d ≤ rise g x a (slice_index g.o i)) (at ∙ ap (turned (size g) a) (sym e))
                    (omega arith)
                | inr p ↦ before.below_o t (omega arith)
              ];
              below_x = λ t b. elim (cases_eq t m) [
                | inl e ↦
                    subst (λ i. d ≤ rise g x a (slice_index g.x i)) (at ∙ ap (turned (size g) a) (sym e))
                    (omega arith)
                | inr p ↦ before.below_x t (omega arith)
              ];
              below_points = before.below_points;
            };
        most = λ d l clear.
            let before = h.most d l (fewer m w d (suc m) w (omega arith) (omega arith) clear) in
            let here =
            most d (subst (λ i. d ≤ rise g x a (slice_index g.o i)) (sym at) (clear.below_o m (omega arith)))
            (subst (λ i. d ≤ rise g x a (slice_index g.x i)) (sym at) (clear.below_x m (omega arith))) in
            omega arith;
        bits = h.bits;
      }

  -- the circle c, the w-th right of a, is looked at
  module _ (w limit rights : ℕ) (h : IsSwept g x a w w limit rights) (some : 0 < w) (near : w < size g) (c : ℕ)
      (at : c ≡ turned (size g) a w) where
    looked_below : c < size g
    looked_below = let b = turned_below (size g) a w la near in omega arith

    looked_offset : offset (size g) a c ≡ w
    looked_offset = ap (offset (size g) a) at ∙ offset-turned (size g) a w la near

    looked_apart : c ≢ a
    looked_apart e = let o = looked_offset in
        let z : offset (size g) a c ≡ 0 = ap (offset (size g) a) e ∙ offset-same (size g) a la in omega arith

    looked_less : rise g x a (slice_index x c) < size g
    looked_less = offset_less (size g) (slice_index x a) (slice_index x c) (sx.small a la) (sx.small c looked_below)

    looked_open : rise g x a (slice_index x c) ≤ limit → is_open g x a c ≡ true
    looked_open low =
        open_from_clear c looked_below looked_apart
        (subst (λ k. IsClear g x a k k (rise g x a (slice_index x c))) (sym looked_offset)
        (h.clear (rise g x a (slice_index x c)) looked_less low))

    looked_closed : limit < rise g x a (slice_index x c) → is_open g x a c ≡ false
    looked_closed high = false_from_ne_true _ (λ e.
        let clear : IsClear g x a w w (rise g x a (slice_index x c)) =
        subst (λ k. IsClear g x a k k (rise g x a (slice_index x c))) looked_offset
        (clear_from_open c looked_below e) in
        let low = h.most (rise g x a (slice_index x c)) looked_less clear in absurd (omega arith))

    -- the bits of the other circles stay
    looked_other : (b : ℕ) → b < size g → b ≢ c → swept_bit g x a w b ≡ swept_bit g x a (suc w) b
    looked_other b l p = elim (cases_lt (offset (size g) a b) w) [
      | inl k ↦ bit_near w b k ∙ sym (bit_near (suc w) b (omega arith))
      | inr k ↦
          let q : offset (size g) a b ≢ w =
          λ e. p (offset_apart (size g) a b c la l looked_below (e ∙ sym looked_offset)) in
          bit_far w b k ∙ sym (bit_far (suc w) b (omega arith))
    ]

    looked_clear : (d : ℕ) → d ≤ rise g x a (slice_index x c) → IsClear g x a w w d → IsClear g x a w (suc w) d
    looked_clear d up clear = record {
      below_o = clear.below_o;
      below_x = clear.below_x;
      below_points = λ t z l. elim (cases_eq t w) [
        | inl e ↦ subst (λ i. d ≤ rise g x a (slice_index x i)) (at ∙ ap (turned (size g) a) (sym e)) up
        | inr p ↦ clear.below_points t z (omega arith)
      ];
    }

    -- it is open, and the limit comes down to its point
    pub swept_open : c < 16 → rise g x a (slice_index x c) ≤ limit
        → IsSwept g x a w (suc w) (rise g x a (slice_index x c)) (bit_or rights (1 * 2 ^ c % 2 ^ 16))
    swept_open small low = record {
      limit_less = looked_less;
      clear = λ d l up. looked_clear d up (h.clear d l (omega arith));
      most = λ d l clear. subst (λ i. d ≤ rise g x a (slice_index x i)) (sym at)
          (clear.below_points w some (omega arith));
      bits = λ b l. elim (cases_eq b c) [
        | inl e ↦
            ap (bit_at (bit_or rights (1 * 2 ^ c % 2 ^ 16))) e ∙ bit_at_set_same w16 rights c small
            ∙ sym (ap (swept_bit g x a (suc w)) e ∙ bit_near (suc w) c (let o = looked_offset in omega arith)
            ∙ ap (λ t. cond t 1 0) (looked_open low))
        | inr p ↦ bit_at_set_other w16 rights c small b p ∙ h.bits b l ∙ looked_other b l p
      ];
    }

    -- it is not
    pub swept_closed : limit < rise g x a (slice_index x c) → IsSwept g x a w (suc w) limit rights
    swept_closed high = record {
      limit_less = h.limit_less;
      clear = λ d l low. looked_clear d (omega arith) (h.clear d l low);
      most = λ d l clear. h.most d l (fewer w w d w (suc w) (omega arith) (omega arith) clear);
      bits = λ b l. h.bits b l ∙ elim (cases_eq b c) [
        | inl e ↦
            ap (swept_bit g x a w) e ∙ bit_no w c (looked_closed high)
            ∙ sym (ap (swept_bit g x a (suc w)) e ∙ bit_no (suc w) c (looked_closed high))
        | inr p ↦ looked_other b l p
      ];
    }

  -- all circles are looked at
  pub swept_all : (m w limit rights : ℕ) → IsSwept g x a m w limit rights → size g ≤ w → (b : ℕ) → b < size g
      → bit_at rights b ≡ cond (is_open g x a b) 1 0
  swept_all m w limit rights h all b l =
      h.bits b l ∙ bit_near w b (let k = offset_less (size g) a b la l in omega arith)

  -- nothing is open further on, once a mark is as low as the point on a
  pub swept_stop : (w limit rights : ℕ) → IsSwept g x a w w limit rights → 0 < w → limit ≡ 0 → (b : ℕ) → b < size g
      → bit_at rights b ≡ cond (is_open g x a b) 1 0
  swept_stop w limit rights h some none b l = h.bits b l ∙ elim (cases_lt (offset (size g) a b) w) [
    | inl k ↦ bit_near w b k
    | inr k ↦
        let shut : is_open g x a b ≡ false = false_from_ne_true _ (λ e.
        let p : b ≢ a = λ i. true≢false (sym e ∙ open-same b i) in
        let clear =
        fewer w w (rise g x a (slice_index x b)) (offset (size g) a b) (offset (size g) a b) k k
        (clear_from_open b l e) in
        let low =
        h.most (rise g x a (slice_index x b))
        (offset_less (size g) (slice_index x a) (slice_index x b) (sx.small a la) (sx.small b l)) clear in
        let z = rise_positive b l p in absurd (omega arith)) in
        bit_no w b shut ∙ sym (ap (λ t. cond t 1 0) shut)
  ]
