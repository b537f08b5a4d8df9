-- Between two states.
use Rattle.std.proofs.Common.{◌≡◌, ◌≢◌, ◌⊎◌, ℕ, ◌+◌, ◌-◌, ◌<◌, ◌≤◌, List, ◌++◌, length, take, drop, reverse, slice_index, refl, ap, subst, ◌∙◌, sym, arith, inl, inr}
use Rattle.std.proofs.lemmas.Bool.{cases_eq, cases_lt, cases_order}
use Rattle.std.proofs.lemmas.List.{length-take-le, length-drop, length-reverse, length-append, get_or-take, get_or-drop, get_or-reverse, get_or_append_left, get_or-append_right}
use Rattle.std.proofs.lemmas.List.Edits.{length-swap}
use Rattle.std.specs.List.{swap}
use Rattle.state_rank.specs.Bijection.{IsSize, IsBijection}
use Rattle.state_rank.specs.States.{rank, unrank, factorial}
use Rattle.state_rank.specs.Inner.Steps.{FallsFrom}
use Rattle.state_rank.proofs.Pigeonhole.{onto}
use Rattle.state_rank.proofs.SwapLemmas.{slice_index-swap_first, slice_index-swap_second, slice_index-swap_other, IsBijection-swap, take-swap}
use Rattle.state_rank.proofs.StoredLemmas.{IsStoredByPlace, length-stored}
use Rattle.state_rank.proofs.RankLemmas.{IsBijection-unrank, rank-unrank, rank-below, unrank-rank, rank_order}
use Rattle.state_rank.proofs.StepLemmas.{FirstDiffer, before-differ, first_difference}

-- if two states agree before the place q, the row of one there is a row of the other from q on
row_from : (n : ℕ) (x z : List ℕ) → IsBijection n x → IsBijection n z → (q : ℕ) → q < n
    → ((i : ℕ) → i < q → slice_index x i ≡ slice_index z i)
    → (j : ℕ) × ((q ≤ j) × (j < n)) × (slice_index x j ≡ slice_index z q)
row_from n x z s t q l same =
    let h = onto n (slice_index x) s.small s.apart (slice_index z q) (t.small q l) in
    elim (cases_lt h.0 q) [
      | inl m ↦ absurd (t.apart h.0 q (h.1) l (omega arith) (sym (same h.0 m) ∙ h.2))
      | inr m ↦ (h.0, (m, h.1), h.2)
    ]

-- x and a later state do not first differ where the rows of x fall
not_where_falling : (n : ℕ) (x z : List ℕ) → IsBijection n x → IsBijection n z → (a q : ℕ) → FallsFrom a x → a ≤ q
    → q < n → FirstDiffer x z q → ⊥
not_where_falling n x z s t a q falls l m d =
    let h = row_from n x z s t q m d.same in
    let long = s.long in
    let low : slice_index x h.0 ≤ slice_index x q = elim (cases_eq h.0 q) [
      | inl e ↦ let f = ap (slice_index x) e in omega arith
      | inr p ↦ let b = h.1.0 in let c = h.1.1 in falls q h.0 l (omega arith) (omega arith)
    ] in
    let e = h.2 in let u = d.up in absurd (omega arith)

-- the step from x to y, in the place p
pub record IsStep (n : ℕ) (x y : List ℕ) (p : ℕ) : Type 0 where
  pub within : p < n
  pub first : FirstDiffer x y p
  pub falls : FallsFrom (p + 1) x
  pub rises : (i j : ℕ) → p < i → i < j → j < n → slice_index y i ≤ slice_index y j
  pub least : (i : ℕ) → p < i → i < n → slice_index x p < slice_index x i → slice_index y p ≤ slice_index x i

-- an earlier state and y do not first differ behind p
not_where_rising : (n : ℕ) (x y z : List ℕ) (p q : ℕ) → IsStep n x y p → IsBijection n y → IsBijection n z → p < q
    → q < n → FirstDiffer z y q → ⊥
not_where_rising n x y z p q k t u l m d =
    let h = row_from n y z t u q m (λ i g. sym (d.same i g)) in
    let high : slice_index y q ≤ slice_index y h.0 = elim (cases_eq h.0 q) [
      | inl e ↦ let f = ap (slice_index y) e in omega arith
      | inr o ↦ let b = h.1.0 in k.rises q h.0 l (omega arith) h.1.1
    ] in
    let e = h.2 in let u = d.up in absurd (omega arith)

-- no state lies between
none_between : (n : ℕ) (x y z : List ℕ) (p : ℕ) → IsStep n x y p → IsBijection n x → IsBijection n y
    → IsBijection n z → (q r : ℕ) → q < n → r < n → FirstDiffer x z q → FirstDiffer z y r → ⊥
none_between n x y z p k s t u q r lq lr d e = elim (cases_order q p) [
  | inl i ↦ elim (cases_order r p) [
    | inl j ↦
        let h = row_from n x z s u p k.within (λ c l. d.same c (omega arith)) in
        let dq : slice_index x p < slice_index z p = subst (λ c. slice_index x c < slice_index z c) i d.up in
        let er : slice_index z p < slice_index y p = subst (λ c. slice_index z c < slice_index y c) j e.up in
        let at = h.2 in
        elim (cases_eq h.0 p) [
          | inl f ↦ let g = ap (slice_index x) f in absurd (omega arith)
          | inr o ↦ let b = h.1.0 in let m = k.least h.0 (omega arith) h.1.1 (omega arith) in absurd (omega arith)
        ]
    | inr o ↦ elim o [
      | inl l ↦ let a = k.first.same r l in let b = d.same r (omega arith) in let c = e.up in absurd (omega arith)
      | inr l ↦ not_where_rising n x y z p r k t u l lr e
    ]
  ]
  | inr o ↦ elim o [
    | inl l ↦ before_p l (cases_order q r)
    | inr l ↦ not_where_falling n x z s u (p + 1) q k.falls (omega arith) lq d
  ]
]
  where
    before_p : q < p → (q ≡ r) ⊎ ((q < r) ⊎ (r < q)) → ⊥
    before_p l (inl i) = let a = k.first.same q l in let b = d.up in
        let c : slice_index z q < slice_index y q = subst (λ c. slice_index z c < slice_index y c) (sym i) e.up in
        absurd (omega arith)
    before_p l (inr (inl m)) = let a = k.first.same q l in let b = d.up in let c = e.same q m in absurd (omega arith)
    before_p l (inr (inr m)) = let a = k.first.same r (omega arith) in let b = d.same r m in let c = e.up in
        absurd (omega arith)

-- ---- ranks

-- the state of rank k is later than x if k is above its rank
differ_unrank : (n : ℕ) (x : List ℕ) → IsBijection n x → (k : ℕ) → rank x < k → k < factorial n
    → (q : ℕ) × (q < n) × FirstDiffer x (unrank n k) q
differ_unrank n x s k l m =
    let z : List ℕ = unrank n k in
    let t : IsBijection n z = IsBijection-unrank n k m in
    let e = rank-unrank n k m in
    let long = s.long in
    let d = first_difference x z (s.long ∙ sym t.long) ((rank_order n x z s t).1 (omega arith)) in
    let w = d.1 in
    (d.0, omega arith, d.2)

-- the step goes to the next rank
rank-step : (n : ℕ) (x y : List ℕ) (p : ℕ) → IsStep n x y p → IsBijection n x → IsBijection n y
    → rank y ≡ rank x + 1
rank-step n x y p k s t =
    let ex = s.long in let ey = t.long in let w = k.within in
    let up = (rank_order n x y s t).0 (before-differ x y p (omega arith) (omega arith) k.first) in
    elim (cases_lt (rank x + 1) (rank y)) [
      | inl l ↦
          let b = rank-below n y t in
          let m : rank x + 1 < factorial n = omega arith in
          let z : List ℕ = unrank n (rank x + 1) in
          let u : IsBijection n z = IsBijection-unrank n (rank x + 1) m in
          let f = rank-unrank n (rank x + 1) m in
          let d = differ_unrank n x s (rank x + 1) (omega arith) m in
          let e = first_difference z y (u.long ∙ sym t.long) ((rank_order n z y u t).1 (omega arith)) in
          let ez = u.long in
          let v = e.1 in
          absurd (none_between n x y z p k s t u d.0 e.0 d.1 (omega arith) d.2 e.2)
      | inr l ↦ omega arith
    ]

-- so it goes to the state of the next rank
step-unrank : (n : ℕ) (x y : List ℕ) (p : ℕ) → IsStep n x y p → IsBijection n x → IsBijection n y
    → y ≡ unrank n (rank x + 1)
step-unrank n x y p k s t = sym (unrank-rank n y t) ∙ ap (unrank n) (rank-step n x y p k s t)

-- a state whose rows fall is the last one
pub rank-last : (n : ℕ) (x : List ℕ) → IsBijection n x → FallsFrom 0 x → rank x + 1 ≡ factorial n
rank-last n x s falls =
    let b = rank-below n x s in
    elim (cases_lt (rank x + 1) (factorial n)) [
      | inl m ↦
          let d = differ_unrank n x s (rank x + 1) (omega arith) m in
          absurd (not_where_falling n x (unrank n (rank x + 1)) s (IsBijection-unrank n (rank x + 1) m) 0 d.0 falls
          (omega arith) d.1 d.2)
      | inr m ↦ omega arith
    ]

-- ---- the step as the program makes it

-- the place p whose row goes up, and the place m whose row it takes
pub record IsChosen (v w : List ℕ) (p m : ℕ) : Type 0 where
  pub falls : FallsFrom (p + 1) v
  pub behind : p < m
  pub within : m < length w
  pub above : slice_index w p < slice_index w m
  pub last : (i : ℕ) → m < i → i < length w → slice_index w i ≤ slice_index w p

-- y is w, but for the rows behind p, which stand the other way round
pub record IsTurned (n : ℕ) (w y : List ℕ) (p : ℕ) : Type 0 where
  pub long : length y ≡ n
  pub front : (i : ℕ) → i ≤ p → slice_index y i ≡ slice_index w i
  pub back : (i : ℕ) → p < i → i < n → slice_index y i ≡ slice_index w (p + n - i)

module _ (n : ℕ) (w y : List ℕ) (p : ℕ) (t : IsTurned n w y p) (within : p < n) (s : IsBijection n w) where
  -- a place of y is a place of w, others for others
  turned_at : (i : ℕ) → i < n
      → (j : ℕ) × (j < n) × (((i ≤ p) × (j ≡ i)) ⊎ ((p < i) × (j ≡ p + n - i))) × (slice_index y i ≡ slice_index w j)
  turned_at i l = elim (cases_lt p i) [
    | inl m ↦ (p + n - i, omega arith, inr (m, refl), t.back i m l)
    | inr m ↦ (i, l, inl (m, refl), t.front i m)
  ]

  IsBijection-turned : IsBijection n y
  IsBijection-turned = record {
    long = t.long;
    small = λ c l. let h = turned_at c l in let k = s.small h.0 h.1 in let e = h.3 in omega arith;
    apart = λ b c lb lc o e.
        let g = turned_at b lb in let h = turned_at c lc in
        s.apart g.0 h.0 g.1 h.1 (other b c g.0 h.0 lb lc o g.2 h.2) (sym g.3 ∙ e ∙ h.3);
  }
    where
      other : (b c i j : ℕ) → b < n → c < n → b ≢ c → ((b ≤ p) × (i ≡ b)) ⊎ ((p < b) × (i ≡ p + n - b))
          → ((c ≤ p) × (j ≡ c)) ⊎ ((p < c) × (j ≡ p + n - c)) → i ≢ j
      other b c i j lb lc o (inl g) (inl h) = let g0 = g.0 in let g1 = g.1 in let h0 = h.0 in let h1 = h.1 in
          omega arith
      other b c i j lb lc o (inl g) (inr h) = let g0 = g.0 in let g1 = g.1 in let h0 = h.0 in let h1 = h.1 in
          omega arith
      other b c i j lb lc o (inr g) (inl h) = let g0 = g.0 in let g1 = g.1 in let h0 = h.0 in let h1 = h.1 in
          omega arith
      other b c i j lb lc o (inr g) (inr h) = let g0 = g.0 in let g1 = g.1 in let h0 = h.0 in let h1 = h.1 in
          omega arith

module _ (n : ℕ) (x y : List ℕ) (p m : ℕ) (s : IsBijection n x) (k : IsChosen x x p m)
    (t : IsTurned n (swap x p m) y p) where
  pub long : length x ≡ n
  long = s.long

  pub within : m < n
  within = let e = long in let l = k.within in omega arith

  pub at_p : slice_index (swap x p m) p ≡ slice_index x m
  at_p = let b = k.behind in let l = k.within in slice_index-swap_first x p m (omega arith) l

  pub at_m : slice_index (swap x p m) m ≡ slice_index x p
  at_m = let b = k.behind in let l = k.within in slice_index-swap_second x p m (omega arith) l

  pub at : (c : ℕ) → c ≢ p → c ≢ m → slice_index (swap x p m) c ≡ slice_index x c
  at c o q = let b = k.behind in let l = k.within in slice_index-swap_other x p m c (omega arith) l o q

  -- behind p the rows still fall after the exchange
  still_falls : (a b : ℕ) → p < a → a < b → b < n → slice_index (swap x p m) b ≤ slice_index (swap x p m) a
  still_falls a b l h o =
      let e = long in
      elim (cases_eq a m) [
        | inl i ↦
            let f = ap (slice_index (swap x p m)) i in let g = at_m in
            let u = at b (omega arith) (omega arith) in let v = k.last b (omega arith) (omega arith) in omega arith
        | inr q ↦
            let f = at a (omega arith) q in
            elim (cases_eq b m) [
              | inl i ↦
                  let g = ap (slice_index (swap x p m)) i in let u = at_m in let v = k.above in
                  let w = k.falls a m (omega arith) (omega arith) k.within in omega arith
              | inr r ↦
                  let g = at b (omega arith) r in let w = k.falls a b (omega arith) h (omega arith) in omega arith
            ]
      ]

  step_chosen : IsStep n x y p
  step_chosen =
      let b = k.behind in let w = within in
      let atp : slice_index y p ≡ slice_index x m = t.front p (omega arith) ∙ at_p in
      record {
        within = omega arith;
        first = record {
          same = λ i l. sym (t.front i (omega arith) ∙ at i (omega arith) (omega arith));
          up = let u = k.above in omega arith;
        };
        falls = k.falls;
        rises = λ i j l h o.
            let f = t.back i l (omega arith) in let g = t.back j (omega arith) o in
            let u = still_falls (p + n - j) (p + n - i) (omega arith) (omega arith) (omega arith) in omega arith;
        least = λ i l h u.
            let e = long in
            elim (cases_order i m) [
              | inl f ↦ let g = ap (slice_index x) f in omega arith
              | inr o ↦ elim o [
                | inl q ↦ let v = k.falls i m (omega arith) q k.within in omega arith
                | inr q ↦ let v = k.last i q (omega arith) in absurd (omega arith)
              ]
            ];
      }

  IsBijection-chosen : IsBijection n y
  IsBijection-chosen = let b = k.behind in let w = within in
      IsBijection-turned n (swap x p m) y p t (omega arith) (IsBijection-swap n x p m (omega arith) w s)

-- ---- the rows in their array

-- the part of w from place a up to n is written anew
abbrev pub rewritten : ℕ → ℕ → List ℕ → List ℕ → List ℕ
rewritten a n w ys = take a w ++ (ys ++ drop (n - a) (drop a w))

module _ (a n : ℕ) (w ys : List ℕ) (turned : ys ≡ reverse (take (n - a) (drop a w))) (ordered : a ≤ n)
    (fits : n ≤ length w) where
  length-part : length (take (n - a) (drop a w)) ≡ n - a
  length-part = let e = length-drop a w in length-take-le (n - a) (drop a w) (omega arith)

  length-turned : length ys ≡ n - a
  length-turned = ap length turned ∙ length-reverse (take (n - a) (drop a w)) ∙ length-part

  length-front : length (take a w) ≡ a
  length-front = length-take-le a w (omega arith)

  length-rewritten : length (rewritten a n w ys) ≡ length w
  length-rewritten =
      let e = length-append (take a w) (ys ++ drop (n - a) (drop a w)) in
      let f = length-append ys (drop (n - a) (drop a w)) in
      let g = length-drop (n - a) (drop a w) in let j = length-drop a w in
      let h = length-turned in let i = length-front in omega arith

  rewritten-front : (i : ℕ) → i < a → slice_index (rewritten a n w ys) i ≡ slice_index w i
  rewritten-front i l = let e = length-front in
      get_or_append_left (take a w) (ys ++ drop (n - a) (drop a w)) 0 i (omega arith) ∙ get_or-take a w i 0 l

  rewritten-back : (i : ℕ) → a ≤ i → i < n
      → slice_index (rewritten a n w ys) i ≡ slice_index w (a + (n - a - 1 - (i - a)))
  rewritten-back i l m =
      let e = length-front in let f = length-turned in let g = length-part in
      let place : length (take (n - a) (drop a w)) - 1 - (i - a) ≡ n - a - 1 - (i - a) = omega arith in
      get_or-append_right (take a w) (ys ++ drop (n - a) (drop a w)) a i 0 e l
      ∙ get_or_append_left ys (drop (n - a) (drop a w)) 0 (i - a) (omega arith)
      ∙ ap (λ zs. slice_index zs (i - a)) turned
      ∙ get_or-reverse (take (n - a) (drop a w)) (i - a) 0 (omega arith)
      ∙ ap (slice_index (take (n - a) (drop a w))) place
      ∙ get_or-take (n - a) (drop a w) (n - a - 1 - (i - a)) 0 (omega arith)
      ∙ get_or-drop a w (n - a - 1 - (i - a)) 0

  rewritten-past : (i : ℕ) → n ≤ i → slice_index (rewritten a n w ys) i ≡ slice_index w i
  rewritten-past i l =
      let e = length-front in let f = length-turned in
      let place : a + (n - a + (i - a - (n - a))) ≡ i = omega arith in
      get_or-append_right (take a w) (ys ++ drop (n - a) (drop a w)) a i 0 e (omega arith)
      ∙ get_or-append_right ys (drop (n - a) (drop a w)) (n - a) (i - a) 0 f (omega arith)
      ∙ get_or-drop (n - a) (drop a w) (i - a - (n - a)) 0
      ∙ get_or-drop a w (n - a + (i - a - (n - a))) 0
      ∙ ap (slice_index w) place

-- the first n rows, after an exchange and a reversal behind p
pub turned_rows : (n : ℕ) (rows w ys : List ℕ) (p m : ℕ) → p < m → m < n → n ≤ length rows → w ≡ swap rows p m
    → ys ≡ reverse (take (n - (p + 1)) (drop (p + 1) w))
    → IsTurned n (swap (take n rows) p m) (take n (rewritten (p + 1) n w ys)) p
turned_rows n rows w ys p m b l fits is turned =
    let lw : length w ≡ length rows = ap length is ∙ length-swap rows p m in
    let lz : length (rewritten (p + 1) n w ys) ≡ length w =
    length-rewritten (p + 1) n w ys turned (omega arith) (omega arith) in
    let at : (c : ℕ) → c < n → slice_index w c ≡ slice_index (swap (take n rows) p m) c =
    λ c k. sym (get_or-take n w c 0 k)
    ∙ ap (λ v. slice_index v c) (ap (take n) is ∙ take-swap n rows p m fits (omega arith) l) in
    record {
      long = length-take-le n (rewritten (p + 1) n w ys) (omega arith);
      front = λ i k. get_or-take n (rewritten (p + 1) n w ys) i 0 (omega arith)
          ∙ rewritten-front (p + 1) n w ys turned (omega arith) (omega arith) i (omega arith) ∙ at i (omega arith);
      back = λ i k o.
          let place : p + 1 + (n - (p + 1) - 1 - (i - (p + 1))) ≡ p + n - i = omega arith in
          get_or-take n (rewritten (p + 1) n w ys) i 0 o
          ∙ rewritten-back (p + 1) n w ys turned (omega arith) (omega arith) i (omega arith) o
          ∙ ap (slice_index w) place
          ∙ at (p + n - i) (omega arith);
    }

-- the array of a state, after an exchange and a reversal behind p
module _ (size : ℕ) (rows : List ℕ) (s : IsStoredByPlace size rows) (p m : ℕ)
    (k : IsChosen (take size rows) (take size rows) p m)
    (w ys : List ℕ) (is : w ≡ swap rows p m) (turned : ys ≡ reverse (take (size - (p + 1)) (drop (p + 1) w))) where
  long_now : length (take size rows) ≡ size
  long_now = length-stored size rows s

  pub was : IsBijection size (take size rows)
  was = subst (λ n. IsBijection n (take size rows)) long_now s.state.bijection

  turned_is : IsTurned size (swap (take size rows) p m) (take size (rewritten (p + 1) size w ys)) p
  turned_is = let e = long_now in let l = k.within in let a = s.long in let b = s.fits in
      turned_rows size rows w ys p m k.behind (omega arith) (omega arith) is turned

  pub now : IsBijection size (take size (rewritten (p + 1) size w ys))
  now = IsBijection-chosen size (take size rows) (take size (rewritten (p + 1) size w ys)) p m was k turned_is

  -- the array stores a state
  pub stored : IsStoredByPlace size (rewritten (p + 1) size w ys)
  stored =
      let e = long_now in let l = k.within in let b = k.behind in let a = s.long in let f = s.fits in
      let lw : length w ≡ length rows = ap length is ∙ length-swap rows p m in
      let t = now.long in
      record {
        long = length-rewritten (p + 1) size w ys turned (omega arith) (omega arith) ∙ lw ∙ s.long;
        fits = s.fits;
        state = record {
          size = subst IsSize (e ∙ sym t) s.state.size;
          bijection = subst (λ n. IsBijection n (take size (rewritten (p + 1) size w ys))) (sym t) now;
        };
        zeros = λ c h.
            rewritten-past (p + 1) size w ys turned (omega arith) (omega arith) c h
            ∙ ap (λ v. slice_index v c) is
            ∙ slice_index-swap_other rows p m c (omega arith) (omega arith) (omega arith) (omega arith)
            ∙ s.zeros c h;
      }

  -- of the next rank
  pub next_rank : rank (take size (rewritten (p + 1) size w ys)) ≡ rank (take size rows) + 1
  next_rank =
      rank-step size (take size rows) (take size (rewritten (p + 1) size w ys)) p
      (step_chosen size (take size rows) (take size (rewritten (p + 1) size w ys)) p m was k turned_is) was now
