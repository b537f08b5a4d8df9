-- The exchanges of one circle of a state, in order: their indices rise, and they are the codes of each chain that
-- holds an index as often, mod 2, as exchanges with circles whose bit is set lead to it.
-- Route: two exchanges first differ at the lower circle other than a, or at a, which gives their order. What
-- the list holds is a sum over the circles left of a with a higher row, right of a, and left of a with a lower
-- row; together these are all circles but a.
use Rattle.std.proofs.Common.{AllPairs, Bool, Contains, List, [], ap, ap₂, arith, eqb, false, get_or, inl, inr, length, ltb, map, not, refl, reverse, slice_index, subst, subst₂, suc, swap, sym, true, zero, ℕ, ◌&&◌, ◌++◌, ◌+◌, ◌-◌, ◌<◌, ◌∙◌, ◌∷◌, ◌≡◌, ◌≢◌, ◌≤◌}
use Rattle.std.proofs.lemmas.Bool.{and_parts, cases_eq, cases_lt, le-ltb, lt-ltb, ltb-true}
use Rattle.std.proofs.lemmas.List.{get_or-reverse, length-reverse, reverse-append}
use Rattle.std.proofs.lemmas.List.Elements.{Contains-append_cases, Contains-get_or}
use Rattle.std.proofs.lemmas.List.Sorted.{Contains-permutation, IsPermutation-reverse, IsPermutation-sym}
use Rattle.std.specs.List.{filter}
use Rattle.std.specs.List.Sorted.{IsStrictlyIncreasing}
use Rattle.f2_algebra.proofs.Chains.Lists.{codes-of_codes}
use Rattle.f2_algebra.proofs.Chains.ParityLemmas.{below, parity, parity-append, parity-filter, parity-map, parity-xor, parity_below, parity_below-same}
use Rattle.f2_algebra.proofs.Chains.Sets.{same_chain, weight-at, weight-list}
use Rattle.f2_algebra.proofs.Chains.Tables.{same, xor-false, xor_comm, ◌⊻◌}
use Rattle.f2_algebra.specs.Chain.{Chain, codes, holds, of_codes}
use Rattle.state_rank.proofs.BijectionLemmas.{column_of-one_to_one, one_to_one, row-column_of}
use Rattle.state_rank.proofs.MemberLemmas.{member_of_filter, member_of_map, pairs_append, pairs_filter, pairs_map}
use Rattle.state_rank.proofs.OrderLemmas.{ascending_rises, get_or-tabulate, length-tabulate, member_of_ascending}
use Rattle.state_rank.proofs.RankLemmas.{ranks_rise}
use Rattle.state_rank.proofs.SwapLemmas.{IsBijection-swap, slice_index-swap_first, slice_index-swap_other, slice_index-swap_second}
use Rattle.state_rank.specs.Bijection.{IsBijection, ascending, column_of}
use Rattle.state_rank.specs.States.{is_before, rank, transpose}
use Rattle.torus_geom.proofs.TransposeLemmas.{IsBijection-transposed, slice_index-transpose}
use Rattle.rectangles.proofs.Square.TwoSteps.{differ, differ-self, differ-true}
use Rattle.grid_moves.proofs.Turned.Reindexing.{parity_below_reindex}
use Rattle.pentagon_map.specs.Inner.Exchanges.{in_order, is_right_of, is_set, lowering, lowers, picked, raises, raising, sideways}
use Rattle.torus_geom.proofs.Sums.TabulateLemmas.{parity-tabulate}
use Rattle.rectangles.proofs.Sweep.OrderedLists.{Rises, is_before-at}

-- ---- lists
-- the default does not matter within the list
get_or-any_default : (xs : List ℕ) (k d e : ℕ) → k < length xs → get_or xs k d ≡ get_or xs k e
get_or-any_default [] k d e l = absurd (omega arith)
get_or-any_default (x ∷ xs) zero d e l = refl
get_or-any_default (x ∷ xs) (suc k) d e l = get_or-any_default xs k d e (omega arith)

-- a sum over a list the other way round
parity-reverse : (f : ℕ → Bool) (xs : List ℕ) → parity f (reverse xs) ≡ parity f xs
parity-reverse f [] = refl
parity-reverse f (x ∷ xs) =
    ap (parity f) (reverse-append (x ∷ []) xs) ∙ parity-append f (reverse xs) (x ∷ [])
    ∙ ap₂ (λ s t. s ⊻ t) (parity-reverse f xs) (xor-false (f x)) ∙ xor_comm (parity f xs) (f x)

-- a sum over the numbers below a, as one over those below n
parity_below-left : (n a : ℕ) (f : ℕ → Bool) → a ≤ n → parity_below n (λ b. ltb b a && f b) ≡ parity_below a f
parity_below-left zero a f l = let e : a ≡ 0 = omega arith in sym (ap (λ m. parity_below m f) e)
parity_below-left (suc n) a f l = elim (cases_lt n a) [
  | inl p ↦
      let e : a ≡ suc n = omega arith in
      parity_below-same (suc n) (λ b. ltb b a && f b) f (λ b lb. ap (λ t. t && f b) (lt-ltb b a (omega arith)))
      ∙ sym (ap (λ m. parity_below m f) e)
  | inr p ↦
      ap (λ t. (t && f n) ⊻ parity_below n (λ b. ltb b a && f b)) (le-ltb n a p)
      ∙ parity_below-left n a f (omega arith)
]

-- the row of the column of row r
row_of_column : (n : ℕ) (x : List ℕ) → IsBijection n x → (r : ℕ) → r < n
    → slice_index x (slice_index (transpose x) r) ≡ r
row_of_column n x sx r l =
    ap (slice_index x) (slice_index-transpose n x r sx.long l) ∙ row-column_of n (slice_index x) (one_to_one n x sx) r l

-- a circle b other than a is left of it, with a higher or a lower row, or right of it
parts : (b a rb ra : ℕ) (s t : Bool) → (b ≡ a → rb ≡ ra) → (b ≢ a → rb ≢ ra)
    → ((ltb b a && ((ltb ra rb && s) && t)) ⊻ ((ltb a b && s) && t)) ⊻ (ltb b a && ((ltb rb ra && s) && t))
    ≡ (differ b a && (s && t))
parts b a rb ra s t same_row other_row = elim (cases_lt b a) [
  | inl l ↦
      (λ i. ((lt-ltb b a l i && ((one_way ra rb (λ e. other_row (λ k. absurd (omega arith)) (sym e)) i && s) && t))
      ⊻ ((le-ltb a b (omega arith) i && s) && t)) ⊻ (lt-ltb b a l i && ((ltb rb ra && s) && t)))
      ∙ same 3 (λ p s t. ((true && ((not p && s) && t)) ⊻ ((false && s) && t)) ⊻ (true && ((p && s) && t)))
      (λ p s t. s && t) refl (ltb rb ra) s t
      ∙ ap (λ d. d && (s && t)) (sym (differ-true b a (λ e. absurd (omega arith))))
  | inr l ↦ elim (cases_eq b a) [
    | inl e ↦
        (λ i. ((le-ltb b a l i && ((ltb ra rb && s) && t)) ⊻ ((le-ltb a b (omega arith) i && s) && t))
        ⊻ (le-ltb b a l i && ((ltb rb ra && s) && t)))
        ∙ ap (λ d. d && (s && t)) (sym (ap (λ k. differ k a) e ∙ differ-self a))
    | inr p ↦
        (λ i. ((le-ltb b a l i && ((ltb ra rb && s) && t)) ⊻ ((lt-ltb a b (omega arith) i && s) && t))
        ⊻ (le-ltb b a l i && ((ltb rb ra && s) && t)))
        ∙ same 2 (λ s t. (false ⊻ ((true && s) && t)) ⊻ false) (λ s t. s && t) refl s t
        ∙ ap (λ d. d && (s && t)) (sym (differ-true b a p))
  ]
]
  where
    one_way : (u v : ℕ) → u ≢ v → ltb u v ≡ not (ltb v u)
    one_way u v p = grind arith

module _ (n : ℕ) (x : List ℕ) (sx : IsBijection n x) (a odd : ℕ) (la : a < n) where
  row : ℕ → ℕ
  row b = slice_index x b

  -- the exchange with circle b
  abbrev y : ℕ → List ℕ
  y b = swap x a b

  long : (b : ℕ) → b < n → length (swap x a b) ≡ n
  long b lb = (IsBijection-swap n x a b la lb sx).long

  at_a : (b : ℕ) → b < n → slice_index (swap x a b) a ≡ slice_index x b
  at_a b lb = let e = sx.long in slice_index-swap_first x a b (omega arith) (omega arith)

  at_b : (b : ℕ) → b < n → slice_index (swap x a b) b ≡ slice_index x a
  at_b b lb = let e = sx.long in slice_index-swap_second x a b (omega arith) (omega arith)

  at_other : (b i : ℕ) → b < n → i ≢ a → i ≢ b → slice_index (swap x a b) i ≡ slice_index x i
  at_other b i lb p q = let e = sx.long in slice_index-swap_other x a b i (omega arith) (omega arith) p q

  -- both circles left of a: they differ at the lower one
  left_first : (b d : ℕ) → b < d → d < a → slice_index x a < slice_index x b
      → is_before (swap x a b) (swap x a d) ≡ true
  left_first b d bd da l =
      let eb = long b (omega arith) in
      let ed = long d (omega arith) in
      let p = at_b b (omega arith) in
      let q = at_other d b (omega arith) (omega arith) (omega arith) in
      is_before-at (swap x a b) (swap x a d) b (omega arith) (omega arith)
      (λ i l. at_other b i (omega arith) (omega arith) (omega arith)
      ∙ sym (at_other d i (omega arith) (omega arith) (omega arith))) (omega arith)

  left_last : (b d : ℕ) → d < b → b < a → slice_index x d < slice_index x a → is_before (swap x a b) (swap x a d) ≡ true
  left_last b d db ba l =
      let eb = long b (omega arith) in
      let ed = long d (omega arith) in
      let p = at_b d (omega arith) in
      let q = at_other b d (omega arith) (omega arith) (omega arith) in
      is_before-at (swap x a b) (swap x a d) d (omega arith) (omega arith)
      (λ i l. at_other b i (omega arith) (omega arith) (omega arith)
      ∙ sym (at_other d i (omega arith) (omega arith) (omega arith))) (omega arith)

  -- both right of a: they differ at a
  both_right : (b d : ℕ) → a < b → a < d → b < n → d < n → slice_index x b < slice_index x d
      → is_before (swap x a b) (swap x a d) ≡ true
  both_right b d ab ad lb ld l =
      let eb = long b lb in
      let ed = long d ld in
      let p = at_a b lb in
      let q = at_a d ld in
      is_before-at (swap x a b) (swap x a d) a (omega arith) (omega arith)
      (λ i l. at_other b i lb (omega arith) (omega arith) ∙ sym (at_other d i ld (omega arith) (omega arith)))
      (omega arith)

  -- one left of a and one right of it
  left_right : (b d : ℕ) → b < a → a < d → d < n → slice_index x a < slice_index x b
      → is_before (swap x a b) (swap x a d) ≡ true
  left_right b d ba ad ld l =
      let eb = long b (omega arith) in
      let ed = long d ld in
      let p = at_b b (omega arith) in
      let q = at_other d b ld (omega arith) (omega arith) in
      is_before-at (swap x a b) (swap x a d) b (omega arith) (omega arith)
      (λ i l. at_other b i (omega arith) (omega arith) (omega arith)
      ∙ sym (at_other d i ld (omega arith) (omega arith))) (omega arith)

  right_left : (b d : ℕ) → a < b → b < n → d < a → slice_index x d < slice_index x a
      → is_before (swap x a b) (swap x a d) ≡ true
  right_left b d ab lb da l =
      let eb = long b lb in
      let ed = long d (omega arith) in
      let p = at_b d (omega arith) in
      let q = at_other b d lb (omega arith) (omega arith) in
      is_before-at (swap x a b) (swap x a d) d (omega arith) (omega arith)
      (λ i l. at_other b i lb (omega arith) (omega arith)
      ∙ sym (at_other d i (omega arith) (omega arith) (omega arith))) (omega arith)

  -- a lower row at one circle left of a, a higher one at another
  around : (b d : ℕ) → b < a → d < a → b ≢ d → slice_index x a < slice_index x b → slice_index x d < slice_index x a
      → is_before (swap x a b) (swap x a d) ≡ true
  around b d ba da p l k = elim (cases_lt b d) [
    | inl bd ↦ left_first b d bd da l
    | inr db ↦ left_last b d (omega arith) ba k
  ]

  -- what a test of two rows and a bit says
  less : (u v : ℕ) (t : Bool) → (ltb u v && t) ≡ true → u < v
  less u v t h = ltb-true u v (and_parts (ltb u v) t h).0

  state : (b : ℕ) → b < n → IsBijection n (swap x a b)
  state b lb = IsBijection-swap n x a b la lb sx

  -- ---- the circles of the three parts
  in_lowering : (b : ℕ) → Contains (filter (lowers x a odd) (ascending a)) b
      → (b < a) × (slice_index x a < slice_index x b)
  in_lowering b m = let (k, t) = member_of_filter (lowers x a odd) (ascending a) b m in
      (member_of_ascending a b k, less (slice_index x a) (slice_index x b) (is_set odd b) t)

  in_raising : (b : ℕ) → Contains (filter (raises x a odd) (reverse (ascending a))) b
      → (b < a) × (slice_index x b < slice_index x a)
  in_raising b m =
      let (k, t) = member_of_filter (raises x a odd) (reverse (ascending a)) b m in (
        member_of_ascending a b (Contains-permutation (reverse (ascending a)) (ascending a) b
            (IsPermutation-sym (ascending a) (reverse (ascending a)) (IsPermutation-reverse (ascending a))) k),
        less (slice_index x b) (slice_index x a) (is_set odd b) t,
      )

  columns : IsBijection n (transpose x)
  columns = IsBijection-transposed n x sx

  in_sideways : (b : ℕ) → Contains (filter (is_right_of a odd) (transpose x)) b → (a < b) × (b < n)
  in_sideways b m =
      let ((k, lk, at), t) = member_of_filter (is_right_of a odd) (transpose x) b m in
      let e = columns.long in
      let l = columns.small k (omega arith) in
      let same : slice_index (transpose x) k ≡ b = get_or-any_default (transpose x) k 0 b lk ∙ at in
      (less a b (is_set odd b) t, omega arith)

  -- ---- their order
  with_members : {A : Type 0} (R : A → A → Type 0) (xs : List A) → AllPairs R xs
      → AllPairs (λ b d. R b d × (Contains xs b × Contains xs d)) xs
  with_members R xs h i j d l m = (h i j d l m, (Contains-get_or xs i d (omega arith), Contains-get_or xs j d m))

  picked_rises : (test : ℕ → Bool) (circles : List ℕ) (R : ℕ → ℕ → Type 0) → AllPairs R circles
      → ((b d : ℕ) → R b d → Contains (filter test circles) b → Contains (filter test circles) d
      → is_before (swap x a b) (swap x a d) ≡ true) → Rises (picked x a test circles)
  picked_rises test circles R pairs order =
      pairs_map (λ b d. R b d × (Contains (filter test circles) b × Contains (filter test circles) d))
      (λ y z. is_before y z ≡ true) (λ b. swap x a b) (filter test circles)
      (λ b d h. order b d h.0 h.1.0 h.1.1)
      (with_members R (filter test circles) (pairs_filter R test circles pairs))

  rows_rise : AllPairs (λ b d. slice_index x b < slice_index x d) (transpose x)
  rows_rise i j d l m =
      let e = columns.long in
      let li : i < n = omega arith in
      let lj : j < n = omega arith in
      let row_i =
      ap (slice_index x) (get_or-any_default (transpose x) i d 0 (omega arith)) ∙ row_of_column n x sx i li in
      let row_j = ap (slice_index x) (get_or-any_default (transpose x) j d 0 m) ∙ row_of_column n x sx j lj in
      omega arith

  descending_falls : AllPairs (λ b d. d < b) (reverse (ascending a))
  descending_falls i j d l m =
      let e = length-tabulate a (λ (c : ℕ). c) in
      let r = length-reverse (ascending a) in
      let at_i : get_or (reverse (ascending a)) i d ≡ length (ascending a) - 1 - i =
      get_or-reverse (ascending a) i d (omega arith)
      ∙ get_or-tabulate a (λ c. c) (length (ascending a) - 1 - i) d (omega arith) in
      let at_j : get_or (reverse (ascending a)) j d ≡ length (ascending a) - 1 - j =
      get_or-reverse (ascending a) j d (omega arith)
      ∙ get_or-tabulate a (λ c. c) (length (ascending a) - 1 - j) d (omega arith) in
      omega arith

  -- each state is before the later ones
  pub in_order_rises : Rises (in_order x a odd)
  in_order_rises =
      let before : List ℕ → List ℕ → Type 0 = λ y z. is_before y z ≡ true in
      let first_part : Rises (lowering x a odd) =
      picked_rises (lowers x a odd) (ascending a) (λ b d. b < d) (ascending_rises a)
      (λ b d l m k. left_first b d l (in_lowering d k).0 (in_lowering b m).1) in
      let second_part : Rises (sideways x a odd) =
      picked_rises (is_right_of a odd) (transpose x) (λ b d. slice_index x b < slice_index x d) rows_rise
      (λ b d l m k. both_right b d (in_sideways b m).0 (in_sideways d k).0 (in_sideways b m).1 (in_sideways d k).1 l) in
      let third_part : Rises (raising x a odd) =
      picked_rises (raises x a odd) (reverse (ascending a)) (λ b d. d < b) descending_falls
      (λ b d l m k. left_last b d l (in_raising b m).0 (in_raising d k).1) in
      pairs_append before (lowering x a odd ++ sideways x a odd) (raising x a odd)
      (pairs_append before (lowering x a odd) (sideways x a odd) first_part second_part (λ y z m k.
      let (b, mb, eb) = member_of_map (λ b. swap x a b) (filter (lowers x a odd) (ascending a)) y m in
      let (d, md, ed) = member_of_map (λ b. swap x a b) (filter (is_right_of a odd) (transpose x)) z k in
      let l = in_lowering b mb in
      let r = in_sideways d md in
      subst₂ before eb ed (left_right b d l.0 r.0 r.1 l.1)))
      third_part
      (λ y z m k.
      let (d, md, ed) = member_of_map (λ b. swap x a b) (filter (raises x a odd) (reverse (ascending a))) z k in
      let r = in_raising d md in
      elim (Contains-append_cases (lowering x a odd) (sideways x a odd) y m) [
        | inl h ↦
            let (b, mb, eb) = member_of_map (λ b. swap x a b) (filter (lowers x a odd) (ascending a)) y h in
            let l = in_lowering b mb in
            subst₂ before eb ed (around b d l.0 r.0 (λ e. let f = ap (slice_index x) e in let u = l.1 in let v = r.1 in
            omega arith) l.1 r.1)
        | inr h ↦
            let (b, mb, eb) = member_of_map (λ b. swap x a b) (filter (is_right_of a odd) (transpose x)) y h in
            let l = in_sideways b mb in
            subst₂ before eb ed (right_left b d l.0 l.1 r.0 r.1)
      ])

  in_part : (test : ℕ → Bool) (circles : List ℕ) → ((b : ℕ) → Contains (filter test circles) b → b < n) → (y : List ℕ)
      → Contains (picked x a test circles) y → IsBijection n y
  in_part test circles small y m = let (b, mb, eb) = member_of_map (λ b. swap x a b) (filter test circles) y m in
      subst (IsBijection n) eb (state b (small b mb))

  -- they are states
  pub in_order_states : (y : List ℕ) → Contains (in_order x a odd) y → IsBijection n y
  in_order_states y m = elim (Contains-append_cases (lowering x a odd ++ sideways x a odd) (raising x a odd) y m) [
    | inl h ↦ elim (Contains-append_cases (lowering x a odd) (sideways x a odd) y h) [
      | inl k ↦ in_part (lowers x a odd) (ascending a) (λ b mb. let l = (in_lowering b mb).0 in omega arith) y k
      | inr k ↦ in_part (is_right_of a odd) (transpose x) (λ b mb. (in_sideways b mb).1) y k
    ]
    | inr h ↦ in_part (raises x a odd) (reverse (ascending a)) (λ b mb. let l = (in_raising b mb).0 in omega arith) y h
  ]

  -- their indices rise
  ranks_rising : IsStrictlyIncreasing (map rank (in_order x a odd))
  ranks_rising k l = ranks_rise n (in_order x a odd) in_order_states in_order_rises k (k + 1) 0 (omega arith) l

  -- ---- what the list holds
  part_sum : (f : List ℕ → Bool) (test : ℕ → Bool) (circles : List ℕ)
      → parity f (picked x a test circles) ≡ parity (λ b. test b && f (swap x a b)) circles
  part_sum f test circles =
      parity-map f (λ b. swap x a b) (filter test circles) ∙ parity-filter (λ b. f (swap x a b)) test circles

  sum_of_parts : (f : List ℕ → Bool)
      → parity f (in_order x a odd) ≡ parity_below n (λ b. differ b a && (is_set odd b && f (swap x a b)))
  sum_of_parts f =
      let F : ℕ → Bool = λ b. f (swap x a b) in
      parity-append f (lowering x a odd ++ sideways x a odd) (raising x a odd)
      ∙ ap (λ t. t ⊻ parity f (raising x a odd)) (parity-append f (lowering x a odd) (sideways x a odd))
      ∙ (λ i. (part_sum f (lowers x a odd) (ascending a) i ⊻ part_sum f (is_right_of a odd) (transpose x) i)
      ⊻ part_sum f (raises x a odd) (reverse (ascending a)) i)
      ∙ (λ i. (low i ⊻ side i) ⊻ high i)
      ∙ sym (parity-xor (λ b. (ltb b a && (lowers x a odd b && F b)) ⊻ (is_right_of a odd b && F b))
      (λ b. ltb b a && (raises x a odd b && F b)) (below n)
      ∙ ap (λ t. t ⊻ parity_below n (λ b. ltb b a && (raises x a odd b && F b)))
      (parity-xor (λ b. ltb b a && (lowers x a odd b && F b)) (λ b. is_right_of a odd b && F b) (below n)))
      ∙ parity_below-same n _ _ (λ b lb. one_part b lb (F b))
    where
      low : parity (λ b. lowers x a odd b && f (swap x a b)) (ascending a)
          ≡ parity_below n (λ b. ltb b a && (lowers x a odd b && f (swap x a b)))
      low = parity-tabulate (λ b. lowers x a odd b && f (swap x a b)) a (λ c. c)
          ∙ sym (parity_below-left n a (λ b. lowers x a odd b && f (swap x a b)) (omega arith))

      high : parity (λ b. raises x a odd b && f (swap x a b)) (reverse (ascending a))
          ≡ parity_below n (λ b. ltb b a && (raises x a odd b && f (swap x a b)))
      high = parity-reverse (λ b. raises x a odd b && f (swap x a b)) (ascending a)
          ∙ parity-tabulate (λ b. raises x a odd b && f (swap x a b)) a (λ c. c)
          ∙ sym (parity_below-left n a (λ b. raises x a odd b && f (swap x a b)) (omega arith))

      side : parity (λ b. is_right_of a odd b && f (swap x a b)) (transpose x)
          ≡ parity_below n (λ b. is_right_of a odd b && f (swap x a b))
      side =
          parity-tabulate (λ b. is_right_of a odd b && f (swap x a b)) (length x) (column_of (length x) (slice_index x))
          ∙ ap (λ m. parity_below m (λ r. is_right_of a odd (column_of m (slice_index x) r)
          && f (swap x a (column_of m (slice_index x) r)))) sx.long
          ∙ parity_below_reindex n (column_of n (slice_index x))
          (column_of-one_to_one n (slice_index x) (one_to_one n x sx)) (λ b. is_right_of a odd b && f (swap x a b))

      one_part : (b : ℕ) → b < n → (t : Bool)
          → ((ltb b a && (lowers x a odd b && t)) ⊻ (is_right_of a odd b && t)) ⊻ (ltb b a && (raises x a odd b && t))
          ≡ (differ b a && (is_set odd b && t))
      one_part b lb t =
          parts b a (slice_index x b) (slice_index x a) (is_set odd b) t (λ e. ap (slice_index x) e)
          (λ p. sx.apart b a lb la p)

  -- The exchanges are the states of each chain that holds an index as often as they lead to it.
  pub codes-in_order : (z : Chain)
      → ((q : ℕ) → holds z q ≡ parity_below n (λ b. differ b a && (is_set odd b && eqb q (rank (swap x a b)))))
      → map rank (in_order x a odd) ≡ codes z
  codes-in_order z h =
      let ranks : List ℕ = map rank (in_order x a odd) in
      let listed : codes (of_codes ranks) ≡ ranks = codes-of_codes ranks ranks_rising in
      sym listed ∙ ap codes (same_chain (of_codes ranks) z (λ q.
      sym (weight-at (of_codes ranks) q) ∙ weight-list (λ s. eqb q s) (of_codes ranks)
      ∙ ap (parity (λ s. eqb q s)) listed
      ∙ parity-map (λ s. eqb q s) rank (in_order x a odd)
      ∙ sum_of_parts (λ y. eqb q (rank y))
      ∙ sym (h q)))
