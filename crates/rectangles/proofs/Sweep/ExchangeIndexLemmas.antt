-- The index of a state with two points exchanged, from its own.
-- Route: by its Lehmer code an index is a sum over the columns. Let p < q be the rows of two columns, and let them be
-- exchanged. On each column between them a row between p and q has one lower row more behind it; the left column has as
-- many lower rows more behind it as there are rows between p and q behind it, and one; the right column has as many
-- fewer as there are behind it.
use Rattle.std.proofs.Common.{◌≡◌, ◌≢◌, ℕ, suc, ◌+◌, ◌-◌, ◌*◌, ◌<◌, ◌≤◌, ◌⊎◌, Bool, true, false, List, [], ◌∷◌, ◌++◌, length, take, drop, slice_index, swap, refl, drop-cons, ap, ◌∙◌, sym, ltb, arith, inl, inr, cond}
use Rattle.std.proofs.lemmas.Bool.{lt-ltb, le-ltb, cases_Bool}
use Rattle.std.proofs.lemmas.List.{length-append, length-drop, length-take-le, take-append-drop, get_or-take, get_or-drop, append_assoc, drop-drop}
use Rattle.state_rank.specs.States.{factorial, rank}
use Rattle.state_rank.proofs.MemberLemmas.{count, count-yes, count-no, count-append}
use Rattle.state_rank.proofs.LehmerLemmas.{lower, lehmer, rank-lehmer, factorial_grows}
use Rattle.state_rank.specs.Bijection.{IsBijection}
use Rattle.state_rank.proofs.SwapLemmas.{IsBijection-swap}
use Rattle.state_rank.proofs.BlockLemmas.{swap-next}
use Rattle.rectangles.specs.Inner.ExchangeIndices.{between, gain, exchange_gain}

-- 1 if the test holds, else 0
abbrev one : Bool → ℕ
one b = cond b 1 0

-- r is none of the rows
abbrev pub IsNoneOf : ℕ → List ℕ → Type 0
IsNoneOf r xs = (i : ℕ) → i < length xs → slice_index xs i ≢ r

none_of_tail : (r s : ℕ) (xs : List ℕ) → IsNoneOf r (s ∷ xs) → IsNoneOf r xs
none_of_tail r s xs h i l = h (suc i) (omega arith)

none_of_head : (r s : ℕ) (xs : List ℕ) → IsNoneOf r (s ∷ xs) → s ≢ r
none_of_head r s xs h = h 0 (omega arith)

count-cons : (t : ℕ → Bool) (x : ℕ) (xs : List ℕ) → count t (x ∷ xs) ≡ one (t x) + count t xs
count-cons t x xs = elim (cases_Bool (t x)) [
  | inl e ↦ count-yes t x xs e ∙ omega arith ∙ ap (λ b. one b + count t xs) (sym e)
  | inr e ↦ count-no t x xs e ∙ omega arith ∙ ap (λ b. one b + count t xs) (sym e)
]

-- of a row that is not p, and of two rows p < q
one-lower : (p q r : ℕ) → p < q → r ≢ p → one (ltb r q) ≡ one (ltb r p) + one (between p q r)
one-lower p q r l d = grind arith

-- and of a row that is not q
one-higher : (p q r : ℕ) → p < q → r ≢ q → one (ltb p r) ≡ one (ltb q r) + one (between p q r)
one-higher p q r l d = grind arith

-- the rows below q are those below p and those between
lower-between : (p q : ℕ) → p < q → (xs : List ℕ) → IsNoneOf p xs
    → lower q xs ≡ lower p xs + count (between p q) xs
lower-between p q l [] h = refl
lower-between p q l (x ∷ xs) h =
    let a = count-cons (λ s. ltb s q) x xs in
    let b = count-cons (λ s. ltb s p) x xs in
    let c = count-cons (between p q) x xs in
    let d = one-lower p q x l (none_of_head p x xs h) in
    let e = lower-between p q l xs (none_of_tail p x xs h) in
    omega arith

-- with no more than k behind
gain-behind : (p q first d k : ℕ) (xs : List ℕ) → length xs ≤ k → gain p q first d k xs ≡ count (between p q) xs * d
unfolding gain
gain-behind p q first d k [] l = omega arith
gain-behind p q first d k (x ∷ xs) l =
    let a = count-cons (between p q) x xs in
    let e = gain-behind p q first d k xs (omega arith) in
    ap (λ t. cond (between p q x) (cond t (first + factorial (length xs)) d) 0 + gain p q first d k xs)
    (le-ltb k (length xs) (omega arith))
    ∙ by (between p q x) (gain p q first d k xs) (count (between p q) xs) e
    ∙ ap (λ m. m * d) (sym a)
  where
    by : (b : Bool) (g m : ℕ) → g ≡ m * d → cond b d 0 + g ≡ (one b + m) * d
    by true g m e = omega arith
    by false g m e = omega arith

-- a row that is put in the middle is counted once
count-middle : (t : ℕ → Bool) (u v : List ℕ) (r : ℕ) → count t (u ++ r ∷ v) ≡ one (t r) + (count t u + count t v)
count-middle t u v r = let a = count-append t u (r ∷ v) in let b = count-cons t r v in omega arith

length-middle : (u v : List ℕ) (r : ℕ) → length (u ++ r ∷ v) ≡ length u + suc (length v)
length-middle u v r = length-append u (r ∷ v)

module _ (p q : ℕ) (l : p < q) (v : List ℕ) (first d : ℕ) (first_is : first ≡ d + factorial (length v))
    (v_p : IsNoneOf p v) where
  -- on the columns behind the left one
  lehmer-behind : (u : List ℕ) (z : ℕ) → between p q z ≡ false → IsNoneOf q u
      → lehmer (u ++ p ∷ v) + count (between p q) (u ++ v) * first
      ≡ lehmer (u ++ q ∷ v) + gain p q first d (length v) (u ++ z ∷ v)
  unfolding lehmer gain
  lehmer-behind [] z out h =
      let a = lower-between p q l v v_p in
      let g = gain-behind p q first d (length v) v (omega arith) in
      by (lower p v) (lower q v) (count (between p q) v) (factorial (length v)) (lehmer v) a first_is
      ∙ (λ i. lower q v * factorial (length v) + lehmer v + (0 + sym g i))
      ∙ ap (λ b. lower q v * factorial (length v) + lehmer v
      + (cond b (cond (ltb (length v) (length v)) (first + factorial (length v)) d) 0 + gain p q first d (length v) v))
      (sym out)
    where
      by : (lp lq m f k : ℕ) → lq ≡ lp + m → first ≡ d + f → lp * f + k + m * first ≡ lq * f + k + (0 + m * d)
      by lp lq m f k e i = ap (λ t. lp * f + k + m * t) i ∙ omega arith ∙ ap (λ t. t * f + k + (0 + m * d)) (sym e)
  lehmer-behind (r ∷ u) z out h =
      let e = lehmer-behind u z out (none_of_tail q r u h) in
      let t = one-higher p q r l (none_of_head q r u h) in
      let a = count-middle (λ s. ltb s r) u v p in
      let b = count-middle (λ s. ltb s r) u v q in
      let m = count-cons (between p q) r (u ++ v) in
      let n : length (u ++ q ∷ v) ≡ length (u ++ p ∷ v) = length-middle u v q ∙ sym (length-middle u v p) in
      let o : length (u ++ z ∷ v) ≡ length (u ++ p ∷ v) = length-middle u v z ∙ sym (length-middle u v p) in
      let many : length v < length (u ++ z ∷ v) = let k = length-middle u v z in omega arith in
      by (between p q r) (lower r (u ++ p ∷ v)) (lower r (u ++ q ∷ v)) (factorial (length (u ++ p ∷ v)))
      (lehmer (u ++ p ∷ v)) (lehmer (u ++ q ∷ v)) (count (between p q) (u ++ v))
      (gain p q first d (length v) (u ++ z ∷ v)) (omega arith) e
      (count (between p q) (r ∷ (u ++ v))) m
      ∙ (λ i. lower r (u ++ q ∷ v) * factorial (sym n i) + lehmer (u ++ q ∷ v)
      + (cond (between p q r) (first + factorial (sym o i)) 0 + gain p q first d (length v) (u ++ z ∷ v)))
      ∙ ap (λ c. lower r (u ++ q ∷ v) * factorial (length (u ++ q ∷ v)) + lehmer (u ++ q ∷ v)
      + (cond (between p q r) (cond c (first + factorial (length (u ++ z ∷ v))) d) 0
      + gain p q first d (length v) (u ++ z ∷ v))) (sym (lt-ltb (length v) (length (u ++ z ∷ v)) many))
    where
      by : (c : Bool) (lp lq f kp kq m g : ℕ) → lp ≡ lq + one c → kp + m * first ≡ kq + g → (n : ℕ) → n ≡ one c + m
          → lp * f + kp + n * first ≡ lq * f + kq + (cond c (first + f) 0 + g)
      by true lp lq f kp kq m g e i n j =
          (λ k. e k * f + kp + j k * first)
          ∙ distribute lq f kp m kq g i
        where
          distribute : (lq f kp m kq g : ℕ) → kp + m * first ≡ kq + g
              → (lq + 1) * f + kp + (1 + m) * first ≡ lq * f + kq + (first + f + g)
          distribute lq f kp m kq g i = omega arith
      by false lp lq f kp kq m g e i n j =
          let a : lp ≡ lq = omega arith in
          let b : n ≡ m = omega arith in
          (λ k. a k * f + kp + b k * first) ∙ omega arith

  -- on the left column too
  pub lehmer-exchanged : (u : List ℕ) (z : ℕ) → between p q z ≡ false → IsNoneOf p u → IsNoneOf q u
      → first ≡ factorial (length (u ++ z ∷ v))
      → lehmer (q ∷ (u ++ p ∷ v)) ≡ lehmer (p ∷ (u ++ q ∷ v)) + (first + gain p q first d (length v) (u ++ z ∷ v))
  unfolding lehmer
  lehmer-exchanged u z out up uq whole =
      let e = lehmer-behind u z out uq in
      let a = count-middle (λ s. ltb s q) u v p in
      let b = count-middle (λ s. ltb s p) u v q in
      let m = count-append (between p q) u v in
      let i = lower-between p q l u up in
      let j = lower-between p q l v v_p in
      let s = ap one (lt-ltb p q l) in
      let t = ap one (le-ltb q p (omega arith)) in
      let n : first ≡ factorial (length (u ++ p ∷ v)) =
      whole ∙ ap factorial (length-middle u v z ∙ sym (length-middle u v p)) in
      let o : first ≡ factorial (length (u ++ q ∷ v)) =
      whole ∙ ap factorial (length-middle u v z ∙ sym (length-middle u v q)) in
      (λ k. lower q (u ++ p ∷ v) * sym n k + lehmer (u ++ p ∷ v))
      ∙ by (lower q (u ++ p ∷ v)) (lower p (u ++ q ∷ v)) (lehmer (u ++ p ∷ v)) (lehmer (u ++ q ∷ v))
      (count (between p q) (u ++ v)) (gain p q first d (length v) (u ++ z ∷ v)) (omega arith) e
      ∙ (λ k. lower p (u ++ q ∷ v) * o k + lehmer (u ++ q ∷ v) + (first + gain p q first d (length v) (u ++ z ∷ v)))
    where
      by : (lq lp kp kq m g : ℕ) → lq ≡ lp + (1 + m) → kp + m * first ≡ kq + g
          → lq * first + kp ≡ lp * first + kq + (first + g)
      by lq lp kp kq m g e i = ap (λ t. t * first + kp) e ∙ distribute lp kp kq m g i
        where
          distribute : (lp kp kq m g : ℕ) → kp + m * first ≡ kq + g
              → (lp + (1 + m)) * first + kp ≡ lp * first + kq + (first + g)
          distribute lp kp kq m g i = omega arith

  -- and with any columns before
  pub lehmer-exchanged_after : (w u : List ℕ) (z : ℕ) → between p q z ≡ false → IsNoneOf p u → IsNoneOf q u
      → first ≡ factorial (length (u ++ z ∷ v))
      → lehmer (w ++ q ∷ (u ++ p ∷ v))
      ≡ lehmer (w ++ p ∷ (u ++ q ∷ v)) + (first + gain p q first d (length v) (u ++ z ∷ v))
  unfolding lehmer
  lehmer-exchanged_after [] u z out up uq whole = lehmer-exchanged u z out up uq whole
  lehmer-exchanged_after (r ∷ w) u z out up uq whole =
      let e = lehmer-exchanged_after w u z out up uq whole in
      let a = count-middle (λ s. ltb s r) w (u ++ p ∷ v) q in
      let b = count-middle (λ s. ltb s r) w (u ++ q ∷ v) p in
      let c = count-middle (λ s. ltb s r) u v p in
      let f = count-middle (λ s. ltb s r) u v q in
      let n : length (w ++ q ∷ (u ++ p ∷ v)) ≡ length (w ++ p ∷ (u ++ q ∷ v)) =
      length-middle w (u ++ p ∷ v) q
      ∙ ap (λ k. length w + suc k) (length-middle u v p ∙ sym (length-middle u v q))
      ∙ sym (length-middle w (u ++ q ∷ v) p) in
      let o : lower r (w ++ q ∷ (u ++ p ∷ v)) ≡ lower r (w ++ p ∷ (u ++ q ∷ v)) = omega arith in
      (λ k. o k * factorial (n k) + e k) ∙ omega arith

module _ (n : ℕ) (x : List ℕ) (s : IsBijection n x) (a b : ℕ) (left : a < b) (inside : b < n) where
  abbrev p : ℕ
  p = slice_index x a

  abbrev q : ℕ
  q = slice_index x b

  abbrev w : List ℕ
  w = take a x

  abbrev u : List ℕ
  u = take (b - (a + 1)) (drop (a + 1) x)

  abbrev v : List ℕ
  v = drop (b + 1) x

  -- the rows behind the left column
  behind : drop (a + 1) x ≡ u ++ q ∷ v
  behind =
      let e = s.long in
      let i : a + 1 + (b - (a + 1)) ≡ b = omega arith in
      let j : suc b ≡ b + 1 = omega arith in
      sym (take-append-drop (b - (a + 1)) (drop (a + 1) x))
      ∙ ap (λ ys. u ++ ys) (drop-drop (b - (a + 1)) (a + 1) x ∙ ap (λ k. drop k x) i ∙ drop-cons x b 0 (omega arith)
      ∙ ap (λ k. q ∷ drop k x) j)

  parts : x ≡ w ++ p ∷ (u ++ q ∷ v)
  parts =
      let e = s.long in
      let j : suc a ≡ a + 1 = omega arith in
      sym (take-append-drop a x)
      ∙ ap (λ ys. w ++ ys) (drop-cons x a 0 (omega arith) ∙ ap (λ k. p ∷ drop k x) j ∙ ap (λ ys. p ∷ ys) behind)

  length-w : length w ≡ a
  length-w = let e = s.long in length-take-le a x (omega arith)

  length-u : length u ≡ b - (a + 1)
  length-u =
      let e = s.long in
      let k = length-drop (a + 1) x in
      length-take-le (b - (a + 1)) (drop (a + 1) x) (omega arith)

  length-v : length v ≡ length x - (b + 1)
  length-v = length-drop (b + 1) x

  exchanged : swap x a b ≡ w ++ q ∷ (u ++ p ∷ v)
  exchanged =
      let i : a ≡ length w = sym length-w in
      let j : b ≡ length w + 1 + length u = let k = length-w in let m = length-u in omega arith in
      (λ k. swap (parts k) (i k) (j k)) ∙ swap-next w p u q v ∙ ap (λ ys. w ++ q ∷ ys) (append_assoc u (p ∷ []) v)

  none_in_u : (c : ℕ) → c < n → (c ≤ a) ⊎ (b ≤ c) → IsNoneOf (slice_index x c) u
  none_in_u c lc o i l e =
      let k = length-u in
      let at : slice_index u i ≡ slice_index x (a + 1 + i) =
      get_or-take (b - (a + 1)) (drop (a + 1) x) i 0 (omega arith) ∙ get_or-drop (a + 1) x i 0 in
      s.apart (a + 1 + i) c (omega arith) lc
      (λ f. elim o [ inl m ↦ absurd (omega arith) | inr m ↦ absurd (omega arith) ]) (sym at ∙ e)

  none_in_v : (c : ℕ) → c ≤ b → IsNoneOf (slice_index x c) v
  none_in_v c lc i l e =
      let k = length-v in
      let m = s.long in
      let at : slice_index v i ≡ slice_index x (b + 1 + i) = get_or-drop (b + 1) x i 0 in
      s.apart (b + 1 + i) c (omega arith) (omega arith) (λ f. absurd (omega arith)) (sym at ∙ e)

  first_whole : factorial (length x - (a + 1)) ≡ factorial (length (u ++ q ∷ v))
  first_whole = ap factorial (sym (length-drop (a + 1) x) ∙ ap length behind)

  first_more : factorial (length x - (a + 1))
      ≡ factorial (length x - (a + 1)) - factorial (length x - (b + 1)) + factorial (length v)
  first_more =
      let h = factorial_grows (length x - (b + 1)) (length x - (a + 1)) (omega arith) in
      let e = ap factorial length-v in
      omega arith

  gain-is : (low high : ℕ) → gain low high (factorial (length x - (a + 1)))
      (factorial (length x - (a + 1)) - factorial (length x - (b + 1))) (length v) (u ++ q ∷ v)
      ≡ gain low high (factorial (length x - (a + 1)))
      (factorial (length x - (a + 1)) - factorial (length x - (b + 1))) (length x - (b + 1)) (drop (a + 1) x)
  gain-is low high = λ i. gain low high (factorial (length x - (a + 1)))
      (factorial (length x - (a + 1)) - factorial (length x - (b + 1))) (length-v i) (sym behind i)

  rank-parts : rank x ≡ lehmer (w ++ p ∷ (u ++ q ∷ v))
  rank-parts = rank-lehmer n x s ∙ ap lehmer parts

  rank-exchanged_parts : rank (swap x a b) ≡ lehmer (w ++ q ∷ (u ++ p ∷ v))
  rank-exchanged_parts =
      rank-lehmer n (swap x a b) (IsBijection-swap n x a b (omega arith) inside s) ∙ ap lehmer exchanged

  -- if the left point is the lower one
  pub rank-swap_up : p < q → rank (swap x a b) ≡ rank x + exchange_gain x a b p q
  rank-swap_up l =
      rank-exchanged_parts
      ∙ lehmer-exchanged_after p q l v (factorial (length x - (a + 1)))
      (factorial (length x - (a + 1)) - factorial (length x - (b + 1))) first_more (none_in_v a (omega arith)) w u q
      (not_above p q) (none_in_u a (omega arith) (inl (omega arith))) (none_in_u b inside (inr (omega arith)))
      first_whole
      ∙ (λ i. sym rank-parts i + (factorial (length x - (a + 1)) + gain-is p q i))
    where
      not_above : (p q : ℕ) → between p q q ≡ false
      not_above p q = grind arith

  -- if it is the higher one
  pub rank-swap_down : q < p → rank x ≡ rank (swap x a b) + exchange_gain x a b q p
  rank-swap_down l =
      rank-parts
      ∙ lehmer-exchanged_after q p l v (factorial (length x - (a + 1)))
      (factorial (length x - (a + 1)) - factorial (length x - (b + 1))) first_more (none_in_v b (omega arith)) w u q
      (not_below q p) (none_in_u b inside (inr (omega arith))) (none_in_u a (omega arith) (inl (omega arith)))
      first_whole
      ∙ (λ i. sym rank-exchanged_parts i + (factorial (length x - (a + 1)) + gain-is q p i))
    where
      not_below : (p q : ℕ) → between p q p ≡ false
      not_below p q = grind arith

-- one column more adds what its row adds
pub gain-more : (x : List ℕ) (low high f d k c sum r more term : ℕ) → 0 < c → c ≤ length x → r ≡ slice_index x (c - 1)
    → sum ≡ f + gain low high f d k (drop c x) → more ≡ cond (ltb k (length x - c)) (f + factorial (length x - c)) d
    → term ≡ cond (between low high r) more 0 → sum + term ≡ f + gain low high f d k (drop (c - 1) x)
unfolding gain
gain-more x low high f d k c sum r more term some within r_is e m t =
    let next : suc (c - 1) ≡ c = omega arith in
    let rest : drop (c - 1) x ≡ slice_index x (c - 1) ∷ drop c x =
    drop-cons x (c - 1) 0 (omega arith) ∙ ap (λ i. slice_index x (c - 1) ∷ drop i x) next in
    let same : term ≡ cond (between low high (slice_index x (c - 1)))
    (cond (ltb k (length (drop c x))) (f + factorial (length (drop c x))) d) 0 =
    t ∙ (λ i. cond (between low high (r_is i)) (m i) 0)
    ∙ ap (λ n. cond (between low high (slice_index x (c - 1))) (cond (ltb k n) (f + factorial n) d) 0)
    (sym (length-drop c x)) in
    let whole : sum + term ≡ f + gain low high f d k (slice_index x (c - 1) ∷ drop c x) = omega (arith, e, same) in
    whole ∙ ap (λ ys. f + gain low high f d k ys) (sym rest)
