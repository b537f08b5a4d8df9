-- The merge of two ascending lists of codes: what it writes is the sum of their chains.
-- Route: at each step what has been written and what is left of both lists add up to the sum, and
-- each number written is below all that is left. When one list is at its end, the rest of the other
-- is written in one go.
use Rattle.std.proofs.Common.{◌≡◌, ℕ, zero, suc, ◌+◌, ◌<◌, ◌≤◌, List, [], ◌∷◌, ◌++◌, length, take, drop, length-drop, slice_index, inl, inr, add-one, drop-cons, length-append, drop_of_length-le, append_assoc, append-nil, ◌-◌, refl, sym, ap, ap₂, subst, ◌∙◌, arith}
use Rattle.std.proofs.lemmas.List.{get_or_append_left, get_or_push}
use Rattle.std.proofs.Math.Seq.{take-length}
use Rattle.std.proofs.lemmas.Bool.{cases_lt}
use Rattle.std.specs.List.Sorted.{IsStrictlyIncreasing}
use Rattle.f2_algebra.specs.Chain.{Chain, of_codes, single, ◌⊕◌}
use Rattle.f2_algebra.proofs.Chains.Sums.{add_comm, add_assoc, nothing-add, add-nothing, add_self, add_swap}
use Rattle.f2_algebra.proofs.Chains.Lists.{of_codes-push, of_codes-drop, any-above, rises}

-- ---- the merge of two lists of codes that rise
-- what has been read of a and b, up to i and j, adds up to out
pub record IsMerged (a b out : List ℕ) (i j : ℕ) : Type 0 where
  pub total : of_codes out ⊕ (of_codes (drop i a) ⊕ of_codes (drop j b)) ≡ of_codes a ⊕ of_codes b
  pub rising : IsStrictlyIncreasing out
  pub below_a : (k n : ℕ) → k < length out → i ≤ n → n < length a → slice_index out k < slice_index a n
  pub below_b : (k n : ℕ) → k < length out → j ≤ n → n < length b → slice_index out k < slice_index b n

-- before the first step
pub merged_none : (a b : List ℕ) → IsMerged a b [] 0 0
merged_none a b = record {
  total = nothing-add _;
  rising = λ k l. absurd (omega arith);
  below_a = λ k n l. absurd (omega arith);
  below_b = λ k n l. absurd (omega arith);
}

pushed_left : (xs : List ℕ) (x k : ℕ) → k < length xs → slice_index (xs ++ x ∷ []) k ≡ slice_index xs k
pushed_left xs x k l = get_or_append_left xs (x ∷ []) 0 k l

pushed_last : (xs : List ℕ) (x k : ℕ) → length xs ≡ k → slice_index (xs ++ x ∷ []) k ≡ x
pushed_last xs x k l = get_or_push xs x 0 k l

pushed_length : (xs : List ℕ) (x : ℕ) → length (xs ++ x ∷ []) ≡ length xs + 1
pushed_length xs x = length-append xs (x ∷ [])

rising-push : (xs : List ℕ) (x : ℕ) → IsStrictlyIncreasing xs → ((k : ℕ) → k < length xs → slice_index xs k < x)
    → IsStrictlyIncreasing (xs ++ x ∷ [])
rising-push xs x h above k l =
    let n = pushed_length xs x in
    let in_xs : k < length xs = omega arith in
    let left = pushed_left xs x k in_xs in
    elim (cases_lt (k + 1) (length xs)) [
      | inl p ↦ let right = pushed_left xs x (k + 1) p in let m = h k p in omega arith
      | inr p ↦ let right = pushed_last xs x (k + 1) (omega arith) in let m = above k in_xs in omega arith
    ]

at_push : (xs : List ℕ) (x k : ℕ) (P : ℕ → Type 0) → k < length (xs ++ x ∷ [])
    → ((m : ℕ) → m < length xs → P (slice_index xs m)) → P x → P (slice_index (xs ++ x ∷ []) k)
at_push xs x k P l old new =
    let n = pushed_length xs x in
    elim (cases_lt k (length xs)) [
      | inl p ↦ subst P (sym (pushed_left xs x k p)) (old k p)
      | inr p ↦ subst P (sym (pushed_last xs x k (omega arith))) new
    ]

swap_in : (o x d e : Chain) → (o ⊕ x) ⊕ (d ⊕ e) ≡ o ⊕ ((x ⊕ d) ⊕ e)
swap_in o x d e = add_assoc o x (d ⊕ e) ∙ ap (λ c. o ⊕ c) (sym (add_assoc x d e))

module _ (a b out : List ℕ) (i j : ℕ) (up_a : IsStrictlyIncreasing a) (up_b : IsStrictlyIncreasing b)
    (m : IsMerged a b out i j) where
  rises_to : (xs : List ℕ) → IsStrictlyIncreasing xs → (i n : ℕ) → i ≤ n → n < length xs
      → slice_index xs i ≤ slice_index xs n
  rises_to xs up i n l k =
      elim (cases_lt i n) [
        | inl p ↦ let h = rises xs up i n p k in omega arith
        | inr p ↦ let e : i ≡ n = omega arith in let same = ap (slice_index xs) e in omega arith
      ]

  -- a step that takes the next code of a
  pub merged_a : i < length a → (j < length b → slice_index a i < slice_index b j)
      → IsMerged a b (out ++ slice_index a i ∷ []) (i + 1) j
  merged_a l less =
      let x = slice_index a i in
      let above : (k : ℕ) → k < length out → slice_index out k < x = λ k p. m.below_a k i p (omega arith) l in
      record {
        total = ap₂ ◌⊕◌ (of_codes-push out x (any-above x out above)) refl
            ∙ swap_in (of_codes out) (single x) (of_codes (drop (i + 1) a)) (of_codes (drop j b))
            ∙ ap (λ c. of_codes out ⊕ (c ⊕ of_codes (drop j b))) (sym (of_codes-drop a up_a i l)) ∙ m.total;
        rising = rising-push out x m.rising above;
        below_a =
            λ k n p q r. at_push out x k (λ y. y < slice_index a n) p (λ t u. m.below_a t n u (omega arith) r)
            (rises a up_a i n (omega arith) r);
        below_b =
            λ k n p q r. at_push out x k (λ y. y < slice_index b n) p (λ t u. m.below_b t n u q r)
            (let h = less (omega arith) in let g = rises_to b up_b j n q r in omega arith);
      }

  -- a step that takes the next code of b
  pub merged_b : j < length b → (i < length a → slice_index b j < slice_index a i)
      → IsMerged a b (out ++ slice_index b j ∷ []) i (j + 1)
  merged_b l less =
      let x = slice_index b j in
      let above : (k : ℕ) → k < length out → slice_index out k < x = λ k p. m.below_b k j p (omega arith) l in
      record {
        total = ap₂ ◌⊕◌ (of_codes-push out x (any-above x out above))
            (add_comm (of_codes (drop i a)) (of_codes (drop (j + 1) b)))
            ∙ swap_in (of_codes out) (single x) (of_codes (drop (j + 1) b)) (of_codes (drop i a))
            ∙ ap (λ c. of_codes out ⊕ c) (ap (λ c. c ⊕ of_codes (drop i a)) (sym (of_codes-drop b up_b j l))
            ∙ add_comm (of_codes (drop j b)) (of_codes (drop i a))) ∙ m.total;
        rising = rising-push out x m.rising above;
        below_a =
            λ k n p q r. at_push out x k (λ y. y < slice_index a n) p (λ t u. m.below_a t n u q r)
            (let h = less (omega arith) in let g = rises_to a up_a i n q r in omega arith);
        below_b =
            λ k n p q r. at_push out x k (λ y. y < slice_index b n) p (λ t u. m.below_b t n u (omega arith) r)
            (rises b up_b j n (omega arith) r);
      }

  -- a step over a code that both have
  pub merged_both : i < length a → j < length b → slice_index a i ≡ slice_index b j → IsMerged a b out (i + 1) (j + 1)
  merged_both la lb same =
      let x = single (slice_index a i) in
      let da = of_codes (drop (i + 1) a) in
      let db = of_codes (drop (j + 1) b) in
      record {
        total = ap (λ c. of_codes out ⊕ c)
            (sym (ap₂ ◌⊕◌ (of_codes-drop a up_a i la) (of_codes-drop b up_b j lb ∙ ap (λ t. single t ⊕ db) (sym same))
            ∙ add_swap x da x db ∙ ap (λ c. c ⊕ (da ⊕ db)) (add_self x) ∙ nothing-add _))
            ∙ m.total;
        rising = m.rising;
        below_a = λ k n p q r. m.below_a k n p (omega arith) r;
        below_b = λ k n p q r. m.below_b k n p (omega arith) r;
      }

-- after the last step the sum is complete
pub merged_all : (a b out : List ℕ) (i j : ℕ) → IsMerged a b out i j → length a ≤ i → length b ≤ j
    → of_codes out ≡ of_codes a ⊕ of_codes b
merged_all a b out i j m la lb =
    sym (ap (λ c. of_codes out ⊕ c)
    (ap₂ (λ s t. of_codes s ⊕ of_codes t) (drop_of_length-le a la) (drop_of_length-le b lb) ∙ add_self _)
    ∙ add-nothing _) ∙ m.total

-- a list of which k numbers are left, and the other list at its end
rest_of_a : (a b : List ℕ) → IsStrictlyIncreasing a → IsStrictlyIncreasing b → (k i j : ℕ) (out : List ℕ)
    → length a ≡ i + k → length b ≤ j → IsMerged a b out i j → IsMerged a b (out ++ drop i a) (length a) j
rest_of_a a b up_a up_b zero i j out e lb m =
    let at_end : i ≡ length a = omega arith in
    let none : drop i a ≡ [] = drop_of_length-le a (omega arith) in
    let same : out ≡ out ++ drop i a = sym (ap (λ xs. out ++ xs) none ∙ append-nil out) in
    subst (λ xs. IsMerged a b xs (length a) j) same (subst (λ n. IsMerged a b out n j) at_end m)
rest_of_a a b up_a up_b (suc k) i j out e lb m =
    let next : drop i a ≡ slice_index a i ∷ drop (i + 1) a =
    drop-cons a i 0 (omega arith) ∙ ap (λ n. slice_index a i ∷ drop n a) (sym (add-one i)) in
    let same : (out ++ slice_index a i ∷ []) ++ drop (i + 1) a ≡ out ++ drop i a =
    append_assoc out (slice_index a i ∷ []) (drop (i + 1) a) ∙ sym (ap (λ xs. out ++ xs) next) in
    let step : IsMerged a b (out ++ slice_index a i ∷ []) (i + 1) j =
    merged_a a b out i j up_a up_b m (omega arith) (λ l. absurd (omega arith)) in
    subst (λ xs. IsMerged a b xs (length a) j) same
    (rest_of_a a b up_a up_b k (i + 1) j (out ++ slice_index a i ∷ []) (omega arith) lb step)

rest_of_b : (a b : List ℕ) → IsStrictlyIncreasing a → IsStrictlyIncreasing b → (k i j : ℕ) (out : List ℕ)
    → length b ≡ j + k → length a ≤ i → IsMerged a b out i j → IsMerged a b (out ++ drop j b) i (length b)
rest_of_b a b up_a up_b zero i j out e la m =
    let at_end : j ≡ length b = omega arith in
    let none : drop j b ≡ [] = drop_of_length-le b (omega arith) in
    let same : out ≡ out ++ drop j b = sym (ap (λ xs. out ++ xs) none ∙ append-nil out) in
    subst (λ xs. IsMerged a b xs i (length b)) same (subst (λ n. IsMerged a b out i n) at_end m)
rest_of_b a b up_a up_b (suc k) i j out e la m =
    let next : drop j b ≡ slice_index b j ∷ drop (j + 1) b =
    drop-cons b j 0 (omega arith) ∙ ap (λ n. slice_index b j ∷ drop n b) (sym (add-one j)) in
    let same : (out ++ slice_index b j ∷ []) ++ drop (j + 1) b ≡ out ++ drop j b =
    append_assoc out (slice_index b j ∷ []) (drop (j + 1) b) ∙ sym (ap (λ xs. out ++ xs) next) in
    let step : IsMerged a b (out ++ slice_index b j ∷ []) i (j + 1) =
    merged_b a b out i j up_a up_b m (omega arith) (λ l. absurd (omega arith)) in
    subst (λ xs. IsMerged a b xs i (length b)) same
    (rest_of_b a b up_a up_b k i (j + 1) (out ++ slice_index b j ∷ []) (omega arith) la step)

-- the list that ascends, and whose chain is the sum of those of a and b
pub record IsSum (a b list : List ℕ) : Type 0 where
  pub ascending : IsStrictlyIncreasing list
  pub sum : of_codes list ≡ of_codes a ⊕ of_codes b

-- when one list is at its end, the rests of both complete the sum
pub merged_rest : (a b out : List ℕ) (i j : ℕ) → IsStrictlyIncreasing a → IsStrictlyIncreasing b → i ≤ length a
    → j ≤ length b → (i < length a → length b ≤ j) → IsMerged a b out i j → IsSum a b ((out ++ drop i a) ++ drop j b)
merged_rest a b out i j up_a up_b la lb ended m = elim (cases_lt i (length a)) [
  | inl l ↦
      let k = ended l in
      let none : drop j b ≡ [] = drop_of_length-le b k in
      let all = rest_of_a a b up_a up_b (length a - i) i j out (omega arith) k m in
      let same : out ++ drop i a ≡ (out ++ drop i a) ++ drop j b =
      sym (ap (λ xs. (out ++ drop i a) ++ xs) none ∙ append-nil (out ++ drop i a)) in
      subst (IsSum a b) same (complete (out ++ drop i a) (length a) j all (omega arith) k)
  | inr l ↦
      let none : drop i a ≡ [] = drop_of_length-le a l in
      let all = rest_of_b a b up_a up_b (length b - j) i j out (omega arith) l m in
      let same : out ++ drop j b ≡ (out ++ drop i a) ++ drop j b =
      ap (λ xs. xs ++ drop j b) (sym (ap (λ xs. out ++ xs) none ∙ append-nil out)) in
      subst (IsSum a b) same (complete (out ++ drop j b) i (length b) all l (omega arith))
]
  where
    complete : (list : List ℕ) (i j : ℕ) → IsMerged a b list i j → length a ≤ i → length b ≤ j → IsSum a b list
    complete list i j m la lb = record { ascending = m.rising; sum = merged_all a b list i j m la lb }

-- what the code reads as the rest of a list
pub take-drop : (i : ℕ) (xs : List ℕ) → take (length xs - i) (drop i xs) ≡ drop i xs
take-drop i xs = ap (λ n. take n (drop i xs)) (sym (length-drop i xs)) ∙ take-length (drop i xs)
