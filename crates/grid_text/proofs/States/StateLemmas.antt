-- Lists of states, one more state at the end, and a front of a list. The last state is after all others, so a state
-- after the last is after all.
use Rattle.std.proofs.Common.{◌≡◌, ℕ, ◌+◌, ◌-◌, ◌<◌, List, [], ◌∷◌, ◌++◌, length, take, get_or, IsTrue, refl, ap, subst, ◌∙◌, sym, arith, inl, inr, length-append}
use Rattle.std.proofs.lemmas.Bool.{cases_lt}
use Rattle.std.specs.List.{AllPairs}
use Rattle.std.proofs.lemmas.List.{get_or_default, get_or_append_left, get_or-append_right, get_or-take, length-take, take_more}
use Rattle.std.proofs.lemmas.List.Elements.{All-push, All-take}
use Rattle.std.proofs.lemmas.List.Quantifiers.{all_pairs_push}
use Rattle.state_rank.specs.Bijection.{IsBijection}
use Rattle.state_rank.specs.States.{IsState, is_before, rank}
use Rattle.state_rank.proofs.RankLemmas.{rank_order}
use Rattle.grid_text.specs.States.{AreStates}

-- of two states of one size the one of lower rank is before the other
states_order : (x y : List ℕ) → IsState x → IsState y → length x ≡ length y
    → (IsTrue (is_before x y) → rank x < rank y) × (rank x < rank y → IsTrue (is_before x y))
states_order x y s t same =
    let order = rank_order (length x) x y s.bijection (subst (λ n. IsBijection n y) (sym same) t.bijection) in
    (order.0, order.1)

-- no state before it
pub AreStates-one : (xs : List (List ℕ)) (x : List ℕ) → length xs ≡ 0 → IsState x → AreStates (xs ++ x ∷ [])
AreStates-one [] x empty s = record {
  states = λ k d l. let e : k ≡ 0 = omega arith in subst (λ j. IsState (get_or (x ∷ []) j d)) (sym e) s;
  one_size = λ i j d l m. absurd (omega arith);
  ascending = λ i j d l m. absurd (omega arith);
}
AreStates-one (y ∷ xs) x empty s = absurd (omega arith)

module _ (xs : List (List ℕ)) (x y : List ℕ) (last : y ≡ get_or xs (length xs - 1) y) (some : 0 < length xs) where
  -- the state at the end, and one more
  pub AreStates-more : AreStates xs → IsState x → (length y ≡ length x) × (rank y < rank x) → AreStates (xs ++ x ∷ [])
  AreStates-more z s next = record {
    states = All-push IsState xs x z.states s;
    one_size = all_pairs_push (λ (a b : List ℕ). length a ≡ length b) xs x z.one_size (λ k d l. (related k d l).0);
    ascending = all_pairs_push (λ a b. IsTrue (is_before a b)) xs x z.ascending
        (λ k d l. (states_order (get_or xs k d) x (z.states k d l) s (related k d l).0).1 (related k d l).1);
  }
    where
      related : (k : ℕ) (d : List ℕ) → k < length xs
          → (length (get_or xs k d) ≡ length x) × (rank (get_or xs k d) < rank x)
      related k d l =
          let at_last : get_or xs (length xs - 1) d ≡ y =
          get_or_default xs (length xs - 1) d y (omega arith) ∙ sym last in
          elim (cases_lt k (length xs - 1)) [
            | inl before ↦
                let same : length (get_or xs k d) ≡ length y =
                z.one_size k (length xs - 1) d before (omega arith) ∙ ap length at_last in
                let order = states_order (get_or xs k d) (get_or xs (length xs - 1) d) (z.states k d l)
                (z.states (length xs - 1) d (omega arith)) (z.one_size k (length xs - 1) d before (omega arith)) in
                let lower = order.0 (z.ascending k (length xs - 1) d before (omega arith)) in
                let lower_y : rank (get_or xs k d) < rank y =
                subst (λ a. rank (get_or xs k d) < rank a) at_last lower in
                (same ∙ next.0, omega (arith, lower_y, next.1))
            | inr from ↦
                let e : k ≡ length xs - 1 = omega arith in
                let is : get_or xs k d ≡ y = ap (λ j. get_or xs j d) e ∙ at_last in
                (ap length is ∙ next.0, subst (λ a. rank a < rank x) (sym is) next.1)
          ]

  -- and the other way round
  pub AreStates-next : AreStates (xs ++ x ∷ []) → (length y ≡ length x) × (rank y < rank x)
  AreStates-next z =
      let whole : length (xs ++ x ∷ []) ≡ length xs + 1 = length-append xs (x ∷ []) in
      let at_last : get_or (xs ++ x ∷ []) (length xs - 1) y ≡ y =
      get_or_append_left xs (x ∷ []) y (length xs - 1) (omega arith) ∙ sym last in
      let at_end : get_or (xs ++ x ∷ []) (length xs) y ≡ x = at_length in
      let same = z.one_size (length xs - 1) (length xs) y (omega arith) (omega arith) in
      let order = states_order (get_or (xs ++ x ∷ []) (length xs - 1) y) (get_or (xs ++ x ∷ []) (length xs) y)
      (z.states (length xs - 1) y (omega arith)) (z.states (length xs) y (omega arith)) same in
      let lower = order.0 (z.ascending (length xs - 1) (length xs) y (omega arith) (omega arith)) in (
        ap length (sym at_last) ∙ same ∙ ap length at_end,
        subst (λ a. a < rank x) (ap rank at_last)
            (subst (λ a. rank (get_or (xs ++ x ∷ []) (length xs - 1) y) < a) (ap rank at_end) lower),
      )
    where
      at_length : get_or (xs ++ x ∷ []) (length xs) y ≡ x
      at_length =
          let e : length xs - length xs ≡ 0 = omega arith in
          get_or-append_right xs (x ∷ []) (length xs) (length xs) y refl (omega arith) ∙ ap (λ i. get_or (x ∷ []) i y) e

-- what holds of pairs holds in a front
AllPairs-take : {A : Type 0} (R : A → A → Type 0) (k : ℕ) (xs : List A) → AllPairs R xs → AllPairs R (take k xs)
AllPairs-take R k xs h i j d l m =
    let within : (j < k) × (j < length xs) = grind (arith, length-take) in
    let first = get_or-take k xs i d (omega arith) in
    let second = get_or-take k xs j d within.0 in
    subst (λ a. R a (get_or (take k xs) j d)) (sym first)
    (subst (λ b. R (get_or xs i d) b) (sym second) (h i j d l within.1))

-- a front of such a list
pub AreStates-take : (k : ℕ) (xs : List (List ℕ)) → AreStates xs → AreStates (take k xs)
AreStates-take k xs z = record {
  states = All-take IsState k xs z.states;
  one_size = AllPairs-take (λ (a b : List ℕ). length a ≡ length b) k xs z.one_size;
  ascending = AllPairs-take (λ a b. IsTrue (is_before a b)) k xs z.ascending;
}

-- the front up to a state that does not follow
pub AreStates-not_next : (xs : List (List ℕ)) (k : ℕ) (x : List ℕ) → k < length xs → x ≡ get_or xs k x
    → (AreStates (take k xs ++ x ∷ []) → ⊥) → AreStates xs → ⊥
AreStates-not_next xs k x within is none z =
    none (subst AreStates (take_more xs k x within ∙ ap (λ y. take k xs ++ y ∷ []) (sym is))
    (AreStates-take (k + 1) xs z))
