-- Chains: lists of states in any order, and the same states in ascending order. States whose words are all different
-- can be put in ascending order, one at a time (`ascending_of`), and in one way (`same_ascending`); sorted by rank they
-- ascend exactly if no two are the same.
use Rattle.std.proofs.Common.{◌≡◌, ◌≢◌, ℕ, ◌<◌, ◌≤◌, false, List, [], ◌∷◌, map, get_or, refl, ap, subst, ◌∙◌, sym, arith, inl, inr, true≢false, IsTrue}
use Rattle.std.specs.List.{Contains, AllPairs}
use Rattle.std.specs.List.Sorted.{IsPermutation, IsNonDecreasingBy}
use Rattle.std.proofs.lemmas.Bool.{cases_order, cases_lt}
use Rattle.std.proofs.lemmas.List.Elements.{Contains-get_or}
use Rattle.std.proofs.lemmas.List.Sorted.{IsPermutation-refl, IsPermutation-sym, IsPermutation-cons, IsPermutation-trans, IsPermutation-middle, IsPermutation-map, Contains-permutation}
use Rattle.state_rank.specs.Bijection.{IsSize, IsBijection}
use Rattle.state_rank.specs.States.{is_before, rank, state_word}
use Rattle.state_rank.proofs.MemberLemmas.{member_cases, member_head, member_tail, no_member, pairs_cons, pairs_head, pairs_tail, pairs_weaker}
use Rattle.state_rank.proofs.OrderLemmas.{is_before-same, is_before-back}
use Rattle.state_rank.proofs.RankLemmas.{rank_order, rank_one_to_one}
use Rattle.grid_text.specs.States.{AreAscending, AreStates}
use Rattle.grid_text.specs.Faults.{has_repeated}
use Rattle.state_rank.proofs.WordLemmas.{state_word_injective}
use Rattle.grid_text.proofs.States.RepeatedLemmas.{has_repeated-apart, apart-has_repeated, AllPairs-map, AllPairs-unmap, has_repeated-IsPermutation}

-- states that ascend are all different
pub apart-AreAscending : (z : List (List ℕ)) → AreAscending z → AllPairs (λ x y. x ≢ y) z
apart-AreAscending z ascending =
    pairs_weaker (λ x y. IsTrue (is_before x y)) (λ x y. x ≢ y) z
    (λ x y before e. true≢false (sym before ∙ ap (is_before x) (sym e) ∙ is_before-same x)) ascending

-- states that ascend in some order are all different, and so are their words
pub repeated-none : (xs z : List (List ℕ)) → IsPermutation xs z → AreAscending z
    → has_repeated (map state_word xs) ≡ false
repeated-none xs z permutation ascending =
    has_repeated-IsPermutation (map state_word z) (map state_word xs)
    (IsPermutation-map state_word z xs (IsPermutation-sym xs z permutation))
    (has_repeated-apart (map state_word z) (AllPairs-map state_word z (λ a b m k e. state_word_injective a b e)
    (apart-AreAscending z ascending)))

-- if the words of states are all different, so are the states in any order
pub apart-states : (xs ys : List (List ℕ)) → IsPermutation xs ys → has_repeated (map state_word xs) ≡ false
    → AllPairs (λ x y. x ≢ y) ys
apart-states xs ys permutation once =
    AllPairs-unmap state_word ys
    (apart-has_repeated (map state_word ys) (has_repeated-IsPermutation (map state_word xs) (map state_word ys)
    (IsPermutation-map state_word xs ys permutation) once))

module _ (n : ℕ) where
  -- each is a bijection of 0 to n - 1
  abbrev pub AreBijections : List (List ℕ) → Type 0
  AreBijections xs = (x : List ℕ) → Contains xs x → IsBijection n x

  -- the order of two of them is that of their ranks
  order_from_rank : (x y : List ℕ) → IsBijection n x → IsBijection n y → rank x < rank y → IsTrue (is_before x y)
  order_from_rank x y h k lower = (rank_order n x y h k).1 lower

  rank_from_order : (x y : List ℕ) → IsBijection n x → IsBijection n y → IsTrue (is_before x y) → rank x < rank y
  rank_from_order x y h k before = (rank_order n x y h k).0 before

  -- different bijections in the order of their ranks ascend
  pub AreStates-from_sorted : IsSize n → (ys : List (List ℕ)) → AreBijections ys → IsNonDecreasingBy rank ys
      → AllPairs (λ x y. x ≢ y) ys → AreStates ys
  AreStates-from_sorted small ys all sorted apart = record {
    states =
        λ k d l. let h =
        all (get_or ys k d) (Contains-get_or ys k d l) in
        record {
          size = subst IsSize (sym h.long) small;
          bijection = subst (λ m. IsBijection m (get_or ys k d)) (sym h.long) h;
        };
    one_size =
        λ i j d l m. (all (get_or ys i d) (Contains-get_or ys i d (omega arith))).long
        ∙ sym (all (get_or ys j d) (Contains-get_or ys j d m)).long;
    ascending = λ i j d l m.
        let h = all (get_or ys i d) (Contains-get_or ys i d (omega arith)) in
        let k = all (get_or ys j d) (Contains-get_or ys j d m) in
        order_from_rank (get_or ys i d) (get_or ys j d) h k
        (lower (rank (get_or ys i d)) (rank (get_or ys j d)) (sorted i j d (omega arith) m)
        (λ e. apart i j d l m (rank_one_to_one n (get_or ys i d) (get_or ys j d) h k e)));
  }
    where
      lower : (a b : ℕ) → a ≤ b → a ≢ b → a < b
      lower a b le other = elim (cases_lt a b) [
        | inl less ↦ less
        | inr more ↦ absurd (other (omega arith))
      ]

  -- one more state among others that ascend
  insert_state : (x : List ℕ) (z : List (List ℕ)) → IsBijection n x → AreBijections z → AreAscending z
      → ((y : List ℕ) → Contains z y → x ≢ y)
      → (w : List (List ℕ)) × IsPermutation (x ∷ z) w × AreAscending w
  insert_state x [] h all ascending other = (x ∷ [], IsPermutation-refl (x ∷ []), (λ i j d l m. absurd (omega arith)))
  insert_state x (y ∷ z) h all ascending other =
      let k = all y (member_head y z) in
      elim (cases_order (rank x) (rank y)) [
        | inl same ↦ absurd (other y (member_head y z) (rank_one_to_one n x y h k same))
        | inr (inl lower) ↦ (
          x ∷ y ∷ z,
          IsPermutation-refl (x ∷ y ∷ z),
          pairs_cons (λ a b. IsTrue (is_before a b)) x (y ∷ z)
              (λ v m. elim (member_cases y z v m) [
                | inl e ↦ subst (λ u. IsTrue (is_before x u)) e (order_from_rank x y h k lower)
                | inr later ↦
                    let v_is = all v (member_tail y z v later) in
                    let above = rank_from_order y v k v_is (pairs_head (λ a b. IsTrue (is_before a b)) y z ascending v
                    later) in
                    order_from_rank x v h v_is (omega (arith, lower, above))
              ]) ascending,
        )
        | inr (inr higher) ↦
            let rest = insert_state x z h (λ v m. all v (member_tail y z v m))
            (pairs_tail (λ a b. IsTrue (is_before a b)) y z ascending) (λ v m. other v (member_tail y z v m)) in (
              y ∷ rest.0,
              IsPermutation-trans (x ∷ y ∷ z) (y ∷ x ∷ z) (y ∷ rest.0) (IsPermutation-middle (x ∷ []) y z)
                  (IsPermutation-cons y (x ∷ z) rest.0 rest.1),
              pairs_cons (λ a b. IsTrue (is_before a b)) y rest.0
                  (λ v m. elim (member_cases x z v (Contains-permutation rest.0 (x ∷ z) v
                  (IsPermutation-sym (x ∷ z) rest.0 rest.1) m)) [
                    | inl e ↦ subst (λ u. IsTrue (is_before y u)) e (order_from_rank y x k h higher)
                    | inr later ↦ pairs_head (λ a b. IsTrue (is_before a b)) y z ascending v later
                  ]) rest.2,
            )
      ]

  -- different states stand in ascending order in some list
  pub ascending_of : (xs : List (List ℕ)) → AreBijections xs → AllPairs (λ x y. x ≢ y) xs
      → (z : List (List ℕ)) × IsPermutation xs z × AreAscending z
  ascending_of [] all apart = ([], IsPermutation-refl [], (λ i j d l m. absurd (omega arith)))
  ascending_of (x ∷ xs) all apart =
      let rest = ascending_of xs (λ y m. all y (member_tail x xs y m)) (pairs_tail (λ a b. a ≢ b) x xs apart) in
      let back = IsPermutation-sym xs rest.0 rest.1 in
      let more = insert_state x rest.0 (all x (member_head x xs))
      (λ y m. all y (member_tail x xs y (Contains-permutation rest.0 xs y back m))) rest.2
      (λ y m. pairs_head (λ a b. a ≢ b) x xs apart y (Contains-permutation rest.0 xs y back m)) in
      (more.0, IsPermutation-trans (x ∷ xs) (x ∷ rest.0) more.0 (IsPermutation-cons x xs rest.0 rest.1) more.1, more.2)

-- two ascending lists of the same states are one
pub same_ascending : (z w : List (List ℕ)) → AreAscending z → AreAscending w
    → ((x : List ℕ) → Contains z x → Contains w x) → ((x : List ℕ) → Contains w x → Contains z x) → z ≡ w
same_ascending [] [] up up' to from = refl
same_ascending [] (y ∷ w) up up' to from = absurd (no_member y (from y (member_head y w)))
same_ascending (x ∷ z) [] up up' to from = absurd (no_member x (to x (member_head x z)))
same_ascending (x ∷ z) (y ∷ w) up up' to from =
    let first : x ≡ y = elim (member_cases y w x (to x (member_head x z))) [
      | inl e ↦ sym e
      | inr later ↦ elim (member_cases x z y (from y (member_head y w))) [
        | inl e ↦ e
        | inr after ↦ absurd (true≢false (sym (pairs_head (λ a b. IsTrue (is_before a b)) x z up y after)
            ∙ is_before-back y x (pairs_head (λ a b. IsTrue (is_before a b)) y w up' x later)))
      ]
    ] in
    let rest : z ≡ w =
    same_ascending z w (pairs_tail (λ a b. IsTrue (is_before a b)) x z up)
    (pairs_tail (λ a b. IsTrue (is_before a b)) y w up')
    (λ a m. elim (member_cases y w a (to a (member_tail x z a m))) [
      | inl e ↦ absurd (apart_head x z up a m (first ∙ e))
      | inr later ↦ later
    ])
    (λ a m. elim (member_cases x z a (from a (member_tail y w a m))) [
      | inl e ↦ absurd (apart_head y w up' a m (sym first ∙ e))
      | inr later ↦ later
    ]) in
    (λ i. first i ∷ rest i)
  where
    apart_head : (x : List ℕ) (z : List (List ℕ)) → AreAscending (x ∷ z) → (a : List ℕ) → Contains z a → x ≢ a
    apart_head x z up a m = pairs_head (λ u v. u ≢ v) x z (apart-AreAscending (x ∷ z) up) a m

-- so are two lists with the same states in another order
pub one_chain : (xs z w : List (List ℕ)) → IsPermutation xs z → IsPermutation xs w → AreAscending z → AreAscending w
    → z ≡ w
one_chain xs z w p q up up' =
    same_ascending z w up up' (λ x m. Contains-permutation xs w x q
    (Contains-permutation z xs x (IsPermutation-sym xs z p) m))
    (λ x m. Contains-permutation xs z x p (Contains-permutation w xs x (IsPermutation-sym xs w q) m))
