-- The states of a chain in lexicographic order are those of its codes in ascending order; so tests of all of them, and
-- texts of them, are the same.
use Rattle.std.proofs.Common.{◌≡◌, ℕ, ◌+◌, ◌<◌, true, List, [], ◌∷◌, ◌++◌, map, refl, sym, ap, ap₂, ◌∙◌, arith}
use Rattle.std.specs.List.{Contains, AllPairs, flat_map}
use Rattle.std.specs.List.Sorted.{IsStrictlyIncreasing}
use Rattle.f2_algebra.specs.Chain.{Chain as Codes, codes}
use Rattle.f2_algebra.proofs.Chains.Lists.{codes-of_codes}
use Rattle.state_rank.specs.Bijection.{IsBijection, ascending}
use Rattle.state_rank.specs.States.{is_before, states, rank, unrank, factorial}
use Rattle.state_rank.proofs.MemberLemmas.{member_head, member_tail, pairs_filter}
use Rattle.state_rank.proofs.OrderLemmas.{member_of_states, states_rise}
use Rattle.state_rank.proofs.RankLemmas.{unrank-rank, map-rank-states, ranks_rise}
use Rattle.torus_geom.specs.Chains.{Chain, members}
use Rattle.torus_geom.specs.Codes.{states_of}
use Rattle.torus_geom.specs.Inner.CodeBorder.{codes_of}
use Rattle.torus_geom.proofs.Chains.ChainLemmas.{member_of_members}
use Rattle.torus_geom.proofs.Chains.CodesLemmas.{AreIndices, codes_of-states_of}

unranked-ranked : (n : ℕ) (xs : List (List ℕ)) → ((x : List ℕ) → Contains xs x → IsBijection n x)
    → map (unrank n) (map rank xs) ≡ xs
unranked-ranked n [] h = refl
unranked-ranked n (x ∷ xs) h =
    ap₂ ◌∷◌ (unrank-rank n x (h x (member_head x xs))) (unranked-ranked n xs (λ y m. h y (member_tail x xs y m)))

-- the states of a size are those of the numbers below n!
pub states-unranked : (n : ℕ) → states n ≡ map (unrank n) (ascending (factorial n))
states-unranked n = sym (unranked-ranked n (states n) (member_of_states n)) ∙ ap (map (unrank n)) (map-rank-states n)

rising_list : (xs : List ℕ) → AllPairs (λ j k. j < k) xs → IsStrictlyIncreasing xs
rising_list xs up k l = up k (k + 1) 0 (omega arith) l

-- the codes of a chain of states are the indices of its states, in order
pub codes-codes_of : (n : ℕ) (z : Chain) → codes (codes_of n z) ≡ map rank (members n z)
codes-codes_of n z =
    codes-of_codes (map rank (members n z))
    (rising_list (map rank (members n z)) (ranks_rise n (members n z) (λ x m. (member_of_members n z x m).0)
    (pairs_filter (λ x y. is_before x y ≡ true) z (states n) (states_rise n))))

-- The states of a set of indices, in order, are those of its codes in order.
pub members-states_of : (n : ℕ) (z : Codes) → AreIndices n z → members n (states_of n z) ≡ map (unrank n) (codes z)
members-states_of n z below =
    sym (unranked-ranked n (members n (states_of n z)) (λ x m. (member_of_members n (states_of n z) x m).0))
    ∙ ap (map (unrank n)) (sym (codes-codes_of n (states_of n z)) ∙ ap codes (codes_of-states_of n z below))

pub flat_map-map : {A B C : Type 0} (f : B → List C) (g : A → B) (xs : List A)
    → flat_map f (map g xs) ≡ flat_map (λ x. f (g x)) xs
flat_map-map f g [] = refl
flat_map-map f g (x ∷ xs) = ap (λ ys. f (g x) ++ ys) (flat_map-map f g xs)

-- Texts that list the states of a set are those that list the states of its chain.
pub states_text : (n : ℕ) (z : Codes) → AreIndices n z → (word : List ℕ → List ℕ)
    → flat_map (λ s. word (unrank n s)) (codes z) ≡ flat_map word (members n (states_of n z))
states_text n z below word =
    sym (flat_map-map word (unrank n) (codes z)) ∙ ap (flat_map word) (sym (members-states_of n z below))

-- A list of states whose indices are the codes of a set, in order, lists its chain in order.
pub listed_members : (n : ℕ) (z : Codes) → AreIndices n z → (xs : List (List ℕ))
    → ((x : List ℕ) → Contains xs x → IsBijection n x) → map rank xs ≡ codes z → xs ≡ members n (states_of n z)
listed_members n z below xs all e =
    sym (unranked-ranked n xs all) ∙ ap (map (unrank n)) e ∙ sym (members-states_of n z below)

-- And the indices of its states, in order, are its codes.
pub members_codes : (n : ℕ) (z : Codes) → AreIndices n z → (xs : List (List ℕ)) → xs ≡ members n (states_of n z)
    → map rank xs ≡ codes z
members_codes n z below xs e =
    ap (map rank) e ∙ sym (codes-codes_of n (states_of n z)) ∙ ap codes (codes_of-states_of n z below)
