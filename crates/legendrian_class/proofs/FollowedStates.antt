-- A grid and a set of indices that are followed stand for the grid and the chain of states that are followed.
use Rattle.torus_geom.specs.Chains.{IsChain}
use Rattle.grid_moves.specs.Inner.CodeCarried.{carried as carried_codes, turned_chain as turned_codes}
use Rattle.pentagon_map.specs.Pentagon.{image}
use Rattle.std.proofs.Common.{◌≡◌, ℕ, List, map, sym, ap, ap₂, subst, ◌∙◌}
use Rattle.std.specs.List.{Contains}
use Rattle.std.proofs.lemmas.Bool.{eqb-true, false_from_ne_true}
use Rattle.std.proofs.lemmas.Cmp.{nat_eq_equiv}
use Rattle.std.proofs.lemmas.Map.Views.{Contains-from_any, list_any-from_Contains}
use Rattle.f2_algebra.specs.Chain.{of_codes, holds}
use Rattle.f2_algebra.proofs.Chains.Sets.{holds-of_codes}
use Rattle.state_rank.specs.Bijection.{IsBijection}
use Rattle.state_rank.specs.States.{rank}
use Rattle.state_rank.proofs.MemberLemmas.{Contains-map, member_of_map}
use Rattle.state_rank.proofs.RankLemmas.{rank_one_to_one}
use Rattle.torus_geom.specs.Marks.{Marks, IsGrid, size}
use Rattle.torus_geom.specs.Rectangle.{is_same}
use Rattle.grid_moves.specs.Moves.{swapped, turned}
use Rattle.grid_moves.specs.declared.commutations.Axis.{Axis}
use Rattle.grid_moves.specs.declared.turns.Side.{Side}
use Rattle.grid_moves.proofs.Turned.TurnLemmas.{length-turned_rows}
use Rattle.pentagon_map.specs.declared.Corner.{Corner}
use Rattle.legendrian_class.specs.Inner.CodeFollowed as over_codes
use Rattle.torus_geom.specs.Codes.{states_of}
use Rattle.legendrian_class.specs.FollowedCodes.{FollowedCodes, followed_of}
use Rattle.legendrian_class.specs.Followed.{listed, at_start, after_turn, after_commutation, after_symmetry}
use Rattle.torus_geom.proofs.Chains.StateTests.{is_same-is, is_same-true, any-member, member_of_any}
use Rattle.torus_geom.proofs.Chains.CodesLemmas.{AreIndices, is_states_of, states_of-nothing}
use Rattle.grid_moves.proofs.Exchanged.SwappedTwice.{size-swapped}
use Rattle.grid_moves.proofs.Turned.CarriedStates.{states_of-carried, states_of-turned}
use Rattle.grid_symmetry.specs.Symmetries.{symmetric, symmetric_state}
use Rattle.grid_symmetry.specs.declared.symmetries.Symmetry.{Symmetry}
use Rattle.grid_symmetry.specs.declared.symmetries.Symmetry.TheVariants.{Mirror}
use Rattle.grid_symmetry.proofs.StateLaws.{IsBijection-symmetric_state, size-symmetric}
use Rattle.pentagon_map.proofs.States.StateImages.{states_of-image}
use Rattle.f2_algebra.proofs.Chains.Tables.{same_test}

-- a set of the indices of listed states stands for the chain of the list
pub states_of-listed : (n : ℕ) (xs : List (List ℕ)) → ((x : List ℕ) → Contains xs x → IsBijection n x)
    → states_of n (of_codes (map rank xs)) ≡ listed xs
states_of-listed n xs all =
    is_states_of n (of_codes (map rank xs)) (listed xs)
    (λ y sy. same_test (holds (of_codes (map rank xs)) (rank y)) (listed xs y)
    (λ h.
    let (x, m, is) =
    member_of_map rank xs (rank y)
    (Contains-from_any (λ a b. eqb-true a b) (rank y) (map rank xs) (sym (holds-of_codes (map rank xs) (rank y)) ∙ h))
    in
    any-member (λ x. is_same x y) xs x m (is_same-is x y (rank_one_to_one n x y (all x m) sy is)))
    (λ h.
    let (x, m, is) = member_of_any (λ x. is_same x y) xs h in
    holds-of_codes (map rank xs) (rank y)
    ∙ list_any-from_Contains nat_eq_equiv (rank y) (map rank xs)
    (subst (Contains (map rank xs)) (ap rank (is_same-true x y is)) (Contains-map rank xs x m))))
    (λ y other. false_from_ne_true (listed xs y) (λ h.
    let (x, m, is) = member_of_any (λ x. is_same x y) xs h in
    other (subst (IsBijection n) (is_same-true x y is) (all x m))))

pub followed_of-start : (g : Marks) → followed_of (over_codes.at_start g) ≡ at_start g
followed_of-start g = ap (λ z. record { grid = g; chain = z }) (states_of-nothing (size g))

-- A turn of the codes is a turn of the states.
pub followed_of-turn : (side : Side) (p : FollowedCodes) → AreIndices (size p.grid) p.chain
    → followed_of (over_codes.after_turn side p) ≡ after_turn side (followed_of p)
followed_of-turn side p below = ap (λ z. record { grid = turned side p.grid; chain = z })
    (ap (λ n. states_of n (over_codes.after_turn side p).chain) (length-turned_rows side (size p.grid) p.grid.o)
    ∙ states_of-turned side (size p.grid) p.chain below)

-- And so is a commutation.
pub followed_of-commutation : (axis : Axis) (c : ℕ) (corner : Corner) (p : FollowedCodes) → IsGrid p.grid
    → AreIndices (size p.grid) p.chain
    → followed_of (over_codes.after_commutation axis c corner p) ≡ after_commutation axis c corner (followed_of p)
followed_of-commutation axis c corner p s below = ap (λ z. record { grid = swapped axis p.grid c; chain = z })
    (ap (λ n. states_of n (over_codes.after_commutation axis c corner p).chain) (size-swapped axis p.grid c)
    ∙ states_of-image axis p.grid s c corner p.chain below)

-- what the code has after a commutation stands for what follows
pub followed_of-exchanged : (axis : Axis) (c : ℕ) (corner : Corner) (p q : FollowedCodes)
    → q.grid ≡ swapped axis p.grid c → states_of (size p.grid) q.chain
    ≡ image axis p.grid c corner (states_of (size p.grid) p.chain)
    → followed_of q ≡ after_commutation axis c corner (followed_of p)
followed_of-exchanged axis c corner p q of_grid of_chain = λ i. record {
  grid = of_grid i;
  chain = (ap (λ n. states_of n q.chain) (ap size of_grid ∙ size-swapped axis p.grid c) ∙ of_chain) i;
}

-- and after a turn
pub followed_of-turned : (side : Side) (n : ℕ) (p q : FollowedCodes) → n ≡ size p.grid
    → AreIndices (size p.grid) p.chain
    → q.grid ≡ turned side p.grid → q.chain ≡ turned_codes side n p.chain
    → followed_of q ≡ after_turn side (followed_of p)
followed_of-turned side n p q same below of_grid of_chain =
    (λ i. followed_of (record { grid = of_grid i; chain = (of_chain ∙ ap (λ m. turned_codes side m p.chain) same) i }))
    ∙ followed_of-turn side p below

-- listed states are a chain of states
pub IsChain-listed : (n : ℕ) (xs : List (List ℕ)) → ((x : List ℕ) → Contains xs x → IsBijection n x)
    → IsChain n (listed xs)
IsChain-listed n xs all y h =
    let (x, m, is) = member_of_any (λ x. is_same x y) xs h in
    subst (IsBijection n) (is_same-true x y is) (all x m)

-- What the code has after a symmetry stands for what follows.
pub followed_of-symmetry : (s : Symmetry) (n : ℕ) (p q : FollowedCodes) → IsGrid p.grid → n ≡ size p.grid
    → AreIndices (size p.grid) p.chain → q.grid ≡ symmetric s p.grid → q.chain ≡ over_codes.codes_after s n p.chain
    → followed_of q ≡ after_symmetry s (followed_of p)
followed_of-symmetry s n p q grid same below of_grid of_chain =
    (λ i. record { grid = of_grid i; chain = states_of (ap size of_grid i) (of_chain i) })
    ∙ by s
  where
    by : (s : Symmetry) → record {
      grid = symmetric s p.grid;
      chain = states_of (size (symmetric s p.grid)) (over_codes.codes_after s n p.chain);
    }
        ≡ after_symmetry s (followed_of p)
    by Mirror =
        ap (λ z. record { grid = symmetric Mirror p.grid; chain = z })
        (states_of-nothing (size (symmetric Mirror p.grid)))
    by s = ap (λ z. record { grid = symmetric s p.grid; chain = z })
        (ap₂ (λ m k. states_of m (carried_codes k (symmetric_state s) p.chain)) (size-symmetric s p.grid grid) same
        ∙ states_of-carried (size p.grid) (symmetric_state s) (IsBijection-symmetric_state s (size p.grid)) p.chain
        below)
