-- The chain of a list of states that ascends: each is toggled once, so that all of them are in the chain.
use Rattle.std.proofs.Common.{◌≡◌, ℕ, zero, suc, ◌+◌, ◌<◌, Bool, true, false, ◌||◌, eqb, List, [], ◌∷◌, ◌++◌, length, get_or, map, take, All, inl, inr, refl, sym, ap, ap₂, subst, ◌∙◌, arith}
use Rattle.std.specs.List.{AllPairs, Contains}
use Rattle.std.proofs.lemmas.Bool.{cases_Bool, eqb-true, true≢false}
use Rattle.std.proofs.lemmas.List.{take_more, take_all, length-map, get_or-map}
use Rattle.std.proofs.lemmas.List.Elements.{All-contains, All-head, All-map, All-tail}
use Rattle.f2_algebra.specs.Chain.{of_codes, single, ◌⊕◌}
use Rattle.f2_algebra.proofs.Chains.Lists.{All-codes}
use Rattle.f2_algebra.proofs.Chains.Sets.{any, any-append, holds-add, holds-of_codes, holds-single, same_chain}
use Rattle.f2_algebra.proofs.Chains.Tables.{◌⊻◌}
use Rattle.state_rank.specs.Bijection.{IsBijection}
use Rattle.state_rank.specs.States.{IsState, rank, factorial}
use Rattle.state_rank.proofs.MemberLemmas.{member_cases, pairs_head, pairs_tail}
use Rattle.state_rank.proofs.RankLemmas.{rank-below, ranks_rise}
use Rattle.torus_geom.specs.Marks.{IsGrid, Marks, size}
use Rattle.grid_text.specs.Commands.{IsAllowed, IsStateOf}
use Rattle.grid_text.specs.States.{AreStates}
use Rattle.grid_text.specs.declared.commands.Command.{Command}
use Rattle.grid_text.specs.declared.commands.Command.TheVariants as command
use Rattle.torus_geom.specs.Chains.{IsChain}
use Rattle.torus_geom.proofs.Chains.CodesLemmas.{IsChain-nothing}
use Rattle.stabilise.specs.Stabilised.{stabilised, destabilised}
use Rattle.grid_symmetry.specs.Symmetries.{symmetric_state}
use Rattle.grid_symmetry.specs.declared.symmetries.Symmetry.{Symmetry}
use Rattle.grid_symmetry.specs.declared.symmetries.Symmetry.TheVariants.{Mirror}
use Rattle.grid_symmetry.proofs.StateLaws.{IsBijection-symmetric_state, size-symmetric}
use Rattle.grid_moves.proofs.Turned.CarriedStates.{IsChain-carried}
use Rattle.legendrian_class.specs.Followed.{chain_after_symmetry}
use Rattle.torus_geom.specs.Codes.{HasIndices, states_of}
use Rattle.grid_moves.specs.Carried.{turned_chain}
use Rattle.grid_moves.proofs.Exchanged.SwappedTwice.{size-swapped}
use Rattle.grid_moves.proofs.Turned.CarriedStates.{IsChain-turned}
use Rattle.grid_moves.proofs.Turned.TurnLemmas.{length-turned_rows}
use Rattle.pentagon_map.specs.Pentagon.{image}
use Rattle.pentagon_map.proofs.States.StateImages.{IsChain-image}
use Rattle.legendrian_class.specs.Followed.{listed}
use Rattle.legendrian_class.specs.FollowedCodes.{FollowedCodes, followed_of}
use Rattle.legendrian_class.proofs.FollowedStates.{IsChain-listed, states_of-listed}
use Rattle.grid_job.specs.InForce.{InForce, after_command}

-- ---- codes that rise
not_above : (c x : ℕ) → x < c → eqb c x ≡ false
not_above c x below = grind arith

-- each code is after those before it
absent : (cs : List ℕ) (k c : ℕ) → AllPairs (λ i j. i < j) cs → k < length cs → c ≡ get_or cs k c
    → any c (take k cs) ≡ false
absent [] k c rising within is = absurd (omega (arith, within))
absent (x ∷ cs) zero c rising within is = refl
absent (x ∷ cs) (suc k) c rising within is =
    let below : x < c = subst (λ y. x < y) (sym is) (rising 0 (suc k) c (omega arith) within) in
    ap₂ (λ a b. a || b) (not_above c x below)
    (absent cs k c (pairs_tail (λ i j. i < j) x cs rising) (omega (arith, within)) is)

toggled_or : (a b : Bool) → (b ≡ true → a ≡ false) → (a ⊻ b) ≡ (a || (b || false))
toggled_or true true apart = absurd (true≢false (apart refl))
toggled_or true false apart = refl
toggled_or false true apart = refl
toggled_or false false apart = refl

-- the next code is toggled in
toggled-next : (cs : List ℕ) (k c : ℕ) → AllPairs (λ i j. i < j) cs → k < length cs → c ≡ get_or cs k c
    → of_codes (take k cs) ⊕ single c ≡ of_codes (take (k + 1) cs)
toggled-next cs k c rising within is = same_chain _ _ (λ q.
    let apart : eqb q c ≡ true → any q (take k cs) ≡ false =
    λ e. subst (λ r. any r (take k cs) ≡ false) (sym (eqb-true q c e)) (absent cs k c rising within is) in
    let more : take (k + 1) cs ≡ take k cs ++ c ∷ [] =
    take_more cs k c within ∙ ap (λ d. take k cs ++ d ∷ []) (sym is) in
    holds-add (of_codes (take k cs)) (single c) q
    ∙ ap₂ (λ a b. a ⊻ b) (holds-of_codes (take k cs) q) (holds-single c q)
    ∙ toggled_or (any q (take k cs)) (eqb q c) apart
    ∙ sym (any-append q (take k cs) (c ∷ []))
    ∙ ap (any q) (sym more)
    ∙ sym (holds-of_codes (take (k + 1) cs) q))

-- ---- states that ascend
ranks-rising : (xs : List (List ℕ)) → AreStates xs → AllPairs (λ i j. i < j) (map rank xs)
ranks-rising [] states = λ i j d l m. absurd (omega arith)
ranks-rising (x ∷ xs) states =
    ranks_rise (length x) (x ∷ xs) (λ y inside. bijection y inside) states.ascending
  where
    same_size : (y : List ℕ) → Contains (x ∷ xs) y → length x ≡ length y
    same_size y inside = elim (member_cases x xs y inside) [
      | inl is ↦ ap length is
      | inr later ↦ pairs_head (λ (a b : List ℕ). length a ≡ length b) x xs states.one_size y later
    ]

    bijection : (y : List ℕ) → Contains (x ∷ xs) y → IsBijection (length x) y
    bijection y inside =
        let state = All-contains IsState (x ∷ xs) y states.states inside in
        subst (λ n. IsBijection n y) (sym (same_size y inside)) state.bijection

pub states-next : (xs : List (List ℕ)) (k : ℕ) (x : List ℕ) → AreStates xs → k < length xs → x ≡ get_or xs k x
    → of_codes (take k (map rank xs)) ⊕ single (rank x) ≡ of_codes (take (k + 1) (map rank xs))
states-next xs k x states within is =
    toggled-next (map rank xs) k (rank x) (ranks-rising xs states) (omega (arith, length-map xs rank, within))
    (ap rank is ∙ sym (get_or-map rank xs k x (rank x) within))

pub states-all : (xs : List (List ℕ)) (k : ℕ) → length xs < k + 1
    → of_codes (take k (map rank xs)) ≡ of_codes (map rank xs)
states-all xs k past = ap of_codes (take_all k (map rank xs) (omega (arith, length-map xs rank, past)))

-- ---- states of the grid
state_of : (g : Marks) (x : List ℕ) → IsStateOf g x → IsBijection (size g) x
state_of g x state = subst (λ n. IsBijection n x) state.same_size state.state.bijection

pub states_of_grid : (g : Marks) (xs : List (List ℕ)) → All (IsStateOf g) xs → (x : List ℕ) → Contains xs x
    → IsBijection (size g) x
states_of_grid g xs states x inside = state_of g x (All-contains (IsStateOf g) xs x states inside)

any-below : (n : ℕ) (cs : List ℕ) (q : ℕ) → All (λ c. c < n) cs → any q cs ≡ true → q < n
any-below n [] q below held = absurd (true≢false (sym held))
any-below n (c ∷ cs) q below held = elim (cases_Bool (eqb q c)) [
  | inl is ↦ subst (λ d. d < n) (sym (eqb-true q c is)) (All-head (λ d. d < n) c cs below)
  | inr is_not ↦ any-below n cs q (All-tail (λ d. d < n) c cs below) (sym (ap (λ b. b || any q cs) is_not) ∙ held)
]

-- the set of their ranks has ranks
pub ranks-below : (g : Marks) (xs : List (List ℕ)) → All (IsStateOf g) xs → HasIndices (size g) (of_codes (map rank xs))
ranks-below g xs states =
    let n = factorial (size g) in
    let ranks = All-map (λ c. c < n) rank xs
    (λ i d l. rank-below (size g) (get_or xs i d) (state_of g (get_or xs i d) (states i d l))) in
    All-codes (λ c. c < n) (of_codes (map rank xs))
    (λ q held. any-below n (map rank xs) q ranks (sym (holds-of_codes (map rank xs) q) ∙ held))

-- ---- what is in force
-- the grid and the chain that stand for this grid and the set of these ranks
pub followed_of-listed : (g : Marks) (xs : List (List ℕ)) → All (IsStateOf g) xs → (p : FollowedCodes) → p.grid ≡ g
    → p.chain ≡ of_codes (map rank xs) → followed_of p ≡ record { grid = g; chain = listed xs }
followed_of-listed g xs states p of_grid of_chain =
    (λ i. record { grid = of_grid i; chain = states_of (size (of_grid i)) (of_chain i) })
    ∙ ap (λ z. record { grid = g; chain = z }) (states_of-listed (size g) xs (states_of_grid g xs states))

-- what is in force stays a grid with a chain of its states
pub IsChain-after_command : (p : InForce) (c : Command) → IsGrid p.grid → IsChain (size p.grid) p.chain
    → IsAllowed p.grid c
    → IsChain (size (after_command p c).grid) (after_command p c).chain
IsChain-after_command p (command.Chain xs) grid states allowed =
    IsChain-listed (size p.grid) xs (states_of_grid p.grid xs allowed.0)
IsChain-after_command p (command.Turn side) grid states allowed =
    subst (λ n. IsChain n (turned_chain side (size p.grid) p.chain))
    (sym (length-turned_rows side (size p.grid) p.grid.o))
    (IsChain-turned side (size p.grid) p.chain)
IsChain-after_command p (command.Commute axis c corner) grid states allowed =
    subst (λ n. IsChain n (image axis p.grid c corner p.chain)) (sym (size-swapped axis p.grid c))
    (IsChain-image axis p.grid c corner p.chain)
IsChain-after_command p (command.Stab c empty) grid states allowed = IsChain-nothing (size (stabilised p.grid c empty))
IsChain-after_command p (command.Destab c r empty) grid states allowed =
    IsChain-nothing (size (destabilised p.grid c r empty))
IsChain-after_command p (command.Symm s) grid states allowed =
    subst (λ n. IsChain n (chain_after_symmetry s p)) (sym (size-symmetric s p.grid grid)) (by s)
  where
    by : (s : Symmetry) → IsChain (size p.grid) (chain_after_symmetry s p)
    by Mirror = IsChain-nothing (size p.grid)
    by s = IsChain-carried (size p.grid) (symmetric_state s) (IsBijection-symmetric_state s (size p.grid)) p.chain
IsChain-after_command p other grid states allowed = states
