-- The tests of a certificate are those of its states, one by one and in the same order; so it passes, or fails first,
-- in the same place.
use Rattle.std.proofs.Common.{◌≡◌, ℕ, ◌+◌, ℤ, Bool, true, false, not, ◌&&◌, ◌||◌, eqb, ◌==◌, cond, List, [], ◌∷◌, ◌++◌, map, length, refl, sym, ap, ap₂, subst, ◌∙◌, inl, inr}
use Rattle.std.specs.List.{Contains, filter, list_all, list_any, sum, sum_by, flat_map}
use Rattle.std.proofs.lemmas.List.{length-map, map-append}
use Rattle.std.proofs.lemmas.List.Elements.{All-contains, Contains-append_cases}
use Rattle.std.proofs.lemmas.List.Folds.{list_all-map}
use Rattle.std.proofs.lemmas.List.Sums.{sum-map}
use Rattle.std.proofs.lemmas.Simd.{map-map}
use Rattle.f2_algebra.specs.Bigraded.{up_m}
use Rattle.f2_algebra.specs.Chain.{Chain as Codes, holds, codes}
use Rattle.f2_algebra.specs.Chain as code_chains
use Rattle.f2_algebra.specs.Certificate as code_pairs
use Rattle.state_rank.specs.Bijection.{ascending, IsBijection}
use Rattle.state_rank.specs.States.{unrank, factorial}
use Rattle.state_rank.proofs.MemberLemmas.{member_cases, member_head, member_tail, no_member, count-map}
use Rattle.state_rank.proofs.RankLemmas.{IsBijection-unrank}
use Rattle.torus_geom.specs.Inner.CodeBorder as code_border
use Rattle.torus_geom.specs.Inner.CodeBorder.{border_of_state}
use Rattle.torus_geom.specs.Homology.{Row}
use Rattle.torus_geom.specs.Marks.{Marks, size}
use Rattle.rectangles.proofs.Square.BorderLemmas.{border-below}
use Rattle.homology_cert.specs.CertificateCodes as kept
use Rattle.homology_cert.specs.Inner.CodeCertificates as code_certificates
use Rattle.homology_cert.specs.Inner.CodeTests as over_codes
use Rattle.homology_cert.specs.CertificateTests.{same_degree, one_below, verdict_from}
use Rattle.homology_cert.specs.declared.verdicts.CertTest.TheVariants.{Count, Degree, Cycle, Cocycle, Pairing, Probe, Missing}
use Rattle.homology_cert.proofs.Certified.CheckLemmas.{list_all-values}
use Rattle.torus_geom.specs.Chains.{Chain, members, pairs_oddly, single}
use Rattle.torus_geom.specs.Border.{border}
use Rattle.torus_geom.specs.Codes.{states_of}
use Rattle.homology_cert.specs.Certificates.{CyclePair, StepPair, Cell, entry_count}
use Rattle.homology_cert.specs.CertificateTests.{has_bidegree, all_have, state_count_at, steps_at, count_passes, is_cocycle, cycle_pair_tests, cycle_entries, step_pair_tests, step_entries, cell_entries, none_missing, entries, verdict_of, certified_rows}
use Rattle.homology_cert.specs.CertificateCodes.{cycle_pair_of, step_pair_of, cell_of, certificate_of}
use Rattle.torus_geom.proofs.Chains.CodesLemmas.{AreIndices, pairs_oddly-states_of, indices_from_All}
use Rattle.torus_geom.proofs.Chains.ReachedLemmas.{states_of-border, states_of-border_of_state, AreIndices-border_of_state}
use Rattle.torus_geom.proofs.Chains.OrderedMembers.{states-unranked, members-states_of}
use Rattle.torus_geom.proofs.Sums.AllBelowLemmas.{all_below-same}

-- ---- lists
list_all-members : {A : Type 0} (p q : A → Bool) (xs : List A) → ((x : A) → Contains xs x → p x ≡ q x)
    → list_all p xs ≡ list_all q xs
list_all-members p q [] h = refl
list_all-members p q (x ∷ xs) h =
    ap₂ ◌&&◌ (h x (member_head x xs)) (list_all-members p q xs (λ y m. h y (member_tail x xs y m)))

list_any-map : {A B : Type 0} (p : B → Bool) (f : A → B) (xs : List A)
    → list_any p (map f xs) ≡ list_any (λ x. p (f x)) xs
list_any-map p f [] = refl
list_any-map p f (x ∷ xs) = ap (λ b. p (f x) || b) (list_any-map p f xs)

-- ---- single tests
-- a state's border pairs with a chain as its indices do
even-state : (g : Marks) (f : Codes) (x : List ℕ) → IsBijection (size g) x
    → pairs_oddly (size g) (border g (single x)) (states_of (size g) f)
    ≡ code_chains.pairs_oddly (border_of_state g x) f
even-state g f x sx =
    ap (λ w. pairs_oddly (size g) w (states_of (size g) f)) (sym (states_of-border_of_state g x sx))
    ∙ pairs_oddly-states_of (size g) (border_of_state g x) f (AreIndices-border_of_state g x)

-- a chain of states is empty
abbrev is_empty_chain : Marks → Chain → Bool
is_empty_chain g z = eqb (length (members (size g) z)) 0

module _ (g : Marks) where
  all_have-states : (d : ℤ × ℤ) (z : Codes) → AreIndices (size g) z
      → over_codes.all_have g d z ≡ all_have g d (states_of (size g) z)
  all_have-states d z below =
      sym (list_all-map (has_bidegree g d) (unrank (size g)) (codes z))
      ∙ ap (list_all (has_bidegree g d)) (sym (members-states_of (size g) z below))

  state_count-states : (d : ℤ × ℤ) → over_codes.state_count_at g d ≡ state_count_at g d
  state_count-states d =
      sym (count-map (has_bidegree g d) (unrank (size g)) (ascending (factorial (size g))))
      ∙ ap (λ xs. length (filter (has_bidegree g d) xs)) (sym (states-unranked (size g)))

  is_empty_chain-states : (z : Codes) → AreIndices (size g) z
      → over_codes.is_empty_chain z ≡ is_empty_chain g (states_of (size g) z)
  is_empty_chain-states z below =
      ap (λ k. eqb k 0)
      (sym (length-map (codes z) (unrank (size g))) ∙ ap length (sym (members-states_of (size g) z below)))

  is_empty_chain-border : (z : Codes) → AreIndices (size g) z
      → over_codes.is_empty_chain (code_border.border g z) ≡ is_empty_chain g (border g (states_of (size g) z))
  is_empty_chain-border z below =
      is_empty_chain-states (code_border.border g z) (border-below g z)
      ∙ ap (is_empty_chain g) (states_of-border g z below)

  is_cocycle-states : (f : Codes) → over_codes.is_cocycle g f ≡ is_cocycle g (states_of (size g) f)
  is_cocycle-states f =
      let n = size g in
      let test : List ℕ → Bool = λ x. not (pairs_oddly n (border g (single x)) (states_of n f)) in
      all_below-same (factorial n) (λ s. not (code_chains.pairs_oddly (border_of_state g (unrank n s)) f))
      (λ s. test (unrank n s)) (λ s l. ap not (sym (even-state g f (unrank n s) (IsBijection-unrank n s l))))
      ∙ sym (list_all-values test (unrank n) (factorial n))
      ∙ ap (list_all test) (sym (states-unranked n))

  pairing-border : (z f : Codes) → AreIndices (size g) z
      → code_chains.pairs_oddly (code_border.border g z) f
      ≡ pairs_oddly (size g) (border g (states_of (size g) z)) (states_of (size g) f)
  pairing-border z f below =
      sym (pairs_oddly-states_of (size g) (code_border.border g z) f (border-below g z))
      ∙ ap (λ w. pairs_oddly (size g) w (states_of (size g) f)) (states_of-border g z below)

-- ---- pairs
abbrev pub HasCycleRanks : ℕ → code_pairs.CyclePair → Type 0
HasCycleRanks n p = AreIndices n p.cycle × AreIndices n p.cocycle

abbrev pub HasStepRanks : ℕ → code_pairs.StepPair → Type 0
HasStepRanks n p = AreIndices n p.step × AreIndices n p.probe

in_both : {A : Type 0} (P : A → Type 0) (xs ys : List A) → ((x : A) → Contains xs x → P x)
    → ((x : A) → Contains ys x → P x) → (x : A) → Contains (xs ++ ys) x → P x
in_both P xs ys f h x m = elim (Contains-append_cases xs ys x m) [ inl i ↦ f x i | inr i ↦ h x i ]

alone : {A : Type 0} (P : A → Type 0) (a : A) → P a → (x : A) → Contains (a ∷ []) x → P x
alone P a p x m = elim (member_cases a [] x m) [ inl e ↦ subst P e p | inr none ↦ absurd (no_member x none) ]

module _ (g : Marks) (d : ℤ × ℤ) where
  cycle_pair_tests-states : (p : code_pairs.CyclePair) (others : List code_pairs.CyclePair)
      → HasCycleRanks (size g) p
      → ((q : code_pairs.CyclePair) → Contains others q → HasCycleRanks (size g) q)
      → over_codes.cycle_pair_tests g d p others
      ≡ cycle_pair_tests g d (cycle_pair_of (size g) p) (map (cycle_pair_of (size g)) others)
  cycle_pair_tests-states p others ranks all =
      let n = size g in
      let odd_with : CyclePair → Bool = λ q. not (pairs_oddly n q.cycle (states_of n p.cocycle)) in
      let rest : list_all (λ (q : code_pairs.CyclePair). not (code_chains.pairs_oddly q.cycle p.cocycle)) others
      ≡ list_all odd_with (map (cycle_pair_of n) others) =
      list_all-members (λ (q : code_pairs.CyclePair). not (code_chains.pairs_oddly q.cycle p.cocycle))
      (λ q. odd_with (cycle_pair_of n q)) others
      (λ q m. ap not (sym (pairs_oddly-states_of n q.cycle p.cocycle (all q m).0)))
      ∙ sym (list_all-map odd_with (cycle_pair_of n) others) in
      let cycle_degrees = all_have-states g d p.cycle ranks.0 in
      let cocycle_degrees = all_have-states g d p.cocycle ranks.1 in
      let empty = is_empty_chain-border g p.cycle ranks.0 in
      let cocycle = is_cocycle-states g p.cocycle in
      let own = sym (pairs_oddly-states_of n p.cycle p.cocycle ranks.0) in
      λ i. (Degree, cycle_degrees i && cocycle_degrees i)
      ∷ (Cycle, empty i)
      ∷ (Cocycle, cocycle i)
      ∷ (Pairing, own i && rest i)
      ∷ []

  cycle_entries-states : (earlier pairs : List code_pairs.CyclePair)
      → ((q : code_pairs.CyclePair) → Contains earlier q → HasCycleRanks (size g) q)
      → ((q : code_pairs.CyclePair) → Contains pairs q → HasCycleRanks (size g) q)
      → over_codes.cycle_entries g d earlier pairs
      ≡ cycle_entries g d (map (cycle_pair_of (size g)) earlier) (map (cycle_pair_of (size g)) pairs)
  cycle_entries-states earlier [] before all = refl
  cycle_entries-states earlier (p ∷ later) before all =
      let F = cycle_pair_of (size g) in
      let own = all p (member_head p later) in
      let rest : (q : code_pairs.CyclePair) → Contains later q → HasCycleRanks (size g) q =
      λ q m. all q (member_tail p later q m) in
      ap₂ (λ u v. u ∷ v)
      (cycle_pair_tests-states p (earlier ++ later) own (in_both (HasCycleRanks (size g)) earlier later before rest)
      ∙ ap (cycle_pair_tests g d (F p)) (map-append F earlier later))
      (cycle_entries-states (earlier ++ p ∷ []) later (in_both (HasCycleRanks (size g)) earlier (p ∷ []) before
      (alone (HasCycleRanks (size g)) p own)) rest
      ∙ ap (λ qs. cycle_entries g d qs (map F later)) (map-append F earlier (p ∷ [])))

  step_pair_tests-states : (p : code_pairs.StepPair) (later : List code_pairs.StepPair)
      → HasStepRanks (size g) p
      → ((q : code_pairs.StepPair) → Contains later q → HasStepRanks (size g) q)
      → over_codes.step_pair_tests g d p later
      ≡ step_pair_tests g d (step_pair_of (size g) p) (map (step_pair_of (size g)) later)
  step_pair_tests-states p later ranks all =
      let n = size g in
      let even_with : StepPair → Bool = λ q. not (pairs_oddly n (border g q.step) (states_of n p.probe)) in
      let rest : list_all (λ (q : code_pairs.StepPair).
      not (code_chains.pairs_oddly (code_border.border g q.step) p.probe)) later
      ≡ list_all even_with (map (step_pair_of n) later) =
      list_all-members (λ (q : code_pairs.StepPair).
      not (code_chains.pairs_oddly (code_border.border g q.step) p.probe))
      (λ q. even_with (step_pair_of n q)) later
      (λ q m. ap not (pairing-border g q.step p.probe (all q m).0))
      ∙ sym (list_all-map even_with (step_pair_of n) later) in
      let step_degrees = all_have-states g d p.step ranks.0 in
      let probe_degrees = all_have-states g (one_below d) p.probe ranks.1 in
      let own = pairing-border g p.step p.probe ranks.0 in
      λ i. (Degree, step_degrees i && probe_degrees i) ∷ (Probe, own i && rest i) ∷ []

  step_entries-states : (pairs : List code_pairs.StepPair)
      → ((q : code_pairs.StepPair) → Contains pairs q → HasStepRanks (size g) q)
      → over_codes.step_entries g d pairs ≡ step_entries g d (map (step_pair_of (size g)) pairs)
  step_entries-states [] all = refl
  step_entries-states (p ∷ later) all =
      let rest : (q : code_pairs.StepPair) → Contains later q → HasStepRanks (size g) q =
      λ q m. all q (member_tail p later q m) in
      ap₂ (λ u v. u ∷ v) (step_pair_tests-states p later (all p (member_head p later)) rest)
      (step_entries-states later rest)

-- ---- cells
steps_at-states : (n : ℕ) (cells : List kept.Cell) (d : ℤ × ℤ)
    → map (step_pair_of n) (code_pairs.steps_at same_degree cells d) ≡ steps_at (map (cell_of n) cells) d
steps_at-states n [] d = refl
steps_at-states n (c ∷ cells) d =
    map_cond (same_degree c.at d) c.steps (code_pairs.steps_at same_degree cells d)
    ∙ ap (λ rest. cond (same_degree c.at d) (map (step_pair_of n) c.steps) rest) (steps_at-states n cells d)
  where
    map_cond : (b : Bool) (xs ys : List code_pairs.StepPair)
        → map (step_pair_of n) (cond b xs ys) ≡ cond b (map (step_pair_of n) xs) (map (step_pair_of n) ys)
    map_cond true xs ys = refl
    map_cond false xs ys = refl

-- the sets of the pairs of a cell are indices
pub record HasCellRanks (n : ℕ) (c : kept.Cell) : Type 0 where
  pub cycles : (q : code_pairs.CyclePair) → Contains c.cycles q → HasCycleRanks n q
  pub steps : (q : code_pairs.StepPair) → Contains c.steps q → HasStepRanks n q

module _ (c : kept.Certificate) where
  abbrev n : ℕ
  n = size c.grid

  count-states : (cell : kept.Cell)
      → over_codes.count_passes c cell ≡ count_passes (certificate_of c) (cell_of n cell)
  count-states cell =
      let number = state_count-states c.grid cell.at in
      let cycles = sym (length-map cell.cycles (cycle_pair_of n)) in
      let steps = sym (length-map cell.steps (step_pair_of n)) in
      let above : List code_pairs.StepPair = code_pairs.steps_at same_degree c.cells (up_m cell.at) in
      let higher : length above ≡ length (steps_at (map (cell_of n) c.cells) (up_m cell.at)) =
      sym (length-map above (step_pair_of n)) ∙ ap length (steps_at-states n c.cells (up_m cell.at)) in
      λ i. not (eqb (number i) 0) && eqb (number i) (cycles i + steps i + higher i)

  cell_entries-states : (cell : kept.Cell) → HasCellRanks n cell
      → over_codes.cell_entries c cell ≡ cell_entries (certificate_of c) (cell_of n cell)
  cell_entries-states cell ranks =
      let count = count-states cell in
      let cycles = cycle_entries-states c.grid cell.at [] cell.cycles (λ q m. absurd (no_member q m)) ranks.cycles in
      let steps = step_entries-states c.grid cell.at cell.steps ranks.steps in
      λ i. ((Count, count i) ∷ []) ∷ cycles i ++ steps i

  all_entries-states : (cells : List kept.Cell)
      → ((cell : kept.Cell) → Contains cells cell → HasCellRanks n cell)
      → flat_map (over_codes.cell_entries c) cells ≡ flat_map (cell_entries (certificate_of c)) (map (cell_of n) cells)
  all_entries-states [] all = refl
  all_entries-states (cell ∷ cells) all =
      ap₂ ◌++◌ (cell_entries-states cell (all cell (member_head cell cells)))
      (all_entries-states cells (λ other m. all other (member_tail cell cells other m)))

  none_missing-states : over_codes.none_missing c ≡ none_missing (certificate_of c)
  none_missing-states =
      let test : List ℕ → Bool =
      λ x. list_any (λ (cell : Cell). has_bidegree c.grid cell.at x) (map (cell_of n) c.cells) in
      all_below-same (factorial n)
      (λ s. list_any (λ (cell : kept.Cell). over_codes.has_bidegree c.grid cell.at s) c.cells)
      (λ s. test (unrank n s))
      (λ s l. sym (list_any-map (λ (cell : Cell). has_bidegree c.grid cell.at (unrank n s)) (cell_of n) c.cells))
      ∙ sym (list_all-values test (unrank n) (factorial n))
      ∙ ap (list_all test) (sym (states-unranked n))

pub entry_count-states : (n : ℕ) (cells : List kept.Cell)
    → code_certificates.entry_count cells ≡ entry_count (map (cell_of n) cells)
entry_count-states size cells =
    let entries : Cell → ℕ = λ c. 1 + length c.cycles + length c.steps in
    let same : (λ (c : kept.Cell). 1 + length c.cycles + length c.steps) ≡ (λ c. entries (cell_of size c)) =
    λ i c. 1 + sym (length-map c.cycles (cycle_pair_of size)) i + sym (length-map c.steps (step_pair_of size)) i in
    ap (λ f. sum_by f cells) same
    ∙ sym (sum-map (λ c. entries (cell_of size c)) cells)
    ∙ ap sum (sym (map-map entries (cell_of size) cells))
    ∙ sum-map entries (map (cell_of size) cells)

-- The entries of a certificate are those of its states.
pub entries-states : (c : kept.Certificate)
    → ((cell : kept.Cell) → Contains c.cells cell → HasCellRanks (size c.grid) cell)
    → over_codes.entries c ≡ entries (certificate_of c)
unfolding over_codes.entries entries
entries-states c all =
    let asked = all_entries-states c c.cells all in
    let missing = none_missing-states c in
    λ i. asked i ++ ((Missing, missing i) ∷ []) ∷ []

-- ---- certificates
-- the sets of a certificate are of indices
pub ranks_of_certificate : (c : kept.Certificate) → code_certificates.IsCertificate c
    → (cell : kept.Cell) → Contains c.cells cell → HasCellRanks (size c.grid) cell
ranks_of_certificate c is cell m =
    let n = size c.grid in
    let pairs = All-contains (code_certificates.HasPairStates c.grid) c.cells cell is.states m in
    record {
      cycles = λ q i. let s = All-contains (code_certificates.HasCycleStates c.grid) cell.cycles q pairs.cycles i in
          (indices_from_All n q.cycle s.cycle, indices_from_All n q.cocycle s.cocycle);
      steps = λ q i. let s = All-contains (code_certificates.HasStepStates c.grid) cell.steps q pairs.steps i in
          (indices_from_All n q.step s.step, indices_from_All n q.probe s.probe);
    }

-- The verdict of a certificate is that of its states.
pub verdict_of-states : (c : kept.Certificate) → code_certificates.IsCertificate c
    → over_codes.verdict_of c ≡ verdict_of (certificate_of c)
verdict_of-states c is =
    ap (verdict_from 1) (entries-states c (ranks_of_certificate c is))

row_first : {A : Type 0} (f : A → Row) (b : Bool) (x : A) (xs : List A)
    → map f (cond b (x ∷ xs) xs) ≡ cond b (f x ∷ map f xs) (map f xs)
row_first f true x xs = refl
row_first f false x xs = refl

-- The table that it claims is the same.
pub certified_rows-states : (n : ℕ) (cells : List kept.Cell)
    → over_codes.certified_rows cells ≡ certified_rows (map (cell_of n) cells)
certified_rows-states n [] = refl
certified_rows-states n (c ∷ cells) =
    row_first (λ (d : kept.Cell). (d.at.0, d.at.1, length d.cycles)) (not (length c.cycles == 0)) c
    (filter (λ (d : kept.Cell). not (length d.cycles == 0)) cells)
    ∙ ap₂ (λ k rows. cond (not (k == 0)) ((c.at.0, c.at.1, k) ∷ rows) rows)
    (sym (length-map c.cycles (cycle_pair_of n))) (certified_rows-states n cells)
    ∙ sym (row_first (λ (d : Cell). (d.at.0, d.at.1, length d.cycles))
    (not (length (map (cycle_pair_of n) c.cycles) == 0))
    (cell_of n c) (filter (λ (d : Cell). not (length d.cycles == 0)) (map (cell_of n) cells)))
