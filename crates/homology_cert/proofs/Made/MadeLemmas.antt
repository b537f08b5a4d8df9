-- Cells that come from logs pass the tests of a certificate.
--
-- The pairs of a cell pass in the slice of its Alexander degree (f2_algebra), and so in the grid. The cell one Maslov
-- degree above may come from another log of the same slice, which has as many steps of each degree (StepCountLemmas);
-- so the states of a cell are as many as its pairs and the steps of the cell above together.
use Rattle.std.proofs.Common.{◌≡◌, ◌≢◌, ℕ, ◌+◌, ◌<◌, Bool, true, false, not, cond, ◌&&◌, ◌||◌, List, [], ◌∷◌, ◌++◌, map, length, ℤ, pos, ◌+ℤ◌, ◌<ℤ◌, Contains, Some, is_some, refl, sym, ap, ap₂, subst, ◌∙◌, arith, inl, inr}
use Rattle.std.specs.List.{filter, list_any}
use Rattle.std.specs.List.Sorted.{IsStrictlyIncreasing}
use Rattle.std.specs.declared.option.Option.{Option}
use Rattle.std.specs.declared.option.Option.TheVariants.{None}
use Rattle.std.proofs.lemmas.Bool.{and_parts, false≢true, true≢false, eq-eqb, ne_eqb, cases_Bool}
use Rattle.std.proofs.lemmas.Bool.Decides.{Decides-int_eq}
use Rattle.std.proofs.lemmas.Int.{ints}
use Rattle.std.proofs.lemmas.List.{length-map}
use Rattle.f2_algebra.specs.Chain.{Chain, holds, codes, nothing, of_codes}
use Rattle.f2_algebra.specs.Complex.{Complex, IsComplex}
use Rattle.f2_algebra.specs.Cancel.{Entry, IsLog, after}
use Rattle.f2_algebra.specs.Bigraded.{up_m}
use Rattle.f2_algebra.specs.Certificate.{StepPair, IsAllCells, AreCyclePairs, AreStepPairs, steps_at}
use Rattle.f2_algebra.proofs.Chains.Sets.{any, any-filter, same_chain, holds-nothing, holds-of_codes}
use Rattle.f2_algebra.proofs.Chains.Lists.{codes-of_codes}
use Rattle.f2_algebra.proofs.Cancelling.Cancellation.{same_some}
use Rattle.f2_algebra.proofs.Cancelling.LogLemmas.{none_where}
use Rattle.f2_algebra.proofs.Ranks.Bigraded.{at_alexander_IsComplex, at_alexander_IsPartOf}
use Rattle.f2_algebra.proofs.Certificates.Span.{Every}
use Rattle.f2_algebra.proofs.Certificates.Certificate.{Every-All, all_from, every_weaker}
use Rattle.f2_algebra.proofs.Certificates.LogCertificate.{IsTest, step_pairs, step_pairs_after, step_pairs-after, step_pairs_pass, cycle_pairs_pass}
use Rattle.cancel.proofs.ListLemmas.{any-Contains}
use Rattle.state_rank.specs.Bijection.{ascending}
use Rattle.state_rank.specs.States.{factorial, unrank}
use Rattle.state_rank.proofs.MemberLemmas.{no_member, Contains-filter, pairs_filter}
use Rattle.state_rank.proofs.OrderLemmas.{Contains-ascending, ascending_rises}
use Rattle.state_rank.proofs.RankLemmas.{IsBijection-unrank}
use Rattle.torus_geom.specs.Marks.{Marks, size, IsGrid}
use Rattle.torus_geom.specs.Degrees.{bidegree}
use Rattle.torus_geom.specs.Inner.GridComplex.{grid_complex}
use Rattle.torus_geom.proofs.Sums.AllBelowLemmas.{at_all_below}
use Rattle.rectangles.proofs.Law.GridComplexLemmas.{grid_complex_rules}
use Rattle.gradings.proofs.TableLemmas.{maslov_small, alexander_small}
use Rattle.homology_cert.specs.CertificateCodes.{Cell, Certificate}
use Rattle.homology_cert.specs.Certificates.{AreSmallDegrees}
use Rattle.homology_cert.specs.Inner.CodeCertificates.{HasPairStates}
use Rattle.homology_cert.specs.CertificateTests.{same_degree}
use Rattle.homology_cert.specs.Inner.CodeTests.{has_bidegree, state_count_at, count_passes, verdict_of}
use Rattle.homology_cert.specs.Inner.Making.{degree_is, left_codes, cycle_pair, step_pair, steps_after, IsMadeCell, AreMade}
use Rattle.homology_cert.specs.declared.verdicts.CertVerdict.TheVariants.{Yes}
use Rattle.homology_cert.proofs.Homology.SliceRanks.{slice_of, IsReduction, left-below}
use Rattle.homology_cert.proofs.Certified.PassingLemmas.{PassesCell}
use Rattle.homology_cert.proofs.Certified.CertifiedLemmas.{same_degree-is, state_of_degree, degree_of_state, cells_at}
use Rattle.homology_cert.proofs.Made.SlicePairLemmas.{IsTest-has_bidegree, cycle_passes, cycles_apart, cycle_states, step_passes, steps_apart, step_states}
use Rattle.homology_cert.proofs.Made.StepCountLemmas.{counted_steps, first_failing-steps}
use Rattle.homology_cert.proofs.Made.YesLemmas.{yes_of_passes}
use Rattle.f2_algebra.proofs.Chains.Cardinality.{cardinality, cardinality-length, cardinality-of_codes}

-- ---- the codes that are left
degree_is-is : (m : ℤ) (d : Option ℤ) → (degree_is m d ≡ true → d ≡ Some m) × (d ≡ Some m → degree_is m d ≡ true)
degree_is-is m None = (λ h. absurd (false≢true h), λ e. absurd (false≢true (ap is_some e)))
degree_is-is m (Some n) = (λ h. ap Some ((Decides-int_eq n m).0 h), λ e. (Decides-int_eq n m).1 (same_some n m e))

-- they rise
left_codes-rise : (g : Marks) (C : Complex ℤ) (m : ℤ) → IsStrictlyIncreasing (left_codes g C m)
left_codes-rise g C m k within =
    pairs_filter (λ (a b : ℕ). a < b) (λ s. degree_is m (C.degree s)) (ascending (factorial (size g)))
    (ascending_rises (factorial (size g))) k (k + 1) 0 (omega arith) within

-- the steps of a log, one way and the other
steps_after-same : (p : ℕ → Bool) (done log : List Entry) → steps_after p done log ≡ step_pairs_after p done log
steps_after-same p done [] = refl
steps_after-same p done (e ∷ log) =
    ap (λ qs. cond (p e.x) (step_pair done e ∷ []) [] ++ qs) (steps_after-same p (done ++ e ∷ []) log)
    ∙ first (p e.x) (step_pair done e) (step_pairs_after p (done ++ e ∷ []) log)
  where
    first : (b : Bool) (q : StepPair) (qs : List StepPair) → cond b (q ∷ []) [] ++ qs ≡ cond b (q ∷ qs) qs
    first true q qs = refl
    first false q qs = refl

-- ---- the slice of an Alexander degree
module _ (g : Marks) (grid : IsGrid g) (a : ℤ) where
  -- the slice
  abbrev S : Complex ℤ
  S = slice_of g a

  -- it keeps the rules of a complex
  rules : IsComplex S
  rules = at_alexander_IsComplex a (grid_complex g) refl (grid_complex_rules g grid)

  -- the states of a degree
  abbrev states_at : ℤ → Chain
  states_at m = (cells_at g grid (m, a)).0

  -- they are the cells of this degree of the slice
  are_states : (m : ℤ) → IsAllCells S m (states_at m)
  are_states m s =
      let all = (cells_at g grid (m, a)).1 s in
      let same = (at_alexander_IsPartOf a (grid_complex g) refl).degrees s m in
      (λ h. same.1 (all.0 h), λ e. all.1 (same.0 e))

  -- and as many as are counted
  number_of_states : (m : ℤ) → cardinality (states_at m) ≡ state_count_at g (m, a)
  number_of_states m = cardinality-length (states_at m) ∙ (cells_at g grid (m, a)).2

  -- the test of a degree
  abbrev tests : ℤ → ℕ → Bool
  tests m = has_bidegree g (m, a)

  -- it tells the cells of the degree
  are_tests : (m : ℤ) → IsTest S m (tests m)
  are_tests m = IsTest-has_bidegree g grid m a

  -- a degree that no state has
  none_at : (m : ℤ) → ((s : ℕ) → (grid_complex g).degree s ≡ Some (m, a) → ⊥) → cardinality (states_at m) ≡ 0
  none_at m never =
      ap cardinality (same_chain (states_at m) nothing (λ s. none_where (holds (states_at m) s)
      (λ h. never s (((cells_at g grid (m, a)).1 s).0 h)) ∙ sym (holds-nothing s)))
      ∙ cardinality-of_codes [] tt

  -- a bidegree that some state has is small
  small_state : (s : ℕ) (d : ℤ × ℤ) → (grid_complex g).degree s ≡ Some d → AreSmallDegrees d
  small_state s d is =
      let below = state_of_degree g grid s d is in
      let at : bidegree g (unrank (size g) s) ≡ d = same_some _ _ (sym (degree_of_state g grid s below) ∙ is) in
      subst AreSmallDegrees at (record {
        maslov = maslov_small g grid (unrank (size g) s) (IsBijection-unrank (size g) s below);
        alexander = alexander_small g grid (unrank (size g) s) (IsBijection-unrank (size g) s below);
      })

  -- no state is above the greatest degree
  none_above : (m : ℤ) → pos 1000 <ℤ m → cardinality (states_at m) ≡ 0
  none_above m above = none_at m (λ s is. let high =
      (small_state s (m, a) is).maslov.high in absurd (omega (arith, ints, above, high)))

  -- ---- a log of it that leaves no arrow
  module _ (left : Complex ℤ) (log : List Entry) (reduced : IsReduction g a left log) where
    -- the log stands
    stands : IsLog S log
    stands = reduced.stands

    -- no arrow is left after it
    bare : (s : ℕ) → (after S log).targets s ≡ nothing
    bare s = sym (ap (λ C. C.targets s) reduced.is_after) ∙ reduced.no_arrow s

    -- the states of a degree that are left
    abbrev kept : ℤ → Chain
    kept m = of_codes (left_codes g left m)

    -- they are the cells that are left
    is_kept : (m : ℤ) → IsAllCells left m (kept m)
    is_kept m s =
        let is : holds (kept m) s ≡ (any s (ascending (factorial (size g))) && degree_is m (left.degree s)) =
        holds-of_codes (left_codes g left m) s ∙ any-filter s (λ t. degree_is m (left.degree t))
        (ascending (factorial (size g))) in (
          λ h. (degree_is-is m (left.degree s)).0 ((and_parts (any s (ascending (factorial (size g)))) _
              (sym is ∙ h)).1),
          λ e. is ∙ ap₂ ◌&&◌ (any-Contains (ascending (factorial (size g))) s
              (Contains-ascending (factorial (size g)) s (left-below g grid a left log reduced s (ap is_some e))))
              ((degree_is-is m (left.degree s)).1 e),
        )

    -- also of the slice after the log
    all_kept : (m : ℤ) → IsAllCells (after S log) m (kept m)
    all_kept m = subst (λ C. IsAllCells C m (kept m)) reduced.is_after (is_kept m)

    -- their codes are the list of these
    codes_kept : (m : ℤ) → codes (kept m) ≡ left_codes g left m
    codes_kept m = codes-of_codes (left_codes g left m) (left_codes-rise g left m)

    -- the number of steps of a degree
    abbrev steps : ℤ → ℕ
    steps m = length (step_pairs (tests m) log)

    -- the cycle pairs pass in the slice
    cycles_of_log : (m : ℤ) → AreCyclePairs S m (map (cycle_pair log) (left_codes g left m))
    cycles_of_log m = subst (λ xs. AreCyclePairs S m (map (cycle_pair log) xs)) (codes_kept m)
        (cycle_pairs_pass S rules log stands bare m (kept m) (all_kept m))

    -- and so do the step pairs
    steps_of_log : (m : ℤ) → AreStepPairs S m (steps_after (tests m) [] log)
    steps_of_log m = subst (AreStepPairs S m) (sym (steps_after-same (tests m) [] log ∙ step_pairs-after (tests m) log))
        (step_pairs_pass S rules log stands m (tests m) (are_tests m))

    -- of which there is one for each step
    length-steps : (m : ℤ) → length (steps_after (tests m) [] log) ≡ steps m
    length-steps m = ap length (steps_after-same (tests m) [] log ∙ step_pairs-after (tests m) log)

    -- the states of a bidegree, by its cycle pairs, its steps and the steps of the degree above
    states_counted : (m : ℤ) → state_count_at g (m, a) ≡ length (map (cycle_pair log) (left_codes g left m)) +
        (steps m + steps (m +ℤ pos 1))
    states_counted m =
        let here = counted_steps S rules (λ n. refl) tests are_tests states_at are_states log stands bare kept all_kept
        m in
        let number = number_of_states m in
        let long = cardinality-length (kept m) ∙ ap length (codes_kept m) in
        let paired = length-map (left_codes g left m) (cycle_pair log) in
        omega (arith, here, number, long, paired)

  module _ (left other : Complex ℤ) (log also : List Entry) (reduced : IsReduction g a left log)
      (reduced_also : IsReduction g a other also) where
    -- another log has as many steps of each degree
    as_many_steps : (m : ℤ) → steps left log reduced m ≡ steps other also reduced_also m
    as_many_steps =
        first_failing-steps S rules (λ n. refl) tests are_tests states_at are_states log also (stands left log reduced)
        (stands other also reduced_also) (bare left log reduced) (bare other also reduced_also)
        (kept left log reduced) (kept other also reduced_also) (all_kept left log reduced)
        (all_kept other also reduced_also) (pos 1000) none_above

-- ---- a cell
module _ (g : Marks) (grid : IsGrid g) (cell : Cell) (made : IsMadeCell g cell) where
  -- the log of the cell leaves no arrow
  pub reduction : IsReduction g cell.at.1 made.left made.log
  reduction = record { stands = made.stands; is_after = made.is_after; no_arrow = made.no_arrow }

  -- its cycle pairs pass in the slice
  cycle_pairs : AreCyclePairs (slice_of g cell.at.1) cell.at.0 cell.cycles
  cycle_pairs = subst (AreCyclePairs (slice_of g cell.at.1) cell.at.0) (sym made.cycles)
      (cycles_of_log g grid cell.at.1 made.left made.log reduction cell.at.0)

  -- and so do its step pairs
  step_pairs_of : AreStepPairs (slice_of g cell.at.1) cell.at.0 cell.steps
  step_pairs_of = subst (AreStepPairs (slice_of g cell.at.1) cell.at.0) (sym made.steps)
      (steps_of_log g grid cell.at.1 made.left made.log reduction cell.at.0)

  -- the number of its steps
  abbrev steps_here : ℤ → ℕ
  steps_here m = steps g grid cell.at.1 made.left made.log reduction m

  -- it has a step pair for each step of its degree
  length-here : length cell.steps ≡ steps_here cell.at.0
  length-here = ap length made.steps ∙ length-steps g grid cell.at.1 made.left made.log reduction cell.at.0

  -- the states of its bidegree, by its pairs and the steps above
  pub states_here : state_count_at g cell.at ≡ length cell.cycles +
      (length cell.steps + steps_here (cell.at.0 +ℤ pos 1))
  states_here =
      let counted = states_counted g grid cell.at.1 made.left made.log reduction cell.at.0 in
      let cycles = ap length made.cycles in
      let stepped = length-here in
      omega (arith, counted, cycles, stepped)

  -- its bidegree is small
  pub small_here : AreSmallDegrees cell.at
  small_here = small_state g grid cell.at.1 made.state cell.at
      (degree_of_state g grid made.state made.below ∙ ap Some made.is_state)

  -- there are some
  pub some_here : state_count_at g cell.at ≢ 0
  some_here none = nothing_in (filter (has_bidegree g cell.at) (ascending (factorial (size g)))) none made.state
      (Contains-filter (has_bidegree g cell.at) (ascending (factorial (size g))) made.state
      (Contains-ascending (factorial (size g)) made.state made.below)
      ((same_degree-is (bidegree g (unrank (size g) made.state)) cell.at).1 made.is_state))
    where
      nothing_in : (xs : List ℕ) → length xs ≡ 0 → (s : ℕ) → Contains xs s → ⊥
      nothing_in [] e s inside = no_member s inside
      nothing_in (x ∷ xs) e s inside = omega (arith, e)

  -- its sets are sets of states
  pub pair_states : HasPairStates g cell
  pair_states = record {
    cycles = all_from _ cell.cycles (cycle_states g grid cell.at.0 cell.at.1 cell.cycles cycle_pairs);
    steps = all_from _ cell.steps (step_states g grid cell.at.0 cell.at.1 cell.steps step_pairs_of);
  }

-- two made cells of one Alexander degree
module _ (g : Marks) (grid : IsGrid g) (p q : Cell) (made : IsMadeCell g p) (also : IsMadeCell g q)
    (same : q.at ≡ up_m p.at)
  where
    -- the log of the second is one of the same slice
    level : IsReduction g p.at.1 also.left also.log
    level = subst (λ a. IsReduction g a also.left also.log) (ap (λ (d : ℤ × ℤ). d.1) same) (reduction g grid q also)

    -- the second has as many step pairs as the log of the first has steps of its degree
    pub steps_above : length q.steps ≡ steps_here g grid p made (p.at.0 +ℤ pos 1)
    steps_above =
        ap length also.steps
        ∙ ap (λ d. length (steps_after (has_bidegree g d) [] also.log)) same
        ∙ length-steps g grid p.at.1 also.left also.log level (p.at.0 +ℤ pos 1)
        ∙ as_many_steps g grid p.at.1 also.left made.left also.log made.log level (reduction g grid p made)
        (p.at.0 +ℤ pos 1)

-- ---- the certificate
module _ (g : Marks) (grid : IsGrid g) (cells : List Cell) (made : AreMade g cells) where
  -- the certificate
  abbrev c : Certificate
  c = record { grid = g; cells = cells }

  -- if a cell has the bidegree, the step pairs of it are those that are looked up
  found_at : (d : ℤ × ℤ) (n : ℕ) (xs : List Cell) → Every (λ (x : Cell). x.at ≡ d → length x.steps ≡ n) xs
      → list_any (λ (x : Cell). same_degree d x.at) xs ≡ true → length (steps_at same_degree xs d) ≡ n
  found_at d n [] each h = absurd (false≢true h)
  found_at d n (x ∷ xs) each h = by_test (same_degree x.at d) refl (λ k. found_at d n xs each.1 k)
    where
      by_test : (b : Bool) → same_degree x.at d ≡ b → (list_any (λ (y : Cell). same_degree d y.at) xs ≡ true
          → length (steps_at same_degree xs d) ≡ n) → length
          (cond (same_degree x.at d) x.steps (steps_at same_degree xs d)) ≡ n
      by_test true e later = ap (λ b. length (cond b x.steps (steps_at same_degree xs d))) e
          ∙ each.0 ((same_degree-is x.at d).0 e)
      by_test false e later =
          ap (λ b. length (cond b x.steps (steps_at same_degree xs d))) e
          ∙ later (sym (ap (λ b. b || list_any (λ (y : Cell). same_degree d y.at) xs)
          (none_where (same_degree d x.at) (λ k. false≢true (sym e
          ∙ (same_degree-is x.at d).1 (sym ((same_degree-is d x.at).0 k)))))) ∙ h)

  -- and if none has it, there are none
  none_found : (d : ℤ × ℤ) (xs : List Cell) → list_any (λ (x : Cell). same_degree d x.at) xs ≡ false
      → steps_at same_degree xs d ≡ []
  none_found d [] h = refl
  none_found d (x ∷ xs) h =
      let here = or_first (same_degree d x.at) (list_any (λ (y : Cell). same_degree d y.at) xs) h in
      ap (λ b. cond b x.steps (steps_at same_degree xs d))
      (none_where (same_degree x.at d) (λ k. false≢true (sym here.0
      ∙ (same_degree-is d x.at).1 (sym ((same_degree-is x.at d).0 k)))))
      ∙ none_found d xs here.1
    where
      or_first : (a b : Bool) → (a || b) ≡ false → (a ≡ false) × (b ≡ false)
      or_first true b h = absurd (true≢false h)
      or_first false b h = (refl, h)

  -- each cell is made
  abbrev each_made : Every (IsMadeCell g) cells
  each_made = Every-All (IsMadeCell g) cells made.each

  -- the steps of the cell above, if there is one
  above : (cell : Cell) (is : IsMadeCell g cell)
      → length (steps_at same_degree cells (up_m cell.at)) ≡ steps_here g grid
      cell is (cell.at.0 +ℤ pos 1)
  above cell is = elim (cases_Bool (list_any (λ (x : Cell). same_degree (up_m cell.at) x.at) cells)) [
    | inl h ↦ found_at (up_m cell.at) (steps_here g grid cell is (cell.at.0 +ℤ pos 1)) cells
        (every_weaker (IsMadeCell g) (λ (x : Cell). x.at ≡ up_m cell.at
        → length x.steps ≡ steps_here g grid cell is (cell.at.0 +ℤ pos 1)) cells
        (λ x also same. steps_above g grid cell x is also same) each_made) h
    | inr h ↦
        let empty = none_at g grid cell.at.1 (cell.at.0 +ℤ pos 1) (λ s e. no_state s e h) in
        let counted = states_counted g grid cell.at.1 is.left is.log (reduction g grid cell is) (cell.at.0 +ℤ pos 1) in
        let number = number_of_states g grid cell.at.1 (cell.at.0 +ℤ pos 1) in
        ap length (none_found (up_m cell.at) cells h) ∙ omega (arith, empty, counted, number)
  ]
    where
      no_state : (s : ℕ) → (grid_complex g).degree s ≡ Some (up_m cell.at)
          → list_any (λ (x : Cell). same_degree (up_m cell.at) x.at) cells ≡ false → ⊥
      no_state s e h =
          let below = state_of_degree g grid s (up_m cell.at) e in
          let at : bidegree g (unrank (size g) s) ≡ up_m cell.at =
          same_some _ _ (sym (degree_of_state g grid s below) ∙ e) in
          false≢true (sym h ∙ ap (λ d. list_any (λ (x : Cell). same_degree d x.at) cells) (sym at)
          ∙ at_all_below (factorial (size g)) (λ t. list_any (λ (x : Cell). has_bidegree g x.at t) cells)
          made.complete s below)

  -- the numbers of a cell are right
  count : (cell : Cell) → IsMadeCell g cell → count_passes c cell ≡ true
  count cell is =
      let counted = states_here g grid cell is in
      let later = above cell is in
      ap₂ (λ a b. not a && b) (ne_eqb (state_count_at g cell.at) 0 (some_here g grid cell is))
      (eq-eqb (state_count_at g cell.at) _ (omega (arith, counted, later)))

  -- a cell passes its tests
  passes : (cell : Cell) → IsMadeCell g cell → PassesCell c cell
  passes cell is = record {
    count = count cell is;
    cycles = cycle_passes g grid cell.at.0 cell.at.1 cell.cycles (cycle_pairs g grid cell is);
    cycles_apart = cycles_apart g grid cell.at.0 cell.at.1 cell.cycles (cycle_pairs g grid cell is);
    steps = step_passes g grid cell.at.0 cell.at.1 cell.steps (step_pairs_of g grid cell is);
    steps_apart = steps_apart g grid cell.at.0 cell.at.1 cell.steps (step_pairs_of g grid cell is);
  }

  -- it passes
  pub verdict_of-made : verdict_of c ≡ Yes
  verdict_of-made = yes_of_passes c (every_weaker (IsMadeCell g) (PassesCell c) cells passes each_made) made.complete
