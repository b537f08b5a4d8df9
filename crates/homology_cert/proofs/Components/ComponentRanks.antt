-- The ranks by component. The grid complex with these degrees is a complex; in each degree there is one rank; and if
-- all arrows of the slice at an Alexander degree a are cancelled, the rank at (m; ds), for degrees ds that add up to
-- 2 a, is the number of the left cells of Maslov degree m whose states have the degrees ds. So the program cancels in
-- the slices as ever, and only counts by finer degrees.
-- Route: the slice, refined by the degrees of states as labels, is at (m, ds) and above it alike to the whole.
use Rattle.std.proofs.Common.{◌≡◌, ◌↔◌, ℕ, ◌<◌, ℤ, pos, ◌+ℤ◌, Bool, true, false, ◌&&◌, cond, if◌then◌else◌, ltb, List, [], ◌∷◌, length, Some, None, is_some, refl, sym, ap, subst, ◌∙◌, arith}
use Rattle.std.specs.Prelude.{◌*ℤ◌}
use Rattle.std.specs.List.{filter}
use Rattle.std.proofs.lemmas.Bool.{false≢true, and_parts, and_from, ltb-true}
use Rattle.std.proofs.lemmas.Int.{ints}
use Rattle.f2_algebra.specs.Chain.{Chain, holds, codes, of_codes, nothing}
use Rattle.f2_algebra.specs.Complex.{Complex, arrow, IsAbove, IsComplex}
use Rattle.f2_algebra.specs.Cancel.{Entry, IsLog, after}
use Rattle.f2_algebra.specs.Bigraded.{up_m, maslov_if, at_alexander}
use Rattle.f2_algebra.proofs.Chains.Cardinality.{cardinality-length, cardinality-of_codes}
use Rattle.f2_algebra.proofs.Chains.Sets.{any, any-filter, IsApart, holds-nothing, holds-of_codes}
use Rattle.f2_algebra.proofs.Ranks.RankLemmas.{one_rank}
use Rattle.f2_algebra.proofs.Ranks.Existence.{exists_rank}
use Rattle.f2_algebra.proofs.Ranks.Bigraded.{at_alexander_IsPartOf, at_alexander_IsComplex, int_up_one, int_up_other}
use Rattle.state_rank.specs.States.{factorial, unrank}
use Rattle.state_rank.proofs.RankLemmas.{IsBijection-unrank, rank-unrank}
use Rattle.torus_geom.specs.Marks.{Marks, size, IsGrid}
use Rattle.torus_geom.specs.Inner.CodeBorder.{border_of_state}
use Rattle.torus_geom.specs.Degrees.{maslov_o, alexander, bidegree}
use Rattle.torus_geom.specs.Inner.GridComplex.{grid_complex}
use Rattle.rectangles.proofs.Law.GridComplexLemmas.{grid_complex_rules}
use Rattle.multi_degree.specs.ComponentDegrees.{component_degrees, total_degree}
use Rattle.homology_cert.specs.Inner.Refined.{refined, KeepsLabels}
use Rattle.homology_cert.specs.Inner.CodeComponents.{multidegree, component_complex, IsComponentRank}
use Rattle.hat_division.proofs.Multi.DegreeListLemmas.{same_multidegree, same_multidegree-is}
use Rattle.multi_degree.proofs.DegreeLaws.{component_degrees-border_of_state, total_degree-component_degrees}
use Rattle.rectangles.proofs.Homology.GradedStates.{value_if}
use Rattle.state_rank.specs.Bijection.{ascending}
use Rattle.rectangles.proofs.Homology.GridCells.{any-ascending}
use Rattle.homology_cert.proofs.Homology.TableLemmas.{rank-no_cell}
use Rattle.homology_cert.proofs.Components.RefinedLemmas.{with_label-is, rank_of_refined}
use Rattle.homology_cert.proofs.Components.AlikeLemmas.{IsAlike, rank_there}

-- what is picked of codes that are apart is apart
pub IsApart-filter : (p : ℕ → Bool) (xs : List ℕ) → IsApart xs → IsApart (filter p xs)
IsApart-filter p [] apart = tt
IsApart-filter p (x ∷ xs) apart = by (p x) (IsApart-filter p xs apart.1)
  where
    out : (b : Bool) → b ≡ false → (c : Bool) → (b && c) ≡ false
    out b e c = ap (λ t. t && c) e

    by : (b : Bool) → IsApart (filter p xs) → IsApart (cond b (x ∷ filter p xs) (filter p xs))
    by true rest = (any-filter x p xs ∙ out (any x xs) apart.0 (p x), rest)
    by false rest = rest

-- ---- degrees of codes
-- the degree of a code that passes
there_if : {D : Type 0} (b : Bool) (v d : D) → b ≡ true → v ≡ d → (if b then Some v else None) ≡ Some d
there_if b v d h e = (λ i. if h i then Some v else None) ∙ ap Some e

module _ (g : Marks) (grid : IsGrid g) where
  abbrev state : ℕ → List ℕ
  state s = unrank (size g) s

  abbrev within : ℕ → Bool
  within s = ltb s (factorial (size g))

  abbrev labels : ℕ → List ℤ
  labels s = component_degrees g (state s)

  -- an arrow keeps the degrees of the states at its ends
  arrow_keeps : (s t : ℕ) → arrow (grid_complex g) s t ≡ true → labels s ≡ labels t
  arrow_keeps s t a =
      let (d, above, below) = (grid_complex_rules g grid).lowers s t a in
      let from = value_if (within s) (bidegree g (state s)) (up_m d) above in
      let to = value_if (within t) (bidegree g (state t)) d below in
      let ls = ltb-true s (factorial (size g)) from.0 in
      let lt = ltb-true t (factorial (size g)) to.0 in
      let held : holds (border_of_state g (state s)) t ≡ true =
      sym (λ i. holds (if from.0 i then border_of_state g (state s) else nothing) t) ∙ a in
      component_degrees-border_of_state g grid (state s) (state t) (IsBijection-unrank (size g) s ls)
      (IsBijection-unrank (size g) t lt)
      (ap (holds (border_of_state g (state s))) (rank-unrank (size g) t lt) ∙ held)

  -- ---- the complex
  lowers : (s t : ℕ) → arrow (grid_complex g) s t ≡ true → IsAbove (component_complex g) s t
  lowers s t a =
      let (d, above, below) = (grid_complex_rules g grid).lowers s t a in
      let from = value_if (within s) (bidegree g (state s)) (up_m d) above in
      let to = value_if (within t) (bidegree g (state t)) d below in
      let m : maslov_o g (state s) ≡ maslov_o g (state t) +ℤ pos 1 =
      ap (λ (p : ℤ × ℤ). p.0) from.1 ∙ sym (ap (λ (p : ℤ × ℤ). p.0 +ℤ pos 1) to.1) in
      let ds = arrow_keeps s t a in (
        multidegree g (state t),
        there_if (within s) (multidegree g (state s)) (maslov_o g (state t) +ℤ pos 1, labels t) from.0
            (λ i. (m i, ds i)),
        there_if (within t) (multidegree g (state t)) (multidegree g (state t)) to.0 refl,
      )

  -- the grid complex with a degree for each component is a complex
  pub component_complex_IsComplex : IsComplex (component_complex g)
  component_complex_IsComplex = record {
    up_one = λ m n e. let first = int_up_one m.0 n.0 (ap (λ (p : ℤ × List ℤ). p.0) e) in λ i. (first i, (e i).1);
    up_other = λ m e. int_up_other m.0 (ap (λ (p : ℤ × List ℤ). p.0) e);
    lowers = lowers;
    squares = (grid_complex_rules g grid).squares;
  }

  -- ---- one rank in each degree
  pub component_degree_at : (s : ℕ) (d : ℤ × List ℤ) → (component_complex g).degree s ≡ Some d
      → (s < factorial (size g)) × (multidegree g (state s) ≡ d)
  component_degree_at s d e =
      let told = value_if (within s) (multidegree g (state s)) d e in (ltb-true s (factorial (size g)) told.0, told.1)

  live_below : (s : ℕ) (b : Bool) (v : ℤ × List ℤ) → is_some (if b then Some v else None) ≡ true → b ≡ true
  live_below s true v h = refl
  live_below s false v h = absurd (false≢true h)

  pub some_component_rank : (m : ℤ) (ds : List ℤ) → (d : ℕ) × IsComponentRank g m ds d
  some_component_rank m ds =
      exists_rank same_multidegree same_multidegree-is (component_complex g) component_complex_IsComplex
      (ascending (factorial (size g)))
      (λ s live. any-ascending (factorial (size g)) s
      (ltb-true s (factorial (size g)) (live_below s (within s) (multidegree g (state s)) live))) (m, ds)

  pub one_component_rank : (m : ℤ) (ds : List ℤ) (d e : ℕ) → IsComponentRank g m ds d → IsComponentRank g m ds e
      → d ≡ e
  one_component_rank m ds d e h k = one_rank (component_complex g) (m, ds) d e h k

  -- ---- from the slices by Alexander degree
  module _ (a : ℤ) where
    abbrev slice : Complex ℤ
    slice = at_alexander a (grid_complex g)

    slice_rules : IsComplex slice
    slice_rules = at_alexander_IsComplex a (grid_complex g) refl (grid_complex_rules g grid)

    slice_keeps : KeepsLabels slice labels
    slice_keeps s t h = by (is_some (maslov_if a ((grid_complex g).degree s))) h
      where
        by : (b : Bool) → holds (cond b ((grid_complex g).targets s) nothing) t ≡ true → labels s ≡ labels t
        by true e = arrow_keeps s t e
        by false e = absurd (false≢true (sym (holds-nothing t) ∙ e))

    -- a cell of the slice with these degrees is one of the whole, and the other way round
    cell_same : (ds : List ℤ) → total_degree ds ≡ pos 2 *ℤ a → (s : ℕ) (m : ℤ)
        → ((refined slice labels).degree s ≡ Some (m, ds)) ↔ ((component_complex g).degree s ≡ Some (m, ds))
    cell_same ds sum s m =
        let label_is = with_label-is (labels s) (slice.degree s) m ds in
        let part_is = (at_alexander_IsPartOf a (grid_complex g) refl).degrees s m in (
          λ e.
              let (in_slice, same) = label_is.0 e in
              let told = value_if (within s) (bidegree g (state s)) (m, a) (part_is.0 in_slice) in
              let maslov = ap (λ (p : ℤ × ℤ). p.0) told.1 in
              there_if (within s) (multidegree g (state s)) (m, ds) told.0 (λ i. (maslov i, same i)),
          λ e.
              let (live, same) = value_if (within s) (multidegree g (state s)) (m, ds) e in
              let maslov = ap (λ (p : ℤ × List ℤ). p.0) same in
              let degrees = ap (λ (p : ℤ × List ℤ). p.1) same in
              let below = ltb-true s (factorial (size g)) live in
              let twice = total_degree-component_degrees g grid (state s) (IsBijection-unrank (size g) s below) in
              let added = ap total_degree degrees in
              let alexander_is : alexander g (state s) ≡ a = omega (arith, ints) in
              label_is.1 (
                part_is.1 (there_if (within s) (bidegree g (state s)) (m, a) live
                    (λ i. (maslov i, alexander_is i))),
                degrees,
              ),
        )

    targets_same : (s : ℕ) (d : ℤ × List ℤ) → (refined slice labels).degree s ≡ Some d
        → slice.targets s ≡ (grid_complex g).targets s
    targets_same s d e =
        let (in_slice, _) = (with_label-is (labels s) (slice.degree s) d.0 d.1).0 e in
        ap (λ b. cond b ((grid_complex g).targets s) nothing) (ap is_some in_slice)

    slice_alike : (m : ℤ) (ds : List ℤ) → total_degree ds ≡ pos 2 *ℤ a
        → IsAlike (component_complex g) (m, ds) (refined slice labels) (m, ds)
    slice_alike m ds sum = record {
      here = λ s. cell_same ds sum s m;
      above = λ s. cell_same ds sum s (m +ℤ pos 1);
      targets_here = λ s e. targets_same s (m, ds) e;
      targets_above = λ s e. targets_same s (m +ℤ pos 1, ds) e;
    }

    module _ (log : List Entry) (stands : IsLog (at_alexander a (grid_complex g)) log)
        (bare : (s : ℕ) → (after (at_alexander a (grid_complex g)) log).targets s ≡ nothing) (m : ℤ) (ds : List ℤ)
        (sum : total_degree ds ≡ pos 2 *ℤ a) where
      -- the left cells of Maslov degree m whose states have the degrees ds are as many as the rank
      pub component_rank_of_log : (cells : Chain)
          → ((s : ℕ) → (holds cells s ≡ true)
          ↔ (((after (at_alexander a (grid_complex g)) log).degree s ≡ Some m)
          × (component_degrees g (unrank (size g) s) ≡ ds)))
          → IsComponentRank g m ds (length (codes cells))
      component_rank_of_log cells all =
          rank_there (component_complex g) (m, ds) (refined slice labels) (m, ds) (slice_alike m ds sum)
          (length (codes cells))
          (rank_of_refined labels slice slice_rules slice_keeps log stands bare m ds cells all)

      -- the same of a list of all left cells, each once: those that pass the test of the degrees are counted
      pub component_rank_counted : (xs : List ℕ) → IsApart xs
          → ((s : ℕ) → is_some ((after (at_alexander a (grid_complex g)) log).degree s) ≡ true → any s xs ≡ true)
          → (test : ℕ → Bool)
          → ((s : ℕ) → any s xs ≡ true → (test s ≡ true)
          ↔ (((after (at_alexander a (grid_complex g)) log).degree s ≡ Some m)
          × (component_degrees g (unrank (size g) s) ≡ ds)))
          → IsComponentRank g m ds (length (filter test xs))
      component_rank_counted xs apart listed test tells =
          subst (IsComponentRank g m ds)
          (sym (cardinality-length (of_codes (filter test xs)))
          ∙ cardinality-of_codes (filter test xs) (IsApart-filter test xs apart))
          (component_rank_of_log (of_codes (filter test xs)) (λ s.
          let is : holds (of_codes (filter test xs)) s ≡ (any s xs && test s) =
          holds-of_codes (filter test xs) s ∙ any-filter s test xs in (
            λ h. let (inside, passes) = and_parts (any s xs) (test s) (sym is ∙ h) in (tells s inside).0 passes,
            λ e. let inside = listed s (ap is_some e.0) in
                is ∙ and_from (any s xs) (test s) inside ((tells s inside).1 e),
          )))

  -- at degrees that no state has, the rank is 0
  pub component_rank_none : (m : ℤ) (ds : List ℤ)
      → ((s : ℕ) → s < factorial (size g) → multidegree g (unrank (size g) s) ≡ (m, ds) → ⊥) → IsComponentRank g m ds 0
  component_rank_none m ds none =
      rank-no_cell (component_complex g) (m, ds)
      (λ s e. let told = component_degree_at s (m, ds) e in none s told.0 told.1)

  -- nor is there one at degrees that do not add up to twice the Alexander degree of a state
  pub component_rank_elsewhere : (m : ℤ) (ds : List ℤ)
      → ((s : ℕ) → s < factorial (size g) → total_degree ds ≡ pos 2 *ℤ alexander g (unrank (size g) s) → ⊥)
      → IsComponentRank g m ds 0
  component_rank_elsewhere m ds none = component_rank_none m ds (λ s l e. none s l
      (sym (ap (λ (p : ℤ × List ℤ). total_degree p.1) e)
      ∙ total_degree-component_degrees g grid (unrank (size g) s) (IsBijection-unrank (size g) s l)))
