-- The cells that are left of a slice count the ranks by component.
use Rattle.std.proofs.Common.{◌≡◌, ◌≢◌, ◌↔◌, ℕ, ◌<◌, ℤ, pos, Bool, true, List, map, get_or, Contains, Option, None, Some, is_some, refl, ltb, sym, ap, subst, ◌∙◌, arith}
use Rattle.std.specs.Prelude.{◌*ℤ◌}
use Rattle.std.proofs.lemmas.Bool.{eqb-true, false≢true, ltb-true}
use Rattle.std.proofs.lemmas.List.Elements.{Contains-get_or}
use Rattle.std.proofs.lemmas.Map.Views.{Contains-from_any}
use Rattle.f2_algebra.specs.Chain.{nothing}
use Rattle.f2_algebra.specs.Complex.{Complex}
use Rattle.f2_algebra.specs.Cancel.{Entry, after}
use Rattle.f2_algebra.specs.Bigraded.{at_alexander}
use Rattle.f2_algebra.proofs.Certificates.Verdict.{value_of}
use Rattle.f2_algebra.proofs.Cancelling.Cancellation.{same_some}
use Rattle.f2_algebra.proofs.Chains.Sets.{any, IsApart}
use Rattle.state_rank.specs.States.{factorial, unrank}
use Rattle.state_rank.proofs.MemberLemmas.{Contains-map, member_of_map, pairs_map, count-map}
use Rattle.torus_geom.specs.Degrees.{maslov_o, alexander}
use Rattle.torus_geom.specs.Inner.GridComplex.{grid_complex}
use Rattle.torus_geom.specs.Marks.{Marks, size, IsGrid}
use Rattle.sparse_complex.specs.declared.slices.Cell.{Cell}
use Rattle.sparse_complex.specs.Slices.{ListsCells}
use Rattle.sparse_complex.proofs.BuildLemmas.{states_fit_keys}
use Rattle.cancel.proofs.ListLemmas.{any-Contains}
use Rattle.multi_degree.specs.ComponentDegrees.{component_degrees, total_degree}
use Rattle.homology_cert.specs.Inner.CodeComponents.{multidegree, IsComponentRank}
use Rattle.homology_cert.specs.Inner.Left.{cell_count, HasComponentRanks}
use Rattle.hat_division.proofs.Multi.DegreeListLemmas.{same_multidegree, same_multidegree-is}
use Rattle.homology_cert.proofs.Components.ComponentRanks.{component_rank_counted}
use Rattle.homology_cert.proofs.Homology.CellLemmas.{few_cells}
use Rattle.homology_cert.proofs.Homology.SliceRanks.{IsReduction, slice_of, left-below, left-slice}
use Rattle.cancel.proofs.MapLemmas.{IsApart-pairs}
use Rattle.f2_algebra.proofs.Ranks.Bigraded.{at_alexander_IsPartOf}
use Rattle.rectangles.proofs.Homology.GradedStates.{value_if}
use Rattle.torus_geom.specs.Degrees.{bidegree}

-- what is left is a state of the slice, with its degree
pub left-state : (g : Marks) → IsGrid g → (a : ℤ) (left : Complex ℤ) (log : List Entry) → IsReduction g a left log
    → (s : ℕ) (m : ℤ) → left.degree s ≡ Some m
    → (s < factorial (size g)) × (maslov_o g (unrank (size g) s) ≡ m) × (alexander g (unrank (size g) s) ≡ a)
left-state g grid a left log reduced s m live =
    let in_slice : (slice_of g a).degree s ≡ Some m =
    sym (left-slice g grid a left log reduced s (ap is_some live)) ∙ live in
    let told = value_if (ltb s (factorial (size g))) (bidegree g (unrank (size g) s)) (m, a)
    (((at_alexander_IsPartOf a (grid_complex g) refl).degrees s m).0 in_slice) in
    (ltb-true s (factorial (size g)) told.0, ap (λ (p : ℤ × ℤ). p.0) told.1, ap (λ (p : ℤ × ℤ). p.1) told.1)

module _ (g : Marks) (grid : IsGrid g) (a : ℤ) (left : Complex ℤ) (log : List Entry) (cells : List Cell)
    (reduced : IsReduction g a left log) (listed : ListsCells left cells) where
  abbrev left_codes : List ℕ
  left_codes = map (λ (c : Cell). c.code) cells

  -- a cell of the list is a state of the slice, with its degree
  cell_there : (c : Cell) → Contains cells c → left.degree c.code ≡ Some c.maslov
  cell_there c inside = (listed.each c).0 inside

  cell_degree : (c : Cell) → Contains cells c
      → (c.code < factorial (size g)) × (maslov_o g (unrank (size g) c.code) ≡ c.maslov)
      × (alexander g (unrank (size g) c.code) ≡ a)
  cell_degree c inside = left-state g grid a left log reduced c.code c.maslov (cell_there c inside)

  no_arrows : (s : ℕ) → (after (at_alexander a (grid_complex g)) log).targets s ≡ nothing
  no_arrows s = sym (ap (λ C. C.targets s) reduced.is_after) ∙ reduced.no_arrow s

  left_apart : IsApart left_codes
  left_apart = IsApart-pairs left_codes
      (pairs_map (λ (b c : Cell). b.code ≢ c.code) (λ b c. b ≢ c) (λ (c : Cell). c.code) cells (λ b c h. h) listed.once)

  all_listed : (s : ℕ) → is_some ((after (at_alexander a (grid_complex g)) log).degree s) ≡ true
      → any s left_codes ≡ true
  all_listed s live =
      let value = value_of (left.degree s) (ap (λ C. is_some (C.degree s)) reduced.is_after ∙ live) in
      let c : Cell = record { code = s; maslov = value.0 } in
      any-Contains left_codes s (Contains-map (λ (c : Cell). c.code) cells c ((listed.each c).1 value.1))

  -- the cell of a code of the list
  cell_of : (s : ℕ) → any s left_codes ≡ true → (c : Cell) × Contains cells c × (c.code ≡ s)
  cell_of s e = member_of_map (λ (c : Cell). c.code) cells s (Contains-from_any (λ a b. eqb-true a b) s left_codes e)

  module _ (m : ℤ) (ds : List ℤ) where
    abbrev test : ℕ → Bool
    test s = same_multidegree (multidegree g (unrank (size g) s)) (m, ds)

    tells : (s : ℕ) → any s left_codes ≡ true
        → (test s ≡ true)
        ↔ (((after (at_alexander a (grid_complex g)) log).degree s ≡ Some m)
        × (component_degrees g (unrank (size g) s) ≡ ds))
    tells s e =
        let (c, inside, is) = cell_of s e in
        let told = cell_degree c inside in
        let maslov : maslov_o g (unrank (size g) s) ≡ c.maslov =
        ap (λ t. maslov_o g (unrank (size g) t)) (sym is) ∙ told.1 in
        let degree : (after (at_alexander a (grid_complex g)) log).degree s ≡ Some c.maslov =
        sym (ap (λ C. C.degree s) reduced.is_after) ∙ ap left.degree (sym is) ∙ cell_there c inside in (
          λ h.
              let same = (same_multidegree-is (multidegree g (unrank (size g) s)) (m, ds)).0 h in (
                degree ∙ ap Some (sym maslov ∙ ap (λ (p : ℤ × List ℤ). p.0) same),
                ap (λ (p : ℤ × List ℤ). p.1) same,
              ),
          λ h.
              let first = maslov ∙ same_some c.maslov m (sym degree ∙ h.0) in
              let second = h.1 in
              (same_multidegree-is (multidegree g (unrank (size g) s)) (m, ds)).1 (λ i. (first i, second i)),
        )

    left_rank : total_degree ds ≡ pos 2 *ℤ a → IsComponentRank g m ds (cell_count g (m, ds) cells)
    left_rank sum =
        subst (IsComponentRank g m ds) (count-map test (λ (c : Cell). c.code) cells)
        (component_rank_counted g grid a log reduced.stands no_arrows m ds sum left_codes left_apart
        all_listed test tells)

  pub ranks_of_left : HasComponentRanks g a cells
  ranks_of_left = record {
    ranks = left_rank;
    states = λ k d l.
        let told = cell_degree (get_or cells k d) (Contains-get_or cells k d l) in
        record { state = told.0; maslov = told.1 };
    alexander = λ k d l. (cell_degree (get_or cells k d) (Contains-get_or cells k d l)).2;
    few =
        let most = few_cells left cells listed (factorial (size g)) (left-below g grid a left log reduced) in
        let states = states_fit_keys (size g) grid.is_size.greatest in
        omega arith;
  }
