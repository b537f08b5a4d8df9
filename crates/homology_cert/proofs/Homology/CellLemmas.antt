-- The cells that are left of a slice: how many there are of each degree is the rank in that degree.
use Rattle.std.proofs.Common.{◌≡◌, ◌≢◌, inl, inr, ℕ, ◌<◌, ◌≤◌, ℤ, true, List, map, length, get_or, Contains, Some, is_some, refl, sym, ap, subst, ◌∙◌, arith}
use Rattle.std.specs.List.{filter}
use Rattle.std.specs.Ordering.{int_eq}
use Rattle.std.proofs.lemmas.Bool.{eqb-true, cases_lt}
use Rattle.std.proofs.lemmas.Bool.Decides.{Decides-int_eq}
use Rattle.std.proofs.lemmas.List.{length-map}
use Rattle.std.proofs.lemmas.List.Elements.{Contains-get_or}
use Rattle.std.proofs.lemmas.Map.Views.{Contains-from_any}
use Rattle.f2_algebra.specs.Chain.{codes, of_codes}
use Rattle.f2_algebra.specs.Complex.{Complex}
use Rattle.f2_algebra.specs.Cancel.{Entry}
use Rattle.f2_algebra.specs.Certificate.{IsAllCells}
use Rattle.f2_algebra.proofs.Ranks.Pigeonhole.{pigeonhole}
use Rattle.f2_algebra.proofs.Chains.Sets.{holds-of_codes}
use Rattle.state_rank.specs.States.{factorial}
use Rattle.state_rank.proofs.MemberLemmas.{Contains-map, member_of_map, Contains-filter, member_of_filter, pairs_map, pairs_filter}
use Rattle.torus_geom.specs.Marks.{Marks, size, IsGrid}
use Rattle.torus_geom.specs.Inner.CodeHomology.{IsHomologyRank}
use Rattle.sparse_complex.specs.declared.slices.Cell.{Cell}
use Rattle.sparse_complex.specs.Slices.{ListsCells}
use Rattle.sparse_complex.specs.Inner.Graph.{no_cell}
use Rattle.sparse_complex.proofs.BuildLemmas.{states_fit_keys}
use Rattle.cancel.proofs.ListLemmas.{any-Contains}
use Rattle.cancel.proofs.MapLemmas.{IsApart-pairs}
use Rattle.homology_cert.specs.Inner.Ranks.{degree_count, HasRanks}
use Rattle.homology_cert.proofs.Homology.SliceRanks.{IsReduction, left-below, rank_of_reduction}
use Rattle.f2_algebra.proofs.Chains.Cardinality.{cardinality-length, cardinality-of_codes}

-- ---- the cells of a degree
abbrev cells_at : ℤ → List Cell → List Cell
cells_at m cells = filter (λ c. int_eq c.maslov m) cells

abbrev codes_at : ℤ → List Cell → List ℕ
codes_at m cells = map (λ c. c.code) (cells_at m cells)

module _ (C : Complex ℤ) (cells : List Cell) (listed : ListsCells C cells) where
  -- a code of the list is a cell of the degree
  is_cell : (m : ℤ) (s : ℕ) → Contains (codes_at m cells) s → C.degree s ≡ Some m
  is_cell m s inside =
      let (c, kept, is) = member_of_map (λ (c : Cell). c.code) (cells_at m cells) s inside in
      let (stood, at) = member_of_filter (λ (c : Cell). int_eq c.maslov m) cells c kept in
      ap C.degree (sym is) ∙ (listed.each c).0 stood ∙ ap Some ((Decides-int_eq c.maslov m).0 at)

  -- and each cell of the degree is there
  has_cell : (m : ℤ) (s : ℕ) → C.degree s ≡ Some m → Contains (codes_at m cells) s
  has_cell m s e =
      let c : Cell = record { code = s; maslov = m } in
      Contains-map (λ (c : Cell). c.code) (cells_at m cells) c
      (Contains-filter (λ (c : Cell). int_eq c.maslov m) cells c ((listed.each c).1 e) ((Decides-int_eq m m).1 refl))

  all_cells : (m : ℤ) → IsAllCells C m (of_codes (codes_at m cells))
  all_cells m s = (
    λ h. is_cell m s (Contains-from_any (λ a b. eqb-true a b) s (codes_at m cells)
        (sym (holds-of_codes (codes_at m cells) s) ∙ h)),
    λ e. holds-of_codes (codes_at m cells) s ∙ any-Contains (codes_at m cells) s (has_cell m s e),
  )

  -- the chain of these cells has as many codes as the list has cells of the degree
  length-all_cells : (m : ℤ) → length (codes (of_codes (codes_at m cells))) ≡ degree_count m cells
  length-all_cells m =
      sym (cardinality-length (of_codes (codes_at m cells)))
      ∙ cardinality-of_codes (codes_at m cells) (IsApart-pairs (codes_at m cells)
      (pairs_map (λ (b c : Cell). b.code ≢ c.code) (λ b c. b ≢ c) (λ (c : Cell). c.code) (cells_at m cells) (λ b c h. h)
      (pairs_filter (λ (b c : Cell). b.code ≢ c.code) (λ (c : Cell). int_eq c.maslov m) cells listed.once)))
      ∙ length-map (cells_at m cells) (λ (c : Cell). c.code)

  -- cells with codes below n are at most n
  pub few_cells : (n : ℕ) → ((s : ℕ) → is_some (C.degree s) ≡ true → s < n) → length cells ≤ n
  few_cells n below = pigeonhole (length cells) n (λ i. (get_or cells i no_cell).code) into one
    where
      into : (i : ℕ) → i < length cells → (get_or cells i no_cell).code < n
      into i l = below _ (ap is_some ((listed.each (get_or cells i no_cell)).0 (Contains-get_or cells i no_cell l)))

      one : (i j : ℕ) → i < length cells → j < length cells
          → (get_or cells i no_cell).code ≡ (get_or cells j no_cell).code → i ≡ j
      one i j l k e = elim (cases_lt i j) [
        | inl less ↦ absurd (listed.once i j no_cell less k e)
        | inr more ↦ elim (cases_lt j i) [
          | inl less ↦ absurd (listed.once j i no_cell less l (sym e))
          | inr same ↦ omega arith
        ]
      ]

-- the cells that a reduction leaves count the ranks
pub ranks_of_cells : (g : Marks) → IsGrid g → (a : ℤ) (left : Complex ℤ) (log : List Entry) (cells : List Cell)
    → IsReduction g a left log → ListsCells left cells → HasRanks g a cells
ranks_of_cells g grid a left log cells reduced listed = record {
  ranks = λ m. subst (IsHomologyRank g m a) (length-all_cells left cells listed m)
      (rank_of_reduction g grid a left log reduced m (of_codes (codes_at m cells)) (all_cells left cells listed m));
  few =
      let most = few_cells left cells listed (factorial (size g)) (left-below g grid a left log reduced) in
      let states = states_fit_keys (size g) grid.is_size.greatest in
      omega arith;
}
