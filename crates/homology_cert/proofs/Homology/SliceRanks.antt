-- The ranks of homology are the numbers of cells that are left of the slices.
use Rattle.std.proofs.Common.{◌≡◌, ℕ, ◌<◌, ℤ, Bool, true, false, if◌then◌else◌, None, Some, is_some, List, length, refl, sym, ap, subst, ◌∙◌}
use Rattle.std.proofs.lemmas.Bool.{false≢true, ltb-true}
use Rattle.f2_algebra.specs.Chain.{Chain, codes, nothing}
use Rattle.f2_algebra.specs.Complex.{Complex, IsComplex}
use Rattle.f2_algebra.specs.Cancel.{Entry, IsLog, after}
use Rattle.f2_algebra.specs.Certificate.{IsAllCells}
use Rattle.f2_algebra.specs.Slice.{Slice, slice_complex, IsReduced}
use Rattle.f2_algebra.specs.Bigraded.{maslov_if, at_alexander}
use Rattle.f2_algebra.proofs.Cancelling.LogLemmas.{live_at_first}
use Rattle.f2_algebra.proofs.Ranks.RankLemmas.{rank_of_log, one_rank}
use Rattle.f2_algebra.proofs.Ranks.Bigraded.{at_alexander_IsComplex, rank_at_alexander}
use Rattle.state_rank.specs.States.{factorial, unrank}
use Rattle.torus_geom.specs.Marks.{Marks, size, IsGrid}
use Rattle.torus_geom.specs.Degrees.{bidegree}
use Rattle.torus_geom.specs.Inner.GridComplex.{grid_complex}
use Rattle.torus_geom.specs.Inner.CodeHomology.{IsHomologyRank}
use Rattle.rectangles.proofs.Law.GridComplexLemmas.{grid_complex_rules}

-- the slice of the grid at a
abbrev pub slice_of : Marks → ℤ → Complex ℤ
slice_of g a = at_alexander a (grid_complex g)

-- a log of the slice at a that leaves no arrow, and what it leaves
pub record IsReduction (g : Marks) (a : ℤ) (left : Complex ℤ) (log : List Entry) : Type 0 where
  pub stands : IsLog (slice_of g a) log
  pub is_after : left ≡ after (slice_of g a) log
  pub no_arrow : (s : ℕ) → left.targets s ≡ nothing

below_bound : (g : Marks) (a : ℤ) (s : ℕ) (b : Bool)
    → is_some (maslov_if a (if b then Some (bidegree g (unrank (size g) s)) else None)) ≡ true → b ≡ true
below_bound g a s true h = refl
below_bound g a s false h = absurd (false≢true h)

-- the cells of a slice are indices of states
pub slice-below : (g : Marks) (a : ℤ) (s : ℕ) → is_some ((slice_of g a).degree s) ≡ true → s < factorial (size g)
slice-below g a s h = ltb-true s (factorial (size g)) (below_bound g a s _ h)

module _ (g : Marks) (grid : IsGrid g) (a : ℤ) where
  rules : IsComplex (slice_of g a)
  rules = at_alexander_IsComplex a (grid_complex g) refl (grid_complex_rules g grid)

  -- what is left was there before, with its degree
  pub left-slice : (left : Complex ℤ) (log : List Entry) → IsReduction g a left log → (s : ℕ)
      → is_some (left.degree s) ≡ true → left.degree s ≡ (slice_of g a).degree s
  left-slice left log r s h =
      let same = ap (λ C. C.degree s) r.is_after in
      same ∙ live_at_first (slice_of g a) rules log r.stands s (sym (ap is_some same) ∙ h)

  pub left-below : (left : Complex ℤ) (log : List Entry) → IsReduction g a left log → (s : ℕ)
      → is_some (left.degree s) ≡ true → s < factorial (size g)
  left-below left log r s h = slice-below g a s (sym (ap is_some (left-slice left log r s h)) ∙ h)

  -- the rank in degree (m, a) is the number of cells of degree m that are left of the slice
  pub rank_of_reduction : (left : Complex ℤ) (log : List Entry) → IsReduction g a left log → (m : ℤ) (cells : Chain)
      → IsAllCells left m cells → IsHomologyRank g m a (length (codes cells))
  rank_of_reduction left log r m cells all =
      let all_after = subst (λ C. IsAllCells C m cells) r.is_after all in
      let bare = λ (s : ℕ). sym (ap (λ C. C.targets s) r.is_after) ∙ r.no_arrow s in
      (rank_at_alexander a (grid_complex g) refl m (length (codes cells))).0
      (rank_of_log (slice_of g a) rules log r.stands bare m cells all_after)

-- a slice that was built and reduced
pub reduction_of : (g : Marks) (a : ℤ) (old new : Slice) (log : List Entry) → slice_complex old ≡ slice_of g a
    → IsReduced old new log → IsReduction g a (slice_complex new) log
reduction_of g a old new log built reduced = record {
  stands = subst (λ C. IsLog C log) built reduced.stands;
  is_after = reduced.is_after ∙ ap (λ C. after C log) built;
  no_arrow = reduced.no_arrow;
}

-- at most one number is the rank
pub one_homology_rank : (g : Marks) (m a : ℤ) (d e : ℕ) → IsHomologyRank g m a d → IsHomologyRank g m a e → d ≡ e
one_homology_rank g m a d e h k = one_rank (grid_complex g) (m, a) d e h k
