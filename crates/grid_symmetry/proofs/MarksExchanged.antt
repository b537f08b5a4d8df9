-- O and X change names: the border is the same, the two Maslov degrees change roles.
-- Route: a complex with the same arrows and other names of degrees is a part of the first one.
use Rattle.std.proofs.Common.{◌≡◌, ◌↔◌, ℕ, ◌<◌, Bool, cond, not, ◌&&◌, ◌||◌, List, Some, is_some, length, slice_index, refl, ap, subst, ◌∙◌, sym, arith, inl, inr}
use mathlib.Core.Path.{fun_ext}
use Rattle.std.proofs.Math.IntN.{ℤ, pos, ◌+ℤ◌, ◌-ℤ◌, ◌*ℤ◌}
use Rattle.std.proofs.lemmas.Int.{ints}
use Rattle.std.proofs.lemmas.Bool.{cases_lt, false≢true}
use Rattle.std.specs.List.{filter}
use Rattle.std.specs.Prelude.{nat_lt}
use Rattle.f2_algebra.specs.Chain.{nothing, is_odd}
use Rattle.f2_algebra.specs.Complex.{IsRank}
use Rattle.f2_algebra.specs.Bigraded.{up_m}
use Rattle.f2_algebra.specs.Part.{IsPartOf}
use Rattle.f2_algebra.proofs.Chains.Tables.{same}
use Rattle.f2_algebra.proofs.Cancelling.Cancellation.{same_some}
use Rattle.f2_algebra.proofs.Ranks.Part.{rank_of_part, rank_to_part}
use Rattle.state_rank.specs.Bijection.{IsSize, IsBijection}
use Rattle.state_rank.specs.States.{unrank, factorial}
use Rattle.state_rank.proofs.BijectionLemmas.{one_to_one, row-column_of}
use Rattle.state_rank.proofs.RankLemmas.{IsBijection-unrank}
use Rattle.torus_geom.specs.Counts.{all_below}
use Rattle.torus_geom.specs.Range.{in_range}
use Rattle.torus_geom.specs.Marks.{Marks, size, IsGrid}
use Rattle.torus_geom.specs.Rectangle.{leads, is_empty, is_unmarked, rectangles}
use Rattle.torus_geom.specs.declared.rects.Rect.{Rect}
use Rattle.torus_geom.specs.Inner.CodeBorder.{states_where, border_of_state}
use Rattle.torus_geom.specs.Components.{components}
use Rattle.torus_geom.specs.Degrees.{maslov, maslov_o, maslov_x, alexander, bidegree}
use Rattle.torus_geom.specs.Inner.GridComplex.{grid_complex}
use Rattle.torus_geom.specs.Inner.CodeHomology.{IsHomologyRank}
use Rattle.torus_geom.proofs.Sums.AllBelowLemmas.{all_below-same}
use Rattle.gradings.proofs.EvennessLemmas.{two-alexander}
use Rattle.grid_symmetry.specs.Symmetries.{marks_exchanged}
use Rattle.rectangles.proofs.Homology.CorankLemmas.{degree-past, targets-past}
use Rattle.rectangles.proofs.Homology.GradedStates.{degree_at-state}
use Rattle.grid_moves.proofs.Turned.ComponentLemmas.{components-back}

or_swap : (a b : Bool) → (a || b) ≡ (b || a)
or_swap a b = same 2 (λ a b. a || b) (λ a b. b || a) refl a b

-- The grid with its marks exchanged is a grid.
pub IsGrid-marks_exchanged : (g : Marks) → IsGrid g → IsGrid (marks_exchanged g)
IsGrid-marks_exchanged g s =
    let e : size g ≡ length g.x = sym s.x.long in
    record {
      is_size = let P : ℕ → Type 0 = IsSize in subst P e s.is_size;
      o = let P : ℕ → Type 0 = λ n. IsBijection n g.x in subst P e s.x;
      x = let P : ℕ → Type 0 = λ n. IsBijection n g.o in subst P e s.o;
      apart = λ c l i. s.apart c (omega arith) (sym i);
    }

module _ (g : Marks) (s : IsGrid g) where
  abbrev h : Marks
  h = marks_exchanged g

  pub unmarked_same : is_unmarked (marks_exchanged g) ≡ is_unmarked g
  unmarked_same = fun_ext (λ (r : Rect).
      ap (λ n. all_below n
      (λ c. not (in_range n r.left r.right c
      && (in_range n r.low r.high (slice_index g.x c) || in_range n r.low r.high (slice_index g.o c))))) s.x.long
      ∙ all_below-same (size g) _ _
      (λ c l. ap (λ t. not (in_range (size g) r.left r.right c && t))
      (or_swap (in_range (size g) r.low r.high (slice_index g.x c))
      (in_range (size g) r.low r.high (slice_index g.o c)))))

  -- The border of each state is the same.
  pub border_of_state-marks_exchanged : (x : List ℕ) → border_of_state (marks_exchanged g) x ≡ border_of_state g x
  unfolding border_of_state
  border_of_state-marks_exchanged x =
      λ i. states_where (s.x.long i)
      (λ y. is_odd (length
      (filter (λ (r : Rect). leads r x y && (is_empty x r && unmarked_same i r)) (rectangles (s.x.long i)))))

  -- As many components: the walk goes the other way.
  pub components-marks_exchanged : components (marks_exchanged g) ≡ components g
  components-marks_exchanged =
      components-back g (marks_exchanged g) s (IsGrid-marks_exchanged g s) s.x.long (λ c. c)
      (record { small = λ c l. l; apart = λ b c lb lc p. p })
      (λ c l. row-column_of (size g) (slice_index g.o) (one_to_one (size g) g.o s.o) (slice_index g.x c)
      (s.x.small c l))

  -- The two Maslov degrees change roles.
  pub maslov_o-marks_exchanged : (x : List ℕ) → maslov_o (marks_exchanged g) x ≡ maslov_x g x
  maslov_o-marks_exchanged x = ap (λ n. maslov n g.x x) s.x.long

  pub maslov_x-marks_exchanged : (x : List ℕ) → maslov_x (marks_exchanged g) x ≡ maslov_o g x
  maslov_x-marks_exchanged x = ap (λ n. maslov n g.o x) s.x.long

  -- n - l
  abbrev rest : ℤ
  rest = pos (size g) -ℤ pos (components g)

  -- The Alexander degree becomes - A - (n - l).
  pub alexander-marks_exchanged : (x : List ℕ) → IsBijection (size g) x → alexander (marks_exchanged g) x
      ≡ pos 0 -ℤ alexander g x -ℤ (pos (size g) -ℤ pos (components g))
  alexander-marks_exchanged x sx =
      let P : ℕ → Type 0 = λ n. IsBijection n x in
      let before = two-alexander g s x sx in
      let after = two-alexander (marks_exchanged g) (IsGrid-marks_exchanged g s) x (subst P (sym s.x.long) sx) in
      let o = maslov_o-marks_exchanged x in
      let t = maslov_x-marks_exchanged x in
      let l = s.x.long in
      let c = components-marks_exchanged in
      omega (arith, ints)

-- the degree of a state after the exchange, by its degree before
abbrev pub exchanged_degree : Marks → ℤ × ℤ → ℤ × ℤ
exchanged_degree g d =
    (d.0 -ℤ pos 2 *ℤ d.1 -ℤ (pos (size g) -ℤ pos (components g)), pos 0 -ℤ d.1 -ℤ (pos (size g) -ℤ pos (components g)))

module _ (g : Marks) (s : IsGrid g) where
  -- The degree becomes (M - 2 A - (n - l), - A - (n - l)).
  pub bidegree-marks_exchanged : (x : List ℕ) → IsBijection (size g) x → bidegree (marks_exchanged g) x
      ≡ exchanged_degree g (bidegree g x)
  bidegree-marks_exchanged x sx =
      let before = two-alexander g s x sx in
      let o = maslov_o-marks_exchanged g s x in
      let first : maslov_o (marks_exchanged g) x
      ≡ maslov_o g x -ℤ pos 2 *ℤ alexander g x -ℤ (pos (size g) -ℤ pos (components g)) = omega (arith, ints) in
      λ i. (first i, alexander-marks_exchanged g s x sx i)

  -- twice is nothing
  pub exchanged_degree-back : (d : ℤ × ℤ) → exchanged_degree g (exchanged_degree g d) ≡ d
  exchanged_degree-back d =
      let first : (d.0 -ℤ pos 2 *ℤ d.1 -ℤ rest g s) -ℤ pos 2 *ℤ (pos 0 -ℤ d.1 -ℤ rest g s) -ℤ rest g s
      ≡ d.0 = omega (arith, ints) in
      let second : pos 0 -ℤ (pos 0 -ℤ d.1 -ℤ rest g s) -ℤ rest g s ≡ d.1 = omega (arith, ints) in
      λ i. (first i, second i)

  exchanged_degree-up : (d : ℤ × ℤ) → exchanged_degree g (up_m d) ≡ up_m (exchanged_degree g d)
  exchanged_degree-up d =
      let first : (d.0 +ℤ pos 1) -ℤ pos 2 *ℤ d.1 -ℤ (pos (size g) -ℤ pos (components g))
      ≡ (d.0 -ℤ pos 2 *ℤ d.1 -ℤ (pos (size g) -ℤ pos (components g))) +ℤ pos 1 = omega (arith, ints) in
      λ i. (first i, pos 0 -ℤ d.1 -ℤ (pos (size g) -ℤ pos (components g)))

  same_number : factorial (size (marks_exchanged g)) ≡ factorial (size g)
  same_number = ap factorial s.x.long

  degree_after : (c : ℕ) → c < factorial (size g) → (grid_complex (marks_exchanged g)).degree c
      ≡ Some (exchanged_degree g (bidegree g (unrank (size g) c)))
  degree_after c l =
      degree_at-state (size (marks_exchanged g)) (bidegree (marks_exchanged g)) c (let e = same_number in omega arith)
      ∙ ap (λ n. Some (bidegree (marks_exchanged g) (unrank n c))) s.x.long
      ∙ ap Some (bidegree-marks_exchanged (unrank (size g) c) (IsBijection-unrank (size g) c l))

  targets_after : (c : ℕ) → (grid_complex (marks_exchanged g)).targets c ≡ (grid_complex g).targets c
  targets_after c =
      λ i. cond (nat_lt c (factorial (s.x.long i))) (border_of_state-marks_exchanged g s (unrank (s.x.long i) c) i)
      nothing

  exchanged_IsPartOf : IsPartOf (grid_complex g) (exchanged_degree g) (grid_complex (marks_exchanged g))
  exchanged_IsPartOf = record {
    embed_one = λ m n e. sym (exchanged_degree-back m) ∙ ap (exchanged_degree g) e ∙ exchanged_degree-back n;
    embed_up = exchanged_degree-up;
    embed_down = λ m n e. (exchanged_degree g n, exchanged_degree-back n);
    degrees = λ c m. elim (cases_lt c (factorial (size g))) [
      | inl l ↦ (
        λ e. degree_at-state (size g) (bidegree g) c l
            ∙ ap Some (sym (exchanged_degree-back _)
            ∙ ap (exchanged_degree g) (same_some _ m (sym (degree_after c l) ∙ e))),
        λ e. degree_after c l
            ∙ ap Some (ap (exchanged_degree g)
            (same_some _ (exchanged_degree g m) (sym (degree_at-state (size g) (bidegree g) c l) ∙ e))
            ∙ exchanged_degree-back m),
      )
      | inr l ↦ (
        λ e. absurd (false≢true
            (ap is_some (sym (degree-past (marks_exchanged g) c (let i = same_number in omega arith)) ∙ e))),
        λ e. absurd (false≢true (ap is_some (sym (degree-past g c l) ∙ e))),
      )
    ];
    targets = λ c m e. targets_after c;
    no_targets = λ c none. elim (cases_lt c (factorial (size g))) [
      | inl l ↦ absurd (none _ (degree_after c l))
      | inr l ↦ targets_after c ∙ targets-past g c l
    ];
  }

  -- The rank at (m, a) is the rank at (m - 2 a - (n - l), - a - (n - l)) after the exchange.
  pub rank-marks_exchanged : (m a : ℤ) (d : ℕ)
      → IsHomologyRank (marks_exchanged g) (m -ℤ pos 2 *ℤ a -ℤ (pos (size g) -ℤ pos (components g)))
      (pos 0 -ℤ a -ℤ (pos (size g) -ℤ pos (components g))) d ↔ IsHomologyRank g m a d
  rank-marks_exchanged m a d =
      let P : ℤ × ℤ → Type 0 = λ e. IsRank (grid_complex g) e d in
      let back = exchanged_degree-back (m, a) in (
        λ r. subst P back (rank_of_part (grid_complex g) (exchanged_degree g) (grid_complex (marks_exchanged g))
            exchanged_IsPartOf (exchanged_degree g (m, a)) d r),
        λ r. rank_to_part (grid_complex g) (exchanged_degree g) (grid_complex (marks_exchanged g)) exchanged_IsPartOf
            (exchanged_degree g (m, a)) d (subst P (sym back) r),
      )
