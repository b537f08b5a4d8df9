-- The laws of reflecting.
use Rattle.std.proofs.Common.{◌≡◌, ◌↔◌, ℕ, zero, suc, ◌<◌, List, slice_index, refl, ap, subst, ◌∙◌, sym, arith}
use Rattle.std.proofs.Math.IntN.{ℤ, pos, ◌+ℤ◌, ◌-ℤ◌}
use Rattle.std.proofs.lemmas.Int.{ints}
use Rattle.f2_algebra.specs.Complex.{IsRank}
use Rattle.f2_algebra.specs.Bigraded.{up_m}
use Rattle.state_rank.specs.Bijection.{IsBijection, column_of}
use Rattle.state_rank.proofs.BijectionLemmas.{one_to_one, column_of-below, row-column_of}
use Rattle.torus_geom.specs.Marks.{Marks, size, IsGrid}
use Rattle.torus_geom.specs.Components.{components}
use Rattle.torus_geom.specs.Degrees.{maslov, maslov_o, maslov_x, alexander}
use Rattle.torus_geom.specs.Inner.GridComplex.{grid_complex}
use Rattle.torus_geom.specs.Inner.CodeHomology.{IsHomologyRank}
use Rattle.torus_geom.proofs.Pairs.PairLemmas.{maslov-by_pairs}
use Rattle.gradings.proofs.EvennessLemmas.{two-alexander}
use Rattle.grid_symmetry.specs.Symmetries.{reflected_rows, reflected, reflected_state, marks_exchanged}
use Rattle.grid_symmetry.proofs.CarriedRanks.{ReflectsDegrees, rank-reversed}
use Rattle.grid_symmetry.proofs.Opposites.{from_right, from_right_one}
use Rattle.grid_moves.proofs.Turned.ComponentLemmas.{components-back}
use Rattle.grid_symmetry.proofs.MarksExchanged.{IsGrid-marks_exchanged, components-marks_exchanged}
use Rattle.grid_symmetry.proofs.Reflecting.{reflected_rows-at, reflected_rows-back, reflected_state-at, IsBijection-reflected_rows, IsBijection-reflected_state, size-reflected, IsGrid-reflected, reflected-reflected, reflected_ReversesSteps}
use Rattle.grid_symmetry.proofs.ReflectedPairs.{maslov_by_pairs-reflected}

-- The Maslov degree M becomes 1 - n - M.
pub maslov-reflected : (n : ℕ) (o x : List ℕ) → 0 < n → IsBijection n o → IsBijection n x
    → maslov n (reflected_rows o) (reflected_state x) ≡ pos 1 -ℤ pos n -ℤ maslov n o x
maslov-reflected zero o x l bo bx = absurd (omega arith)
maslov-reflected (suc m) o x l bo bx =
    let n : ℕ = suc m in
    let ro = IsBijection-reflected_rows n o bo in
    let rx = IsBijection-reflected_state n x bx in
    maslov-by_pairs n (reflected_rows o) (reflected_state x) ro rx
    ∙ maslov_by_pairs-reflected m (slice_index o) (slice_index x) (slice_index (reflected_rows o))
    (slice_index (reflected_state x))
    (one_to_one n o bo) (one_to_one n x bx) (one_to_one n (reflected_state x) rx) (one_to_one n (reflected_rows o) ro)
    (reflected_rows-at n o bo) (reflected_state-at n x bx)
    ∙ ap (λ z. pos 1 -ℤ pos n -ℤ z) (sym (maslov-by_pairs n o x bo bx))

-- the degree of a reflected state, by the degree before
abbrev pub reflected_degree : Marks → ℤ × ℤ → ℤ × ℤ
reflected_degree g d = (pos 1 -ℤ pos (size g) -ℤ d.0, pos 0 -ℤ (pos (size g) -ℤ pos (components g)) -ℤ d.1)

-- twice is nothing, for two grids with as many columns and components
pub reflected_degree-back : (g h : Marks) → size h ≡ size g → components h ≡ components g → (d : ℤ × ℤ)
    → reflected_degree h (reflected_degree g d) ≡ d
reflected_degree-back g h es ec d =
    let first : pos 1 -ℤ pos (size h) -ℤ (pos 1 -ℤ pos (size g) -ℤ d.0) ≡ d.0 = omega (arith, ints) in
    let second : pos 0 -ℤ (pos (size h) -ℤ pos (components h)) -ℤ (pos 0 -ℤ (pos (size g) -ℤ pos (components g)) -ℤ d.1)
    ≡ d.1 = omega (arith, ints) in
    λ i. (first i, second i)

reflected_degree-up : (g : Marks) (d : ℤ × ℤ) → up_m (reflected_degree g (up_m d)) ≡ reflected_degree g d
reflected_degree-up g d =
    let first : (pos 1 -ℤ pos (size g) -ℤ (d.0 +ℤ pos 1)) +ℤ pos 1
    ≡ pos 1 -ℤ pos (size g) -ℤ d.0 = omega (arith, ints) in
    λ i. (first i, pos 0 -ℤ (pos (size g) -ℤ pos (components g)) -ℤ d.1)

module _ (g : Marks) (s : IsGrid g) where
  -- As many components. With the marks exchanged the walk goes the other way, and the reflected walk goes back.
  pub components-reflected : components (reflected g) ≡ components g
  components-reflected =
      let h : Marks = marks_exchanged g in
      let sh = IsGrid-marks_exchanged g s in
      let n : ℕ = size h in
      let one = one_to_one n g.x sh.o in
      components-back h (reflected g) sh (IsGrid-reflected g s) (size-reflected g ∙ sym s.x.long) (from_right n)
      (from_right_one n) (λ c l.
      let r : ℕ = slice_index g.o c in
      let lr = sh.x.small c l in
      let d : ℕ = column_of n (slice_index g.x) r in
      reflected_rows-back n g.x sh.o d (column_of-below n (slice_index g.x) one r lr)
      ∙ row-column_of n (slice_index g.x) one r lr
      ∙ sym (reflected_rows-back n g.o sh.x c l))
      ∙ components-marks_exchanged g s

  positive : 0 < size g
  positive = let l = s.is_size.least in omega arith

  -- The Maslov degree by the O, and by the X, becomes 1 - n - M.
  pub maslov_o-reflected : (x : List ℕ) → IsBijection (size g) x → maslov_o (reflected g) (reflected_state x)
      ≡ pos 1 -ℤ pos (size g) -ℤ maslov_o g x
  maslov_o-reflected x sx =
      ap (λ n. maslov n (reflected_rows g.o) (reflected_state x)) (size-reflected g)
      ∙ maslov-reflected (size g) g.o x positive s.o sx

  pub maslov_x-reflected : (x : List ℕ) → IsBijection (size g) x → maslov_x (reflected g) (reflected_state x)
      ≡ pos 1 -ℤ pos (size g) -ℤ maslov_x g x
  maslov_x-reflected x sx =
      ap (λ n. maslov n (reflected_rows g.x) (reflected_state x)) (size-reflected g)
      ∙ maslov-reflected (size g) g.x x positive s.x sx

  -- The Alexander degree A becomes - (n - l) - A.
  pub alexander-reflected : (x : List ℕ) → IsBijection (size g) x → alexander (reflected g) (reflected_state x)
      ≡ pos 0 -ℤ (pos (size g) -ℤ pos (components g)) -ℤ alexander g x
  alexander-reflected x sx =
      let P : ℕ → Type 0 = λ n. IsBijection n (reflected_state x) in
      let before = two-alexander g s x sx in
      let after = two-alexander (reflected g) (IsGrid-reflected g s) (reflected_state x)
      (subst P (sym (size-reflected g)) (IsBijection-reflected_state (size g) x sx)) in
      let o = maslov_o-reflected x sx in
      let t = maslov_x-reflected x sx in
      let l = size-reflected g in
      let c = components-reflected in
      omega (arith, ints)

  -- Reflecting reflects degrees.
  pub reflected_ReflectsDegrees : ReflectsDegrees g (reflected g) (reflected_degree g) reflected_state
  reflected_ReflectsDegrees x sx = λ i. (maslov_o-reflected x sx i, alexander-reflected x sx i)

  dual_rank : (e : ℤ × ℤ) (d : ℕ) → IsRank (grid_complex g) e d
      → IsRank (grid_complex (reflected g)) (reflected_degree g e) d
  dual_rank =
      rank-reversed g (reflected g) reflected_state (reflected_degree g) s (IsGrid-reflected g s)
      (reflected_degree-back g g refl refl) (reflected_degree-up g) (reflected_ReversesSteps g s)
      reflected_ReflectsDegrees

-- The rank at (m, a) is the rank of the reflected grid at (1 - n - m, - (n - l) - a).
pub rank-reflected : (g : Marks) → IsGrid g → (m a : ℤ) (d : ℕ)
    → IsHomologyRank (reflected g) (pos 1 -ℤ pos (size g) -ℤ m) (pos 0 -ℤ (pos (size g) -ℤ pos (components g)) -ℤ a) d
    ↔ IsHomologyRank g m a d
rank-reflected g s m a d = (
  λ r.
      let P : Marks × (ℤ × ℤ) → Type 0 = λ p. IsRank (grid_complex p.0) p.1 d in
      let twice = reflected-reflected g s in
      let back = reflected_degree-back g (reflected g) (size-reflected g) (components-reflected g s) (m, a) in
      subst P (λ i. (twice i, back i)) (dual_rank (reflected g) (IsGrid-reflected g s) (reflected_degree g (m, a)) d r),
  dual_rank g s (m, a) d,
)
