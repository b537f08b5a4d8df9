-- A turn by half carries steps to steps and keeps degrees: it is transposing, reflecting, transposing
-- and reflecting.
use Rattle.std.proofs.Common.{◌≡◌, ◌↔◌, ℕ, ◌-◌, ◌<◌, List, slice_index, length, ap, ap₂, subst, ◌∙◌, sym, arith}
use Rattle.std.proofs.Math.IntN.{ℤ}
use Rattle.std.proofs.lemmas.Int.{ints}
use Rattle.f2_algebra.specs.Chain.{holds}
use Rattle.state_rank.specs.Bijection.{IsBijection}
use Rattle.state_rank.specs.States.{rank, transpose}
use Rattle.state_rank.proofs.BijectionLemmas.{same_list}
use Rattle.torus_geom.specs.Marks.{Marks, size, IsGrid}
use Rattle.torus_geom.specs.Inner.CodeBorder.{border_of_state}
use Rattle.torus_geom.specs.Components.{components}
use Rattle.torus_geom.specs.Degrees.{maslov, bidegree}
use Rattle.torus_geom.specs.Inner.CodeHomology.{IsHomologyRank}
use Rattle.torus_geom.specs.Transposed.{transposed}
use Rattle.state_rank.proofs.OrderLemmas.{length-tabulate}
use Rattle.torus_geom.proofs.Sums.TabulateLemmas.{slice_index-tabulate}
use Rattle.torus_geom.proofs.TransposeLemmas.{IsBijection-transposed, IsGrid-transposed}
use Rattle.grid_symmetry.specs.Symmetries.{opposite, reflected_rows, reflected, reflected_state, half_turned_rows, half_turned, half_turned_state}
use Rattle.grid_symmetry.proofs.Opposites.{from_right, opposite_below, opposite-opposite}
use Rattle.grid_symmetry.proofs.CarriedRanks.{CarriesSteps, KeepsDegrees, rank-carried}
use Rattle.grid_moves.proofs.Turned.CarriedChains.{AreInverse}
use Rattle.grid_moves.proofs.Exchanged.TransposedGrids.{transpose-at, size-transposed}
use Rattle.pentagon_map.proofs.Degrees.KeptDegrees.{maslov-transposed, components-transposed}
use Rattle.grid_symmetry.proofs.TransposedLaws.{transposed_CarriesSteps, transposed_KeepsDegrees}
use Rattle.grid_symmetry.proofs.Reflecting.{reflected_rows-at, reflected_rows-back, IsBijection-reflected_rows, reflected_state-at, reflected_state-back, IsBijection-reflected_state, size-reflected, IsGrid-reflected, reflected_ReversesSteps}
use Rattle.grid_symmetry.proofs.ReflectedLaws.{maslov-reflected, reflected_degree, reflected_degree-back, components-reflected, reflected_ReflectsDegrees}

-- ---- lists
module _ (n : ℕ) (o : List ℕ) (b : IsBijection n o) where
  turned_rows : IsBijection n (reflected_rows (transpose (reflected_rows (transpose o))))
  turned_rows =
      IsBijection-reflected_rows n _
      (IsBijection-transposed n _ (IsBijection-reflected_rows n _ (IsBijection-transposed n o b)))

  turned_state : IsBijection n (reflected_state (transpose (reflected_state (transpose o))))
  turned_state =
      IsBijection-reflected_state n _
      (IsBijection-transposed n _ (IsBijection-reflected_state n _ (IsBijection-transposed n o b)))

  -- the turned rows at a column
  pub half_turned_rows-at : (c : ℕ) → c < n → slice_index (half_turned_rows o) c
      ≡ from_right n (slice_index o (from_right n c))
  half_turned_rows-at c l =
      let e = b.long in
      slice_index-tabulate (length o) (λ c. length o - 1 - slice_index o (length o - 1 - c)) c (omega arith)
      ∙ ap (λ m. m - 1 - slice_index o (m - 1 - c)) e

  pub half_turned_state-at : (c : ℕ) → c < n → slice_index (half_turned_state o) c
      ≡ opposite n (slice_index o (opposite n c))
  half_turned_state-at c l =
      let e = b.long in
      slice_index-tabulate (length o) (λ c. opposite (length o) (slice_index o (opposite (length o) c))) c (omega arith)
      ∙ ap (λ m. opposite m (slice_index o (opposite m c))) e

  -- rows reflected
  rows_down : (c : ℕ) → c < n → slice_index (transpose (reflected_rows (transpose o))) c
      ≡ from_right n (slice_index o c)
  rows_down c l =
      let bt = IsBijection-transposed n o b in
      let w : List ℕ = reflected_rows (transpose o) in
      let bw = IsBijection-reflected_rows n (transpose o) bt in
      let r : ℕ = slice_index o c in
      let lr = b.small c l in
      ap (slice_index (transpose w)) (sym (reflected_rows-back n (transpose o) bt r lr ∙ transpose-at n o b c l))
      ∙ transpose-at n w bw (from_right n r) (omega arith)

  -- and of a state
  state_down : (c : ℕ) → c < n → slice_index (transpose (reflected_state (transpose o))) c
      ≡ opposite n (slice_index o c)
  state_down c l =
      let bt = IsBijection-transposed n o b in
      let w : List ℕ = reflected_state (transpose o) in
      let bw = IsBijection-reflected_state n (transpose o) bt in
      let r : ℕ = slice_index o c in
      let lr = b.small c l in
      ap (slice_index (transpose w)) (sym (reflected_state-back n (transpose o) bt r lr ∙ transpose-at n o b c l))
      ∙ transpose-at n w bw (opposite n r) (opposite_below n r lr)

  pub half_turned_rows-is : half_turned_rows o ≡ reflected_rows (transpose (reflected_rows (transpose o)))
  half_turned_rows-is =
      let bw = IsBijection-transposed n _ (IsBijection-reflected_rows n _ (IsBijection-transposed n o b)) in
      same_list n (half_turned_rows o) (reflected_rows (transpose (reflected_rows (transpose o))))
      (length-tabulate (length o) _ ∙ b.long) turned_rows.long (λ c l.
      half_turned_rows-at c l
      ∙ sym (reflected_rows-at n (transpose (reflected_rows (transpose o))) bw c l
      ∙ rows_down (from_right n c) (omega arith)))

  pub half_turned_state-is : half_turned_state o ≡ reflected_state (transpose (reflected_state (transpose o)))
  half_turned_state-is =
      let bw = IsBijection-transposed n _ (IsBijection-reflected_state n _ (IsBijection-transposed n o b)) in
      same_list n (half_turned_state o) (reflected_state (transpose (reflected_state (transpose o))))
      (length-tabulate (length o) _ ∙ b.long) turned_state.long (λ c l.
      half_turned_state-at c l
      ∙ sym (reflected_state-at n (transpose (reflected_state (transpose o))) bw c l
      ∙ state_down (opposite n c) (opposite_below n c l)))

  pub IsBijection-half_turned_rows : IsBijection n (half_turned_rows o)
  IsBijection-half_turned_rows =
      let P : List ℕ → Type 0 = IsBijection n in subst P (sym half_turned_rows-is) turned_rows

  pub IsBijection-half_turned_state : IsBijection n (half_turned_state o)
  IsBijection-half_turned_state =
      let P : List ℕ → Type 0 = IsBijection n in subst P (sym half_turned_state-is) turned_state

-- Turned twice is not turned.
pub half_turned_rows-half_turned_rows : (n : ℕ) (o : List ℕ) → IsBijection n o → half_turned_rows (half_turned_rows o)
    ≡ o
half_turned_rows-half_turned_rows n o b =
    let h = IsBijection-half_turned_rows n o b in
    same_list n (half_turned_rows (half_turned_rows o)) o (IsBijection-half_turned_rows n (half_turned_rows o) h).long
    b.long (λ c l.
    let d : from_right n (from_right n c) ≡ c = omega arith in
    half_turned_rows-at n (half_turned_rows o) h c l
    ∙ ap (from_right n) (half_turned_rows-at n o b (from_right n c) (omega arith)
    ∙ ap (λ k. from_right n (slice_index o k)) d)
    ∙ (let k = b.small c l in omega arith))

pub half_turned_state-half_turned_state : (n : ℕ) (x : List ℕ) → IsBijection n x
    → half_turned_state (half_turned_state x) ≡ x
half_turned_state-half_turned_state n x b =
    let h = IsBijection-half_turned_state n x b in
    same_list n (half_turned_state (half_turned_state x)) x
    (IsBijection-half_turned_state n (half_turned_state x) h).long b.long (λ c l.
    half_turned_state-at n (half_turned_state x) h c l
    ∙ ap (opposite n) (half_turned_state-at n x b (opposite n c) (opposite_below n c l)
    ∙ ap (λ k. opposite n (slice_index x k)) (opposite-opposite n c l))
    ∙ opposite-opposite n (slice_index x c) (b.small c l))

pub half_turned_state_AreInverse : (n : ℕ) → AreInverse n half_turned_state half_turned_state
half_turned_state_AreInverse n = record {
  kept = IsBijection-half_turned_state n;
  kept_back = IsBijection-half_turned_state n;
  undone = half_turned_state-half_turned_state n;
  redone = half_turned_state-half_turned_state n;
}

pub size-half_turned : (g : Marks) → size (half_turned g) ≡ size g
size-half_turned g = length-tabulate (length g.o) _

-- The Maslov degree is kept.
pub maslov-half_turned : (n : ℕ) (o x : List ℕ) → 0 < n → IsBijection n o → IsBijection n x
    → maslov n (half_turned_rows o) (half_turned_state x) ≡ maslov n o x
maslov-half_turned n o x l bo bx =
    let o1 = IsBijection-transposed n o bo in
    let x1 = IsBijection-transposed n x bx in
    let o2 = IsBijection-reflected_rows n _ o1 in
    let x2 = IsBijection-reflected_state n _ x1 in
    let o3 = IsBijection-transposed n _ o2 in
    let x3 = IsBijection-transposed n _ x2 in
    let a = maslov-transposed n o x bo bx in
    let b = maslov-reflected n (transpose o) (transpose x) l o1 x1 in
    let c = maslov-transposed n (reflected_rows (transpose o)) (reflected_state (transpose x)) o2 x2 in
    let d = maslov-reflected n (transpose (reflected_rows (transpose o))) (transpose (reflected_state (transpose x))) l
    o3 x3 in
    let e : maslov n (half_turned_rows o) (half_turned_state x)
    ≡ maslov n (reflected_rows (transpose (reflected_rows (transpose o))))
    (reflected_state (transpose (reflected_state (transpose x)))) =
    ap₂ (maslov n) (half_turned_rows-is n o bo) (half_turned_state-is n x bx) in
    omega (arith, ints)

module _ (g : Marks) (s : IsGrid g) where
  abbrev g1 : Marks
  g1 = transposed g

  abbrev g2 : Marks
  g2 = reflected g1

  abbrev g3 : Marks
  g3 = transposed g2

  s1 : IsGrid g1
  s1 = IsGrid-transposed g s

  s2 : IsGrid g2
  s2 = IsGrid-reflected g1 s1

  s3 : IsGrid g3
  s3 = IsGrid-transposed g2 s2

  e1 : size g1 ≡ size g
  e1 = size-transposed g

  e2 : size g2 ≡ size g
  e2 = size-reflected g1 ∙ e1

  e3 : size g3 ≡ size g
  e3 = size-transposed g2 ∙ e2

  pub half_turned-is : half_turned g ≡ reflected g3
  half_turned-is =
      λ i. record { o = half_turned_rows-is (size g) g.o s.o i; x = half_turned_rows-is (size g) g.x s.x i }

  -- The grid turned by half is a grid.
  pub IsGrid-half_turned : IsGrid (half_turned g)
  IsGrid-half_turned = let P : Marks → Type 0 = IsGrid in subst P (sym half_turned-is) (IsGrid-reflected g3 s3)

  -- It has as many components.
  pub components-half_turned : components (half_turned g) ≡ components g
  components-half_turned =
      ap components half_turned-is ∙ components-reflected g3 s3 ∙ components-transposed g2 s2
      ∙ components-reflected g1 s1 ∙ components-transposed g s

  module _ (x : List ℕ) (sx : IsBijection (size g) x) where
    abbrev x1 : List ℕ
    x1 = transpose x

    abbrev x2 : List ℕ
    x2 = reflected_state x1

    abbrev x3 : List ℕ
    x3 = transpose x2

    sx1 : IsBijection (size g1) x1
    sx1 = let P : ℕ → Type 0 = λ n. IsBijection n x1 in subst P (sym e1) (IsBijection-transposed (size g) x sx)

    sx2 : IsBijection (size g2) x2
    sx2 =
        let P : ℕ → Type 0 = λ n. IsBijection n x2 in subst P (sym (size-reflected g1))
        (IsBijection-reflected_state (size g1) x1 sx1)

    sx3 : IsBijection (size g3) x3
    sx3 =
        let P : ℕ → Type 0 = λ n. IsBijection n x3 in subst P (sym (size-transposed g2))
        (IsBijection-transposed (size g2) x2 sx2)

    degree_kept : bidegree (half_turned g) (half_turned_state x) ≡ bidegree g x
    degree_kept =
        ap₂ bidegree half_turned-is (half_turned_state-is (size g) x sx)
        ∙ reflected_ReflectsDegrees g3 s3 x3 sx3
        ∙ ap (reflected_degree g3) (transposed_KeepsDegrees g2 s2 x2 sx2 ∙ reflected_ReflectsDegrees g1 s1 x1 sx1)
        ∙ reflected_degree-back g1 g3 (e3 ∙ sym e1) (components-transposed g2 s2 ∙ components-reflected g1 s1)
        (bidegree g1 x1)
        ∙ transposed_KeepsDegrees g s x sx

  half_turned_steps : (x y : List ℕ) → IsBijection (size g) x → IsBijection (size g) y
      → holds (border_of_state (half_turned g) (half_turned_state x)) (rank (half_turned_state y))
      ≡ holds (border_of_state g x) (rank y)
  half_turned_steps x y sx sy =
      (λ i. holds (border_of_state (half_turned-is i) (half_turned_state-is (size g) x sx i))
      (rank (half_turned_state-is (size g) y sy i)))
      ∙ (reflected_ReversesSteps g3 s3).steps (x3 y sy) (x3 x sx) (sx3 y sy) (sx3 x sx)
      ∙ (transposed_CarriesSteps g2 s2).steps (x2 y sy) (x2 x sx) (sx2 y sy) (sx2 x sx)
      ∙ (reflected_ReversesSteps g1 s1).steps (x1 x sx) (x1 y sy) (sx1 x sx) (sx1 y sy)
      ∙ (transposed_CarriesSteps g s).steps x y sx sy

  -- A turn by half carries the steps of g to those of the turned grid.
  pub half_turned_CarriesSteps : CarriesSteps g (half_turned g) half_turned_state
  half_turned_CarriesSteps =
      record {
        same_size = size-half_turned g;
        inverse = half_turned_state_AreInverse (size g);
        steps = half_turned_steps;
      }

  -- It keeps degrees.
  pub half_turned_KeepsDegrees : KeepsDegrees g (half_turned g) half_turned_state
  half_turned_KeepsDegrees = degree_kept

  -- The grid turned by half has the same ranks.
  pub rank-half_turned : (m a : ℤ) (d : ℕ) → IsHomologyRank (half_turned g) m a d ↔ IsHomologyRank g m a d
  rank-half_turned = rank-carried g (half_turned g) half_turned_state half_turned_CarriesSteps half_turned_KeepsDegrees

-- the same of grids
pub half_turned-half_turned : (g : Marks) → IsGrid g → half_turned (half_turned g) ≡ g
half_turned-half_turned g s =
    λ i. record {
      o = half_turned_rows-half_turned_rows (size g) g.o s.o i;
      x = half_turned_rows-half_turned_rows
          (size g) g.x s.x i;
    }
