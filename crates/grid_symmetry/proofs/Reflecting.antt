-- Reflecting a grid: twice is nothing, and it turns steps round.
-- Route: the rectangle that leads from x to y, with circles a and b, becomes one with circles - b and - a
-- that leads from the reflected y to the reflected x. The points of y strictly inside are those of x.
use Rattle.std.proofs.Common.{◌≡◌, ◌≢◌, ℕ, ◌-◌, ◌<◌, Bool, true, false, not, ◌&&◌, ◌||◌, List, length, slice_index, swap, refl, ap, ap₂, subst, ◌∙◌, sym, eqb, arith, inl, inr}
use Rattle.std.proofs.lemmas.Bool.{cases_eq, eqb-true}
use Rattle.std.proofs.lemmas.List.Edits.{length-swap}
use Rattle.f2_algebra.specs.Chain.{holds}
use Rattle.f2_algebra.proofs.Chains.Tables.{and-false}
use Rattle.f2_algebra.proofs.Chains.ParityLemmas.{below, parity_below, parity_below-same, parity_swap}
use Rattle.state_rank.specs.Bijection.{IsSize, IsBijection}
use Rattle.state_rank.specs.States.{rank}
use Rattle.state_rank.proofs.BijectionLemmas.{same_list}
use Rattle.state_rank.proofs.RankLemmas.{rank_one_to_one}
use Rattle.state_rank.proofs.SwapLemmas.{exchanged, exchanged_below, swap-swap, slice_index-swap, slice_index-swap_first, slice_index-swap_second, slice_index-swap_other, IsBijection-swap}
use Rattle.torus_geom.specs.Marks.{Marks, size, IsGrid}
use Rattle.torus_geom.specs.Inner.CodeBorder.{border_of_state}
use Rattle.state_rank.proofs.OrderLemmas.{length-tabulate}
use Rattle.torus_geom.proofs.Sums.TabulateLemmas.{slice_index-tabulate}
use Rattle.rectangles.proofs.Square.TwoSteps.{differ}
use Rattle.torus_geom.proofs.Circles.BetweenLemmas.{between}
use Rattle.torus_geom.proofs.Sums.AllBelowLemmas.{all_below-same}
use Rattle.torus_geom.proofs.Circles.BetweenLemmas.{is_between}
use Rattle.rectangles.proofs.Square.EmptyRectangles.{is_between-start, is_between-end, is_clear_of}
use Rattle.rectangles.proofs.Square.OpenRectangles.{is_open, unmarked, marks}
use Rattle.grid_symmetry.specs.Symmetries.{opposite, reflected_rows, reflected, reflected_state}
use Rattle.grid_moves.proofs.Turned.CarriedChains.{eqb_alike, AreInverse}
use Rattle.grid_moves.proofs.Turned.Reindexing.{all_below_reindex, parity_below_reindex_both}
use Rattle.grid_symmetry.proofs.CarriedRanks.{ReversesSteps}
use Rattle.pentagon_map.proofs.Rows.Transposing.{leads_to, held_by}
use Rattle.grid_symmetry.proofs.Opposites.{from_right, from_right_one, from_right-from_right, opposite_below, opposite_one, opposite-opposite, between-from_right, is_between-opposite}
use Rattle.grid_moves.proofs.Turned.Shifts.{exchanged-row}
use Rattle.pentagon_map.proofs.Targets.OddSums.{swap_comm}

-- ---- lists
module _ (n : ℕ) (o : List ℕ) (b : IsBijection n o) where
  pub reflected_rows-at : (c : ℕ) → c < n → slice_index (reflected_rows o) c ≡ slice_index o (from_right n c)
  reflected_rows-at c l =
      let e = b.long in
      slice_index-tabulate (length o) (λ c. slice_index o (length o - 1 - c)) c (omega arith)
      ∙ ap (λ m. slice_index o (m - 1 - c)) e

  pub reflected_rows-back : (c : ℕ) → c < n → slice_index (reflected_rows o) (from_right n c) ≡ slice_index o c
  reflected_rows-back c l =
      reflected_rows-at (from_right n c) (omega arith) ∙ ap (slice_index o) (from_right-from_right n c l)

  pub IsBijection-reflected_rows : IsBijection n (reflected_rows o)
  IsBijection-reflected_rows = record {
    long = length-tabulate (length o) (λ c. slice_index o (length o - 1 - c)) ∙ b.long;
    small = λ c l. let e = reflected_rows-at c l in let k = b.small (from_right n c) (omega arith) in omega arith;
    apart =
        λ c d lc ld p e. b.apart (from_right n c) (from_right n d) (omega arith) (omega arith)
        ((from_right_one n).apart c d lc ld p)
        (sym (reflected_rows-at c lc) ∙ e ∙ reflected_rows-at d ld);
  }

  pub reflected_state-at : (c : ℕ) → c < n → slice_index (reflected_state o) c ≡ slice_index o (opposite n c)
  reflected_state-at c l =
      let e = b.long in
      slice_index-tabulate (length o) (λ c. slice_index o (opposite (length o) c)) c (omega arith)
      ∙ ap (λ m. slice_index o (opposite m c)) e

  pub reflected_state-back : (c : ℕ) → c < n → slice_index (reflected_state o) (opposite n c) ≡ slice_index o c
  reflected_state-back c l =
      reflected_state-at (opposite n c) (opposite_below n c l) ∙ ap (slice_index o) (opposite-opposite n c l)

  pub IsBijection-reflected_state : IsBijection n (reflected_state o)
  IsBijection-reflected_state = record {
    long = length-tabulate (length o) (λ c. slice_index o (opposite (length o) c)) ∙ b.long;
    small =
        λ c l. let e = reflected_state-at c l in let k = b.small (opposite n c) (opposite_below n c l) in omega arith;
    apart =
        λ c d lc ld p e. b.apart (opposite n c) (opposite n d) (opposite_below n c lc) (opposite_below n d ld)
        ((opposite_one n).apart c d lc ld p)
        (sym (reflected_state-at c lc) ∙ e ∙ reflected_state-at d ld);
  }

-- Reflecting twice is nothing.
pub reflected_rows-reflected_rows : (n : ℕ) (o : List ℕ) → IsBijection n o → reflected_rows (reflected_rows o) ≡ o
reflected_rows-reflected_rows n o b =
    let r = IsBijection-reflected_rows n o b in
    same_list n (reflected_rows (reflected_rows o)) o (IsBijection-reflected_rows n (reflected_rows o) r).long b.long
    (λ c l.
    reflected_rows-at n (reflected_rows o) r c l ∙ reflected_rows-back n o b c l)

pub reflected_state-reflected_state : (n : ℕ) (x : List ℕ) → IsBijection n x → reflected_state (reflected_state x) ≡ x
reflected_state-reflected_state n x b =
    let r = IsBijection-reflected_state n x b in
    same_list n (reflected_state (reflected_state x)) x (IsBijection-reflected_state n (reflected_state x) r).long
    b.long (λ c l.
    reflected_state-at n (reflected_state x) r c l ∙ reflected_state-back n x b c l)

pub reflected_state_AreInverse : (n : ℕ) → AreInverse n reflected_state reflected_state
reflected_state_AreInverse n = record {
  kept = IsBijection-reflected_state n;
  kept_back = IsBijection-reflected_state n;
  undone = reflected_state-reflected_state n;
  redone = reflected_state-reflected_state n;
}

-- the same of grids
pub reflected-reflected : (g : Marks) → IsGrid g → reflected (reflected g) ≡ g
reflected-reflected g s =
    λ i. record {
      o = reflected_rows-reflected_rows (size g) g.o s.o i;
      x = reflected_rows-reflected_rows (size g) g.x
          s.x i;
    }

pub size-reflected : (g : Marks) → size (reflected g) ≡ size g
size-reflected g = length-tabulate (length g.o) (λ c. slice_index g.o (length g.o - 1 - c))

-- The reflected grid is a grid.
pub IsGrid-reflected : (g : Marks) → IsGrid g → IsGrid (reflected g)
IsGrid-reflected g s = record {
  is_size = let P : ℕ → Type 0 = IsSize in subst P (sym e) s.is_size;
  o =
      let P : ℕ → Type 0 = λ n. IsBijection n (reflected_rows g.o) in subst P (sym e)
      (IsBijection-reflected_rows (size g) g.o s.o);
  x =
      let P : ℕ → Type 0 = λ n. IsBijection n (reflected_rows g.x) in subst P (sym e)
      (IsBijection-reflected_rows (size g) g.x s.x);
  apart = λ c l i.
      let k = e in
      let lc : c < size g = omega arith in
      s.apart (from_right (size g) c) (omega arith)
      (sym (reflected_rows-at (size g) g.o s.o c lc) ∙ i ∙ reflected_rows-at (size g) g.x s.x c lc);
}
  where
    e : size (reflected g) ≡ size g
    e = size-reflected g

-- ---- exchanges
-- the exchange of two circles becomes that of the opposite ones
pub reflected_state-swap : (n : ℕ) (x : List ℕ) → IsBijection n x → (a b : ℕ) → a < n → b < n
    → swap (reflected_state x) (opposite n a) (opposite n b) ≡ reflected_state (swap x a b)
reflected_state-swap n x sx a b la lb =
    let u = reflected_state x in
    let su = IsBijection-reflected_state n x sx in
    let y = swap x a b in
    let sy = IsBijection-swap n x a b la lb sx in
    same_list n (swap u (opposite n a) (opposite n b)) (reflected_state y)
    (length-swap u (opposite n a) (opposite n b) ∙ su.long) (IsBijection-reflected_state n y sy).long (λ r lr.
    let c = opposite n r in
    let lc = opposite_below n r lr in
    let la' = opposite_below n a la in
    let lb' = opposite_below n b lb in
    let lu = su.long in
    let lx = sx.long in
    let d = exchanged a b c in
    let ld = exchanged_below n a b c la lb lc in
    slice_index-swap u (opposite n a) (opposite n b) r (omega arith) (omega arith)
    ∙ ap (λ t. slice_index u (exchanged (opposite n a) (opposite n b) t)) (sym (opposite-opposite n r lr))
    ∙ ap (slice_index u) (exchanged-row n (opposite n) (opposite_one n) a b c la lb lc)
    ∙ reflected_state-back n x sx d ld
    ∙ sym (slice_index-swap x a b c (omega arith) (omega arith))
    ∙ sym (reflected_state-at n y sy r lr))

-- ---- open rectangles
-- f is a state, h the one that the exchange of a and b leads to, u the reflected h
module _ (n : ℕ) (O X f O' X' u h : ℕ → ℕ) (a b : ℕ) (la : a < n) (lb : b < n)
    (back_o : (c : ℕ) → c < n → O' (from_right n c) ≡ O c) (back_x : (c : ℕ) → c < n → X' (from_right n c) ≡ X c)
    (back_h : (c : ℕ) → c < n → u (opposite n c) ≡ h c)
    (at_a : h a ≡ f b) (at_b : h b ≡ f a) (off : (c : ℕ) → c < n → c ≢ a → c ≢ b → h c ≡ f c) where
  clear_reflected : (j k : ℕ) → is_clear_of n u (opposite n b) (opposite n a) j k ≡ is_clear_of n f a b j k
  clear_reflected j k =
      sym (all_below_reindex n (opposite n) (opposite_one n)
      (λ t. not (is_between (opposite n b) (opposite n a) t && is_between j k (u t))))
      ∙ all_below-same n (λ c. not
      (is_between (opposite n b) (opposite n a) (opposite n c) && is_between j k (u (opposite n c))))
      (λ c. not (is_between a b c && is_between j k (f c))) (λ c l.
      ap₂ (λ p q. not (p && is_between j k q)) (is_between-opposite n a b c la lb l) (back_h c l)
      ∙ elim (cases_eq c a) [
        | inl e ↦
            ap (λ t. not (t && is_between j k (h c))) (ap (is_between a b) e ∙ is_between-start a b)
            ∙ sym (ap (λ t. not (t && is_between j k (f c))) (ap (is_between a b) e ∙ is_between-start a b))
        | inr p ↦ elim (cases_eq c b) [
          | inl e ↦
              ap (λ t. not (t && is_between j k (h c))) (ap (is_between a b) e ∙ is_between-end a b)
              ∙ sym (ap (λ t. not (t && is_between j k (f c))) (ap (is_between a b) e ∙ is_between-end a b))
          | inr q ↦ ap (λ t. not (is_between a b c && is_between j k t)) (off c l p q)
        ]
      ])

  unmarked_reflected : (j k : ℕ) → unmarked n O' X' (opposite n b) (opposite n a) j k ≡ unmarked n O X a b j k
  unmarked_reflected j k =
      sym (all_below_reindex n (from_right n) (from_right_one n)
      (λ t. false || not (between (opposite n b) (opposite n a) t && marks O' X' (between j k) t)))
      ∙ all_below-same n (λ c. false || not
      (between (opposite n b) (opposite n a) (from_right n c) && marks O' X' (between j k) (from_right n c)))
      (λ c. false || not (between a b c && marks O X (between j k) c)) (λ c l.
      λ i. not (between-from_right n a b c la lb l i && (between j k (back_o c l i) || between j k (back_x c l i))))

  -- the rectangle of circles a and b of f is open if the reflected one is, of u
  pub open_reflected : is_open n O' X' u (opposite n b) (opposite n a) ≡ is_open n O X f a b
  open_reflected =
      ap₂ (λ s t. differ (opposite n b) (opposite n a)
      && (is_clear_of n u (opposite n b) (opposite n a) s t && unmarked n O' X' (opposite n b) (opposite n a) s t))
      (back_h b lb ∙ at_b) (back_h a la ∙ at_a)
      ∙ ap₂ (λ p q. p && q)
      (ap not (eqb_alike (opposite n b) (opposite n a) a b
      (λ e. sym (opposite-opposite n a la) ∙ ap (opposite n) (sym e) ∙ opposite-opposite n b lb)
      (λ e. ap (opposite n) (sym e))))
      (ap₂ (λ p q. p && q) (clear_reflected (f a) (f b)) (unmarked_reflected (f a) (f b)))

-- ---- steps
-- two tests that agree if a third holds
guarded : (b c t : Bool) → (t ≡ true → b ≡ c) → (b && t) ≡ (c && t)
guarded b c true h = ap (λ d. d && true) (h refl)
guarded b c false h = and-false b ∙ sym (and-false c)

module _ (g : Marks) (s : IsGrid g) where
  abbrev n : ℕ
  n = size g

  module _ (x y : List ℕ) (sx : IsBijection (size g) x) (sy : IsBijection (size g) y) (a b : ℕ) (la : a < size g)
      (lb : b < size g) where
    -- y is the state that x leads to if the reflected x is the one that the reflected y leads to
    same_end : eqb (rank (reflected_state x)) (rank (swap (reflected_state y) (opposite n b) (opposite n a)))
        ≡ eqb (rank y) (rank (swap x a b))
    same_end =
        let sz = IsBijection-swap n x a b la lb sx in
        let sw = IsBijection-swap n y a b la lb sy in
        let turned : swap (reflected_state y) (opposite n b) (opposite n a)
        ≡ reflected_state (swap y a b) = reflected_state-swap n y sy b a lb la
        ∙ ap reflected_state (swap_comm n y sy b a lb la) in
        ap (λ w. eqb (rank (reflected_state x)) (rank w)) turned
        ∙ eqb_alike (rank (reflected_state x)) (rank (reflected_state (swap y a b))) (rank y) (rank (swap x a b))
        (λ e. ap rank (
        let i : x ≡ swap y a b =
        sym (reflected_state-reflected_state n x sx)
        ∙ ap reflected_state
        (rank_one_to_one n (reflected_state x) (reflected_state (swap y a b)) (IsBijection-reflected_state n x sx)
        (IsBijection-reflected_state n (swap y a b) sw) e)
        ∙ reflected_state-reflected_state n (swap y a b) sw in
        sym (swap-swap n y sy a b la lb) ∙ ap (λ w. swap w a b) (sym i)))
        (λ e. ap (λ w. rank (reflected_state w)) (
        let i : y ≡ swap x a b = rank_one_to_one n y (swap x a b) sy sz e in
        sym (swap-swap n x sx a b la lb) ∙ ap (λ w. swap w a b) (sym i)))

    reflected_step : leads_to n (reflected g) (reflected_state y) (rank (reflected_state x)) (opposite n b)
        (opposite n a) ≡ leads_to n g x (rank y) a b
    reflected_step =
        ap (λ t. is_open n (slice_index (reflected_rows g.o)) (slice_index (reflected_rows g.x))
        (slice_index (reflected_state y)) (opposite n b) (opposite n a) && t) same_end
        ∙ guarded _ _ (eqb (rank y) (rank (swap x a b))) (λ t.
        let lx = sx.long in
        let i : y ≡ swap x a b = rank_one_to_one n y (swap x a b) sy (IsBijection-swap n x a b la lb sx)
        (eqb-true (rank y) (rank (swap x a b)) t) in
        open_reflected n (slice_index g.o) (slice_index g.x) (slice_index x) (slice_index (reflected_rows g.o))
        (slice_index (reflected_rows g.x)) (slice_index (reflected_state y)) (slice_index y) a b la lb
        (reflected_rows-back n g.o s.o) (reflected_rows-back n g.x s.x) (reflected_state-back n y sy)
        (ap (λ w. slice_index w a) i ∙ slice_index-swap_first x a b (omega arith) (omega arith))
        (ap (λ w. slice_index w b) i ∙ slice_index-swap_second x a b (omega arith) (omega arith))
        (λ c l p q. ap (λ w. slice_index w c) i ∙ slice_index-swap_other x a b c (omega arith) (omega arith) p q))

  reflected_steps : (x y : List ℕ) → IsBijection (size g) x → IsBijection (size g) y
      → holds (border_of_state (reflected g) (reflected_state y)) (rank (reflected_state x))
      ≡ holds (border_of_state g x) (rank y)
  reflected_steps x y sx sy =
      let v = reflected_state y in
      held_by n (reflected g) (size-reflected g) (IsGrid-reflected g s) v (IsBijection-reflected_state n y sy)
      (rank (reflected_state x))
      ∙ sym (parity_below_reindex_both n (opposite n) (opposite_one n)
      (leads_to n (reflected g) v (rank (reflected_state x))))
      ∙ parity_swap (λ p q. leads_to n (reflected g) v (rank (reflected_state x)) (opposite n p) (opposite n q))
      (below n) (below n)
      ∙ parity_below-same n _ (λ a. parity_below n (leads_to n g x (rank y) a)) (λ a la.
      parity_below-same n _ (leads_to n g x (rank y) a) (λ b lb. reflected_step x y sx sy a b la lb))
      ∙ sym (held_by n g refl s x sx (rank y))

  -- Reflecting turns the steps of g round.
  pub reflected_ReversesSteps : ReversesSteps g (reflected g) reflected_state
  reflected_ReversesSteps =
      record { same_size = size-reflected g; inverse = reflected_state_AreInverse n; steps = reflected_steps }
