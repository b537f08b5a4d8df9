-- Two columns that commute: their four marks are in four rows, and the rows of the one do not separate
-- those of the other. Here o and x are the rows of column c - 1, and of column c they are p and q.
use Rattle.std.proofs.Common.{Bool, ap, eqb, false, inl, inr, not, refl, slice_index, sym, true, true≢false, ℕ, ◌&&◌, ◌<◌, ◌||◌, ◌∙◌, ◌≡◌, ◌≢◌, ◌⊎◌}
use Rattle.std.proofs.lemmas.Bool.{and_parts, cases_eq, eq-eqb}
use Rattle.f2_algebra.proofs.Chains.Tables.{same}
use Rattle.state_rank.proofs.Pigeonhole.{onto}
use Rattle.torus_geom.proofs.Circles.TurnLemmas.{one_down_below, one_up-one_down, one_up_below, one_down-other}
use Rattle.torus_geom.specs.Range.{one_down, one_up}
use Rattle.torus_geom.specs.Marks.{IsGrid, Marks, size}
use Rattle.torus_geom.specs.Range.{in_range}
use Rattle.rectangles.proofs.Square.CyclicOrder.{between}
use Rattle.grid_moves.specs.Moves.{are_commuting_columns, is_marked_row}
use Rattle.pentagon_map.proofs.ChainMap.CyclicSteps.{between-from, between-one_down, between-thin, one_up-other}
use Rattle.pentagon_map.proofs.ChainMap.ThinColumns.{IsThin, AreBusy}
use Rattle.pentagon_map.proofs.ChainMap.PentagonTests.{AreSides}

abbrev pub are_same : Bool → Bool → Bool
are_same p q = (p && q) || (not p && not q)

-- columns side by side whose marks are in four different rows
pub record HasFourRows (g : Marks) (c : ℕ) : Type 0 where
  pub below : c < size g
  pub o-o : slice_index g.o (one_down (size g) c) ≢ slice_index g.o c
  pub o-x : slice_index g.o (one_down (size g) c) ≢ slice_index g.x c
  pub x-o : slice_index g.x (one_down (size g) c) ≢ slice_index g.o c
  pub x-x : slice_index g.x (one_down (size g) c) ≢ slice_index g.x c

module _ (g : Marks) (c : ℕ) (lc : c < size g) (h : are_commuting_columns g c ≡ true) where
  abbrev b : ℕ
  b = one_down (size g) c

  rows : (not (is_marked_row g b (slice_index g.o c)) && not (is_marked_row g b (slice_index g.x c))) ≡ true
  rows = (and_parts _ _ h).0

  off : (r : ℕ) → not (is_marked_row g b r) ≡ true → (r ≢ slice_index g.o b) × (r ≢ slice_index g.x b)
  off r k = (
    λ e. true≢false (sym k ∙ ap (λ z. not (z || eqb r (slice_index g.x b))) (eq-eqb r (slice_index g.o b) e)),
    λ e. true≢false (sym k ∙ ap (λ z. not (eqb r (slice_index g.o b) || z)) (eq-eqb r (slice_index g.x b) e)
        ∙ same 1 (λ z. not (z || true)) (λ z. false) refl (eqb r (slice_index g.o b))),
  )

  -- columns that commute have four rows
  pub HasFourRows-commuting : HasFourRows g c
  HasFourRows-commuting =
      let u = off (slice_index g.o c) (and_parts _ _ rows).0 in
      let v = off (slice_index g.x c) (and_parts _ _ rows).1 in
      record {
        below = lc;
        o-o = λ e. u.0 (sym e);
        o-x = λ e. v.0 (sym e);
        x-o = λ e. u.1 (sym e);
        x-x = λ e. v.1 (sym e);
      }

  -- the rows of column c - 1 do not separate those of column c
  pub not_separated : are_same (in_range (size g) (slice_index g.o b) (slice_index g.x b) (slice_index g.o c))
      (in_range (size g) (slice_index g.o b) (slice_index g.x b) (slice_index g.x c)) ≡ true
  not_separated = (and_parts _ _ h).1

-- ---- what is asked of the two columns beside the pentagons
module _ (g : Marks) (s : IsGrid g) (c : ℕ) (d : HasFourRows g c) where
  abbrev pub side : ℕ
  side = one_down (size g) c

  pub side_below : side < size g
  side_below = one_down_below (size g) c d.below

  pub AreSides-rows : AreSides (size g) side c
  AreSides-rows = record {
    r-lt = side_below;
    s-lt = d.below;
    apart = one_down-other (size g) c s.is_size.least d.below;
    before = λ a b la lb p. between-one_down (size g) a b c la lb d.below p;
  }

  pub IsThin-rows : IsThin (size g) side c (one_up (size g) c)
  IsThin-rows = record {
    e-lt = one_up_below (size g) c d.below;
    apart = one_up-other (size g) c s.is_size.least d.below;
    after = λ b l p q. between-from (size g) c b d.below l p q;
    right = λ t l p. between-thin (size g) c t d.below l p;
    left = λ t l p. ap (λ z. between side z t) (sym (one_up-one_down (size g) c d.below))
        ∙ between-thin (size g) side t side_below l p;
  }

  pub AreBusy-rows : AreBusy (size g) side c (slice_index g.o) (slice_index g.x)
  AreBusy-rows j l =
      go (onto (size g) (slice_index g.o) s.o.small s.o.apart j l)
      (onto (size g) (slice_index g.x) s.x.small s.x.apart j l)
    where
      go : (a : ℕ) × (a < size g) × (slice_index g.o a ≡ j) → (b : ℕ) × (b < size g) × (slice_index g.x b ≡ j)
          → (e : ℕ) × (e < size g) × (e ≢ side) × (e ≢ c) × ((slice_index g.o e ≡ j) ⊎ (slice_index g.x e ≡ j))
      go p q = elim (cases_eq p.0 side) [
        | inl e ↦ elim (cases_eq q.0 side) [
          | inl f ↦ absurd (s.apart p.0 p.1 (p.2 ∙ sym q.2 ∙ ap (slice_index g.x) (f ∙ sym e)))
          | inr x ↦ elim (cases_eq q.0 c) [
            | inl f ↦ absurd (d.o-x (sym (ap (slice_index g.o) e) ∙ p.2 ∙ sym q.2 ∙ ap (slice_index g.x) f))
            | inr y ↦ (q.0, q.1, x, y, inr q.2)
          ]
        ]
        | inr u ↦ elim (cases_eq p.0 c) [
          | inl e ↦ elim (cases_eq q.0 side) [
            | inl f ↦ absurd (d.x-o (sym (ap (slice_index g.x) f) ∙ q.2 ∙ sym p.2 ∙ ap (slice_index g.o) e))
            | inr x ↦ elim (cases_eq q.0 c) [
              | inl f ↦ absurd (s.apart p.0 p.1 (p.2 ∙ sym q.2 ∙ ap (slice_index g.x) (f ∙ sym e)))
              | inr y ↦ (q.0, q.1, x, y, inr q.2)
            ]
          ]
          | inr v ↦ (p.0, p.1, u, v, inl p.2)
        ]
      ]
