-- Chains of two types that stand for each other have one dimension of cycles modulo boundaries.
-- Route: the values of a basis are a basis, since what a subset of them represents is the value of what the subset
-- represents.
use Rattle.std.proofs.Common.{◌≡◌, ℕ, Bool, true, false, List, [], ◌∷◌, map, sym, ap, ap₂, subst, ◌∙◌}
use Rattle.std.proofs.lemmas.List.{length-map}
use Rattle.std.proofs.lemmas.List.Elements.{All-map, All-weaker, All-head, All-tail}
use Rattle.std.specs.List.{All, items_where_true}
use Rattle.f2_algebra.specs.Dimension.{Sums, total, IsBasis, IsDimension}

-- f carries sums, cycles and boundaries of the one type to those of the other, and b leads back from cycles
pub record Carries {A B : Type 0} (S : Sums A) (T : Sums B) (C X : A → Type 0) (D Y : B → Type 0) (f : A → B)
    (b : B → A) : Type 0 where
  pub nothing : f S.nothing ≡ T.nothing
  pub add : (z w : A) → C z → C w → f (S.add z w) ≡ T.add (f z) (f w)
  pub cycle_nothing : C S.nothing
  pub cycle_add : (z w : A) → C z → C w → C (S.add z w)
  pub cycles : (z : A) → C z → D (f z)
  pub cycles_back : (w : B) → D w → C (b w)
  pub undone : (w : B) → D w → f (b w) ≡ w
  pub boundaries : (z : A) → C z → X z → Y (f z)
  pub boundaries_back : (z : A) → C z → Y (f z) → X z

module _ {A B : Type 0} (S : Sums A) (T : Sums B) (C X : A → Type 0) (D Y : B → Type 0) (f : A → B) (b : B → A)
    (is : Carries S T C X D Y f b) where
  -- the sum of some of a list of cycles is a cycle
  cycle-picked : (ps : List Bool) (hs : List A) → All C hs → C (total S (items_where_true ps hs))
  cycle-picked [] hs all = is.cycle_nothing
  cycle-picked (p ∷ ps) [] all = is.cycle_nothing
  cycle-picked (true ∷ ps) (h ∷ hs) all =
      is.cycle_add h _ (All-head C h hs all) (cycle-picked ps hs (All-tail C h hs all))
  cycle-picked (false ∷ ps) (h ∷ hs) all = cycle-picked ps hs (All-tail C h hs all)

  -- its value is the sum of their values
  total-picked : (ps : List Bool) (hs : List A) → All C hs
      → f (total S (items_where_true ps hs)) ≡ total T (items_where_true ps (map f hs))
  total-picked [] hs all = is.nothing
  total-picked (p ∷ ps) [] all = is.nothing
  total-picked (true ∷ ps) (h ∷ hs) all =
      let rest = All-tail C h hs all in
      is.add h (total S (items_where_true ps hs)) (All-head C h hs all) (cycle-picked ps hs rest)
      ∙ ap (λ u. T.add (f h) u) (total-picked ps hs rest)
  total-picked (false ∷ ps) (h ∷ hs) all = total-picked ps hs (All-tail C h hs all)

  module _ (hs : List A) (basis : IsBasis S C X hs) where
    -- the value of what the subset represents
    value : (w : B) → D w → (ps : List Bool)
        → f (S.add (b w) (total S (items_where_true ps hs))) ≡ T.add w (total T (items_where_true ps (map f hs)))
    value w c ps =
        is.add (b w) (total S (items_where_true ps hs)) (is.cycles_back w c) (cycle-picked ps hs basis.cycles)
        ∙ ap₂ (λ u v. T.add u v) (is.undone w c) (total-picked ps hs basis.cycles)

    cycle-represented : (w : B) → D w → (ps : List Bool) → C (S.add (b w) (total S (items_where_true ps hs)))
    cycle-represented w c ps = is.cycle_add (b w) _ (is.cycles_back w c) (cycle-picked ps hs basis.cycles)

    IsBasis-map : IsBasis T D Y (map f hs)
    IsBasis-map = record {
      cycles = All-map D f hs (All-weaker C (λ z. D (f z)) is.cycles hs basis.cycles);
      one_subset = λ w c.
          let (ps, (l, x), one) = basis.one_subset (b w) (is.cycles_back w c) in (
            ps,
            (l ∙ sym (length-map hs f), subst Y (value w c ps) (is.boundaries _ (cycle-represented w c ps) x)),
            λ qs (n, y). one qs (
              n ∙ length-map hs f,
              is.boundaries_back _ (cycle-represented w c qs) (subst Y (sym (value w c qs)) y),
            ),
          );
    }

  -- the dimension is the same
  pub dimension_carried : (d : ℕ) → IsDimension S C X d → IsDimension T D Y d
  dimension_carried d (hs, basis, l) = (map f hs, IsBasis-map hs basis, length-map hs f ∙ l)
