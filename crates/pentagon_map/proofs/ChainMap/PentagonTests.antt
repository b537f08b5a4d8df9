-- What is asked of a pentagon, and of a corner set, of columns r and s that are exchanged.
use Rattle.std.proofs.Common.{Bool, ap, eqb, false, inl, inr, not, refl, sym, true, ℕ, ◌&&◌, ◌<◌, ◌||◌, ◌∙◌, ◌≡◌, ◌≢◌, ◌⊎◌}
use Rattle.std.proofs.lemmas.Bool.{cases_eq, eq-eqb, ne_eqb}
use Rattle.f2_algebra.proofs.Chains.Tables.{same}
use Rattle.torus_geom.specs.Counts.{all_below}
use Rattle.rectangles.proofs.Square.ColumnTests.{all_below-split}
use Rattle.rectangles.proofs.Square.CyclicOrder.{between}
use Rattle.rectangles.proofs.Square.EmptyRectangles.{free, is_clear_of}
use Rattle.rectangles.proofs.Square.Exchanges.{with_exchanged, with_exchanged-first, with_exchanged-other, with_exchanged-second}
use Rattle.rectangles.proofs.Square.OpenRectangles.{marks, unmarked}
use Rattle.rectangles.proofs.Square.ThreeColumns.{IsAdditive}
use Rattle.rectangles.proofs.Square.TwoSteps.{differ}
use Rattle.pentagon_map.proofs.ChainMap.RowArcs.{above_of}
use Rattle.torus_geom.proofs.Sums.AllBelowLemmas.{all_below-same}

-- what is left out: the columns r and s
abbrev pub two : ℕ → ℕ → ℕ → Bool
two r s t = eqb t r || eqb t s

-- a set of rows has none of the rows marked in column c
abbrev pub lacks : (ℕ → ℕ) → (ℕ → ℕ) → ℕ → (ℕ → Bool) → Bool
lacks O X c Q = not (marks O X Q c)

pub lacks_add : (O X : ℕ → ℕ) (c : ℕ) → IsAdditive (lacks O X c)
lacks_add O X c Q Q' =
    same 4 (λ a b c d. not ((a || b) || (c || d))) (λ a b c d. not (a || c) && not (b || d)) refl (Q (O c)) (Q' (O c))
    (Q (X c)) (Q' (X c))

-- columns r and s, side by side, whose exchange moves the circle s between them
pub record AreSides (n r s : ℕ) : Type 0 where
  pub r-lt : r < n
  pub s-lt : s < n
  pub apart : r ≢ s
  -- column r is the one before column s
  pub before : (a b : ℕ) → a < n → b < n → a ≢ b → between a b r ≡ ((between a b s && differ s a) || eqb b s)

module _ (n r s w : ℕ) (O X : ℕ → ℕ) where
  -- the exchanged grid
  abbrev pub O' : ℕ → ℕ
  O' = with_exchanged O r s

  abbrev pub X' : ℕ → ℕ
  X' = with_exchanged X r s

  -- what is asked of a pentagon beside emptiness
  abbrev pub penta : ℕ → ℕ → ℕ → ℕ → Bool
  penta a b j k =
      (eqb a s || eqb b s)
      && (between j k w
      && (free n (two r s) (between a b) (marks O X (between j k))
      && (lacks O X s (between j w) && lacks O X r (above_of w k))))

  -- there is a pentagon from f with its corners at a and b
  abbrev pub is_open_pentagon : (ℕ → ℕ) → ℕ → ℕ → Bool
  is_open_pentagon f a b = differ a b && (is_clear_of n f a b (f a) (f b) && penta a b (f a) (f b))

  -- what is asked of a corner set, by the columns r, s and the others: r holds A rows, s holds B rows
  abbrev pub sides : Bool → Bool → ℕ → ℕ → ℕ → ℕ → Bool
  sides A B a b j k = not (between a b s && not B)
      && (not (between a b r && not A) && free n (two r s) (between a b) (marks O X (between j k)))

  pub unmarked_is : AreSides n r s → (a b j k : ℕ)
      → unmarked n O X a b j k ≡ sides (lacks O X r (between j k)) (lacks O X s (between j k)) a b j k
  unmarked_is e a b j k =
      let p : ℕ → Bool = λ t. false || not (between a b t && marks O X (between j k) t) in
      all_below-split n s p e.s-lt
      ∙ ap (λ z. p s && z) (all_below-split n r (λ t. eqb t s || p t) e.r-lt
      ∙ ap (λ z. (z || p r) && all_below n (λ t. eqb t r || (eqb t s || p t))) (ne_eqb r s e.apart)
      ∙ ap (λ z. p r && z) (all_below-same n (λ t. eqb t r || (eqb t s || p t)) (λ t. two r s t || p t)
      (λ t l. same 3 (λ x y z. x || (y || z)) (λ x y z. (x || y) || z) refl (eqb t r) (eqb t s) (p t))))
      ∙ same 5 (λ x a y b z. not (x && a) && (not (y && b) && z))
      (λ x a y b z. not (x && not (not a)) && (not (y && not (not b)) && z)) refl
      (between a b s) (marks O X (between j k) s) (between a b r) (marks O X (between j k) r)
      (free n (two r s) (between a b) (marks O X (between j k)))

  pub exchanged_is : AreSides n r s → (a b j k : ℕ)
      → unmarked n O' X' a b j k ≡ sides (lacks O X s (between j k)) (lacks O X r (between j k)) a b j k
  exchanged_is e a b j k =
      let Q : ℕ → Bool = between j k in
      let p : ℕ → Bool = λ t. false || not (between a b t && marks O' X' Q t) in
      let p0 : ℕ → Bool = λ t. not (between a b t && marks O X Q t) in
      all_below-split n s p e.s-lt
      ∙ ap (λ z. p s && z) (all_below-split n r (λ t. eqb t s || p t) e.r-lt
      ∙ ap (λ z. (z || p r) && all_below n (λ t. eqb t r || (eqb t s || p t))) (ne_eqb r s e.apart)
      ∙ ap (λ z. p r && z) (all_below-same n (λ t. eqb t r || (eqb t s || p t)) (λ t. two r s t || p0 t)
      (λ t l. each t (cases_eq t r) (cases_eq t s))))
      ∙ (λ i. not (between a b s && (Q (with_exchanged-second O r s e.apart i)
      || Q (with_exchanged-second X r s e.apart i)))
      && (not (between a b r && (Q (with_exchanged-first O r s i) || Q (with_exchanged-first X r s i)))
      && free n (two r s) (between a b) (marks O X Q)))
      ∙ same 5 (λ x a y b z. not (x && a) && (not (y && b) && z))
      (λ x a y b z. not (x && not (not a)) && (not (y && not (not b)) && z)) refl
      (between a b s) (marks O X Q r) (between a b r) (marks O X Q s) (free n (two r s) (between a b) (marks O X Q))
    where
      each : (t : ℕ) → (t ≡ r) ⊎ (t ≢ r) → (t ≡ s) ⊎ (t ≢ s)
          → (eqb t r || (eqb t s || (false || not (between a b t && marks O' X' (between j k) t))))
          ≡ (two r s t || not (between a b t && marks O X (between j k) t))
      each t (inl i) y =
          ap (λ z. z || (eqb t s || (false || not (between a b t && marks O' X' (between j k) t)))) (eq-eqb t r i)
          ∙ ap (λ z. (z || eqb t s) || not (between a b t && marks O X (between j k) t)) (sym (eq-eqb t r i))
      each t (inr p) (inl i) =
          ap (λ z. eqb t r || (z || (false || not (between a b t && marks O' X' (between j k) t)))) (eq-eqb t s i)
          ∙ same 2 (λ x y. x || true) (λ x y. (x || true) || y) refl (eqb t r)
          (not (between a b t && marks O X (between j k) t))
          ∙ ap (λ z. (eqb t r || z) || not (between a b t && marks O X (between j k) t)) (sym (eq-eqb t s i))
      each t (inr p) (inr q) =
          (λ i. eqb t r
          || (eqb t s
          || not (between a b t
          && (between j k (with_exchanged-other O r s t p q i) || between j k (with_exchanged-other X r s t p q i)))))
          ∙ same 3 (λ x y z. x || (y || z)) (λ x y z. (x || y) || z) refl (eqb t r) (eqb t s)
          (not (between a b t && marks O X (between j k) t))
