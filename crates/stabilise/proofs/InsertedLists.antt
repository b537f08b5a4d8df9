-- Lists of rows with a column and a row put in, and taken out.
use Rattle.std.proofs.Common.{◌≡◌, ◌≢◌, ◌⊎◌, ℕ, suc, ◌+◌, ◌<◌, List, length, slice_index, refl, ap, ap₂, ◌∙◌, sym, eqb, arith, inl, inr, cond}
use Rattle.std.proofs.lemmas.Bool.{cases_eq, eq-eqb, ne_eqb}
use Rattle.state_rank.specs.Bijection.{IsBijection}
use Rattle.state_rank.proofs.OrderLemmas.{length-tabulate}
use Rattle.state_rank.proofs.BijectionLemmas.{one_to_one}
use Rattle.state_rank.proofs.SwapLemmas.{exchanged, exchanged-first, exchanged-second, exchanged-other}
use Rattle.torus_geom.proofs.Sums.TabulateLemmas.{slice_index-tabulate}
use Rattle.stabilise.specs.Stabilised.{lifted, lowered, inserted}
use Rattle.stabilise.proofs.PlaceLemmas.{lifted-below, lifted-above, lifted_apart, lowered-lifted, lifted_one, lifted_below}
use Rattle.stabilise.proofs.NewPlaces.{HasNew, HasSplit, HasNew-one}

module _ (n k v : ℕ) (rows : List ℕ) (long : length rows ≡ n) where
  pub length-inserted : length (inserted k v rows) ≡ suc n
  length-inserted =
      length-tabulate (length rows + 1) (λ d. cond (eqb d k) v (lifted v (slice_index rows (lowered k d))))
      ∙ omega arith

  at_inserted : (i : ℕ) → i < suc n
      → slice_index (inserted k v rows) i ≡ cond (eqb i k) v (lifted v (slice_index rows (lowered k i)))
  at_inserted i l =
      slice_index-tabulate (length rows + 1) (λ d. cond (eqb d k) v (lifted v (slice_index rows (lowered k d)))) i
      (omega arith)

  -- the list with the new column has it
  pub HasNew-inserted : k < suc n → HasNew n k v (slice_index rows) (slice_index (inserted k v rows))
  HasNew-inserted lk = record {
    new = at_inserted k lk
        ∙ ap (λ b. cond b v (lifted v (slice_index rows (lowered k k)))) (eq-eqb k k refl);
    old = λ d l.
        at_inserted (lifted k d) (lifted_below n k d l)
        ∙ ap₂ (λ b e. cond b v (lifted v (slice_index rows e))) (ne_eqb (lifted k d) k (lifted_apart k d))
        (lowered-lifted k d);
  }

  -- it is a bijection if the old one is
  pub IsBijection-inserted : k < suc n → v < suc n → IsBijection n rows → IsBijection (suc n) (inserted k v rows)
  IsBijection-inserted lk lv s =
      let one = HasNew-one n k v (slice_index rows) (slice_index (inserted k v rows)) lk lv (one_to_one n rows s)
      (HasNew-inserted lk) in
      record { long = length-inserted; small = one.small; apart = one.apart }

-- the place that the two neighbours exchange
pub exchanged-new : (c k : ℕ) → (k ≡ c) ⊎ (k ≡ c + 1) → exchanged c (c + 1) k ≡ lifted k c
exchanged-new c k (inl e) = exchanged-first c (c + 1) k e ∙ sym (lifted-above k c (omega arith))
exchanged-new c k (inr e) =
    exchanged-second c (c + 1) k (omega arith) e ∙ sym (lifted-below k c (omega arith))

pub exchanged-beside : (c k : ℕ) → (k ≡ c) ⊎ (k ≡ c + 1) → exchanged c (c + 1) (lifted k c) ≡ k
exchanged-beside c k (inl e) =
    let at : lifted k c ≡ c + 1 = lifted-above k c (omega arith) in
    exchanged-second c (c + 1) (lifted k c) (omega arith) at ∙ sym e
exchanged-beside c k (inr e) =
    let at : lifted k c ≡ c = lifted-below k c (omega arith) in
    exchanged-first c (c + 1) (lifted k c) at ∙ sym e

pub exchanged-old : (c k d : ℕ) → (k ≡ c) ⊎ (k ≡ c + 1) → d ≢ c → exchanged c (c + 1) (lifted k d) ≡ lifted k d
exchanged-old c k d h p = exchanged-other c (c + 1) (lifted k d) (first h) (second h)
  where
    first : (k ≡ c) ⊎ (k ≡ c + 1) → lifted k d ≢ c
    first (inl e) i = lifted_apart k d (i ∙ sym e)
    first (inr e) i = p (lifted_one k d c (i ∙ sym (lifted-below k c (omega arith))))

    second : (k ≡ c) ⊎ (k ≡ c + 1) → lifted k d ≢ c + 1
    second (inl e) i = p (lifted_one k d c (i ∙ sym (lifted-above k c (omega arith))))
    second (inr e) i = lifted_apart k d (i ∙ sym e)

module _ (n c k v : ℕ) (P P' Q' : ℕ → ℕ) (lc : c < n) (beside : (k ≡ c) ⊎ (k ≡ c + 1)) where
  -- the new column and the old one beside it exchanged
  pub HasSplit-exchanged : HasNew n k v P P' → ((i : ℕ) → i < suc n → Q' i ≡ P' (exchanged c (c + 1) i))
      → HasSplit n c k v P Q'
  HasSplit-exchanged s h = record {
    new = h k (elim beside [ inl e ↦ omega arith | inr e ↦ omega arith ])
        ∙ ap P' (exchanged-new c k beside) ∙ s.old c lc;
    at = h (lifted k c) (lifted-within c lc) ∙ ap P' (exchanged-beside c k beside) ∙ s.new;
    old = λ d l p. h (lifted k d) (lifted-within d l) ∙ ap P' (exchanged-old c k d beside p) ∙ s.old d l;
  }
    where
      lifted-within : (d : ℕ) → d < n → lifted k d < suc n
      lifted-within d l = lifted_below n k d l

  -- and back
  pub HasNew-exchanged : HasSplit n c k v P Q' → HasNew n k v P (λ i. Q' (exchanged c (c + 1) i))
  HasNew-exchanged s = record {
    new = ap Q' (exchanged-new c k beside) ∙ s.at;
    old = λ d l. elim (cases_eq d c) [
      | inl e ↦
          ap (λ t. Q' (exchanged c (c + 1) (lifted k t))) e ∙ ap Q' (exchanged-beside c k beside) ∙ s.new
          ∙ sym (ap (λ t. lifted v (P t)) e)
      | inr p ↦ ap Q' (exchanged-old c k d beside p) ∙ s.old d l p
    ];
  }
