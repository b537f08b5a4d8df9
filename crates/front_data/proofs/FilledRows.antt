-- A list that is filled from the left by a function.
use Rattle.std.proofs.Common.{◌≡◌, ◌≢◌, ◌⊎◌, ℕ, ◌+◌, ◌<◌, List, length, slice_index, set, ap, ◌∙◌, sym, arith, inl, inr}
use Rattle.std.proofs.lemmas.Bool.{cases_eq}
use Rattle.std.proofs.lemmas.List.{get_or-set_same, get_or-set_other, length-set}

-- the list has this length, and its first c rows are those of f
pub record IsFilled (long : ℕ) (f : ℕ → ℕ) (c : ℕ) (rows : List ℕ) : Type 0 where
  pub room : length rows ≡ long
  pub filled : (k : ℕ) → k < c → slice_index rows k ≡ f k

-- one row more
pub IsFilled-more : (long : ℕ) (f : ℕ → ℕ) (c i v : ℕ) (rows : List ℕ) → IsFilled long f c rows → c < long → i ≡ c
    → v ≡ f c → IsFilled long f (c + 1) (set rows i v)
IsFilled-more long f c i v rows h l at is = record {
  room = length-set rows i v ∙ h.room;
  filled = λ k m. row k m (cases_eq k i);
}
  where
    row : (k : ℕ) → k < c + 1 → (k ≡ i) ⊎ (k ≢ i) → slice_index (set rows i v) k ≡ f k
    row k m (inl e) = ap (slice_index (set rows i v)) e ∙ get_or-set_same rows i v 0 (let room = h.room in omega arith)
        ∙ is ∙ ap f (sym at ∙ sym e)
    row k m (inr p) = get_or-set_other rows i k v 0 p ∙ h.filled k (omega arith)
