-- How a state is kept, place by place.
use Rattle.std.proofs.Common.{◌≡◌, ℕ, ◌-◌, ◌≤◌, List, length, take, replicate, slice_index, ap, ◌∙◌, sym, arith, inl, inr}
use Rattle.std.proofs.lemmas.Bool.{cases_lt}
use Rattle.std.proofs.lemmas.List.{ext_get_or, length-append, length-replicate, length-take-le, get_or-take, get_or_append_left, get_or-append_right, get_or-replicate, get_or_past}
use Rattle.state_rank.specs.States.{IsState}
use Rattle.state_rank.specs.declared.TheConstants.{MAX_SIZE}
use Rattle.state_rank.specs.Inner.Stored.{IsStored, padded}

-- the array has its length, its first rows are a state, and each place behind them has a 0
pub record IsStoredByPlace (size : ℕ) (rows : List ℕ) : Type 0 where
  pub long : length rows ≡ MAX_SIZE
  pub fits : size ≤ MAX_SIZE
  pub state : IsState (take size rows)
  pub zeros : (c : ℕ) → size ≤ c → slice_index rows c ≡ 0

-- the rows of a stored state are as many as its size
pub length-stored : (size : ℕ) (rows : List ℕ) → IsStoredByPlace size rows → length (take size rows) ≡ size
length-stored size rows s = let e = s.long in let l = s.fits in length-take-le size rows (omega arith)

-- a state that is kept place by place is kept
pub stored_from : {size : ℕ} {rows : List ℕ} → IsStoredByPlace size rows → IsStored size rows
stored_from {size = size} {rows = rows} s =
    let e : length (take size rows) ≡ size = length-stored size rows s in
    let l = s.long in
    let f = s.fits in
    let tail : List ℕ = replicate (MAX_SIZE - length (take size rows)) 0 in
    let t : length tail ≡ MAX_SIZE - length (take size rows) =
    length-replicate (MAX_SIZE - length (take size rows)) 0 in
    let whole : length rows ≡ length (padded (take size rows)) =
    sym (length-append (take size rows) tail ∙ omega arith) in
    record {
      within = omega arith;
      state = s.state;
      zeros = ext_get_or 0 rows (padded (take size rows)) whole (λ i b. sym (elim (cases_lt i size) [
        | inl p ↦ get_or_append_left (take size rows) tail 0 i (omega arith) ∙ get_or-take size rows i 0 p
        | inr p ↦
            get_or-append_right (take size rows) tail size i 0 e p
            ∙ get_or-replicate (MAX_SIZE - length (take size rows)) (i - size) 0 0 (omega arith)
            ∙ sym (s.zeros i p)
      ]));
    }

-- and the other way round
pub by_place : {size : ℕ} {rows : List ℕ} → IsStored size rows → IsStoredByPlace size rows
by_place {size = size} {rows = rows} s =
    let within = s.within in
    let e : length (take size rows) ≡ size = length-take-le size rows within in
    let fits = s.state.size.greatest in
    let tail : List ℕ = replicate (MAX_SIZE - length (take size rows)) 0 in
    let t : length tail ≡ MAX_SIZE - length (take size rows) =
    length-replicate (MAX_SIZE - length (take size rows)) 0 in
    let whole = ap length s.zeros ∙ length-append (take size rows) tail in
    record {
      long = omega arith;
      fits = omega arith;
      state = s.state;
      zeros = λ c l.
          ap (λ xs. slice_index xs c) s.zeros
          ∙ get_or-append_right (take size rows) tail size c 0 e l
          ∙ elim (cases_lt (c - size) (MAX_SIZE - length (take size rows))) [
            | inl p ↦ get_or-replicate (MAX_SIZE - length (take size rows)) (c - size) 0 0 p
            | inr p ↦ get_or_past tail (c - size) 0 (omega arith)
          ];
    }
