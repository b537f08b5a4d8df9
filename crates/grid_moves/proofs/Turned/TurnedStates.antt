-- A turn of states has the turn to the other side for its inverse.
use Rattle.std.proofs.Common.{List, ap, arith, length, refl, slice_index, subst, sym, take, ℕ, ◌<◌, ◌∙◌, ◌≡◌, ◌≤◌}
use Rattle.state_rank.proofs.BijectionLemmas.{IsOneToOne, same_list}
use Rattle.state_rank.specs.Bijection.{IsBijection, IsSize}
use Rattle.state_rank.specs.States.{IsState}
use Rattle.torus_geom.proofs.Circles.TurnLemmas.{one_down-one_up, one_down_one, one_up-one_down, one_up_one}
use Rattle.grid_moves.proofs.Turned.CarriedChains.{AreInverse}
use Rattle.grid_moves.proofs.Turned.TurnLemmas.{HasTurned, IsBijection-turned_rows, length-turned_rows, slice_index-turned_rows, source_column-one_to_one, take-turned}
use Rattle.grid_moves.specs.Carried.{target_column, turned_state}
use Rattle.grid_moves.specs.Moves.{moved_row, source_column, turned_rows}
use Rattle.grid_moves.specs.declared.turns.Side.{Side}
use Rattle.grid_moves.specs.declared.turns.Side.TheVariants.{Down, Left, Right, Up}

-- the side that turns back
abbrev pub opposite : Side → Side
opposite Left = Right
opposite Right = Left
opposite Up = Down
opposite Down = Up

source-source : (side : Side) (n c : ℕ) → c < n → source_column side n (source_column (opposite side) n c) ≡ c
source-source Left n c l = one_up-one_down n c l
source-source Right n c l = one_down-one_up n c l
source-source Up n c l = refl
source-source Down n c l = refl

moved-moved : (side : Side) (n r : ℕ) → r < n → moved_row (opposite side) n (moved_row side n r) ≡ r
moved-moved Left n r l = refl
moved-moved Right n r l = refl
moved-moved Up n r l = one_down-one_up n r l
moved-moved Down n r l = one_up-one_down n r l

opposite-opposite : (side : Side) → opposite (opposite side) ≡ side
opposite-opposite Left = refl
opposite-opposite Right = refl
opposite-opposite Up = refl
opposite-opposite Down = refl

-- the marks of column c come to the target
pub source-target : (side : Side) (n c : ℕ) → c < n → source_column side n (target_column side n c) ≡ c
source-target Left n c l = one_up-one_down n c l
source-target Right n c l = one_down-one_up n c l
source-target Up n c l = refl
source-target Down n c l = refl

-- a state after a turn, column by column
pub turned_state-at : (side : Side) (n : ℕ) (x : List ℕ) → length x ≡ n → (c : ℕ) → c < n
    → slice_index (turned_state side x) c ≡ moved_row side n (slice_index x (source_column side n c))
turned_state-at side n x e c l =
    slice_index-turned_rows side (length x) x c (omega arith)
    ∙ ap (λ m. moved_row side m (slice_index x (source_column side m c))) e

pub IsBijection-turned_state : (side : Side) (n : ℕ) (x : List ℕ) → IsBijection n x
    → IsBijection n (turned_state side x)
IsBijection-turned_state side n x sx =
    let s = IsBijection-turned_rows side (length x) x (subst (λ m. IsBijection m x) (sym sx.long) sx) in
    let P : ℕ → Type 0 = λ m. IsBijection m (turned_rows side (length x) x) in
    subst P sx.long s

pub turned_state-back : (side : Side) (n : ℕ) (x : List ℕ) → IsBijection n x
    → turned_state (opposite side) (turned_state side x) ≡ x
turned_state-back side n x sx =
    let sy = IsBijection-turned_state side n x sx in
    let sz = IsBijection-turned_state (opposite side) n (turned_state side x) sy in
    same_list n (turned_state (opposite side) (turned_state side x)) x sz.long sx.long (λ c l.
    let k = (source_column-one_to_one (opposite side) n).small c l in
    let back : source_column side n (source_column (opposite side) n c) ≡ c = source-source side n c l in
    turned_state-at (opposite side) n (turned_state side x) sy.long c l
    ∙ ap (moved_row (opposite side) n)
    (turned_state-at side n x sx.long (source_column (opposite side) n c) k
    ∙ ap (λ d. moved_row side n (slice_index x d)) back)
    ∙ moved-moved side n (slice_index x c) (sx.small c l))

-- A turn and the turn back.
pub turned_AreInverse : (side : Side) (n : ℕ) → AreInverse n (turned_state side) (turned_state (opposite side))
turned_AreInverse side n = record {
  kept = IsBijection-turned_state side n;
  kept_back = IsBijection-turned_state (opposite side) n;
  undone = turned_state-back side n;
  redone = λ x sx. ap (λ s. turned_state s (turned_state (opposite side) x)) (sym (opposite-opposite side))
      ∙ turned_state-back (opposite side) n x sx;
}

-- the targets are all columns, each once
pub target_column-one_to_one : (side : Side) (n : ℕ) → IsOneToOne n (target_column side n)
target_column-one_to_one Left n = one_down_one n
target_column-one_to_one Right n = one_up_one n
target_column-one_to_one Up n = record { small = λ c l. l; apart = λ b c lb lc p. p }
target_column-one_to_one Down n = record { small = λ c l. l; apart = λ b c lb lc p. p }

-- a turned state is a state
pub length-turned_state : (side : Side) (x : List ℕ) → length (turned_state side x) ≡ length x
length-turned_state side x = length-turned_rows side (length x) x

pub IsState-turned_state : (side : Side) (x : List ℕ) → IsState x → IsState (turned_state side x)
IsState-turned_state side x s =
    let e = length-turned_state side x in
    record {
      size = let P : ℕ → Type 0 = IsSize in subst P (sym e) s.size;
      bijection = let P : ℕ → Type 0 = λ n. IsBijection n (turned_state side x) in
          subst P (sym e) (IsBijection-turned_state side (length x) x s.bijection);
    }

-- if an array has all circles, it begins with the turned state
pub take-turned_state : (side : Side) (x rows : List ℕ) (n k : ℕ) → IsState x → n ≡ length x → n ≤ k
    → HasTurned side n x rows k → take n rows ≡ turned_state side x
take-turned_state side x rows n k s e far h =
    take-turned side n x rows (let m = s.size.greatest in omega arith)
    (record { long = h.long; each = λ c l. h.each c (omega arith) })
    ∙ ap (λ m. turned_rows side m x) e
