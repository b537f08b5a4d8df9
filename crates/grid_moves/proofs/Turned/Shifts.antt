-- Moves of circles by one, or by none, keep cyclic ranges, and the numbers before and after; renamings keep
-- exchanges.
use Rattle.std.proofs.Common.{ap, ap₂, arith, eqb, inl, inr, ltb, refl, suc, sym, zero, ℕ, ◌%◌, ◌+◌, ◌-◌, ◌<◌, ◌∙◌, ◌≡◌}
use Rattle.std.proofs.Math.Nat.{add-mod_right}
use Rattle.std.proofs.lemmas.Bool.{cases_eq, eq-eqb, ne_eqb}
use Rattle.state_rank.proofs.BijectionLemmas.{IsOneToOne}
use Rattle.state_rank.proofs.SwapLemmas.{exchanged, exchanged-first, exchanged-other, exchanged-second}
use Rattle.torus_geom.proofs.Circles.TurnLemmas.{one_down-one_up, one_down_below, one_down_one, one_up-below, one_up-last, one_up-one_down, one_up_one}
use Rattle.torus_geom.specs.Range.{in_range, offset, one_down, one_up}
use Rattle.grid_moves.specs.Carried.{target_column}
use Rattle.grid_moves.specs.Moves.{moved_row}
use Rattle.grid_moves.specs.declared.turns.Side.{Side}
use Rattle.grid_moves.specs.declared.turns.Side.TheVariants.{Down, Left, Right, Up}

-- a renaming of the numbers below n that keeps ranges, and the numbers before and after
pub record IsShift (n : ℕ) (f : ℕ → ℕ) : Type 0 where
  pub one : IsOneToOne n f
  pub range : (a b t : ℕ) → a < n → b < n → t < n → in_range n (f a) (f b) (f t) ≡ in_range n a b t
  pub before : (c : ℕ) → c < n → one_down n (f c) ≡ f (one_down n c)
  pub after : (c : ℕ) → c < n → one_up n (f c) ≡ f (one_up n c)

-- as many steps from the next to the next
offset-one_up : (n a i : ℕ) → a < n → i < n → offset n (one_up n a) (one_up n i) ≡ offset n a i
offset-one_up zero a i la li = absurd (omega arith)
offset-one_up (suc m) a i la li = elim (cases_eq a m) [
  | inl e ↦
      let u : one_up (suc m) a ≡ 0 = ap (one_up (suc m)) e ∙ one_up-last m in
      elim (cases_eq i m) [
        | inl f ↦
            let v : one_up (suc m) i ≡ 0 = ap (one_up (suc m)) f ∙ one_up-last m in
            let w : one_up (suc m) i + (suc m - one_up (suc m) a) ≡ i + (suc m - a) = omega arith in
            ap (λ k. k % suc m) w
        | inr q ↦
            let v = one_up-below m i (omega arith) in
            let w : one_up (suc m) i + (suc m - one_up (suc m) a) ≡ (i + (suc m - a)) + suc m = omega arith in
            ap (λ k. k % suc m) w ∙ add-mod_right (i + (suc m - a)) (suc m)
      ]
  | inr p ↦
      let u = one_up-below m a (omega arith) in
      elim (cases_eq i m) [
        | inl f ↦
            let v : one_up (suc m) i ≡ 0 = ap (one_up (suc m)) f ∙ one_up-last m in
            let w : (one_up (suc m) i + (suc m - one_up (suc m) a)) + suc m ≡ i + (suc m - a) = omega arith in
            sym (add-mod_right (one_up (suc m) i + (suc m - one_up (suc m) a)) (suc m)) ∙ ap (λ k. k % suc m) w
        | inr q ↦
            let v = one_up-below m i (omega arith) in
            let w : one_up (suc m) i + (suc m - one_up (suc m) a) ≡ i + (suc m - a) = omega arith in
            ap (λ k. k % suc m) w
      ]
]

range-one_up : (n a b t : ℕ) → a < n → b < n → t < n
    → in_range n (one_up n a) (one_up n b) (one_up n t) ≡ in_range n a b t
range-one_up n a b t la lb lt = ap₂ ltb (offset-one_up n a t la lt) (offset-one_up n a b la lb)

-- no move
pub IsShift-none : (n : ℕ) → IsShift n (λ c. c)
IsShift-none n =
    record {
      one = record { small = λ c l. l; apart = λ b c lb lc p. p };
      range = λ a b t la lb lt. refl;
      before = λ c l. refl;
      after = λ c l. refl;
    }

-- one up
pub IsShift-one_up : (n : ℕ) → IsShift n (one_up n)
IsShift-one_up n =
    record {
      one = one_up_one n;
      range = range-one_up n;
      before = λ c l. one_down-one_up n c l ∙ sym (one_up-one_down n c l);
      after = λ c l. refl;
    }

-- one down
pub IsShift-one_down : (n : ℕ) → IsShift n (one_down n)
IsShift-one_down n = record {
  one = one_down_one n;
  range = λ a b t la lb lt.
      sym (range-one_up n (one_down n a) (one_down n b) (one_down n t) (one_down_below n a la) (one_down_below n b lb)
      (one_down_below n t lt))
      ∙ (λ i. in_range n (one_up-one_down n a la i) (one_up-one_down n b lb i) (one_up-one_down n t lt i));
  before = λ c l. refl;
  after = λ c l. one_up-one_down n c l ∙ sym (one_down-one_up n c l);
}

-- the columns and the rows of a turn
pub IsShift-target_column : (side : Side) (n : ℕ) → IsShift n (target_column side n)
IsShift-target_column Left n = IsShift-one_down n
IsShift-target_column Right n = IsShift-one_up n
IsShift-target_column Up n = IsShift-none n
IsShift-target_column Down n = IsShift-none n

pub IsShift-moved_row : (side : Side) (n : ℕ) → IsShift n (moved_row side n)
IsShift-moved_row Left n = IsShift-none n
IsShift-moved_row Right n = IsShift-none n
IsShift-moved_row Up n = IsShift-one_up n
IsShift-moved_row Down n = IsShift-one_down n

-- numbers are the same, or different, if they are after a renaming
pub eqb-shift : (n : ℕ) (f : ℕ → ℕ) → IsOneToOne n f → (a b : ℕ) → a < n → b < n → eqb (f a) (f b) ≡ eqb a b
eqb-shift n f one a b la lb = elim (cases_eq a b) [
  | inl e ↦ eq-eqb (f a) (f b) (ap f e) ∙ sym (eq-eqb a b e)
  | inr p ↦ ne_eqb (f a) (f b) (one.apart a b la lb p) ∙ sym (ne_eqb a b p)
]

-- the exchange of two numbers after a renaming
pub exchanged-row : (n : ℕ) (f : ℕ → ℕ) → IsOneToOne n f → (a b c : ℕ) → a < n → b < n → c < n
    → exchanged (f a) (f b) (f c) ≡ f (exchanged a b c)
exchanged-row n f one a b c la lb lc = elim (cases_eq c a) [
  | inl e ↦ exchanged-first (f a) (f b) (f c) (ap f e) ∙ sym (ap f (exchanged-first a b c e))
  | inr p ↦ elim (cases_eq c b) [
    | inl e ↦
        exchanged-second (f a) (f b) (f c) (one.apart c a lc la p) (ap f e) ∙ sym (ap f (exchanged-second a b c p e))
    | inr q ↦
        exchanged-other (f a) (f b) (f c) (one.apart c a lc la p) (one.apart c b lc lb q)
        ∙ sym (ap f (exchanged-other a b c p q))
  ]
]
