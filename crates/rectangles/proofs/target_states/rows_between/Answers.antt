-- The mask has the bits of the rows between.
use Rattle.std.proofs.Common.{◌≡◌, ℕ, ◌-◌, ◌*◌, ◌%◌, ◌^◌, ◌<◌, ◌≤◌, subst, sym, arith}
use Rattle.std.proofs.lemmas.Nat.{one_shl}
use Rattle.std.proofs.Math.Pow.{pow_mono}
use Rattle.std.proofs.lemmas.Nat.Bits.{bit_at_mask_inside, bit_at_mask_below, bit_at_mask_above}
use Rattle.rectangles.specs.Inner.Open.{AreRowsBetween}
use Rattle.rectangles.proofs.target_states.rows_between.Goals as goal

-- the mask as a difference of powers
mask-is : (from to : ℕ) → from ≤ to → to < 16
    → 1 * 2 ^ to % 2 ^ 16 - 1 * 2 ^ from % 2 ^ 16 ≡ 2 ^ to - 2 ^ from
mask-is from to l m = λ i. one_shl to 16 m i - one_shl from 16 (let k : from < 16 = omega arith in k) i

pub overflow_sub-result : goal.overflow_sub-result
overflow_sub-result c =
    let order = c.requires.order in
    let short = c.requires.short in
    let high = one_shl c.args.to 16 (omega arith) in
    let low = one_shl c.args.from 16 (omega arith) in
    let h = pow_mono order in
    omega arith

pub returns : goal.returns
returns c =
    let short = c.requires.short in
    subst (AreRowsBetween c.args.from c.args.to) (sym (mask-is c.args.from c.args.to c.requires.order (omega arith)))
    (record {
      inside = bit_at_mask_inside c.args.from c.args.to;
      below = bit_at_mask_below c.args.from c.args.to;
      above = bit_at_mask_above c.args.from c.args.to;
    })
