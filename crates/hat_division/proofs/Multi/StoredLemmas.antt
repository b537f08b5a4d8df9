-- How a list of degrees is kept.
use Rattle.std.proofs.Common.{◌≡◌, ◌-◌, ◌≤◌, ℤ, pos, List, ◌++◌, length, take, replicate, length-append, sym, ap, subst, arith}
use Rattle.std.proofs.Math.Seq.{take-append_seam}
use Rattle.hat_division.specs.DegreeLists.{IsDegreeList}
use Rattle.hat_division.specs.Inner.StoredDegrees.{IsStored, padded}

-- a list that was copied before the zeros
pub IsStored-copied : (ds copied tail : List ℤ) → copied ≡ ds → tail ≡ replicate (5 - length ds) (pos 0) → 1 ≤ length ds
    → length ds ≤ 5 → IsStored (length ds) (copied ++ tail)
IsStored-copied ds copied tail same zeros low high =
    let whole : copied ++ tail ≡ padded ds = λ i. same i ++ zeros i in
    let taken : take (length ds) (padded ds) ≡ ds =
    take-append_seam ds (replicate (5 - length ds) (pos 0)) in
    let long = length-append ds (replicate (5 - length ds) (pos 0)) in
    subst (IsStored (length ds)) (sym whole) (record {
      within = omega arith;
      list = subst IsDegreeList (sym taken) (low, high);
      zeros = sym (ap padded taken);
    })
