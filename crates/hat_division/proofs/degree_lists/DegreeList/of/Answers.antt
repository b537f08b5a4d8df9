use Rattle.std.proofs.Common.{length, pos, arith}
use Rattle.std.proofs.lemmas.List.{drop-replicate}
use Rattle.hat_division.proofs.Multi.StoredLemmas.{IsStored-copied}
use Rattle.hat_division.proofs.degree_lists.DegreeList.of.Goals as goal

pub invariant_of-result : goal.invariant_of-result
invariant_of-result c =
    let low = c.if-degrees-lt1.false in
    let high = c.if-degrees-gt-MAX_COMPONENTS.false in
    IsStored-copied c.args.degrees.now _ _ c.copy_from_slice.ensures.after
    (drop-replicate (length c.args.degrees.now) 5 (pos 0)) (omega arith) (omega arith)
