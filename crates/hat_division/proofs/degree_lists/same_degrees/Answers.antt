-- Slices are equal if their numbers are.
use Rattle.std.proofs.lemmas.Bool.Decides.{Decides-int_eq}
use Rattle.std.proofs.lemmas.Slice.Eq.{slice_eq-Decides}
use Rattle.f2_algebra.proofs.Chains.Tables.{same_test}
use Rattle.hat_division.proofs.Multi.DegreeListLemmas.{same_degrees-is}
use Rattle.hat_division.proofs.degree_lists.same_degrees.Goals as goal

pub returns : goal.returns
returns c =
    let decided = slice_eq-Decides Decides-int_eq _ _ _ c.eq.ensures in
    same_test _ _ (λ h. (same_degrees-is c.args.p.now c.args.q.now).1 (decided.0 h))
    (λ h. decided.1 ((same_degrees-is c.args.p.now c.args.q.now).0 h))
