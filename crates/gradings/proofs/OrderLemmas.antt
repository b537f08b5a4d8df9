-- The order of bidegrees: it is total, ties only what is the same, and puts first what stands before.
use Rattle.std.proofs.Common.{◌≡◌, ℤ, Bool, true, ◌||◌, ◌&&◌, int_lt, ◌<ℤ◌, refl, sym, ap, arith}
use Rattle.std.specs.Ordering.{int_cmp, int_eq, is_eq, is_lt, ordering_then}
use Rattle.std.specs.declared.cmp.Ordering.{Ordering}
use Rattle.std.specs.declared.cmp.Ordering.TheVariants.{Less, Equal, Greater}
use Rattle.std.specs.Cmp.{IsTotalOrder}
use Rattle.std.proofs.lemmas.Bool.{false≢true}
use Rattle.std.proofs.lemmas.Cmp.{int_cmp_total, int_ranked, then_total, on_total, back_total}
use Rattle.std.proofs.lemmas.Int.{ints}
use Rattle.std.proofs.lemmas.Map.Lookups.{CmpEqualImpliesEq, exact_signed}
use Rattle.f2_algebra.specs.Bigraded.{stands_before}
use Rattle.gradings.specs.Degrees.{bidegree_cmp}
use Rattle.gradings.specs.declared.degrees.Bidegree.{Bidegree}

pub bidegree_cmp_total : IsTotalOrder bidegree_cmp
bidegree_cmp_total =
    then_total (back_total (on_total (λ (d : Bidegree). d.a) int_cmp_total))
    (back_total (on_total (λ (d : Bidegree). d.m) int_cmp_total))

both_equal : (x y : Ordering) → ordering_then x y ≡ Equal → (x ≡ Equal) × (y ≡ Equal)
both_equal Less y e = absurd (false≢true (ap is_eq e))
both_equal Equal y e = (refl, e)
both_equal Greater y e = absurd (false≢true (ap is_eq e))

-- bidegrees that are tied are the same
pub bidegree_cmp_exact : CmpEqualImpliesEq bidegree_cmp
bidegree_cmp_exact d e tied =
    let (first, second) = both_equal (int_cmp e.a d.a) (int_cmp e.m d.m) tied in
    let same_a : e.a ≡ d.a = exact_signed e.a d.a first in
    let same_m : e.m ≡ d.m = exact_signed e.m d.m second in
    λ i. record { m = sym same_m i; a = sym same_a i }

-- the lesser bidegree stands before the other
pub stands_before-bidegree_cmp : (d e : Bidegree) → bidegree_cmp d e ≡ Less → stands_before (d.m, d.a) (e.m, e.a) ≡ true
stands_before-bidegree_cmp d e less = by (int_cmp e.a d.a) refl less
  where
    first : (x y : ℤ) (other : Bool) → x <ℤ y → (int_lt x y || other) ≡ true
    first x y other h = grind (arith, ints)

    second : (x y z w : ℤ) → x ≡ y → z <ℤ w → (int_lt x y || (int_eq x y && int_lt z w)) ≡ true
    second x y z w e h = grind (arith, ints)

    by : (o : Ordering) → o ≡ int_cmp e.a d.a → ordering_then o (int_cmp e.m d.m) ≡ Less
        → stands_before (d.m, d.a) (e.m, e.a) ≡ true
    by Less is h = first e.a d.a (int_eq e.a d.a && int_lt e.m d.m) (int_ranked e.a d.a Less is)
    by Equal is h = second e.a d.a e.m d.m (int_ranked e.a d.a Equal is) (int_ranked e.m d.m Less (sym h))
    by Greater is h = absurd (false≢true (ap is_lt h))
