-- Laws of the ranks and the tables of a grid: in each bidegree there is a rank, and a grid has one table.
use Rattle.std.proofs.Common.{◌≡◌, ℕ, ◌<◌, ℤ, Bool, true, false, ◌&&◌, List, [], ◌∷◌, Contains, AllPairs, Some, None, if◌then◌else◌, is_some, ◌↔◌, inl, inr, refl, sym, ap, subst, ◌∙◌}
use Rattle.std.specs.Ordering.{int_eq}
use Rattle.std.proofs.lemmas.Bool.{ltb-true, and_parts, and_from}
use Rattle.std.proofs.lemmas.Bool.Decides.{Decides-int_eq}
use Rattle.cancel.proofs.ListLemmas.{any-Contains}
use Rattle.state_rank.specs.Bijection.{ascending}
use Rattle.state_rank.proofs.OrderLemmas.{Contains-ascending}
use Rattle.f2_algebra.proofs.Ranks.Existence.{exists_rank}
use Rattle.f2_algebra.proofs.Chains.Sets.{any}
use Rattle.state_rank.specs.States.{factorial, unrank}
use Rattle.state_rank.proofs.MemberLemmas.{member_cases, member_head, member_tail, no_member, pairs_head, pairs_tail}
use Rattle.torus_geom.specs.Marks.{Marks, size, IsGrid}
use Rattle.torus_geom.specs.Degrees.{bidegree}
use Rattle.torus_geom.specs.Inner.GridComplex.{grid_complex}
use Rattle.torus_geom.specs.Inner.CodeHomology.{IsHomologyRank, IsHomologyTable}
use Rattle.f2_algebra.specs.Bigraded.{StandsBefore}
use Rattle.f2_algebra.proofs.Ranks.OrderLemmas.{StandsBefore-asymmetric}
use Rattle.torus_geom.specs.Homology.{Row}
use Rattle.f2_algebra.proofs.Ranks.OrderLemmas.{same_bidegree, same_bidegree-is}
use Rattle.rectangles.proofs.Homology.GridCells.{has_all_cells}
use Rattle.rectangles.proofs.Law.GridComplexLemmas.{grid_complex_rules}

-- ---- each bidegree has a rank
pub some_homology_rank : (g : Marks) → IsGrid g → (m a : ℤ) → (d : ℕ) × IsHomologyRank g m a d
some_homology_rank g grid m a =
    exists_rank same_bidegree same_bidegree-is (grid_complex g) (grid_complex_rules g grid)
    (ascending (factorial (size g))) (has_all_cells g) (m, a)

-- ---- lists in order with the same elements
module _ {A : Type 0} (R : A → A → Type 0) (one_way : (x y : A) → R x y → R y x → ⊥) where
  -- the first elements are the same
  same_head : (x y : A) (xs ys : List A) → AllPairs R (x ∷ xs) → AllPairs R (y ∷ ys)
      → ((z : A) → Contains (x ∷ xs) z ↔ Contains (y ∷ ys) z) → x ≡ y
  same_head x y xs ys p q same = elim (member_cases y ys x ((same x).0 (member_head x xs))) [
    | inl is ↦ sym is
    | inr later ↦ elim (member_cases x xs y ((same y).1 (member_head y ys))) [
      | inl is ↦ is
      | inr too ↦ absurd (one_way x y (pairs_head R x xs p y too) (pairs_head R y ys q x later))
    ]
  ]

  -- what stands after the first element of one list stands after that of the other
  in_tail : (x y z : A) (xs ys : List A) → AllPairs R (x ∷ xs) → x ≡ y → (Contains (x ∷ xs) z → Contains (y ∷ ys) z)
      → Contains xs z → Contains ys z
  in_tail x y z xs ys p e goes inside = elim (member_cases y ys z (goes (member_tail x xs z inside))) [
    | inl is ↦ let loop = subst (R x) (sym is ∙ sym e) (pairs_head R x xs p z inside) in absurd (one_way x x loop loop)
    | inr later ↦ later
  ]

  pub ordered_lists-same : (xs ys : List A) → AllPairs R xs → AllPairs R ys
      → ((z : A) → Contains xs z ↔ Contains ys z) → xs ≡ ys
  ordered_lists-same [] [] p q same = refl
  ordered_lists-same [] (y ∷ ys) p q same = absurd (no_member y ((same y).1 (member_head y ys)))
  ordered_lists-same (x ∷ xs) [] p q same = absurd (no_member x ((same x).0 (member_head x xs)))
  ordered_lists-same (x ∷ xs) (y ∷ ys) p q same =
      let first = same_head x y xs ys p q same in
      let tails = ordered_lists-same xs ys (pairs_tail R x xs p) (pairs_tail R y ys q)
      (λ z. (in_tail x y z xs ys p first (same z).0, in_tail y x z ys xs q (sym first) (same z).1)) in
      λ i. first i ∷ tails i

-- ---- a grid has one table
pub one_homology_table : (g : Marks) (s t : List Row) → IsHomologyTable g s → IsHomologyTable g t → s ≡ t
one_homology_table g s t p q =
    ordered_lists-same (λ (p q : Row). StandsBefore (p.0, p.1) (q.0, q.1))
    (λ p q. StandsBefore-asymmetric (p.0, p.1) (q.0, q.1)) s t p.ordered q.ordered (λ z. (
      λ inside. (q.complete z.0 z.1 z.2).1 ((p.complete z.0 z.1 z.2).0 inside),
      λ inside. (p.complete z.0 z.1 z.2).1 ((q.complete z.0 z.1 z.2).0 inside),
    ))
