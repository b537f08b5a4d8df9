-- Maps from bidegrees to ranks: what a new entry changes, and their rows, which are in order.
use Rattle.std.proofs.Common.{◌≡◌, ℕ, ℤ, true, false, List, [], ◌∷◌, map, get_or, Contains, IsTrue, Option, Some, None, is_some, inl, inr, refl, sym, ap, subst, ◌∙◌, arith}
use Rattle.std.specs.List.{AllByRecursion}
use Rattle.std.specs.List.Sorted.{IsStrictlySortedBy}
use Rattle.std.specs.Map.{keys_of}
use Rattle.std.specs.Option.{unwrap_or}
use Rattle.std.specs.Ordering.{is_eq}
use Rattle.std.specs.declared.cmp.Ordering.{Ordering}
use Rattle.std.specs.declared.cmp.Ordering.TheVariants.{Less, Equal, Greater}
use Rattle.std.specs.BTreeMap as tree
use Rattle.std.proofs.lemmas.Bool.{cases_Bool, false≢true}
use Rattle.std.proofs.lemmas.Cmp.{tied_itself}
use Rattle.std.proofs.lemmas.List.Elements.{Contains-get_or}
use Rattle.std.proofs.lemmas.Map.Views.{btree_map_get_iff}
use Rattle.f2_algebra.specs.Bigraded.{stands_before}
use Rattle.f2_algebra.proofs.Cancelling.LogLemmas.{none_where}
use Rattle.state_rank.proofs.MemberLemmas.{member_cases, no_member, Contains-map, member_of_map, pairs_cons}
use Rattle.gradings.specs.Degrees.{bidegree_cmp}
use Rattle.gradings.specs.declared.degrees.Bidegree.{Bidegree}
use Rattle.gradings.proofs.OrderLemmas.{bidegree_cmp_total, bidegree_cmp_exact, stands_before-bidegree_cmp}
use Rattle.hat_division.specs.Table.{bidegree_of, AreOrdered}
use Rattle.hat_division.specs.Product.{stands_at, rank_at}
use Rattle.hat_division.specs.RankMaps.{bidegree_key, Ranks, rank_in, row_of}
use Rattle.hat_division.specs.declared.tables.TableRow.{TableRow}
use Rattle.hat_division.proofs.RankLemmas.{degrees_of, stands_itself, rank_at-none, rank_at-row}

-- ---- the order of the keys
pub is_equal : (o : Ordering) → is_eq o ≡ true → o ≡ Equal
is_equal Less e = absurd (false≢true e)
is_equal Equal e = refl
is_equal Greater e = absurd (false≢true e)

-- the test of a key finds the key itself
pub key_itself : (p : Bidegree) → is_eq (bidegree_cmp p p) ≡ true
key_itself p = ap is_eq (tied_itself bidegree_cmp_total p)

-- and no other key
pub key_other : (p q : Bidegree) → (p ≡ q → ⊥) → is_eq (bidegree_cmp p q) ≡ false
key_other p q other = none_where (is_eq (bidegree_cmp p q))
    (λ h. other (bidegree_cmp_exact p q (is_equal (bidegree_cmp p q) h)))

-- ---- from the map to rows
-- the rows of later keys are later
all_later : (e : Bidegree × ℕ) (es : List (Bidegree × ℕ)) → AllByRecursion (λ q. bidegree_cmp e.0 q ≡ Less) (keys_of es)
    → (row : TableRow) → Contains (map row_of es) row
    → IsTrue (stands_before (bidegree_of (row_of e)) (bidegree_of row))
all_later e [] h row inside = absurd (no_member row inside)
all_later e (f ∷ es) h row inside = elim (member_cases (row_of f) (map row_of es) row inside) [
  | inl is ↦
      subst (λ r. IsTrue (stands_before (bidegree_of (row_of e)) (bidegree_of r))) is
      (stands_before-bidegree_cmp e.0 f.0 h.0)
  | inr later ↦ all_later e es h.1 row later
]

-- so the rows of a map are in order
pub rows-ordered : (es : List (Bidegree × ℕ)) → IsStrictlySortedBy bidegree_cmp (keys_of es)
    → AreOrdered (map row_of es)
unfolding IsStrictlySortedBy
rows-ordered [] s = λ i j d l m. absurd (omega arith)
rows-ordered (e ∷ es) s =
    pairs_cons (λ p q. IsTrue (stands_before (bidegree_of p) (bidegree_of q))) (row_of e) (map row_of es)
    (all_later e es s.0) (rows-ordered es s.1)

-- an entry of a row: what the map has in its bidegree
pub entry_of : (ranks : Ranks) → tree.IsOrdered bidegree_cmp ranks → (row : TableRow)
    → Contains (map row_of ranks.entries) row
    → tree.get bidegree_cmp ranks (bidegree_key (row.m, row.a)) ≡ Some row.rank
entry_of ranks ordered row inside =
    let (e, stood, is) = member_of_map row_of ranks.entries row inside in
    subst (λ (r : TableRow). tree.get bidegree_cmp ranks (bidegree_key (r.m, r.a)) ≡ Some r.rank) is
    ((btree_map_get_iff bidegree_cmp_total bidegree_cmp_exact ranks ordered e.0 e.1).1 stood)

-- what the map has in a bidegree is the rank of its rows there
pub rank_at-rows : (ranks : Ranks) → tree.IsOrdered bidegree_cmp ranks → (m a : ℤ)
    → rank_at (map row_of ranks.entries) m a ≡ rank_in ranks a m
rank_at-rows ranks ordered m a = by (tree.get bidegree_cmp ranks (bidegree_key (m, a))) refl
  where
    in_order : AreOrdered (map row_of ranks.entries)
    in_order = rows-ordered ranks.entries ordered

    by : (o : Option ℕ) → tree.get bidegree_cmp ranks (bidegree_key (m, a)) ≡ o
        → rank_at (map row_of ranks.entries) m a ≡ unwrap_or o 0
    by (Some d) found =
        let row : TableRow = row_of (bidegree_key (m, a), d) in
        let inside =
        Contains-map row_of ranks.entries (bidegree_key (m, a), d)
        ((btree_map_get_iff bidegree_cmp_total bidegree_cmp_exact ranks ordered (bidegree_key (m, a)) d).0 found) in
        rank_at-row (map row_of ranks.entries) inside.0 row m a in_order inside.1
        (subst (λ (r : TableRow). stands_at r m a ≡ true) (sym inside.2) (stands_itself row))
        ∙ ap (λ (r : TableRow). r.rank) inside.2
    by None none = rank_at-none (map row_of ranks.entries) m a (λ k d l.
        elim (cases_Bool (stands_at (get_or (map row_of ranks.entries) k d) m a)) [
          | inl s ↦
              let row = get_or (map row_of ranks.entries) k d in
              let degrees = degrees_of row m a s in
              let found = entry_of ranks ordered row (Contains-get_or (map row_of ranks.entries) k d l) in
              let here : tree.get bidegree_cmp ranks (bidegree_key (m, a)) ≡ Some row.rank =
              subst (λ (p : ℤ × ℤ). tree.get bidegree_cmp ranks (bidegree_key p) ≡ Some row.rank)
              (λ i. (degrees.0 i, degrees.1 i)) found in
              absurd (false≢true (ap is_some (sym none ∙ here)))
          | inr s ↦ s
        ])
