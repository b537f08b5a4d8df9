-- The rows of a table: the entries of the map from bidegrees to ranks.
use Rattle.f2_algebra.specs.Bigraded.{stands_before}
use Rattle.hat_division.proofs.WordLemmas.{IfSome-value}
use Rattle.std.proofs.Common.{◌≡◌, ℕ, ◌<◌, ◌^◌, ℤ, List, [], ◌∷◌, map, get_or, Contains, IsTrue, Option, Some, None, inl, inr, sym, ap, subst, arith}
use Rattle.std.specs.List.{AllByRecursion}
use Rattle.std.specs.List.Sorted.{IsStrictlySortedBy}
use Rattle.std.specs.Map.{keys_of}
use Rattle.std.specs.Option.{unwrap_or}
use Rattle.std.specs.declared.cmp.Ordering.TheVariants.{Less}
use Rattle.std.specs.BTreeMap as tree
use Rattle.std.proofs.lemmas.List.Elements.{Contains-get_or}
use Rattle.std.proofs.lemmas.Map.Views.{btree_map_get_iff}
use Rattle.state_rank.proofs.MemberLemmas.{member_cases, no_member, Contains-map, member_of_map, pairs_cons}
use Rattle.torus_geom.specs.Marks.{Marks}
use Rattle.torus_geom.specs.Inner.CodeHomology.{IsHomologyRank}
use Rattle.hat_division.specs.Table.{bidegree_of, AreOrdered}
use Rattle.hat_division.specs.declared.tables.TableRow.{TableRow}
use Rattle.gradings.specs.Degrees.{bidegree_cmp}
use Rattle.gradings.specs.declared.degrees.Bidegree.{Bidegree}
use Rattle.gradings.proofs.OrderLemmas.{bidegree_cmp_total, bidegree_cmp_exact, stands_before-bidegree_cmp}
use Rattle.hat_division.specs.RankMaps.{bidegree_key, Ranks, rank_in, row_of}
use Rattle.homology_cert.specs.Inner.Ranks.{HasHomology, IsTold, IsDone, AreRows}
use Rattle.hat_division.proofs.RankMapLemmas.{rows-ordered}
use Rattle.homology_cert.proofs.Homology.SliceRanks.{one_homology_rank}

-- the rows of a map that has all ranks are those of the table
pub rows-of_ranks : (g : Marks) (ranks : Ranks) (rows : List TableRow) → tree.IsOrdered bidegree_cmp ranks
    → IsDone g [] ranks → rows ≡ map row_of ranks.entries → AreRows g rows
rows-of_ranks g ranks rows ordered all same = subst (AreRows g) (sym same) (record {
  ordered = rows-ordered ranks.entries ordered;
  complete = λ row. (holds row, stands row);
  ranks = λ k d l.
      let row = get_or (map row_of ranks.entries) k d in
      let told = holds row (Contains-get_or (map row_of ranks.entries) k d l) in
      subst (λ n. n < 2 ^ 32) (one_homology_rank g row.m row.a _ _ ((everywhere row.a).told row.m) told.rank)
      ((everywhere row.a).small row.m);
})
  where
    everywhere : (a : ℤ) → IsTold g ranks a
    everywhere a = all.done a (λ m. no_member a m)

    holds : (row : TableRow) → Contains (map row_of ranks.entries) row → HasHomology g row
    holds row inside =
        let (e, stood, is) = member_of_map row_of ranks.entries row inside in
        let found : tree.get bidegree_cmp ranks e.0 ≡ Some e.1 =
        (btree_map_get_iff bidegree_cmp_total bidegree_cmp_exact ranks ordered e.0 e.1).1 stood in
        subst (HasHomology g) is (record {
          positive = IfSome-value (λ d. 0 < d) (tree.get bidegree_cmp ranks e.0) e.1 found (all.positive e.0.a e.0.m);
          rank = subst (IsHomologyRank g e.0.m e.0.a) (ap (λ o. unwrap_or o 0) found) ((everywhere e.0.a).told e.0.m);
        })

    stands : (row : TableRow) → HasHomology g row → Contains (map row_of ranks.entries) row
    stands row held =
        let same : rank_in ranks row.a row.m ≡ row.rank =
        one_homology_rank g row.m row.a _ _ ((everywhere row.a).told row.m) held.rank in
        let found : tree.get bidegree_cmp ranks (bidegree_key (row.m, row.a)) ≡ Some row.rank =
        value (tree.get bidegree_cmp ranks (bidegree_key (row.m, row.a))) row.rank same held.positive in
        Contains-map row_of ranks.entries (bidegree_key (row.m, row.a), row.rank)
        ((btree_map_get_iff bidegree_cmp_total bidegree_cmp_exact ranks ordered
        (bidegree_key (row.m, row.a)) row.rank).0
        found)
      where
        value : (o : Option ℕ) (d : ℕ) → unwrap_or o 0 ≡ d → 0 < d → o ≡ Some d
        value None d e l = absurd (omega arith)
        value (Some k) d e l = ap Some e
