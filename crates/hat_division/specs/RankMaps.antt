-- Maps from bidegrees to ranks, which have no entry for the rank 0.
--     bidegree_key d      the bidegree d as a key
--     Ranks               such a map
--     rank_in ranks a m   what the map has at (a, m), or 0
--     row_of e            the row of an entry of the map
use Rattle.std.specs.Prelude.{ℕ, ℤ}
use Rattle.std.specs.Option.{unwrap_or}
use Rattle.std.specs.BTreeMap as tree
use Rattle.std.specs.BTreeMap.{BTreeMap}
use Rattle.gradings.specs.Degrees.{bidegree_cmp}
use Rattle.gradings.specs.declared.degrees.Bidegree.{Bidegree}
use Rattle.hat_division.specs.declared.tables.TableRow.{TableRow}

abbrev pub bidegree_key : ℤ × ℤ → Bidegree
bidegree_key d = record { m = d.0; a = d.1 }

abbrev pub Ranks : Type 0
Ranks = BTreeMap Bidegree ℕ

abbrev pub rank_in : Ranks → ℤ → ℤ → ℕ
rank_in ranks a m = unwrap_or (tree.get bidegree_cmp ranks (bidegree_key (m, a))) 0

abbrev pub row_of : Bidegree × ℕ → TableRow
row_of e = record { m = e.0.m; a = e.0.a; rank = e.1 }
