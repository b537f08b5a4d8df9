-- The rows so far, and those of the entries that are left, are the rows of all entries.
use Rattle.std.proofs.Common.{◌≡◌, ◌++◌, map}
use Rattle.hat_division.specs.RankMaps.{row_of}
use Rattle.hat_division.proofs.rank_maps.rows_of.Given as goal

abbrev pub invariant-loop-bidegree : goal.invariant-loop-bidegree
invariant-loop-bidegree l = l.rows.items ++ map row_of l.bidegree-iterator ≡ map row_of l.ranks.entries
