use Rattle.gradings.proofs.TableLemmas.{IsPairCount}
use Rattle.gradings.proofs.tables.pairs.Given as goal

abbrev pub invariant-loop-d : goal.invariant-loop-d
invariant-loop-d l = IsPairCount l.rows l.d l.count
