-- The rows have the ranks at all degrees but those that are left.
use Rattle.homology_cert.proofs.Components.DoneRows.{AreLeft}
use Rattle.homology_cert.proofs.component_tables.table_of.Given as goal

abbrev pub invariant-loop-a : goal.invariant-loop-a
invariant-loop-a l = AreLeft l.g l.a-iterator l.rows.items
