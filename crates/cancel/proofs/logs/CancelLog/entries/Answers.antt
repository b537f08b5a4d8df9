-- The type keeps it.
use Rattle.std.proofs.Common.{subst}
use Rattle.std.specs.List.{All}
use Rattle.cancel.specs.Logs.{HasEachOnce}
use Rattle.cancel.proofs.logs.CancelLog.entries.Goals as goal

pub returns-clause-once : goal.returns-clause-once
returns-clause-once c = subst (All HasEachOnce) c.self.view_is c.self.invariant
