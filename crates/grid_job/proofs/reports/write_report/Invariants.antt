use Rattle.std.proofs.Common.{◌≡◌}
use Rattle.legendrian_class.specs.FollowedCodes.{followed_of}
use Rattle.grid_job.specs.InForce.{at_start}
use Rattle.grid_job.specs.Inner.Tables.{AreTablesOf}
use Rattle.grid_job.proofs.Reported.ReportLemmas.{IsPast}
use Rattle.grid_job.proofs.reports.write_report.Given as goal

-- answers to the commands so far are written, nothing has failed, and a table that is kept is one of the grid
abbrev pub invariant-loop-command : goal.invariant-loop-command
invariant-loop-command g l =
    IsPast l.version (at_start l.g) l.commands l.command-index (followed_of l.in_force) (g.K.Sink.written l.initial.out)
    (g.K.Sink.written l.out)
    × (g.K.Sink.faults l.out ≡ g.K.Sink.faults l.initial.out)
    × AreTablesOf l.in_force.grid l.tables
