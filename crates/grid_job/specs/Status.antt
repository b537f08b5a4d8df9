-- The exit statuses.
--     code s    the exit status of the program if its call ended so
use Rattle.std.specs.Prelude.{ℕ}
use Rattle.grid_job.specs.declared.statuses.Status.{Status}
use Rattle.grid_job.specs.declared.statuses.Status.TheVariants.{Done, Usage, Refused, ReadFault, WriteFault, NoMemory, No}

abbrev pub code : Status → ℕ
code Done = 0
code Usage = 1
code Refused = 2
code ReadFault = 3
code WriteFault = 4
code NoMemory = 5
code No = 6
