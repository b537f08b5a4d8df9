-- The rest of what is left over the entries that are ahead is the whole rest, and so with the marks.
use Rattle.std.proofs.Common.{◌≡◌, ◌++◌, drop}
use Rattle.f2_algebra.specs.Cancel.{rest}
use Rattle.cancel.specs.Logs.{log_of}
use Rattle.cancel.specs.Inner.Passes.{held}
use Rattle.cancel.proofs.maps.rest_along.Given as goal

abbrev pub invariant-loop-entry : goal.invariant-loop-entry
invariant-loop-entry l = record {
  left : rest (log_of (drop l.entry-index l.entries)) l.chain ≡ rest (log_of l.entries) l.initial.chain;
  marks : l.marks.items ++ held (log_of (drop l.entry-index l.entries)) l.chain
      ≡ held (log_of l.entries) l.initial.chain;
}
