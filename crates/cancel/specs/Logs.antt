-- The log of a reduction, as the algebra sees it. A list of codes stands there for the set of its codes.
--     entry_of e         the entry with the sets of its lists
--     log_of entries     the log of these entries
--     HasEachOnce e      no source of the entry stands twice, and no target
--     IsPartlyCancelled old new   new is what cancelling the entries of some log in order has left of old
use Rattle.std.specs.Prelude.{◌≡◌, ◌≢◌, List, map}
use Rattle.std.specs.List.{AllPairs}
use Rattle.f2_algebra.specs.Chain.{of_codes}
use Rattle.f2_algebra.specs.Cancel.{Entry, IsLog, after}
use Rattle.f2_algebra.specs.Slice.{Slice, slice_complex}
use Rattle.cancel.specs.declared.logs.LogEntry.{LogEntry}

abbrev pub entry_of : LogEntry → Entry
entry_of e = record { x = e.x; y = e.y; sources = of_codes e.sources.now; targets = of_codes e.targets.now }

abbrev pub log_of : List LogEntry → List Entry
log_of entries = map entry_of entries

pub record HasEachOnce (e : LogEntry) : Type 0 where
  pub sources : AllPairs (λ b c. b ≢ c) e.sources.now
  pub targets : AllPairs (λ b c. b ≢ c) e.targets.now

pub record IsPartlyCancelled (old new : Slice) : Type 0 where
  pub log : List Entry
  pub stands : IsLog (slice_complex old) log
  pub is_after : slice_complex new ≡ after (slice_complex old) log
