-- The lift by the first entries.
use Rattle.std.proofs.Common.{◌≡◌, take, sym, ap, subst, ◌∙◌, IfOk}
use Rattle.std.proofs.lemmas.List.{take-map}
use Rattle.f2_algebra.specs.Chain.{single}
use Rattle.f2_algebra.specs.Cancel.{lift}
use Rattle.cancel.specs.Logs.{entry_of, log_of}
use Rattle.cancel.proofs.maps.lift_before.Goals as goal

pub returns : goal.returns
returns c = record {
  lift = subst (λ log. IfOk c.lift_along.result (λ z. z ≡ lift log (single c.args.code)))
      (ap (λ entries. log_of (take c.args.k entries)) c.entries-entries.ensures.entries
      ∙ sym (take-map entry_of c.args.k c.args.log.now)) c.lift_along.ensures;
}
