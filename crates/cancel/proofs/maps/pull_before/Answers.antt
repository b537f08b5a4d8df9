-- The pull by the first entries.
use Rattle.std.proofs.Common.{◌≡◌, take, sym, ap, subst, ◌∙◌, IfOk}
use Rattle.std.proofs.lemmas.List.{take-map}
use Rattle.std.proofs.lemmas.Result.{IfOk-weaker}
use Rattle.f2_algebra.specs.Chain.{single}
use Rattle.f2_algebra.specs.Cancel.{IsPull, pull}
use Rattle.f2_algebra.proofs.Cancelling.LogLemmas.{pull_IsPull}
use Rattle.cancel.specs.Logs.{entry_of, log_of}
use Rattle.cancel.proofs.maps.pull_before.Goals as goal

pub returns-clause-map : goal.returns-clause-map
returns-clause-map c =
    subst (λ log. IfOk c.pull_along.result (λ f. f ≡ pull log (single c.args.code)))
    (ap (λ entries. log_of (take c.args.k entries)) c.entries-entries.ensures.entries
    ∙ sym (take-map entry_of c.args.k c.args.log.now)) c.pull_along.ensures

pub returns-clause-pull : goal.returns-clause-pull
returns-clause-pull c =
    let log = take c.args.k (log_of c.args.log.now) in
    IfOk-weaker c.pull_along.result _ (λ f. IsPull log c.args.code f)
    (λ f e. subst (IsPull log c.args.code) (sym e) (pull_IsPull log c.args.code)) (returns-clause-map c)
