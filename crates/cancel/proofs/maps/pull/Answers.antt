-- The pull of a code is the set of the codes whose rest holds it.
use Rattle.std.proofs.Common.{ap, sym, subst, ◌∙◌}
use Rattle.std.proofs.lemmas.Result.{IfOk-weaker}
use Rattle.f2_algebra.specs.Chain.{single}
use Rattle.f2_algebra.specs.Cancel.{IsPull, pull}
use Rattle.f2_algebra.proofs.Cancelling.LogLemmas.{pull_IsPull}
use Rattle.f2_algebra.proofs.Cancelling.Laws.{log_laws}
use Rattle.cancel.specs.Logs.{log_of}
use Rattle.cancel.proofs.maps.pull.Goals as goal

pub returns-clause-pull : goal.returns-clause-pull
returns-clause-pull c = IfOk-weaker c.pull_along.result _ (λ f. IsPull (log_of c.args.log.now) c.args.code f) (λ f e.
    subst (IsPull (log_of c.args.log.now) c.args.code)
    (sym (e ∙ ap (λ entries. pull (log_of entries) (single c.args.code)) c.entries.ensures.entries))
    (pull_IsPull (log_of c.args.log.now) c.args.code)) c.pull_along.ensures

pub returns-clause-degrees : goal.returns-clause-degrees
returns-clause-degrees c = λ C entries rules stands. (log_laws C rules entries stands).pull_degree
