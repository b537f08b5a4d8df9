-- Each cancelled arrow is one more entry; if no arrow is found, the slice is reduced.
use Rattle.std.proofs.Common.{◌++◌, ◌∷◌, [], refl, subst, sym, ◌∙◌}
use Rattle.std.specs.List.{All}
use Rattle.f2_algebra.specs.Slice.{IsReduced}
use Rattle.cancel.specs.Logs.{log_of, HasEachOnce}
use Rattle.sparse_complex.proofs.QueryLemmas.{on_err-from}
use Rattle.cancel.proofs.ReductionLemmas.{LeadsTo, LeadsTo-push, LeadsTo_IsReduced, LeadsTo_IsPartlyCancelled, live_count_falls}
use Rattle.cancel.proofs.reductions.cancel_all.Goals as goal

pub loop-arrow-smaller : goal.loop-arrow-smaller
loop-arrow-smaller c =
    live_count_falls c.loop-arrow.slice.slice c.cancel_arrow.new.slice.slice c.in_ok-entry.entry.x c.in_ok-entry.entry.y
    c.in_ok-entry.ensures.entry.arrows c.in_ok-entry.ensures.cancelled

pub loop-arrow-preserved : goal.loop-arrow-preserved
loop-arrow-preserved c =
    subst (LeadsTo c.args.slice.now.slice c.cancel_arrow.new.slice.slice) (sym c.in_ok-push.ensures.items)
    (LeadsTo-push c.args.slice.now.slice c.loop-arrow.slice.slice c.cancel_arrow.new.slice.slice
    c.loop-arrow.entries.items c.in_ok-entry.entry c.loop-arrow.invariant c.in_ok-entry.ensures.entry
    c.in_ok-entry.ensures.once c.in_ok-entry.ensures.cancelled)

pub returns-in_err-entry-clause-left : goal.returns-in_err-entry-clause-left
returns-in_err-entry-clause-left c =
    on_err-from c.from_residual.result
    (LeadsTo_IsPartlyCancelled c.args.slice.now.slice c.loop-arrow.slice.slice c.cancel_arrow.new.slice.slice
    c.loop-arrow.entries.items c.loop-arrow.invariant c.in_err-entry.ensures.same)

pub returns-in_err-push-clause-left : goal.returns-in_err-push-clause-left
returns-in_err-push-clause-left c =
    on_err-from c.from_residual-in_err-push.result
    (LeadsTo_IsPartlyCancelled c.args.slice.now.slice c.cancel_arrow.new.slice.slice c.cancel_arrow.new.slice.slice
    (c.loop-arrow.entries.items ++ c.in_ok-entry.entry ∷ [])
    (LeadsTo-push c.args.slice.now.slice c.loop-arrow.slice.slice c.cancel_arrow.new.slice.slice
    c.loop-arrow.entries.items c.in_ok-entry.entry c.loop-arrow.invariant c.in_ok-entry.ensures.entry
    c.in_ok-entry.ensures.once c.in_ok-entry.ensures.cancelled) refl)

pub returns-clause-reduced : goal.returns-clause-reduced
returns-clause-reduced c =
    subst (λ entries. IsReduced c.args.slice.now.slice c.loop-arrow.slice.slice (log_of entries))
    (sym (c.of.ensures ∙ c.into_bump_slice.ensures))
    (LeadsTo_IsReduced c.args.slice.now.slice c.loop-arrow.slice.slice c.loop-arrow.entries.items c.loop-arrow.invariant
    (c.in_default.ensures.none refl))

pub returns-clause-once : goal.returns-clause-once
returns-clause-once c =
    subst (All HasEachOnce) (sym (c.of.ensures ∙ c.into_bump_slice.ensures)) c.loop-arrow.invariant.once
