-- A cell whose code leads back to it is one more.
use Rattle.std.proofs.Common.{◌+◌, get_or, refl, sym, subst, ◌∙◌}
use Rattle.sparse_complex.specs.Inner.Graph.{no_cell}
use Rattle.sparse_complex.specs.Inner.Stored.{ListsLive}
use Rattle.sparse_complex.proofs.LiveLemmas.{ListsLive-more, ListsLive-same}
use Rattle.sparse_complex.proofs.slices.live_among.Goals as goal
use Rattle.sparse_complex.proofs.slices.live_among.Goals.{then-find_key-key+in_ok-push, else-find_key-key}

pub loop-key-preserved : goal.loop-key-preserved
loop-key-preserved c =
    let keys = c.args.keys.now in
    let cells = c.args.cells.now in
    let cell = get_or cells c.loop-key.key no_cell in
    elim c.if-find_key-key.branch [
      | then-find_key-key+in_ok-push w ↦
          subst (λ v. ListsLive keys cells (c.loop-key.key + 1) v.items) (sym w.live-is)
          (subst (ListsLive keys cells (c.loop-key.key + 1)) (sym w.in_ok-push.ensures.items)
          (ListsLive-more keys cells c.loop-key.key c.loop-key.live.items cell refl c.loop-key.invariant
          (sym c.find_key.ensures ∙ w.if-find_key-key.true)))
      | else-find_key-key w ↦
          subst (λ v. ListsLive keys cells (c.loop-key.key + 1) v.items) (sym w.live-is)
          (ListsLive-same keys cells c.loop-key.key c.loop-key.live.items cell refl c.loop-key.invariant
          (λ e. w.if-find_key-key.false (c.find_key.ensures ∙ e)))
    ]
