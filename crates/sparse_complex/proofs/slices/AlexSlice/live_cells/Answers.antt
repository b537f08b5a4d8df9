-- The live cells are the cells of the slice.
use Rattle.std.proofs.Common.{ℕ, List, length, subst}
use Rattle.std.proofs.lemmas.Result.{IfOk-weaker}
use Rattle.f2_algebra.specs.Slice.{slice_complex}
use Rattle.sparse_complex.specs.declared.slices.Cell.{Cell}
use Rattle.sparse_complex.specs.Slices.{ListsCells}
use Rattle.sparse_complex.specs.Inner.Stored.{ListsLive}
use Rattle.sparse_complex.proofs.LiveLemmas.{ListsCells-live}
use Rattle.sparse_complex.proofs.slices.AlexSlice.live_cells.Goals as goal

pub returns : goal.returns
returns c =
    IfOk-weaker c.live_among.result _ (λ cells. ListsCells (slice_complex c.args.self.now.slice) cells.items) (λ live l.
    subst (λ v. ListsCells (slice_complex v.slice) live.items) c.self.view_is
    (ListsCells-live c.self.inside.keys.items c.self.inside.cells.items c.self.inside.links c.self.invariant.by_key
    live.items
    (subst (λ (t : List ℕ × List Cell). ListsLive t.0 t.1 (length t.1) live.items)
    (λ i. (c.deref.ensures.value i, c.deref-2.ensures.value i)) l))) c.live_among.ensures
