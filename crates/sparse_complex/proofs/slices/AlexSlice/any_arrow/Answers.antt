-- The key at the cursor has an arrow, and if there is no such key there is none.
use Rattle.std.proofs.Common.{◌<◌, ◌≤◌, sym, ap, ap₂, subst, ◌∙◌, arith}
use Rattle.f2_algebra.specs.Complex.{arrow}
use Rattle.f2_algebra.specs.Slice.{slice_complex}
use Rattle.sparse_complex.specs.Inner.Graph.{width}
use Rattle.sparse_complex.proofs.ArrowChangeLemmas.{cell_is}
use Rattle.sparse_complex.proofs.GraphLemmas.{has_arrow-from, has_arrow-to}
use Rattle.sparse_complex.proofs.StoredLemmas.{arrow-keys}
use Rattle.sparse_complex.proofs.QueryLemmas.{none_left}
use Rattle.sparse_complex.proofs.slices.AlexSlice.any_arrow.Goals as goal

pub returns-then-self-len-clause-none : goal.returns-then-self-len-clause-none
returns-then-self-len-clause-none c = λ _ s t.
    let w = c.self.invariant.by_key.whole in
    let l : width c.self.inside.links ≤ c.self.inside.cursor = omega arith in
    sym (ap (λ v. arrow (slice_complex v.slice) s t) c.self.view_is)
    ∙ none_left c.self.inside.keys.items c.self.inside.cells.items c.self.inside.links c.self.invariant.by_key
    c.self.inside.cursor c.self.invariant.first l s t

pub index-requires-2 : goal.index-requires-2
index-requires-2 c =
    let w = c.self.invariant.by_key.whole in
    let l = has_arrow-to c.self.inside.links c.self.invariant.by_key.listed c.self.inside.cursor c.last_target-to.result
    c.last_target-to.ensures in
    omega arith

pub returns-clause-arrow : goal.returns-clause-arrow
returns-clause-arrow c =
    let st = c.self.invariant.by_key in
    let h = c.last_target-to.ensures in
    let p_in =
    subst (λ n. c.self.inside.cursor < n) (sym st.whole)
    (has_arrow-from c.self.inside.links st.listed c.self.inside.cursor c.last_target-to.result h) in
    let q_in =
    subst (λ n. c.last_target-to.result < n) (sym st.whole)
    (has_arrow-to c.self.inside.links st.listed c.self.inside.cursor c.last_target-to.result h) in
    sym (ap (λ v. arrow (slice_complex v.slice) c.index.result.now.code c.index-2.result.now.code) c.self.view_is)
    ∙ ap₂ (arrow (slice_complex _))
    (sym (cell_is c.self.inside.cells.items c.self.inside.cursor _ p_in c.index.ensures))
    (sym (cell_is c.self.inside.cells.items c.last_target-to.result _ q_in c.index-2.ensures))
    ∙ arrow-keys c.self.inside.keys.items c.self.inside.cells.items c.self.inside.links st c.self.inside.cursor
    c.last_target-to.result h
