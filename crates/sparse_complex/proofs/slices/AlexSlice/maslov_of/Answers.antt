-- The cell of the key has the degree.
use Rattle.std.proofs.Common.{◌<◌, length, Some, w32, sym, ap, subst, ◌∙◌, rules}
use mir.Val.{SFits}
use Rattle.std.proofs.lemmas.Int.{to_z-of_z}
use Rattle.f2_algebra.specs.Slice.{slice_complex, IsSlice}
use Rattle.sparse_complex.specs.Inner.Graph.{width}
use Rattle.sparse_complex.specs.Inner.Stored.{key_of, maslov_at}
use Rattle.sparse_complex.proofs.StoredLemmas.{degree-live, degree-none, live_is, maslov_read}
use Rattle.sparse_complex.proofs.slices.AlexSlice.maslov_of.Goals as goal

pub returns-then-key-clause-degree : goal.returns-then-key-clause-degree
returns-then-key-clause-degree c =
    let k = c.find_key-key.ensures ∙ ap (λ ks. key_of ks c.args.code) c.deref.ensures.value in
    sym (degree-none c.self.inside.keys.items c.self.inside.cells.items c.self.inside.links c.args.code
    (sym k ∙ c.if-key.true))
    ∙ ap (λ s. (slice_complex s.slice).degree c.args.code) c.self.view_is

pub returns-clause-degree : goal.returns-clause-degree
returns-clause-degree c =
    let k = c.find_key-key.ensures ∙ ap (λ ks. key_of ks c.args.code) c.deref.ensures.value in
    let live = live_is c.self.inside.keys.items c.args.code (λ e. c.if-key.false (k ∙ e)) in
    let st = c.self.invariant.by_key in
    let l : c.find_key-key.result < length c.self.inside.cells.items =
    subst (λ n. c.find_key-key.result < n) (sym st.whole)
    (subst (λ j. j < width c.self.inside.links) (sym k) (st.keyed c.args.code live).0) in
    let fits : SFits w32 c.index.result.now.maslov = search rules in
    ap Some (to_z-of_z w32 _ fits
    ∙ sym (maslov_read c.self.inside.cells.items c.find_key-key.result _ l c.index.ensures)
    ∙ ap (maslov_at c.self.inside.cells.items) k)
    ∙ sym (degree-live c.self.inside.keys.items c.self.inside.cells.items c.self.inside.links c.args.code live)
    ∙ ap (λ s. (slice_complex s.slice).degree c.args.code) c.self.view_is

pub returns-then-key-clause-rules : goal.returns-then-key-clause-rules
returns-then-key-clause-rules c = subst (λ v. IsSlice v.slice) c.self.view_is c.self.invariant.rules

pub returns-clause-rules : goal.returns-clause-rules
returns-clause-rules c = subst (λ v. IsSlice v.slice) c.self.view_is c.self.invariant.rules
