-- Both codes have keys, and the arrow is looked for among those of the first.
use Rattle.std.proofs.Common.{sym, ap, ap₂, ◌∙◌}
use Rattle.f2_algebra.specs.Complex.{arrow}
use Rattle.f2_algebra.specs.Slice.{slice_complex}
use Rattle.sparse_complex.specs.Inner.Graph.{has_arrow}
use Rattle.sparse_complex.specs.Inner.Stored.{key_of}
use Rattle.sparse_complex.proofs.StoredLemmas.{no_arrow-from, no_arrow-to, arrow-live, live_is}
use Rattle.sparse_complex.proofs.ArrowChangeLemmas.{found-has_arrow}
use Rattle.sparse_complex.proofs.slices.AlexSlice.is_arrow.Goals as goal

pub returns-then-from : goal.returns-then-from
returns-then-from c =
    let k = c.find_key-from.ensures ∙ ap (λ ks. key_of ks c.args.x) c.deref.ensures.value in
    sym (no_arrow-from c.self.inside.keys.items c.self.inside.cells.items c.self.inside.links c.self.invariant.by_key
    c.args.x c.args.y (sym k ∙ c.if-from.true))
    ∙ ap (λ s. arrow (slice_complex s.slice) c.args.x c.args.y) c.self.view_is

pub returns-then-to : goal.returns-then-to
returns-then-to c =
    let k = c.find_key-to.ensures ∙ ap (λ ks. key_of ks c.args.y) c.deref-2.ensures.value in
    sym (no_arrow-to c.self.inside.keys.items c.self.inside.cells.items c.self.inside.links c.self.invariant.by_key
    c.args.x c.args.y (sym k ∙ c.if-to.true))
    ∙ ap (λ s. arrow (slice_complex s.slice) c.args.x c.args.y) c.self.view_is

pub returns : goal.returns
returns c =
    let p = c.find_key-from.ensures ∙ ap (λ ks. key_of ks c.args.x) c.deref.ensures.value in
    let q = c.find_key-to.ensures ∙ ap (λ ks. key_of ks c.args.y) c.deref-2.ensures.value in
    c.is_some.ensures
    ∙ found-has_arrow c.self.inside.links c.self.invariant.by_key.listed c.find_key-from.result c.find_key-to.result
    c.find.result c.find.ensures.found c.find.ensures.none
    ∙ ap₂ (has_arrow c.self.inside.links) p q
    ∙ sym (arrow-live c.self.inside.keys.items c.self.inside.cells.items c.self.inside.links c.self.invariant.by_key
    c.args.x c.args.y
    (live_is c.self.inside.keys.items c.args.x (λ e. c.if-from.false (p ∙ e)))
    (live_is c.self.inside.keys.items c.args.y (λ e. c.if-to.false (q ∙ e))))
    ∙ ap (λ s. arrow (slice_complex s.slice) c.args.x c.args.y) c.self.view_is
