-- The list of the key is read.
use Rattle.std.proofs.Common.{◌++◌, map, sym, ap, subst, ◌∙◌}
use Rattle.std.proofs.lemmas.Result.{on_ok_weaker, on_err_weaker}
use Rattle.f2_algebra.specs.Complex.{arrow}
use Rattle.f2_algebra.specs.Slice.{slice_complex}
use Rattle.sparse_complex.specs.Slices.{ListsOnce}
use Rattle.sparse_complex.specs.Inner.Graph.{sources, code_at, IsPrefix}
use Rattle.sparse_complex.specs.Inner.Stored.{key_of}
use Rattle.sparse_complex.proofs.StoredLemmas.{no_arrow-to, live_is}
use Rattle.sparse_complex.proofs.QueryLemmas.{ListsOnce-none, ListsOnce-sources, ListsSome-prefix}
use Rattle.sparse_complex.proofs.slices.AlexSlice.sources_of.Goals as goal

pub returns-then-key-clause-all : goal.returns-then-key-clause-all
returns-then-key-clause-all c =
    let k = c.find_key-key.ensures ∙ ap (λ ks. key_of ks c.args.y) c.deref.ensures.value in
    subst (λ xs. ListsOnce xs (λ s. arrow (slice_complex c.args.self.now.slice) s c.args.y)) (sym c.clear.ensures.items)
    (subst (λ v. ListsOnce _ (λ s. arrow (slice_complex v.slice) s c.args.y)) c.self.view_is
    (ListsOnce-none _
    (λ s. no_arrow-to c.self.inside.keys.items c.self.inside.cells.items c.self.inside.links c.self.invariant.by_key s
    c.args.y (sym k ∙ c.if-key.true))))

pub returns-clause-all : goal.returns-clause-all
returns-clause-all c =
    let k = c.find_key-key.ensures ∙ ap (λ ks. key_of ks c.args.y) c.deref.ensures.value in
    let listed =
    ListsOnce-sources c.self.inside.keys.items c.self.inside.cells.items c.self.inside.links c.self.invariant.by_key
    c.args.y (live_is c.self.inside.keys.items c.args.y (λ e. c.if-key.false (k ∙ e))) in
    on_ok_weaker c.push_sources.result
    (λ e. subst (λ xs. ListsOnce xs (λ s. arrow (slice_complex c.args.self.now.slice) s c.args.y))
    (sym (e ∙ (λ i. c.clear.ensures.items i
    ++ map (code_at (c.deref-2.ensures.value i)) (sources c.self.inside.links (k i)))))
    (subst (λ v. ListsOnce (map (code_at c.self.inside.cells.items)
    (sources c.self.inside.links (key_of c.self.inside.keys.items c.args.y)))
    (λ s. arrow (slice_complex v.slice) s c.args.y)) c.self.view_is listed)) c.push_sources.ensures.all

pub returns-clause-some : goal.returns-clause-some
returns-clause-some c =
    let k = c.find_key-key.ensures ∙ ap (λ ks. key_of ks c.args.y) c.deref.ensures.value in
    let listed =
    ListsOnce-sources c.self.inside.keys.items c.self.inside.cells.items c.self.inside.links c.self.invariant.by_key
    c.args.y (live_is c.self.inside.keys.items c.args.y (λ e. c.if-key.false (k ∙ e))) in
    let those : ListsOnce (map (code_at c.self.inside.cells.items)
    (sources c.self.inside.links (key_of c.self.inside.keys.items c.args.y)))
    (λ s. arrow (slice_complex c.args.self.now.slice) s c.args.y) =
    subst (λ v. ListsOnce (map (code_at c.self.inside.cells.items)
    (sources c.self.inside.links (key_of c.self.inside.keys.items c.args.y)))
    (λ s. arrow (slice_complex v.slice) s c.args.y)) c.self.view_is listed in
    on_err_weaker c.push_sources.result (λ p.
    ListsSome-prefix _ (map (code_at c.self.inside.cells.items)
    (sources c.self.inside.links (key_of c.self.inside.keys.items c.args.y)))
    (λ s. arrow (slice_complex c.args.self.now.slice) s c.args.y)
    (subst (IsPrefix c.push_sources.new.into.items)
    (λ i. c.clear.ensures.items i ++ map (code_at (c.deref-2.ensures.value i)) (sources c.self.inside.links (k i))) p)
    those) c.push_sources.ensures.some
