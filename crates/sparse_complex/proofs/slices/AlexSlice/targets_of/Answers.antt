-- The list of the key is read.
use Rattle.std.proofs.Common.{◌++◌, map, sym, ap, subst, ◌∙◌}
use Rattle.std.proofs.lemmas.Result.{on_ok_weaker, on_err_weaker}
use Rattle.f2_algebra.specs.Complex.{arrow}
use Rattle.f2_algebra.specs.Slice.{slice_complex}
use Rattle.sparse_complex.specs.Slices.{ListsOnce}
use Rattle.sparse_complex.specs.Inner.Graph.{targets, code_at, IsPrefix}
use Rattle.sparse_complex.specs.Inner.Stored.{key_of}
use Rattle.sparse_complex.proofs.StoredLemmas.{no_arrow-from, live_is}
use Rattle.sparse_complex.proofs.QueryLemmas.{ListsOnce-none, ListsOnce-targets, ListsSome-prefix}
use Rattle.sparse_complex.proofs.slices.AlexSlice.targets_of.Goals as goal

pub returns-then-key-clause-all : goal.returns-then-key-clause-all
returns-then-key-clause-all c =
    let k = c.find_key-key.ensures ∙ ap (λ ks. key_of ks c.args.x) c.deref.ensures.value in
    subst (λ xs. ListsOnce xs (arrow (slice_complex c.args.self.now.slice) c.args.x)) (sym c.clear.ensures.items)
    (subst (λ v. ListsOnce _ (arrow (slice_complex v.slice) c.args.x)) c.self.view_is
    (ListsOnce-none _
    (λ t. no_arrow-from c.self.inside.keys.items c.self.inside.cells.items c.self.inside.links c.self.invariant.by_key
    c.args.x t (sym k ∙ c.if-key.true))))

pub returns-clause-all : goal.returns-clause-all
returns-clause-all c =
    let k = c.find_key-key.ensures ∙ ap (λ ks. key_of ks c.args.x) c.deref.ensures.value in
    let listed =
    ListsOnce-targets c.self.inside.keys.items c.self.inside.cells.items c.self.inside.links c.self.invariant.by_key
    c.args.x (live_is c.self.inside.keys.items c.args.x (λ e. c.if-key.false (k ∙ e))) in
    on_ok_weaker c.push_targets.result
    (λ e. subst (λ xs. ListsOnce xs (arrow (slice_complex c.args.self.now.slice) c.args.x))
    (sym (e ∙ (λ i. c.clear.ensures.items i
    ++ map (code_at (c.deref-2.ensures.value i)) (targets c.self.inside.links (k i)))))
    (subst (λ v. ListsOnce (map (code_at c.self.inside.cells.items)
    (targets c.self.inside.links (key_of c.self.inside.keys.items c.args.x)))
    (arrow (slice_complex v.slice) c.args.x)) c.self.view_is listed)) c.push_targets.ensures.all

pub returns-clause-some : goal.returns-clause-some
returns-clause-some c =
    let k = c.find_key-key.ensures ∙ ap (λ ks. key_of ks c.args.x) c.deref.ensures.value in
    let listed =
    ListsOnce-targets c.self.inside.keys.items c.self.inside.cells.items c.self.inside.links c.self.invariant.by_key
    c.args.x (live_is c.self.inside.keys.items c.args.x (λ e. c.if-key.false (k ∙ e))) in
    let those : ListsOnce (map (code_at c.self.inside.cells.items)
    (targets c.self.inside.links (key_of c.self.inside.keys.items c.args.x)))
    (arrow (slice_complex c.args.self.now.slice) c.args.x) =
    subst (λ v. ListsOnce (map (code_at c.self.inside.cells.items)
    (targets c.self.inside.links (key_of c.self.inside.keys.items c.args.x)))
    (arrow (slice_complex v.slice) c.args.x)) c.self.view_is listed in
    on_err_weaker c.push_targets.result (λ p.
    ListsSome-prefix _ (map (code_at c.self.inside.cells.items)
    (targets c.self.inside.links (key_of c.self.inside.keys.items c.args.x)))
    (arrow (slice_complex c.args.self.now.slice) c.args.x)
    (subst (IsPrefix c.push_targets.new.into.items)
    (λ i. c.clear.ensures.items i ++ map (code_at (c.deref-2.ensures.value i)) (targets c.self.inside.links (k i))) p)
    those) c.push_targets.ensures.some
