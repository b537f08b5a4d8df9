-- The room is the number of the other sources times that of the other targets.
use Rattle.std.proofs.Common.{◌≡◌, ◌*◌, ◌≤◌, length, sym, ap, ap₂, subst, ◌∙◌, arith}
use Rattle.std.proofs.lemmas.Result.{on_ok_weaker}
use Rattle.sparse_complex.specs.Slices.{fill}
use Rattle.sparse_complex.specs.Inner.Graph.{sources, targets, others}
use Rattle.sparse_complex.specs.Inner.Stored.{key_of}
use Rattle.sparse_complex.proofs.CountLemmas.{nodes_fit, toggles_fit}
use Rattle.sparse_complex.proofs.StoredLemmas.{live_is, stored-reserved, slice_of-reserved}
use Rattle.sparse_complex.proofs.CancelLemmas.{room-from, room-to, fill-stored}
use Rattle.sparse_complex.proofs.slices.AlexSlice.reserve_for.Goals as goal

pub returns-then-from-clause-room : goal.returns-then-from-clause-room
returns-then-from-clause-room c =
    let k = c.find_key-from.ensures ∙ ap (λ ks. key_of ks c.args.x) c.deref.ensures.value in
    subst (λ v. fill v.slice c.args.x c.args.y ≤ v.spare) c.self.view_is
    (room-from c.self.inside.keys.items c.self.inside.cells.items c.self.inside.links c.self.invariant.by_key c.args.x
    c.args.y _ (sym k ∙ c.if-from.true))

pub returns-then-to-clause-room : goal.returns-then-to-clause-room
returns-then-to-clause-room c =
    let k = c.find_key-to.ensures ∙ ap (λ ks. key_of ks c.args.y) c.deref-2.ensures.value in
    subst (λ v. fill v.slice c.args.x c.args.y ≤ v.spare) c.self.view_is
    (room-to c.self.inside.keys.items c.self.inside.cells.items c.self.inside.links c.self.invariant.by_key c.args.x
    c.args.y _ (sym k ∙ c.if-to.true))

pub overflow_mul-sources : goal.overflow_mul-sources
overflow_mul-sources c =
    let few = toggles_fit c.self.inside.links c.self.invariant.by_key.listed c.self.invariant.by_key.small
    c.find_key-from.result c.find_key-to.result _ _ c.count_in-sources.ensures c.count_out-targets.ensures in
    omega arith

pub reserve-requires : goal.reserve-requires
reserve-requires c =
    let few = toggles_fit c.self.inside.links c.self.invariant.by_key.listed c.self.invariant.by_key.small
    c.find_key-from.result c.find_key-to.result _ _ c.count_in-sources.ensures c.count_out-targets.ensures in
    let nodes = nodes_fit c.self.inside.links c.self.invariant.by_key.listed c.self.invariant.by_key.small in
    omega arith

pub invariant_of-self : goal.invariant_of-self
invariant_of-self c =
    stored-reserved c.self.inside.keys.items c.self.inside.cells.items c.self.inside.links c.reserve.new.self
    c.self.inside.cursor c.reserve.ensures.nodes c.reserve.ensures.heads c.self.invariant

fill_is : (c : goal.After-reserve)
    → fill c.args.self.now.slice c.args.x c.args.y ≡ c.count_in-sources.result * c.count_out-targets.result
fill_is c =
    let p = c.find_key-from.ensures ∙ ap (λ ks. key_of ks c.args.x) c.deref.ensures.value in
    let q = c.find_key-to.ensures ∙ ap (λ ks. key_of ks c.args.y) c.deref-2.ensures.value in
    let links = c.self.inside.links in
    ap (λ v. fill v.slice c.args.x c.args.y) (sym c.self.view_is)
    ∙ fill-stored c.self.inside.keys.items c.self.inside.cells.items links c.self.invariant.by_key c.args.x c.args.y
    (live_is c.self.inside.keys.items c.args.x (λ e. c.if-from.false (p ∙ e)))
    (live_is c.self.inside.keys.items c.args.y (λ e. c.if-to.false (q ∙ e)))
    ∙ sym (ap₂ (λ m n. m * n)
    (c.count_in-sources.ensures ∙ ap₂ (λ j k. length (others j (sources links k))) p q)
    (c.count_out-targets.ensures ∙ ap₂ (λ j k. length (others k (targets links j))) p q))

pub returns-clause-room : goal.returns-clause-room
returns-clause-room c =
    on_ok_weaker c.reserve.result (λ ok. subst (λ n. n ≤ c.reserve.new.self.pool.spare) (sym (fill_is c)) ok)
    c.reserve.ensures.room

pub returns-clause-same : goal.returns-clause-same
returns-clause-same c =
    slice_of-reserved c.self.inside.keys.items c.self.inside.cells.items c.self.inside.links c.reserve.new.self
    c.reserve.ensures.nodes c.reserve.ensures.heads
    ∙ ap (λ v. v.slice) c.self.view_is

pub returns-clause-enough : goal.returns-clause-enough
returns-clause-enough c = λ h.
    let room = ap (λ v. v.granted) c.self.view_is in
    c.reserve.ensures.enough (omega (arith, h, fill_is c, room))

pub returns-clause-few : goal.returns-clause-few
returns-clause-few c = λ h.
    let room = ap (λ v. v.granted) c.self.view_is in
    let few = c.reserve.ensures.few (omega (arith, h, room)) in
    omega (arith, few, fill_is c)
