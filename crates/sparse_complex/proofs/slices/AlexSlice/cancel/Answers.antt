-- The arrows are toggled and cut off, and the keys of the two codes taken away.
use Rattle.std.proofs.Common.{◌≡◌, ◌≤◌, ◌<◌, ℕ, true, sym, ap, subst, ◌∙◌, arith}
use Rattle.f2_algebra.specs.Complex.{arrow, IsComplex}
use Rattle.f2_algebra.specs.Cancel.{cancelled}
use Rattle.f2_algebra.specs.Slice.{slice_complex}
use Rattle.f2_algebra.proofs.Cancelling.Cancellation.{cancelled_IsComplex}
use Rattle.sparse_complex.specs.Slices.{fill}
use Rattle.sparse_complex.specs.Inner.Stored.{key_of, slice_of}
use Rattle.sparse_complex.proofs.CancelledLemmas.{can_cancel, stored_after, cancelled_after, rules_after}
use Rattle.sparse_complex.proofs.TakenKeyLemmas.{IsCut, IsCut-cleared}
use Rattle.sparse_complex.proofs.slices.AlexSlice.cancel.Goals as goal

pub fill-requires-clause-ends : goal.fill-requires-clause-ends
fill-requires-clause-ends c =
    let is : arrow
    (slice_complex (slice_of c.self.inside.keys.items c.self.inside.cells.items c.self.inside.links)) c.args.x c.args.y
    ≡ true =
    ap (λ v. arrow (slice_complex v.slice) c.args.x c.args.y) c.self.view_is ∙ c.requires.arrow in
    let p = c.find_key-from.ensures ∙ ap (λ ks. key_of ks c.args.x) c.deref.ensures.value in
    let q = c.find_key-to.ensures ∙ ap (λ ks. key_of ks c.args.y) c.deref-2.ensures.value in
    let can =
    can_cancel c.self.inside.keys.items c.self.inside.cells.items c.self.inside.links c.self.invariant.by_key c.args.x
    c.args.y c.find_key-from.result c.find_key-to.result is p q in
    (can.p_in, can.q_in)

pub fill-requires-clause-room : goal.fill-requires-clause-room
fill-requires-clause-room c =
    let is : arrow
    (slice_complex (slice_of c.self.inside.keys.items c.self.inside.cells.items c.self.inside.links)) c.args.x c.args.y
    ≡ true =
    ap (λ v. arrow (slice_complex v.slice) c.args.x c.args.y) c.self.view_is ∙ c.requires.arrow in
    let p = c.find_key-from.ensures ∙ ap (λ ks. key_of ks c.args.x) c.deref.ensures.value in
    let q = c.find_key-to.ensures ∙ ap (λ ks. key_of ks c.args.y) c.deref-2.ensures.value in
    let can =
    can_cancel c.self.inside.keys.items c.self.inside.cells.items c.self.inside.links c.self.invariant.by_key c.args.x
    c.args.y c.find_key-from.result c.find_key-to.result is p q in
    let enough = subst (λ v. fill v.slice c.args.x c.args.y ≤ v.spare) (sym c.self.view_is) c.requires.room in
    subst (λ n. n ≤ c.self.inside.links.pool.spare) (sym can.room) enough

pub clear_out-requires-clause-key : goal.clear_out-requires-clause-key
clear_out-requires-clause-key c =
    let is : arrow
    (slice_complex (slice_of c.self.inside.keys.items c.self.inside.cells.items c.self.inside.links)) c.args.x c.args.y
    ≡ true =
    ap (λ v. arrow (slice_complex v.slice) c.args.x c.args.y) c.self.view_is ∙ c.requires.arrow in
    let p = c.find_key-from.ensures ∙ ap (λ ks. key_of ks c.args.x) c.deref.ensures.value in
    let q = c.find_key-to.ensures ∙ ap (λ ks. key_of ks c.args.y) c.deref-2.ensures.value in
    let can =
    can_cancel c.self.inside.keys.items c.self.inside.cells.items c.self.inside.links c.self.invariant.by_key c.args.x
    c.args.y c.find_key-from.result c.find_key-to.result is p q in
    subst (λ n. c.find_key-from.result < n) (sym c.fill.ensures.width) can.p_in

pub clear_in-requires-clause-key : goal.clear_in-requires-clause-key
clear_in-requires-clause-key c =
    let is : arrow
    (slice_complex (slice_of c.self.inside.keys.items c.self.inside.cells.items c.self.inside.links)) c.args.x c.args.y
    ≡ true =
    ap (λ v. arrow (slice_complex v.slice) c.args.x c.args.y) c.self.view_is ∙ c.requires.arrow in
    let p = c.find_key-from.ensures ∙ ap (λ ks. key_of ks c.args.x) c.deref.ensures.value in
    let q = c.find_key-to.ensures ∙ ap (λ ks. key_of ks c.args.y) c.deref-2.ensures.value in
    let can =
    can_cancel c.self.inside.keys.items c.self.inside.cells.items c.self.inside.links c.self.invariant.by_key c.args.x
    c.args.y c.find_key-from.result c.find_key-to.result is p q in
    subst (λ n. c.find_key-from.result < n) (sym (c.clear_out.ensures.width ∙ c.fill.ensures.width)) can.p_in

pub clear_out-requires-2-clause-key : goal.clear_out-requires-2-clause-key
clear_out-requires-2-clause-key c =
    let is : arrow
    (slice_complex (slice_of c.self.inside.keys.items c.self.inside.cells.items c.self.inside.links)) c.args.x c.args.y
    ≡ true =
    ap (λ v. arrow (slice_complex v.slice) c.args.x c.args.y) c.self.view_is ∙ c.requires.arrow in
    let p = c.find_key-from.ensures ∙ ap (λ ks. key_of ks c.args.x) c.deref.ensures.value in
    let q = c.find_key-to.ensures ∙ ap (λ ks. key_of ks c.args.y) c.deref-2.ensures.value in
    let can =
    can_cancel c.self.inside.keys.items c.self.inside.cells.items c.self.inside.links c.self.invariant.by_key c.args.x
    c.args.y c.find_key-from.result c.find_key-to.result is p q in
    subst (λ n. c.find_key-to.result < n)
    (sym (c.clear_in.ensures.width ∙ c.clear_out.ensures.width ∙ c.fill.ensures.width)) can.q_in

pub clear_in-requires-2-clause-key : goal.clear_in-requires-2-clause-key
clear_in-requires-2-clause-key c =
    let is : arrow
    (slice_complex (slice_of c.self.inside.keys.items c.self.inside.cells.items c.self.inside.links)) c.args.x c.args.y
    ≡ true =
    ap (λ v. arrow (slice_complex v.slice) c.args.x c.args.y) c.self.view_is ∙ c.requires.arrow in
    let p = c.find_key-from.ensures ∙ ap (λ ks. key_of ks c.args.x) c.deref.ensures.value in
    let q = c.find_key-to.ensures ∙ ap (λ ks. key_of ks c.args.y) c.deref-2.ensures.value in
    let can =
    can_cancel c.self.inside.keys.items c.self.inside.cells.items c.self.inside.links c.self.invariant.by_key c.args.x
    c.args.y c.find_key-from.result c.find_key-to.result is p q in
    subst (λ n. c.find_key-to.result < n)
    (sym (c.clear_out-2.ensures.width ∙ c.clear_in.ensures.width ∙ c.clear_out.ensures.width ∙ c.fill.ensures.width))
    can.q_in

pub index_mut-requires : goal.index_mut-requires
index_mut-requires c =
    let is : arrow
    (slice_complex (slice_of c.self.inside.keys.items c.self.inside.cells.items c.self.inside.links)) c.args.x c.args.y
    ≡ true =
    ap (λ v. arrow (slice_complex v.slice) c.args.x c.args.y) c.self.view_is ∙ c.requires.arrow in
    let p = c.find_key-from.ensures ∙ ap (λ ks. key_of ks c.args.x) c.deref.ensures.value in
    let q = c.find_key-to.ensures ∙ ap (λ ks. key_of ks c.args.y) c.deref-2.ensures.value in
    let can =
    can_cancel c.self.inside.keys.items c.self.inside.cells.items c.self.inside.links c.self.invariant.by_key c.args.x
    c.args.y c.find_key-from.result c.find_key-to.result is p q in
    let l = can.x_in in
    omega arith

pub index_mut-requires-2 : goal.index_mut-requires-2
index_mut-requires-2 c =
    let is : arrow
    (slice_complex (slice_of c.self.inside.keys.items c.self.inside.cells.items c.self.inside.links)) c.args.x c.args.y
    ≡ true =
    ap (λ v. arrow (slice_complex v.slice) c.args.x c.args.y) c.self.view_is ∙ c.requires.arrow in
    let p = c.find_key-from.ensures ∙ ap (λ ks. key_of ks c.args.x) c.deref.ensures.value in
    let q = c.find_key-to.ensures ∙ ap (λ ks. key_of ks c.args.y) c.deref-2.ensures.value in
    let can =
    can_cancel c.self.inside.keys.items c.self.inside.cells.items c.self.inside.links c.self.invariant.by_key c.args.x
    c.args.y c.find_key-from.result c.find_key-to.result is p q in
    let l = can.y_in in
    omega arith

pub invariant_of-self : goal.invariant_of-self
invariant_of-self c =
    let is : arrow
    (slice_complex (slice_of c.self.inside.keys.items c.self.inside.cells.items c.self.inside.links)) c.args.x c.args.y
    ≡ true =
    ap (λ v. arrow (slice_complex v.slice) c.args.x c.args.y) c.self.view_is ∙ c.requires.arrow in
    let p = c.find_key-from.ensures ∙ ap (λ ks. key_of ks c.args.x) c.deref.ensures.value in
    let q = c.find_key-to.ensures ∙ ap (λ ks. key_of ks c.args.y) c.deref-2.ensures.value in
    let cut : IsCut (key_of c.self.inside.keys.items c.args.x)
    (key_of c.self.inside.keys.items c.args.y) c.self.inside.links c.clear_in-2.new.self =
    subst (λ (t : ℕ × ℕ). IsCut t.0 t.1 c.self.inside.links c.clear_in-2.new.self) (λ i. (p i, q i))
    (IsCut-cleared c.find_key-from.result c.find_key-to.result c.self.inside.links c.fill.new.self c.clear_out.new.self
    c.clear_in.new.self c.clear_out-2.new.self c.clear_in-2.new.self
    c.fill.ensures c.clear_out.ensures c.clear_in.ensures c.clear_out-2.ensures c.clear_in-2.ensures) in
    stored_after c.self.inside.keys.items c.self.inside.cells.items c.self.inside.links c.clear_in-2.new.self
    c.self.inside.cursor c.first_with_arrow-self-inside.result c.self.invariant c.args.x c.args.y is cut
    c.first_with_arrow-self-inside.ensures.within.1 c.first_with_arrow-self-inside.ensures.none_before
    c.first_with_arrow-self-inside.ensures.some_here

pub returns-clause-cancelled : goal.returns-clause-cancelled
returns-clause-cancelled c =
    let is : arrow
    (slice_complex (slice_of c.self.inside.keys.items c.self.inside.cells.items c.self.inside.links)) c.args.x c.args.y
    ≡ true =
    ap (λ v. arrow (slice_complex v.slice) c.args.x c.args.y) c.self.view_is ∙ c.requires.arrow in
    let p = c.find_key-from.ensures ∙ ap (λ ks. key_of ks c.args.x) c.deref.ensures.value in
    let q = c.find_key-to.ensures ∙ ap (λ ks. key_of ks c.args.y) c.deref-2.ensures.value in
    let cut : IsCut (key_of c.self.inside.keys.items c.args.x)
    (key_of c.self.inside.keys.items c.args.y) c.self.inside.links c.clear_in-2.new.self =
    subst (λ (t : ℕ × ℕ). IsCut t.0 t.1 c.self.inside.links c.clear_in-2.new.self) (λ i. (p i, q i))
    (IsCut-cleared c.find_key-from.result c.find_key-to.result c.self.inside.links c.fill.new.self c.clear_out.new.self
    c.clear_in.new.self c.clear_out-2.new.self c.clear_in-2.new.self
    c.fill.ensures c.clear_out.ensures c.clear_in.ensures c.clear_out-2.ensures c.clear_in-2.ensures) in
    cancelled_after c.self.inside.keys.items c.self.inside.cells.items c.self.inside.links c.clear_in-2.new.self
    c.self.inside.cursor c.self.invariant c.args.x c.args.y is cut
    ∙ ap (λ v. cancelled (slice_complex v.slice) c.args.x c.args.y) c.self.view_is

pub returns-clause-rules : goal.returns-clause-rules
returns-clause-rules c =
    let is : arrow
    (slice_complex (slice_of c.self.inside.keys.items c.self.inside.cells.items c.self.inside.links)) c.args.x c.args.y
    ≡ true =
    ap (λ v. arrow (slice_complex v.slice) c.args.x c.args.y) c.self.view_is ∙ c.requires.arrow in
    subst (λ v. IsComplex (cancelled (slice_complex v.slice) c.args.x c.args.y)) c.self.view_is
    (rules_after c.self.inside.keys.items c.self.inside.cells.items c.self.inside.links c.self.inside.cursor
    c.self.invariant c.args.x c.args.y is)

pub returns-clause-law : goal.returns-clause-law
returns-clause-law c = λ C e rules fits. cancelled_IsComplex C rules e fits
