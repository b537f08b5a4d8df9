-- Each step puts one arrow in.
use Rattle.std.proofs.Common.{◌≡◌, ℕ, ◌+◌, ◌<◌, ◌≤◌, length, take, get_or, w32, true, sym, ap, subst, ◌∙◌, arith, rules}
use mir.Val.{SFits}
use Rattle.std.proofs.Math.IntN.{ℤ}
use Rattle.std.proofs.lemmas.Int.{to_z-of_z}
use Rattle.std.proofs.lemmas.List.{take_all, take_more}
use Rattle.f2_algebra.specs.Bigraded.{at_alexander}
use Rattle.state_rank.specs.States.{unrank}
use Rattle.torus_geom.specs.Marks.{size}
use Rattle.torus_geom.specs.Inner.CodeBorder.{border_of_state}
use Rattle.f2_algebra.specs.Chain.{codes}
use Rattle.torus_geom.specs.Inner.GridComplex.{grid_complex}
use Rattle.sparse_complex.specs.Inner.Graph.{code_at, width, has_arrow, IsLinked}
use Rattle.sparse_complex.specs.Inner.Stored.{is_live, most_keys}
use Rattle.sparse_complex.proofs.CountLemmas.{nodes_fit}
use Rattle.sparse_complex.proofs.StoredLemmas.{key_read_zero}
use Rattle.sparse_complex.proofs.TakenKeyLemmas.{live-below}
use Rattle.sparse_complex.proofs.ArrowLemmas.{ArrowsPlace, arrows-start, arrows-step, arrows-end, source-in, target-in, not-yet, all-targets, target-live, target-fresh, listed-border}
use Rattle.sparse_complex.proofs.builds.push_arrows.Goals as goal

pub reserve-requires : goal.reserve-requires
reserve-requires c =
    let small : width c.args.links.now ≤ most_keys =
    subst (λ w. w ≤ most_keys) (sym c.requires.below.whole) c.requires.keys.small in
    let nodes = nodes_fit c.args.links.now c.requires.below.listed small in
    omega (arith, nodes, c.len.ensures.value, c.target_indices-targets.ensures.few)

pub loop-target-init : goal.loop-target-init
unfolding code_at
loop-target-init c =
    let fits : SFits w32 c.args.a = search rules in
    let room = c.in_ok-reserve.ensures.room in
    record {
      place = subst (λ (a : ℤ). ArrowsPlace (at_alexander a (grid_complex c.args.marks.now)) c.args.cells.now c.args.key
          (take 0 c.as_slice-target-items.result.now) c.reserve.new.self) (sym (to_z-of_z w32 c.args.a fits))
          (arrows-start
          (at_alexander c.args.a (grid_complex c.args.marks.now)) c.args.cells.now c.args.key c.args.links.now
          c.reserve.new.self c.requires.below c.reserve.ensures.nodes c.reserve.ensures.heads);
      room = omega (arith, c.len.ensures.value, ap length c.as_slice-target-items.ensures, room);
    }

pub bounds-keys-target : goal.bounds-keys-target
unfolding code_at
bounds-keys-target c =
    let x_is : c.unrank-x.result ≡ unrank (size c.args.marks.now) (code_at c.args.cells.now c.args.key) =
    c.unrank-x.ensures.state ∙ ap (λ n. unrank n (code_at c.args.cells.now c.args.key)) c.size.ensures.size in
    let items = c.as_slice-target-items.result.now in
    let border : items ≡ codes (border_of_state c.args.marks.now c.unrank-x.result) =
    listed-border c.args.marks.now c.args.a c.args.cells.now c.requires.cells c.args.key c.requires.key
    c.unrank-x.result x_is
    items (c.as_slice-target-items.ensures ∙ c.target_indices-targets.ensures.indices) in
    let target : ℕ = get_or items c.loop-target.target-index 0 in
    let live : is_live c.args.keys.now target ≡ true =
    target-live c.args.marks.now c.args.a c.size.ensures.grid c.args.cells.now c.requires.cells c.args.keys.now
    c.requires.keys c.args.key c.requires.key items c.unrank-x.result x_is border
    c.loop-target.target-index 0 c.loop-target-test.true in
    live-below c.args.keys.now target live

pub link-requires-clause-ends : goal.link-requires-clause-ends
unfolding code_at
link-requires-clause-ends c =
    let x_is : c.unrank-x.result ≡ unrank (size c.args.marks.now) (code_at c.args.cells.now c.args.key) =
    c.unrank-x.ensures.state ∙ ap (λ n. unrank n (code_at c.args.cells.now c.args.key)) c.size.ensures.size in
    let items = c.as_slice-target-items.result.now in
    let border : items ≡ codes (border_of_state c.args.marks.now c.unrank-x.result) =
    listed-border c.args.marks.now c.args.a c.args.cells.now c.requires.cells c.args.key c.requires.key
    c.unrank-x.result x_is
    items (c.as_slice-target-items.ensures ∙ c.target_indices-targets.ensures.indices) in
    let fits : SFits w32 c.args.a = search rules in
    let place =
    subst (λ (a : ℤ). ArrowsPlace (at_alexander a (grid_complex c.args.marks.now)) c.args.cells.now c.args.key
    (take c.loop-target.target-index items) c.loop-target.links)
    (to_z-of_z w32 c.args.a fits) c.loop-target.invariant.place in
    let target : ℕ = get_or items c.loop-target.target-index 0 in
    let live : is_live c.args.keys.now target ≡ true =
    target-live c.args.marks.now c.args.a c.size.ensures.grid c.args.cells.now c.requires.cells c.args.keys.now
    c.requires.keys c.args.key c.requires.key items c.unrank-x.result x_is border
    c.loop-target.target-index 0 c.loop-target-test.true in
    let read = key_read_zero c.args.keys.now target (live-below c.args.keys.now target live) in
    let fresh = target-fresh c.args.marks.now c.args.a c.size.ensures.grid c.args.cells.now c.requires.cells
    c.args.keys.now c.requires.keys c.args.key c.requires.key items c.unrank-x.result x_is border
    c.loop-target.target-index 0 c.loop-target-test.true in (
      source-in
          (at_alexander c.args.a (grid_complex c.args.marks.now)) c.args.cells.now c.args.keys.now
          c.requires.keys c.args.key
          c.requires.key
          (take c.loop-target.target-index items) c.loop-target.links place target live
          fresh,
      subst (λ q. q < width c.loop-target.links) (sym read)
          (target-in
          (at_alexander c.args.a (grid_complex c.args.marks.now)) c.args.cells.now c.args.keys.now
          c.requires.keys c.args.key
          c.requires.key
          (take c.loop-target.target-index items) c.loop-target.links place target live
          fresh),
    )

pub link-requires-clause-absent : goal.link-requires-clause-absent
unfolding code_at
link-requires-clause-absent c =
    let x_is : c.unrank-x.result ≡ unrank (size c.args.marks.now) (code_at c.args.cells.now c.args.key) =
    c.unrank-x.ensures.state ∙ ap (λ n. unrank n (code_at c.args.cells.now c.args.key)) c.size.ensures.size in
    let items = c.as_slice-target-items.result.now in
    let border : items ≡ codes (border_of_state c.args.marks.now c.unrank-x.result) =
    listed-border c.args.marks.now c.args.a c.args.cells.now c.requires.cells c.args.key c.requires.key
    c.unrank-x.result x_is
    items (c.as_slice-target-items.ensures ∙ c.target_indices-targets.ensures.indices) in
    let fits : SFits w32 c.args.a = search rules in
    let place =
    subst (λ (a : ℤ). ArrowsPlace (at_alexander a (grid_complex c.args.marks.now)) c.args.cells.now c.args.key
    (take c.loop-target.target-index items) c.loop-target.links)
    (to_z-of_z w32 c.args.a fits) c.loop-target.invariant.place in
    let target : ℕ = get_or items c.loop-target.target-index 0 in
    let live : is_live c.args.keys.now target ≡ true =
    target-live c.args.marks.now c.args.a c.size.ensures.grid c.args.cells.now c.requires.cells c.args.keys.now
    c.requires.keys c.args.key c.requires.key items c.unrank-x.result x_is border
    c.loop-target.target-index 0 c.loop-target-test.true in
    let read = key_read_zero c.args.keys.now target (live-below c.args.keys.now target live) in
    let fresh = target-fresh c.args.marks.now c.args.a c.size.ensures.grid c.args.cells.now c.requires.cells
    c.args.keys.now c.requires.keys c.args.key c.requires.key items c.unrank-x.result x_is border
    c.loop-target.target-index 0 c.loop-target-test.true in
    ap (has_arrow c.loop-target.links c.args.key) read
    ∙ not-yet
    (at_alexander c.args.a (grid_complex c.args.marks.now)) c.args.cells.now c.args.keys.now c.requires.keys c.args.key
    c.requires.key
    (take c.loop-target.target-index items) c.loop-target.links place target live fresh

pub loop-target-preserved : goal.loop-target-preserved
unfolding code_at
loop-target-preserved c =
    let x_is : c.unrank-x.result ≡ unrank (size c.args.marks.now) (code_at c.args.cells.now c.args.key) =
    c.unrank-x.ensures.state ∙ ap (λ n. unrank n (code_at c.args.cells.now c.args.key)) c.size.ensures.size in
    let items = c.as_slice-target-items.result.now in
    let border : items ≡ codes (border_of_state c.args.marks.now c.unrank-x.result) =
    listed-border c.args.marks.now c.args.a c.args.cells.now c.requires.cells c.args.key c.requires.key
    c.unrank-x.result x_is
    items (c.as_slice-target-items.ensures ∙ c.target_indices-targets.ensures.indices) in
    let fits : SFits w32 c.args.a = search rules in
    let place =
    subst (λ (a : ℤ). ArrowsPlace (at_alexander a (grid_complex c.args.marks.now)) c.args.cells.now c.args.key
    (take c.loop-target.target-index items) c.loop-target.links)
    (to_z-of_z w32 c.args.a fits) c.loop-target.invariant.place in
    let target : ℕ = get_or items c.loop-target.target-index 0 in
    let live : is_live c.args.keys.now target ≡ true =
    target-live c.args.marks.now c.args.a c.size.ensures.grid c.args.cells.now c.requires.cells c.args.keys.now
    c.requires.keys c.args.key c.requires.key items c.unrank-x.result x_is border
    c.loop-target.target-index 0 c.loop-target-test.true in
    let read = key_read_zero c.args.keys.now target (live-below c.args.keys.now target live) in
    let fresh = target-fresh c.args.marks.now c.args.a c.size.ensures.grid c.args.cells.now c.requires.cells
    c.args.keys.now c.requires.keys c.args.key c.requires.key items c.unrank-x.result x_is border
    c.loop-target.target-index 0 c.loop-target-test.true in
    let linked = subst (λ q. IsLinked c.args.key q c.loop-target.links c.link.new.self) read c.link.ensures.linked in
    let more = take_more items c.loop-target.target-index 0 c.loop-target-test.true in
    let left = c.link.ensures.room in
    let room = c.loop-target.invariant.room in
    record {
      place = subst (λ (a : ℤ). ArrowsPlace (at_alexander a (grid_complex c.args.marks.now)) c.args.cells.now c.args.key
          (take (c.loop-target.target-index + 1) items) c.link.new.self)
          (sym (to_z-of_z w32 c.args.a fits))
          (subst (λ done. ArrowsPlace
          (at_alexander c.args.a (grid_complex c.args.marks.now)) c.args.cells.now c.args.key done c.link.new.self)
          (sym more)
          (arrows-step
          (at_alexander c.args.a (grid_complex c.args.marks.now)) c.args.cells.now c.args.keys.now
          c.requires.keys c.args.key
          c.requires.key
          (take c.loop-target.target-index items) c.loop-target.links place target live
          fresh c.link.new.self c.link.ensures.listed linked));
      room = omega arith;
    }

pub returns : goal.returns
unfolding code_at
returns c =
    let x_is : c.unrank-x.result ≡ unrank (size c.args.marks.now) (code_at c.args.cells.now c.args.key) =
    c.unrank-x.ensures.state ∙ ap (λ n. unrank n (code_at c.args.cells.now c.args.key)) c.size.ensures.size in
    let items = c.as_slice-target-items.result.now in
    let border : items ≡ codes (border_of_state c.args.marks.now c.unrank-x.result) =
    listed-border c.args.marks.now c.args.a c.args.cells.now c.requires.cells c.args.key c.requires.key
    c.unrank-x.result x_is
    items (c.as_slice-target-items.ensures ∙ c.target_indices-targets.ensures.indices) in
    let fits : SFits w32 c.args.a = search rules in
    let place =
    subst (λ (a : ℤ). ArrowsPlace (at_alexander a (grid_complex c.args.marks.now)) c.args.cells.now c.args.key
    (take c.loop-target.target-index items) c.loop-target.links)
    (to_z-of_z w32 c.args.a fits) c.loop-target.invariant.place in
    let all = take_all c.loop-target.target-index items c.loop-target-test.false in
    arrows-end (at_alexander c.args.a (grid_complex c.args.marks.now)) c.args.cells.now c.args.key
    items c.loop-target.links
    (subst (λ done. ArrowsPlace
    (at_alexander c.args.a (grid_complex c.args.marks.now)) c.args.cells.now c.args.key done c.loop-target.links)
    all place)
    (all-targets c.args.marks.now c.args.a c.size.ensures.grid c.args.cells.now c.requires.cells c.args.keys.now
    c.requires.keys c.args.key c.requires.key items c.unrank-x.result x_is border)
