-- Each index gives its state.
use Rattle.std.proofs.Common.{◌≡◌, ℕ, ◌+◌, ◌<◌, ◌≤◌, List, length, map, take, ap, subst, ◌∙◌, arith}
use Rattle.std.proofs.Math.IntN.{ℤ}
use Rattle.std.proofs.lemmas.List.{length-map, length-take-le, take_all}
use Rattle.state_rank.specs.Bijection.{IsBijection}
use Rattle.state_rank.specs.States.{rank}
use Rattle.torus_geom.specs.Border.{border}
use Rattle.torus_geom.specs.Chains.{members, single}
use Rattle.torus_geom.specs.Marks.{Marks, size}
use Rattle.rectangles.proofs.Sweep.TargetStateLemmas.{target_index-below, target_states-more, target_states-are, target_states-degrees}
use Rattle.rectangles.proofs.target_states.targets.Goals as goal

pub loop-index-init : goal.loop-index-init
loop-index-init c = (c.new-states.ensures.items, c.new-states.ensures.capacity)

-- the indices that the loop goes through are those of the states of the border
indices-are : (g : Marks) (x indices items : List ℕ) (marks : Marks) → marks ≡ g
    → indices ≡ map rank (members (size marks) (border marks (single x))) → items ≡ indices
    → items ≡ map rank (members (size g) (border g (single x)))
indices-are g x indices items marks same is from =
    from ∙ is ∙ ap (λ m. map rank (members (size m) (border m (single x)))) same

pub unrank-requires-clause-rank : goal.unrank-requires-clause-rank
unrank-requires-clause-rank c =
    let is = indices-are c.args.g.now c.args.x.now c.target_indices-indices.result.items
    c.as_slice-index-items.result.now c.of.result c.of.ensures c.target_indices-indices.ensures.indices
    c.as_slice-index-items.ensures in
    target_index-below c.args.g.now c.args.x.now c.as_slice-index-items.result.now is c.loop-index.index-index
    c.loop-index-test.true c.size-n.result c.size-n.ensures.size

-- no more states than indices
room : (states : List (List ℕ)) (ys : List (List ℕ)) (items indices : List ℕ) (k capacity : ℕ) → states ≡ take k ys
    → items ≡ map rank ys → items ≡ indices → length indices ≤ 45 → k < length items → capacity ≡ 45
    → length states + 1 ≤ capacity
room states ys items indices k capacity before is from few l all =
    let e = ap length is ∙ length-map ys rank in
    let f = ap length from in
    let h = ap length before ∙ length-take-le k ys (omega arith) in
    omega arith

pub push_reserved-requires : goal.push_reserved-requires
push_reserved-requires c =
    let is = indices-are c.args.g.now c.args.x.now c.target_indices-indices.result.items
    c.as_slice-index-items.result.now c.of.result c.of.ensures c.target_indices-indices.ensures.indices
    c.as_slice-index-items.ensures in
    let h = room c.loop-index.states.items _ c.as_slice-index-items.result.now
    c.target_indices-indices.result.items c.loop-index.index-index c.loop-index.states.capacity
    c.loop-index.invariant.0 is c.as_slice-index-items.ensures c.target_indices-indices.ensures.few
    c.loop-index-test.true c.loop-index.invariant.1 in
    (omega arith, h)

pub loop-index-preserved : goal.loop-index-preserved
loop-index-preserved c =
    let is = indices-are c.args.g.now c.args.x.now c.target_indices-indices.result.items
    c.as_slice-index-items.result.now c.of.result c.of.ensures c.target_indices-indices.ensures.indices
    c.as_slice-index-items.ensures in (
      target_states-more c.args.g.now c.args.x.now c.as_slice-index-items.result.now is c.loop-index.index-index
          c.loop-index-test.true c.size-n.result c.loop-index.states.items c.push_reserved.new.self.items
          c.unrank.result c.size-n.ensures.size c.loop-index.invariant.0 c.unrank.ensures.state
          c.push_reserved.ensures.items,
      c.push_reserved.ensures.capacity ∙ c.loop-index.invariant.1,
    )

-- when the loop has gone through all
whole : (states ys : List (List ℕ)) (items : List ℕ) (k : ℕ) → items ≡ map rank ys → length items ≤ k
    → states ≡ take k ys → states ≡ ys
whole states ys items k is end before =
    before ∙ take_all k ys (let e = ap length is ∙ length-map ys rank in omega arith)

pub returns : goal.returns
returns c =
    let g = c.args.g.now in
    let x = c.args.x.now in
    let is = indices-are g x c.target_indices-indices.result.items c.as_slice-index-items.result.now c.of.result
    c.of.ensures c.target_indices-indices.ensures.indices c.as_slice-index-items.ensures in
    let all = whole c.loop-index.states.items _ c.as_slice-index-items.result.now c.loop-index.index-index is
    (let t = c.loop-index-test.false in omega arith) c.loop-index.invariant.0 in
    let sx = subst (λ n. IsBijection n x) c.requires.size c.size.ensures.state.bijection in
    let degrees = target_states-degrees g x c.size-n.ensures.grid c.loop-index.states.items all sx in
    let few = c.target_indices-indices.ensures.few in
    let from = ap length c.as_slice-index-items.ensures in
    let long = ap length all in
    let same = ap length is ∙ length-map _ rank in
    record {
      border = all;
      states = target_states-are g x c.size-n.ensures.grid c.loop-index.states.items all;
      lowers_maslov = λ k d l. ap (λ (p : ℤ × ℤ). p.0) (degrees k d l);
      keeps_alexander = λ k d l. ap (λ (p : ℤ × ℤ). p.1) (degrees k d l);
      inline = c.loop-index.invariant.1;
      few = omega arith;
    }
