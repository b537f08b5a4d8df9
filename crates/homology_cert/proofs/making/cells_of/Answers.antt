-- Each bidegree in turn.
use Rattle.std.proofs.Common.{◌++◌, ◌∙◌, All, w32, sym, ap, subst, append-nil, rules}
use mir.Val.{SFits}
use Rattle.std.proofs.lemmas.Int.{to_z-of_z}
use Rattle.std.proofs.lemmas.List.Elements.{All-nil}
use Rattle.homology_cert.specs.Inner.Making.{HasState, IsMadeCell}
use Rattle.hat_division.specs.RankMaps.{bidegree_key}
use Rattle.homology_cert.proofs.Made.MakingLemmas.{keys_of, ahead, keys-pushed, made-pushed, state_of-key, made-all}
use Rattle.homology_cert.proofs.making.cells_of.Goals as goal

pub loop-degree-init : goal.loop-degree-init
loop-degree-init c = record {
  made = subst (All (IsMadeCell c.args.g.now)) (sym c.new-cells.ensures.items) (All-nil (IsMadeCell c.args.g.now));
  keys = ap (λ cells. keys_of cells ++ c.into_iter-degree-iterator.result) c.new-cells.ensures.items;
}

pub cell_at-requires : goal.cell_at-requires
cell_at-requires c =
    let q = c.in-Some.degree.now in
    let fits_m : SFits w32 q.m = search rules in
    let fits_a : SFits w32 q.a = search rules in
    let keys = c.into_iter-degree-iterator.ensures.into_iter_gives ∙ c.iter-degree-items.ensures.rest in
    let inside = ahead (keys_of c.loop-degree.cells.items) c.next.new.self c.in_ok-degrees.degrees.keys q
    (ap (λ ks. keys_of c.loop-degree.cells.items ++ ks) (sym c.in-Some.ensures.steps) ∙ c.loop-degree.invariant.keys
    ∙ keys) in
    subst (HasState c.args.g.now) (λ i. (sym (to_z-of_z w32 q.m fits_m) i, sym (to_z-of_z w32 q.a fits_a) i))
    (state_of-key c.args.g.now c.in_ok-degrees.degrees c.in_ok-degrees.ensures q inside)

pub loop-degree-preserved : goal.loop-degree-preserved
loop-degree-preserved c =
    let q = c.in-Some.degree.now in
    let fits_m : SFits w32 q.m = search rules in
    let fits_a : SFits w32 q.a = search rules in
    record {
      made = made-pushed c.args.g.now c.loop-degree.cells.items c.push.new.self.items c.in_ok-cell.cell
          c.loop-degree.invariant.made c.in_ok-push.ensures.items c.in_ok-cell.ensures.0;
      keys = keys-pushed c.loop-degree.cells.items c.push.new.self.items c.in_ok-cell.cell c.next.new.self
          c.into_iter-degree-iterator.result q
          (ap (λ ks. keys_of c.loop-degree.cells.items ++ ks) (sym c.in-Some.ensures.steps)
          ∙ c.loop-degree.invariant.keys)
          c.in_ok-push.ensures.items
          (ap bidegree_key c.in_ok-cell.ensures.1
          ∙ (λ i. record { m = to_z-of_z w32 q.m fits_m i; a = to_z-of_z w32 q.a fits_a i }));
    }

pub returns : goal.returns
returns c =
    let cells = c.loop-degree.cells.items in
    let keys = c.into_iter-degree-iterator.ensures.into_iter_gives ∙ c.iter-degree-items.ensures.rest in
    made-all c.args.g.now c.in_ok-degrees.degrees cells c.in_ok-degrees.ensures
    c.iter-degree-items.ensures.ordered
    (sym (append-nil (keys_of cells)) ∙ ap (λ ks. keys_of cells ++ ks) (sym c.in-None.ensures.steps.0)
    ∙ c.loop-degree.invariant.keys ∙ keys)
    c.loop-degree.invariant.made
