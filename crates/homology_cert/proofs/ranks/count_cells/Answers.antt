-- Each cell is one more of its degree.
use Rattle.std.proofs.Common.{◌≡◌, ◌+◌, ◌<◌, ◌^◌, ℤ, cond, take, get_or, Some, w32, sym, ap, subst, ◌∙◌, rules, arith}
use mir.Val.{SFits, of_z, to_z}
use Rattle.std.specs.Option.{unwrap_or}
use Rattle.std.specs.Ordering.{is_eq}
use Rattle.std.specs.BTreeMap as tree
use Rattle.std.proofs.lemmas.Int.{to_z-of_z}
use Rattle.std.proofs.lemmas.List.{take_more, length-take-le}
use Rattle.sparse_complex.specs.Inner.Graph.{no_cell}
use Rattle.gradings.specs.Degrees.{bidegree_cmp}
use Rattle.gradings.specs.declared.degrees.Bidegree.{Bidegree}
use Rattle.hat_division.specs.RankMaps.{bidegree_key, rank_in}
use Rattle.homology_cert.specs.Inner.Ranks.{AreCounted}
use Rattle.homology_cert.proofs.Homology.CountLemmas.{counted-none, counted-next, count_fits}
use Rattle.homology_cert.proofs.ranks.count_cells.Goals as goal

pub loop-cell-init : goal.loop-cell-init
loop-cell-init c =
    let fits : SFits w32 c.args.a = search rules in
    subst (λ (a : ℤ). AreCounted a (take 0 c.args.cells.now) c.args.ranks.now c.args.ranks.now)
    (sym (to_z-of_z w32 c.args.a fits))
    (counted-none c.args.a c.args.ranks.now c.requires.fresh c.requires.positive)

pub overflow_add-count : goal.overflow_add-count
overflow_add-count c =
    let cell = get_or c.args.cells.now c.loop-cell.cell-index no_cell in
    let few = c.requires.few in
    let read : c.unwrap_or-count.result
    ≡ rank_in c.loop-cell.ranks (to_z w32 (of_z w32 c.args.a)) (to_z w32 (of_z w32 cell.maslov)) =
    c.unwrap_or-count.ensures ∙ ap (λ o. unwrap_or o 0) (c.copied.ensures ∙ c.get.ensures.value) in
    let most =
    count_fits (to_z w32 (of_z w32 c.args.a)) (to_z w32 (of_z w32 cell.maslov))
    (take c.loop-cell.cell-index c.args.cells.now) c.args.ranks.now c.loop-cell.ranks c.unwrap_or-count.result read
    c.loop-cell.invariant in
    let end = c.loop-cell-test.true in
    let long = length-take-le c.loop-cell.cell-index c.args.cells.now (omega arith) in
    let sum : c.unwrap_or-count.result + 1 < 2 ^ 64 = omega arith in
    record { fits = sum }

pub loop-cell-preserved : goal.loop-cell-preserved
loop-cell-preserved c =
    let cells = c.args.cells.now in
    let i = c.loop-cell.cell-index in
    let a = to_z w32 (of_z w32 c.args.a) in
    let cell = get_or cells i no_cell in
    let fits : SFits w32 cell.maslov = search rules in
    let read : c.unwrap_or-count.result ≡ rank_in c.loop-cell.ranks a (to_z w32 (of_z w32 cell.maslov)) =
    c.unwrap_or-count.ensures ∙ ap (λ o. unwrap_or o 0) (c.copied.ensures ∙ c.get.ensures.value) in
    let adds : (q : Bidegree)
    → tree.get bidegree_cmp c.insert.new.self q
    ≡ cond (is_eq (bidegree_cmp (bidegree_key (cell.maslov, a)) q)) (Some (c.unwrap_or-count.result + 1))
    (tree.get bidegree_cmp c.loop-cell.ranks q) =
    subst (λ (m : ℤ). (q : Bidegree)
    → tree.get bidegree_cmp c.insert.new.self q
    ≡ cond (is_eq (bidegree_cmp (bidegree_key (m, a)) q)) (Some (c.unwrap_or-count.result + 1))
    (tree.get bidegree_cmp c.loop-cell.ranks q))
    (to_z-of_z w32 cell.maslov fits) c.in_ok-insert.ensures.updates.0 in
    subst (λ xs. AreCounted a xs c.args.ranks.now c.insert.new.self)
    (sym (take_more cells i no_cell c.loop-cell-test.true))
    (counted-next a (take i cells) cell c.args.ranks.now c.loop-cell.ranks c.insert.new.self c.unwrap_or-count.result
    (read ∙ ap (λ (m : ℤ). rank_in c.loop-cell.ranks a m) (to_z-of_z w32 cell.maslov fits)) adds c.loop-cell.invariant)
