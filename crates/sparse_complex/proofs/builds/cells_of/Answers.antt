-- The whole visit is one branch.
use Rattle.std.proofs.Common.{◌≡◌, ◌+◌, w32, ℕ, ap, subst, sym, ◌∙◌, arith, rules}
use mir.Val.{SFits}
use Rattle.std.proofs.Math.IntN.{ℤ}
use Rattle.std.proofs.lemmas.Fn.{always_returns_same}
use Rattle.std.proofs.lemmas.Int.{ints, to_z-of_z}
use Rattle.sparse_complex.specs.declared.slices.Cell.{Cell}
use Rattle.f2_algebra.specs.Bigraded.{at_alexander}
use Rattle.state_rank.specs.States.{factorial}
use Rattle.state_rank.proofs.LehmerLemmas.{factorial_positive}
use Rattle.torus_geom.specs.Marks.{Marks, size, IsGrid}
use Rattle.torus_geom.specs.Inner.GridComplex.{grid_complex}
use Rattle.gradings.specs.Sums.{least}
use Rattle.sparse_complex.specs.Inner.Visits.{AreFirstCells}
use Rattle.sparse_complex.proofs.BuildLemmas.{AreCells-sorted}
use Rattle.sparse_complex.proofs.BranchPartLemmas.{IsBranch-all}
use Rattle.sparse_complex.proofs.VisitLemmas.{AreFirstCells-same, AreFirstCells-none}
use Rattle.sparse_complex.proofs.CellOrderLemmas.{ascending-sorted}
use Rattle.sparse_complex.proofs.builds.cells_of.Goals as goal

pub unrank-requires-clause-rank : goal.unrank-requires-clause-rank
unrank-requires-clause-rank c = factorial_positive c.size.result

pub visit-requires-clause-branch : goal.visit-requires-clause-branch
visit-requires-clause-branch c =
    let fits : SFits w32 c.args.a = search rules in
    let low = c.least.ensures.low in
    let high = c.least.ensures.high in
    let value = c.least.ensures.value ∙ ap least c.tables.ensures in
    let a_is = c.from.ensures in
    let least_is = c.from-2.ensures in
    IsBranch-all c.in_ok-sums.sums _ c.unrank.result _ c.state_count.result c.size.result
    (subst IsGrid (sym c.in_ok-sums.ensures) c.size.ensures.grid)
    (c.size.ensures.size ∙ ap size (sym c.in_ok-sums.ensures)) c.unrank.ensures.state
    (omega (arith, ints)) (c.state_count.ensures ∙ ap factorial (c.size-2.ensures.size ∙ sym c.size.ensures.size))

pub visit-requires-clause-below : goal.visit-requires-clause-below
visit-requires-clause-below c =
    AreFirstCells-same (at_alexander _ (grid_complex c.in_ok-sums.sums)) 0 _ _ c.new-cells.ensures.items
    (AreFirstCells-none (at_alexander _ (grid_complex c.in_ok-sums.sums)))

first : (c : goal.After-drop-sums-inside-2)
    → AreFirstCells (at_alexander c.args.a (grid_complex c.args.g.now)) (factorial (size c.args.g.now))
    c.visit.new.cells.items
first c =
    let fits : SFits w32 c.args.a = search rules in
    let count : 0 + c.state_count.result ≡ factorial (size c.args.g.now) =
    let e = c.state_count.ensures ∙ ap factorial c.size-2.ensures.size in omega (arith, e) in
    subst (λ (e : (Marks × ℤ) × ℕ). AreFirstCells (at_alexander e.0.1 (grid_complex e.0.0)) e.1 c.visit.new.cells.items)
    (λ i. ((c.in_ok-sums.ensures i, to_z-of_z w32 c.args.a fits i), count i)) c.in_ok-visit.ensures

pub returns-clause-cells : goal.returns-clause-cells
returns-clause-cells c =
    AreCells-sorted (at_alexander c.args.a (grid_complex c.args.g.now)) (factorial (size c.args.g.now))
    c.visit.new.cells.items (first c).are_cells c.sort_by_key.new.self.items c.sort_by_key.ensures.permutation

pub returns-clause-order : goal.returns-clause-order
returns-clause-order c =
    let key : Cell → ℤ = λ x. x.maslov in
    ascending-sorted (at_alexander c.args.a (grid_complex c.args.g.now)) (factorial (size c.args.g.now))
    c.visit.new.cells.items c.sort_by_key.new.self.items (first c) (returns-clause-cells c)
    (c.in_ok-sort_by_key.ensures.sorted key (always_returns_same _ _ _ (λ a r q k. search rules)))
    (c.sort_by_key.ensures.stable key (always_returns_same _ _ _ (λ a r q k. search rules)))
