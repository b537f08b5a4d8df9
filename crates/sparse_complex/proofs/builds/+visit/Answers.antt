-- A branch is left out, has one state, or is gone through part by part.
use Rattle.std.proofs.Common.{◌≡◌, ◌<◌, ◌+◌, ◌-◌, ◌/◌, ℕ, ℤ, w32, w64, pos, ◌+ℤ◌, min, swap, ap, subst, sym, ◌∙◌, arith, rules, refl}
use mir.Val.{SFits}
use Rattle.std.proofs.lemmas.Int.{ints, to_z-of_z}
use Rattle.std.proofs.lemmas.Result.{on_ok_weaker}
use Rattle.std.proofs.lemmas.Bool.{false≢true}
use Rattle.f2_algebra.specs.Bigraded.{at_alexander}
use Rattle.state_rank.specs.States.{factorial, unrank}
use Rattle.torus_geom.specs.Inner.GridComplex.{grid_complex}
use Rattle.torus_geom.specs.Marks.{Marks, size}
use Rattle.gradings.specs.Sums.{sum_before}
use Rattle.sparse_complex.specs.Inner.Visits.{AreFirstCells}
use Rattle.sparse_complex.specs.Inner.Visits.{IsBranch}
use Rattle.sparse_complex.proofs.BuildLemmas.{states_fit_keys}
use Rattle.sparse_complex.proofs.VisitLemmas.{branch-within, branch-none, branch-leaf, part_divisor, parts_fit}
use Rattle.sparse_complex.proofs.BranchPartLemmas.{part_within, gone-start, gone-next, gone-end, IsBranch-part}
use Rattle.sparse_complex.proofs.builds.+visit.Goals as goal

pub returns-then-not-can_give : goal.returns-then-not-can_give
returns-then-not-can_give t c =
    let fits : SFits w64 c.args.branch.now.left = search rules in
    branch-none c.args.sums.now c.requires.branch.grid c.args.a c.args.branch.now c.requires.branch
    (λ z d state within used sum.
    false≢true (sym c.if-not-can_give.true ∙ c.can_give.ensures.complete z d state within used
    (ap (λ l. l +ℤ sum_before c.args.sums.now d z) (to_z-of_z w64 c.args.branch.now.left fits) ∙ sum)))
    c.args.cells.now.items c.requires.below

pub push_cell-requires-clause-rank : goal.push_cell-requires-clause-rank
push_cell-requires-clause-rank t c =
    let s = c.requires.branch in
    let within = branch-within c.args.sums.now s.grid c.args.a c.args.branch.now s in
    let leaf = branch-leaf c.args.sums.now s.grid c.args.a c.args.branch.now s
    (c.if-c-n.true ∙ c.size-n.ensures.size ∙ s.state.long) in
    let one = leaf.1 in
    subst (λ (g : Marks). c.args.branch.now.base < factorial (size g)) (sym c.tables.ensures) (omega arith)

pub push_cell-requires-clause-state : goal.push_cell-requires-clause-state
push_cell-requires-clause-state t c =
    let s = c.requires.branch in
    let leaf = branch-leaf c.args.sums.now s.grid c.args.a c.args.branch.now s
    (c.if-c-n.true ∙ c.size-n.ensures.size ∙ s.state.long) in
    subst (λ (g : Marks). c.args.branch.now.first ≡ unrank (size g) c.args.branch.now.base)
    (sym c.tables.ensures) leaf.0

pub returns-then-c-n : goal.returns-then-c-n
returns-then-c-n t c =
    let s = c.requires.branch in
    let leaf = branch-leaf c.args.sums.now s.grid c.args.a c.args.branch.now s
    (c.if-c-n.true ∙ c.size-n.ensures.size ∙ s.state.long) in
    let fits : SFits w32 c.args.a = search rules in
    on_ok_weaker c.push_cell.result
    (λ ok. subst (λ (e : (Marks × ℤ) × ℕ). AreFirstCells (at_alexander e.0.1 (grid_complex e.0.0))
    (c.args.branch.now.base + e.1) c.push_cell.new.cells.items)
    (λ i. ((c.tables.ensures i, to_z-of_z w32 c.args.a fits i), sym leaf.1 i)) ok) c.push_cell.ensures

pub loop-next-init : goal.loop-next-init
loop-next-init t c =
    let fits : SFits w32 c.args.a = search rules in
    let s = subst (λ (a : ℤ). IsBranch c.args.sums.now a c.args.branch.now) (sym (to_z-of_z w32 c.args.a fits))
    c.requires.branch in
    let some = parts_fit c.args.sums.now _ c.args.branch.now s c.size-n.result c.size-n.ensures.size c.if-c-n.false in
    gone-start c.args.sums.now s.grid _ c.args.branch.now s some (c.args.branch.now.count / c.from.result)
    (part_divisor c.args.sums.now s.grid _ c.args.branch.now s some c.size-n.result c.from.result
    c.size-n.ensures.size c.from.ensures)
    c.args.cells.now.items
    (subst (λ (a : ℤ). AreFirstCells (at_alexander a (grid_complex c.args.sums.now)) c.args.branch.now.base
    c.args.cells.now.items) (sym (to_z-of_z w32 c.args.a fits)) c.requires.below)

pub visit-requires : goal.visit-requires
visit-requires t c =
    let fits : SFits w32 c.args.a = search rules in
    let s = subst (λ (a : ℤ). IsBranch c.args.sums.now a c.args.branch.now) (sym (to_z-of_z w32 c.args.a fits))
    c.requires.branch in
    let some = parts_fit c.args.sums.now _ c.args.branch.now s c.size-n.result c.size-n.ensures.size c.if-c-n.false in
    let count_is = part_divisor c.args.sums.now s.grid _ c.args.branch.now s some c.size-n.result c.from.result
    c.size-n.ensures.size c.from.ensures in
    let long = c.size-n.ensures.size in
    let size_is = s.state.long in
    let few = c.weight.ensures.small in
    let small = c.can_give.ensures.small c.if-not-can_give.false in
    let least = small.0 in
    let most = small.1 in
    let w_is = c.from-in-loop-next.ensures in (
      omega (arith, c.decreases, some),
      (
        IsBranch-part c.args.sums.now s.grid _ c.args.branch.now s some _ count_is c.loop-next.next c.loop-next.base
            c.loop-next.first c.loop-next.cells.items c.loop-next.invariant
            (omega (arith, c.loop-next-test.true, long, size_is)) c.row-row.result _ (pos c.weight.result) _
            c.row-row.ensures.row refl c.weight.ensures.value (omega (arith, ints)),
        c.loop-next.invariant.cells_below,
      ),
    )

pub overflow_add-base : goal.overflow_add-base
overflow_add-base t c =
    let fits : SFits w32 c.args.a = search rules in
    let s = subst (λ (a : ℤ). IsBranch c.args.sums.now a c.args.branch.now) (sym (to_z-of_z w32 c.args.a fits))
    c.requires.branch in
    let some = parts_fit c.args.sums.now _ c.args.branch.now s c.size-n.result c.size-n.ensures.size c.if-c-n.false in
    let count_is = part_divisor c.args.sums.now s.grid _ c.args.branch.now s some c.size-n.result c.from.result
    c.size-n.ensures.size c.from.ensures in
    let within = part_within c.args.sums.now s.grid _ c.args.branch.now s some _ count_is c.loop-next.next
    c.loop-next.base c.loop-next.first c.loop-next.cells.items c.loop-next.invariant
    (omega (arith, c.loop-next-test.true, c.size-n.ensures.size, s.state.long)) in
    let few = states_fit_keys (size c.args.sums.now) s.grid.is_size.greatest in
    omega (arith, within, few)

pub loop-next-preserved : goal.loop-next-preserved
loop-next-preserved t c =
    let fits : SFits w32 c.args.a = search rules in
    let s = subst (λ (a : ℤ). IsBranch c.args.sums.now a c.args.branch.now) (sym (to_z-of_z w32 c.args.a fits))
    c.requires.branch in
    let some = parts_fit c.args.sums.now _ c.args.branch.now s c.size-n.result c.size-n.ensures.size c.if-c-n.false in
    let count_is = part_divisor c.args.sums.now s.grid _ c.args.branch.now s some c.size-n.result c.from.result
    c.size-n.ensures.size c.from.ensures in
    gone-next c.args.sums.now s.grid _ c.args.branch.now s some _ count_is c.loop-next.next c.loop-next.base
    c.loop-next.first c.loop-next.cells.items c.loop-next.invariant
    (omega (arith, c.loop-next-test.true, c.size-n.ensures.size, s.state.long)) c.exchange-first.result
    c.visit.new.cells.items
    (c.exchange-first.ensures.state
    ∙ ap (swap c.loop-next.first c.args.branch.now.column)
    (c.min.ensures ∙ ap (λ n. min c.loop-next.next (n - 1)) (c.size-n.ensures.size ∙ s.state.long)))
    c.in_ok-visit.ensures

pub returns : goal.returns
returns t c =
    let fits : SFits w32 c.args.a = search rules in
    let s = subst (λ (a : ℤ). IsBranch c.args.sums.now a c.args.branch.now) (sym (to_z-of_z w32 c.args.a fits))
    c.requires.branch in
    let some = parts_fit c.args.sums.now _ c.args.branch.now s c.size-n.result c.size-n.ensures.size c.if-c-n.false in
    let count_is = part_divisor c.args.sums.now s.grid _ c.args.branch.now s some c.size-n.result c.from.result
    c.size-n.ensures.size c.from.ensures in
    subst (λ (a : ℤ). AreFirstCells (at_alexander a (grid_complex c.args.sums.now))
    (c.args.branch.now.base + c.args.branch.now.count) c.loop-next.cells.items) (to_z-of_z w32 c.args.a fits)
    (gone-end c.args.sums.now s.grid _ c.args.branch.now s some _ count_is c.loop-next.next c.loop-next.base
    c.loop-next.first c.loop-next.cells.items c.loop-next.invariant
    (omega (arith, c.loop-next-test.false, c.size-n.ensures.size, s.state.long, c.loop-next.auto.next-end)))
