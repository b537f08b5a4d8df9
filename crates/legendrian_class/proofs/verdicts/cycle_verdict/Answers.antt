-- Part after part: a null one joins those before it, and one that is alive keeps the whole alive.
use Rattle.std.proofs.Common.{◌≡◌, ◌<◌, ℤ, length, refl, sym, ap, ap₂, subst, ◌∙◌, w32, rules}
use mir.Val.{SFits, of_z, to_z}
use Rattle.std.proofs.lemmas.Int.{to_z-of_z}
use Rattle.f2_algebra.specs.Chain.{codes}
use Rattle.f2_algebra.specs.Complex.{AllCells, border}
use Rattle.f2_algebra.specs.Bigraded.{at_alexander}
use Rattle.state_rank.specs.States.{factorial, unrank}
use Rattle.torus_geom.specs.Marks.{size}
use Rattle.torus_geom.specs.Degrees.{alexander}
use Rattle.torus_geom.specs.Inner.GridComplex.{grid_complex}
use Rattle.rectangles.proofs.Square.BorderLemmas.{border-grid_complex}
use Rattle.legendrian_class.specs.Inner.CodeVerdicts.{alexander_at}
use Rattle.legendrian_class.specs.Inner.Parts.{IsPartVerdict, IsNullBut}
use Rattle.legendrian_class.proofs.PartLemmas.{part_of_grid, part-cells, part-cycle, null-start, null-next, null-end, less-left, alive-whole}
use Rattle.legendrian_class.proofs.VerdictLemmas.{IsNull-by, IsAlive-by}
use Rattle.legendrian_class.proofs.verdicts.cycle_verdict.Goals as goal
use Rattle.f2_algebra.proofs.Chains.Sets.{each_code}

pub loop-code-init : goal.loop-code-init
loop-code-init c =
    null-start c.args.g.now c.args.z.now c.in_ok-left.left c.empty-bound.result c.empty-bound.ensures
    c.in_ok-left.ensures

pub unrank-requires-clause-rank : goal.unrank-requires-clause-rank
unrank-requires-clause-rank c =
    subst (λ n. c.in-Some.code < factorial n) (sym c.size-n.ensures.size)
    (each_code (λ code. code < factorial (size c.args.g.now)) c.args.z.now c.requires.indices c.in-Some.code
    (c.loop-code.invariant.within c.in-Some.code c.in-Some.ensures.least.0))

pub part_verdict-requires-clause-cells : goal.part_verdict-requires-clause-cells
part_verdict-requires-clause-cells c =
    let a = to_z w32 (of_z w32 c.alexander-a.result) in
    subst (AllCells (at_alexander a (grid_complex c.args.g.now))) (sym (part_of_grid c.args.g.now c.of-tables.result
    c.in_ok-part.part a c.args.z.now c.of-tables.ensures c.in_ok-part.ensures))
    (part-cells c.args.g.now a c.size-n.ensures.grid c.args.z.now c.requires.indices)

pub part_verdict-requires-clause-cycle : goal.part_verdict-requires-clause-cycle
part_verdict-requires-clause-cycle c =
    let a = to_z w32 (of_z w32 c.alexander-a.result) in
    ap (border (at_alexander a (grid_complex c.args.g.now))) (part_of_grid c.args.g.now c.of-tables.result
    c.in_ok-part.part a c.args.z.now c.of-tables.ensures c.in_ok-part.ensures)
    ∙ part-cycle c.args.g.now a c.size-n.ensures.grid c.args.z.now c.requires.indices
    (border-grid_complex c.args.g.now c.args.z.now ∙ c.requires.cycle)

pub returns-in-Alive : goal.returns-in-Alive
returns-in-Alive c =
    let g = c.args.g.now in
    let a = to_z w32 (of_z w32 c.alexander-a.result) in
    IsAlive-by g c.args.z.now c.in-Alive.cocycle
    (alive-whole g c.size-n.ensures.grid c.args.z.now c.requires.indices a c.in_ok-part.part (part_of_grid c.args.g.now
    c.of-tables.result c.in_ok-part.part a c.args.z.now c.of-tables.ensures c.in_ok-part.ensures)
    (border-grid_complex g c.args.z.now ∙ c.requires.cycle) c.in-Alive.cocycle
    (subst (IsPartVerdict (at_alexander a (grid_complex g)) c.in_ok-part.part) c.in-Alive.is c.in_ok-cocycle.ensures))

pub loop-code-smaller : goal.loop-code-smaller
loop-code-smaller c =
    let g = c.args.g.now in
    let a : ℤ = to_z w32 (of_z w32 c.alexander-a.result) in
    let fits : SFits w32 c.alexander-a.result = search rules in
    let each_code : a ≡ alexander_at g c.in-Some.code =
    to_z-of_z w32 c.alexander-a.result fits ∙ c.alexander-a.ensures.degree
    ∙ ap (λ h. alexander h c.unrank.result) c.of-tables.ensures
    ∙ ap (alexander g) (c.unrank.ensures.state ∙ ap (λ n. unrank n c.in-Some.code) c.size-n.ensures.size) in
    subst (λ left. length (codes left) < length (codes c.loop-code.left)) (sym c.in_ok-left-2.ensures)
    (less-left g c.size-n.ensures.grid c.args.z.now c.requires.indices a c.in_ok-part.part (part_of_grid c.args.g.now
    c.of-tables.result c.in_ok-part.part a c.args.z.now c.of-tables.ensures c.in_ok-part.ensures)
    c.loop-code.left c.loop-code.bound c.loop-code.invariant c.in-Some.code c.in-Some.ensures.least.0 each_code)

pub loop-code-preserved : goal.loop-code-preserved
loop-code-preserved c =
    let g = c.args.g.now in
    let a : ℤ = to_z w32 (of_z w32 c.alexander-a.result) in
    let fits : SFits w32 c.alexander-a.result = search rules in
    let each_code : a ≡ alexander_at g c.in-Some.code =
    to_z-of_z w32 c.alexander-a.result fits ∙ c.alexander-a.ensures.degree
    ∙ ap (λ h. alexander h c.unrank.result) c.of-tables.ensures
    ∙ ap (alexander g) (c.unrank.ensures.state ∙ ap (λ n. unrank n c.in-Some.code) c.size-n.ensures.size) in
    let sums = ap₂ (IsNullBut g c.args.z.now) c.in_ok-left-2.ensures c.in_ok-bound-in-Null.ensures in
    subst (λ (T : Type 0). T) (sym sums)
    (null-next g c.size-n.ensures.grid c.args.z.now c.requires.indices a c.in_ok-part.part (part_of_grid c.args.g.now
    c.of-tables.result c.in_ok-part.part a c.args.z.now c.of-tables.ensures c.in_ok-part.ensures)
    c.loop-code.left c.loop-code.bound c.loop-code.invariant c.in-Some.code c.in-Some.ensures.least.0 each_code
    c.in-Null.more
    (subst (IsPartVerdict (at_alexander a (grid_complex g)) c.in_ok-part.part) c.in-Null.is c.in_ok-cocycle.ensures))

pub returns : goal.returns
returns c =
    IsNull-by c.args.g.now c.args.z.now c.loop-code.bound
    (null-end c.args.g.now c.args.z.now c.loop-code.left c.loop-code.bound
    (c.in_default.ensures.none refl) c.loop-code.invariant)
