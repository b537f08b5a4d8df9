-- The parts are those of the part of the grid complex.
use Rattle.std.proofs.Common.{List, length, w32, refl, ap, subst, ◌∙◌, rules}
use mir.Val.{SFits, to_z, of_z}
use Rattle.std.proofs.Math.IntN.{ℤ}
use Rattle.std.proofs.lemmas.Int.{to_z-of_z}
use Rattle.f2_algebra.specs.Bigraded.{at_alexander}
use Rattle.f2_algebra.specs.Slice.{slice_complex}
use Rattle.state_rank.specs.States.{factorial}
use Rattle.torus_geom.specs.Marks.{size}
use Rattle.torus_geom.specs.Inner.GridComplex.{grid_complex}
use Rattle.sparse_complex.specs.declared.slices.Cell.{Cell}
use Rattle.sparse_complex.specs.Inner.Built.{AreCells, AreKeys, AreLinksBelow}
use Rattle.sparse_complex.proofs.GridPartLemmas.{part_rules, no_cell_past}
use Rattle.sparse_complex.proofs.WholeSliceLemmas.{stored-built, built-is, built-rules}
use Rattle.sparse_complex.proofs.slices.AlexSlice.build.Goals as goal

pub of_parts-requires-clause-by_key : goal.of_parts-requires-clause-by_key
of_parts-requires-clause-by_key c =
    let fits : SFits w32 c.args.a = search rules in
    let cells =
    subst (λ (a : ℤ). AreCells (at_alexander a (grid_complex c.args.g.now))
    (factorial (size c.args.g.now)) c.in_ok-cells.cells.items)
    (to_z-of_z w32 c.args.a fits) c.in_ok-cells.ensures.cells in
    let keys =
    subst (λ (cs : List Cell). AreKeys c.in_ok-keys.keys.items cs) c.deref.ensures.value c.in_ok-keys.ensures in
    let links =
    subst (λ (a : ℤ). AreLinksBelow (at_alexander a (grid_complex c.args.g.now)) c.in_ok-cells.cells.items
    (length c.in_ok-cells.cells.items) c.in_ok-links.links) (to_z-of_z w32 c.args.a fits)
    (subst (λ (cs : List Cell). AreLinksBelow
    (at_alexander (to_z w32 (of_z w32 c.args.a)) (grid_complex c.args.g.now)) cs
    (length cs) c.in_ok-links.links) c.deref-3.ensures.value c.in_ok-links.ensures) in
    stored-built (at_alexander c.args.a (grid_complex c.args.g.now)) (factorial (size c.args.g.now))
    (part_rules c.args.g.now c.args.a c.size-size.ensures.grid) refl
    (no_cell_past c.args.g.now c.args.a) c.in_ok-cells.cells.items cells c.in_ok-keys.keys.items keys
    c.in_ok-links.links links

pub of_parts-requires-clause-rules : goal.of_parts-requires-clause-rules
of_parts-requires-clause-rules c =
    let fits : SFits w32 c.args.a = search rules in
    let cells =
    subst (λ (a : ℤ). AreCells (at_alexander a (grid_complex c.args.g.now))
    (factorial (size c.args.g.now)) c.in_ok-cells.cells.items)
    (to_z-of_z w32 c.args.a fits) c.in_ok-cells.ensures.cells in
    let keys =
    subst (λ (cs : List Cell). AreKeys c.in_ok-keys.keys.items cs) c.deref.ensures.value c.in_ok-keys.ensures in
    let links =
    subst (λ (a : ℤ). AreLinksBelow (at_alexander a (grid_complex c.args.g.now)) c.in_ok-cells.cells.items
    (length c.in_ok-cells.cells.items) c.in_ok-links.links) (to_z-of_z w32 c.args.a fits)
    (subst (λ (cs : List Cell). AreLinksBelow
    (at_alexander (to_z w32 (of_z w32 c.args.a)) (grid_complex c.args.g.now)) cs
    (length cs) c.in_ok-links.links) c.deref-3.ensures.value c.in_ok-links.ensures) in
    built-rules (at_alexander c.args.a (grid_complex c.args.g.now)) (factorial (size c.args.g.now))
    (part_rules c.args.g.now c.args.a c.size-size.ensures.grid) refl
    (no_cell_past c.args.g.now c.args.a) c.in_ok-cells.cells.items cells c.in_ok-keys.keys.items keys
    c.in_ok-links.links links

pub returns : goal.returns
returns c =
    let fits : SFits w32 c.args.a = search rules in
    let cells =
    subst (λ (a : ℤ). AreCells (at_alexander a (grid_complex c.args.g.now))
    (factorial (size c.args.g.now)) c.in_ok-cells.cells.items)
    (to_z-of_z w32 c.args.a fits) c.in_ok-cells.ensures.cells in
    let keys =
    subst (λ (cs : List Cell). AreKeys c.in_ok-keys.keys.items cs) c.deref.ensures.value c.in_ok-keys.ensures in
    let links =
    subst (λ (a : ℤ). AreLinksBelow (at_alexander a (grid_complex c.args.g.now)) c.in_ok-cells.cells.items
    (length c.in_ok-cells.cells.items) c.in_ok-links.links) (to_z-of_z w32 c.args.a fits)
    (subst (λ (cs : List Cell). AreLinksBelow
    (at_alexander (to_z w32 (of_z w32 c.args.a)) (grid_complex c.args.g.now)) cs
    (length cs) c.in_ok-links.links) c.deref-3.ensures.value c.in_ok-links.ensures) in
    ap slice_complex c.of_parts.ensures
    ∙ built-is (at_alexander c.args.a (grid_complex c.args.g.now)) (factorial (size c.args.g.now))
    (part_rules c.args.g.now c.args.a c.size-size.ensures.grid) refl
    (no_cell_past c.args.g.now c.args.a) c.in_ok-cells.cells.items cells c.in_ok-keys.keys.items keys
    c.in_ok-links.links links
