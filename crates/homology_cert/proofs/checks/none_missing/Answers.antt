use Rattle.std.proofs.Common.{◌<◌, List, sym, ap, subst, ◌∙◌}
use Rattle.std.specs.List.{list_any}
use Rattle.state_rank.specs.States.{factorial}
use Rattle.torus_geom.specs.Marks.{Marks, size}
use Rattle.torus_geom.proofs.Sums.AllBelowLemmas.{all_below-false}
use Rattle.homology_cert.specs.CertificateCodes.{Cell}
use Rattle.homology_cert.specs.Inner.CodeTests.{has_bidegree}
use Rattle.homology_cert.proofs.checks.none_missing.Goals as goal

pub returns-then-not-has_cell : goal.returns-then-not-has_cell
returns-then-not-has_cell c =
    let k = c.args.c.now in
    let same_cells =
    ap (λ (cells : List Cell). list_any
    (λ (cell : Cell). has_bidegree c.grid-g.result.now cell.at c.loop-code.code) cells) c.cells.ensures.cells in
    let same_grid =
    ap (λ (g : Marks). list_any (λ (cell : Cell). has_bidegree g cell.at c.loop-code.code) k.cells)
    c.grid-g.ensures.grid in
    let fails = sym same_grid ∙ sym same_cells ∙ sym c.has_cell.ensures ∙ c.if-not-has_cell.true in
    let bound = c.state_count-code-end.ensures ∙ ap factorial (c.size.ensures.size ∙ ap size c.grid-g.ensures.grid) in
    sym (all_below-false (factorial (size k.grid))
    (λ s. list_any (λ (cell : Cell). has_bidegree k.grid cell.at s) k.cells) c.loop-code.code
    (subst (λ n. c.loop-code.code < n) bound c.loop-code-test.true) fails)
