use Rattle.std.proofs.Common.{◌≡◌, sym, ap, ◌∙◌, false}
use Rattle.f2_algebra.specs.Bigraded.{stands_before}
use Rattle.homology_cert.proofs.Texts.NextLemmas.{next-in_cell, not_told, not_true}
use Rattle.homology_cert.proofs.Texts.PlaceLemmas.{not_after}
use Rattle.homology_cert.proofs.places.cell_place.Goals as goal

pub returns-in_default : goal.returns-in_default
returns-in_default c =
    next-in_cell c.args.cells.now.items c.args.line.now c.args.g c.args.cell c.pair_place.result
    (not_told c.is_last_line.result _ c.is_last_line.ensures c.if-is_last_line.false) c.in_default.ensures.none
    c.pair_place.ensures

pub returns-then-not-stands_before : goal.returns-then-not-stands_before
returns-then-not-stands_before c q es leads =
    let at = c.degree.ensures in
    let none : stands_before c.args.cell.at (c.in-Some.d.m, c.in-Some.d.a) ≡ false =
    ap (λ d. stands_before d (c.in-Some.d.m, c.in-Some.d.a)) (sym at) ∙ sym c.stands_before.ensures
    ∙ c.if-not-stands_before.true in
    not_after c.args.g c.args.cell c.args.cells.now.items c.args.line.now (c.in-Some.d.m, c.in-Some.d.a) q es
    c.in-Some.ensures.some.0 c.in-Some.ensures.some.1
    (λ h. not_true _ none h) leads
