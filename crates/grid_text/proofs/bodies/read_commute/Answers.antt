use Rattle.std.proofs.Common.{sym, ◌∙◌, get_or}
use Rattle.grid_text.proofs.Lines.SeenLemmas.{seen, seen-two, seen-second, length-seen}
use Rattle.grid_text.proofs.Lines.BodyLemmas.{commute-count, commute-choice, commute-number, commute-commuting, commute-read}
use Rattle.grid_text.proofs.bodies.read_commute.Goals as goal

pub returns-then-arguments-ne2 : goal.returns-then-arguments-ne2
returns-then-arguments-ne2 c =
    commute-count c.args.script.now c.args.axis (seen c.args.arguments.now)
    (λ e. c.if-arguments-ne2.true (sym (length-seen c.args.arguments.now) ∙ e))

pub returns-in_default : goal.returns-in_default
returns-in_default c =
    let words = seen-second c.args.arguments.now _ c.if-arguments-ne2.false in
    commute-choice c.args.script.now c.args.axis (seen c.args.arguments.now) words.0
    (get_or c.args.arguments.now 1 _).now c.read_corner.result
    words.1 c.read_corner.ensures c.in_default.is

pub returns-in_default-numeral : goal.returns-in_default-numeral
returns-in_default-numeral c =
    commute-number c.args.script.now c.args.axis (seen c.args.arguments.now) c.in_force-grid.result.now c.from.result
    (get_or c.args.arguments.now 0 _).now (get_or c.args.arguments.now 1 _).now c.in-Some.corner c.numeral.result
    c.read_corner.result
    (seen-two c.args.arguments.now _ _ c.if-arguments-ne2.false) c.read_corner.ensures c.in-Some.is
    (c.from.ensures ∙ c.size.ensures.size)
    c.in_force-grid.ensures.grid c.numeral.ensures.value c.in_default-numeral.is

pub returns-then-not-commutes : goal.returns-then-not-commutes
returns-then-not-commutes c =
    commute-commuting c.args.script.now c.args.axis (seen c.args.arguments.now) c.in_force-grid.result.now c.from.result
    (get_or c.args.arguments.now 0 _).now (get_or c.args.arguments.now 1 _).now c.in-Some.corner c.numeral.result
    c.read_corner.result
    (seen-two c.args.arguments.now _ _ c.if-arguments-ne2.false) c.read_corner.ensures c.in-Some.is
    (c.from.ensures ∙ c.size.ensures.size)
    c.in_force-grid.ensures.grid c.numeral.ensures.value c.in-Some-numeral.c c.in-Some-numeral.is
    (sym c.commutes.ensures ∙ c.if-not-commutes.true)

pub returns : goal.returns
returns c =
    commute-read c.args.script.now c.args.axis (seen c.args.arguments.now) c.in_force-grid.result.now c.from.result
    (get_or c.args.arguments.now 0 _).now (get_or c.args.arguments.now 1 _).now c.in-Some.corner c.numeral.result
    c.read_corner.result
    (seen-two c.args.arguments.now _ _ c.if-arguments-ne2.false) c.read_corner.ensures c.in-Some.is
    (c.from.ensures ∙ c.size.ensures.size)
    c.in_force-grid.ensures.grid c.numeral.ensures.value c.in_force-grid.ensures.script c.in-Some-numeral.c
    c.in-Some-numeral.is
    (sym c.commutes.ensures ∙ c.if-not-commutes.false)
