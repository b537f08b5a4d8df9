use Rattle.std.proofs.Common.{sym, ◌∙◌, get_or}
use Rattle.grid_text.proofs.Lines.SeenLemmas.{seen, seen-three, seen-three_first, seen-three_ends, length-seen}
use Rattle.grid_text.proofs.Lines.InvertLemmas.{invert-axis, invert-commuting, invert-corner, invert-count, invert-number, invert-read}
use Rattle.grid_text.proofs.bodies.read_invert.Goals as goal

pub returns-then-arguments-ne3 : goal.returns-then-arguments-ne3
returns-then-arguments-ne3 c =
    invert-count c.args.script.now (seen c.args.arguments.now)
    (λ e. c.if-arguments-ne3.true (sym (length-seen c.args.arguments.now) ∙ e))

pub returns-in_default : goal.returns-in_default
returns-in_default c =
    let words = seen-three_first c.args.arguments.now _ c.if-arguments-ne3.false in
    invert-axis c.args.script.now (seen c.args.arguments.now) (get_or c.args.arguments.now 0 _).now words.0 words.1
    c.read_axis.result words.2 c.read_axis.ensures c.in_default.is

pub returns-in_default-read_corner : goal.returns-in_default-read_corner
returns-in_default-read_corner c =
    let words = seen-three_ends c.args.arguments.now _ _ c.if-arguments-ne3.false in
    invert-corner c.args.script.now (seen c.args.arguments.now) (get_or c.args.arguments.now 0 _).now words.0
    (get_or c.args.arguments.now 2 _).now c.read_axis.result words.1 c.read_axis.ensures c.in-Some.axis c.in-Some.is
    c.read_corner.result c.read_corner.ensures c.in_default-read_corner.is

pub returns-in_default-numeral : goal.returns-in_default-numeral
returns-in_default-numeral c =
    invert-number c.args.script.now (seen c.args.arguments.now) (get_or c.args.arguments.now 0 _).now
    (get_or c.args.arguments.now 1 _).now (get_or c.args.arguments.now 2 _).now c.read_axis.result
    (seen-three c.args.arguments.now _ _ _ c.if-arguments-ne3.false) c.read_axis.ensures c.in-Some.axis c.in-Some.is
    c.read_corner.result c.read_corner.ensures c.in_force-grid.result.now c.from.result c.in-Some-read_corner.corner
    c.numeral.result c.in-Some-read_corner.is (c.from.ensures ∙ c.size.ensures.size) c.in_force-grid.ensures.grid
    c.numeral.ensures.value c.in_default-numeral.is

pub returns-then-not-commutes : goal.returns-then-not-commutes
returns-then-not-commutes c =
    invert-commuting c.args.script.now (seen c.args.arguments.now) (get_or c.args.arguments.now 0 _).now
    (get_or c.args.arguments.now 1 _).now (get_or c.args.arguments.now 2 _).now c.read_axis.result
    (seen-three c.args.arguments.now _ _ _ c.if-arguments-ne3.false) c.read_axis.ensures c.in-Some.axis c.in-Some.is
    c.read_corner.result c.read_corner.ensures c.in_force-grid.result.now c.from.result c.in-Some-read_corner.corner
    c.numeral.result c.in-Some-read_corner.is (c.from.ensures ∙ c.size.ensures.size) c.in_force-grid.ensures.grid
    c.numeral.ensures.value c.in-Some-numeral.c c.in-Some-numeral.is (sym c.commutes.ensures ∙ c.if-not-commutes.true)

pub returns : goal.returns
returns c =
    invert-read c.args.script.now (seen c.args.arguments.now) (get_or c.args.arguments.now 0 _).now
    (get_or c.args.arguments.now 1 _).now (get_or c.args.arguments.now 2 _).now c.read_axis.result
    (seen-three c.args.arguments.now _ _ _ c.if-arguments-ne3.false) c.read_axis.ensures c.in-Some.axis c.in-Some.is
    c.read_corner.result c.read_corner.ensures c.in_force-grid.result.now c.from.result c.in-Some-read_corner.corner
    c.numeral.result c.in-Some-read_corner.is (c.from.ensures ∙ c.size.ensures.size) c.in_force-grid.ensures.grid
    c.numeral.ensures.value c.in_force-grid.ensures.script c.in-Some-numeral.c c.in-Some-numeral.is
    (sym c.commutes.ensures ∙ c.if-not-commutes.false)
