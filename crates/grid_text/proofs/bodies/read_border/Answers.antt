use Rattle.std.proofs.Common.{sym, ◌∙◌, refl, get_or}
use Rattle.grid_text.specs.declared.keywords.Keyword.TheVariants as keyword
use Rattle.grid_text.proofs.Lines.SeenLemmas.{seen, seen-one, length-seen}
use Rattle.grid_text.proofs.Lines.BodyLemmas.{key-count, border-state, border-read}
use Rattle.grid_text.proofs.bodies.read_border.Goals as goal

pub returns-then-arguments-ne1 : goal.returns-then-arguments-ne1
returns-then-arguments-ne1 c =
    key-count c.args.script.now (seen c.args.arguments.now) keyword.Border 1 refl
    (λ e. c.if-arguments-ne1.true (sym (length-seen c.args.arguments.now) ∙ e))

pub returns-in-Some : goal.returns-in-Some
returns-in-Some c =
    border-read c.args.script.now c.in_force.result.now c.size.result (seen c.args.arguments.now)
    (get_or c.args.arguments.now 0 _).now c.read_state.result
    (seen-one c.args.arguments.now _ c.if-arguments-ne1.false) c.size.ensures.size c.in_force.ensures.grid
    c.read_state.ensures
    c.in_force.ensures.script c.in-Some.x c.in-Some.is

pub returns-in-None : goal.returns-in-None
returns-in-None c =
    border-state c.args.script.now c.in_force.result.now c.size.result (seen c.args.arguments.now)
    (get_or c.args.arguments.now 0 _).now c.read_state.result
    (seen-one c.args.arguments.now _ c.if-arguments-ne1.false) c.size.ensures.size c.in_force.ensures.grid
    c.read_state.ensures
    c.in-None.is
