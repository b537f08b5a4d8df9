use Rattle.std.proofs.Common.{sym, ◌∙◌, refl, get_or}
use Rattle.grid_text.specs.declared.keywords.Keyword.TheVariants as keyword
use Rattle.grid_text.proofs.Lines.SeenLemmas.{seen, seen-two, seen-second, length-seen}
use Rattle.grid_text.proofs.Lines.BodyLemmas.{key-count}
use Rattle.grid_text.proofs.Lines.StabLemmas.{stab-choice, stab-number, stab-limit, stab-read}
use Rattle.grid_text.proofs.bodies.read_stab.Goals as goal

pub returns-then-arguments-ne2 : goal.returns-then-arguments-ne2
returns-then-arguments-ne2 c =
    key-count c.args.script.now (seen c.args.arguments.now) keyword.Stab 2 refl
    (λ e. c.if-arguments-ne2.true (sym (length-seen c.args.arguments.now) ∙ e))

pub returns-in_default : goal.returns-in_default
returns-in_default c =
    let words = seen-second c.args.arguments.now _ c.if-arguments-ne2.false in
    stab-choice c.args.script.now (seen c.args.arguments.now) words.0 (get_or c.args.arguments.now 1 _).now words.1
    c.read_square.result c.read_square.ensures c.in_default.is

pub returns-in_default-numeral : goal.returns-in_default-numeral
returns-in_default-numeral c =
    stab-number c.args.script.now (seen c.args.arguments.now) (get_or c.args.arguments.now 0 _).now
    (get_or c.args.arguments.now 1 _).now (seen-two c.args.arguments.now _ _ c.if-arguments-ne2.false)
    c.in_force.result.now c.from.result c.in-Some.empty c.numeral.result c.read_square.result
    c.read_square.ensures c.in-Some.is (c.from.ensures ∙ c.size-n.ensures.size) c.in_force.ensures.grid
    c.numeral.ensures.value c.in_default-numeral.is

pub returns-then-n-eq-MAX_SIZE : goal.returns-then-n-eq-MAX_SIZE
returns-then-n-eq-MAX_SIZE c =
    stab-limit c.args.script.now (seen c.args.arguments.now) (get_or c.args.arguments.now 0 _).now
    (get_or c.args.arguments.now 1 _).now (seen-two c.args.arguments.now _ _ c.if-arguments-ne2.false)
    c.in_force.result.now c.from.result c.in-Some.empty c.numeral.result c.read_square.result
    c.read_square.ensures c.in-Some.is (c.from.ensures ∙ c.size-n.ensures.size) c.in_force.ensures.grid
    c.numeral.ensures.value c.in-Some-numeral.c c.in-Some-numeral.is (c.from.ensures ∙ c.if-n-eq-MAX_SIZE.true)

pub returns : goal.returns
returns c =
    stab-read c.args.script.now (seen c.args.arguments.now) (get_or c.args.arguments.now 0 _).now
    (get_or c.args.arguments.now 1 _).now (seen-two c.args.arguments.now _ _ c.if-arguments-ne2.false)
    c.in_force.result.now c.from.result c.in-Some.empty c.numeral.result c.read_square.result
    c.read_square.ensures c.in-Some.is (c.from.ensures ∙ c.size-n.ensures.size) c.in_force.ensures.grid
    c.numeral.ensures.value c.in_force.ensures.script c.in-Some-numeral.c c.in-Some-numeral.is
    (λ e. c.if-n-eq-MAX_SIZE.false (sym c.from.ensures ∙ e))
