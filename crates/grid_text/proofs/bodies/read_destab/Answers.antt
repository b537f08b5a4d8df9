use Rattle.std.proofs.Common.{sym, ◌∙◌, refl, get_or}
use Rattle.grid_text.specs.declared.keywords.Keyword.TheVariants as keyword
use Rattle.grid_text.proofs.Lines.SeenLemmas.{seen, seen-three, seen-third, seen-first_of_three, length-seen}
use Rattle.grid_text.proofs.Lines.BodyLemmas.{key-count}
use Rattle.grid_text.proofs.Lines.StabLemmas.{destab-choice, destab-column, destab-row, destab-block, destab-read}
use Rattle.grid_text.proofs.bodies.read_destab.Goals as goal

pub returns-then-arguments-ne3 : goal.returns-then-arguments-ne3
returns-then-arguments-ne3 c =
    key-count c.args.script.now (seen c.args.arguments.now) keyword.Destab 3 refl
    (λ e. c.if-arguments-ne3.true (sym (length-seen c.args.arguments.now) ∙ e))

pub returns-in_default : goal.returns-in_default
returns-in_default c =
    let words = seen-third c.args.arguments.now _ c.if-arguments-ne3.false in
    destab-choice c.args.script.now (seen c.args.arguments.now) words.0 words.1
    (get_or c.args.arguments.now 2 _).now words.2 c.read_square.result c.read_square.ensures c.in_default.is

pub returns-in_default-numeral : goal.returns-in_default-numeral
returns-in_default-numeral c =
    let words = seen-first_of_three c.args.arguments.now _ _ c.if-arguments-ne3.false in
    destab-column c.args.script.now (seen c.args.arguments.now) (get_or c.args.arguments.now 0 _).now words.0
    (get_or c.args.arguments.now 2 _).now words.1 c.in_force-grid.result.now c.from-last.result
    c.in-Some.empty c.read_square.result c.read_square.ensures c.in-Some.is
    (c.from-last.ensures ∙ c.size.ensures.size) c.in_force-grid.ensures.grid c.numeral.result c.numeral.ensures.value
    c.in_default-numeral.is

pub returns-in_default-numeral-2 : goal.returns-in_default-numeral-2
returns-in_default-numeral-2 c =
    destab-row c.args.script.now (seen c.args.arguments.now) (get_or c.args.arguments.now 0 _).now
    (get_or c.args.arguments.now 1 _).now (get_or c.args.arguments.now 2 _).now
    (seen-three c.args.arguments.now _ _ _ c.if-arguments-ne3.false) c.in_force-grid.result.now c.from-last.result
    c.in-Some.empty c.read_square.result c.read_square.ensures c.in-Some.is
    (c.from-last.ensures ∙ c.size.ensures.size) c.in_force-grid.ensures.grid c.numeral.result c.numeral.ensures.value
    c.in-Some-numeral.c c.in-Some-numeral.is c.numeral-2.result c.numeral-2.ensures.value c.in_default-numeral-2.is

pub returns-then-not-is_block : goal.returns-then-not-is_block
returns-then-not-is_block c =
    destab-block c.args.script.now (seen c.args.arguments.now) (get_or c.args.arguments.now 0 _).now
    (get_or c.args.arguments.now 1 _).now (get_or c.args.arguments.now 2 _).now
    (seen-three c.args.arguments.now _ _ _ c.if-arguments-ne3.false) c.in_force-grid.result.now c.from-last.result
    c.in-Some.empty c.read_square.result c.read_square.ensures c.in-Some.is
    (c.from-last.ensures ∙ c.size.ensures.size) c.in_force-grid.ensures.grid c.numeral.result c.numeral.ensures.value
    c.in-Some-numeral.c c.in-Some-numeral.is c.numeral-2.result c.numeral-2.ensures.value c.in-Some-numeral-2.r
    c.in-Some-numeral-2.is (sym c.is_block.ensures ∙ c.if-not-is_block.true)

pub returns : goal.returns
returns c =
    destab-read c.args.script.now (seen c.args.arguments.now) (get_or c.args.arguments.now 0 _).now
    (get_or c.args.arguments.now 1 _).now (get_or c.args.arguments.now 2 _).now
    (seen-three c.args.arguments.now _ _ _ c.if-arguments-ne3.false) c.in_force-grid.result.now c.from-last.result
    c.in-Some.empty c.read_square.result c.read_square.ensures c.in-Some.is
    (c.from-last.ensures ∙ c.size.ensures.size) c.in_force-grid.ensures.grid c.numeral.result c.numeral.ensures.value
    c.in-Some-numeral.c c.in-Some-numeral.is c.numeral-2.result c.numeral-2.ensures.value c.in-Some-numeral-2.r
    c.in-Some-numeral-2.is c.in_force-grid.ensures.script (sym c.is_block.ensures ∙ c.if-not-is_block.false)
