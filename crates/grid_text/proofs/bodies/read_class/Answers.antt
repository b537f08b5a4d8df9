use Rattle.std.proofs.Common.{sym, ◌∙◌, refl, get_or}
use Rattle.grid_text.specs.declared.keywords.Keyword.TheVariants as keyword
use Rattle.grid_text.proofs.Lines.SeenLemmas.{seen, seen-one, length-seen}
use Rattle.grid_text.proofs.Lines.BodyLemmas.{key-count, class-choice, class-read}
use Rattle.grid_text.proofs.bodies.read_class.Goals as goal

pub returns-then-arguments-ne1 : goal.returns-then-arguments-ne1
returns-then-arguments-ne1 c s =
    key-count s (seen c.args.arguments.now) keyword.Class 1 refl
    (λ e. c.if-arguments-ne1.true (sym (length-seen c.args.arguments.now) ∙ e))

pub returns-in-Some : goal.returns-in-Some
returns-in-Some c s =
    class-read s (seen c.args.arguments.now) (get_or c.args.arguments.now 0 _).now
    (seen-one c.args.arguments.now _ c.if-arguments-ne1.false)
    c.read_sign.result c.in-Some.sign c.read_sign.ensures c.in-Some.is

pub returns-in-None : goal.returns-in-None
returns-in-None c s =
    class-choice s (seen c.args.arguments.now) (get_or c.args.arguments.now 0 _).now
    (seen-one c.args.arguments.now _ c.if-arguments-ne1.false)
    c.read_sign.result c.read_sign.ensures c.in-None.is
