use Rattle.grid_text.specs.declared.keywords.Keyword.TheVariants as keyword
use Rattle.grid_text.proofs.Lines.SeenLemmas.{seen}
use Rattle.grid_text.proofs.Lines.BodyLemmas.{key-read}
use Rattle.grid_text.proofs.bodies.read_command.Goals as goal

pub returns-in-Class : goal.returns-in-Class
returns-in-Class c =
    key-read c.args.script.now c.args.keyword keyword.Class
    (seen c.args.arguments.now) c.read_class.result c.in-Class.is (c.read_class.ensures c.args.script.now)

pub returns-in-Turn : goal.returns-in-Turn
returns-in-Turn c =
    key-read c.args.script.now c.args.keyword keyword.Turn (seen c.args.arguments.now) c.read_turn.result c.in-Turn.is
    (c.read_turn.ensures c.args.script.now)

pub returns-in_default : goal.returns-in_default
returns-in_default c = c.read_alone.ensures c.args.script.now
