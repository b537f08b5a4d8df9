use Rattle.std.proofs.Common.{arith, ap, length}
use Rattle.grid_text.proofs.Lines.SeenLemmas.{seen}
use Rattle.grid_text.proofs.Lines.BodyLemmas.{command-read, many-read}
use Rattle.grid_text.proofs.places.read_body_line.Goals as goal

pub returns-then-commands-ge-MAX_COMMANDS : goal.returns-then-commands-ge-MAX_COMMANDS
returns-then-commands-ge-MAX_COMMANDS c =
    many-read c.args.script c.commands.ensures.script (seen c.args.words.now) c.in-Some.command
    (command-read c.args.script (seen c.args.words.now) c.in_ok-line.field-0 c.in-Ok.line c.in-Some.command c.in-Ok.is
    c.in-Some.is c.in_ok-line.ensures) (omega (arith, ap length c.commands.ensures.commands))
