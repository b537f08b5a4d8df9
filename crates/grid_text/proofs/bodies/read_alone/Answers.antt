use Rattle.std.proofs.Common.{◌≡◌, ◌<◌, length, arith}
use Rattle.std.proofs.lemmas.Bool.Decides.{nat_tests}
use Rattle.grid_text.proofs.Lines.SeenLemmas.{seen, seen-none, length-seen}
use Rattle.grid_text.proofs.Lines.BodyLemmas.{alone-count, alone-read}
use Rattle.grid_text.proofs.bodies.read_alone.Goals as goal

pub returns-then-not-is_empty : goal.returns-then-not-is_empty
returns-then-not-is_empty c s =
    let some : 0 < length c.args.arguments.now = grind (arith, nat_tests) in
    alone-count s (seen c.args.arguments.now) c.args.keyword c.requires
    (omega (arith, some, length-seen c.args.arguments.now))

pub returns : goal.returns
returns c s =
    let none : length c.args.arguments.now ≡ 0 = grind (arith, nat_tests) in
    alone-read s (seen c.args.arguments.now) c.args.keyword c.command_alone.result c.requires
    (c.command_alone.ensures c.requires) (seen-none c.args.arguments.now none)
