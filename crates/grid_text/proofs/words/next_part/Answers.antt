use Rattle.std.proofs.Common.{◌<◌, length, arith}
use Rattle.std.proofs.lemmas.Bool.Decides.{nat_tests}
use Rattle.grid_text.proofs.Lines.PartLemmas.{parts-found, shorter-found, parts-none}
use Rattle.grid_text.proofs.words.next_part.Goals as goal

pub returns-in-Some-clause-some : goal.returns-in-Some-clause-some
returns-in-Some-clause-some c =
    parts-found c.args.ends.now c.args.bytes.now c.in-Some.part.now c.in-Some.after.now c.in-Some.ensures.some

pub returns-in-Some-clause-shorter : goal.returns-in-Some-clause-shorter
returns-in-Some-clause-shorter c =
    shorter-found c.args.ends.now c.args.bytes.now c.in-Some.part.now c.in-Some.after.now c.in-Some.ensures.some

pub returns-in-None-clause-some : goal.returns-in-None-clause-some
returns-in-None-clause-some c =
    let some : 0 < length c.args.bytes.now = grind (arith, nat_tests) in
    parts-none c.args.ends.now c.args.bytes.now some c.in-None.ensures.none
