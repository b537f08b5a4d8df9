use Rattle.std.proofs.Common.{◌-◌, ap, arith}
use Rattle.std.specs.Prelude.{is_none}
use Rattle.grid_text.specs.Faults.{number_between}
use Rattle.grid_text.specs.Inner.Kinds.{is_bad}
use Rattle.grid_text.proofs.Lines.SeenLemmas.{seen-any}
use Rattle.grid_text.proofs.Lines.WordLemmas.{numeral-at}
use Rattle.grid_text.proofs.Paths.RowLemmas.{AreNumerals-all}
use Rattle.grid_text.proofs.places.read_numbers.Goals as goal

pub returns-in_default-clause-none : goal.returns-in_default-clause-none
returns-in_default-clause-none c =
    seen-any (is_bad (number_between 0 (c.args.n - 1))) c.args.words.now c.loop-c.c _ c.loop-c-test.true
    (ap is_none (numeral-at c.from.result c.args.n _ c.numeral.result _ c.from.ensures c.numeral.ensures.value
    c.in_default.is))

pub returns-clause-some : goal.returns-clause-some
returns-clause-some c =
    AreNumerals-all c.args.n c.loop-c.rows c.args.words.now c.loop-c.c (omega arith) c.loop-c.invariant.1
