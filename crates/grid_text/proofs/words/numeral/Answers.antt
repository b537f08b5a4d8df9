use Rattle.std.proofs.Common.{sym, arith}
use Rattle.grid_text.proofs.Lines.WordLemmas.{numeral-decimal, numeral-none, decimal-out_of_bounds}
use Rattle.grid_text.proofs.words.numeral.Goals as goal

pub returns-in_default-clause-value : goal.returns-in_default-clause-value
returns-in_default-clause-value c =
    sym (numeral-none c.args.low c.args.high c.args.word.now
    (λ v above below. c.in_default.ensures.none v (omega arith)))

pub returns-then-value-low-clause-none : goal.returns-then-value-low-clause-none
returns-then-value-low-clause-none c =
    decimal-out_of_bounds c.args.low c.args.high c.in-Some.value c.args.word.now c.in-Some.ensures.some (omega arith)
    (omega arith) c.then-value-low.either

pub returns-then-value-low-clause-value : goal.returns-then-value-low-clause-value
returns-then-value-low-clause-value c =
    sym (numeral-none c.args.low c.args.high c.args.word.now (returns-then-value-low-clause-none c))

pub returns-clause-value : goal.returns-clause-value
returns-clause-value c =
    sym (numeral-decimal c.args.low c.args.high c.in-Some.value c.args.word.now c.in-Some.ensures.some (omega arith)
    (omega arith) (omega arith))
