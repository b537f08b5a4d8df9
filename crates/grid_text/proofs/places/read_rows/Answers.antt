use Rattle.std.proofs.Common.{refl, sym, ◌∙◌, arith}
use Rattle.grid_text.proofs.Lines.SeenLemmas.{seen, length-seen}
use Rattle.grid_text.proofs.Paths.RowLemmas.{row-word, row-count, row-number, row-permutation, good-AreNumerals, twice-AreNumerals}
use Rattle.grid_text.proofs.places.read_rows.Goals as goal

pub returns-in_default-clause-err : goal.returns-in_default-clause-err
returns-in_default-clause-err c p place =
    row-word p c.args.letter.now c.args.n place (seen c.args.words.now) c.in_default.ensures.none

pub returns-then-arguments-from-clause-err : goal.returns-then-arguments-from-clause-err
returns-then-arguments-from-clause-err c p place =
    row-count p c.args.letter.now c.args.n place (seen c.args.words.now)
    (seen c.in-Some.arguments.now) c.in-Some.ensures.some
    (λ e. c.if-arguments-from.true (sym (length-seen c.in-Some.arguments.now) ∙ e ∙ sym c.from.ensures))

pub returns-in_default-read_numbers-clause-err : goal.returns-in_default-read_numbers-clause-err
returns-in_default-read_numbers-clause-err c p place =
    row-number p c.args.letter.now c.args.n place (seen c.args.words.now)
    (seen c.in-Some.arguments.now) c.in-Some.ensures.some
    (length-seen c.in-Some.arguments.now ∙ c.if-arguments-from.false ∙ c.from.ensures)
    c.in_default-read_numbers.ensures.none

pub returns-in-None-clause-err : goal.returns-in-None-clause-err
returns-in-None-clause-err c p place =
    let long = length-seen c.in-Some.arguments.now ∙ c.if-arguments-from.false ∙ c.from.ensures in
    let read = c.in-Some-read_numbers.ensures.some in
    let small = c.requires.greatest in
    row-permutation p c.args.letter.now c.args.n place (seen c.args.words.now)
    (seen c.in-Some.arguments.now) c.in-Some.ensures.some long
    (good-AreNumerals c.args.n _ (seen c.in-Some.arguments.now) read (omega arith))
    (twice-AreNumerals c.args.n _ (seen c.in-Some.arguments.now) read c.requires long (c.in-None.ensures.none refl))
