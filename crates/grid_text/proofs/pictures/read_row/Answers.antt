use Rattle.std.proofs.Common.{◌∙◌, sym, subst, true≢false}
use Rattle.std.specs.List.{Contains}
use Rattle.grid_text.specs.Inner.Pictures.{row_words}
use Rattle.grid_text.proofs.Paths.PictureLemmas.{read-count, read-choice, read-permutation, read-row, no_o, no_x, second_o, second_x}
use Rattle.grid_text.proofs.pictures.read_row.Goals as goal

pub returns-then-row-from-clause-err : goal.returns-then-row-from-clause-err
returns-then-row-from-clause-err c words filled e =
    read-count c.args.picture.now.size c.args.picture.now.o.items c.args.picture.now.x.items c.args.row.now words
    filled e
    (λ same. c.if-row-from.true (same ∙ sym c.from.ensures))

pub returns-then-has_bad_symbol-clause-err : goal.returns-then-has_bad_symbol-clause-err
returns-then-has_bad_symbol-clause-err c words filled e =
    read-choice c.args.picture.now.size c.args.picture.now.o.items c.args.picture.now.x.items c.args.row.now words
    filled e
    (c.if-row-from.false ∙ c.from.ensures) (sym c.has_bad_symbol.ensures ∙ c.if-has_bad_symbol.true)

pub returns-in_default-clause-err : goal.returns-in_default-clause-err
returns-in_default-clause-err c words filled e =
    read-permutation c.args.picture.now.size c.args.picture.now.o.items c.args.picture.now.x.items c.args.row.now
    words filled e
    (c.if-row-from.false ∙ c.from.ensures) (sym c.has_bad_symbol.ensures ∙ c.if-has_bad_symbol.false)
    (no_o c.args.picture.now.size c.args.picture.now.o.items c.args.picture.now.x.items (row_words c.args.row.now)
    c.in_default.ensures.none)

pub returns-in_default-only_column-clause-err : goal.returns-in_default-only_column-clause-err
returns-in_default-only_column-clause-err c words filled e =
    read-permutation c.args.picture.now.size c.args.picture.now.o.items c.args.picture.now.x.items c.args.row.now
    words filled e
    (c.if-row-from.false ∙ c.from.ensures) (sym c.has_bad_symbol.ensures ∙ c.if-has_bad_symbol.false)
    (no_x c.args.picture.now.size c.args.picture.now.o.items c.args.picture.now.x.items (row_words c.args.row.now)
    c.in_default-only_column.ensures.none)

pub returns-then-has_column-clause-err : goal.returns-then-has_column-clause-err
returns-then-has_column-clause-err c words filled e =
    read-permutation c.args.picture.now.size c.args.picture.now.o.items c.args.picture.now.x.items c.args.row.now
    words filled e
    (c.if-row-from.false ∙ c.from.ensures) (sym c.has_bad_symbol.ensures ∙ c.if-has_bad_symbol.false)
    (second_o c.args.picture.now.size c.args.picture.now.o.items c.args.picture.now.x.items (row_words c.args.row.now)
    c.in-Some.c c.in-Some.ensures.some
    (subst (λ columns. Contains columns c.in-Some.c) c.as_slice.ensures.value
    (c.has_column.ensures.0 c.if-has_column.true)))

pub returns-then-has_column-2-clause-err : goal.returns-then-has_column-2-clause-err
returns-then-has_column-2-clause-err c words filled e =
    read-permutation c.args.picture.now.size c.args.picture.now.o.items c.args.picture.now.x.items c.args.row.now
    words filled e
    (c.if-row-from.false ∙ c.from.ensures) (sym c.has_bad_symbol.ensures ∙ c.if-has_bad_symbol.false)
    (second_x c.args.picture.now.size c.args.picture.now.o.items c.args.picture.now.x.items (row_words c.args.row.now)
    c.in-Some-only_column.d c.in-Some-only_column.ensures.some
    (subst (λ columns. Contains columns c.in-Some-only_column.d) c.as_slice-2.ensures.value
    (c.has_column-2.ensures.0 c.if-has_column-2.true)))

pub returns-clause-ok : goal.returns-clause-ok
returns-clause-ok c =
    read-row c.args.picture.now.size c.args.picture.now.o.items c.args.picture.now.x.items c.args.row.now c.in-Some.c
    c.in-Some-only_column.d
    (c.if-row-from.false ∙ c.from.ensures) (sym c.has_bad_symbol.ensures ∙ c.if-has_bad_symbol.false)
    c.in-Some.ensures.some c.in-Some-only_column.ensures.some
    (λ m. true≢false (sym (c.has_column.ensures.1 (subst (λ columns. Contains columns c.in-Some.c)
    (sym c.as_slice.ensures.value) m)) ∙ c.if-has_column.false))
    (λ m. true≢false (sym (c.has_column-2.ensures.1 (subst (λ columns. Contains columns c.in-Some-only_column.d)
    (sym c.as_slice-2.ensures.value) m)) ∙ c.if-has_column-2.false))
