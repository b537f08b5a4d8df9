use Rattle.std.proofs.Common.{◌∙◌, sym, ap, ◌++◌, ◌∷◌}
use Rattle.std.specs.Fmt.{signed_decimal}
use Rattle.homology_cert.proofs.Texts.ByteLemmas.{degree_words, no_space, degree_parts}
use Rattle.homology_cert.proofs.words.degree_of.Goals as goal

pub returns-in_default-clause-none : goal.returns-in_default-clause-none
returns-in_default-clause-none c d small e =
    let rest = signed_decimal d.0 ++ 32 ∷ signed_decimal d.1 in
    c.in_default.ensures rest (degree_words c.args.line.now c.args.line.now d small e
    ∙ ap (λ p. p ++ rest) (sym c.as_slice.ensures))

pub returns-in_default-first_word-clause-none : goal.returns-in_default-first_word-clause-none
returns-in_default-first_word-clause-none c d small e =
    let words = c.in-Some.words.now in
    no_space c.args.line.now words d small e (c.in-Some.ensures ∙ ap (λ p. p ++ words) c.as_slice.ensures)
    c.in_default-first_word.ensures.none

pub returns-in_default-degree_word-clause-none : goal.returns-in_default-degree_word-clause-none
returns-in_default-degree_word-clause-none c d small e =
    let words = c.in-Some.words.now in
    let parts = degree_parts c.args.line.now words d small e (c.in-Some.ensures
    ∙ ap (λ p. p ++ words) c.as_slice.ensures)
    c.in-Some-first_word.first.now c.in-Some-first_word.second.now c.in-Some-first_word.ensures.some.0
    c.in-Some-first_word.ensures.some.1 in
    c.in_default-degree_word.ensures.none d.0 small.maslov parts.0

pub returns-in_default-degree_word-2-clause-none : goal.returns-in_default-degree_word-2-clause-none
returns-in_default-degree_word-2-clause-none c d small e =
    let words = c.in-Some.words.now in
    let parts = degree_parts c.args.line.now words d small e (c.in-Some.ensures
    ∙ ap (λ p. p ++ words) c.as_slice.ensures)
    c.in-Some-first_word.first.now c.in-Some-first_word.second.now c.in-Some-first_word.ensures.some.0
    c.in-Some-first_word.ensures.some.1 in
    c.in_default-degree_word-2.ensures.none d.1 small.alexander parts.1
