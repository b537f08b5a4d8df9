use Rattle.std.proofs.Common.{arith, ap, sym, ◌∙◌, length, take, drop, get_or, ◌∷◌, length-take}
use Rattle.f2_chain.proofs.MergeLemmas.{take-drop}
use Rattle.homology_cert.proofs.Texts.MarkLemmas.{length-spaced, marks_line-spaced, marks_read, no_marks, first_and_rest}
use Rattle.homology_cert.proofs.words.marks_of.Goals as goal
use Rattle.homology_cert.proofs.words.marks_of.Goals.{then-line-columns-via-then-line-columns, then-line-columns-via-else-line-columns+then-line-letter}

pub returns-then-line-columns-clause-none : goal.returns-then-line-columns-clause-none
returns-then-line-columns-clause-none c o bijection e =
    let is = e ∙ marks_line-spaced c.args.letter c.args.n o c.requires bijection in
    elim c.then-line-columns.branch [
      | then-line-columns-via-then-line-columns w ↦ w.if-line-columns.true
          (omega (arith, ap length is, length-spaced o, bijection.long, c.from-columns.ensures))
      | then-line-columns-via-else-line-columns+then-line-letter w ↦ w.if-line-letter.true (ap (λ b. get_or b 0 0) is)
    ]

pub returns-in_default-clause-none : goal.returns-in_default-clause-none
returns-in_default-clause-none c o bijection e =
    let is = e ∙ marks_line-spaced c.args.letter c.args.n o c.requires bijection in
    c.in_default.ensures.none o (take-drop 1 c.args.line.now ∙ ap (drop 1) is)

pub returns-clause-some : goal.returns-clause-some
returns-clause-some c =
    let line = c.args.line.now in
    let rows = take c.from-columns.result c.in-Some.rows in
    marks_read c.args.letter c.args.n line rows c.requires
    (omega (
      arith,
      length-take c.from-columns.result c.in-Some.rows,
      c.in-Some.ensures.some.0,
      c.from-columns.ensures,
      c.requires.small,
    ))
    (first_and_rest c.args.letter line (omega (arith, c.if-line-columns.false)) c.if-line-letter.false
    ∙ ap (λ t. c.args.letter ∷ t) (sym (take-drop 1 line) ∙ c.in-Some.ensures.some.1))
    c.of.result c.of.ensures.rows c.of.ensures.state

pub returns-clause-none : goal.returns-clause-none
returns-clause-none c =
    let line = c.args.line.now in
    let rows = take c.from-columns.result c.in-Some.rows in
    no_marks c.args.letter c.args.n line rows c.requires
    (omega (
      arith,
      length-take c.from-columns.result c.in-Some.rows,
      c.in-Some.ensures.some.0,
      c.from-columns.ensures,
      c.requires.small,
    ))
    (first_and_rest c.args.letter line (omega (arith, c.if-line-columns.false)) c.if-line-letter.false
    ∙ ap (λ t. c.args.letter ∷ t) (sym (take-drop 1 line) ∙ c.in-Some.ensures.some.1))
    c.of.result c.of.ensures.none
