use Rattle.std.proofs.Common.{arith, ap, codes, ◌∙◌}
use Rattle.std.specs.Str.{bytes_eq}
use Rattle.grid_job.proofs.Parsed.ValueLemmas.{may_be_told}
use Rattle.grid_job.proofs.words.may_be_make.Goals as goal

pub returns : goal.returns
returns c =
    may_be_told c.args.words.now c.index-words-0.result c.have_dashes.result c.is_make.result c.index-words-0.is
    (let low = c.if-words-lt3.false in omega (arith, low)) (let high = c.if-words-gt5.false in omega (arith, high))
    (c.is_make.ensures ∙ ap (λ word. bytes_eq word (codes "make")) c.as_str.ensures.value) c.if-not-is_make.false
    c.have_dashes.ensures
