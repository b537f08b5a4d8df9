-- What `clap` reads is what `make` is asked for.
use Rattle.std.proofs.Common.{map, string_bytes, Global, sym, ◌∙◌}
use Rattle.std.proofs.lemmas.Bool.{false≢true}
use Rattle.grid_job.proofs.Parsed.ValueLemmas.{may_be_of_make, make_found, no_make_found, no_make_if_failed}
use Rattle.grid_job.proofs.words.make_numbers.Goals as goal

pub returns-then-not-may_be_make-clause-none : goal.returns-then-not-may_be_make-clause-none
returns-then-not-may_be_make-clause-none c n s make =
    let yes = c.may_be_make.ensures.1 (may_be_of_make (map (string_bytes {Z = Global}) c.args.words.now) n s make) in
    false≢true (sym c.if-not-may_be_make.true ∙ yes)

pub returns-in-Ok-clause-some : goal.returns-in-Ok-clause-some
returns-in-Ok-clause-some c =
    let ws = map (string_bytes {Z = Global}) c.args.words.now in
    make_found ws c.in-Ok.matches (c.may_be_make.ensures.0 c.if-not-may_be_make.false) c.in-Ok.ensures.faults
    c.in-Ok.ensures.matches c.numbers_of.result c.numbers_of.ensures.some

pub returns-in-Ok-clause-none : goal.returns-in-Ok-clause-none
returns-in-Ok-clause-none c =
    let ws = map (string_bytes {Z = Global}) c.args.words.now in
    no_make_found ws c.in-Ok.matches (c.may_be_make.ensures.0 c.if-not-may_be_make.false) c.in-Ok.ensures.faults
    c.in-Ok.ensures.matches c.numbers_of.result c.numbers_of.ensures.none

pub returns-in-Err-clause-none : goal.returns-in-Err-clause-none
returns-in-Err-clause-none c =
    let ws = map (string_bytes {Z = Global}) c.args.words.now in
    no_make_if_failed ws c.in-Err.error c.no_numbers.result c.no_numbers.ensures c.in-Err.ensures.faults
