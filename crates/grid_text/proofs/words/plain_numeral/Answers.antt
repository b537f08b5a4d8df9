use Rattle.std.proofs.Common.{sym, ◌∙◌, ◌≡◌, ◌≢◌, ℕ, ◌<◌, ◌^◌, arith, subst, true≢false}
use Rattle.std.specs.Result.{result_ok}
use Rattle.std.specs.Option.{IfSome, IfNone}
use Rattle.std.specs.Fmt.{decimal}
use Rattle.std.specs.Str.{IsUtf8}
use Rattle.std.proofs.lemmas.Fmt.{IsAscii-decimal}
use Rattle.std.proofs.lemmas.Str.{IsUtf8-from_ascii}
use Rattle.grid_text.proofs.Lines.WordLemmas.{decimal-plain_start, parsed-decimal, parsed-none, HasPlainStart}
use Rattle.grid_text.proofs.words.plain_numeral.Goals as goal

pub returns-then-not-has_plain_start-clause-none :
    goal.returns-then-not-has_plain_start-clause-none
returns-then-not-has_plain_start-clause-none c v small e =
    true≢false (sym (c.has_plain_start.ensures.1 (subst HasPlainStart (sym e) (decimal-plain_start v (omega arith))))
    ∙ c.if-not-has_plain_start.true)

pub returns-in_default-clause-none : goal.returns-in_default-clause-none
returns-in_default-clause-none c v small e =
    c.in_default.ensures.cases.0 (subst IsUtf8 (sym e) (IsUtf8-from_ascii (decimal v)
    (IsAscii-decimal v (omega arith))))

pub returns-clause-some : goal.returns-clause-some
returns-clause-some c =
    let same = c.in-Ok.ensures.cases.0 in
    let start = c.has_plain_start.ensures.0 c.if-not-has_plain_start.false in
    let read = parsed-decimal c.in-Ok.text.now c.parse.result c.parse.ensures.value.0
    (subst HasPlainStart (sym same) start) in
    rw c.ok.ensures.value (subst (λ w. IfSome (result_ok c.parse.result) (λ v. w ≡ decimal v)) same read)

pub returns-clause-none : goal.returns-clause-none
returns-clause-none c =
    let same = c.in-Ok.ensures.cases.0 in
    let read = parsed-none c.in-Ok.text.now c.parse.result c.parse.ensures.value.0 in
    rw c.ok.ensures.value (subst (λ w. IfNone (result_ok c.parse.result) ((v : ℕ) → v < 2 ^ 32 → w ≢ decimal v)) same
    read)
