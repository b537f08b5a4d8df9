use Rattle.std.proofs.Common.{◌∙◌, sym, ap}
use Rattle.std.specs.Result.{result_ok}
use Rattle.homology_cert.proofs.Texts.ByteLemmas.{small_ascii, parsed, as_i32}
use Rattle.homology_cert.proofs.words.number_of.Goals as goal

pub returns-in_default : goal.returns-in_default
returns-in_default c z small e = absurd (c.in_default.ensures.cases.0 (small_ascii z c.args.word.now small e))

pub returns-in_default-parse : goal.returns-in_default-parse
returns-in_default-parse c z small e =
    let same = parsed z c.in-Ok.text.now c.parse.result small (c.in-Ok.ensures.cases.0 ∙ e) c.parse.ensures.value.0 in
    absurd (c.in_default-parse.not-Ok z (search same))

pub returns : goal.returns
returns c z small e =
    let same = parsed z c.in-Ok.text.now c.parse.result small (c.in-Ok.ensures.cases.0 ∙ e) c.parse.ensures.value.0 in
    let both = ap result_ok (sym c.in-Ok-parse.is ∙ same) in
    as_i32 c.in-Ok-parse.z z both small
