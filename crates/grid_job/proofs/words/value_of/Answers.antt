use Rattle.grid_job.proofs.Parsed.ValueLemmas.{no_value, has_value, lacks_value}
use Rattle.grid_job.proofs.words.value_of.Goals as goal

pub returns-in_default-clause-none : goal.returns-in_default-clause-none
returns-in_default-clause-none c v h =
    no_value c.args.matches.now c.args.flag c.flag_id.result.now c.get_str.result c.flag_id.ensures c.get_str.ensures
    c.in_default.is v h

pub returns-clause-some : goal.returns-clause-some
returns-clause-some c =
    has_value c.args.matches.now c.args.flag c.flag_id.result.now c.get_str.result c.flag_id.ensures c.get_str.ensures
    c.in-Some.text c.as_bytes.result.now c.least_value.result c.greatest_value.result c.in-Some.is
    c.as_bytes.ensures.value
    c.least_value.ensures c.greatest_value.ensures c.numeral.result c.numeral.ensures.some

pub returns-clause-none : goal.returns-clause-none
returns-clause-none c =
    lacks_value c.args.matches.now c.args.flag c.flag_id.result.now c.get_str.result c.flag_id.ensures c.get_str.ensures
    c.in-Some.text c.as_bytes.result.now c.least_value.result c.greatest_value.result c.in-Some.is
    c.as_bytes.ensures.value
    c.least_value.ensures c.greatest_value.ensures c.numeral.result c.numeral.ensures.none
