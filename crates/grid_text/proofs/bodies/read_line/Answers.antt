use Rattle.std.proofs.Common.{IfOk, sym, subst, arith}
use Rattle.grid_text.specs.Inner.Reading.{IsRead}
use Rattle.grid_text.proofs.Lines.SeenLemmas.{seen, seen-none}
use Rattle.grid_text.proofs.Lines.BodyLemmas.{fault_in_table-empty, unknown-read, keyword-first}
use Rattle.grid_text.proofs.bodies.read_line.Goals as goal

pub returns-in_default : goal.returns-in_default
returns-in_default c =
    fault_in_table-empty c.args.script.now (seen c.args.words.now) (seen-none c.args.words.now (omega arith))

pub returns-in_default-read_keyword : goal.returns-in_default-read_keyword
returns-in_default-read_keyword c =
    unknown-read c.args.script.now c.args.words.now _ c.read_keyword.result c.in-len1-up.len_at_least
    c.read_keyword.ensures c.in_default-read_keyword.is

pub returns : goal.returns
returns c =
    subst (λ w. IfOk c.read_command.result (IsRead c.args.script.now w))
    (sym (keyword-first c.args.words.now _ c.read_keyword.result c.in-Some.keyword c.in-len1-up.len_at_least
    c.read_keyword.ensures c.in-Some.is))
    c.read_command.ensures
