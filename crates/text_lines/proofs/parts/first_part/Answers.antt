use Rattle.std.proofs.Common.{sym, ◌∙◌}
use Rattle.text_lines.proofs.PartLemmas.{HasNone-position, IsFirstPart-position}
use Rattle.text_lines.proofs.parts.first_part.Goals as goal

pub returns-in_default-clause-none : goal.returns-in_default-clause-none
returns-in_default-clause-none c =
    HasNone-position c.args.ends.now c.args.bytes.now (sym c.place_of.ensures ∙ c.in_default.is)

pub returns-clause-some : goal.returns-clause-some
returns-clause-some c =
    IsFirstPart-position c.args.ends.now c.args.bytes.now c.in-Some.at (sym c.place_of.ensures ∙ c.in-Some.is)
