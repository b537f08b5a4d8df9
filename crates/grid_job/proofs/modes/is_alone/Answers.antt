use Rattle.std.proofs.Common.{ap, map, string_bytes, Global, ◌∙◌}
use Rattle.std.specs.Str.{bytes_eq}
use Rattle.grid_job.proofs.Outcomes.ModeLemmas.{single-item, command_alone}
use Rattle.grid_job.proofs.modes.is_alone.Goals as goal

pub returns-in-len1 : goal.returns-in-len1
returns-in-len1 c =
    let one = single-item c.args.words.now c.word-item.result c.in-len1.len_at_least c.in-len1.len_below c.word-item.is
    in
    command_alone (map (string_bytes {Z = Global}) c.args.words.now) (string_bytes c.word-item.result)
    c.args.command.now c.eq.result
    (ap (map (string_bytes {Z = Global})) one)
    (c.eq.ensures ∙ ap (λ s. bytes_eq s c.args.command.now) c.as_str.ensures.value)
