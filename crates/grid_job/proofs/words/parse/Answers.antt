-- The command is that of the two options.
use Rattle.std.proofs.Common.{rules, ap, ap₂, subst, map, string_bytes, Global, codes, true, ◌≡◌, ◌∙◌}
use Rattle.clap.specs.Faults.{fault_of, is_simple_and_free}
use Rattle.clap.specs.Kinds.{FailsBy}
use Rattle.clap.specs.Simple.{app_of, app_of_fields, new_app, on_top, with_rule}
use Rattle.clap.specs.Walk.{rule_of}
use Rattle.grid_job.specs.Inner.Parsing.{flag_rule, make_command}
use Rattle.grid_job.specs.declared.words.Flag.TheVariants.{Size, Seed}
use Rattle.grid_job.proofs.Parsed.WordLemmas.{simple_and_free}
use Rattle.grid_job.proofs.words.parse.Goals as goal

pub returns-clause-faults : goal.returns-clause-faults
returns-clause-faults c =
    let size_is : rule_of c.action-size.result ≡ flag_rule Size = search rules in
    let seed_is : rule_of c.action-seed.result ≡ flag_rule Seed = search rules in
    let bare_is : app_of c.disable_help_flag.result
    ≡ on_top (λ s. record s { disable_help_flag = true }) (new_app (codes "make")) =
    ap app_of_fields c.disable_help_flag.ensures
    ∙ ap (on_top (λ s. record s { disable_help_flag = true })) c.new-3.ensures.app in
    let command_is : app_of c.in_ok-command.command ≡ make_command = c.in_ok-command.ensures.shape (search rules)
    ∙ ap₂ with_rule (c.in_ok-arg.ensures.shape (search rules) ∙ ap₂ with_rule bare_is size_is) seed_is in
    subst (λ a. FailsBy (fault_of a (map (string_bytes {Z = Global}) c.args.words.now))
    c.try_get_matches_from.result) command_is
    (c.try_get_matches_from.ensures.kinds (ap is_simple_and_free command_is ∙ simple_and_free))
