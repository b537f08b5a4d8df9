use Rattle.std.proofs.Common.{◌<◌, length, subst, sym}
use Rattle.grid_text.specs.Commands.{IsAllowed}
use Rattle.grid_text.specs.Script.{GridScript, grid_in_force}
use Rattle.grid_text.specs.Limits.{max_commands}
use Rattle.grid_text.proofs.Lines.ScriptLemmas.{with_command-stored}
use Rattle.grid_text.proofs.scripts.Script.push.Goals as goal

pub invariant_of-self-2 : goal.invariant_of-self-2
invariant_of-self-2 c =
    let seen = sym c.self.view_is in
    let kept =
    with_command-stored c.self.inside.version c.self.inside.grid c.self.inside.commands.items c.push.new.self.items
    c.self.inside.in_force c.grid_after-in_force.result c.args.c
    c.self.invariant.is_script c.self.invariant.in_force c.in_ok-push.ensures.items c.grid_after-in_force.ensures
    (subst (λ (s : GridScript). length s.commands < max_commands) seen c.requires.few)
    (subst (λ (s : GridScript). IsAllowed (grid_in_force s) c.args.c) seen c.requires.allowed) in
    record { is_script = kept.0; in_force = kept.1 }
