-- The script of the grid through the shuffled columns and rows.
use Rattle.std.proofs.Common.{ap}
use Rattle.grid_job.proofs.Generated.GeneratorLemmas.{IsMadeScript-from, four_commands}
use Rattle.grid_job.proofs.generator.make_script.Goals as goal

pub returns : goal.returns
returns c =
    let made =
    four_commands c.grid_through-grid.result c.new-script.result c.push.new.self c.push-2.new.self c.push-3.new.self
    c.push-4.new.self
    c.new-script.ensures.script c.in_ok-push.ensures.ok c.in_ok-push-2.ensures.ok c.in_ok-push-3.ensures.ok
    c.in_ok-push-4.ensures.ok in
    IsMadeScript-from c.args.size c.args.seed c.shuffle-columns.new.number c.shuffle-columns.result
    c.shuffle-rows.result c.grid_through-grid.result c.push-4.new.self
    c.shuffle-columns.ensures.state c.shuffle-columns.ensures.number c.shuffle-rows.ensures.state
    c.grid_through-grid.ensures
    (ap (λ s. s.version) made) (ap (λ s. s.grid) made) (ap (λ s. s.commands) made)
