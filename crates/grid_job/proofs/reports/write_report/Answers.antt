use Rattle.std.proofs.Common.{refl, sym, ap, subst, ◌∙◌}
use Rattle.grid_text.specs.Commands.{IsAllowed}
use Rattle.grid_job.specs.InForce.{at_start, after_command}
use Rattle.torus_geom.specs.Marks.{size}
use Rattle.torus_geom.proofs.Chains.CodesLemmas.{IsChain-nothing}
use Rattle.legendrian_class.specs.FollowedCodes.{followed_of}
use Rattle.grid_job.specs.Inner.Tables.{AreTablesOf}
use Rattle.grid_job.proofs.Reported.ReportLemmas.{IsAnswer-same, IsAllowed-next, IsPast-next, IsPast-prefix, IsPast-prefix_of_next}
use Rattle.grid_job.proofs.reports.write_report.Goals as goal

pub answer_to-requires-clause-allowed : goal.answer_to-requires-clause-allowed
answer_to-requires-clause-allowed g c =
    let command = c.command-item in
    subst (IsAllowed c.loop-command.in_force.grid) (sym command.is)
    (IsAllowed-next
    c.args.version (at_start c.args.g.now) c.args.commands.now c.loop-command.command-index
    (followed_of c.loop-command.in_force) command.result _
    _
    c.size.ensures.grid
    (IsChain-nothing (size c.args.g.now)) c.requires.allowed c.loop-command-test.true c.loop-command.invariant.0)

pub returns-in_err-text-clause-part : goal.returns-in_err-text-clause-part
returns-in_err-text-clause-part g c =
    IsPast-prefix c.args.version (at_start c.args.g.now) c.args.commands.now c.loop-command.command-index
    (followed_of c.loop-command.in_force) _ _
    c.requires.version c.size.ensures.grid (IsChain-nothing (size c.args.g.now)) c.requires.allowed
    c.loop-command.invariant.0

pub returns-in_err-write_all-clause-part : goal.returns-in_err-write_all-clause-part
returns-in_err-write_all-clause-part g c =
    let command = c.command-item in
    let now = followed_of c.loop-command.in_force in
    let answer =
    IsAnswer-same c.args.version now now command.result _ c.in_ok-text.text.items c.deref.result.now refl command.is
    (sym c.deref.ensures.value) c.in_ok-text.ensures.answer in
    IsPast-prefix_of_next
    c.args.version (at_start c.args.g.now) c.args.commands.now c.loop-command.command-index now command.result
    c.deref.result.now _ _
    _
    c.requires.version c.size.ensures.grid
    (IsChain-nothing (size c.args.g.now)) c.requires.allowed c.loop-command-test.true answer c.loop-command.invariant.0
    c.write_all.ensures.prefix

pub loop-command-preserved : goal.loop-command-preserved
loop-command-preserved g c =
    let command = c.command-item in
    let now = followed_of c.loop-command.in_force in
    let answer =
    IsAnswer-same c.args.version now now command.result _ c.in_ok-text.text.items c.deref.result.now refl command.is
    (sym c.deref.ensures.value) c.in_ok-text.ensures.answer in (
      IsPast-next
          c.args.version (at_start c.args.g.now) c.args.commands.now c.loop-command.command-index now
          (followed_of c.follow.new.p) command.result
          c.deref.result.now _ _ _
          c.loop-command-test.true answer
          (c.in_ok-follow.ensures.after ∙ ap (after_command now) command.is) c.loop-command.invariant.0
          (c.in_ok-write_all.ensures.all),
      c.in_ok-write_all.ensures.no_fault ∙ c.loop-command.invariant.1,
      subst (λ g. AreTablesOf g c.forget_if_moved.new.tables) (sym (ap (λ q. q.grid) c.in_ok-follow.ensures.after))
          (c.forget_if_moved.ensures now.grid c.in_ok-text.ensures.tables),
    )

pub returns-clause-part : goal.returns-clause-part
returns-clause-part g c =
    IsPast-prefix c.args.version (at_start c.args.g.now) c.args.commands.now c.loop-command.command-index
    (followed_of c.loop-command.in_force) _ _
    c.requires.version c.size.ensures.grid (IsChain-nothing (size c.args.g.now)) c.requires.allowed
    c.loop-command.invariant.0

pub returns-in_err-follow-clause-part : goal.returns-in_err-follow-clause-part
returns-in_err-follow-clause-part g c =
    let command = c.command-item in
    let now = followed_of c.loop-command.in_force in
    let answer =
    IsAnswer-same c.args.version now now command.result _ c.in_ok-text.text.items c.deref.result.now refl command.is
    (sym c.deref.ensures.value) c.in_ok-text.ensures.answer in
    IsPast-prefix_of_next
    c.args.version (at_start c.args.g.now) c.args.commands.now c.loop-command.command-index now command.result
    c.deref.result.now _ _
    _
    c.requires.version c.size.ensures.grid
    (IsChain-nothing (size c.args.g.now)) c.requires.allowed c.loop-command-test.true answer c.loop-command.invariant.0
    c.write_all.ensures.prefix

pub follow-requires : goal.follow-requires
follow-requires g c =
    let command = c.command-item in
    subst (IsAllowed c.loop-command.in_force.grid) (sym command.is)
    (IsAllowed-next
    c.args.version (at_start c.args.g.now) c.args.commands.now c.loop-command.command-index
    (followed_of c.loop-command.in_force) command.result _
    _
    c.size.ensures.grid
    (IsChain-nothing (size c.args.g.now)) c.requires.allowed c.loop-command-test.true c.loop-command.invariant.0)
