use Rattle.std.proofs.Common.{◌<◌, length, arith}
use Rattle.std.proofs.lemmas.Bool.Decides.{nat_tests}
use Rattle.grid_text.proofs.States.StateLemmas.{AreStates-more, AreStates-next}
use Rattle.grid_text.proofs.commands.may_follow.Goals as goal

pub returns : goal.returns
returns c =
    let some : 0 < length c.args.others.now = grind (arith, nat_tests) in
    let last = c.index-others-others in (
      (λ e. AreStates-more _ _ _ last.is some c.requires c.size-size.ensures.state (c.is_after.ensures.0 e)),
      (λ z. c.is_after.ensures.1 (AreStates-next _ _ _ last.is some z)),
    )
