use Rattle.std.proofs.Common.{length, ap, ◌∙◌}
use Rattle.grid_text.proofs.PlainForm.PrintLemmas.{chain_arguments}
use Rattle.grid_text.proofs.lengths.arguments_len.Goals as goal

pub returns-in-Chain-clause-exact : goal.returns-in-Chain-clause-exact
returns-in-Chain-clause-exact c =
    c.states_len.ensures.exact ∙ ap length (chain_arguments c.args.command.now c.in-Chain.z c.states.result.now
    c.in-Chain.is c.states.ensures.states)
