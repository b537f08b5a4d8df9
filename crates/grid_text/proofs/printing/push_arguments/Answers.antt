use Rattle.std.proofs.Common.{◌≡◌, ◌++◌, OnOk, subst}
use Rattle.grid_text.proofs.PlainForm.PrintLemmas.{chain_arguments}
use Rattle.grid_text.proofs.printing.push_arguments.Goals as goal

pub returns-in-Chain : goal.returns-in-Chain
returns-in-Chain c =
    subst (λ w. OnOk c.push_states.result (c.push_states.new.text.items ≡ c.args.text.now.items ++ w))
    (chain_arguments c.args.command.now c.in-Chain.z c.states.result.now c.in-Chain.is c.states.ensures.states)
    c.push_states.ensures
