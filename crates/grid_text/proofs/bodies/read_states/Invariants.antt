-- the words so far are those of the states so far
use Rattle.std.proofs.Common.{◌≡◌, take, map}
use Rattle.std.specs.List.{All}
use Rattle.state_rank.specs.States.{state_word}
use Rattle.state_rank.specs.Bijection.{IsBijection}
use Rattle.grid_text.proofs.Lines.SeenLemmas.{seen}
use Rattle.grid_text.proofs.bodies.read_states.Given as goal

abbrev pub invariant-loop-word : goal.invariant-loop-word
invariant-loop-word l =
    All (IsBijection l.n) l.states.items × (seen (take l.word-index l.words) ≡ map state_word l.states.items)
