-- What is in force where a command stands: a grid, and a chain of its states, which is followed. The answer
-- to a command depends on these two alone.
--     InForce                a grid and a chain
--     at_start g             before the first command: the grid of the document, and the empty chain
--     chain_after p c        the chain after the command c, if p was in force before it
--     after_command p c      the grid and the chain after it
--     after_commands p cs    after these commands, in order
use Rattle.std.specs.Prelude.{List, [], ◌∷◌}
use Rattle.torus_geom.specs.Chains.{Chain, nothing}
pub use Rattle.legendrian_class.specs.Followed.{Followed as InForce, at_start}
use Rattle.legendrian_class.specs.Followed.{after_commutation, after_turn, chain_after_symmetry, listed}
use Rattle.grid_text.specs.Commands.{grid_after}
use Rattle.grid_text.specs.declared.commands.Command.{Command}
use Rattle.grid_text.specs.declared.commands.Command.TheVariants as command

-- `chain` puts its states in the place of the chain, a turn turns them, a commutation takes the image, and a symmetry
-- takes each to what it becomes; no chain is followed across a stabilisation or the mirror image
abbrev pub chain_after : InForce → Command → Chain
chain_after p (command.Chain xs) = listed xs
chain_after p (command.Turn side) = (after_turn side p).chain
chain_after p (command.Commute axis c corner) = (after_commutation axis c corner p).chain
chain_after p (command.Stab c empty) = nothing
chain_after p (command.Destab c r empty) = nothing
chain_after p (command.Symm s) = chain_after_symmetry s p
chain_after p other = p.chain

abbrev pub after_command : InForce → Command → InForce
after_command p c = record { grid = grid_after p.grid c; chain = chain_after p c }

abbrev pub after_commands : InForce → List Command → InForce
after_commands p [] = p
after_commands p (c ∷ cs) = after_commands (after_command p c) cs
