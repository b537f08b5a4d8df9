-- the words of the line are the words so far and those of the rest
use Rattle.std.proofs.Common.{◌≡◌, ◌++◌, length}
use Rattle.grid_text.specs.Words.{words_of}
use Rattle.grid_text.proofs.Lines.SeenLemmas.{seen}
use Rattle.grid_text.proofs.words.words_of.Given as goal

abbrev pub invariant-loop-part : goal.invariant-loop-part
invariant-loop-part l = words_of l.line ≡ seen l.words.items ++ words_of l.rest

abbrev pub decreases-loop-part : goal.decreases-loop-part
decreases-loop-part l = length l.rest
