use Rattle.std.proofs.Common.{◌∙◌, arith}
use Rattle.grid_text.proofs.Lines.SeenLemmas.{symbols-seen}
use Rattle.grid_text.proofs.pictures.symbols_of.Goals as goal

pub returns : goal.returns
returns c = c.loop-word.invariant ∙ symbols-seen c.args.words.now c.loop-word.word-index (omega arith)
