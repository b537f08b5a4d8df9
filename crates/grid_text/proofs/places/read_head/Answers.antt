use Rattle.grid_text.proofs.Lines.SeenLemmas.{seen}
use Rattle.grid_text.proofs.Paths.HeadLemmas.{head-word}
use Rattle.grid_text.proofs.places.read_head.Goals as goal

pub returns-in_default-words_after-2 : goal.returns-in_default-words_after-2
returns-in_default-words_after-2 c =
    head-word (seen c.args.words.now) c.in_default.ensures.none c.in_default-words_after.ensures.none
    c.in_default-words_after-2.ensures.none
