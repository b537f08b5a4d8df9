use Rattle.grid_text.proofs.Paths.PairLemmas.{refused-whole}
use Rattle.grid_text.proofs.pairs.refuse_alone.Goals as goal

pub returns-in-Err : goal.returns-in-Err
returns-in-Err c = refused-whole c.args.text.now c.in-Err.end c.requires.none c.in-Err.ensures.refused
