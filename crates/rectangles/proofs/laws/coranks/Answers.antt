use Rattle.rectangles.proofs.Homology.CorankLemmas.{corank-rank}
use Rattle.rectangles.proofs.laws.coranks.Goals as goal

pub returns : goal.returns
returns c = record { corank = corank-rank c.args.g.now c.size.ensures.grid }
