use Rattle.homology_cert.proofs.Texts.ByteLemmas.{first_part-one, first_part-none}
use Rattle.homology_cert.proofs.words.first_word.Goals as goal

pub returns-clause-some : goal.returns-clause-some
returns-clause-some c =
    first_part-one 32 c.args.line.now (λ p. p.0.now) (λ p. p.1.now) c.first_part.result c.first_part.ensures.some

pub returns-clause-none : goal.returns-clause-none
returns-clause-none c = first_part-none 32 c.args.line.now c.first_part.result c.first_part.ensures.none
