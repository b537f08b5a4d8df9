use Rattle.grid_text.proofs.Paths.PairLemmas.{every_pair_text, no_pair, one_pair, one_pair_fault}
use Rattle.grid_text.proofs.pairs.judge_pair.Goals as goal

pub returns-clause-every_text : goal.returns-clause-every_text
returns-clause-every_text c = every_pair_text

pub returns-clause-no_pair : goal.returns-clause-no_pair
returns-clause-no_pair c = no_pair

pub returns-clause-one_pair : goal.returns-clause-one_pair
returns-clause-one_pair c = one_pair

pub returns-clause-one_fault : goal.returns-clause-one_fault
returns-clause-one_fault c = one_pair_fault
