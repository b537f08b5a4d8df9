-- An entry is the weight and what `MAX_SIZE` has more than the column.
use Rattle.gradings.proofs.WeightLemmas.{entry-weight}
use Rattle.gradings.proofs.tables.DegreeTables.weight.Goals as goal

pub overflow_sub-result-2 : goal.overflow_sub-result-2
overflow_sub-result-2 c =
    (entry-weight c.self.inside c.self.invariant c.args.self.now c.self.view_is c.args.c c.args.row c.requires.column
    c.requires.row).low

pub returns-clause-value : goal.returns-clause-value
returns-clause-value c =
    (entry-weight c.self.inside c.self.invariant c.args.self.now c.self.view_is c.args.c c.args.row c.requires.column
    c.requires.row).value

pub returns-clause-small : goal.returns-clause-small
returns-clause-small c =
    (entry-weight c.self.inside c.self.invariant c.args.self.now c.self.view_is c.args.c c.args.row c.requires.column
    c.requires.row).small
