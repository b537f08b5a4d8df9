use Rattle.std.proofs.Common.{arith}
use Rattle.grid_text.proofs.Paths.PairLemmas.{fault_line-bound}
use Rattle.grid_text.proofs.pairs.judge_part.Goals as goal

pub overflow_add-result : goal.overflow_add-result
overflow_add-result c =
    let first = rw c.in-Err-Refused.field-0-is at c.in-Err-Refused.ensures.refused in
    let low = fault_line-bound c.args.part.now c.in-Err-Refused.fault c.in-Err-Refused.line first in
    let short = c.requires.short in
    let few = c.requires.few in
    omega arith
