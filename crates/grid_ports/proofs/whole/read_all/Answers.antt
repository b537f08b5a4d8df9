use Rattle.std.proofs.Common.{arith, rules}
use Rattle.grid_ports.proofs.BytesLemmas.{Takes-append, TakesAtMost-append}
use Rattle.grid_ports.proofs.whole.read_all.Goals as goal

pub returns-in_err-extend_from_slice-clause-no_memory_takes :
    goal.returns-in_err-extend_from_slice-clause-no_memory_takes
returns-in_err-extend_from_slice-clause-no_memory_takes g c _ =
    let so_far = c.loop-bytes.bytes in
    TakesAtMost-append _ _ _ so_far.items _ so_far.len _ _ so_far.ok.0 c.loop-bytes.invariant.1
    c.in_ok-taken.ensures.moved (omega arith)

pub returns-then-len-taken-clause-too_long : goal.returns-then-len-taken-clause-too_long
returns-then-len-taken-clause-too_long g c _ =
    let so_far = c.loop-bytes.bytes in
    Takes-append _ _ _ so_far.items _ so_far.len _ _ so_far.ok.0 c.loop-bytes.invariant.1 c.in_ok-taken.ensures.moved
    (search rules) (search rules)
