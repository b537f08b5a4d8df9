-- The array begins with the list.
use Rattle.std.proofs.Common.{◌≡◌, ◌-◌, length, take, slice_index, sym, ◌∙◌, arith, rules, subst}
use Rattle.state_rank.specs.States.{IsState}
use Rattle.grid_symmetry.specs.Symmetries.{reflected_rows}
use Rattle.grid_symmetry.proofs.Reflecting.{IsBijection-reflected_rows}
use Rattle.grid_symmetry.proofs.RowLoops.{BeginsWith-more, IsState-of_size, take-tabulated}
use Rattle.grid_symmetry.proofs.symmetries.reflected_rows.Goals as goal

pub loop-c-preserved : goal.loop-c-preserved
loop-c-preserved c =
    let n = c.size-n.ensures.state.size.greatest in
    let e = c.size-n.ensures.size in
    let l = c.loop-c-test.true in
    BeginsWith-more _ _ _ _ c.loop-c.invariant (omega arith) (c.row.ensures.row)

pub unwrap-requires : goal.unwrap-requires
unwrap-requires c =
    let state = c.size-n.ensures.state in
    let e = take-tabulated (λ m i. slice_index c.args.o.now (m - 1 - i)) c.args.o.now c.loop-c.rows c.size-n.result
    c.loop-c.c state
    c.size-n.ensures.size c.loop-c-test.false c.loop-c.invariant in
    let made : IsState (take c.size-n.result c.loop-c.rows) =
    subst IsState (sym e)
    (IsState-of_size c.args.o.now (reflected_rows c.args.o.now) state
    (IsBijection-reflected_rows (length c.args.o.now) c.args.o.now state.bijection)) in
    search rules

pub returns : goal.returns
returns c =
    let e = take-tabulated (λ m i. slice_index c.args.o.now (m - 1 - i)) c.args.o.now c.loop-c.rows c.size-n.result
    c.loop-c.c c.size-n.ensures.state
    c.size-n.ensures.size c.loop-c-test.false c.loop-c.invariant in
    let rows : c.unwrap.result ≡ take c.size-n.result c.loop-c.rows = search rules in
    rows ∙ e
