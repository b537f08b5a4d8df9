use Rattle.std.proofs.Common.{◌≡◌, ℕ, ◌≤◌, List, slice_index, take, subst, sym, ap, ◌∙◌, arith, rules}
use Rattle.state_rank.specs.declared.TheConstants.{MAX_SIZE}
use Rattle.state_rank.specs.States.{IsState}
use Rattle.torus_geom.specs.Marks.{Marks, size}
use Rattle.torus_geom.specs.Front.{plus_state}
use Rattle.torus_geom.specs.Range.{one_up, one_down}
use Rattle.front_data.proofs.FilledRows.{IsFilled, IsFilled-more}
use Rattle.front_data.proofs.FrontLemmas.{take-plus_state, plus_state_IsState, border-plus_state, maslov-plus_state}
use Rattle.front_data.proofs.classes.plus_state.Goals as goal

-- the first rows are those of x+
taken : (g : Marks) (rows : List ℕ) (c n long : ℕ)
    → IsFilled long (λ k. one_up (size g) (slice_index g.x (one_down (size g) k))) c rows → c ≡ size g → n ≡ size g
    → size g ≤ long
    → take n rows ≡ plus_state g
taken g rows c n long filled at_end is_size room =
    ap (λ m. take m rows) is_size
    ∙ take-plus_state g rows (let long_rows = filled.room in omega arith) (λ k l. filled.filled k (omega arith))

pub loop-c-preserved : goal.loop-c-preserved
loop-c-preserved c =
    let inside = c.loop-c-test.true in
    let few = c.size-n.ensures.grid.is_size.greatest in
    let size_is = c.size-n.ensures.size in
    let value = c.one_up.ensures.value
    ∙ (λ i. one_up (size_is i) ((c.x.ensures.row ∙ ap (slice_index c.args.g.now.x)
    (c.one_down.ensures.value ∙ ap (λ n. one_down n c.loop-c.c) size_is)) i)) in
    IsFilled-more _ _ _ _ _ _ c.loop-c.invariant (omega arith) c.from.ensures value

pub unwrap-requires : goal.unwrap-requires
unwrap-requires c =
    let grid = c.size-n.ensures.grid in
    let e = taken c.args.g.now c.loop-c.rows c.loop-c.c c.from-2.result MAX_SIZE c.loop-c.invariant (omega arith)
    (omega arith) grid.is_size.greatest in
    let state : IsState (take c.from-2.result c.loop-c.rows) =
    subst IsState (sym e) (plus_state_IsState c.args.g.now grid) in
    search rules

pub returns-clause-state : goal.returns-clause-state
returns-clause-state c =
    let grid = c.size-n.ensures.grid in
    let e = taken c.args.g.now c.loop-c.rows c.loop-c.c c.from-2.result MAX_SIZE c.loop-c.invariant (omega arith)
    (omega arith) grid.is_size.greatest in
    let rows : c.unwrap.result ≡ take c.from-2.result c.loop-c.rows = search rules in
    rows ∙ e

pub returns-clause-cycle : goal.returns-clause-cycle
returns-clause-cycle c = border-plus_state c.args.g.now c.size-n.ensures.grid

pub returns-clause-degree : goal.returns-clause-degree
returns-clause-degree c = maslov-plus_state c.args.g.now c.size-n.ensures.grid
