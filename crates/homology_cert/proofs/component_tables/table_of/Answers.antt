-- Each Alexander degree is done in turn; in the end the rows are the table.
use Rattle.std.proofs.Common.{◌≡◌, ◌<◌, ◌^◌, List, [], ℤ, length, map, w32, All, sym, subst, ◌∙◌, rules}
use mir.Val.{SFits}
use Rattle.std.proofs.lemmas.Int.{to_z-of_z}
use Rattle.sparse_complex.specs.declared.slices.Cell.{Cell}
use Rattle.torus_geom.specs.Components.{components}
use Rattle.homology_cert.specs.Inner.CodeComponents.{IsComponentTable}
use Rattle.homology_cert.specs.ComponentRows.{component_row, HasSmallComponentRank}
use Rattle.hat_division.specs.MultiTable.{HasLength, IsSmallByComponent}
use Rattle.homology_cert.specs.Inner.Left.{IsCell, HasComponentRanks, AreCounted, IsDone}
use Rattle.hat_division.proofs.WordLemmas.{IfSome-value}
use Rattle.homology_cert.proofs.Components.DoneRows.{AreLeft, done-none, done-next, done-table, done-rows, done-lengths, done-small, done-ranks}
use Rattle.homology_cert.proofs.component_tables.table_of.Goals as goal

pub loop-a-init : goal.loop-a-init
loop-a-init c =
    let keys = c.into_iter-a-iterator.ensures.into_iter_gives ∙ c.iter-a-items.ensures.rest in
    subst (λ left. AreLeft c.args.g.now left c.new-rows.result.items) (sym keys) (
      c.iter-a-items.ensures.ordered,
      done-none c.args.g.now c.size-size.ensures.grid c.in_ok-degrees.degrees c.new-rows.result.items
          c.new-rows.ensures.items c.in_ok-degrees.ensures,
    )

pub count_states-requires-clause-states : goal.count_states-requires-clause-states
count_states-requires-clause-states c =
    subst (λ cells. All (IsCell c.args.g.now) cells) (sym c.deref.ensures.value) c.in_ok-cells.ensures.components.states

pub count_states-requires-clause-few : goal.count_states-requires-clause-few
count_states-requires-clause-few c =
    subst (λ cells. length cells < 2 ^ 32) (sym c.deref.ensures.value) c.in_ok-cells.ensures.components.few

pub count_states-requires-clause-positive : goal.count_states-requires-clause-positive
count_states-requires-clause-positive c = c.loop-a.invariant.1.positive

pub count_states-requires-clause-small : goal.count_states-requires-clause-small
count_states-requires-clause-small c = c.loop-a.invariant.1.small

pub loop-a-preserved : goal.loop-a-preserved
loop-a-preserved c =
    let g = c.args.g.now in
    let fits : SFits w32 c.in-Some.a.now = search rules in
    let same = to_z-of_z w32 c.in-Some.a.now fits in
    let cells = c.in_ok-cells.cells.items in
    done-next g c.size-size.ensures.grid c.in-Some.a.now c.next.new.self cells c.loop-a.rows.items
    c.count_states.new.rows.items
    (subst (λ (b : ℤ). HasComponentRanks g b cells) same c.in_ok-cells.ensures.components)
    (subst (λ (xs : List Cell). AreCounted g xs c.loop-a.rows.items c.count_states.new.rows.items) c.deref.ensures.value
    c.in_ok-count_states.ensures)
    (subst (λ left. AreLeft g left c.loop-a.rows.items) c.in-Some.ensures.steps c.loop-a.invariant)

-- all degrees were done
all_done : (c : goal.After-of) → IsDone c.args.g.now [] c.loop-a.rows.items
all_done c =
    let all : AreLeft c.args.g.now [] c.loop-a.rows.items =
    subst (λ left. AreLeft c.args.g.now left c.loop-a.rows.items) c.in-None.ensures.steps.0 c.loop-a.invariant in
    all.1

pub unwrap-requires : goal.unwrap-requires
unwrap-requires c =
    c.of.ensures.accepted.1
    (done-rows c.args.g.now c.size-size.ensures.grid c.in_ok-degrees.degrees c.in_ok-degrees.ensures c.loop-a.rows.items
    (all_done c))

-- the table that was made
made : (c : goal.After-drop-degrees-2) → c.unwrap.result ≡ c.loop-a.rows.items
made c =
    IfSome-value (λ t. t ≡ c.loop-a.rows.items) c.of.result c.unwrap.result c.unwrap.ensures c.of.ensures.rows

at_end : (c : goal.After-drop-degrees-2) → IsDone c.args.g.now [] c.loop-a.rows.items
at_end c =
    let all : AreLeft c.args.g.now [] c.loop-a.rows.items =
    subst (λ left. AreLeft c.args.g.now left c.loop-a.rows.items) c.in-None.ensures.steps.0 c.loop-a.invariant in
    all.1

pub returns-clause-table : goal.returns-clause-table
returns-clause-table c =
    subst (λ t. IsComponentTable c.args.g.now (map component_row t)) (sym (made c))
    (done-table c.args.g.now c.size-size.ensures.grid c.in_ok-degrees.degrees c.in_ok-degrees.ensures
    c.loop-a.rows.items
    (at_end c))

pub returns-clause-lengths : goal.returns-clause-lengths
returns-clause-lengths c =
    subst (All (HasLength (components c.args.g.now))) (sym (made c))
    (done-lengths c.args.g.now c.size-size.ensures.grid c.in_ok-degrees.degrees c.in_ok-degrees.ensures
    c.loop-a.rows.items (at_end c))

pub returns-clause-degrees : goal.returns-clause-degrees
returns-clause-degrees c =
    subst (All IsSmallByComponent) (sym (made c))
    (done-small c.args.g.now c.size-size.ensures.grid c.in_ok-degrees.degrees c.in_ok-degrees.ensures
    c.loop-a.rows.items
    (at_end c))

pub returns-clause-ranks : goal.returns-clause-ranks
returns-clause-ranks c =
    subst (All HasSmallComponentRank) (sym (made c))
    (done-ranks c.args.g.now c.size-size.ensures.grid c.in_ok-degrees.degrees c.in_ok-degrees.ensures
    c.loop-a.rows.items
    (at_end c))
