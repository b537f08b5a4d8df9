-- Each Alexander degree is done in turn; in the end the map has all ranks.
use Rattle.std.proofs.Common.{◌≡◌, ◌<◌, ◌^◌, List, ◌∷◌, [], ℤ, None, length, map, w32, All, sym, subst, ◌∙◌, rules}
use mir.Val.{SFits, of_z, to_z}
use Rattle.std.specs.BTreeMap as tree
use Rattle.std.proofs.lemmas.Int.{to_z-of_z}
use Rattle.state_rank.proofs.MemberLemmas.{member_head}
use Rattle.sparse_complex.specs.declared.slices.Cell.{Cell}
use Rattle.torus_geom.specs.Inner.CodeHomology.{IsHomologyTable}
use Rattle.gradings.specs.Degrees.{bidegree_cmp}
use Rattle.hat_division.specs.Table.{homology_row}
use Rattle.homology_cert.specs.Tables.{HasSmallDegrees, HasSmallRank}
use Rattle.hat_division.specs.RankMaps.{bidegree_key}
use Rattle.homology_cert.specs.Inner.Ranks.{HasRanks, AreCounted, AreRows}
use Rattle.homology_cert.proofs.Homology.DegreeLemmas.{small-degrees}
use Rattle.homology_cert.proofs.Homology.TableLemmas.{AreLeft, done-none, done-next, rows-homology_table, rows-small, rows-homology}
use Rattle.hat_division.proofs.WordLemmas.{IfSome-value}
use Rattle.homology_cert.proofs.Homology.RowLemmas.{rows-of_ranks}
use Rattle.homology_cert.proofs.tables.table_of.Goals as goal

pub loop-a-init : goal.loop-a-init
loop-a-init c =
    let keys = c.into_iter-a-iterator.ensures.into_iter_gives ∙ c.iter-a-items.ensures.rest in
    subst (λ left. AreLeft c.args.g.now left c.new-ranks.result) (sym keys) (
      c.iter-a-items.ensures.ordered,
      done-none c.args.g.now c.in_ok-degrees.degrees c.new-ranks.result c.new-ranks.ensures.empty
          c.in_ok-degrees.ensures,
    )

pub count_cells-requires-clause-few : goal.count_cells-requires-clause-few
count_cells-requires-clause-few c =
    subst (λ cells. length cells < 2 ^ 32) (sym c.deref.ensures.value) c.in_ok-cells.ensures.ranks.few

pub count_cells-requires-clause-fresh : goal.count_cells-requires-clause-fresh
count_cells-requires-clause-fresh c =
    let fits : SFits w32 c.in-Some.a.now = search rules in
    let left : AreLeft c.args.g.now (c.in-Some.a.now ∷ c.next.new.self) c.loop-a.ranks =
    subst (λ left. AreLeft c.args.g.now left c.loop-a.ranks) c.in-Some.ensures.steps c.loop-a.invariant in
    λ m. subst (λ (a : ℤ). tree.get bidegree_cmp c.loop-a.ranks (bidegree_key (m, a)) ≡ None)
    (sym (to_z-of_z w32 c.in-Some.a.now fits))
    (left.1.fresh c.in-Some.a.now m (member_head c.in-Some.a.now c.next.new.self))

pub count_cells-requires-clause-positive : goal.count_cells-requires-clause-positive
count_cells-requires-clause-positive c = c.loop-a.invariant.1.positive

pub loop-a-preserved : goal.loop-a-preserved
loop-a-preserved c =
    let a = c.in-Some.a.now in
    let fits : SFits w32 c.in-Some.a.now = search rules in
    let same = to_z-of_z w32 c.in-Some.a.now fits in
    let cells = c.in_ok-cells.cells.items in
    done-next c.args.g.now c.in-Some.a.now c.next.new.self cells c.loop-a.ranks c.count_cells.new.ranks
    (subst (λ (b : ℤ). HasRanks c.args.g.now b cells) same c.in_ok-cells.ensures.ranks)
    (subst (λ (b : ℤ). AreCounted b cells c.loop-a.ranks c.count_cells.new.ranks) same
    (subst (λ (xs : List Cell). AreCounted
    (to_z w32 (of_z w32 c.in-Some.a.now)) xs c.loop-a.ranks c.count_cells.new.ranks) c.deref.ensures.value
    c.in_ok-count_cells.ensures))
    (subst (λ left. AreLeft c.args.g.now left c.loop-a.ranks) c.in-Some.ensures.steps c.loop-a.invariant)

pub unwrap-requires : goal.unwrap-requires
unwrap-requires c =
    let g = c.args.g.now in
    let small = small-degrees g c.in_ok-degrees.degrees c.in_ok-degrees.ensures in
    let all : AreLeft g [] c.loop-a.ranks =
    subst (λ left. AreLeft g left c.loop-a.ranks) c.in-None.ensures.steps.0 c.loop-a.invariant in
    let rows : AreRows g c.in_ok-rows.rows.items =
    rows-of_ranks g c.loop-a.ranks c.in_ok-rows.rows.items c.rows_of.ensures.ordered all.1 c.in_ok-rows.ensures.rows in
    c.of.ensures.accepted.1 (rows-homology_table g small c.in_ok-rows.rows.items rows)

pub returns-clause-table : goal.returns-clause-table
returns-clause-table c =
    let g = c.args.g.now in
    let small = small-degrees g c.in_ok-degrees.degrees c.in_ok-degrees.ensures in
    let all : AreLeft g [] c.loop-a.ranks =
    subst (λ left. AreLeft g left c.loop-a.ranks) c.in-None.ensures.steps.0 c.loop-a.invariant in
    let rows : AreRows g c.in_ok-rows.rows.items =
    rows-of_ranks g c.loop-a.ranks c.in_ok-rows.rows.items c.rows_of.ensures.ordered all.1 c.in_ok-rows.ensures.rows in
    let same =
    IfSome-value (λ t. t ≡ c.in_ok-rows.rows.items) c.of.result c.unwrap.result c.unwrap.ensures c.of.ensures.rows in
    subst (λ t. IsHomologyTable g (map homology_row t)) (sym same) (rows-homology g small c.in_ok-rows.rows.items rows)

pub returns-clause-degrees : goal.returns-clause-degrees
returns-clause-degrees c =
    let g = c.args.g.now in
    let small = small-degrees g c.in_ok-degrees.degrees c.in_ok-degrees.ensures in
    let all : AreLeft g [] c.loop-a.ranks =
    subst (λ left. AreLeft g left c.loop-a.ranks) c.in-None.ensures.steps.0 c.loop-a.invariant in
    let rows : AreRows g c.in_ok-rows.rows.items =
    rows-of_ranks g c.loop-a.ranks c.in_ok-rows.rows.items c.rows_of.ensures.ordered all.1 c.in_ok-rows.ensures.rows in
    let same =
    IfSome-value (λ t. t ≡ c.in_ok-rows.rows.items) c.of.result c.unwrap.result c.unwrap.ensures c.of.ensures.rows in
    subst (All HasSmallDegrees) (sym same) (rows-small g small c.in_ok-rows.rows.items rows)

pub returns-clause-ranks : goal.returns-clause-ranks
returns-clause-ranks c =
    let g = c.args.g.now in
    let small = small-degrees g c.in_ok-degrees.degrees c.in_ok-degrees.ensures in
    let all : AreLeft g [] c.loop-a.ranks =
    subst (λ left. AreLeft g left c.loop-a.ranks) c.in-None.ensures.steps.0 c.loop-a.invariant in
    let rows : AreRows g c.in_ok-rows.rows.items =
    rows-of_ranks g c.loop-a.ranks c.in_ok-rows.rows.items c.rows_of.ensures.ordered all.1 c.in_ok-rows.ensures.rows in
    let same =
    IfSome-value (λ t. t ≡ c.in_ok-rows.rows.items) c.of.result c.unwrap.result c.unwrap.ensures c.of.ensures.rows in
    subst (All HasSmallRank) (sym same) rows.ranks
