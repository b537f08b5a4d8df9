-- Row by row; in the end all ranks of the product are in the map.
use Rattle.std.proofs.Common.{◌≡◌, length, All, map, sym, subst, ◌∙◌, arith}
use Rattle.hat_division.specs.Product.{IsProduct, IsSmall}
use Rattle.hat_division.specs.RankMaps.{row_of}
use Rattle.hat_division.specs.Inner.Products.{AreRowsPut}
use Rattle.hat_division.specs.Table.{IsTable}
use Rattle.hat_division.proofs.ProductMapLemmas.{rows-none, rows-more, rows-product, rows-table}
use Rattle.hat_division.proofs.WordLemmas.{IfSome-value}
use Rattle.hat_division.proofs.products.times_factor.Goals as goal

pub loop-row-init : goal.loop-row-init
loop-row-init c = rows-none c.args.k c.rows-rows.result.now c.new-product.result c.new-product.ensures.empty

pub loop-row-preserved : goal.loop-row-preserved
loop-row-preserved c =
    rows-more c.args.k c.rows-rows.result.now c.loop-row.row-index _ c.loop-row.product c.put_shifts.new.product
    c.loop-row-test.true c.loop-row.invariant c.in_ok-put_shifts.ensures

pub unwrap-requires : goal.unwrap-requires
unwrap-requires c =
    let rows = c.rows-rows.result.now in
    let small : All IsSmall rows = subst (λ xs. All IsSmall xs) (sym c.rows-rows.ensures.rows) c.requires.small in
    c.of.ensures.accepted.1
    (subst IsTable (sym c.in_ok-product_rows.ensures.rows)
    (rows-table c.args.k rows c.loop-row.product c.requires.exponent c.rows-rows.ensures.table.ordered
    (λ i d l. (small i d l).bounded) c.loop-row.invariant.so_far c.rows_of.ensures.ordered))

pub returns : goal.returns
returns c =
    let same =
    IfSome-value (λ t. t ≡ c.in_ok-product_rows.product_rows.items) c.of.result c.unwrap.result c.unwrap.ensures
    c.of.ensures.rows ∙ c.in_ok-product_rows.ensures.rows in
    let rows = c.rows-rows.result.now in
    let all : c.loop-row.row-index ≡ length rows = omega arith in
    let product : IsProduct c.args.k rows (map row_of c.loop-row.product.entries) =
    rows-product c.args.k rows c.loop-row.product
    (subst (λ n. AreRowsPut c.args.k rows n c.loop-row.product) all c.loop-row.invariant) c.rows_of.ensures.ordered in
    subst (λ xs. IsProduct c.args.k xs c.unwrap.result) c.rows-rows.ensures.rows
    (subst (IsProduct c.args.k rows) (sym same) product)
