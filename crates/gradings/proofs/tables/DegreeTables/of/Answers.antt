-- The constants are those of the marks.
use Rattle.std.proofs.Common.{◌≡◌, ℕ, ◌<◌, length, pos, ap, subst, ◌∙◌, arith}
use Rattle.std.proofs.lemmas.Int.{ints}
use Rattle.state_rank.specs.declared.TheConstants.{MAX_SIZE}
use Rattle.torus_geom.specs.Marks.{size}
use Rattle.gradings.specs.Inner.Tables.{left_below, pairs_of, weight, entry}
use Rattle.gradings.proofs.TableLemmas.{marks_even, half_of_marks-is, half_of_marks_small}
use Rattle.gradings.proofs.tables.DegreeTables.of.Goals as goal

pub overflow_sub-o_pairs-2 : goal.overflow_sub-o_pairs-2
overflow_sub-o_pairs-2 c =
    let o_low = c.pairs-o_pairs.ensures.low in
    let o_high = c.pairs-o_pairs.ensures.high in
    let x_low = c.pairs.ensures.low in
    let x_high = c.pairs.ensures.high in
    let few = c.components.type_inv in
    let exponent = c.from.ensures in
    let room = c.o_rows-o.ensures.grid.is_size.greatest in
    let rows = ap length c.o_rows-o.ensures.rows in
    omega (arith, ints)

o_pairs : (c : goal.After-half) → c.pairs-o_pairs.result ≡ pairs_of (size c.args.g.now) c.args.g.now.o
o_pairs c = c.pairs-o_pairs.ensures.value ∙ ap (λ xs. pairs_of (length xs) xs) c.o_rows-o.ensures.rows

x_pairs : (c : goal.After-half) → c.pairs.result ≡ pairs_of (size c.args.g.now) c.args.g.now.x
x_pairs c =
    c.pairs.ensures.value ∙ ap (λ xs. pairs_of (length xs) xs) c.x_rows-x.ensures.rows
    ∙ ap (λ n. pairs_of n c.args.g.now.x) c.o_rows-o.ensures.grid.x.long

half_found : (c : goal.After-half) → c.half.result ≡ (marks_even c.args.g.now c.o_rows-o.ensures.grid).0
half_found c =
    let even = (marks_even c.args.g.now c.o_rows-o.ensures.grid).1 in
    let of_o = o_pairs c in
    let of_x = x_pairs c in
    let o_low = c.pairs-o_pairs.ensures.low in
    let o_high = c.pairs-o_pairs.ensures.high in
    let x_low = c.pairs.ensures.low in
    let x_high = c.pairs.ensures.high in
    let few = c.components.type_inv in
    let counted = c.components.ensures.number in
    let exponent = c.from.ensures in
    let room = c.o_rows-o.ensures.grid.is_size.greatest in
    let rows = ap length c.o_rows-o.ensures.rows in
    c.half.ensures (marks_even c.args.g.now c.o_rows-o.ensures.grid).0 (omega (arith, ints))

pub overflow_sub-result-2 : goal.overflow_sub-result-2
overflow_sub-result-2 c =
    let half = half_found c in
    let small = half_of_marks_small c.args.g.now c.o_rows-o.ensures.grid in
    let low = small.low in
    let high = small.high in
    let room = c.o_rows-o.ensures.grid.is_size.greatest in
    let rows = ap length c.o_rows-o.ensures.rows in
    omega (arith, ints)

pub invariant_of-result : goal.invariant_of-result
invariant_of-result c =
    let g = c.args.g.now in
    let at_o = c.o_rows-o.ensures.rows in
    let at_x = c.x_rows-x.ensures.rows in
    let half = half_found c in
    let is = half_of_marks-is g c.o_rows-o.ensures.grid in
    let small = half_of_marks_small g c.o_rows-o.ensures.grid in
    let low = small.low in
    let high = small.high in
    let of_o = o_pairs c in
    let o_low = c.pairs-o_pairs.ensures.low in
    let o_high = c.pairs-o_pairs.ensures.high in
    let room = c.o_rows-o.ensures.grid.is_size.greatest in
    let rows = ap length at_o in
    record {
      grid = c.o_rows-o.ensures.grid;
      o_below =
          subst (λ xs. (c' r : ℕ) → c' < length xs → r < MAX_SIZE
          → pos (entry c.o_table.result c' r) ≡ left_below (length xs) xs c' r) at_o c.o_table.ensures;
      weights =
          subst (λ xs. (c' r : ℕ) → c' < length g.o → r < MAX_SIZE
          → pos (entry c.weight_table.result c' r) ≡ weight (length g.o) g.o xs c' r) at_x
          (subst (λ xs. (c' r : ℕ) → c' < length xs → r < MAX_SIZE
          → pos (entry c.weight_table.result c' r) ≡ weight (length xs) xs c.x_rows-x.result.now c' r) at_o
          c.weight_table.ensures);
      maslov_of_marks = omega (arith, ints);
      alexander_of_marks = omega (arith, ints);
    }
