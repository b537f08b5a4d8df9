-- The sums with a row on the column are those without it, moved by its weight.
use Rattle.std.proofs.Common.{◌*◌, ◌%◌, ◌^◌, ◌<◌, bit_or, refl, subst, sym, ◌∙◌, arith}
use Rattle.std.proofs.lemmas.Nat.Bits.{shr_and_one}
use Rattle.torus_geom.specs.Marks.{size}
use Rattle.gradings.proofs.SetLemmas.{used_row, moved_sum, place_fits}
use Rattle.gradings.proofs.sums.row_set.Goals as goal

pub overflow_shr-used : goal.overflow_shr-used
overflow_shr-used c = let s = c.requires.size in omega arith

pub returns-then-used-row-eq1 : goal.returns-then-used-row-eq1
returns-then-used-row-eq1 c = λ z k s is at sum.
    let l = c.requires.size in
    let free = used_row (size c.args.tables.now) c.args.c c.args.row c.args.used z s (omega arith) is at in
    let bit = sym (shr_and_one c.args.used c.args.row) ∙ c.if-used-row-eq1.true in
    absurd (omega (arith, free, bit))

pub overflow_shl-result : goal.overflow_shl-result
overflow_shl-result c = let s = c.requires.size in omega arith

pub offset_bounds-sets-used : goal.offset_bounds-sets-used
offset_bounds-sets-used c =
    let s = c.requires.size in
    let place = place_fits c.args.n c.args.used c.args.row c.requires.within (omega arith) (omega arith) in
    let low = place.1 in
    omega arith

pub bounds-sets-used : goal.bounds-sets-used
bounds-sets-used c =
    let s = c.requires.size in
    subst (λ n. bit_or c.args.used (1 * 2 ^ c.args.row % 2 ^ 64) < n) (sym c.requires.long)
    (place_fits c.args.n c.args.used c.args.row c.requires.within (omega arith) (omega arith)).0

pub returns : goal.returns
returns c =
    let s = c.requires.size in
    moved_sum c.args.tables.now (omega arith) c.args.c (omega arith) c.args.row c.args.used c.weight.result _
    c.args.sets.now c.requires.after (omega arith) c.weight.ensures.value refl
