-- Before the first column is made, nothing is left to add.
use Rattle.std.proofs.Common.{◌≡◌, ◌<◌, ◌*◌, ◌%◌, ◌^◌, length, replicate, ap, subst, sym, ◌∙◌, arith}
use Rattle.std.proofs.lemmas.List.{length-replicate}
use Rattle.std.proofs.lemmas.Nat.{one_shl}
use Rattle.torus_geom.specs.Marks.{Marks, size}
use Rattle.gradings.proofs.SetLemmas.{HoldsSums-end}
use Rattle.gradings.proofs.sums.PossibleSums.of.Goals as goal

pub loop-c-init : goal.loop-c-init
loop-c-init c =
    let grid = c.size-c.ensures.grid in
    let few = grid.is_size.greatest in
    let same : c.size-c.result ≡ size c.of-tables.result =
    c.size-c.ensures.size ∙ ap size (sym c.of-tables.ensures) in
    let places : 1 * 2 ^ c.size.result % 2 ^ 64 ≡ 2 ^ size c.of-tables.result =
    ap (λ n. 1 * 2 ^ n % 2 ^ 64) (c.size.ensures.size ∙ ap size (sym c.of-tables.ensures))
    ∙ one_shl (size c.of-tables.result) 64
    (subst (λ (g : Marks). size g < 64) (sym c.of-tables.ensures) (omega arith)) in
    let sets : c.in_ok-sets.sets.items ≡ replicate (2 ^ size c.of-tables.result) 1 =
    c.in_ok-sets.ensures.items_if_clones_equal (λ y e. e) ∙ ap (λ m. replicate m 1) places in (
      ap length sets ∙ length-replicate (2 ^ size c.of-tables.result) 1,
      HoldsSums-end c.of-tables.result c.size-c.result c.in_ok-sets.sets.items same sets,
    )
