use Rattle.std.proofs.Common.{◌≡◌, ℕ, ◌<◌, [], refl, pos, ◌+ℤ◌, ◌-ℤ◌, ap, ◌∙◌, arith, length, slice_index}
use Rattle.state_rank.specs.declared.TheConstants.{MAX_SIZE}
use Rattle.gradings.specs.Inner.Tables.{left_below, weight}
use Rattle.gradings.proofs.MaslovLemmas.{count_below-take}
use Rattle.gradings.proofs.TableLemmas.{IsFilledWith-more}
use Rattle.gradings.proofs.tables.weight_table.Goals as goal

pub loop-c-init : goal.loop-c-init
loop-c-init c = record { whole = refl; each = λ k l. absurd (omega arith) }

pub loop-c-preserved : goal.loop-c-preserved
loop-c-preserved c =
    let inside = c.loop-c-test.true in
    let room = c.requires.room in
    let long = c.requires.one_size in
    IsFilledWith-more _ _ _ [] (λ c' column. (r : ℕ) → r < MAX_SIZE
    → pos (slice_index column r) ≡ weight (length c.args.o.now) c.args.o.now c.args.x.now c' r) _
    (omega arith) c.loop-c.invariant
    (λ r l.
    let o = count_below-take c.args.o.now c.loop-c.c r (omega arith) in
    let x = count_below-take c.args.x.now c.loop-c.c r (omega arith)
    ∙ ap (λ n. left_below n c.args.x.now c.loop-c.c r) long in
    c.column_weights.ensures r l ∙ (λ i. pos MAX_SIZE +ℤ (x i -ℤ o i)))
