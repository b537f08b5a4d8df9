use Rattle.std.proofs.Common.{◌≡◌, ℕ, ◌<◌, [], refl, pos, ◌∙◌, arith, length, slice_index}
use Rattle.state_rank.specs.declared.TheConstants.{MAX_SIZE}
use Rattle.gradings.specs.Inner.Tables.{left_below}
use Rattle.gradings.proofs.MaslovLemmas.{count_below-take}
use Rattle.gradings.proofs.TableLemmas.{IsFilledWith-more}
use Rattle.gradings.proofs.tables.o_table.Goals as goal

pub loop-c-init : goal.loop-c-init
loop-c-init c = record { whole = refl; each = λ k l. absurd (omega arith) }

pub loop-c-preserved : goal.loop-c-preserved
loop-c-preserved c =
    let inside = c.loop-c-test.true in
    let room = c.requires in
    IsFilledWith-more _ _ _ [] (λ c' column. (r : ℕ) → r < MAX_SIZE
    → pos (slice_index column r) ≡ left_below (length c.args.o.now) c.args.o.now c' r) _
    (omega arith) c.loop-c.invariant
    (λ r l. c.counts_below.ensures r l ∙ count_below-take c.args.o.now c.loop-c.c r (omega arith))
