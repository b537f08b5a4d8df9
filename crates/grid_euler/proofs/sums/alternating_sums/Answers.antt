-- Each row adds its rank at its Alexander degree.
use Rattle.std.proofs.Common.{◌≡◌, ◌+◌, ◌*◌, ◌^◌, ℤ, pos, neg_ℤ, ◌≤ℤ◌, All, [], map, get_or, refl, replicate, take, sym, ap, subst, ◌∙◌, arith, rules, w32}
use Rattle.std.proofs.lemmas.Int.{to_z-of_z}
use Rattle.std.proofs.lemmas.Result.{IfOk-weaker}
use Rattle.std.specs.Prelude.{IfOk}
use mir.Val.{SFits}
use Rattle.hat_division.specs.Product.{IsSmall}
use Rattle.hat_division.specs.declared.tables.TableRow.{TableRow}
use Rattle.hat_division.specs.Table.{homology_row}
use Rattle.grid_euler.specs.Euler.{alternating_sum, signed, IsTableOf}
use Rattle.grid_euler.specs.Inner.Sums.{AreSums, AreBounded}
use Rattle.grid_euler.proofs.PlaceLemmas.{AreBounded-wider, bounded_none, sums_none}
use Rattle.grid_euler.proofs.SumLemmas.{all_rows, alternating_sum-vanishes, few_rows, row_added, signed-high, signed-low, written_back}
use Rattle.grid_euler.proofs.WordLemmas.{passed, rank_low, rank_word}
use Rattle.grid_euler.proofs.sums.alternating_sums.Goals as goal

abbrev none : TableRow
none = record { m = pos 0; a = pos 0; rank = 0 }

pub loop-row-init : goal.loop-row-init
loop-row-init c =
    let zeros : c.in_ok-sums.sums.items ≡ replicate 2001 (pos 0) =
    c.in_ok-sums.ensures.items_if_clones_equal (λ y e. e) in
    record {
      running = subst (AreSums (alternating_sum [])) (sym zeros) (sums_none (alternating_sum []) (λ a. refl));
      bounded = subst (AreBounded 0) (sym zeros) bounded_none;
    }

pub signed-requires : goal.signed-requires
signed-requires c =
    let rows = c.rows-row-items.result.now in
    let small : All IsSmall rows = subst (All IsSmall) (sym c.rows-row-items.ensures.rows) c.requires in
    rank_low (get_or rows c.loop-row.row-index none).rank (small c.loop-row.row-index none c.loop-row-test.true).bounded

pub add_at-requires-clause-room : goal.add_at-requires-clause-room
add_at-requires-clause-room c =
    let rows = c.rows-row-items.result.now in
    let small : All IsSmall rows = subst (All IsSmall) (sym c.rows-row-items.ensures.rows) c.requires in
    let few = few_rows rows c.rows-row-items.ensures.table.ordered small c.loop-row.row-index c.loop-row-test.true in
    subst (AreBounded (2 ^ 61)) (sym c.deref_mut.ensures.value)
    (AreBounded-wider (2 ^ 32 * c.loop-row.row-index) (2 ^ 61) c.loop-row.sums.items (omega arith)
    c.loop-row.invariant.bounded)

pub add_at-requires-clause-low : goal.add_at-requires-clause-low
add_at-requires-clause-low c =
    let rows = c.rows-row-items.result.now in
    let small : All IsSmall rows = subst (All IsSmall) (sym c.rows-row-items.ensures.rows) c.requires in
    let row = get_or rows c.loop-row.row-index none in
    let s = small c.loop-row.row-index none c.loop-row-test.true in
    let few = s.bounded in
    let fits_m : SFits w32 row.m = search rules in
    let is : c.signed.result ≡ signed row.m row.rank =
    c.signed.ensures row.rank (rank_word row.rank s.bounded) ∙ ap (λ m. signed m row.rank) (to_z-of_z w32 row.m fits_m)
    in
    subst (λ v. neg_ℤ (pos (2 ^ 61)) ≤ℤ v)
    (sym (passed c.signed.result (signed row.m row.rank) is (signed-low row.m row.rank (2 ^ 32) s.bounded)
    (signed-high row.m row.rank (2 ^ 32) s.bounded)))
    (signed-low row.m row.rank (2 ^ 61) (omega arith))

pub add_at-requires-clause-high : goal.add_at-requires-clause-high
add_at-requires-clause-high c =
    let rows = c.rows-row-items.result.now in
    let small : All IsSmall rows = subst (All IsSmall) (sym c.rows-row-items.ensures.rows) c.requires in
    let row = get_or rows c.loop-row.row-index none in
    let s = small c.loop-row.row-index none c.loop-row-test.true in
    let few = s.bounded in
    let fits_m : SFits w32 row.m = search rules in
    let is : c.signed.result ≡ signed row.m row.rank =
    c.signed.ensures row.rank (rank_word row.rank s.bounded) ∙ ap (λ m. signed m row.rank) (to_z-of_z w32 row.m fits_m)
    in
    subst (λ v. v ≤ℤ pos (2 ^ 61))
    (sym (passed c.signed.result (signed row.m row.rank) is (signed-low row.m row.rank (2 ^ 32) s.bounded)
    (signed-high row.m row.rank (2 ^ 32) s.bounded)))
    (signed-high row.m row.rank (2 ^ 61) (omega arith))

pub loop-row-preserved : goal.loop-row-preserved
loop-row-preserved c =
    let rows = c.rows-row-items.result.now in
    let small : All IsSmall rows = subst (All IsSmall) (sym c.rows-row-items.ensures.rows) c.requires in
    let k = c.loop-row.row-index in
    let row = get_or rows k none in
    let s = small k none c.loop-row-test.true in
    let fits_m : SFits w32 row.m = search rules in
    let fits_a : SFits w32 row.a = search rules in
    let is : c.signed.result ≡ signed row.m row.rank =
    c.signed.ensures row.rank (rank_word row.rank s.bounded) ∙ ap (λ m. signed m row.rank) (to_z-of_z w32 row.m fits_m)
    in
    let term = passed c.signed.result (signed row.m row.rank) is (signed-low row.m row.rank (2 ^ 32) s.bounded)
    (signed-high row.m row.rank (2 ^ 32) s.bounded) in
    let bound : 2 ^ 32 * k + 2 ^ 32 ≡ 2 ^ 32 * (k + 1) = omega arith in
    let new = c.add_at.new.sums in
    let old = c.loop-row.sums.items in
    let lent = sym c.deref_mut.ensures.value in
    let back = written_back new old _ c.loop-row.sums.len c.add_at.ensures.length c.loop-row.invariant.running.long
    c.loop-row.sums.ok.0 in
    let before : ℤ → ℤ = alternating_sum (map homology_row (take k rows)) in
    record {
      running = subst (AreSums (alternating_sum (map homology_row (take (k + 1) rows)))) (sym back)
          (row_added rows k none c.loop-row-test.true _ _ new (to_z-of_z w32 row.a fits_a) term
          (c.add_at.ensures.sums before (subst (AreSums before) lent c.loop-row.invariant.running)));
      bounded = subst (AreBounded (2 ^ 32 * (k + 1))) (sym back) (subst (λ b. AreBounded b new) bound
          (c.add_at.ensures.bounded (2 ^ 32 * k) (2 ^ 32)
          (subst (AreBounded (2 ^ 32 * k)) lent c.loop-row.invariant.bounded)
          (subst (λ v. neg_ℤ (pos (2 ^ 32)) ≤ℤ v) (sym term) (signed-low row.m row.rank (2 ^ 32) s.bounded))
          (subst (λ v. v ≤ℤ pos (2 ^ 32)) (sym term) (signed-high row.m row.rank (2 ^ 32) s.bounded))));
    }

pub returns : goal.returns
returns c =
    let rows = c.rows-row-items.result.now in
    let small : All IsSmall rows = subst (All IsSmall) (sym c.rows-row-items.ensures.rows) c.requires in
    let sums : AreSums (alternating_sum (map homology_row rows)) c.deref.result.now =
    subst (AreSums (alternating_sum (map homology_row rows))) (sym c.deref.ensures.value)
    (all_rows rows c.loop-row.row-index c.loop-row.sums.items c.loop-row-test.false c.loop-row.invariant.running) in
    subst (λ rs. IfOk c.table_of.result (λ table. IsTableOf (alternating_sum (map homology_row rs)) table))
    c.rows-row-items.ensures.rows
    (IfOk-weaker c.table_of.result _ (λ table. IsTableOf (alternating_sum (map homology_row rows)) table)
    (λ table h. h (alternating_sum (map homology_row rows)) sums (alternating_sum-vanishes rows small))
    c.table_of.ensures)
