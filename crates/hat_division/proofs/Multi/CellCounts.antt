-- A cell counted in the table that is made.
use Rattle.std.proofs.Common.{◌≡◌, ℕ, ◌+◌, ◌<◌, ◌≤◌, ℤ, true, false, if◌then◌else◌, List, length, get_or, set, sym, ap, ◌∙◌, arith}
use Rattle.std.specs.List.{insert}
use Rattle.hat_division.specs.DegreeLists.{stands_before_by_component}
use Rattle.hat_division.specs.MultiTable.{degrees_of, ArePositive, IsCounted}
use Rattle.hat_division.specs.declared.multi_tables.MultiRow.{MultiRow}
use Rattle.hat_division.proofs.Multi.DegreeListLemmas.{same_multidegree}
use Rattle.hat_division.proofs.Multi.MultiTableLemmas.{multi_shape, component_rank_at-ranks_of}
use Rattle.hat_division.proofs.Factors.CountedRows.{ranks_of-insert, ArePositive-insert, ranks_of-raised, ArePositive-raised}
use Rattle.hat_division.proofs.Multi.DividedRows.{general}

-- its row was there
pub counted_raised : (old : List MultiRow) (p : ℕ) (found new : MultiRow) (k : ℤ × List ℤ) → ArePositive old
    → p < length old → found ≡ get_or old p found → degrees_of found ≡ k → degrees_of new ≡ k
    → new.rank ≡ found.rank + 1 → IsCounted k old (set old p new)
counted_raised old p found new k h within is at_found at_new more =
    let at : degrees_of new ≡ degrees_of (get_or old p found) = at_new ∙ sym at_found ∙ ap degrees_of is in
    let rank : new.rank ≡ (get_or old p found).rank + 1 = more ∙ ap (λ r. r.rank + 1) is in
    let positive = ArePositive-raised multi_shape old p new found (general old h) within at (omega arith) in
    record {
      positive = record { ordered = positive.ordered; positive = positive.positive };
      ranks = λ l.
          component_rank_at-ranks_of (set old p new) l ∙ ranks_of-raised multi_shape old p new found l within at rank
          ∙ (λ j. sym (component_rank_at-ranks_of old l) j + (if same_multidegree (at_new j) l then 1 else 0));
    }

-- or it is put in its place
pub counted_inserted : (old : List MultiRow) (p : ℕ) (new : MultiRow) (k : ℤ × List ℤ) → ArePositive old
    → degrees_of new ≡ k → new.rank ≡ 1 → p ≤ length old
    → ((j : ℕ) (d : MultiRow) → j < p → stands_before_by_component (degrees_of (get_or old j d)) (degrees_of new)
    ≡ true)
    → ((d : MultiRow) → p < length old → stands_before_by_component (degrees_of (get_or old p d)) (degrees_of new)
    ≡ false)
    → ((d : MultiRow) → p < length old → degrees_of (get_or old p d) ≡ degrees_of new → ⊥)
    → IsCounted k old (insert old p new)
counted_inserted old p new k h at_new one within before rest free =
    let positive =
    ArePositive-insert multi_shape old p new (general old h) (omega arith) within before rest free in
    record {
      positive = record { ordered = positive.ordered; positive = positive.positive };
      ranks = λ l.
          component_rank_at-ranks_of (insert old p new) l ∙ ranks_of-insert multi_shape old p new l
          ∙ (λ j. sym (component_rank_at-ranks_of old l) j + (if same_multidegree (at_new j) l then one j else 0));
    }
