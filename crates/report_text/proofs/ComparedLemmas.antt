-- Tables are the same exactly if the test of their rows says so.
use Rattle.std.proofs.Common.{◌≡◌, ◌≢◌, ◌↔◌, ℕ, zero, suc, ◌+◌, ◌<◌, ◌≤◌, Bool, true, false, List, [], ◌∷◌, length, get_or, inl, inr, refl, sym, ap, ap₂, ◌∙◌, arith}
use Rattle.std.specs.Ordering.{int_eq}
use Rattle.std.proofs.lemmas.Bool.{and_from, and_parts, cases_eq, eq-eqb, false_from_ne_true, eqb-true, false≢true}
use Rattle.std.proofs.lemmas.List.{get_or_default}
use Rattle.std.proofs.lemmas.Bool.Decides.{Decides-int_eq}
use Rattle.hat_division.specs.declared.tables.TableRow.{TableRow}
use Rattle.report_text.specs.Compared.{same_row, same_rows}

same_row-is : (p q : TableRow) → (same_row p q ≡ true) ↔ (p ≡ q)
same_row-is p q = (
  λ h.
      let (m, rest) = and_parts (int_eq p.m q.m) _ h in
      let (a, rank) = and_parts (int_eq p.a q.a) _ rest in
      let same_m = (Decides-int_eq p.m q.m).0 m in
      let same_a = (Decides-int_eq p.a q.a).0 a in
      let same_rank = eqb-true p.rank q.rank rank in
      λ i. record { m = same_m i; a = same_a i; rank = same_rank i },
  λ e. and_from (int_eq p.m q.m) _ ((Decides-int_eq p.m q.m).1 (ap (λ r. r.m) e))
      (and_from (int_eq p.a q.a) _ ((Decides-int_eq p.a q.a).1 (ap (λ r. r.a) e))
      (eq-eqb p.rank q.rank (ap (λ r. r.rank) e))),
)

pub same_rows-is : (rows others : List TableRow) → (same_rows rows others ≡ true) ↔ (rows ≡ others)
same_rows-is [] [] = (λ h. refl, λ e. refl)
same_rows-is [] (q ∷ others) = (λ h. absurd (false≢true h), λ e. cc)
same_rows-is (p ∷ rows) [] = (λ h. absurd (false≢true h), λ e. cc)
same_rows-is (p ∷ rows) (q ∷ others) = (
  λ h.
      let (first, later) = and_parts (same_row p q) (same_rows rows others) h in
      let head = (same_row-is p q).0 first in
      let tail = (same_rows-is rows others).0 later in
      λ i. head i ∷ tail i,
  λ e.
      let head : p ≡ q = cc in
      let tail : rows ≡ others = cc in
      and_from (same_row p q) (same_rows rows others) ((same_row-is p q).1 head) ((same_rows-is rows others).1 tail),
)

-- ---- row by row
-- the rows before a place are the same
abbrev pub AreSameBefore : List TableRow → List TableRow → ℕ → Type 0
AreSameBefore rows others k = (j : ℕ) (d : TableRow) → j < k → same_row (get_or rows j d) (get_or others j d) ≡ true

pub same_before_none : (rows others : List TableRow) → AreSameBefore rows others 0
same_before_none rows others j d l = absurd (omega arith)

pub same_before_more : (rows others : List TableRow) (k : ℕ) (d : TableRow) → k < length rows
    → length rows ≡ length others → same_row (get_or rows k d) (get_or others k d) ≡ true
    → AreSameBefore rows others k → AreSameBefore rows others (k + 1)
same_before_more rows others k d within long here before j e l = elim (cases_eq j k) [
  | inl at ↦
      ap (λ i. same_row (get_or rows i e) (get_or others i e)) at
      ∙ ap₂ same_row (get_or_default rows k e d within)
      (get_or_default others k e d (omega (arith, within, long))) ∙ here
  | inr other ↦ before j e (omega arith)
]

-- tables of different lengths are not the same
pub same_rows-longer : (rows others : List TableRow) → length rows ≢ length others → false ≡ same_rows rows others
same_rows-longer rows others apart =
    sym (false_from_ne_true _ (λ t. apart (ap length ((same_rows-is rows others).0 t))))

-- nor are tables with different rows
pub same_rows-other : (rows others : List TableRow) (k : ℕ) (d : TableRow)
    → same_row (get_or rows k d) (get_or others k d) ≡ false → false ≡ same_rows rows others
same_rows-other rows others k d apart = sym (false_from_ne_true _ (λ t.
    let same = ap (λ rs. get_or rs k d) ((same_rows-is rows others).0 t) in
    false≢true (sym apart ∙ (same_row-is (get_or rows k d) (get_or others k d)).1 same)))

-- tables whose rows are the same, up to the last, are
pub same_rows-all : (rows others : List TableRow) (k : ℕ) → length rows ≡ length others → length rows ≤ k
    → AreSameBefore rows others k → true ≡ same_rows rows others
same_rows-all [] [] k long all each = refl
same_rows-all [] (q ∷ others) k long all each = absurd (omega (arith, long))
same_rows-all (p ∷ rows) [] k long all each = absurd (omega (arith, long))
same_rows-all (p ∷ rows) (q ∷ others) zero long all each = absurd (omega (arith, all))
same_rows-all (p ∷ rows) (q ∷ others) (suc k) long all each =
    sym (and_from (same_row p q) (same_rows rows others) (each 0 p (omega arith))
    (sym (same_rows-all rows others k (omega (arith, long)) (omega (arith, all))
    (λ j d l. each (suc j) d (omega (arith, l))))))
