-- The lines of a comparison of two grids. A line has a value of the first grid and one of the second, in words or
-- numbers if they are short, and whether they are the same.
--     same_row p q            the rows of two tables are the same
--     same_rows p q           so are the tables
--     same_bool v w           the truth values are the same
--     same_word b             the word for two values that are the same, or that are not
--     hat_word p q            the same for two hats if both are there, and else the word that one of them is none
--     numbers_line word v w   a word, two numbers, and whether they are the same
--     verdicts_line word v w  a word, whether two classes are alive, and whether they are alike in this
--     compare_lines a b       the lines for two grids: tb, rot, the table, the hat, and the classes of x+ and x-
use Rattle.std.specs.Prelude.{ℕ, ℤ, Bool, true, false, not, ◌&&◌, ◌==◌, List, [], ◌∷◌, ◌++◌, codes, Option, None, Some, if◌then◌else◌}
use Rattle.std.specs.Ordering.{int_eq}
use Rattle.std.specs.Fmt.{signed_decimal}
use Rattle.text_lines.specs.Lines.{line}
use Rattle.hat_division.specs.declared.tables.TableRow.{TableRow}
use Rattle.report_text.specs.Lines.{verdict_word}
use Rattle.report_text.specs.declared.comparisons.Facts.{Facts}

abbrev pub same_row : TableRow → TableRow → Bool
same_row p q = int_eq p.m q.m && (int_eq p.a q.a && (p.rank == q.rank))

abbrev pub same_rows : List TableRow → List TableRow → Bool
same_rows [] [] = true
same_rows [] (q ∷ others) = false
same_rows (p ∷ rows) [] = false
same_rows (p ∷ rows) (q ∷ others) = same_row p q && same_rows rows others

abbrev pub same_bool : Bool → Bool → Bool
same_bool v w = if v then w else not w

abbrev pub same_word : Bool → List ℕ
same_word b = if b then codes "same" else codes "different"

abbrev pub hat_word : Option (List TableRow) → Option (List TableRow) → List ℕ
hat_word (Some p) (Some q) = same_word (same_rows p q)
hat_word (Some p) None = codes "none"
hat_word None q = codes "none"

abbrev pub numbers_line : List ℕ → ℤ → ℤ → List ℕ
numbers_line word v w = line
    (word ++ signed_decimal v ++ 32 ∷ signed_decimal w ++ 32 ∷ same_word (int_eq v w))

abbrev pub verdicts_line : List ℕ → Bool → Bool → List ℕ
verdicts_line word v w = line (word ++ verdict_word v ++ 32 ∷ verdict_word w ++ 32 ∷ same_word (same_bool v w))

abbrev pub compare_lines : Facts → Facts → List ℕ
compare_lines a b =
    numbers_line (codes "tb ") a.front.tb b.front.tb ++ numbers_line (codes "rot ") a.front.rot b.front.rot
    ++ line (codes "table " ++ same_word (same_rows a.table b.table)) ++ line (codes "hat " ++ hat_word a.hat b.hat)
    ++ verdicts_line (codes "class + ") a.plus_alive b.plus_alive
    ++ verdicts_line (codes "class - ") a.minus_alive b.minus_alive
