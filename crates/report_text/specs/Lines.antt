-- The lines that a report has, as bytes. One space stands between words, and one line feed ends each
-- line. Whole numbers are decimal, with `-` before negative ones.
--     front_line tb rot l        the Thurston-Bennequin number, the rotation number and the number of
--                                components of a front
--     row_line row               the line of a row of a table: its Maslov degree, its Alexander degree and its rank
--     verdict_word alive         the word for what a class is
--     class_line sign x m a alive
--                                the state x+ or x- of a grid, its Maslov and its Alexander degree, and whether its
--                                class is alive or null
--     table_lines rows           the number of rows of a table, and a line for each row
--     corank_lines rows          the same of a table of coranks
--     hat_lines exponent hat     the exponent, the number of rows and a line for each row of a hat, or that there is
--                                none
--     component_degree_text d    the degree at a component, after a space
--     multi_row_line row         the line of a row of a table by component: its Maslov degree, its degrees at the
--                                components and its rank
--     multi_lines rows           the number of rows of such a table, and a line for each row
--     exponent_text e            an exponent, after a space
--     multi_hat_lines exponents hat
--                                the exponents, the number of rows and a line for each row of a hat by component, or
--                                that there is none
--     refused_line word number   the word of a fault, and the number of its line
--     euler_line row             the line of an Euler number: its Alexander degree, and the number
--     euler_lines rows           how many Euler numbers are not 0, and a line for each of them
use Rattle.std.specs.Prelude.{ℕ, ℤ, Bool, List, ◌∷◌, ◌++◌, length, codes, Option, None, Some, if◌then◌else◌}
use Rattle.std.specs.List.{flat_map}
use Rattle.std.specs.Fmt.{decimal, signed_decimal}
use Rattle.state_rank.specs.States.{state_word}
use Rattle.text_lines.specs.Lines.{line}
use Rattle.hat_division.specs.declared.tables.TableRow.{TableRow}
use Rattle.hat_division.specs.declared.multi_tables.MultiRow.{MultiRow}
use Rattle.grid_euler.specs.declared.tables.EulerRow.{EulerRow}
use Rattle.grid_text.specs.Commands.{sign_word}
use Rattle.grid_text.specs.declared.commands.Sign.{Sign}

abbrev pub front_line : ℤ → ℤ → ℕ → List ℕ
front_line tb rot components = line (codes "front tb " ++ signed_decimal tb ++ codes " rot " ++ signed_decimal rot
    ++ codes " components " ++ decimal components)

abbrev pub verdict_word : Bool → List ℕ
verdict_word alive = if alive then codes "alive" else codes "null"

abbrev pub class_line : Sign → List ℕ → ℤ → ℤ → Bool → List ℕ
class_line sign x m a alive = line (codes "class " ++ sign_word sign ++ 32 ∷ state_word x
    ++ codes " at " ++ signed_decimal m ++ 32 ∷ signed_decimal a ++ 32 ∷ verdict_word alive)

abbrev pub row_line : TableRow → List ℕ
row_line row = line (codes "rank " ++ signed_decimal row.m ++ 32 ∷ signed_decimal row.a ++ 32 ∷ decimal row.rank)

abbrev pub table_lines : List TableRow → List ℕ
table_lines rows = line (codes "ranks " ++ decimal (length rows)) ++ flat_map row_line rows

abbrev pub corank_lines : List TableRow → List ℕ
corank_lines rows = line (codes "coranks " ++ decimal (length rows)) ++ flat_map row_line rows

abbrev pub hat_lines : ℕ → Option (List TableRow) → List ℕ
hat_lines exponent None = line (codes "hat none")
hat_lines exponent (Some rows) = line
    (codes "hat exponent " ++ decimal exponent ++ codes " rows " ++ decimal (length rows)) ++ flat_map row_line rows

abbrev pub component_degree_text : ℤ → List ℕ
component_degree_text d = 32 ∷ signed_decimal d

abbrev pub multi_row_line : MultiRow → List ℕ
multi_row_line row = line
    (codes "rank " ++ signed_decimal row.m ++ flat_map component_degree_text row.d ++ 32 ∷ decimal row.rank)

abbrev pub multi_lines : List MultiRow → List ℕ
multi_lines rows = line (codes "ranks " ++ decimal (length rows)) ++ flat_map multi_row_line rows

abbrev pub exponent_text : ℕ → List ℕ
exponent_text e = 32 ∷ decimal e

abbrev pub multi_hat_lines : List ℕ → Option (List MultiRow) → List ℕ
multi_hat_lines exponents None = line (codes "hat none")
multi_hat_lines exponents (Some rows) = line
    (codes "hat exponents" ++ flat_map exponent_text exponents ++ codes " rows " ++ decimal (length rows))
    ++ flat_map multi_row_line rows

abbrev pub refused_line : List ℕ → ℕ → List ℕ
refused_line word number = line (codes "refused " ++ word ++ codes " line " ++ decimal number)

abbrev pub euler_line : EulerRow → List ℕ
euler_line row = line (codes "at " ++ signed_decimal row.a ++ 32 ∷ signed_decimal row.value)

abbrev pub euler_lines : List EulerRow → List ℕ
euler_lines rows = line (codes "euler " ++ decimal (length rows)) ++ flat_map euler_line rows
