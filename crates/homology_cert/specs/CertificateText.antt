-- The text of a certificate, and the first bad line of a text that is not one. Each line is ended by one line feed,
-- words stand one space apart, numbers are plain decimals. So a certificate has one text.
--     marks_line word rows       a word, and the rows of marks from column 0 on
--     degree_line d              the word `cell`, the Maslov degree and the Alexander degree
--     cycle_lines n p            a line with the cycle and one with the cocycle of a cycle pair
--     step_lines n p             a line with the step and one with the probe of a step pair
--     cell_lines n cell          the line of its bidegree, those of its cycle pairs, and those of its step pairs
--     certificate_head_lines g   the first line, and the three lines of the grid
--     certificate_lines c        the head, the cells, and the word `end`
--     text_of_lines lines        each line with a line feed after it
--     certificate_text c         the text of a certificate
--     HasFirstLines text k       the text begins with the first k lines of some certificate
--     IsFirstBadLine text number the text is no certificate; it begins with the lines before this one of some
--                                certificate, but not with this one too
use Rattle.std.specs.Prelude.{◌≡◌, ℕ, ◌+◌, ◌≤◌, ℤ, List, [], ◌∷◌, ◌++◌, length, take, codes}
use Rattle.std.specs.List.{flat_map}
use Rattle.std.specs.Fmt.{decimal, signed_decimal}
use Rattle.text_lines.specs.Lines.{line, chain_line}
use Rattle.torus_geom.specs.Marks.{Marks, size}
use Rattle.homology_cert.specs.Certificates.{Cell, Certificate, CyclePair, IsCertificate, StepPair}

abbrev pub marks_line : List ℕ → List ℕ → List ℕ
marks_line word rows = word ++ flat_map (λ r. 32 ∷ decimal r) rows

abbrev pub degree_line : ℤ × ℤ → List ℕ
degree_line d = codes "cell " ++ signed_decimal d.0 ++ codes " " ++ signed_decimal d.1

abbrev pub cycle_lines : ℕ → CyclePair → List (List ℕ)
cycle_lines n p = chain_line (codes "cycle") n p.cycle ∷ chain_line (codes "cocycle") n p.cocycle ∷ []

abbrev pub step_lines : ℕ → StepPair → List (List ℕ)
step_lines n p = chain_line (codes "step") n p.step ∷ chain_line (codes "probe") n p.probe ∷ []

abbrev pub cell_lines : ℕ → Cell → List (List ℕ)
cell_lines n cell = degree_line cell.at ∷ flat_map (cycle_lines n) cell.cycles ++ flat_map (step_lines n) cell.steps

abbrev pub certificate_head_lines : Marks → List (List ℕ)
certificate_head_lines g =
    codes "gridcert 1" ∷ (codes "grid " ++ decimal (size g)) ∷ marks_line (codes "O") g.o
    ∷ marks_line (codes "X") g.x ∷ []

unfoldable pub certificate_lines : Certificate → List (List ℕ)
certificate_lines c = certificate_head_lines c.grid ++ flat_map (cell_lines (size c.grid)) c.cells ++ codes "end" ∷ []

abbrev pub text_of_lines : List (List ℕ) → List ℕ
text_of_lines lines = flat_map line lines

abbrev pub certificate_text : Certificate → List ℕ
certificate_text c = text_of_lines (certificate_lines c)

pub record HasFirstLines (text : List ℕ) (k : ℕ) : Type 0 where
  pub certificate : Certificate
  pub is_one : IsCertificate certificate
  pub long : k ≤ length (certificate_lines certificate)
  pub rest : List ℕ
  pub begins : text ≡ text_of_lines (take k (certificate_lines certificate)) ++ rest

pub record IsFirstBadLine (text : List ℕ) (number : ℕ) : Type 0 where
  pub none : (c : Certificate) → IsCertificate c → text ≡ certificate_text c → ⊥
  pub before : (k : ℕ) × (k + 1 ≡ number) × HasFirstLines text k
  pub bad : HasFirstLines text number → ⊥
