-- The text of a certificate over codes, and the first bad line of a text that is not one.
--     cycle_lines n p            a line with the cycle and one with the cocycle of a cycle pair
--     step_lines n p             a line with the step and one with the probe of a step pair
--     cell_lines n cell          the line of its bidegree, those of its cycle pairs, and those of its step pairs
--     certificate_lines c        the head, the cells, and the word `end`
--     certificate_text c         the text of a certificate
--     HasFirstLines text k       the text begins with the first k lines of some certificate
--     IsFirstBadLine text number the text is no certificate; it begins with the lines before this one of some
--                                certificate, but not with this one too
use Rattle.std.specs.Prelude.{◌≡◌, ℕ, ◌+◌, ◌≤◌, List, [], ◌∷◌, ◌++◌, length, take, codes}
use Rattle.std.specs.List.{flat_map}
use Rattle.f2_algebra.specs.Certificate.{CyclePair, StepPair}
use Rattle.torus_geom.specs.Marks.{size}
use Rattle.text_lines.specs.Inner.CodeLines.{set_line}
use Rattle.homology_cert.specs.CertificateCodes.{Cell, Certificate}
use Rattle.homology_cert.specs.CertificateText.{degree_line, certificate_head_lines, text_of_lines}
use Rattle.homology_cert.specs.Inner.CodeCertificates.{IsCertificate}

abbrev pub cycle_lines : ℕ → CyclePair → List (List ℕ)
cycle_lines n p = set_line (codes "cycle") n p.cycle ∷ set_line (codes "cocycle") n p.cocycle ∷ []

abbrev pub step_lines : ℕ → StepPair → List (List ℕ)
step_lines n p = set_line (codes "step") n p.step ∷ set_line (codes "probe") n p.probe ∷ []

abbrev pub cell_lines : ℕ → Cell → List (List ℕ)
cell_lines n cell = degree_line cell.at ∷ flat_map (cycle_lines n) cell.cycles ++ flat_map (step_lines n) cell.steps

unfoldable pub certificate_lines : Certificate → List (List ℕ)
certificate_lines c = certificate_head_lines c.grid ++ flat_map (cell_lines (size c.grid)) c.cells ++ codes "end" ∷ []

abbrev pub certificate_text : Certificate → List ℕ
certificate_text c = text_of_lines (certificate_lines c)

pub record HasFirstLines (text : List ℕ) (k : ℕ) : Type 0 where
  pub certificate : Certificate
  pub is_one : IsCertificate certificate
  pub long : k ≤ length (certificate_lines certificate)
  pub rest : List ℕ
  pub begins : text ≡ text_of_lines (take k (certificate_lines certificate)) ++ rest

pub record IsFirstBadLine (text : List ℕ) (number : ℕ) : Type 0 where
  pub none : (c : Certificate) → IsCertificate c → text ≡ certificate_text c → ⊥
  pub before : (k : ℕ) × (k + 1 ≡ number) × HasFirstLines text k
  pub bad : HasFirstLines text number → ⊥
