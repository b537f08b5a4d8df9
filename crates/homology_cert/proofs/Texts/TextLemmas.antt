-- The text of a certificate, in parts.
use Rattle.std.proofs.Common.{◌≡◌, ℕ, List, [], ◌∷◌, ◌++◌, codes, sym, ap, ◌∙◌, append_assoc}
use Rattle.std.specs.List.{flat_map}
use Rattle.std.proofs.lemmas.List.Concat.{flat_map-append}
use Rattle.torus_geom.specs.Marks.{size}
use Rattle.homology_cert.specs.CertificateCodes.{Certificate}
use Rattle.homology_cert.specs.CertificateText.{text_of_lines, certificate_head_lines}
use Rattle.homology_cert.specs.Inner.CodeText.{cell_lines, certificate_lines, certificate_text}

pub text_of_lines-append : (ls ms : List (List ℕ)) → text_of_lines (ls ++ ms) ≡ text_of_lines ls ++ text_of_lines ms
text_of_lines-append ls ms = flat_map-append (λ line. line ++ 10 ∷ []) ls ms

-- the head, the cells and the last line
pub certificate_text-parts : (c : Certificate)
    → certificate_text c
    ≡ (text_of_lines (certificate_head_lines c.grid) ++ text_of_lines (flat_map (cell_lines (size c.grid)) c.cells))
    ++ codes "end\n"
unfolding certificate_lines
certificate_text-parts c =
    text_of_lines-append (certificate_head_lines c.grid ++ flat_map (cell_lines (size c.grid)) c.cells)
    (codes "end" ∷ [])
    ∙ ap (λ t. t ++ codes "end\n")
    (text_of_lines-append (certificate_head_lines c.grid) (flat_map (cell_lines (size c.grid)) c.cells))

-- the head, piece after piece
pub head_pieces : (old number o x : List ℕ)
    → ((((old ++ codes "gridcert 1\ngrid ") ++ number) ++ 10 ∷ []) ++ (o ++ 10 ∷ [])) ++ (x ++ 10 ∷ [])
    ≡ old ++ text_of_lines (codes "gridcert 1" ∷ (codes "grid " ++ number) ∷ o ∷ x ∷ [])
head_pieces old number o x =
    simp append_assoc (ap (λ t. old ++ (codes "gridcert 1\ngrid " ++ t))
    (sym (append_assoc number (10 ∷ []) (o ++ 10 ∷ (x ++ 10 ∷ [])))))

-- a text that is made of a head, cells and the last line
pub certificate_pieces : (c : Certificate) (none head cells text : List ℕ) → none ≡ []
    → head ≡ none ++ text_of_lines (certificate_head_lines c.grid)
    → cells ≡ head ++ text_of_lines (flat_map (cell_lines (size c.grid)) c.cells) → text ≡ cells ++ codes "end\n"
    → text ≡ certificate_text c
certificate_pieces c none head cells text e h k l =
    l ∙ ap (λ t. t ++ codes "end\n")
    (k ∙ ap (λ t. t ++ text_of_lines (flat_map (cell_lines (size c.grid)) c.cells))
    (h ∙ ap (λ t. t ++ text_of_lines (certificate_head_lines c.grid)) e))
    ∙ sym (certificate_text-parts c)
