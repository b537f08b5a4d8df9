use Rattle.std.proofs.Common.{ℕ, List, [], ◌∷◌, ◌++◌, ap, ap₂, ◌∙◌}
use Rattle.std.specs.Fmt.{decimal}
use Rattle.torus_geom.specs.Marks.{size}
use Rattle.homology_cert.specs.CertificateText.{marks_line}
use Rattle.homology_cert.proofs.Texts.TextLemmas.{head_pieces}
use Rattle.homology_cert.proofs.printing.push_head.Goals as goal

-- piece after piece
pub returns : goal.returns
returns c =
    let g = c.args.g.now in
    let number = c.in_ok-push_number.ensures
    ∙ ap₂ (λ (t : List ℕ) (n : ℕ). t ++ decimal n) c.in_ok-extend_from_slice.ensures.items c.size.ensures.size in
    let line = c.in_ok-push.ensures.items ∙ ap (λ t. t ++ 10 ∷ []) number in
    let o = c.in_ok-push_marks.ensures
    ∙ ap₂ (λ t (rows : List ℕ). t ++ (marks_line (79 ∷ []) rows ++ 10 ∷ [])) line c.o_rows.ensures.rows in
    c.in_ok-push_marks-2.ensures
    ∙ ap₂ (λ t (rows : List ℕ). t ++ (marks_line (88 ∷ []) rows ++ 10 ∷ [])) o c.x_rows.ensures.rows
    ∙ head_pieces c.args.text.now.items (decimal (size g)) (marks_line (79 ∷ []) g.o) (marks_line (88 ∷ []) g.x)
