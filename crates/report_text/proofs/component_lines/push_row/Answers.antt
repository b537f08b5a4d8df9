use Rattle.std.proofs.Common.{ℕ, ℤ, List, ◌++◌, ◌∷◌, [], ap, ap₂, ◌∙◌, rules}
use Rattle.std.specs.Fmt.{decimal, signed_decimal}
use Rattle.std.specs.List.{flat_map}
use Rattle.report_text.specs.Lines.{component_degree_text}
use Rattle.report_text.proofs.Pieces.{printed, multi_row_line-pieces}
use Rattle.report_text.proofs.component_lines.push_row.Goals as goal

-- piece after piece
pub returns : goal.returns
returns c =
    let row = c.args.row.now in
    let m = printed _ _ row.m (search rules) c.in_ok-push_number.ensures in
    let to_m = m ∙ ap (λ l. l ++ signed_decimal row.m) c.in_ok-extend_from_slice.ensures.items in
    let ds = c.in_ok-push_degrees.ensures
    ∙ ap₂ (λ (l : List ℕ) (xs : List ℤ). l ++ flat_map component_degree_text xs) to_m c.degrees.ensures.degrees in
    c.in_ok-push-2.ensures.items
    ∙ ap (λ l. l ++ 10 ∷ []) (c.in_ok-push_number-2.ensures
    ∙ ap (λ l. l ++ decimal row.rank) (c.in_ok-push.ensures.items
    ∙ ap (λ l. l ++ 32 ∷ []) ds))
    ∙ multi_row_line-pieces c.args.lines.now.items (signed_decimal row.m) (flat_map component_degree_text row.d)
    (decimal row.rank)
