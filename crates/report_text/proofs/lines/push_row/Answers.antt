use Rattle.std.proofs.Common.{◌++◌, ◌∷◌, [], ap, ◌∙◌, rules}
use Rattle.std.specs.Fmt.{decimal, signed_decimal}
use Rattle.report_text.proofs.Pieces.{printed, row_line-pieces}
use Rattle.report_text.proofs.lines.push_row.Goals as goal

-- piece after piece
pub returns : goal.returns
returns c =
    let row = c.args.row.now in
    let m = printed _ _ row.m (search rules) c.in_ok-push_number.ensures in
    let a = printed _ _ row.a (search rules) c.in_ok-push_number-2.ensures in
    let to_m = m ∙ ap (λ l. l ++ signed_decimal row.m) c.in_ok-extend_from_slice.ensures.items in
    let to_a = a ∙ ap (λ l. l ++ signed_decimal row.a) (c.in_ok-push.ensures.items ∙ ap (λ l. l ++ 32 ∷ []) to_m) in
    c.in_ok-push-3.ensures.items
    ∙ ap (λ l. l ++ 10 ∷ []) (c.in_ok-push_number-3.ensures
    ∙ ap (λ l. l ++ decimal row.rank) (c.in_ok-push-2.ensures.items
    ∙ ap (λ l. l ++ 32 ∷ []) to_a))
    ∙ row_line-pieces c.args.lines.now.items (signed_decimal row.m) (signed_decimal row.a) (decimal row.rank)
