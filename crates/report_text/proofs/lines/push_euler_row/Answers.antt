use Rattle.std.proofs.Common.{◌++◌, ◌∷◌, [], ap, ◌∙◌, rules}
use Rattle.std.specs.Fmt.{signed_decimal}
use Rattle.report_text.proofs.Pieces.{printed, printed_long, euler_line-pieces}
use Rattle.report_text.proofs.lines.push_euler_row.Goals as goal

-- piece after piece
pub returns : goal.returns
returns c =
    let row = c.args.row.now in
    let a = printed _ _ row.a (search rules) c.in_ok-push_number.ensures in
    let value = printed_long _ _ row.value (search rules) c.in_ok-push_number-2.ensures in
    let to_a = a ∙ ap (λ l. l ++ signed_decimal row.a) c.in_ok-extend_from_slice.ensures.items in
    let to_value = value
    ∙ ap (λ l. l ++ signed_decimal row.value) (c.in_ok-push.ensures.items ∙ ap (λ l. l ++ 32 ∷ []) to_a) in
    c.in_ok-push-2.ensures.items
    ∙ ap (λ l. l ++ 10 ∷ []) to_value
    ∙ euler_line-pieces c.args.lines.now.items (signed_decimal row.a) (signed_decimal row.value)
