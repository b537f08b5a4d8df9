use Rattle.std.proofs.Common.{◌++◌, ◌∷◌, [], codes, ap, ◌∙◌, rules}
use Rattle.std.specs.Fmt.{decimal, signed_decimal}
use Rattle.report_text.proofs.Pieces.{printed}
use Rattle.report_text.proofs.lines.front_line.Goals as goal

-- piece after piece
pub returns : goal.returns
returns c =
    let tb = printed _ _ c.args.f.now.tb (search rules) c.in_ok-push_number.ensures in
    let rot = printed _ _ c.args.f.now.rot (search rules) c.in_ok-push_number-2.ensures in
    let to_tb = tb ∙ ap (λ l. l ++ signed_decimal c.args.f.now.tb) c.in_ok-line.ensures.items in
    let to_rot = rot
    ∙ ap (λ l. l ++ signed_decimal c.args.f.now.rot)
    (c.in_ok-extend_from_slice.ensures.items ∙ ap (λ l. l ++ codes " rot ") to_tb) in
    c.in_ok-push.ensures.items
    ∙ ap (λ l. l ++ 10 ∷ []) (c.in_ok-push_number-3.ensures
    ∙ ap (λ l. l ++ decimal c.args.f.now.components) (c.in_ok-extend_from_slice-2.ensures.items
    ∙ ap (λ l. l ++ codes " components ") to_rot))
