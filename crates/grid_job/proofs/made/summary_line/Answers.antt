-- Piece after piece.
use Rattle.std.proofs.Common.{◌++◌, ◌∷◌, [], codes, ap, ◌∙◌, rules}
use Rattle.std.specs.Fmt.{decimal, signed_decimal}
use Rattle.report_text.proofs.Pieces.{printed}
use Rattle.grid_job.proofs.made.summary_line.Goals as goal

pub returns : goal.returns
returns c =
    let tb = printed _ _ c.args.f.now.tb (search rules) c.in_ok-push_number.ensures in
    let rot = printed _ _ c.args.f.now.rot (search rules) c.in_ok-push_number-2.ensures in
    let to_tb = tb ∙ ap (λ l. l ++ signed_decimal c.args.f.now.tb) c.in_ok-line.ensures.items in
    let to_rot = rot
    ∙ ap (λ l. l ++ signed_decimal c.args.f.now.rot)
    (c.in_ok-extend_from_slice.ensures.items ∙ ap (λ l. l ++ codes " rot ") to_tb) in
    let to_total = c.in_ok-push_number-3.ensures
    ∙ ap (λ l. l ++ decimal c.args.total)
    (c.in_ok-extend_from_slice-2.ensures.items ∙ ap (λ l. l ++ codes " rank ") to_rot) in
    let plus = c.as_bytes.ensures.value ∙ c.verdict_word.ensures in
    let minus = c.as_bytes-2.ensures.value ∙ c.verdict_word-2.ensures in
    let to_plus = c.in_ok-extend_from_slice-4.ensures.items
    ∙ (λ i. (c.in_ok-extend_from_slice-3.ensures.items ∙ ap (λ l. l ++ codes " plus ") to_total) i ++ plus i) in
    let to_minus = c.in_ok-extend_from_slice-6.ensures.items
    ∙ (λ i. (c.in_ok-extend_from_slice-5.ensures.items ∙ ap (λ l. l ++ codes " minus ") to_plus) i ++ minus i) in
    c.in_ok-push.ensures.items ∙ ap (λ l. l ++ 10 ∷ []) to_minus
