use Rattle.std.proofs.Common.{ℕ, List, ◌++◌, ◌∷◌, [], ap, ap₂, ◌∙◌, rules}
use Rattle.std.specs.Fmt.{signed_decimal}
use Rattle.std.specs.Ordering.{int_eq}
use Rattle.std.proofs.lemmas.Int.{to_z-of_z}
use mir.Syntax.{w32}
use Rattle.report_text.specs.Compared.{same_word}
use Rattle.report_text.proofs.Pieces.{printed, values_line-pieces}
use Rattle.report_text.proofs.comparisons.push_numbers.Goals as goal

-- piece after piece
pub returns : goal.returns
returns c =
    let v = printed _ _ c.args.v (search rules) c.in_ok-push_number.ensures
    ∙ ap (λ l. l ++ signed_decimal c.args.v) c.in_ok-extend_from_slice.ensures.items in
    let w = printed _ _ c.args.w (search rules) c.in_ok-push_number-2.ensures
    ∙ ap (λ l. l ++ signed_decimal c.args.w) (c.in_ok-push.ensures.items ∙ ap (λ l. l ++ 32 ∷ []) v) in
    let told = c.in_ok-extend_from_slice-2.ensures.items
    ∙ ap₂ (λ (l t : List ℕ). l ++ t) (c.in_ok-push-2.ensures.items ∙ ap (λ l. l ++ 32 ∷ []) w)
    (c.as_bytes.ensures.value ∙ c.same_word-told.ensures ∙ ap same_word (c.same_int.ensures
    ∙ ap₂ int_eq (to_z-of_z w32 c.args.v (search rules)) (to_z-of_z w32 c.args.w (search rules)))) in
    c.in_ok-push-3.ensures.items
    ∙ ap (λ l. l ++ 10 ∷ []) told
    ∙ values_line-pieces c.args.lines.now.items c.args.word.now (signed_decimal c.args.v) (signed_decimal c.args.w) _
