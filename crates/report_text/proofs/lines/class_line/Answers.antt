use Rattle.std.proofs.Common.{ℕ, List, ◌++◌, ◌∷◌, [], codes, ap, ap₂, ◌∙◌, rules}
use Rattle.std.specs.Fmt.{signed_decimal}
use Rattle.state_rank.specs.States.{state_word}
use Rattle.grid_text.specs.Commands.{sign_word}
use Rattle.report_text.specs.Lines.{verdict_word}
use Rattle.report_text.proofs.Pieces.{printed, class_line-pieces}
use Rattle.report_text.proofs.lines.class_line.Goals as goal

-- piece after piece
pub returns : goal.returns
returns c =
    let d = c.args.d in
    let sign =
    c.in_ok-push.ensures.items ∙ ap₂ (λ (l s : List ℕ). l ++ s) c.in_ok-line.ensures.items c.sign_byte.ensures in
    let before_x = c.in_ok-push-2.ensures.items ∙ ap (λ l. l ++ 32 ∷ []) sign in
    let x = c.in_ok-push_word.ensures.ok ∙ ap (λ l. l ++ state_word c.args.x.now) before_x in
    let at = c.in_ok-extend_from_slice.ensures.items ∙ ap (λ l. l ++ codes " at ") x in
    let m = printed _ _ d.m (search rules) c.in_ok-push_number.ensures ∙ ap (λ l. l ++ signed_decimal d.m) at in
    let space = c.in_ok-push-3.ensures.items ∙ ap (λ l. l ++ 32 ∷ []) m in
    let a = printed _ _ d.a (search rules) c.in_ok-push_number-2.ensures ∙ ap (λ l. l ++ signed_decimal d.a) space in
    let before_word = c.in_ok-push-4.ensures.items ∙ ap (λ l. l ++ 32 ∷ []) a in
    let word = c.in_ok-extend_from_slice-2.ensures.items
    ∙ ap₂ (λ (l w : List ℕ). l ++ w) before_word (c.as_bytes.ensures.value ∙ c.verdict_word.ensures) in
    c.in_ok-push-5.ensures.items
    ∙ ap (λ l. l ++ 10 ∷ []) word
    ∙ class_line-pieces (sign_word c.args.sign) (state_word c.args.x.now) (signed_decimal d.m) (signed_decimal d.a)
    (verdict_word c.args.alive)
