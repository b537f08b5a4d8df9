-- The line of the indices is that of the states.
use Rattle.std.proofs.Common.{◌++◌, ◌∷◌, [], ap, append_assoc, ◌∙◌}
use Rattle.std.specs.List.{flat_map}
use Rattle.std.proofs.lemmas.List.{take_all}
use Rattle.state_rank.specs.States.{unrank, state_word}
use Rattle.text_lines.specs.Lines.{line}
use Rattle.text_lines.specs.Inner.CodeLines.{set_line}
use Rattle.text_lines.proofs.ChainLines.{set_line-states}
use Rattle.text_lines.proofs.sets.push_set_line.Goals as goal

pub returns : goal.returns
returns c =
    let n = c.args.n in
    let word = c.args.word.now in
    let before = c.args.text.now.items in
    let items = c.codes-code-items.result.now in
    let all = c.loop-code.invariant
    ∙ ap (λ xs. before ++ (word ++ flat_map (λ s. 32 ∷ state_word (unrank n s)) xs))
    (take_all c.loop-code.code-index items c.loop-code-test.false ∙ c.codes-code-items.ensures) in
    c.in_ok-push-2.ensures.items
    ∙ ap (λ text. text ++ 10 ∷ []) all
    ∙ append_assoc before (set_line word n c.args.z.now) (10 ∷ [])
    ∙ ap (λ words. before ++ line words) (set_line-states word n c.args.z.now c.requires.indices)
