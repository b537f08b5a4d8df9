-- the words of the states so far follow the word of the line
use Rattle.std.proofs.Common.{◌≡◌, ◌++◌, ◌∷◌, take}
use Rattle.std.specs.List.{flat_map}
use Rattle.state_rank.specs.States.{unrank, state_word}
use Rattle.text_lines.proofs.sets.push_set_line.Given as goal

abbrev pub invariant-loop-code : goal.invariant-loop-code
invariant-loop-code l =
    l.text.items
    ≡ l.fn.text.items
    ++ (l.word ++ flat_map (λ s. 32 ∷ state_word (unrank l.n s)) (take l.code-index l.code-items))
