-- The plain form, piece by piece: one more word after a space, one more line, and the whole.
use Rattle.std.proofs.Common.{◌≡◌, ℕ, ◌+◌, ◌<◌, ◌≤◌, List, [], ◌∷◌, ◌++◌, length, map, take, get_or, codes, ap, ◌∙◌, sym}
use Rattle.std.specs.List.{flat_map}
use Rattle.std.proofs.lemmas.List.{take_more, take_all, map-append, append-nil}
use Rattle.std.proofs.lemmas.Grind.{flat_map-append}
use Rattle.state_rank.specs.States.{state_word}
use Rattle.grid_text.specs.Words.{Word}
use Rattle.grid_text.specs.PlainForm.{after_space, command_line, head_lines, plain_form}
use Rattle.torus_geom.specs.Marks.{Marks}
use Rattle.grid_text.specs.Commands.{argument_word, command_row}
use Rattle.grid_text.specs.Script.{GridScript}
use Rattle.grid_text.specs.declared.commands.Command.{Command}
use Rattle.grid_text.specs.declared.commands.Command.TheVariants as command
use Rattle.grid_text.proofs.Lines.CommandLemmas.{state_words}

-- one more piece
pub flat_map-more : {A : Type 0} (f : A → List ℕ) (xs : List A) (i : ℕ) (d : A) → i < length xs
    → flat_map f (take (i + 1) xs) ≡ flat_map f (take i xs) ++ f (get_or xs i d)
flat_map-more f xs i d within =
    ap (flat_map f) (take_more xs i d within) ∙ flat_map-append f (take i xs) (get_or xs i d ∷ [])
    ∙ ap (λ r. flat_map f (take i xs) ++ r) (append-nil (f (get_or xs i d)))

-- one more word after a space
pub after_space-more : {A : Type 0} (f : A → Word) (xs : List A) (i : ℕ) (d : A) → i < length xs
    → after_space (map f (take (i + 1) xs)) ≡ after_space (map f (take i xs)) ++ 32 ∷ f (get_or xs i d)
after_space-more f xs i d within =
    ap (λ ys. after_space (map f ys)) (take_more xs i d within)
    ∙ ap after_space (map-append f (take i xs) (get_or xs i d ∷ []))
    ∙ flat_map-append (λ w. 32 ∷ w) (map f (take i xs)) (f (get_or xs i d) ∷ [])
    ∙ ap (λ r. after_space (map f (take i xs)) ++ r) (append-nil (32 ∷ f (get_or xs i d)))

-- the words of a line `chain` after the first
pub chain_arguments : (c : Command) (z states : List (List ℕ)) → c ≡ command.Chain z → states ≡ z
    → after_space (map state_word states) ≡ after_space (map argument_word (command_row c).1)
chain_arguments c z states is same =
    ap (λ xs. after_space (map state_word xs)) same ∙ ap after_space (sym (state_words z))
    ∙ ap (λ d. after_space (map argument_word (command_row d).1)) (sym is)

-- what was printed is the plain form
pub plain_form-printed : (s : GridScript) (v : ℕ) (g : Marks) (commands : List Command) (k : ℕ)
    (start head loop all : List ℕ)
    → v ≡ s.version → g ≡ s.grid → commands ≡ s.commands → length commands ≤ k
    → start ≡ [] → head ≡ start ++ head_lines v g → loop ≡ head ++ flat_map command_line (take k commands)
    → all ≡ loop ++ codes "end\n" → all ≡ plain_form s
unfolding plain_form
plain_form-printed s v g commands k start head loop all same_v same_g same done empty with_head with_loop with_end =
    with_end
    ∙ ap (λ t. t ++ codes "end\n")
    (with_loop ∙ ap (λ cs. head ++ flat_map command_line cs) (take_all k commands done ∙ same)
    ∙ ap (λ t. t ++ flat_map command_line s.commands)
    (with_head ∙ ap (λ t. t ++ head_lines v g) empty ∙ (λ i. head_lines (same_v i) (same_g i))))
