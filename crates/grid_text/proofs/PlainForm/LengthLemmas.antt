-- The number of bytes of the plain form: those of the head, of the commands so far, and of the last line.
use Rattle.std.proofs.Common.{◌≡◌, ℕ, ◌+◌, ◌≤◌, List, ◌++◌, length, take, codes, ap, ◌∙◌, arith, length-append}
use Rattle.std.specs.List.{flat_map}
use Rattle.std.proofs.lemmas.List.{take_all}
use Rattle.torus_geom.specs.Marks.{Marks}
use Rattle.grid_text.specs.Script.{GridScript}
use Rattle.grid_text.specs.PlainForm.{command_line, head_lines, plain_form}
use Rattle.grid_text.specs.declared.commands.Command.{Command}

-- of the head, of all commands and of the last line
pub length-plain_form : (s : GridScript) (v : ℕ) (g : Marks) (commands : List Command) (k head count : ℕ)
    → v ≡ s.version → g ≡ s.grid
    → commands ≡ s.commands → length commands ≤ k
    → head ≡ length (head_lines v g) → count ≡ head + length (flat_map command_line (take k commands))
    → count + 4 ≡ length (plain_form s)
unfolding plain_form
length-plain_form s v g commands k head count same_v same_g same done counted_head counted =
    let whole = length-append (head_lines s.version s.grid ++ flat_map command_line s.commands) (codes "end\n") in
    let first = length-append (head_lines s.version s.grid) (flat_map command_line s.commands) in
    let same_count : count ≡ head + length (flat_map command_line s.commands) =
    counted ∙ ap (λ cs. head + length (flat_map command_line cs)) (take_all k commands done ∙ same) in
    let same_head : head ≡ length (head_lines s.version s.grid) =
    counted_head ∙ (λ i. length (head_lines (same_v i) (same_g i))) in
    omega (arith, whole, first, same_count, same_head)
