-- The line of the states is that of their indices.
use Rattle.std.proofs.Common.{◌++◌, sym, ap, ◌∙◌}
use Rattle.std.proofs.lemmas.Result.{on_ok_weaker}
use Rattle.torus_geom.specs.Codes.{states_of}
use Rattle.torus_geom.specs.Marks.{size}
use Rattle.text_lines.specs.Lines.{chain_line, line}
use Rattle.text_lines.proofs.ChainLines.{set_line-states}
use Rattle.homology_cert.proofs.printing.push_set.Goals as goal

pub returns : goal.returns
returns c =
    let before = c.args.text.now.items in
    let word = c.args.word.now in
    let z = c.args.z.now in
    let g = c.args.g.now in
    on_ok_weaker c.push_set_line.result (λ told. told
    ∙ ap (λ n. before ++ line (chain_line word n (states_of n z))) c.size.ensures.size
    ∙ ap (λ words. before ++ line words) (sym (set_line-states word (size g) z c.requires))) c.push_set_line.ensures
