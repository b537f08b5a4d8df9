use Rattle.std.proofs.Common.{not, ap, ◌∙◌}
use Rattle.std.specs.List.{list_all}
use Rattle.f2_algebra.specs.Chain.{pairs_oddly}
use Rattle.state_rank.specs.States.{factorial, unrank}
use Rattle.torus_geom.specs.Marks.{size}
use Rattle.torus_geom.specs.Inner.CodeBorder.{border_of_state}
use Rattle.homology_cert.proofs.Certified.CheckLemmas.{list_all-values}
use Rattle.homology_cert.proofs.checks.is_cocycle.Goals as goal

pub returns : goal.returns
returns c =
    let g = c.args.g.now in
    let f = c.args.f.now in
    c.pairs_evenly.ensures
    ∙ ap (list_all (λ z. not (pairs_oddly z f))) c.requires
    ∙ list_all-values (λ z. not (pairs_oddly z f)) (λ s. border_of_state g (unrank (size g) s)) (factorial (size g))
