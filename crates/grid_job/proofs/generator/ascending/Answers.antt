-- The first of the numbers below ten.
use Rattle.std.proofs.Common.{◌≡◌, [], ◌∷◌, ap, sym, subst, ◌∙◌, take, rules}
use Rattle.state_rank.specs.Bijection.{ascending}
use Rattle.state_rank.specs.States.{IsState}
use Rattle.grid_job.proofs.Generated.GeneratorLemmas.{IsState-ascending, take-ascending}
use Rattle.grid_job.proofs.generator.ascending.Goals as goal

pub unwrap-requires : goal.unwrap-requires
unwrap-requires c =
    let e : take c.from.result (0 ∷ 1 ∷ 2 ∷ 3 ∷ 4 ∷ 5 ∷ 6 ∷ 7 ∷ 8 ∷ 9 ∷ []) ≡ ascending c.args.n =
    ap (λ m. take m (0 ∷ 1 ∷ 2 ∷ 3 ∷ 4 ∷ 5 ∷ 6 ∷ 7 ∷ 8 ∷ 9 ∷ [])) c.from.ensures
    ∙ take-ascending c.args.n c.requires.greatest in
    let state : IsState (take c.from.result (0 ∷ 1 ∷ 2 ∷ 3 ∷ 4 ∷ 5 ∷ 6 ∷ 7 ∷ 8 ∷ 9 ∷ [])) =
    subst IsState (sym e) (IsState-ascending c.args.n c.requires) in
    search rules

pub returns : goal.returns
returns c =
    let e : take c.from.result (0 ∷ 1 ∷ 2 ∷ 3 ∷ 4 ∷ 5 ∷ 6 ∷ 7 ∷ 8 ∷ 9 ∷ []) ≡ ascending c.args.n =
    ap (λ m. take m (0 ∷ 1 ∷ 2 ∷ 3 ∷ 4 ∷ 5 ∷ 6 ∷ 7 ∷ 8 ∷ 9 ∷ [])) c.from.ensures
    ∙ take-ascending c.args.n c.requires.greatest in
    let rows : c.unwrap.result ≡ take c.from.result (0 ∷ 1 ∷ 2 ∷ 3 ∷ 4 ∷ 5 ∷ 6 ∷ 7 ∷ 8 ∷ 9 ∷ []) = search rules in
    rows ∙ e
