use Rattle.std.proofs.Common.{refl, rules}
use Rattle.std.proofs.lemmas.List.Sorted.{IsNonDecreasingBy-from_sort_by_key}
use Rattle.std.proofs.lemmas.Option.{MatchOption-at_some, MatchOption-at_none}
use Rattle.state_rank.specs.States.{rank}
use Rattle.grid_text.proofs.Lines.SeenLemmas.{seen}
use Rattle.grid_text.proofs.Lines.BodyLemmas.{chain-none, chain-read, chain-twice}
use Rattle.grid_text.proofs.bodies.read_chain.Goals as goal

pub returns-in_default : goal.returns-in_default
returns-in_default c =
    chain-none c.args.script.now c.in_force.result.now c.size.result
    (seen c.args.arguments.now) c.size.ensures.size c.in_force.ensures.grid
    (MatchOption-at_none _ _ c.in_default.is c.in_ok-states.ensures.none)

pub returns-in-Some-of : goal.returns-in-Some-of
returns-in-Some-of c =
    let read = MatchOption-at_some _ _ c.in-Some.states c.in-Some.is c.in_ok-states.ensures.some in
    chain-read c.args.script.now c.in_force.result.now c.size.result
    (seen c.args.arguments.now) c.size.ensures.size c.in_force.ensures.grid
    c.in_force.ensures.script c.in-Some.states.items c.sort_by_key.new.self.items read
    c.in_ok-sort_by_key.ensures.permutation
    c.in-Some-of.list c.in-Some-of.ensures.states c.in-Some-of.ensures.ascending

pub returns-in-None : goal.returns-in-None
returns-in-None c =
    let read = MatchOption-at_some _ _ c.in-Some.states c.in-Some.is c.in_ok-states.ensures.some in
    chain-twice c.args.script.now c.in_force.result.now c.size.result
    (seen c.args.arguments.now) c.size.ensures.size c.in_force.ensures.grid
    c.in_force.ensures.script c.in-Some.states.items c.sort_by_key.new.self.items read
    c.in_ok-sort_by_key.ensures.permutation
    (IsNonDecreasingBy-from_sort_by_key rank _ c.in_ok-sort_by_key.ensures.sorted (λ a r q k. search rules))
    (c.in-None.ensures.none refl)
