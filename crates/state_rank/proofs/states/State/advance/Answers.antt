-- The rows that are exchanged and turned are a step to the next state.
use Rattle.std.proofs.Common.{◌≡◌, ℕ, ◌+◌, List, length, take, refl, ap, subst, ◌∙◌, sym, arith}
use Rattle.std.proofs.lemmas.Bool.{false≢true}
use Rattle.state_rank.specs.Bijection.{IsBijection}
use Rattle.state_rank.specs.States.{rank, unrank}
use Rattle.state_rank.specs.Inner.Steps.{FallsFrom}
use Rattle.state_rank.proofs.RankLemmas.{rank-below, unrank-rank}
use Rattle.state_rank.proofs.BetweenLemmas.{IsChosen, rewritten, stored, next_rank, now, rank-last}
use Rattle.state_rank.proofs.StoredLemmas.{length-stored, by_place, stored_from}
use Rattle.state_rank.proofs.states.State.advance.Goals as goal

chosen : (c : goal.After-reverse)
    → IsChosen (take c.self.inside.size c.self.inside.rows)
    (take c.self.inside.size c.self.inside.rows) c.in-Some.place c.last_above-other.result
chosen c =
    let e = c.rows.ensures.rows ∙ sym c.self.view_is in
    let f = c.rows-2.ensures.rows ∙ sym c.self.view_is in
    subst (λ v. IsChosen v (take c.self.inside.size c.self.inside.rows) c.in-Some.place c.last_above-other.result) e
    (subst (λ v. IsChosen c.rows.result.now v c.in-Some.place c.last_above-other.result) f
    (record {
      falls = c.in-Some.ensures.falls;
      behind = c.last_above-other.ensures.behind;
      within = c.last_above-other.ensures.within;
      above = c.last_above-other.ensures.above;
      last = c.last_above-other.ensures.last;
    }))

pub invariant_of-self : goal.invariant_of-self
invariant_of-self c =
    stored_from (stored c.self.inside.size c.self.inside.rows
    (by_place c.self.invariant) c.in-Some.place c.last_above-other.result
    (chosen c) c.swap.new.self c.reverse.new.self c.swap.ensures.after c.reverse.ensures.after)

new_rank : (c : goal.After-reverse)
    → rank (take c.self.inside.size
    (rewritten (c.in-Some.place + 1) c.self.inside.size c.swap.new.self c.reverse.new.self))
    ≡ rank c.args.self.now + 1
new_rank c =
    next_rank c.self.inside.size c.self.inside.rows
    (by_place c.self.invariant) c.in-Some.place c.last_above-other.result
    (chosen c) c.swap.new.self c.reverse.new.self c.swap.ensures.after c.reverse.ensures.after
    ∙ ap (λ x. rank x + 1) c.self.view_is

pub returns-clause-rank : goal.returns-clause-rank
returns-clause-rank c = λ t. new_rank c

new_state : (c : goal.After-reverse)
    → IsBijection (length c.args.self.now)
    (take c.self.inside.size (rewritten (c.in-Some.place + 1) c.self.inside.size c.swap.new.self c.reverse.new.self))
new_state c =
    subst (λ n. IsBijection n (take c.self.inside.size (rewritten
    (c.in-Some.place + 1) c.self.inside.size c.swap.new.self c.reverse.new.self)))
    (sym (length-stored c.self.inside.size c.self.inside.rows (by_place c.self.invariant)) ∙ ap length c.self.view_is)
    (now c.self.inside.size c.self.inside.rows (by_place c.self.invariant) c.in-Some.place c.last_above-other.result
    (chosen c) c.swap.new.self c.reverse.new.self c.swap.ensures.after c.reverse.ensures.after)

pub returns-clause-state : goal.returns-clause-state
returns-clause-state c =
    let y : List ℕ =
    take c.self.inside.size (rewritten (c.in-Some.place + 1) c.self.inside.size c.swap.new.self c.reverse.new.self) in
    λ t. sym (unrank-rank (length c.args.self.now) y (new_state c)) ∙ ap (unrank (length c.args.self.now)) (new_rank c)

pub returns-clause-size : goal.returns-clause-size
returns-clause-size c = (new_state c).long

pub returns-clause-last : goal.returns-clause-last
returns-clause-last c =
    let y : List ℕ =
    take c.self.inside.size (rewritten (c.in-Some.place + 1) c.self.inside.size c.swap.new.self c.reverse.new.self) in
    let e : rank y ≡ rank c.args.self.now + 1 = new_rank c in
    let l = rank-below (length c.args.self.now) y (new_state c) in
    (λ i. absurd (false≢true i), λ i. absurd (omega arith))

pub returns-in_default-clause-last : goal.returns-in_default-clause-last
returns-in_default-clause-last c =
    let falls : FallsFrom 0 c.args.self.now =
    subst (FallsFrom 0) c.rows.ensures.rows (c.in_default.ensures.none refl) in
    (λ i. rank-last (length c.args.self.now) c.args.self.now c.rows.ensures.state.bijection falls, λ i. refl)
