-- Place by place, from the last.
use Rattle.std.proofs.Common.{◌≡◌, ◌+◌, ◌-◌, ◌/◌, ◌%◌, suc, ap, ◌∙◌, arith}
use Rattle.std.specs.List.{swap}
use Rattle.grid_job.proofs.Generated.GeneratorLemmas.{IsShuffling-start, IsShuffling-more, IsShuffling-state, IsShuffling-number}
use Rattle.grid_job.proofs.generator.shuffle.Goals as goal

pub loop-done-init : goal.loop-done-init
loop-done-init c =
    IsShuffling-start c.args.n c.args.number.now c.ascending-state.result c.ascending-state.ensures c.requires.number

pub loop-done-preserved : goal.loop-done-preserved
loop-done-preserved c =
    let n = c.args.n in
    let done = c.loop-done.done in
    let next = c.next_number-current.result in
    let at : n - done ≡ suc (n - (done + 1)) = omega (arith, c.loop-done-test.true) in
    IsShuffling-more n c.args.number.now (n - done)
    (n - (done + 1)) c.loop-done.current next c.loop-done.state c.exchange-state.result at
    c.next_number-current.ensures.value c.next_number-current.ensures.below
    (c.exchange-state.ensures.state
    ∙ ap (λ m. swap c.loop-done.state (n - done) (next / 65536 % (m + 1))) c.from.ensures)
    c.exchange-state.ensures.size c.loop-done.invariant

pub returns : goal.returns
returns c =
    let left = c.args.n - c.loop-done.done in
    let none : left ≡ 0 = omega (arith, c.loop-done-test.false) in
    record {
      state = IsShuffling-state c.args.n c.args.number.now left c.loop-done.current c.loop-done.state none
          c.loop-done.invariant;
      size = c.loop-done.invariant.long;
      number = IsShuffling-number c.args.n c.args.number.now left c.loop-done.current c.loop-done.state none
          c.loop-done.invariant;
      below = c.loop-done.invariant.small;
    }
