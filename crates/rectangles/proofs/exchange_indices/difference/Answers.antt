-- Each column adds what it adds to the difference.
use Rattle.std.proofs.Common.{◌≡◌, ◌+◌, ◌-◌, ◌≤◌, length, drop, ap, ◌∙◌, sym, arith, cond, ltb}
use Rattle.std.proofs.lemmas.Bool.{lt-ltb, le-ltb}
use Rattle.std.proofs.lemmas.List.{drop_all}
use Rattle.state_rank.specs.States.{factorial}
use Rattle.state_rank.proofs.LehmerLemmas.{factorial_grows}
use Rattle.rectangles.specs.Inner.ExchangeIndices.{gain}
use Rattle.rectangles.proofs.Sweep.ExchangeIndexLemmas.{gain-more}
use Rattle.rectangles.proofs.exchange_indices.difference.Goals.{then-c-b, else-c-b}
use Rattle.rectangles.proofs.exchange_indices.difference.Goals as goal

pub overflow_sub-more : goal.overflow_sub-more
overflow_sub-more c =
    let h = factorial_grows (c.size-n.result - 1 - c.args.b) (c.size-n.result - 1 - c.args.a)
    (let o = c.requires.order in omega arith) in
    let f = c.factorial-first.ensures.value in
    let s = c.factorial-second.ensures.value in
    omega arith

pub loop-c-init : goal.loop-c-init
unfolding gain
loop-c-init c =
    let n = c.size-n.ensures.size in
    let small = c.factorial-first.ensures.small in
    let order = c.requires.order in
    let below = c.requires.below in (
      (omega arith, omega arith),
      (omega arith)
          ∙ ap (λ ys. c.factorial-first.result + gain c.args.low c.args.high c.factorial-first.result
          (c.factorial-first.result - c.factorial-second.result) (length c.args.x.now - (c.args.b + 1)) ys)
          (sym (drop_all c.size-n.result c.args.x.now (omega arith))),
      omega arith,
    )

pub loop-c-preserved : goal.loop-c-preserved
loop-c-preserved c =
    let n = c.size-n.ensures.size in
    let within = c.loop-c.invariant.0.0 in
    let left = c.loop-c-test.true in
    let small = c.loop-c.invariant.2 in
    let order = c.requires.order in
    let below = c.requires.below in
    let first = c.factorial-first.ensures.small in
    let k = length c.args.x.now - (c.args.b + 1) in
    let rest = length c.args.x.now - c.loop-c.c in
    let more : c.if-c-b.more ≡ cond (ltb k rest) (c.factorial-first.result + factorial rest)
    (c.factorial-first.result - c.factorial-second.result) = elim c.if-c-b.branch [
      | then-c-b w ↦
          let t = w.if-c-b.true in
          let same : c.size-n.result - 1 - (c.loop-c.c - 1) ≡ rest = omega arith in
          w.more-is ∙ ap (λ m. c.factorial-first.result + m) (w.factorial.ensures.value ∙ ap factorial same)
          ∙ sym (ap (λ b. cond b (c.factorial-first.result + factorial rest)
          (c.factorial-first.result - c.factorial-second.result)) (lt-ltb k rest (omega arith)))
      | else-c-b w ↦
          let t = w.if-c-b.false in
          w.more-is
          ∙ sym (ap (λ b. cond b (c.factorial-first.result + factorial rest)
          (c.factorial-first.result - c.factorial-second.result)) (le-ltb k rest (omega arith)))
    ] in
    let most : c.if-c-b.more ≤ 725760 = elim c.if-c-b.branch [
      | then-c-b w ↦ let m = w.factorial.ensures.small in let i = w.more-is in omega arith
      | else-c-b w ↦ let i = w.more-is in omega arith
    ] in
    let term = c.if_between-sum.ensures.small in (
      (omega arith, omega arith),
      gain-more c.args.x.now c.args.low c.args.high c.factorial-first.result
          (c.factorial-first.result - c.factorial-second.result) k c.loop-c.c c.loop-c.sum c.row.result c.if-c-b.more
          c.if_between-sum.result (omega arith) (omega arith) c.row.ensures.row c.loop-c.invariant.1 more
          c.if_between-sum.ensures.value,
      omega arith,
    )

pub returns-clause-value : goal.returns-clause-value
returns-clause-value c =
    let n = c.size-n.ensures.size in
    let low = c.loop-c.invariant.0.1 in
    let end = c.loop-c-test.false in
    let at : c.loop-c.c ≡ c.args.a + 1 = omega arith in
    let a : c.size-n.result - 1 - c.args.a ≡ length c.args.x.now - (c.args.a + 1) = omega arith in
    let b : c.size-n.result - 1 - c.args.b ≡ length c.args.x.now - (c.args.b + 1) = omega arith in
    let first : c.factorial-first.result ≡ factorial (length c.args.x.now - (c.args.a + 1)) =
    c.factorial-first.ensures.value ∙ ap factorial a in
    let second : c.factorial-second.result ≡ factorial (length c.args.x.now - (c.args.b + 1)) =
    c.factorial-second.ensures.value ∙ ap factorial b in
    c.loop-c.invariant.1
    ∙ (λ i. first i + gain c.args.low c.args.high (first i) (first i - second i) (length c.args.x.now - (c.args.b + 1))
    (drop (at i) c.args.x.now))
