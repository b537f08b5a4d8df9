-- The first numbers that differ tell the order; at a signed number the test is of machine words.
use Rattle.std.proofs.Common.{◌≡◌, ℤ, pos, Bool, drop, get_or, sym, ap, ◌∙◌, arith, rules}
use Rattle.std.specs.Prelude.{int_lt}
use Rattle.std.proofs.lemmas.Int.{to_z-of_z}
use mir.Syntax.{w32}
use mir.Val.{SFits, to_z, of_z}
use Rattle.hat_division.specs.DegreeLists.{is_higher}
use Rattle.hat_division.proofs.Multi.RowOrder.{drop-past, higher-longer, higher-greater, higher-smaller, higher-same}
use Rattle.hat_division.proofs.degree_lists.is_higher.Goals as goal

less_from : (a b : ℤ) (t : Bool) → SFits w32 a → SFits w32 b
    → int_lt (to_z w32 (of_z w32 a)) (to_z w32 (of_z w32 b)) ≡ t → int_lt a b ≡ t
less_from a b t fa fb e = sym (λ i. int_lt (to_z-of_z w32 a fa i) (to_z-of_z w32 b fb i)) ∙ e

pub returns-then-i-q : goal.returns-then-i-q
returns-then-i-q c =
    sym (c.loop-i.invariant.0
    ∙ higher-longer c.args.p.now c.args.q.now c.loop-i.i (pos 0) c.loop-i-test.true c.if-i-q.true)

pub returns-then-q-i : goal.returns-then-q-i
returns-then-q-i c =
    let within = c.loop-i.invariant.1 in
    let other = c.if-i-q.false in
    sym (c.loop-i.invariant.0
    ∙ higher-greater c.args.p.now c.args.q.now c.loop-i.i (pos 0) c.loop-i-test.true (omega arith)
    (less_from (get_or c.args.q.now c.loop-i.i (pos 0)) (get_or c.args.p.now c.loop-i.i (pos 0)) _ (search rules)
    (search rules) c.if-q-i.true))

pub returns-then-p-i : goal.returns-then-p-i
returns-then-p-i c =
    let within = c.loop-i.invariant.1 in
    let other = c.if-i-q.false in
    sym (c.loop-i.invariant.0
    ∙ higher-smaller c.args.p.now c.args.q.now c.loop-i.i (pos 0) c.loop-i-test.true (omega arith)
    (less_from (get_or c.args.p.now c.loop-i.i (pos 0)) (get_or c.args.q.now c.loop-i.i (pos 0)) _ (search rules)
    (search rules) c.if-p-i.true))

pub loop-i-preserved : goal.loop-i-preserved
loop-i-preserved c =
    let within = c.loop-i.invariant.1 in
    let other = c.if-i-q.false in (
      c.loop-i.invariant.0
          ∙ higher-same c.args.p.now c.args.q.now c.loop-i.i (pos 0) c.loop-i-test.true (omega arith)
          (less_from (get_or c.args.q.now c.loop-i.i (pos 0)) (get_or c.args.p.now c.loop-i.i (pos 0)) _ (search rules)
          (search rules) c.if-q-i.false)
          (less_from (get_or c.args.p.now c.loop-i.i (pos 0)) (get_or c.args.q.now c.loop-i.i (pos 0)) _ (search rules)
          (search rules) c.if-p-i.false),
      omega arith,
    )

pub returns : goal.returns
returns c =
    sym (c.loop-i.invariant.0
    ∙ ap (λ l. is_higher l (drop c.loop-i.i c.args.q.now)) (drop-past c.args.p.now c.loop-i.i c.loop-i-test.false))
