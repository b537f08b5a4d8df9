-- Each branch is one step of the merge; one of the two lists is at its end when the loop is.
use Rattle.std.proofs.Common.{◌+◌, ◌++◌, ◌<◌, ◌≤◌, length, sym, ap, ap₂, subst, ◌∙◌, arith}
use Rattle.f2_chain.proofs.MergeLemmas.{IsMerged, IsSum, merged_none, merged_a, merged_b, merged_both, merged_rest, take-drop}
use Rattle.f2_chain.proofs.code_sets.merged.Goals as goal
use Rattle.f2_chain.proofs.code_sets.merged.Goals.{then-loop-i-test+else-j-b, else-loop-i-test}

pub loop-i-init : goal.loop-i-init
loop-i-init c = record {
  merged = subst (λ list. IsMerged c.args.a.now c.args.b.now list 0 0) (sym c.new-list.ensures.items)
      (merged_none c.args.a.now c.args.b.now);
  a_in = omega arith;
  b_in = omega arith;
}

pub loop-i-preserved-then-a-i : goal.loop-i-preserved-then-a-i
loop-i-preserved-then-a-i c = record {
  merged = subst (λ list. IsMerged c.args.a.now c.args.b.now list (c.loop-i.i + 1) c.loop-i.j)
      (sym c.in_ok-push.ensures.items)
      (merged_a _ _ _ _ _ c.requires.a_ascending c.requires.b_ascending c.loop-i.invariant.merged (omega arith)
      (λ _. omega arith));
  a_in = omega arith;
  b_in = omega arith;
}

pub loop-i-preserved-then-b-j : goal.loop-i-preserved-then-b-j
loop-i-preserved-then-b-j c = record {
  merged = subst (λ list. IsMerged c.args.a.now c.args.b.now list c.loop-i.i (c.loop-i.j + 1))
      (sym c.in_ok-push-2.ensures.items)
      (merged_b _ _ _ _ _ c.requires.a_ascending c.requires.b_ascending c.loop-i.invariant.merged (omega arith)
      (λ _. omega arith));
  a_in = omega arith;
  b_in = omega arith;
}

pub loop-i-preserved : goal.loop-i-preserved
loop-i-preserved c = record {
  merged = merged_both _ _ _ _ _ c.requires.a_ascending c.requires.b_ascending c.loop-i.invariant.merged (omega arith)
      (omega arith) (omega arith);
  a_in = omega arith;
  b_in = omega arith;
}

pub returns : goal.returns
returns c =
    let ended : c.loop-i.i < length c.args.a.now → length c.args.b.now ≤ c.loop-i.j =
    elim c.loop-i-test.branch [
      | then-loop-i-test+else-j-b w ↦ λ _. omega (arith, w.if-j-b.false)
      | else-loop-i-test w ↦ λ l. absurd (omega (arith, w.loop-i-test.false))
    ]
    in
    let a = c.args.a.now in
    let b = c.args.b.now in
    let first =
    c.in_ok-extend_from_slice.ensures.items ∙ ap (λ rest. c.loop-i.list.items ++ rest) (take-drop c.loop-i.i a) in
    let written =
    c.in_ok-extend_from_slice-2.ensures.items ∙ ap₂ (λ list rest. list ++ rest) first (take-drop c.loop-i.j b) in
    let sum = subst (IsSum c.args.a.now c.args.b.now) (sym written)
    (merged_rest _ _ _ _ _ c.requires.a_ascending c.requires.b_ascending c.loop-i.invariant.a_in c.loop-i.invariant.b_in
    ended c.loop-i.invariant.merged) in
    record { ascending = sum.ascending; sum = sum.sum }
