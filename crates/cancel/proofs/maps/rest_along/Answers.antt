-- From the first entry to the last.
use Rattle.std.proofs.Common.{arith}
use Rattle.cancel.proofs.MapLemmas.{rest-on, held-on}
use Rattle.cancel.proofs.maps.rest_along.Goals as goal

pub rest_over-requires : goal.rest_over-requires
rest_over-requires c = c.requires.once c.loop-entry.entry-index _ (omega arith)

pub loop-entry-preserved : goal.loop-entry-preserved
loop-entry-preserved c = record {
  left = rest-on c.args.entries.now c.loop-entry.entry-index _ c.loop-entry.chain c.rest_over.new.chain _
      c.loop-entry-test.true c.loop-entry.invariant.left c.in_ok-mark.ensures.rest;
  marks = held-on c.args.entries.now c.loop-entry.entry-index _ c.loop-entry.chain c.rest_over.new.chain
      c.loop-entry.marks.items c.push.new.self.items _ c.in_ok-mark.mark c.loop-entry-test.true
      c.loop-entry.invariant.marks c.in_ok-mark.ensures.rest c.in_ok-mark.ensures.held c.in_ok-push.ensures.items;
}
