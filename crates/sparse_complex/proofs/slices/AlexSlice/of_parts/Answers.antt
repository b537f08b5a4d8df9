-- The cursor is the first key with an arrow out.
use Rattle.sparse_complex.proofs.CancelledLemmas.{first-begin}
use Rattle.sparse_complex.proofs.slices.AlexSlice.of_parts.Goals as goal

pub invariant_of-result : goal.invariant_of-result
invariant_of-result c = record {
  by_key = c.requires.by_key;
  first = first-begin c.args.links c.requires.by_key.listed c.first_with_arrow-cursor.result
      c.first_with_arrow-cursor.ensures.within.1 c.first_with_arrow-cursor.ensures.none_before
      c.first_with_arrow-cursor.ensures.some_here;
  rules = c.requires.rules;
}
