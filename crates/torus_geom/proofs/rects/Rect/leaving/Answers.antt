-- The rows of two circles of a state are different.
use Rattle.std.proofs.Common.{◌∙◌, sym}
use Rattle.torus_geom.proofs.rects.Rect.leaving.Goals as goal

pub returns-clause-proper : goal.returns-clause-proper
returns-clause-proper c = record {
  left_below = c.requires.left_below;
  right_below = c.requires.right_below;
  low_below = c.row.ensures.below;
  high_below = c.row-2.ensures.below;
  columns = c.requires.apart;
  rows = λ e. c.row.ensures.state.bijection.apart c.args.left c.args.right c.requires.left_below c.requires.right_below
      c.requires.apart (sym c.row.ensures.row ∙ e ∙ c.row-2.ensures.row);
}
