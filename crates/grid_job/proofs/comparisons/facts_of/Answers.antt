use Rattle.grid_job.proofs.comparisons.facts_of.Goals as goal

pub returns : goal.returns
returns c = record {
  tb = c.front.ensures.tb;
  rot = c.front.ensures.rot;
  table = c.in_ok-table.ensures.table;
  hat = c.in_ok-hat.ensures;
  plus = c.in_ok-plus_alive.ensures;
  minus = c.in_ok-minus_alive.ensures;
}
