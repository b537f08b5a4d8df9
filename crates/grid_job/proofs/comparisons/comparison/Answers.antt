use Rattle.std.proofs.lemmas.Result.{IfOk-weaker}
use Rattle.grid_job.specs.Compared.{IsComparison}
use Rattle.grid_job.proofs.comparisons.comparison.Goals as goal

pub returns : goal.returns
returns c =
    IfOk-weaker c.compare_lines.result _ (λ text. IsComparison c.args.g.now c.args.h.now text.items)
    (λ text told. record {
      first = c.in_ok-first.first;
      second = c.in_ok-second.second;
      of_first = c.in_ok-first.ensures;
      of_second = c.in_ok-second.ensures;
      lines = told;
    })
    c.compare_lines.ensures.lines
