-- The alternating sums of the table are the Euler numbers.
use Rattle.std.proofs.lemmas.Result.{IfOk-weaker}
use Rattle.grid_job.specs.Report.{IsEulerText}
use Rattle.grid_job.proofs.euler_numbers.euler_text.Goals as goal

pub returns : goal.returns
returns c =
    IfOk-weaker c.euler_lines.result _ (λ text. IsEulerText c.args.g.now text.items) (λ lines told. record {
      rows = c.in_ok-numbers.numbers;
      numbers = c.in_ok-numbers.ensures.numbers c.args.g.now c.size.ensures.grid c.requires.table;
      lines = told;
    })
    c.euler_lines.ensures
