use Rattle.grid_text.proofs.PlainForm.ReadBackLemmas.{IsDocument-plain_form}
use Rattle.grid_text.proofs.printing.print.Goals as goal

pub returns-clause-read_back : goal.returns-clause-read_back
returns-clause-read_back c = IsDocument-plain_form
