use Rattle.std.proofs.Common.{ap, ◌∙◌, refl}
use Rattle.grid_text.specs.Document.{ended}
use Rattle.grid_text.specs.Faults.{fault_in_table}
use Rattle.grid_text.specs.Inner.Next.{place_of}
use Rattle.grid_text.proofs.Lines.SeenLemmas.{seen}
use Rattle.grid_text.proofs.Lines.FaultLemmas.{fault_in_table-ended}
use Rattle.grid_text.proofs.places.next_place.Goals as goal

pub returns : goal.returns
returns c =
    ap (λ p. fault_in_table (place_of p) (seen c.args.words.now)) c.in-Ended.is
    ∙ fault_in_table-ended (ended c.in-Ended.field-0) (seen c.args.words.now) refl
