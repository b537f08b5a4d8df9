use Rattle.std.proofs.Common.{ap, sym, ◌∙◌}
use Rattle.grid_text.specs.Words.{is_blank}
use Rattle.grid_text.specs.Inner.Next.{place_of}
use Rattle.grid_text.proofs.Lines.SeenLemmas.{seen}
use Rattle.grid_text.proofs.Paths.JudgementLemmas.{next-read}
use Rattle.grid_text.proofs.judgement.next_of_line.Goals as goal

pub returns : goal.returns
returns c =
    next-read (place_of c.args.place) (seen c.deref-2.result.now) _ c.is_blank.result c.next_place.result
    (ap seen c.deref-2.ensures.value ∙ c.in_ok-words.ensures)
    (c.is_blank.ensures ∙ ap (λ w. is_blank (seen w)) (c.deref.ensures.value ∙ sym c.deref-2.ensures.value))
    c.if-is_blank.false c.next_place.ensures
