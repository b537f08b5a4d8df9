use Rattle.std.proofs.Common.{◌∙◌, sym}
use Rattle.grid_text.specs.Inner.Next.{place_of}
use Rattle.grid_text.proofs.Lines.SeenLemmas.{seen}
use Rattle.grid_text.proofs.Paths.PictureLemmas.{picture-next}
use Rattle.grid_text.proofs.places.read_picture_row.Goals as goal

pub returns-in-Ok : goal.returns-in-Ok
returns-in-Ok c =
    picture-next c.args.picture.size c.args.picture.o.items c.args.picture.x.items c.deref.result.now
    (seen c.args.words.now) c.in-Ok.c c.in-Ok.d (place_of c.below_row.result) c.requires.place c.in-Ok.ensures.ok
    (sym c.in_ok-row.ensures ∙ sym c.deref.ensures.value) c.below_row.ensures
