use Rattle.std.proofs.Common.{arith, ◌≡◌, Err, ap, sym, ◌∙◌, codes}
use Rattle.homology_cert.proofs.Texts.LineLemmas.{marks_line-injective}
use Rattle.homology_cert.proofs.Texts.PlaceLemmas.{small_rows}
use Rattle.homology_cert.proofs.Texts.MarkLemmas.{not_apart}
use Rattle.homology_cert.proofs.places.x_place.Goals as goal

pub returns-in-Err-SameSquare : goal.returns-in-Err-SameSquare
returns-in-Err-SameSquare c x is e =
    let read = c.in-Some.ensures.some in
    let same : x ≡ c.in-Some.x = marks_line-injective (codes "X") x c.in-Some.x
    (small_rows _ x is.x is.is_size.greatest) (small_rows _ c.in-Some.x read.0
    (omega (arith, c.size.ensures.size, c.requires.size.greatest))) (sym e ∙ read.1) in
    let shares = (c.in-Err-SameSquare.ensures.same_square.0 (ap Err c.in-Err-SameSquare.field-0-is)).1 in
    not_apart c.args.o x c.rows.result.now c.rows-2.result.now c.rows.ensures.rows (c.rows-2.ensures.rows ∙ sym same)
    shares is
