use Rattle.std.specs.Prelude.{◌≡◌, ◌∷◌, length}
use Rattle.std.proofs.Common.{◌∙◌, sym, ap, subst}
use Rattle.torus_geom.specs.Marks.{Marks, IsGrid}
use Rattle.torus_geom.specs.Transposed.{transposed}
use Rattle.grid_text.specs.Document.{picture, body, body_of}
use Rattle.grid_text.proofs.Paths.PictureLemmas.{IsGrid-last_row, below_row-last, below_row-more}
use Rattle.grid_text.proofs.places.below_row.Goals as goal

pub from_marks-columns-requires : goal.from_marks-columns-requires
from_marks-columns-requires c =
    let all_rows : length (c.args.c ∷ c.args.picture.o.items) ≡ c.args.picture.size =
    ap length (sym c.insert.ensures.items) ∙ sym c.len.ensures.value ∙ c.if-len-from.false ∙ c.from.ensures in
    let marks : ◌≡◌ {A = Marks} (record { o = c.as_slice.result.now; x = c.as_slice-2.result.now })
    (record { o = c.args.c ∷ c.args.picture.o.items; x = c.args.d ∷ c.args.picture.x.items }) =
    λ i. record {
      o = (c.as_slice.ensures.value ∙ c.insert.ensures.items) i;
      x = (c.as_slice-2.ensures.value ∙ c.insert-2.ensures.items) i;
    } in
    subst IsGrid (sym marks)
    (IsGrid-last_row c.args.picture.size c.args.picture.o.items c.args.picture.x.items c.args.c c.args.d
    c.requires.place c.requires.fits all_rows)

pub returns : goal.returns
returns c =
    let all_rows : length (c.args.c ∷ c.args.picture.o.items) ≡ c.args.picture.size =
    ap length (sym c.insert.ensures.items) ∙ sym c.len.ensures.value ∙ c.if-len-from.false ∙ c.from.ensures in
    let marks : ◌≡◌ {A = Marks} (record { o = c.as_slice.result.now; x = c.as_slice-2.result.now })
    (record { o = c.args.c ∷ c.args.picture.o.items; x = c.args.d ∷ c.args.picture.x.items }) =
    λ i. record {
      o = (c.as_slice.ensures.value ∙ c.insert.ensures.items) i;
      x = (c.as_slice-2.ensures.value ∙ c.insert-2.ensures.items) i;
    } in
    ap body c.new.ensures.script
    ∙ ap (body_of 1) (c.transpose.ensures ∙ ap transposed (c.from_marks-columns.ensures ∙ marks))
    ∙ sym (below_row-last c.args.picture.size (c.args.c ∷ c.args.picture.o.items)
    (c.args.d ∷ c.args.picture.x.items) all_rows)

pub returns-then-len-from : goal.returns-then-len-from
returns-then-len-from c =
    (λ i. picture c.args.picture.size (c.insert.ensures.items i) (c.insert-2.ensures.items i))
    ∙ sym (below_row-more c.args.picture.size (c.args.c ∷ c.args.picture.o.items) (c.args.d ∷ c.args.picture.x.items)
    (λ e. c.if-len-from.true
    (c.len.ensures.value ∙ ap length c.insert.ensures.items ∙ e ∙ sym c.from.ensures)))
