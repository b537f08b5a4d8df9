use Rattle.std.proofs.Common.{Err, ap, subst, ◌≡◌}
use Rattle.state_rank.specs.Bijection.{IsBijection}
use Rattle.torus_geom.specs.Marks.{Marks, AreBijections, SharesSquare}
use Rattle.grid_text.proofs.Lines.SeenLemmas.{seen}
use Rattle.grid_text.proofs.Paths.RowLemmas.{square-read, fault_of_grid}
use Rattle.grid_text.proofs.places.read_x_line.Goals as goal

pub returns-in-Err-of : goal.returns-in-Err-of
returns-in-Err-of c =
    let marks : ◌≡◌ {A = Marks} (record { o = c.rows.result.now; x = c.rows-2.result.now })
    (record { o = c.args.o.now; x = c.in-Ok.x }) =
    λ i. record { o = c.rows.ensures.rows i; x = c.rows-2.ensures.rows i } in
    let bijection = subst (λ n. IsBijection n c.in-Ok.x) c.size.ensures.size c.in-Ok.ensures.ok.0 in
    square-read c.args.version c.args.o.now c.in-Ok.x (seen c.args.words.now) c.rows.ensures.state bijection
    c.in-Ok.ensures.ok.1
    (fault_of_grid c.args.o.now c.in-Ok.x c.in-Err-of.field-0 c.rows.ensures.state bijection
    (λ e. subst (λ (g : Marks). AreBijections g → ⊥) marks (c.in-Err-of.ensures.not_permutation.0 (ap Err e)))
    (λ e. subst SharesSquare marks (c.in-Err-of.ensures.same_square.0 (ap Err e)).1))
