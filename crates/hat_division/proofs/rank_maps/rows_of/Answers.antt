-- Each entry gives its row.
use Rattle.std.proofs.Common.{◌≡◌, ℕ, ◌++◌, ◌∷◌, [], map, w32, sym, ap, ◌∙◌, append_assoc, append-nil, rules}
use mir.Val.{SFits}
use Rattle.std.proofs.lemmas.Int.{to_z-of_z}
use Rattle.gradings.specs.declared.degrees.Bidegree.{Bidegree}
use Rattle.hat_division.specs.RankMaps.{row_of}
use Rattle.hat_division.proofs.rank_maps.rows_of.Goals as goal

pub loop-bidegree-init : goal.loop-bidegree-init
loop-bidegree-init c =
    λ i. c.new-rows.ensures.items i
    ++ map row_of ((c.into_iter-bidegree-iterator.ensures.into_iter_gives ∙ c.iter-bidegree-items.ensures.rest) i)

pub loop-bidegree-preserved : goal.loop-bidegree-preserved
loop-bidegree-preserved c =
    let rows = c.loop-bidegree.rows.items in
    let rest = map row_of c.next.new.self in
    let entry : Bidegree × ℕ = (c.in-Some.bidegree.now, c.in-Some.rank.now) in
    let fits_m : SFits w32 c.in-Some.bidegree.now.m = search rules in
    let fits_a : SFits w32 c.in-Some.bidegree.now.a = search rules in
    let pushed : c.push.new.self.items ≡ rows ++ row_of entry ∷ [] =
    c.in_ok-push.ensures.items
    ∙ (λ i. rows
    ++ record {
      m = to_z-of_z w32 c.in-Some.bidegree.now.m fits_m i;
      a = to_z-of_z w32 c.in-Some.bidegree.now.a fits_a i;
      rank = c.in-Some.rank.now;
    } ∷ []) in
    ap (λ xs. xs ++ rest) pushed
    ∙ append_assoc rows (row_of entry ∷ []) rest
    ∙ ap (λ es. rows ++ map row_of es) (sym c.in-Some.ensures.steps)
    ∙ c.loop-bidegree.invariant

pub returns-clause-rows : goal.returns-clause-rows
returns-clause-rows c =
    sym (append-nil c.loop-bidegree.rows.items)
    ∙ ap (λ es. c.loop-bidegree.rows.items ++ map row_of es) (sym c.in-None.ensures.steps.0)
    ∙ c.loop-bidegree.invariant
