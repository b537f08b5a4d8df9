use Rattle.std.proofs.Common.{◌≡◌, ℤ, pos, ◌+ℤ◌, length, get_or, take, set, ap, ◌∙◌, arith, rules}
use Rattle.std.proofs.lemmas.Int.{ints}
use mir.Syntax.{w32}
use mir.Val.{SFits, to_z, of_z}
use Rattle.hat_division.proofs.WordLemmas.{IfSome-value}
use Rattle.hat_division.proofs.Multi.RowOrder.{stored_at, stored-raised_at, two_up}
use Rattle.hat_division.proofs.degree_lists.DegreeList.raised_at.Goals as goal

pub returns : goal.returns
returns c =
    let ds = c.args.self.now in
    let stored = c.self.inside.degrees in
    let i = c.args.i in
    let n = length c.degrees-count.result.now in
    let old = get_or stored i (pos 0) in
    let v : ℤ = to_z w32 (of_z w32 (to_z w32 (of_z w32 old) +ℤ pos 2)) in
    let fits : SFits w32 old = search rules in
    let at = stored_at ds stored i c.self.inside.count c.self.view_is c.self.invariant.within c.requires.place in
    let bound = (c.requires.small i (pos 0) c.requires.place).high in
    let made : c.unwrap.result ≡ take n (set stored i v) =
    IfSome-value (λ d. d ≡ take n (set stored i v)) c.of.result c.unwrap.result c.unwrap.ensures c.of.ensures.degrees in
    made
    ∙ stored-raised_at ds stored i n c.self.inside.count v (ap length c.degrees-count.ensures.degrees) c.self.view_is
    c.self.invariant.within c.requires.place (two_up old fits (omega (arith, ints)))
