-- If no state is ahead, all were looked at.
use Rattle.std.proofs.Common.{◌≡◌, ap, ◌∙◌, w32, arith, rules}
use mir.Val.{SFits}
use Rattle.std.proofs.lemmas.Int.{to_z-of_z}
use Rattle.std.proofs.lemmas.Result.{IfOk-weaker}
use Rattle.f2_algebra.specs.Chain.{where_code}
use Rattle.legendrian_class.specs.Inner.Parts.{has_alexander}
use Rattle.legendrian_class.proofs.ChainLemmas.{selected-all}
use Rattle.legendrian_class.proofs.parts.part_at.Goals as goal

pub returns : goal.returns
returns c =
    let fits : SFits w32 c.args.a = search rules in
    IfOk-weaker c.finish.result _ (λ part. part ≡ where_code (has_alexander c.args.tables.now c.args.a) c.args.z.now)
    (λ part e.
    e ∙ selected-all
    (has_alexander c.args.tables.now _) c.args.z.now c.loop-code.part c.codes-code-items.result.now
    c.loop-code.code-index
    c.codes-code-items.ensures (omega arith) c.loop-code.invariant
    ∙ ap (λ a. where_code (has_alexander c.args.tables.now a) c.args.z.now) (to_z-of_z w32 c.args.a fits))
    c.finish.ensures
