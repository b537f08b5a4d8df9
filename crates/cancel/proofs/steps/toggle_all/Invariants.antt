-- With the codes that are ahead toggled too, the chain is what it was with all of them.
use Rattle.std.proofs.Common.{◌≡◌, drop}
use Rattle.cancel.proofs.MapLemmas.{toggled_by}
use Rattle.cancel.proofs.steps.toggle_all.Given as goal

abbrev pub invariant-loop-code : goal.invariant-loop-code
invariant-loop-code l = toggled_by l.chain (drop l.code-index l.codes) ≡ toggled_by l.initial.chain l.codes
