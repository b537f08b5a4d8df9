-- The keys of the set are the codes of the chain.
use Rattle.std.proofs.Common.{ap, ◌∙◌}
use Rattle.f2_algebra.specs.Chain.{holds}
use Rattle.f2_chain.proofs.SetLemmas.{holds-keys}
use Rattle.f2_chain.proofs.builders.Builder.holds.Goals as goal

pub returns : goal.returns
returns c = c.contains.ensures ∙ holds-keys _ c.args.code ∙ ap (λ z. holds z c.args.code) c.self.view_is
