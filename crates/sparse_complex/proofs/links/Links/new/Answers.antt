-- Nothing is linked.
use Rattle.std.proofs.Common.{◌≡◌, ℕ, length, replicate, ap, ◌∙◌}
use Rattle.std.proofs.lemmas.List.{length-replicate}
use Rattle.sparse_complex.specs.Inner.Lists.{no_head, head_at}
use Rattle.sparse_complex.proofs.ArrowChangeLemmas.{listed-none, has_arrow-none, head_at-replicate}
use Rattle.sparse_complex.proofs.links.Links.new.Goals as goal

pub returns : goal.returns
returns c =
    let items : c.in_ok-vec.field-0.items ≡ replicate c.args.keys no_head =
    c.in_ok-vec.ensures.items_if_clones_equal (λ y e. e) in
    let none : (k : ℕ) → head_at c.in_ok-vec.field-0.items k ≡ no_head =
    λ k. ap (λ hs. head_at hs k) items ∙ head_at-replicate c.args.keys k in (
      listed-none c.new.result.nodes c.in_ok-vec.field-0.items c.new.ensures.empty.0 none,
      ap length items ∙ length-replicate c.args.keys no_head,
      has_arrow-none _ c.new.ensures.empty.0 none,
    )
