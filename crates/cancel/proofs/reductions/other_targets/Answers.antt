-- The targets are listed once, and one of them is taken out.
use Rattle.std.proofs.Common.{◌≡◌, ◌≢◌, ℕ, not, ◌&&◌, eqb, sym, subst, ◌∙◌}
use Rattle.std.specs.List.{AllPairs}
use Rattle.std.proofs.lemmas.Result.{IfOk-weaker}
use Rattle.f2_algebra.specs.Chain.{holds, of_codes}
use Rattle.f2_algebra.specs.Complex.{arrow}
use Rattle.f2_algebra.specs.Slice.{slice_complex}
use Rattle.sparse_complex.specs.Slices.{ListsOnce}
use Rattle.cancel.proofs.ListLemmas.{holds-listed}
use Rattle.cancel.proofs.reductions.other_targets.Goals as goal

pub returns-clause-codes : goal.returns-clause-codes
returns-clause-codes c =
    let listed : ListsOnce c.remove_code.new.list.items
    (λ t. arrow (slice_complex c.args.slice.now.slice) c.args.gone.x t && not (eqb t c.args.gone.y)) =
    c.remove_code.ensures (arrow (slice_complex c.args.slice.now.slice) c.args.gone.x) c.in_ok-targets_of.ensures.all in
    IfOk-weaker c.placed.result _ (λ list. (t : ℕ) → holds (of_codes list.now) t
    ≡ (arrow (slice_complex c.args.slice.now.slice) c.args.gone.x t && not (eqb t c.args.gone.y))) (λ list e.
    holds-listed list.now (λ t. arrow (slice_complex c.args.slice.now.slice) c.args.gone.x t
    && not (eqb t c.args.gone.y)) (subst (λ xs. ListsOnce xs
    (λ t. arrow (slice_complex c.args.slice.now.slice) c.args.gone.x t && not (eqb t c.args.gone.y)))
    (sym (e ∙ c.deref.ensures.value)) listed)) c.placed.ensures

pub returns-clause-once : goal.returns-clause-once
returns-clause-once c =
    let listed : ListsOnce c.remove_code.new.list.items
    (λ t. arrow (slice_complex c.args.slice.now.slice) c.args.gone.x t && not (eqb t c.args.gone.y)) =
    c.remove_code.ensures (arrow (slice_complex c.args.slice.now.slice) c.args.gone.x) c.in_ok-targets_of.ensures.all in
    IfOk-weaker c.placed.result _ (λ list. AllPairs (λ b c. b ≢ c) list.now) (λ list e.
    subst (AllPairs (λ b c. b ≢ c)) (sym (e ∙ c.deref.ensures.value)) listed.once) c.placed.ensures
