-- Each log that stands has the laws.
use Rattle.std.proofs.Common.{◌≡◌, ℕ, true, List, is_some, sym, ap, ap₂, ◌∙◌}
use Rattle.std.proofs.lemmas.Bool.{eqb-true}
use Rattle.f2_algebra.specs.Chain.{Chain, holds, single, ◌⊕◌, sum_over}
use Rattle.f2_algebra.specs.Complex.{Complex, border, IsComplex, AllCells}
use Rattle.f2_algebra.specs.Cancel.{Entry, IsLog, after, rest, lift}
use Rattle.f2_algebra.specs.Laws.{IsCell, LogLaws}
use Rattle.f2_algebra.proofs.Chains.Sets.{holds-single}
use Rattle.f2_algebra.proofs.Chains.Sums.{linear-sum_over, sum_over-singles}
use Rattle.f2_algebra.proofs.Cancelling.Cancellation.{border-single}
use Rattle.f2_algebra.proofs.Cancelling.LogLemmas.{correction-by, lift-linear, live_at_first, lift_degrees, rest_degrees, correction_degrees, pull_degrees, border-lift, rest_border, rest_lift, cycle_law}

cell_of_single : {G : Type 0} (C : Complex G) (s : ℕ) → IsCell C s → AllCells C (single s)
cell_of_single C s live t h = ap (λ u. is_some (C.degree u)) (eqb-true t s (sym (holds-single s t) ∙ h)) ∙ live

lift-sum : (log : List Entry) (z : Chain) → lift log z ≡ sum_over z (λ s. lift log (single s))
lift-sum log z = ap (lift log) (sym (sum_over-singles z)) ∙ linear-sum_over (lift log) (lift-linear log) z single

-- each log that stands has the laws
pub log_laws : {G : Type 0} (C : Complex G) → IsComplex C → (log : List Entry) → IsLog C log → LogLaws C log
log_laws C laws log stands = record {
  border_lift =
      λ s live. border-lift C laws log stands (single s) (cell_of_single (after C log) s live)
      ∙ ap (lift log) (border-single (after C log) s);
  rest_border = rest_border C laws log stands;
  rest_lift = rest_lift C laws log stands;
  cycle = λ z c. cycle_law C laws log stands z c
      ∙ ap₂ (λ a b. a ⊕ border C b) (lift-sum log (rest log z)) (sym (correction-by log z));
  lift_degree = λ s live t h.
      let (u, in_s, same) = lift_degrees C laws log stands (single s) (cell_of_single (after C log) s live) t h in
      same ∙ ap (after C log).degree (eqb-true u s (sym (holds-single s u) ∙ in_s));
  pull_degree = pull_degrees C laws log stands;
  rest_degree = λ z cells s h.
      let (t, in_z, same) = rest_degrees C laws log stands z s h in
      let live : is_some ((after C log).degree s) ≡ true = ap is_some (sym same) ∙ cells t in_z in
      let first = live_at_first C laws log stands s live in
      (live, first, (t, in_z, sym first ∙ sym same));
  correction_degree =
      λ z s h. correction_degrees C laws log stands z s (ap (λ c. holds c s) (sym (correction-by log z)) ∙ h);
}
