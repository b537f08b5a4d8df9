-- Arrays that begin with a tabulated list, as a loop over the columns makes them.
use Rattle.std.proofs.Common.{◌≡◌, ℕ, ◌<◌, ◌≤◌, List, take, set, length, ◌+◌, slice_index, ap, ◌∙◌, sym, subst, arith, inl, inr}
use Rattle.std.proofs.lemmas.List.{length-take-le, get_or-take, length-set, get_or-set_same, get_or-set_other}
use Rattle.std.proofs.lemmas.Bool.{cases_eq}
use Rattle.state_rank.specs.declared.TheConstants.{MAX_SIZE}
use Rattle.state_rank.specs.Bijection.{IsBijection, IsSize, tabulate}
use Rattle.state_rank.specs.States.{IsState}
use Rattle.state_rank.proofs.BijectionLemmas.{same_list}
use Rattle.state_rank.proofs.OrderLemmas.{length-tabulate}
use Rattle.torus_geom.proofs.Sums.TabulateLemmas.{slice_index-tabulate}

-- the first k elements of the array are f 0, f 1, ..
pub record BeginsWith (f : ℕ → ℕ) (into : List ℕ) (k : ℕ) : Type 0 where
  pub long : length into ≡ MAX_SIZE
  pub each : (c : ℕ) → c < k → slice_index into c ≡ f c

-- one more
pub BeginsWith-more : (f : ℕ → ℕ) (into : List ℕ) (k v : ℕ) → BeginsWith f into k → k < MAX_SIZE → v ≡ f k
    → BeginsWith f (set into k v) (k + 1)
BeginsWith-more f into k v h room e = record {
  long = length-set into k v ∙ h.long;
  each = λ c l. elim (cases_eq c k) [
    | inl i ↦
        ap (slice_index (set into k v)) i ∙ get_or-set_same into k v 0 (let m = h.long in omega arith) ∙ e
        ∙ ap f (sym i)
    | inr p ↦ get_or-set_other into k c v 0 p ∙ h.each c (omega arith)
  ];
}

-- If a loop over the n columns has made all of them, the first n elements are the list. F is f by the size.
pub take-tabulated : (F : ℕ → ℕ → ℕ) (x into : List ℕ) (n k : ℕ) → IsState x → n ≡ length x → n ≤ k
    → BeginsWith (F n) into k → take n into ≡ tabulate (length x) (F (length x))
take-tabulated F x into n k state e far h =
    let small : n ≤ length into = let m = h.long in let b = state.size.greatest in omega arith in
    same_list n (take n into) (tabulate n (F n)) (length-take-le n into small) (length-tabulate n (F n))
    (λ c l. get_or-take n into c 0 l ∙ h.each c (omega arith) ∙ sym (slice_index-tabulate n (F n) c l))
    ∙ ap (λ m. tabulate m (F m)) e

-- a list that is a bijection of the size of a state is a state
pub IsState-of_size : (x y : List ℕ) → IsState x → IsBijection (length x) y → IsState y
IsState-of_size x y state b = record {
  size = subst IsSize (sym b.long) state.size;
  bijection = subst (λ n. IsBijection n y) (sym b.long) b;
}
