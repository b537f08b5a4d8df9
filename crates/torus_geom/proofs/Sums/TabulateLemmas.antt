-- Lists made from a function.
use Rattle.std.proofs.Common.{◌≡◌, ℕ, zero, suc, ◌+◌, ◌<◌, Bool, true, false, cond, [], ◌∷◌, ◌++◌, length, slice_index, refl, ap, ◌∙◌, sym, length-append, arith, List}
use Rattle.std.specs.List.{filter}
use Rattle.std.proofs.lemmas.List.Elements.{filter-append}
use Rattle.std.proofs.Math.IntN.{pos, ◌+ℤ◌}
use Rattle.std.proofs.lemmas.Int.{ints}
use Rattle.state_rank.specs.Bijection.{tabulate, ascending}
use Rattle.state_rank.proofs.OrderLemmas.{get_or-tabulate}
use Rattle.torus_geom.specs.Counts.{one_if, count_below}
use Rattle.f2_algebra.proofs.Chains.Tables.{◌⊻◌}
use Rattle.f2_algebra.proofs.Chains.ParityLemmas.{parity, parity_below, parity_below-first}

-- one more at the end
pub tabulate-suc : {A : Type 0} (n : ℕ) (f : ℕ → A) → tabulate (suc n) f ≡ tabulate n f ++ f n ∷ []
tabulate-suc zero f = refl
tabulate-suc (suc n) f = ap (λ l. f 0 ∷ l) (tabulate-suc n (λ c. f (suc c)))

-- each is the value of the function
pub slice_index-tabulate : (n : ℕ) (f : ℕ → ℕ) (c : ℕ) → c < n → slice_index (tabulate n f) c ≡ f c
slice_index-tabulate n f c l = get_or-tabulate n f c 0 l

-- the numbers below n + 1 that pass
pub length-filter-ascending : (p : ℕ → Bool) (n : ℕ)
    → length (filter p (ascending (n + 1))) ≡ length (filter p (ascending n)) + cond (p n) 1 0
length-filter-ascending p n =
    ap (λ m. length (filter p (ascending m))) (let e : n + 1 ≡ suc n = omega arith in e)
    ∙ ap (λ l. length (filter p l)) (tabulate-suc n (λ c. c))
    ∙ ap length (filter-append p (ascending n) (n ∷ []))
    ∙ length-append (filter p (ascending n)) (filter p (n ∷ []))
    ∙ ap (λ k. length (filter p (ascending n)) + k) (one (p n) refl)
  where
    one : (b : Bool) → p n ≡ b → length (filter p (n ∷ [])) ≡ cond (p n) 1 0
    one true e = ap (λ b. length (cond b (n ∷ []) [])) e ∙ sym (ap (λ b. cond b 1 0) e)
    one false e = ap (λ b. length (cond b (n ∷ []) [])) e ∙ sym (ap (λ b. cond b 1 0) e)

-- the same as a count
pub pos-length-filter-ascending : (p : ℕ → Bool) (n : ℕ) → pos (length (filter p (ascending n))) ≡ count_below n p
pos-length-filter-ascending p zero = refl
pos-length-filter-ascending p (suc n) =
    let e : n + 1 ≡ suc n = omega arith in
    let rest = pos-length-filter-ascending p n in
    ap (λ m. pos (length (filter p (ascending m)))) (sym e) ∙ ap pos (length-filter-ascending p n) ∙ one (p n) rest
  where
    one : (b : Bool) → pos (length (filter p (ascending n))) ≡ count_below n p
        → pos (length (filter p (ascending n)) + cond b 1 0) ≡ one_if b +ℤ count_below n p
    one true h = omega (arith, ints)
    one false h = omega (arith, ints)

-- a sum over a list that is given place by place
pub parity-tabulate : {A : Type 0} (p : A → Bool) (n : ℕ) (f : ℕ → A)
    → parity p (tabulate n f) ≡ parity_below n (λ c. p (f c))
parity-tabulate p zero f = refl
parity-tabulate p (suc n) f =
    ap (λ b. p (f 0) ⊻ b) (parity-tabulate p n (λ c. f (suc c))) ∙ sym (parity_below-first n (λ c. p (f c)))

pub filter-none : {A : Type 0} (test : A → Bool) (xs : List A) → ((x : A) → test x ≡ false) → filter test xs ≡ []
filter-none test [] h = refl
filter-none test (x ∷ xs) h = ap (λ b. cond b (x ∷ filter test xs) (filter test xs)) (h x) ∙ filter-none test xs h

pub tabulate-slice_index : (x : List ℕ) → tabulate (length x) (slice_index x) ≡ x
tabulate-slice_index [] = refl
tabulate-slice_index (r ∷ x) = ap (λ z. r ∷ z) (tabulate-slice_index x)
