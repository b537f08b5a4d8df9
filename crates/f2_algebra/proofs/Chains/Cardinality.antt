-- How many codes a chain has.
use Rattle.std.proofs.Common.{◌≡◌, ℕ, zero, suc, ◌+◌, ◌<◌, Bool, true, false, not, cond, ◌&&◌, ◌||◌, eqb, List, [], ◌∷◌, length, inl, inr, refl, sym, ap, ap₂, ◌∙◌, arith}
use Rattle.std.proofs.lemmas.Bool.{eqb-true, ne_eqb, eq-eqb, true≢false, cases_eq}
use Rattle.f2_algebra.specs.Chain.{Chain, holds, codes, of_codes, where_code}
use Rattle.f2_algebra.proofs.Chains.Tables.{and-false}
use Rattle.f2_algebra.proofs.Chains.Sets.{any, holds-codes, holds-of_codes, same_chain, holds-where_code, lt-ne, IsApart, IsApart-codes, or-right, above, above-lt, bound, and-true}

-- ---- how many codes a chain has
tally : ℕ → (ℕ → Bool) → ℕ
tally zero g = 0
tally (suc n) g = cond (g n) 1 0 + tally n g

tally-same : (n : ℕ) (g h : ℕ → Bool) → ((k : ℕ) → k < n → g k ≡ h k) → tally n g ≡ tally n h
unfolding tally
tally-same zero g h e = refl
tally-same (suc n) g h e = ap₂ (λ a b. cond a 1 0 + b) (e n (omega arith)) (tally-same n g h (λ k l. e k (omega arith)))

tally-none : (n : ℕ) → tally n (λ k. false) ≡ 0
unfolding tally
tally-none zero = refl
tally-none (suc n) = omega (arith, tally-none n)

tally-more : (n x : ℕ) (g : ℕ → Bool) → g x ≡ false → x < n → tally n (λ k. eqb k x || g k) ≡ suc (tally n g)
unfolding tally
tally-more zero x g h l = absurd (omega arith)
tally-more (suc n) x g h l = elim (cases_eq x n) [
  | inl e ↦
      let new : g n ≡ false = ap g (sym e) ∙ h in
      let mid : 1 + tally n g ≡ suc (0 + tally n g) = omega arith in
      ap₂ (λ a b. cond (a || g n) 1 0 + b) (eq-eqb n x (sym e))
      (tally-same n _ g (λ k m. ap (λ a. a || g k) (ne_eqb k x (λ s. omega arith))))
      ∙ mid ∙ ap (λ a. suc (cond a 1 0 + tally n g)) (sym new)
  | inr d ↦
      let rest = tally-more n x g h (omega arith) in
      let old : eqb n x ≡ false = ne_eqb n x (λ s. d (sym s)) in
      ap₂ (λ a b. cond (a || g n) 1 0 + b) old rest ∙ omega arith
]

length-tally : (xs : List ℕ) (n : ℕ) → IsApart xs → ((s : ℕ) → any s xs ≡ true → s < n)
    → length xs ≡ tally n (λ k. any k xs)
length-tally [] n d l = sym (tally-none n)
length-tally (x ∷ xs) n d l =
    ap suc (length-tally xs n d.1 (λ s a. l s (or-right (eqb s x) a)))
    ∙ sym (tally-more n x (λ k. any k xs) d.0 (l x (ap (λ b. b || any x xs) (eq-eqb x x refl))))

-- the number of codes of a chain
pub cardinality : Chain → ℕ
cardinality z = length (codes z)

-- it is the length of the list of codes
pub cardinality-length : (z : Chain) → cardinality z ≡ length (codes z)
unfolding cardinality
cardinality-length z = refl

cardinality-tally : (z : Chain) (n : ℕ) → ((s : ℕ) → holds z s ≡ true → s < n) → cardinality z ≡ tally n (holds z)
unfolding cardinality
cardinality-tally z n l = length-tally (codes z) n (IsApart-codes z) (λ s a. l s (holds-codes z s ∙ a))
    ∙ tally-same n _ _ (λ k _. sym (holds-codes z k))

-- the set of a list of distinct codes has as many codes as the list
pub cardinality-of_codes : (xs : List ℕ) → IsApart xs → cardinality (of_codes xs) ≡ length xs
cardinality-of_codes xs lt-ne =
    let n = above xs in
    cardinality-tally (of_codes xs) n (λ s h. above-lt xs s (sym (holds-of_codes xs s) ∙ h))
    ∙ tally-same n _ _ (λ k _. holds-of_codes xs k)
    ∙ sym (length-tally xs n lt-ne (λ s a. above-lt xs s a))

back_in : (h e : Bool) → (e ≡ true → h ≡ true) → (e || (h && not e)) ≡ h
back_in h true f = sym (f refl)
back_in true false f = refl
back_in false false f = refl

kept_all : (h e : Bool) → (e ≡ true → h ≡ false) → (h && not e) ≡ h
kept_all true true f = absurd (true≢false (f refl))
kept_all false e f = refl
kept_all true false f = refl

-- without the code s there is one code less, if it was there
pub cardinality-without : (z : Chain) (s : ℕ)
    → cardinality z ≡ cardinality (where_code (λ t. not (eqb t s)) z) + cond (holds z s) 1 0
cardinality-without z s = by_test (holds z s) refl
  where
    by_test : (b : Bool) → holds z s ≡ b → cardinality z ≡ cardinality (where_code (λ t. not (eqb t s)) z) + cond b 1 0
    by_test true h =
        let w = where_code (λ t. not (eqb t s)) z in
        let n = above (codes z) in
        let in_w : (t : ℕ) → holds w t ≡ (holds z t && not (eqb t s)) = λ t. holds-where_code _ z t in
        let up : cardinality z ≡ suc (cardinality w) =
        cardinality-tally z n (bound z)
        ∙ tally-same n (holds z) (λ k. eqb k s || holds w k)
        (λ k _. sym (ap (λ b. eqb k s || b) (in_w k) ∙ back_in (holds z k) (eqb k s)
        (λ e. ap (holds z) (eqb-true k s e) ∙ h)))
        ∙ tally-more n s (holds w) (in_w s ∙ ap (λ b. holds z s && not b) (eq-eqb s s refl) ∙ and-false (holds z s))
        (bound z s h)
        ∙ ap suc (sym (cardinality-tally w n (λ t i. bound z t
        (and-true (holds z t) (not (eqb t s)) (sym (in_w t) ∙ i)))))
        in
        omega arith
    by_test false h =
        ap cardinality (same_chain z (where_code (λ t. not (eqb t s)) z)
        (λ q. sym (holds-where_code _ z q ∙ kept_all (holds z q) (eqb q s)
        (λ e. ap (holds z) (eqb-true q s e) ∙ h))))
        ∙ omega arith
