-- Chains as a vector space over the field of two elements, and sums over the codes of a chain.
use Rattle.std.proofs.Common.{◌≡◌, ℕ, Bool, true, false, cond, ◌&&◌, eqb, List, [], ◌∷◌, map, refl, sym, ap, ap₂, ◌∙◌, arith, ◌++◌}
use Rattle.std.proofs.lemmas.Simd.{map-map}
use Rattle.f2_algebra.specs.Chain.{of_codes, Chain, holds, codes, nothing, single, ◌⊕◌, total, sum_over, pairs_oddly, where_code}
use Rattle.f2_algebra.proofs.Chains.Tables.{◌⊻◌, xor-false, xor_self, xor_comm, xor_assoc, xor-and}
use Rattle.f2_algebra.proofs.Chains.Sets.{same_chain, holds-nothing, holds-single, holds-add, holds-where_code, parity, weight, weight-add, weight-single, weight-nothing, weight-same, weight-xor, weight-at, weight-list, weight-of_codes, parity-same, IsApart, pairs_oddly-weight}

-- ---- the laws of the sum
-- the sum is commutative
pub add_comm : (z w : Chain) → z ⊕ w ≡ w ⊕ z
add_comm z w = same_chain _ _ (λ q. holds-add z w q ∙ xor_comm (holds z q) (holds w q) ∙ sym (holds-add w z q))

-- the sum is associative
pub add_assoc : (z w u : Chain) → (z ⊕ w) ⊕ u ≡ z ⊕ (w ⊕ u)
add_assoc z w u = same_chain _ _ (λ q.
    holds-add (z ⊕ w) u q ∙ ap (λ b. b ⊻ holds u q) (holds-add z w q)
    ∙ xor_assoc (holds z q) (holds w q) (holds u q)
    ∙ sym (holds-add z (w ⊕ u) q ∙ ap (λ b. holds z q ⊻ b) (holds-add w u q)))

-- a chain and itself cancel
pub add_self : (z : Chain) → z ⊕ z ≡ nothing
add_self z = same_chain _ _ (λ q. holds-add z z q ∙ xor_self (holds z q) ∙ sym (holds-nothing q))

-- the empty chain adds nothing
pub add-nothing : (z : Chain) → z ⊕ nothing ≡ z
add-nothing z =
    same_chain _ _ (λ q. holds-add z nothing q ∙ ap (λ b. holds z q ⊻ b) (holds-nothing q) ∙ xor-false (holds z q))

-- nor from the left
pub nothing-add : (z : Chain) → nothing ⊕ z ≡ z
nothing-add z = add_comm nothing z ∙ add-nothing z

-- the middle two of four change places
pub add_swap : (z w u v : Chain) → (z ⊕ w) ⊕ (u ⊕ v) ≡ (z ⊕ u) ⊕ (w ⊕ v)
add_swap z w u v = add_assoc z w (u ⊕ v)
    ∙ ap (λ c. z ⊕ c) (sym (add_assoc w u v) ∙ ap (λ c. c ⊕ v) (add_comm w u) ∙ add_assoc u w v)
    ∙ sym (add_assoc z u (w ⊕ v))

-- z ⊕ (z ⊕ w) is w
pub add_back : (z w : Chain) → z ⊕ (z ⊕ w) ≡ w
add_back z w = sym (add_assoc z z w) ∙ ap (λ c. c ⊕ w) (add_self z) ∙ nothing-add w

-- chains whose sum is empty are equal
pub same_of_sum : (z w : Chain) → z ⊕ w ≡ nothing → z ≡ w
same_of_sum z w e = sym (add-nothing z) ∙ ap (λ c. z ⊕ c) (sym e) ∙ add_back z w

-- ---- a chain taken once or not at all
-- what it holds
pub holds-when : (b : Bool) (z : Chain) (q : ℕ) → holds (cond b z nothing) q ≡ (b && holds z q)
holds-when true z q = refl
holds-when false z q = holds-nothing q

-- twice is not at all
pub when-xor : (a b : Bool) (z : Chain) → cond (a ⊻ b) z nothing ≡ cond a z nothing ⊕ cond b z nothing
when-xor true true z = sym (add_self z)
when-xor true false z = sym (add-nothing z)
when-xor false b z = sym (nothing-add _)

-- a sum taken once or not at all
pub when-add : (b : Bool) (z w : Chain) → cond b (z ⊕ w) nothing ≡ cond b z nothing ⊕ cond b w nothing
when-add true z w = refl
when-add false z w = sym (add-nothing _)

-- its weight
pub weight-when : (p : ℕ → Bool) (b : Bool) (z : Chain) → weight p (cond b z nothing) ≡ (b && weight p z)
weight-when p true z = refl
weight-when p false z = weight-nothing p

-- ---- linear maps
-- f carries sums to sums
abbrev pub IsLinear : (Chain → Chain) → Type 0
IsLinear f = (z w : Chain) → f (z ⊕ w) ≡ f z ⊕ f w

-- a linear map carries the empty chain to itself
pub linear-nothing : (f : Chain → Chain) → IsLinear f → f nothing ≡ nothing
linear-nothing f l = ap f (sym (add_self nothing)) ∙ l nothing nothing ∙ add_self (f nothing)

-- a linear map of a chain taken once or not at all
pub linear-when : (f : Chain → Chain) → IsLinear f → (b : Bool) (z : Chain)
    → f (cond b z nothing) ≡ cond b (f z) nothing
linear-when f l true z = refl
linear-when f l false z = linear-nothing f l

linear-total : (f : Chain → Chain) → IsLinear f → (zs : List Chain) → f (total zs) ≡ total (map f zs)
linear-total f l [] = linear-nothing f l
linear-total f l (z ∷ zs) = l z (total zs) ∙ ap (λ c. f z ⊕ c) (linear-total f l zs)

-- ---- sums over the codes of a chain
weight-total : (p : ℕ → Bool) (f : ℕ → Chain) (xs : List ℕ)
    → weight p (total (map f xs)) ≡ parity (λ s. weight p (f s)) xs
weight-total p f [] = weight-nothing p
weight-total p f (x ∷ xs) = weight-add p (f x) (total (map f xs)) ∙ ap (λ b. weight p (f x) ⊻ b) (weight-total p f xs)

-- the weight of a sum is the weight of the weights
pub weight-sum_over : (p : ℕ → Bool) (z : Chain) (f : ℕ → Chain)
    → weight p (sum_over z f) ≡ weight (λ s. weight p (f s)) z
unfolding sum_over
weight-sum_over p z f = weight-total p f (codes z) ∙ sym (weight-list _ z)

-- a sum holds q if an odd number of its terms do
pub holds-sum_over : (z : Chain) (f : ℕ → Chain) (q : ℕ) → holds (sum_over z f) q ≡ weight (λ s. holds (f s) q) z
holds-sum_over z f q =
    sym (weight-at (sum_over z f) q) ∙ weight-sum_over (λ s. eqb q s) z f ∙ weight-same _ _ z (λ s _. weight-at (f s) q)

-- the sum over a sum of chains
pub sum_over-add : (z w : Chain) (f : ℕ → Chain) → sum_over (z ⊕ w) f ≡ sum_over z f ⊕ sum_over w f
sum_over-add z w f = same_chain _ _ (λ q.
    holds-sum_over (z ⊕ w) f q ∙ weight-add _ z w
    ∙ sym (holds-add (sum_over z f) (sum_over w f) q ∙ ap₂ ◌⊻◌ (holds-sum_over z f q) (holds-sum_over w f q)))

-- the sum over a single code is its term
pub sum_over-single : (s : ℕ) (f : ℕ → Chain) → sum_over (single s) f ≡ f s
sum_over-single s f = same_chain _ _ (λ q. holds-sum_over (single s) f q ∙ weight-single _ s)

-- terms that agree on a chain have one sum over it
pub sum_over-same : (z : Chain) (f g : ℕ → Chain) → ((s : ℕ) → holds z s ≡ true → f s ≡ g s)
    → sum_over z f ≡ sum_over z g
sum_over-same z f g e =
    same_chain _ _ (λ q. holds-sum_over z f q ∙ weight-same _ _ z (λ s h. ap (λ c. holds c q) (e s h))
    ∙ sym (holds-sum_over z g q))

-- a chain is the sum of its codes
pub sum_over-singles : (z : Chain) → sum_over z single ≡ z
sum_over-singles z =
    same_chain _ _ (λ q. holds-sum_over z single q ∙ weight-same _ _ z (λ s _. holds-single s q) ∙ weight-at z q)

-- a linear map of a sum is the sum of its values
pub linear-sum_over : (f : Chain → Chain) → IsLinear f → (z : Chain) (g : ℕ → Chain)
    → f (sum_over z g) ≡ sum_over z (λ s. f (g s))
unfolding sum_over
linear-sum_over f l z g = linear-total f l (map g (codes z)) ∙ ap total (map-map f g (codes z))

-- two linear maps that agree at the codes of a chain agree at the chain
pub linear-agree : (f g : Chain → Chain) → IsLinear f → IsLinear g → (z : Chain)
    → ((s : ℕ) → holds z s ≡ true → f (single s) ≡ g (single s)) → f z ≡ g z
linear-agree f g lf lg z e =
    ap f (sym (sum_over-singles z)) ∙ linear-sum_over f lf z single
    ∙ sum_over-same z _ _ e
    ∙ sym (linear-sum_over g lg z single) ∙ ap g (sum_over-singles z)

-- ---- other linear words
-- the part of a sum by a test is the sum of the parts
pub where_code-add : (p : ℕ → Bool) (z w : Chain) → where_code p (z ⊕ w) ≡ where_code p z ⊕ where_code p w
where_code-add p z w = same_chain _ _ (λ q.
    holds-where_code p (z ⊕ w) q ∙ ap (λ b. b && p q) (holds-add z w q) ∙ xor-and (holds z q) (holds w q) (p q)
    ∙ sym (holds-add (where_code p z) (where_code p w) q ∙ ap₂ ◌⊻◌ (holds-where_code p z q) (holds-where_code p w q)))

-- a cochain pairs with a sum as with each of the two, by exclusive or
pub pairs_oddly-add : (z w f : Chain) → pairs_oddly (z ⊕ w) f ≡ (pairs_oddly z f ⊻ pairs_oddly w f)
pairs_oddly-add z w f = pairs_oddly-weight (z ⊕ w) f ∙ weight-add (holds f) z w
    ∙ sym (ap₂ ◌⊻◌ (pairs_oddly-weight z f) (pairs_oddly-weight w f))

-- the weight of being the code s
pub weight-singles : (s : ℕ) (z : Chain) → weight (λ t. holds (single s) t) z ≡ holds z s
weight-singles s z = weight-same _ _ z (λ t _. holds-single s t ∙ flipped t s) ∙ weight-at z s
  where
    flipped : (a b : ℕ) → eqb a b ≡ eqb b a
    flipped a b = grind arith

-- a chain pairs with a single code as it holds it
pub pairs_oddly-single : (s : ℕ) (z : Chain) → pairs_oddly z (single s) ≡ holds z s
pairs_oddly-single s z = pairs_oddly-weight z (single s) ∙ weight-singles s z

-- the sum of sums of two terms is the sum of both sums
pub sum_over_both : (z : Chain) (f g : ℕ → Chain) → sum_over z (λ s. f s ⊕ g s) ≡ sum_over z f ⊕ sum_over z g
sum_over_both z f g =
    same_chain _ _ (λ q.
    holds-sum_over z (λ s. f s ⊕ g s) q ∙ weight-same _ _ z (λ s _. holds-add (f s) (g s) q) ∙ weight-xor _ _ z
    ∙ sym (holds-add (sum_over z f) (sum_over z g) q ∙ ap₂ ◌⊻◌ (holds-sum_over z f q) (holds-sum_over z g q)))

-- a sum over the set of a list of distinct codes
pub sum_over-list : (xs : List ℕ) → IsApart xs → (f : ℕ → Chain) → sum_over (of_codes xs) f ≡ total (map f xs)
sum_over-list xs apart f =
    same_chain _ _ (λ q.
    holds-sum_over (of_codes xs) f q ∙ weight-of_codes (λ s. holds (f s) q) xs apart
    ∙ sym (sym (weight-at (total (map f xs)) q) ∙ weight-total (λ s. eqb q s) f xs
    ∙ parity-same _ _ xs (λ s _. weight-at (f s) q)))

-- the sum of a list with one more chain
pub total-push : (zs : List Chain) (z : Chain) → total (zs ++ z ∷ []) ≡ total zs ⊕ z
total-push [] z = add-nothing z ∙ sym (nothing-add z)
total-push (w ∷ zs) z = ap (λ u. w ⊕ u) (total-push zs z) ∙ sym (add_assoc w (total zs) z)
