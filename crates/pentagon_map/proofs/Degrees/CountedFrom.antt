-- Ranges of rows counted from one of them: there they are as ranges of numbers.
use Rattle.std.proofs.Common.{Bool, ap, ap₂, arith, cond, false, inl, inr, leb, ltb, not, refl, sym, true, ℕ, ◌&&◌, ◌+◌, ◌-◌, ◌<◌, ◌||◌, ◌∙◌, ◌≡◌, ◌≢◌, ◌≤◌}
use Rattle.std.proofs.lemmas.Bool.{and_from, cases_lt}
use mathlib.Core.Bool.{beq}
use Rattle.f2_algebra.proofs.Chains.Tables.{Table, beq_same, given, implies, same, ◌⊻◌}
use Rattle.rectangles.proofs.Square.CyclicOrder.{between}

-- t counted from b, of n numbers
abbrev pub counted_from : ℕ → ℕ → ℕ → ℕ
counted_from n b t = cond (leb b t) (t - b) (t + (n - b))

pub counted_from-high : (n b t : ℕ) → b ≤ t → counted_from n b t ≡ t - b
counted_from-high n b t h = let e : leb b t ≡ true = grind arith in ap (λ r. cond r (t - b) (t + (n - b))) e

pub counted_from-low : (n b t : ℕ) → t < b → counted_from n b t ≡ t + (n - b)
counted_from-low n b t h = let e : leb b t ≡ false = grind arith in ap (λ r. cond r (t - b) (t + (n - b))) e

pub counted_from-self : (n b : ℕ) → counted_from n b b ≡ 0
counted_from-self n b = let e = counted_from-high n b b (omega arith) in omega arith

pub counted_from-apart : (n b t : ℕ) → b < n → t ≢ b → 0 < counted_from n b t
counted_from-apart n b t l p = elim (cases_lt t b) [
  | inl h ↦ let e = counted_from-low n b t h in omega arith
  | inr h ↦ let e = counted_from-high n b t h in omega arith
]

pub counted_from-one : (n b s t : ℕ) → b < n → s < n → t < n → counted_from n b s ≡ counted_from n b t → s ≡ t
counted_from-one n b s t lb ls lt e = elim (cases_lt s b) [
  | inl h ↦ elim (cases_lt t b) [
    | inl k ↦ let p = counted_from-low n b s h in let q = counted_from-low n b t k in omega arith
    | inr k ↦ let p = counted_from-low n b s h in let q = counted_from-high n b t k in absurd (omega arith)
  ]
  | inr h ↦ elim (cases_lt t b) [
    | inl k ↦ let p = counted_from-high n b s h in let q = counted_from-low n b t k in absurd (omega arith)
    | inr k ↦ let p = counted_from-high n b s h in let q = counted_from-high n b t k in omega arith
  ]
]

-- the order of two, counted from b
abbrev order : Bool → Bool → Bool → Bool
order bx bt xt = cond bx (cond bt xt true) (cond bt false xt)

leb_low : (a b : ℕ) → a ≤ b → leb a b ≡ true
leb_low a b h = grind arith

leb_high : (a b : ℕ) → b < a → leb a b ≡ false
leb_high a b h = grind arith

leb_add : (x t k : ℕ) → leb (x + k) (t + k) ≡ leb x t
leb_add x t k = grind arith

leb_sub : (x t b : ℕ) → b ≤ x → b ≤ t → leb (x - b) (t - b) ≡ leb x t
leb_sub x t b h k = grind arith

leb-counted_from : (n b x t : ℕ) → b < n → x < n → t < n
    → leb (counted_from n b x) (counted_from n b t) ≡ order (leb b x) (leb b t) (leb x t)
leb-counted_from n b x t lb lx lt = elim (cases_lt x b) [
  | inl h ↦ elim (cases_lt t b) [
    | inl k ↦
        ap₂ leb (counted_from-low n b x h) (counted_from-low n b t k) ∙ leb_add x t (n - b)
        ∙ sym (λ i. order (leb_high b x h i) (leb_high b t k i) (leb x t))
    | inr k ↦
        ap₂ leb (counted_from-low n b x h) (counted_from-high n b t k) ∙ leb_high (x + (n - b)) (t - b) (omega arith)
        ∙ sym (λ i. order (leb_high b x h i) (leb_low b t k i) (leb x t))
  ]
  | inr h ↦ elim (cases_lt t b) [
    | inl k ↦
        ap₂ leb (counted_from-high n b x h) (counted_from-low n b t k) ∙ leb_low (x - b) (t + (n - b)) (omega arith)
        ∙ sym (λ i. order (leb_low b x h i) (leb_high b t k i) (leb x t))
    | inr k ↦
        ap₂ leb (counted_from-high n b x h) (counted_from-high n b t k) ∙ leb_sub x t b h k
        ∙ sym (λ i. order (leb_low b x h i) (leb_low b t k i) (leb x t))
  ]
]

abbrev held : Bool → Bool → Bool → Bool
held bx bt xt = (not (bx && not bt) || not xt) && (not (not bx && bt) || xt)

held_is : (b x t : ℕ) → held (leb b x) (leb b t) (leb x t) ≡ true
held_is b x t = grind arith

ltb_is : (x y : ℕ) → ltb y x ≡ not (leb x y)
ltb_is x y = grind arith

turned_table : Table 6
turned_table bx by bt xt yt xy =
    implies (held bx bt xt && (held by bt yt && held bx by xy))
    (beq (order bx bt xt ⊻ order by bt yt ⊻ not (order bx by xy)) (xt ⊻ yt ⊻ not xy))

turned_holds : (bx by bt xt yt xy : Bool) → turned_table bx by bt xt yt xy ≡ true
unfolding turned_table
turned_holds = same 6 turned_table (λ bx by bt xt yt xy. true) refl

pub between-counted_from : (n b x y t : ℕ) → b < n → x < n → y < n → t < n
    → between (counted_from n b x) (counted_from n b y) (counted_from n b t) ≡ between x y t
unfolding turned_table
between-counted_from n b x y t lb lx ly lt =
    (λ i. leb-counted_from n b x t lb lx lt i ⊻ leb-counted_from n b y t lb ly lt i
    ⊻ (ltb_is (counted_from n b x) (counted_from n b y) ∙ ap not (leb-counted_from n b x y lb lx ly)) i)
    ∙ beq_same _ _ (given _ _ (and_from _ _ (held_is b x t) (and_from _ _ (held_is b y t) (held_is b x y)))
    (turned_holds (leb b x) (leb b y) (leb b t) (leb x t) (leb y t) (leb x y)))
    ∙ sym (λ i. leb x t ⊻ leb y t ⊻ ltb_is x y i)
