-- Boolean identities: the exclusive or of two tests, and identities proved by a table. Two Boolean
-- functions of n tests that agree in each of the 2^n rows are equal at any n tests.
use Rattle.std.proofs.Common.{◌≡◌, ℕ, zero, suc, Bool, true, false, not, ◌&&◌, ◌||◌, refl, sym, arith, eqb}
use Rattle.std.proofs.lemmas.Bool.{and_parts, false≢true, or_parts, not-true}
use mathlib.Core.Bool.{beq}

infixl 30 ◌⊻◌
-- one or the other, not both
abbrev pub ◌⊻◌ : Bool → Bool → Bool
true ⊻ b = not b
false ⊻ b = b

-- the Boolean functions of n tests
abbrev pub Table : ℕ → Type 0
Table zero = Bool
Table (suc n) = Bool → Table n

-- the two agree in each row
abbrev pub agree : (n : ℕ) → Table n → Table n → Bool
agree zero a b = beq a b
agree (suc n) f g = agree n (f true) (g true) && agree n (f false) (g false)

-- the two are equal at any tests
abbrev pub Same : (n : ℕ) → Table n → Table n → Type 0
Same zero a b = a ≡ b
Same (suc n) f g = (b : Bool) → Same n (f b) (g b)

-- tests that compare as equal are equal
pub beq_same : (a b : Bool) → beq a b ≡ true → a ≡ b
beq_same true true h = refl
beq_same true false h = sym h
beq_same false true h = h
beq_same false false h = refl

-- functions that agree in each row are equal
pub same : (n : ℕ) (f g : Table n) → agree n f g ≡ true → Same n f g
same zero a b h = beq_same a b h
same (suc n) f g h =
    elim [
      | true ↦ same n (f true) (g true) (and_parts _ _ h).0
      | false ↦ same n (f false) (g false) (and_parts _ _ h).1
    ]

-- ---- the laws of the exclusive or
-- it is associative
pub xor_assoc : (a b c : Bool) → a ⊻ b ⊻ c ≡ a ⊻ (b ⊻ c)
xor_assoc = same 3 (λ a b c. a ⊻ b ⊻ c) (λ a b c. a ⊻ (b ⊻ c)) refl

-- it is commutative
pub xor_comm : (a b : Bool) → a ⊻ b ≡ b ⊻ a
xor_comm = same 2 (λ a b. a ⊻ b) (λ a b. b ⊻ a) refl

-- the first two of three change places
pub xor_left_comm : (a b c : Bool) → a ⊻ (b ⊻ c) ≡ b ⊻ (a ⊻ c)
xor_left_comm = same 3 (λ a b c. a ⊻ (b ⊻ c)) (λ a b c. b ⊻ (a ⊻ c)) refl

-- a test and itself cancel
pub xor_self : (a : Bool) → a ⊻ a ≡ false
xor_self = same 1 (λ a. a ⊻ a) (λ a. false) refl

-- false adds nothing
pub xor-false : (a : Bool) → a ⊻ false ≡ a
xor-false = same 1 (λ a. a ⊻ false) (λ a. a) refl

-- the middle two of four change places
pub xor_middle : (a b c d : Bool) → (a ⊻ b) ⊻ (c ⊻ d) ≡ (a ⊻ c) ⊻ (b ⊻ d)
xor_middle = same 4 (λ a b c d. (a ⊻ b) ⊻ (c ⊻ d)) (λ a b c d. (a ⊻ c) ⊻ (b ⊻ d)) refl

-- two tests that cancel are the same
pub xor_zero : (a b : Bool) → a ⊻ b ≡ false → a ≡ b
xor_zero a b e = grind arith

-- one of two tests holds if their exclusive or does
pub xor_or : (a b : Bool) → ((a && not b) || (b && not a)) ≡ a ⊻ b
xor_or = same 2 (λ a b. (a && not b) || (b && not a)) (λ a b. a ⊻ b) refl

-- and distributes over it from the left
pub and-xor : (a b c : Bool) → (a && (b ⊻ c)) ≡ (a && b) ⊻ (a && c)
and-xor = same 3 (λ a b c. a && (b ⊻ c)) (λ a b c. (a && b) ⊻ (a && c)) refl

-- and distributes over it from the right
pub xor-and : (a b c : Bool) → ((a ⊻ b) && c) ≡ (a && c) ⊻ (b && c)
xor-and = same 3 (λ a b c. (a ⊻ b) && c) (λ a b c. (a && c) ⊻ (b && c)) refl

-- ---- the laws of and
-- nothing holds together with false
pub and-false : (a : Bool) → (a && false) ≡ false
and-false = same 1 (λ a. a && false) (λ a. false) refl

-- true adds no condition
pub and-true : (a : Bool) → (a && true) ≡ a
and-true = same 1 (λ a. a && true) (λ a. a) refl

-- it is commutative
pub and_comm : (a b : Bool) → (a && b) ≡ (b && a)
and_comm = same 2 (λ a b. a && b) (λ a b. b && a) refl

-- it is associative
pub and_assoc : (a b c : Bool) → ((a && b) && c) ≡ (a && (b && c))
and_assoc = same 3 (λ a b c. (a && b) && c) (λ a b c. a && (b && c)) refl

-- the first two of three change places
pub and_left_comm : (a b c : Bool) → (a && (b && c)) ≡ (b && (a && c))
and_left_comm = same 3 (λ a b c. a && (b && c)) (λ a b c. b && (a && c)) refl

-- ---- premises in a table
-- the second test, if the first holds
abbrev pub implies : Bool → Bool → Bool
implies true b = b
implies false b = true

-- a premise that holds may be dropped
pub given : (a b : Bool) → a ≡ true → implies a b ≡ true → b ≡ true
given true b h i = i
given false b h i = absurd (false≢true h)

-- two tests that imply each other are equal
pub same_test : (a b : Bool) → (a ≡ true → b ≡ true) → (b ≡ true → a ≡ true) → a ≡ b
same_test true b f g = sym (f refl)
same_test false true f g = g refl
same_test false false f g = refl

-- equality of numbers is symmetric
pub eqb_comm : (a b : ℕ) → eqb a b ≡ eqb b a
eqb_comm a b = grind arith

-- two tests of which neither holds
pub neither : (a b : Bool) → not (a || b) ≡ true → (a ≡ false) × (b ≡ false)
neither a b h = or_parts a b (not-true (a || b) h)
