-- The dimension of cycles modulo boundaries over the field of two elements, for chains of any type.
--     Sums A                          the empty chain, and the sum of two chains
--     total S zs                      the sum of the chains of a list
--     ExactlyOne P                    one thing has the property P, and no other
--     Represents S B hs z subset      a subset of hs, by one truth value for each of them: its sum differs from z by a
--                                     boundary
--     IsBasis S C B hs                the hs are cycles, and each cycle is represented by exactly one subset of them
--     IsDimension S C B d             there are d such cycles
use Rattle.std.specs.Prelude.{◌≡◌, ℕ, Bool, List, [], ◌∷◌, length}
use Rattle.std.specs.List.{All, items_where_true}

pub record Sums (A : Type 0) : Type 0 where
  pub nothing : A
  pub add : A → A → A

abbrev pub total : {A : Type 0} → Sums A → List A → A
total S [] = S.nothing
total S (z ∷ zs) = S.add z (total S zs)

abbrev pub ExactlyOne : {A : Type 0} → (A → Type 0) → Type 0
ExactlyOne {A} P = (a : A) × P a × ((b : A) → P b → b ≡ a)

abbrev pub Represents : {A : Type 0} → Sums A → (A → Type 0) → List A → A → List Bool → Type 0
Represents S IsBoundary hs z subset =
    (length subset ≡ length hs) × IsBoundary (S.add z (total S (items_where_true subset hs)))

pub record IsBasis {A : Type 0} (S : Sums A) (IsCycle IsBoundary : A → Type 0) (hs : List A) : Type 0 where
  pub cycles : All IsCycle hs
  pub one_subset : (z : A) → IsCycle z → ExactlyOne (Represents S IsBoundary hs z)

abbrev pub IsDimension : {A : Type 0} → Sums A → (A → Type 0) → (A → Type 0) → ℕ → Type 0
IsDimension {A} S IsCycle IsBoundary d = (hs : List A) × IsBasis S IsCycle IsBoundary hs × (length hs ≡ d)
