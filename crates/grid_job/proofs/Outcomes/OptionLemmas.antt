-- The options of `make`: where an option stands, its value and its end are known, so words ask for one size and seed.
use Rattle.std.proofs.Common.{◌≡◌, ◌⊎◌, ℕ, ◌^◌, ◌<◌, ◌≤◌, List, ◌++◌, length, slice_index, codes, sym, ap, subst, ◌∙◌, inl, inr, arith}
use Rattle.std.specs.Fmt.{decimal}
use Rattle.std.proofs.lemmas.Fmt.{decimal_injective}
use Rattle.std.proofs.lemmas.List.{append_cancel_left, length-append}
use Rattle.state_rank.specs.Bijection.{IsSize}
use Rattle.grid_job.specs.Words.{word_at, flag_word, greatest_value, IsOneWord, IsTwoWords, IsOptionAt, AreOptions, IsMake}
use Rattle.grid_job.specs.declared.words.Flag.{Flag}
use Rattle.grid_job.specs.declared.words.Flag.TheVariants.{Size, Seed}

-- ---- one value and one end
small : (flag : Flag) (v : ℕ) → v ≤ greatest_value flag → v < 2 ^ 64
small Size v le = omega (arith, le)
small Seed v le = omega (arith, le)

longer : (f w d : List ℕ) → w ≡ f ++ codes "=" ++ d → w ≡ f → ⊥
longer f w d long short =
    let e = ap length long in
    let s = ap length short in
    omega (arith, e, s, length-append (f ++ codes "=") d, length-append f (codes "="))

module _ (ws : List (List ℕ)) (k : ℕ) (flag : Flag) (v u next other : ℕ) where
  one_option : (v ≤ greatest_value flag) → (u ≤ greatest_value flag)
      → IsOneWord ws k flag v next ⊎ IsTwoWords ws k flag v next
      → IsOneWord ws k flag u other ⊎ IsTwoWords ws k flag u other → (v ≡ u) × (next ≡ other)
  one_option lv lu (inl p) (inl q) = (
    decimal_injective v u (small flag v lv) (small flag u lu)
        (append_cancel_left (flag_word flag ++ codes "=") (decimal v) (decimal u) (sym p.word ∙ q.word)),
    p.after ∙ sym q.after,
  )
  one_option lv lu (inl p) (inr q) = absurd (longer (flag_word flag) (word_at ws k) (decimal v) p.word q.first)
  one_option lv lu (inr p) (inl q) = absurd (longer (flag_word flag) (word_at ws k) (decimal u) q.word p.first)
  one_option lv lu (inr p) (inr q) = (
    decimal_injective v u (small flag v lv) (small flag u lu) (sym p.second ∙ q.second),
    p.after ∙ sym q.after,
  )

  pub IsOptionAt-one : IsOptionAt ws k flag v next → IsOptionAt ws k flag u other → (v ≡ u) × (next ≡ other)
  IsOptionAt-one p q = one_option p.high q.high p.words q.words

-- the second option stands where the first ends
pub second_option : (ws : List (List ℕ)) (f g : Flag) (a b c between : ℕ) → IsOptionAt ws 1 f c between
    → AreOptions ws f a g b → IsOptionAt ws between g b (length ws)
second_option ws f g a b c between first h =
    let ends = (IsOptionAt-one ws 1 f a c h.between between h.first first).1 in
    subst (λ n. IsOptionAt ws n g b (length ws)) ends h.second

pub AreOptions-one : (ws : List (List ℕ)) (f g : Flag) (a b c d : ℕ) → AreOptions ws f a g b → AreOptions ws f c g d
    → (a ≡ c) × (b ≡ d)
AreOptions-one ws f g a b c d p q =
    let first = IsOptionAt-one ws 1 f a c p.between q.between p.first q.first in
    let second = second_option ws f g c d a p.between p.first q in
    (first.0, (IsOptionAt-one ws p.between g b d (length ws) (length ws) p.second second).0)

-- ---- one size and one seed
-- the byte that tells the options apart
told_apart : (ws : List (List ℕ)) (v next : ℕ) → IsOptionAt ws 1 Size v next → slice_index (word_at ws 1) 3 ≡ 105
told_apart ws v next h = told h.words
  where
    told : IsOneWord ws 1 Size v next ⊎ IsTwoWords ws 1 Size v next → slice_index (word_at ws 1) 3 ≡ 105
    told (inl p) = ap (λ w. slice_index w 3) p.word
    told (inr p) = ap (λ w. slice_index w 3) p.first

told_apart_too : (ws : List (List ℕ)) (v next : ℕ) → IsOptionAt ws 1 Seed v next → slice_index (word_at ws 1) 3 ≡ 101
told_apart_too ws v next h = told h.words
  where
    told : IsOneWord ws 1 Seed v next ⊎ IsTwoWords ws 1 Seed v next → slice_index (word_at ws 1) 3 ≡ 101
    told (inl p) = ap (λ w. slice_index w 3) p.word
    told (inr p) = ap (λ w. slice_index w 3) p.first

not_both : (ws : List (List ℕ)) (a b c d : ℕ) → AreOptions ws Size a Seed b → AreOptions ws Seed c Size d → ⊥
not_both ws a b c d p q =
    let size = told_apart ws a p.between p.first in
    let seed = told_apart_too ws c q.between q.first in
    let bad : 105 ≡ 101 = sym size ∙ seed in
    absurd (omega (arith, bad))

pub IsMake-one : (ws : List (List ℕ)) (n m s t : ℕ) → IsMake ws n s → IsMake ws m t → (n ≡ m) × (s ≡ t)
IsMake-one ws n m s t p q = one p.options q.options
  where
    one : AreOptions ws Size n Seed s ⊎ AreOptions ws Seed s Size n
        → AreOptions ws Size m Seed t ⊎ AreOptions ws Seed t Size m → (n ≡ m) × (s ≡ t)
    one (inl a) (inl b) = AreOptions-one ws Size Seed n s m t a b
    one (inl a) (inr b) = absurd (not_both ws n s t m a b)
    one (inr a) (inl b) = absurd (not_both ws m t s n b a)
    one (inr a) (inr b) = let same = AreOptions-one ws Seed Size s n t m a b in (same.1, same.0)

-- ---- the bounds of the numbers
pub IsMake-size : (ws : List (List ℕ)) (n s : ℕ) → IsMake ws n s → IsSize n
IsMake-size ws n s h = bounds h.options
  where
    bounds : AreOptions ws Size n Seed s ⊎ AreOptions ws Seed s Size n → IsSize n
    bounds (inl p) = record { least = p.first.low; greatest = p.first.high }
    bounds (inr p) = record { least = p.second.low; greatest = p.second.high }

pub IsMake-seed : (ws : List (List ℕ)) (n s : ℕ) → IsMake ws n s → s < 2 ^ 31
IsMake-seed ws n s h = bounds h.options
  where
    bounds : AreOptions ws Size n Seed s ⊎ AreOptions ws Seed s Size n → s < 2 ^ 31
    bounds (inl p) = let high = p.second.high in omega (arith, high)
    bounds (inr p) = let high = p.first.high in omega (arith, high)
