-- The lines of a certificate: none has a line feed in it, and each tells what it is made of.
use Rattle.std.proofs.Common.{◌≡◌, ◌≢◌, ℕ, suc, ◌<◌, ◌≤◌, ◌^◌, List, [], ◌∷◌, ◌++◌, length, codes, ℤ, pos, negsuc, All, refl, sym, ap, ap₂, ◌∙◌, arith, length-append, append_assoc}
use Rattle.std.specs.List.{flat_map}
use Rattle.std.specs.Fmt.{decimal, signed_decimal}
use Rattle.std.specs.Char.{digit_value}
use Rattle.std.specs.Str.Parse.{AllDigits}
use Rattle.std.specs.Int.Signed.{mag}
use Rattle.std.proofs.lemmas.Int.{ints}
use Rattle.std.proofs.lemmas.Fmt.{decimal_is_IsNumeral, decimal_digit, decimal_injective, signed_decimal_injective}
use Rattle.std.proofs.lemmas.List.{append_cancel_left}
use Rattle.f2_algebra.specs.Chain.{Chain, codes as ranks}
use Rattle.f2_algebra.proofs.Chains.Sets.{any, same_chain, holds-codes}
use Rattle.state_rank.specs.States.{factorial, unrank, rank, state_word}
use Rattle.state_rank.proofs.RankLemmas.{length-unrank, rank-unrank}
use Rattle.state_rank.proofs.WordLemmas.{state_word_injective, length-state_word}
use Rattle.gradings.specs.Degrees.{IsSmallDegree}
use Rattle.homology_cert.specs.Certificates.{AreSmallDegrees}
use Rattle.homology_cert.specs.CertificateText.{marks_line, degree_line}
use Rattle.text_lines.specs.Inner.CodeLines.{set_line}
use Rattle.homology_cert.specs.Inner.Reading.{IsFree}

-- ---- two lists in parts
-- first parts of one length are the same, and so are the rest
pub append-parts : (a b xs ys : List ℕ) → length a ≡ length b → a ++ xs ≡ b ++ ys → (a ≡ b) × (xs ≡ ys)
append-parts [] [] xs ys l e = (refl, e)
append-parts [] (y ∷ b) xs ys l e = absurd (omega arith)
append-parts (x ∷ a) [] xs ys l e = absurd (omega arith)
append-parts (x ∷ a) (y ∷ b) xs ys l e =
    let head : x ≡ y = cc in
    let tail : a ++ xs ≡ b ++ ys = cc in
    let rest = append-parts a b xs ys (omega arith) tail in
    (ap₂ (λ p q. p ∷ q) head rest.0, rest.1)

-- pieces of one length, each of which tells what it is made of
pub flat_map-injective : {A : Type 0} (f : A → List ℕ) (k : ℕ) (P : A → Type 0) → ((x : A) → P x → length (f x) ≡ suc k)
    → ((x y : A) → P x → P y → f x ≡ f y → x ≡ y)
    → (xs ys : List A) → All P xs → All P ys → flat_map f xs ≡ flat_map f ys → xs ≡ ys
flat_map-injective f k P long apart [] [] p q e = refl
flat_map-injective f k P long apart [] (y ∷ ys) p q e =
    let l = ap length e in
    let m = long y (q 0 y (omega arith)) in
    absurd (omega (arith, length-append (f y) (flat_map f ys)))
flat_map-injective f k P long apart (x ∷ xs) [] p q e =
    let l = ap length e in
    let m = long x (p 0 x (omega arith)) in
    absurd (omega (arith, length-append (f x) (flat_map f xs)))
flat_map-injective f k P long apart (x ∷ xs) (y ∷ ys) p q e =
    let px = p 0 x (omega arith) in
    let py = q 0 y (omega arith) in
    let parts = append-parts (f x) (f y) (flat_map f xs) (flat_map f ys) (long x px ∙ sym (long y py)) e in
    ap₂ (λ h t. h ∷ t) (apart x y px py parts.0)
    (flat_map-injective f k P long apart xs ys (λ i d l. p (suc i) d (omega arith)) (λ i d l. q (suc i) d (omega arith))
    parts.1)

-- ---- sets of states
pub set_line-injective : (word : List ℕ) (n : ℕ) (z w : Chain) → All (λ s. s < factorial n) (ranks z)
    → All (λ s. s < factorial n) (ranks w)
    → set_line word n z ≡ set_line word n w → z ≡ w
set_line-injective word n z w p q e =
    let same = flat_map-injective (λ s. 32 ∷ state_word (unrank n s)) n (λ s. s < factorial n)
    (λ s l. ap suc (length-state_word (unrank n s) ∙ length-unrank n s l))
    (λ s t l m h.
    let tail : state_word (unrank n s) ≡ state_word (unrank n t) = cc in
    sym (rank-unrank n s l) ∙ ap rank (state_word_injective (unrank n s) (unrank n t) tail) ∙ rank-unrank n t m)
    (ranks z) (ranks w) p q (append_cancel_left word _ _ e) in
    same_chain z w (λ s. holds-codes z s ∙ ap (any s) same ∙ sym (holds-codes w s))

-- ---- marks
pub marks_line-injective : (word o p : List ℕ) → All (λ r. r < 10) o → All (λ r. r < 10) p
    → marks_line word o ≡ marks_line word p → o ≡ p
marks_line-injective word o p small_o small_p e =
    flat_map-injective (λ r. 32 ∷ decimal r) 1 (λ r. r < 10)
    (λ r l. ap (λ t. suc (length t)) (decimal_digit r l))
    (λ r s l m h. let tail : decimal r ≡ decimal s = cc in decimal_injective r s (omega arith) (omega arith) tail)
    o p small_o small_p (append_cancel_left word _ _ e)

-- ---- numbers
free-digits : (b : ℕ) → 10 ≤ digit_value b → (ds : List ℕ) → AllDigits 10 ds → IsFree b ds
free-digits b other [] h = tt
free-digits b other (c ∷ cs) h =
    (λ e. let same = ap digit_value e in omega (arith, h.0, same, other), free-digits b other cs h.1)

pub free-decimal : (b n : ℕ) → 10 ≤ digit_value b → n < 2 ^ 64 → IsFree b (decimal n)
free-decimal b n other l = free-digits b other (decimal n) (decimal_is_IsNumeral n l).0.1

pub free-signed : (b : ℕ) (z : ℤ) → 10 ≤ digit_value b → b ≢ 45 → mag z < 2 ^ 63 → IsFree b (signed_decimal z)
free-signed b (pos n) other minus l = free-decimal b n other (omega arith)
free-signed b (negsuc n) other minus l = ((λ e. minus (sym e)), free-decimal b (suc n) other (omega arith))

-- a list up to a byte that it has not is told by what stands before the byte
pub split_at_free : (b : ℕ) (xs ys us vs : List ℕ) → IsFree b xs → IsFree b ys → xs ++ b ∷ us ≡ ys ++ b ∷ vs → (xs ≡ ys)
    × (us ≡ vs)
split_at_free b [] [] us vs p q e = let tail : us ≡ vs = cc in (refl, tail)
split_at_free b [] (y ∷ ys) us vs p q e = let head : b ≡ y = cc in absurd (q.0 (sym head))
split_at_free b (x ∷ xs) [] us vs p q e = let head : x ≡ b = cc in absurd (p.0 head)
split_at_free b (x ∷ xs) (y ∷ ys) us vs p q e =
    let head : x ≡ y = cc in
    let tail : xs ++ b ∷ us ≡ ys ++ b ∷ vs = cc in
    let rest = split_at_free b xs ys us vs p.1 q.1 tail in
    (ap₂ (λ h t. h ∷ t) head rest.0, rest.1)

pub small_mag : (z : ℤ) → IsSmallDegree z → mag z < 2 ^ 63
small_mag (pos n) small = let high = small.high in omega (arith, ints, high)
small_mag (negsuc n) small = let low = small.low in omega (arith, ints, low)

pub degree_line-injective : (d e : ℤ × ℤ) → AreSmallDegrees d → AreSmallDegrees e → degree_line d ≡ degree_line e
    → d ≡ e
degree_line-injective d e p q same =
    let line_of = λ (t : ℤ × ℤ). append_assoc (codes "cell " ++ signed_decimal t.0) (codes " ") (signed_decimal t.1)
    ∙ append_assoc (codes "cell ") (signed_decimal t.0) (codes " " ++ signed_decimal t.1) in
    let whole = append_cancel_left (codes "cell ") _ _ (sym (line_of d) ∙ same ∙ line_of e) in
    let parts = split_at_free 32 (signed_decimal d.0) (signed_decimal e.0) (signed_decimal d.1) (signed_decimal e.1)
    (free-signed 32 d.0 (omega arith) (λ h. omega (arith, h)) (small_mag d.0 p.maslov))
    (free-signed 32 e.0 (omega arith) (λ h. omega (arith, h)) (small_mag e.0 q.maslov)) whole in
    let m = signed_decimal_injective d.0 e.0 (small_mag d.0 p.maslov) (small_mag e.0 q.maslov) parts.0 in
    let a = signed_decimal_injective d.1 e.1 (small_mag d.1 p.alexander) (small_mag e.1 q.alexander) parts.1 in
    λ i. (m i, a i)
