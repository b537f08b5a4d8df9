-- The bytes of lines, as the reader goes through them: the first part of a line, digits, and words of states.
use Rattle.std.proofs.Common.{true, false, ◌||◌, true≢false, inl, inr, ◌≡◌, ℕ, suc, ◌+◌, ◌-◌, ◌<◌, ◌≤◌, List, [], ◌∷◌, ◌++◌, length, take, drop, get_or, codes, Option, None, Some, IfSome, IfNone, ◌↔◌, refl, sym, ap, ap₂, subst, ◌∙◌, arith, ℤ, pos, negsuc, append_assoc, length-append, Result, Ok, ◌^◌, w32, w64, unsigned_abs, to_z, of_z, to_z-of_z}
use Rattle.std.proofs.lemmas.Int.{ints, fits_signed_from_abs}
use Rattle.std.proofs.lemmas.Str.{IsUtf8-from_ascii}
use Rattle.std.specs.Str.{IsUtf8, IsAscii}
use Rattle.std.specs.Str.Parse.{ParsesSigned}
use Rattle.itoa.proofs.Decimal.{IsAscii-signed_decimal}
use Rattle.gradings.specs.Degrees.{IsSmallDegree}
use Rattle.std.specs.Option.{option_map}
use Rattle.std.specs.Fmt.{signed_decimal}
use Rattle.std.proofs.lemmas.List.{take-append-drop, append_cancel_left, length-take-le}
use Rattle.std.proofs.lemmas.Fmt.{decimal_digit, parse-signed_decimal}
use Rattle.std.proofs.Math.Seq.{take-append_seam}
use Rattle.state_rank.specs.Bijection.{IsBijection}
use Rattle.state_rank.specs.States.{IsState, state_word, factorial, rank, unrank}
use Rattle.state_rank.proofs.RankLemmas.{length-unrank, unrank-rank}
use Rattle.state_rank.proofs.WordLemmas.{length-state_word}
use Rattle.text_lines.specs.Parts.{is_among, HasNone, IsFirstPart}
use Rattle.std.proofs.lemmas.Bool.{cases_eq, eq-eqb, ne_eqb}
use Rattle.homology_cert.specs.Certificates.{AreSmallDegrees}
use Rattle.homology_cert.specs.CertificateText.{degree_line}
use Rattle.homology_cert.specs.Inner.Reading.{IsFree, size_line, IsSmallSize}
use Rattle.homology_cert.proofs.Texts.LineLemmas.{free-signed, split_at_free, small_mag}

-- ---- the first part
-- bytes of which none is the one
free-none : (b : ℕ) (bytes : List ℕ) → HasNone (b ∷ []) bytes → IsFree b bytes
free-none b [] none = tt
free-none b (c ∷ bytes) none = (
  λ e. true≢false (sym (ap (λ t. t || false) (eq-eqb c b e)) ∙ none 0 c (omega arith)),
  free-none b bytes (λ k d l. none (suc k) d (omega arith)),
)

-- a byte that is the one
is_the_one : (b c : ℕ) → is_among (b ∷ []) c ≡ true → c ≡ b
is_the_one b c t = elim (cases_eq c b) [
  | inl e ↦ e
  | inr other ↦ absurd (true≢false (sym t ∙ ap (λ s. s || false) (ne_eqb c b other)))
]

-- the bytes up to the first that is the one, and those after it
pub first_part-one : {X : Type 0} (b : ℕ) (bytes : List ℕ) (part after : X → List ℕ) (r : Option X)
    → IfSome r (λ p. IsFirstPart (b ∷ []) bytes (part p) (after p))
    → IfSome r (λ p. (bytes ≡ part p ++ b ∷ after p) × IsFree b (part p))
first_part-one b bytes part after None h = tt
first_part-one b bytes part after (Some p) h = (
  h.split ∙ ap (λ c. part p ++ c ∷ after p) (is_the_one b h.end h.is_end),
  free-none b (part p) h.none,
)

pub first_part-none : {X : Type 0} (b : ℕ) (bytes : List ℕ) (r : Option X) → IfNone r (HasNone (b ∷ []) bytes)
    → IfNone r (IsFree b bytes)
first_part-none b bytes None h = free-none b bytes h
first_part-none b bytes (Some p) h = tt

-- ---- the line of a size
pub size_digit : (n : ℕ) (line digits : List ℕ) → n < 10 → line ≡ codes "grid " ++ digits
    → (digits ≡ (48 + n) ∷ []) ↔ (line ≡ size_line n)
size_digit n line digits small e = (
  λ is. e ∙ ap (λ d. codes "grid " ++ d) (is ∙ sym (decimal_digit n small)),
  λ is. append_cancel_left (codes "grid ") _ _ (sym e ∙ is) ∙ decimal_digit n small,
)

pub one_digit : (d n : ℕ) (digits : List ℕ) → length digits ≡ 1 → get_or digits 0 0 ≡ n → digits ≡ n ∷ []
one_digit d n [] long is = absurd (omega (arith, long))
one_digit d n (c ∷ []) long is = ap (λ b. b ∷ []) is
one_digit d n (c ∷ b ∷ cs) long is = absurd (omega (arith, long))

-- ---- the line of a bidegree
pub not_free : (b : ℕ) (xs ys : List ℕ) → IsFree b (xs ++ b ∷ ys) → ⊥
not_free b [] ys h = h.0 refl
not_free b (c ∷ xs) ys h = not_free b xs ys h.1

module _ (line words : List ℕ) (d : ℤ × ℤ) (small : AreSmallDegrees d) (e : line ≡ degree_line d) where
  pub degree_words : line ≡ codes "cell " ++ (signed_decimal d.0 ++ 32 ∷ signed_decimal d.1)
  degree_words = e ∙ append_assoc (codes "cell " ++ signed_decimal d.0) (codes " ") (signed_decimal d.1)
      ∙ append_assoc (codes "cell ") (signed_decimal d.0) (codes " " ++ signed_decimal d.1)

  module _ (begins : line ≡ codes "cell " ++ words) where
    pub words_are : words ≡ signed_decimal d.0 ++ 32 ∷ signed_decimal d.1
    words_are = append_cancel_left (codes "cell ") _ _ (sym begins ∙ degree_words)

    pub no_space : IsFree 32 words → ⊥
    no_space free = not_free 32 (signed_decimal d.0) (signed_decimal d.1) (subst (IsFree 32) words_are free)

    pub degree_parts : (first second : List ℕ) → words ≡ first ++ 32 ∷ second → IsFree 32 first
        → (first ≡ signed_decimal d.0) × (second ≡ signed_decimal d.1)
    degree_parts first second split free =
        split_at_free 32 first (signed_decimal d.0) second (signed_decimal d.1) free
        (free-signed 32 d.0 (omega arith) (λ h. omega (arith, h)) (small_mag d.0 small.maslov)) (sym split ∙ words_are)

-- the parts make the line
pub degree_line-parts : (line words first second : List ℕ) (m a : ℤ) → line ≡ codes "cell " ++ words
    → words ≡ first ++ 32 ∷ second
    → first ≡ signed_decimal m → second ≡ signed_decimal a → line ≡ degree_line (m, a)
degree_line-parts line words first second m a begins split is_m is_a =
    begins ∙ ap (λ w. codes "cell " ++ w) (split ∙ ap₂ (λ f s. f ++ 32 ∷ s) is_m is_a)
    ∙ sym (append_assoc (codes "cell " ++ signed_decimal m) (codes " ") (signed_decimal a)
    ∙ append_assoc (codes "cell ") (signed_decimal m) (codes " " ++ signed_decimal a))

-- ---- one state after a space
-- what the bytes of a state are
pub state_first : (n s : ℕ) (bytes more : List ℕ) → s < factorial n → bytes ≡ (32 ∷ state_word (unrank n s)) ++ more
    → (n < length bytes) × (get_or bytes 0 0 ≡ 32) × (take n (drop 1 bytes) ≡ state_word (unrank n s))
state_first n s bytes more below e =
    let word = state_word (unrank n s) in
    let long : length word ≡ n = length-state_word (unrank n s) ∙ length-unrank n s below in (
      omega (arith, ap length e, long, length-append word more),
      ap (λ b. get_or b 0 0) e,
      ap (λ b. take n (drop 1 b)) e ∙ ap (λ k. take k (word ++ more)) (sym long) ∙ take-append_seam word more,
    )

-- ---- the line of a size, and no other
module _ (line digits : List ℕ) (begins : line ≡ codes "grid " ++ digits) where
  pub size_digits : (n : ℕ) → IsSmallSize n → line ≡ size_line n → digits ≡ (48 + n) ∷ []
  size_digits n small e =
      let below : n < 10 = omega (arith, small.small) in
      (size_digit n line digits below begins).1 e

  pub size_of_digit : length digits ≡ 1 → 50 ≤ get_or digits 0 0 → get_or digits 0 0 ≤ 54
      → IsSmallSize (get_or digits 0 0 - 48) × (line ≡ size_line (get_or digits 0 0 - 48))
  size_of_digit long low high =
      let n = get_or digits 0 0 - 48 in (
        record {
          size = record { least = omega (arith, low); greatest = omega (arith, high) };
          small = omega (arith, high);
        },
        (size_digit n line digits (omega (arith, high)) begins).0 (one_digit 0 (48 + n) digits long
            (omega (arith, low))),
      )

-- ---- numbers
pub small_abs : (z : ℤ) → IsSmallDegree z → unsigned_abs z < 2 ^ 31
small_abs (pos n) small = let high = small.high in omega (arith, ints, high)
small_abs (negsuc n) small = let low = small.low in omega (arith, ints, low)

-- a small number is itself if it is stored
pub as_i32 : (y z : ℤ) → Some y ≡ Some z → IsSmallDegree z → Some (to_z w32 (of_z w32 y)) ≡ Some z
as_i32 y z same small =
    ap (λ r. option_map (λ t. to_z w32 (of_z w32 t)) r) same
    ∙ ap Some (to_z-of_z {w = w32} (fits_signed_from_abs w32 z (small_abs z small)))

pub small_ascii : (z : ℤ) (word : List ℕ) → IsSmallDegree z → word ≡ signed_decimal z → IsUtf8 word
small_ascii z word small e =
    IsUtf8-from_ascii word
    (subst IsAscii (sym e)
    (IsAscii-signed_decimal z (fits_signed_from_abs w64 z (omega (arith, small_abs z small)))))

pub parsed : {E : Type 0} (z : ℤ) (word : List ℕ) (r : Result ℤ E) → IsSmallDegree z → word ≡ signed_decimal z
    → ParsesSigned w32 10 word r → r ≡ Ok z
parsed z word r small e parses = parse-signed_decimal w32 z word r (fits_signed_from_abs w32 z (small_abs z small))
    (small_mag z small) e parses

-- the bytes of a state, by its index
pub state_bytes : (n : ℕ) (bytes x : List ℕ) (r : ℕ) → n < length bytes → get_or bytes 0 0 ≡ 32 → IsState x
    → take n (drop 1 bytes) ≡ state_word x → r ≡ rank x → r < factorial (length x)
    → (r < factorial n) × (n < length bytes) × (bytes ≡ (32 ∷ state_word (unrank n r)) ++ drop (n + 1) bytes)
state_bytes n [] x r long space state word same below = absurd (omega (arith, long))
state_bytes n (b ∷ bs) x r long space state word same below =
    let size : length x ≡ n =
    sym (length-state_word x) ∙ sym (ap length word) ∙ length-take-le n bs (omega (arith, long)) in
    let is = subst (λ m. IsBijection m x) size state.bijection in
    let unranked : unrank n r ≡ x = ap (unrank n) same ∙ unrank-rank n x is in
    let one : suc n ≡ n + 1 = omega arith in (
      subst (λ k. r < factorial k) is.long below,
      long,
      ap (λ c. c ∷ bs) space
          ∙ ap (λ t. 32 ∷ t) (sym (take-append-drop n bs) ∙ ap (λ w. w ++ drop n bs) (word
          ∙ ap state_word (sym unranked)))
          ∙ ap (λ k. (32 ∷ state_word (unrank n r)) ++ drop k (b ∷ bs)) one,
    )

-- ---- what is left
pub empty_list : {A : Type 0} (xs : List A) → length xs ≡ 0 → xs ≡ []
empty_list [] e = refl
empty_list (x ∷ xs) e = absurd (omega (arith, e))
