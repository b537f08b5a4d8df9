-- The rows of marks in a line: a digit after each space.
use Rattle.std.proofs.Common.{◌≡◌, ◌≢◌, ℕ, zero, suc, ◌+◌, ◌*◌, ◌<◌, ◌≤◌, List, [], ◌∷◌, ◌++◌, length, take, drop, set, get_or, slice_index, All, Option, None, Some, IsNone, IfSome, IfNone, OnSome, refl, sym, ap, ap₂, subst, ◌∙◌, arith, append_assoc}
use Rattle.std.specs.List.{flat_map}
use Rattle.std.specs.Fmt.{decimal}
use Rattle.std.proofs.lemmas.Fmt.{decimal_digit}
use Rattle.std.proofs.lemmas.List.{take_more, take_more_set}
use Rattle.state_rank.specs.Bijection.{IsSize, IsBijection}
use Rattle.state_rank.specs.States.{IsState}
use Rattle.torus_geom.specs.Marks.{IsGrid, SharesSquare}
use Rattle.homology_cert.specs.CertificateText.{marks_line}
use Rattle.homology_cert.specs.Inner.Reading.{spaced, IsSmallSize}
use Rattle.homology_cert.proofs.Texts.PlaceLemmas.{small_rows}

pub length-spaced : (x : List ℕ) → length (spaced x) ≡ 2 * length x
length-spaced [] = refl
length-spaced (r ∷ x) = let more = length-spaced x in omega (arith, more)

-- the line of marks, if all rows are digits
spaced-decimal : (x : List ℕ) → All (λ r. r < 10) x → flat_map (λ r. 32 ∷ decimal r) x ≡ spaced x
spaced-decimal [] h = refl
spaced-decimal (r ∷ x) h =
    ap₂ (λ d t. (32 ∷ d) ++ t) (decimal_digit r (h 0 r (omega arith))) (spaced-decimal x
    (λ k d l. h (suc k) d (omega arith)))

pub marks_line-spaced : (letter n : ℕ) (o : List ℕ) → IsSmallSize n → IsBijection n o
    → marks_line (letter ∷ []) o ≡ letter ∷ spaced o
marks_line-spaced letter n o small is = ap (λ t. letter ∷ t) (spaced-decimal o (small_rows n o is small.size.greatest))

-- each byte of spaced digits
pub get_or-space : (x : List ℕ) (c : ℕ) → c < length x → get_or (spaced x) (2 * c) 0 ≡ 32
get_or-space [] c l = absurd (omega (arith, l))
get_or-space (r ∷ x) zero l = refl
get_or-space (r ∷ x) (suc c) l =
    let two : 2 * suc c ≡ suc (suc (2 * c)) = omega arith in
    ap (λ k. get_or (spaced (r ∷ x)) k 0) two ∙ get_or-space x c (omega (arith, l))

pub get_or-digit : (x : List ℕ) (c : ℕ) → c < length x → 48 ≤ get_or (spaced x) (2 * c + 1) 0
get_or-digit [] c l = absurd (omega (arith, l))
get_or-digit (r ∷ x) zero l = omega arith
get_or-digit (r ∷ x) (suc c) l =
    let two : 2 * suc c + 1 ≡ suc (suc (2 * c + 1)) = omega arith in
    omega (arith, ap (λ k. get_or (spaced (r ∷ x)) k 0) two, get_or-digit x c (omega (arith, l)))

spaced-push : (x : List ℕ) (r : ℕ) → spaced (x ++ r ∷ []) ≡ spaced x ++ 32 ∷ (48 + r) ∷ []
spaced-push [] r = refl
spaced-push (s ∷ x) r = ap (λ t. 32 ∷ (48 + s) ∷ t) (spaced-push x r)

-- one more digit
pub spaced-more : (bytes rows : List ℕ) (c r : ℕ) → 2 * c + 1 < length bytes → c < length rows
    → get_or bytes (2 * c) 0 ≡ 32 → get_or bytes (2 * c + 1) 0 ≡ 48 + r
    → take (2 * c) bytes ≡ spaced (take c rows) → take (2 * (c + 1)) bytes ≡ spaced (take (c + 1) (set rows c r))
spaced-more bytes rows c r within room space digit e =
    let two : 2 * (c + 1) ≡ 2 * c + 1 + 1 = omega arith in
    ap (λ k. take k bytes) two ∙ take_more bytes (2 * c + 1) 0 within ∙ ap (λ t. t ++ get_or bytes (2 * c + 1) 0 ∷ [])
    (take_more bytes (2 * c) 0 (omega (arith, within)))
    ∙ append_assoc (take (2 * c) bytes) (get_or bytes (2 * c) 0 ∷ []) (get_or bytes (2 * c + 1) 0 ∷ [])
    ∙ ap (λ t. t ++ get_or bytes (2 * c) 0 ∷ get_or bytes (2 * c + 1) 0 ∷ []) e
    ∙ ap₂ (λ s d. spaced (take c rows) ++ s ∷ d ∷ []) space digit
    ∙ sym (spaced-push (take c rows) r) ∙ ap spaced (sym (take_more_set rows c r room))

spaced-injective : (x y : List ℕ) → spaced x ≡ spaced y → x ≡ y
spaced-injective [] [] e = refl
spaced-injective [] (s ∷ y) e = absurd (omega (arith, ap length e))
spaced-injective (r ∷ x) [] e = absurd (omega (arith, ap length e))
spaced-injective (r ∷ x) (s ∷ y) e =
    let head : 48 + r ≡ 48 + s = cc in
    let tail : spaced x ≡ spaced y = cc in
    let same : r ≡ s = omega arith in
    ap₂ (λ h t. h ∷ t) same (spaced-injective x y tail)

-- what is read of the line of marks is their rows
module _ (letter n : ℕ) (line rows : List ℕ) (small : IsSmallSize n) (long : length rows ≡ n)
    (e : line ≡ letter ∷ spaced rows) where
  pub marks_read : (r : Option (List ℕ)) → IfSome r (λ x. x ≡ rows) → OnSome r (IsState rows)
      → IfSome r (λ x. IsBijection n x × (line ≡ marks_line (letter ∷ []) x))
  marks_read None same state = tt
  marks_read (Some x) same state =
      let is = subst (λ y. IsBijection n y) (sym same) (subst (λ m. IsBijection m rows) long state.bijection) in
      (is, e ∙ ap (λ t. letter ∷ spaced t) (sym same) ∙ sym (marks_line-spaced letter n x small is))

  pub no_marks : (r : Option (List ℕ)) → (IsNone r → IsState rows → ⊥) → IfNone r ((o : List ℕ) → IsBijection n o
      → line ≢ marks_line (letter ∷ []) o)
  no_marks (Some x) none = tt
  no_marks None none = λ o bijection is.
      let all : letter ∷ spaced rows ≡ letter ∷ spaced o = sym e ∙ is ∙ marks_line-spaced letter n o small bijection in
      let tail : spaced rows ≡ spaced o = cc in
      none refl (subst IsState (sym (spaced-injective rows o tail)) (record {
        size = subst IsSize (sym bijection.long) small.size;
        bijection = subst (λ m. IsBijection m o) (sym bijection.long) bijection;
      }))

-- a line is its first byte and the rest
pub first_and_rest : (letter : ℕ) (line : List ℕ) → 0 < length line → get_or line 0 0 ≡ letter
    → line ≡ letter ∷ drop 1 line
first_and_rest letter [] some is = absurd (omega (arith, some))
first_and_rest letter (b ∷ line) some is = ap (λ c. c ∷ line) is

-- marks that share a square are those of no grid
pub not_apart : (o x rows_o rows_x : List ℕ) → rows_o ≡ o → rows_x ≡ x → SharesSquare
    (record { o = rows_o; x = rows_x }) → IsGrid (record { o = o; x = x }) → ⊥
not_apart o x rows_o rows_x e f (k, l, same) is =
    is.apart k (subst (λ r. k < length r) e l) (ap (λ r. slice_index r k) (sym e) ∙ same ∙ ap (λ r. slice_index r k) f)
