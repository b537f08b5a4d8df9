-- A set of states as its line is gone through, state by state.
--
-- What was read is a list of codes that ascends, and the bytes so far are theirs. Two lists of codes with one text
-- begin alike, so if no state follows, or one that is not above the last, the line is that of no set.
use Rattle.std.proofs.Common.{◌≡◌, ◌≢◌, ◌⊎◌, ℕ, zero, suc, ◌+◌, ◌<◌, ◌≤◌, List, [], ◌∷◌, ◌++◌, length, slice_index, All, inl, inr, refl, sym, ap, ap₂, subst, ◌∙◌, arith, append_assoc, length-append}
use Rattle.std.specs.List.{flat_map}
use Rattle.std.specs.List.Sorted.{IsStrictlyIncreasing}
use Rattle.std.proofs.lemmas.Bool.{cases_lt}
use Rattle.std.proofs.Math.ListN.{get_or-append}
use Rattle.std.proofs.Math.Seq.{get_or-append_seam}
use Rattle.std.proofs.lemmas.List.{append-nil, append_cancel_left, get_or_push}
use Rattle.std.proofs.lemmas.List.Concat.{flat_map-append}
use Rattle.f2_algebra.specs.Chain.{Chain, nothing, single, ◌⊕◌, of_codes, codes as ranks}
use Rattle.f2_algebra.proofs.Chains.Lists.{of_codes-push, codes-of_codes, any-above, rises, rising-codes}
use Rattle.state_rank.specs.States.{factorial, rank, unrank, state_word}
use Rattle.state_rank.proofs.RankLemmas.{length-unrank, rank-unrank}
use Rattle.text_lines.specs.Inner.CodeLines.{set_line}
use Rattle.state_rank.proofs.WordLemmas.{state_word_injective, length-state_word}
use Rattle.homology_cert.proofs.Texts.LineLemmas.{append-parts}

abbrev pub state_bytes_of : ℕ → ℕ → List ℕ
state_bytes_of n s = 32 ∷ state_word (unrank n s)

pub length-state_bytes : (n s : ℕ) → s < factorial n → length (state_bytes_of n s) ≡ suc n
length-state_bytes n s l = ap suc (length-state_word (unrank n s) ∙ length-unrank n s l)

same_code : (n s t : ℕ) → s < factorial n → t < factorial n → state_bytes_of n s ≡ state_bytes_of n t → s ≡ t
same_code n s t l m h =
    let tail : state_word (unrank n s) ≡ state_word (unrank n t) = cc in
    sym (rank-unrank n s l) ∙ ap rank (state_word_injective (unrank n s) (unrank n t) tail) ∙ rank-unrank n t m

-- the codes that were read are the first of any list with this text
first_codes : (n : ℕ) (xs ys rest : List ℕ) → All (λ s. s < factorial n) xs → All (λ s. s < factorial n) ys
    → flat_map (state_bytes_of n) ys ≡ flat_map (state_bytes_of n) xs ++ rest → (zs : List ℕ) × (ys ≡ xs ++ zs)
    × (rest ≡ flat_map (state_bytes_of n) zs)
first_codes n [] ys rest p q e = (ys, refl, sym e)
first_codes n (x ∷ xs) [] rest p q e =
    let l = ap length e in
    let m = length-state_bytes n x (p 0 x (omega arith)) in
    absurd (omega (
      arith,
      l,
      m,
      length-append (state_bytes_of n x ++ flat_map (state_bytes_of n) xs) rest,
      length-append (state_bytes_of n x) (flat_map (state_bytes_of n) xs),
    ))
first_codes n (x ∷ xs) (y ∷ ys) rest p q e =
    let px = p 0 x (omega arith) in
    let qy = q 0 y (omega arith) in
    let parts = append-parts (state_bytes_of n y) (state_bytes_of n x) (flat_map (state_bytes_of n) ys)
    (flat_map (state_bytes_of n) xs ++ rest)
    (length-state_bytes n y qy ∙ sym (length-state_bytes n x px)) (e ∙ append_assoc (state_bytes_of n x)
    (flat_map (state_bytes_of n) xs) rest) in
    let (zs, same, left) = first_codes n xs ys rest (λ i d l. p (suc i) d (omega arith))
    (λ i d l. q (suc i) d (omega arith)) parts.1 in
    (zs, ap₂ (λ h t. h ∷ t) (same_code n y x qy px parts.0) same, left)

pub record IsReadSet (n : ℕ) (word line rest : List ℕ) (set : Chain) (least : ℕ) : Type 0 where
  pub read : List ℕ
  pub chain : set ≡ of_codes read
  pub split : line ≡ word ++ (flat_map (state_bytes_of n) read ++ rest)
  pub rising : IsStrictlyIncreasing read
  pub below : All (λ s. s < factorial n) read
  pub last : (k : ℕ) → k < length read → slice_index read k < least
  pub least_is : (least ≡ 0) ⊎ ((k : ℕ) × (k < length read) × (slice_index read k + 1 ≡ least))

pub IsReadSet-start : (n : ℕ) (word line states : List ℕ) → line ≡ word ++ states
    → IsReadSet n word line states nothing 0
unfolding of_codes
IsReadSet-start n word line states begins = record {
  read = [];
  chain = refl;
  split = begins;
  rising = λ k l. absurd (omega (arith, l));
  below = λ k d l. absurd (omega (arith, l));
  last = λ k l. absurd (omega (arith, l));
  least_is = inl refl;
}

-- what holds of each element and of one more
push_all : (P : ℕ → Type 0) (xs : List ℕ) (x : ℕ) → All P xs → P x → All P (xs ++ x ∷ [])
push_all P [] x p px zero d l = px
push_all P [] x p px (suc k) d l = absurd (omega (arith, l))
push_all P (y ∷ xs) x p px zero d l = p 0 d (omega arith)
push_all P (y ∷ xs) x p px (suc k) d l = push_all P xs x (λ i e m. p (suc i) e (omega arith)) px k d (omega (arith, l))

-- one more state, above the last
module _ (n : ℕ) (word line rest after : List ℕ) (set : Chain) (least code : ℕ)
    (h : IsReadSet n word line rest set least) (is_code : code < factorial n)
    (split : rest ≡ state_bytes_of n code ++ after) where
  pub IsReadSet-next : least ≤ code → IsReadSet n word line after (set ⊕ single code) (code + 1)
  IsReadSet-next above = record {
    read = h.read ++ code ∷ [];
    chain = ap (λ z. z ⊕ single code) h.chain
        ∙ sym (of_codes-push h.read code (any-above code h.read (λ k l. omega (arith, h.last k l, above))));
    split = h.split ∙ ap (λ t. word ++ t) (ap (λ r. flat_map (state_bytes_of n) h.read ++ r) split
        ∙ sym (append_assoc (flat_map (state_bytes_of n) h.read) (state_bytes_of n code) after)
        ∙ ap (λ t. t ++ after) (sym (flat_map-append (state_bytes_of n) h.read (code ∷ [])
        ∙ ap (λ t. flat_map (state_bytes_of n) h.read ++ t) (append-nil (state_bytes_of n code)))));
    rising = λ k l. rising_next k (omega (arith, l, length-append h.read (code ∷ [])));
    below = push_all (λ s. s < factorial n) h.read code h.below is_code;
    last = λ k l. last_next k (omega (arith, l, length-append h.read (code ∷ [])));
    least_is = inr (
      length h.read,
      omega (arith, length-append h.read (code ∷ [])),
      ap (λ s. s + 1) (get_or_push h.read code 0 (length h.read) refl),
    );
  }
    where
      last_next : (k : ℕ) → k < length h.read + 1 → slice_index (h.read ++ code ∷ []) k < code + 1
      last_next k l = elim (cases_lt k (length h.read)) [
        | inl old ↦ omega (arith, get_or-append h.read (code ∷ []) 0 k old, h.last k old, above)
        | inr new ↦ omega (arith, get_or_push h.read code 0 k (omega (arith, l, new)))
      ]

      rising_next : (k : ℕ) → k + 1 < length h.read + 1 → slice_index (h.read ++ code ∷ []) k < slice_index
          (h.read ++ code ∷ []) (k + 1)
      rising_next k l =
          let old : k < length h.read = omega (arith, l) in
          elim (cases_lt (k + 1) (length h.read)) [
            | inl both ↦ omega (
              arith,
              get_or-append h.read (code ∷ []) 0 k old,
              get_or-append h.read (code ∷ []) 0
                  (k + 1) both,
              h.rising k both,
            )
            | inr new ↦ omega (
              arith,
              get_or-append h.read (code ∷ []) 0 k old,
              get_or_push h.read code 0 (k + 1) (omega (arith, l, new)),
              h.last k old,
              above,
            )
          ]

-- ---- no set has the line
module _ (n : ℕ) (word line rest : List ℕ) (set : Chain) (least : ℕ) (h : IsReadSet n word line rest set least)
    (z : Chain) (is : All (λ code. code < factorial n) (ranks z)) (e : line ≡ set_line word n z) where
  left_of : (zs : List ℕ) × (ranks z ≡ h.read ++ zs) × (rest ≡ flat_map (state_bytes_of n) zs)
  left_of =
      first_codes n h.read (ranks z) rest h.below is
      (append_cancel_left word _ _ (sym e ∙ h.split))

  codes_left : (zs : List ℕ) → ranks z ≡ h.read ++ zs → All (λ s. s < factorial n) (h.read ++ zs)
  codes_left zs same = subst (All (λ s. s < factorial n)) same is

  code_is : (s : ℕ) (zs : List ℕ) → ranks z ≡ h.read ++ s ∷ zs → s < factorial n
  code_is s zs same =
      subst (λ t. t < factorial n) (get_or-append_seam h.read s zs s) (codes_left (s ∷ zs) same (length h.read) s
      (omega (arith, length-append h.read (s ∷ zs))))

  -- no state follows
  pub no_set-no_code : 0 < length rest → ((s : ℕ) (more : List ℕ) → s < factorial n → rest ≢ state_bytes_of n s ++ more)
      → ⊥
  no_set-no_code some none = by_left left_of.0 left_of.1 left_of.2
    where
      by_left : (zs : List ℕ) → ranks z ≡ h.read ++ zs → rest ≡ flat_map (state_bytes_of n) zs → ⊥
      by_left [] same left = omega (arith, some, ap length left)
      by_left (s ∷ zs) same left =
          none s (flat_map (state_bytes_of n) zs) (code_is s zs same) left

  -- one that is not above the last
  pub no_set-not_above : (code : ℕ) (after : List ℕ) → code < factorial n → rest ≡ state_bytes_of n code ++ after
      → code < least → ⊥
  no_set-not_above code after is_code split under = by_left left_of.0 left_of.1 left_of.2
    where
      by_left : (zs : List ℕ) → ranks z ≡ h.read ++ zs → rest ≡ flat_map (state_bytes_of n) zs → ⊥
      by_left [] same left = let l = ap length (sym split ∙ left) in
          omega (arith, l, length-append (state_bytes_of n code) after)
      by_left (s ∷ zs) same left =
          let parts = append-parts (state_bytes_of n s) (state_bytes_of n code) (flat_map (state_bytes_of n) zs) after
          (length-state_bytes n s (code_is s zs same) ∙ sym (length-state_bytes n code is_code)) (sym left ∙ split) in
          let one = same_code n s code (code_is s zs same) is_code parts.0 in
          by_last s zs same one h.least_is
        where
          by_last : (s : ℕ) (zs : List ℕ) → ranks z ≡ h.read ++ s ∷ zs → s ≡ code → (least ≡ 0)
              ⊎ ((k : ℕ) × (k < length h.read) × (slice_index h.read k + 1 ≡ least)) → ⊥
          by_last s zs same one (inl none) = omega (arith, none, under)
          by_last s zs same one (inr (k, l, is_last)) =
              let rising = subst IsStrictlyIncreasing same (rising-codes z) in
              let before = rises (h.read ++ s ∷ zs) rising k (length h.read) l
              (omega (arith, length-append h.read (s ∷ zs))) in
              omega (
                arith,
                before,
                get_or-append h.read (s ∷ zs) 0 k l,
                get_or-append_seam h.read s zs 0,
                is_last,
                under,
                one,
              )

-- ---- the end of the line
pub IsReadSet-end : (n : ℕ) (word line : List ℕ) (set : Chain) (least : ℕ) → IsReadSet n word line [] set least
    → All (λ code. code < factorial n) (ranks set) × (line ≡ set_line word n set)
IsReadSet-end n word line set least h =
    let same : ranks set ≡ h.read = ap ranks h.chain ∙ codes-of_codes h.read h.rising in (
      subst (All (λ code. code < factorial n)) (sym same) h.below,
      h.split ∙ ap (λ t. word ++ t) (append-nil (flat_map (state_bytes_of n) h.read)
          ∙ ap (flat_map (state_bytes_of n)) (sym same)),
    )
