-- The parts of a list of bytes. The first part ends at the first byte that ends one (`parts-found`), or is all bytes
-- (`parts-none`); the reader takes one part at a time, and a part without bytes is no word. A carriage return is
-- dropped if it is the last byte.
use Rattle.std.proofs.Common.{◌≡◌, ◌≢◌, ℕ, suc, ◌<◌, Bool, true, false, cond, List, [], ◌∷◌, ◌++◌, length, length-append, codes, ap, ◌∙◌, sym, arith}
use Rattle.std.specs.List.{filter, All}
use Rattle.std.proofs.lemmas.Bool.{eq-eqb, ne_eqb}
use Rattle.text_lines.specs.Parts.{is_among, HasNone, IsFirstPart}
use Rattle.grid_text.specs.Words.{parts, before_parts, is_filled, words_of, without_return}

-- the byte is a space or a tab, 32 or 9
abbrev pub is_space : ℕ → Bool
is_space = is_among (codes " \t")

module _ (is_end : ℕ → Bool) where
  -- one byte more of the first part
  pub parts-byte : (b : ℕ) (bytes : List ℕ) → is_end b ≡ false
      → parts is_end (b ∷ bytes) ≡ before_parts b (parts is_end bytes)
  parts-byte b bytes inside =
      ap (λ t. cond t ([] ∷ parts is_end bytes) (before_parts b (parts is_end bytes))) inside

  -- the first part ends at the first byte that ends one
  pub parts-at : (part after : List ℕ) (end : ℕ) → All (λ b. is_end b ≡ false) part → is_end end ≡ true
      → parts is_end (part ++ end ∷ after) ≡ part ∷ parts is_end after
  parts-at [] after end none here =
      ap (λ t. cond t ([] ∷ parts is_end after) (before_parts end (parts is_end after))) here
  parts-at (b ∷ part) after end none here =
      parts-byte b (part ++ end ∷ after) (none 0 b (omega arith))
      ∙ ap (before_parts b) (parts-at part after end (λ k d l. none (suc k) d (omega arith)) here)

  -- if no byte ends one, all bytes are the first part
  parts-whole : (b : ℕ) (bytes : List ℕ) → All (λ b. is_end b ≡ false) (b ∷ bytes)
      → parts is_end (b ∷ bytes) ≡ (b ∷ bytes) ∷ []
  parts-whole b [] none = parts-byte b [] (none 0 b (omega arith))
  parts-whole b (c ∷ bytes) none =
      parts-byte b (c ∷ bytes) (none 0 b (omega arith))
      ∙ ap (before_parts b) (parts-whole c bytes (λ k d l. none (suc k) d (omega arith)))

-- the first part that was found, and what follows it
pub parts-found : (ends bytes part after : List ℕ) → IsFirstPart ends bytes part after
    → parts (is_among ends) bytes ≡ part ∷ parts (is_among ends) after
parts-found ends bytes part after h =
    ap (parts (is_among ends)) h.split ∙ parts-at (is_among ends) part after h.end h.none h.is_end

-- what follows it is shorter
pub shorter-found : (ends bytes part after : List ℕ) → IsFirstPart ends bytes part after
    → length after < length bytes
shorter-found ends bytes part after h =
    omega (arith, ap length h.split, length-append part (h.end ∷ after))

-- if none was found, all bytes are the first part
pub parts-none : (ends bytes : List ℕ) → 0 < length bytes → HasNone ends bytes
    → parts (is_among ends) bytes ≡ bytes ∷ []
parts-none ends [] some none = absurd (omega arith)
parts-none ends (b ∷ bytes) some none = parts-whole (is_among ends) b bytes none

-- a part without bytes is no word, and any other is
pub words_of-empty : (rest part after : List ℕ) → parts is_space rest ≡ part ∷ parts is_space after → length part ≡ 0
    → words_of rest ≡ words_of after
words_of-empty rest [] after e none = ap (filter is_filled) e
words_of-empty rest (b ∷ part) after e none = absurd (omega arith)

pub words_of-filled : (rest part after : List ℕ) → parts is_space rest ≡ part ∷ parts is_space after → 0 < length part
    → words_of rest ≡ part ∷ words_of after
words_of-filled rest [] after e some = absurd (omega (arith, some))
words_of-filled rest (b ∷ part) after e some = ap (filter is_filled) e

-- a carriage return at the end
pub without_return-dropped : (line front : List ℕ) (last : ℕ) → line ≡ front ++ last ∷ [] → last ≡ 13
    → front ≡ without_return line
without_return-dropped line front last whole is = sym (ap without_return whole ∙ dropped front last is)
  where
    dropped : (front : List ℕ) (last : ℕ) → last ≡ 13 → without_return (front ++ last ∷ []) ≡ front
    dropped [] last is = ap (λ t. cond t [] (last ∷ [])) (eq-eqb last 13 is)
    dropped (b ∷ []) last is = ap (λ l. b ∷ l) (dropped [] last is)
    dropped (b ∷ c ∷ front) last is = ap (λ l. b ∷ l) (dropped (c ∷ front) last is)

-- another byte at the end
pub without_return-kept : (line front : List ℕ) (last : ℕ) → line ≡ front ++ last ∷ [] → last ≢ 13
    → line ≡ without_return line
without_return-kept line front last whole other = whole ∙ sym (ap without_return whole ∙ kept front last other)
  where
    kept : (front : List ℕ) (last : ℕ) → last ≢ 13 → without_return (front ++ last ∷ []) ≡ front ++ last ∷ []
    kept [] last other = ap (λ t. cond t [] (last ∷ [])) (ne_eqb last 13 other)
    kept (b ∷ []) last other = ap (λ l. b ∷ l) (kept [] last other)
    kept (b ∷ c ∷ front) last other = ap (λ l. b ∷ l) (kept (c ∷ front) last other)
