-- Lines that are appended piece by piece.
use Rattle.std.proofs.Common.{◌≡◌, List, ℕ, ℤ, [], ◌∷◌, ◌++◌, codes, ap, ◌∙◌, append_assoc}
use Rattle.std.proofs.lemmas.Int.{to_z-of_z}
use Rattle.std.specs.Fmt.{signed_decimal}
use mir.Syntax.{w32, w64}
use mir.Val.{SFits, to_z, of_z}
use Rattle.text_lines.specs.Lines.{line}

-- what is printed of a signed number of 32 bits is the number
pub printed : (old new : List ℕ) (z : ℤ) → SFits w32 z → new ≡ old ++ signed_decimal (to_z w32 (of_z w32 z))
    → new ≡ old ++ signed_decimal z
printed old new z fits e = e ∙ ap (λ y. old ++ signed_decimal y) (to_z-of_z w32 z fits)

-- so is that of one of 64 bits
pub printed_long : (old new : List ℕ) (z : ℤ) → SFits w64 z → new ≡ old ++ signed_decimal (to_z w64 (of_z w64 z))
    → new ≡ old ++ signed_decimal z
printed_long old new z fits e = e ∙ ap (λ y. old ++ signed_decimal y) (to_z-of_z w64 z fits)

-- the pieces of a row make one line
pub row_line-pieces : (l m a d : List ℕ)
    → ((((((l ++ codes "rank ") ++ m) ++ 32 ∷ []) ++ a) ++ 32 ∷ []) ++ d) ++ 10 ∷ []
    ≡ l ++ line (codes "rank " ++ m ++ 32 ∷ a ++ 32 ∷ d)
row_line-pieces l m a d = simp append_assoc

-- so do those of a row of a table by component
pub multi_row_line-pieces : (l m ds d : List ℕ)
    → (((((l ++ codes "rank ") ++ m) ++ ds) ++ 32 ∷ []) ++ d) ++ 10 ∷ []
    ≡ l ++ line (codes "rank " ++ m ++ ds ++ 32 ∷ d)
multi_row_line-pieces l m ds d = simp append_assoc

-- the pieces of the line of a class make one line
pub class_line-pieces : (s x m a v : List ℕ)
    → (((((((((codes "class " ++ s) ++ 32 ∷ []) ++ x) ++ codes " at ") ++ m) ++ 32 ∷ []) ++ a) ++ 32 ∷ [])
    ++ v) ++ 10 ∷ []
    ≡ line (codes "class " ++ s ++ 32 ∷ x ++ codes " at " ++ m ++ 32 ∷ a ++ 32 ∷ v)
class_line-pieces s x m a v = simp append_assoc

-- the pieces of the line of an Euler number make one line
pub euler_line-pieces : (l a v : List ℕ)
    → ((((l ++ codes "at ") ++ a) ++ 32 ∷ []) ++ v) ++ 10 ∷ [] ≡ l ++ line (codes "at " ++ a ++ 32 ∷ v)
euler_line-pieces l a v = simp append_assoc

-- the pieces of a line of two values make one line
pub values_line-pieces : (l word v w told : List ℕ)
    → ((((((l ++ word) ++ v) ++ 32 ∷ []) ++ w) ++ 32 ∷ []) ++ told) ++ 10 ∷ []
    ≡ l ++ line (word ++ v ++ 32 ∷ w ++ 32 ∷ told)
values_line-pieces l word v w told = simp append_assoc

-- and those of a line of a word and what is told of it
pub word_line-pieces : (l word told : List ℕ) → ((l ++ word) ++ told) ++ 10 ∷ [] ≡ l ++ line (word ++ told)
word_line-pieces l word told = simp append_assoc
