-- Keywords and the forms of the lines that begin with them. The table of forms has a row for each keyword, in
-- order, so that a word that is looked for among the keywords is looked up in the table; and the row of a
-- command's first word has the form of the command.
use Rattle.std.proofs.Common.{◌≡◌, ◌⊎◌, ℕ, true, false, cond, List, [], ◌∷◌, map, Option, None, Some, refl, ap, ◌∙◌, sym, inl, inr}
use Rattle.std.specs.List.{find}
use Rattle.std.proofs.lemmas.Bool.{cases_Bool}
use Rattle.torus_geom.specs.Marks.{size}
use Rattle.grid_moves.specs.declared.commutations.Axis.{Axis}
use Rattle.grid_moves.specs.declared.commutations.Axis.TheVariants.{Cols, Rows}
use Rattle.grid_symmetry.specs.declared.symmetries.Symmetry.TheVariants.{Flip, Half, Mirror, Marks as ExchangeMarks}
use Rattle.grid_text.specs.Words.{Word, is_word}
use Rattle.grid_text.specs.Commands.{command_row}
use Rattle.grid_text.specs.Script.{GridScript, grid_in_force}
use Rattle.grid_text.specs.Document.{body, end_word}
use Rattle.grid_text.specs.Faults.{Form, exactly, form_of, form_among, form_at, body_forms}
use Rattle.grid_text.specs.Inner.Reading.{keyword_word, keyword_form, stands_alone}
use Rattle.grid_text.specs.declared.commands.Command.{Command}
use Rattle.grid_text.specs.declared.commands.Command.TheVariants as command
use Rattle.grid_text.specs.declared.keywords.TheConstants.{KEYWORDS}
use Rattle.grid_text.specs.declared.keywords.Keyword.{Keyword}
use Rattle.grid_text.specs.declared.keywords.Keyword.TheVariants as keyword
use Rattle.grid_text.proofs.Lines.KindLemmas.{word-find}

-- the rows of some keywords
abbrev keyword_rows : ℕ → List Keyword → List (Word × Form)
keyword_rows n ks = map (λ k. (keyword_word k, keyword_form n k)) ks

-- if none of them is the word, their rows do not know it
form_among-none : (n : ℕ) (ks : List Keyword) (word : Word) → find (λ k. is_word (keyword_word k) word) ks ≡ None
    → form_among (keyword_rows n ks) word ≡ None
form_among-none n [] word e = refl
form_among-none n (k ∷ ks) word e = elim (cases_Bool (is_word (keyword_word k) word)) [
  | inl t ↦ let clash : Some k ≡ None =
      sym (ap (λ b. cond b (Some k) (find (λ j. is_word (keyword_word j) word) ks)) t) ∙ e in cc
  | inr f ↦
      ap (λ b. cond b (Some (keyword_form n k)) (form_among (keyword_rows n ks) word)) f
      ∙ form_among-none n ks word (sym (ap (λ b. cond b (Some k) (find (λ j. is_word (keyword_word j) word) ks)) f) ∙ e)
]

-- a word that is no keyword is unknown to the table
pub unknown_word : (n : ℕ) (word : Word) → find (λ k. is_word (keyword_word k) word) KEYWORDS ≡ None
    → form_among (body_forms n) word ≡ None
unknown_word n word none = form_among-none n KEYWORDS word none

-- a word is a keyword, or the table does not know it
pub keyword_cases : (n : ℕ) (word : Word)
    → ((k : Keyword) × (word ≡ keyword_word k)) ⊎ (form_among (body_forms n) word ≡ None)
keyword_cases n word = by (find (λ k. is_word (keyword_word k) word) KEYWORDS) refl
  where
    by : (o : Option Keyword) → find (λ k. is_word (keyword_word k) word) KEYWORDS ≡ o
        → ((k : Keyword) × (word ≡ keyword_word k)) ⊎ (form_among (body_forms n) word ≡ None)
    by None e = inr (unknown_word n word e)
    by (Some k) e = inl (k, word-find keyword_word KEYWORDS word k e)

-- the form of a keyword is that of the table
pub form_at-keyword : (s : GridScript) (k : Keyword)
    → form_at (body s) (keyword_word k) ≡ Some (keyword_form (size (grid_in_force s)) k)
form_at-keyword s keyword.End = refl
form_at-keyword s k = refl

-- so is the form of a command
pub form_at-command : (s : GridScript) (c : Command)
    → form_at (body s) (command_row c).0 ≡ Some (form_of (size (grid_in_force s)) c)
form_at-command s (command.Commute Cols c v) = refl
form_at-command s (command.Commute Rows c v) = refl
form_at-command s (command.Symm Flip) = refl
form_at-command s (command.Symm Half) = refl
form_at-command s (command.Symm Mirror) = refl
form_at-command s (command.Symm ExchangeMarks) = refl
form_at-command s c = refl

-- a command does not begin with `end`
pub not_end : (c : Command) → is_word end_word (command_row c).0 ≡ false
not_end (command.Commute Cols c v) = refl
not_end (command.Commute Rows c v) = refl
not_end (command.Symm Flip) = refl
not_end (command.Symm Half) = refl
not_end (command.Symm Mirror) = refl
not_end (command.Symm ExchangeMarks) = refl
not_end c = refl

-- a keyword that stands alone has no further words, in any grid
pub form-stands_alone : (n : ℕ) (k : Keyword) → stands_alone k ≡ true → keyword_form n k ≡ exactly []
form-stands_alone n keyword.Class e = let clash : false ≡ true = e in cc
form-stands_alone n keyword.Border e = let clash : false ≡ true = e in cc
form-stands_alone n keyword.Chain e = let clash : false ≡ true = e in cc
form-stands_alone n keyword.Turn e = let clash : false ≡ true = e in cc
form-stands_alone n keyword.Cols e = let clash : false ≡ true = e in cc
form-stands_alone n keyword.Rows e = let clash : false ≡ true = e in cc
form-stands_alone n keyword.Stab e = let clash : false ≡ true = e in cc
form-stands_alone n keyword.Destab e = let clash : false ≡ true = e in cc
form-stands_alone n keyword.Invert e = let clash : false ≡ true = e in cc
form-stands_alone n k e = refl

-- the keyword of the axis
abbrev pub keyword_of_axis : Axis → Keyword
keyword_of_axis Cols = keyword.Cols
keyword_of_axis Rows = keyword.Rows
