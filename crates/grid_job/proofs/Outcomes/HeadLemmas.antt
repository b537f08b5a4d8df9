-- The head of a document begins at one of its lines: the first that is not blank.
use Rattle.std.proofs.Common.{◌≡◌, ℕ, ◌+◌, List, [], ◌∷◌, true, refl, sym, ap, subst, inl, inr, arith}
use Rattle.std.proofs.lemmas.List.Elements.{All-nil, All-cons}
use Rattle.grid_text.specs.Words.{Word, is_blank}
use Rattle.grid_text.specs.Document.{Place, head, ended, LeadsOn, Path, IsHeadLine}
use Rattle.grid_text.specs.Script.{GridScript}

-- one more blank line above
IsHeadLine-below : (words : List Word) (lines : List (List Word)) (line : ℕ) → is_blank words ≡ true
    → IsHeadLine lines line
    → IsHeadLine (words ∷ lines) (line + 1)
IsHeadLine-below words lines line blank h = record {
  before = words ∷ h.before;
  words = h.words;
  after = h.after;
  next = h.next;
  split = ap (λ ls. words ∷ ls) h.split;
  blank = All-cons (λ ws. is_blank ws ≡ true) words h.before blank h.blank;
  leads = h.leads;
  number = let below = h.number in omega (arith, below);
}

IsHeadLine-first : (words : List Word) (lines : List (List Word)) (p : Place) → LeadsOn head words p
    → IsHeadLine (words ∷ lines) 1
IsHeadLine-first words lines p leads = record {
  before = [];
  words = words;
  after = lines;
  next = p;
  split = refl;
  blank = All-nil (λ ws. is_blank ws ≡ true);
  leads = leads;
  number = refl;
}

not_at_the_end : (s : GridScript) → head ≡ ended s → ⊥
not_at_the_end s e = cc

pub some_head : (lines : List (List Word)) (s : GridScript) → Path head lines (ended s)
    → (line : ℕ) × IsHeadLine lines line
some_head [] s path = absurd (not_at_the_end s path)
some_head (words ∷ lines) s path = elim path.1 [
  | inl stays ↦ let below = some_head lines s (subst (λ p. Path p lines (ended s)) (sym stays.1) path.2) in
      (below.0 + 1, IsHeadLine-below words lines below.0 stays.0 below.1)
  | inr leads ↦ (1, IsHeadLine-first words lines path.0 leads)
]
