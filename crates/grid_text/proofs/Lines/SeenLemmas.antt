-- The words of a line as the reader holds them, each behind a reference: `seen` is the list of the words, and its
-- length, its first words, its fronts and tests of its words are those of the list of references.
use Rattle.std.proofs.Common.{◌≡◌, ◌≢◌, ℕ, zero, suc, ◌+◌, ◌-◌, ◌<◌, ◌≤◌, Bool, true, false, ◌||◌, List, [], ◌∷◌, ◌++◌, length, map, take, drop, get_or, Bor, refl, ap, ◌∙◌, sym, arith, true≢false}
use Rattle.std.proofs.lemmas.List.{take_all, take_more, map-append, length-map}
use Rattle.std.proofs.lemmas.Bool.{or_right}
use Rattle.std.specs.List.{list_any, flat_map}
use Rattle.grid_text.specs.Words.{Word, symbols, is_word}
use Rattle.grid_text.proofs.Lines.WordLemmas.{same_word, is_word-same}

-- the words
abbrev pub seen : List (Bor (List ℕ)) → List Word
seen words = map (λ w. w.now) words

-- one word
pub seen-one : (words : List (Bor (List ℕ))) (d : Bor (List ℕ)) → length words ≡ 1
    → seen words ≡ (get_or words 0 d).now ∷ []
seen-one [] d one = absurd (omega arith)
seen-one (v ∷ []) d one = refl
seen-one (v ∷ u ∷ words) d one = absurd (omega arith)

-- two words
pub seen-two : (words : List (Bor (List ℕ))) (d e : Bor (List ℕ)) → length words ≡ 2
    → seen words ≡ (get_or words 0 d).now ∷ (get_or words 1 e).now ∷ []
seen-two [] d e two = absurd (omega arith)
seen-two (t ∷ []) d e two = absurd (omega arith)
seen-two (t ∷ u ∷ []) d e two = refl
seen-two (t ∷ u ∷ r ∷ words) d e two = absurd (omega arith)

-- three words
pub seen-three : (words : List (Bor (List ℕ))) (d e f : Bor (List ℕ)) → length words ≡ 3
    → seen words ≡ (get_or words 0 d).now ∷ (get_or words 1 e).now ∷ (get_or words 2 f).now ∷ []
seen-three [] d e f three = absurd (omega arith)
seen-three (t ∷ []) d e f three = absurd (omega arith)
seen-three (t ∷ u ∷ []) d e f three = absurd (omega arith)
seen-three (t ∷ u ∷ r ∷ []) d e f three = refl
seen-three (t ∷ u ∷ r ∷ v ∷ words) d e f three = absurd (omega arith)

-- the first of three words
pub seen-three_first : (words : List (Bor (List ℕ))) (d : Bor (List ℕ)) → length words ≡ 3
    → (w : Word) × (u : Word) × (seen words ≡ (get_or words 0 d).now ∷ w ∷ u ∷ [])
seen-three_first words d three = ((get_or words 1 d).now, (get_or words 2 d).now, seen-three words d d d three)

-- the first and the last of three words
pub seen-three_ends : (words : List (Bor (List ℕ))) (d f : Bor (List ℕ)) → length words ≡ 3
    → (w : Word) × (seen words ≡ (get_or words 0 d).now ∷ w ∷ (get_or words 2 f).now ∷ [])
seen-three_ends words d f three = ((get_or words 1 d).now, seen-three words d d f three)

-- as many words
pub length-seen : (words : List (Bor (List ℕ))) → length (seen words) ≡ length words
length-seen words = length-map words (λ (w : Bor (List ℕ)). w.now)

-- no word
pub seen-none : (words : List (Bor (List ℕ))) → length words ≡ 0 → seen words ≡ []
seen-none [] none = refl
seen-none (w ∷ words) none = absurd (omega arith)

-- the first word and the others
pub seen-parts : (words : List (Bor (List ℕ))) (d : Bor (List ℕ)) → 1 ≤ length words
    → seen words ≡ (get_or words 0 d).now ∷ seen (take (length words - 1) (drop 1 words))
seen-parts [] d some = absurd (omega arith)
seen-parts (w ∷ words) d some =
    ap (λ (r : List (Bor (List ℕ))). w.now ∷ seen r) (sym (take_all (length (w ∷ words) - 1) words (omega arith)))

-- if the first is the one expected
pub seen-first : (words : List (Bor (List ℕ))) (expected : Word) (d : Bor (List ℕ)) → 1 ≤ length words
    → is_word expected (get_or words 0 d).now ≡ true
    → seen words ≡ expected ∷ seen (take (length words - 1) (drop 1 words))
seen-first words expected d some same =
    seen-parts words d some ∙ ap (λ w. w ∷ seen (take (length words - 1) (drop 1 words)))
    (sym (same_word expected (get_or words 0 d).now same))

-- and if it is not
pub seen-other : (words : List (Bor (List ℕ))) (expected : Word) (d : Bor (List ℕ)) → 1 ≤ length words
    → is_word expected (get_or words 0 d).now ≡ false
    → (rest : List Word) → seen words ≢ expected ∷ rest
seen-other words expected d some other rest e =
    let whole : (get_or words 0 d).now ∷ seen (take (length words - 1) (drop 1 words)) ≡ expected ∷ rest =
    sym (seen-parts words d some) ∙ e in
    let head : (get_or words 0 d).now ≡ expected = cc in
    true≢false (sym (is_word-same expected) ∙ ap (is_word expected) (sym head) ∙ other)

-- the second of two words
pub seen-second : (words : List (Bor (List ℕ))) (e : Bor (List ℕ)) → length words ≡ 2
    → (v : Word) × (seen words ≡ v ∷ (get_or words 1 e).now ∷ [])
seen-second words e two = ((get_or words 0 e).now, seen-two words e e two)

-- the third of three words, and the first
pub seen-third : (words : List (Bor (List ℕ))) (f : Bor (List ℕ)) → length words ≡ 3
    → (v : Word) × (u : Word) × (seen words ≡ v ∷ u ∷ (get_or words 2 f).now ∷ [])
seen-third words f three = ((get_or words 0 f).now, (get_or words 1 f).now, seen-three words f f f three)

pub seen-first_of_three : (words : List (Bor (List ℕ))) (d f : Bor (List ℕ)) → length words ≡ 3
    → (u : Word) × (seen words ≡ (get_or words 0 d).now ∷ u ∷ (get_or words 2 f).now ∷ [])
seen-first_of_three words d f three = ((get_or words 1 f).now, seen-three words d f f three)

-- one more word
pub seen-more : (words : List (Bor (List ℕ))) (i : ℕ) (d : Bor (List ℕ)) → i < length words
    → seen (take (i + 1) words) ≡ seen (take i words) ++ (get_or words i d).now ∷ []
seen-more words i d within =
    ap seen (take_more words i d within) ∙ map-append (λ (w : Bor (List ℕ)). w.now) (take i words)
    (get_or words i d ∷ [])

-- all words
pub seen-all : (words : List (Bor (List ℕ))) (i : ℕ) → length words ≤ i → seen (take i words) ≡ seen words
seen-all words i all = ap seen (take_all i words all)

-- one word that passes a test
pub seen-any : (p : Word → Bool) (words : List (Bor (List ℕ))) (i : ℕ) (d : Bor (List ℕ)) → i < length words
    → p (get_or words i d).now ≡ true → list_any p (seen words) ≡ true
seen-any p [] i d within passes = absurd (omega (arith, within))
seen-any p (w ∷ words) zero d within passes = ap (λ b. b || list_any p (seen words)) passes
seen-any p (w ∷ words) (suc i) d within passes =
    ap (λ b. p w.now || b) (seen-any p words i d (omega (arith, within)) passes) ∙ or_right (p w.now) true refl

-- the symbols of the words
pub symbols-seen : (words : List (Bor (List ℕ))) (i : ℕ) → length words ≤ i
    → flat_map (λ (w : Bor (List ℕ)). w.now) (take i words) ≡ symbols (seen words)
symbols-seen words i all = ap (flat_map (λ (w : Bor (List ℕ)). w.now)) (take_all i words all) ∙ whole words
  where
    whole : (words : List (Bor (List ℕ))) → flat_map (λ (w : Bor (List ℕ)). w.now) words ≡ symbols (seen words)
    whole [] = refl
    whole (w ∷ words) = ap (λ r. w.now ++ r) (whole words)
