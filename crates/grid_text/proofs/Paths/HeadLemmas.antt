-- The first line of the head, `grid`, `grid2` or `picture` with a size. It has a fault by the first of: another first
-- word, another number of words, and a word that is no size (`head-word` to `head-number`); without a fault it has a
-- size (`head-read`).
use Rattle.std.proofs.Common.{◌≡◌, ◌≢◌, ◌⊎◌, ℕ, true, false, ◌||◌, cond, List, [], ◌∷◌, length, Option, None, Some, refl, ap, subst, ◌∙◌, sym, arith, inl, inr}
use Rattle.std.specs.Prelude.{is_none}
use Rattle.std.specs.Fmt.{decimal}
use Rattle.std.proofs.lemmas.Bool.{cases_Bool}
use Rattle.std.proofs.Math.Bool.{or-false}
use Rattle.state_rank.specs.Bijection.{IsSize}
use Rattle.grid_text.specs.Words.{Word, is_word, numeral}
use Rattle.grid_text.specs.Script.{IsVersion}
use Rattle.grid_text.specs.Document.{head, grid_word, picture_word}
use Rattle.grid_text.specs.Faults.{number_between, size_form, form_among, form_at, has_bad, fault_in_table}
use Rattle.grid_text.specs.Inner.Kinds.{is_bad}
use Rattle.grid_text.specs.declared.faults.TextFault.TheVariants as fault
use Rattle.grid_text.proofs.Lines.WordLemmas.{same_word, is_word-other}
use Rattle.grid_text.proofs.Lines.KindLemmas.{count-other, count-exact, one_word, number_of_word, number-good}
use Rattle.grid_text.proofs.Lines.FaultLemmas.{NoRowHolds-from_none, fault_in_table-no_word, fault_in_table-bad_word, fault_in_table-last, fault_in_table-count, fault_in_table-number}

-- another first word is not known there
head-unknown : (w : Word) → is_word (grid_word 1) w ≡ false → is_word (grid_word 2) w ≡ false
    → is_word picture_word w ≡ false → form_at head w ≡ None
head-unknown w not_one not_two not_picture =
    ap (λ b. cond b (Some size_form) (form_among ((grid_word 2, size_form) ∷ (picture_word, size_form) ∷ []) w)) not_one
    ∙ ap (λ b. cond b (Some size_form) (form_among ((picture_word, size_form) ∷ []) w)) not_two
    ∙ ap (λ b. cond b (Some size_form) None) not_picture

-- the words of both versions are known
pub head-known : (v : ℕ) → IsVersion v → form_at head (grid_word v) ≡ Some size_form
head-known v (inl one) = ap (λ u. form_at head (grid_word u)) one
head-known v (inr two) = ap (λ u. form_at head (grid_word u)) two

pub head-word : (words : List Word) → ((rest : List Word) → words ≢ picture_word ∷ rest)
    → ((rest : List Word) → words ≢ grid_word 2 ∷ rest) → ((rest : List Word) → words ≢ grid_word 1 ∷ rest)
    → fault_in_table head words ≡ Some fault.BadWord
head-word [] not_picture not_two not_one = fault_in_table-no_word head refl
head-word (w ∷ arguments) not_picture not_two not_one =
    fault_in_table-bad_word head w arguments refl
    (head-unknown w (is_word-other (grid_word 1) w (λ e. not_one arguments (ap (λ v. v ∷ arguments) (sym e))))
    (is_word-other (grid_word 2) w (λ e. not_two arguments (ap (λ v. v ∷ arguments) (sym e))))
    (is_word-other picture_word w (λ e. not_picture arguments (ap (λ v. v ∷ arguments) (sym e)))))

module _ (word : Word) (known : form_at head word ≡ Some size_form) where
  -- another number of words
  pub head-count : (arguments : List Word) → length arguments ≢ 1
      → fault_in_table head (word ∷ arguments) ≡ Some fault.BadCount
  head-count arguments other =
      fault_in_table-count head size_form (word ∷ arguments) arguments refl known refl (count-other 1 arguments other)

  -- a word that is no size
  pub head-number : (arguments : List Word) (w : Word) → arguments ≡ w ∷ [] → numeral 2 10 w ≡ None
      → fault_in_table head (word ∷ arguments) ≡ Some fault.BadNumber
  head-number arguments w one bad =
      ap (λ a. fault_in_table head (word ∷ a)) one
      ∙ fault_in_table-number head size_form (word ∷ w ∷ []) (w ∷ []) refl known refl refl refl
      (ap (λ o. is_none o || false) bad)

  -- a right one has no fault
  pub head-right : (n : ℕ) → IsSize n → fault_in_table head (word ∷ decimal n ∷ []) ≡ None
  head-right n small =
      fault_in_table-last head size_form (word ∷ decimal n ∷ []) (decimal n ∷ []) refl known refl (record {
        count = refl;
        choice = refl;
        number = ap (λ b. b || false) (number-good 2 10 n small.least small.greatest (omega arith));
        permutation = refl;
        square = refl;
        state = refl;
        repeated = refl;
        commuting = refl;
        block = refl;
        limit = refl;
      })

  -- and the other way round
  head-read : (arguments : List Word) → fault_in_table head (word ∷ arguments) ≡ None
      → (n : ℕ) × (IsSize n × (arguments ≡ decimal n ∷ []))
  head-read arguments e =
      let rows = NoRowHolds-from_none head size_form (word ∷ arguments) arguments refl known refl e in
      let one = one_word arguments (count-exact 1 arguments rows.0.count) in
      let good = subst (λ a. has_bad fault.BadNumber size_form a ≡ false) one.1 rows.0.number in
      let n = number_of_word 2 10 one.0 (sym (or-false (is_bad (number_between 2 10) one.0)) ∙ good) in
      (n.0, (record { least = n.1.1; greatest = n.1.2 }, one.1 ∙ ap (λ v. v ∷ []) n.1.0))

-- what is known of a first line without a fault
pub head-cases : (words : List Word) → fault_in_table head words ≡ None
    → (n : ℕ) × (IsSize n × (((v : ℕ) × IsVersion v × (words ≡ grid_word v ∷ decimal n ∷ []))
    ⊎ (words ≡ picture_word ∷ decimal n ∷ [])))
head-cases [] e = let none : Some fault.BadWord ≡ None = sym (fault_in_table-no_word head refl) ∙ e in cc
head-cases (w ∷ arguments) e = elim (cases_Bool (is_word (grid_word 1) w)) [
  | inl t ↦ numbers 1 (inl refl) t
  | inr not_one ↦ elim (cases_Bool (is_word (grid_word 2) w)) [
    | inl t ↦ numbers 2 (inr refl) t
    | inr not_two ↦ elim (cases_Bool (is_word picture_word w)) [
      | inl t ↦ let r = read picture_word refl t in (r.0, (r.1.0, inr r.1.1))
      | inr not_picture ↦
          let none : Some fault.BadWord ≡ None =
          sym (fault_in_table-bad_word head w arguments refl (head-unknown w not_one not_two not_picture)) ∙ e in cc
    ]
  ]
]
  where
    read : (word : Word) → form_at head word ≡ Some size_form → is_word word w ≡ true
        → (n : ℕ) × (IsSize n × (w ∷ arguments ≡ word ∷ decimal n ∷ []))
    read word known t =
        let same = same_word word w t in
        let r = head-read word known arguments (ap (λ v. fault_in_table head (v ∷ arguments)) same ∙ e) in
        (r.0, (r.1.0, λ i. sym same i ∷ r.1.1 i))

    numbers : (v : ℕ) → IsVersion v → is_word (grid_word v) w ≡ true
        → (n : ℕ) × (IsSize n × (((v : ℕ) × IsVersion v × (w ∷ arguments ≡ grid_word v ∷ decimal n ∷ []))
        ⊎ (w ∷ arguments ≡ picture_word ∷ decimal n ∷ [])))
    numbers v is t = let r = read (grid_word v) (head-known v is) t in (r.0, (r.1.0, inl (v, is, r.1.1)))

-- what the reader has read of the size
pub size-numeral : (m : ℕ) (w : Word) (r o : Option ℕ) → m ≡ 10 → r ≡ numeral 2 m w → r ≡ o → numeral 2 10 w ≡ o
size-numeral m w r o same value is = ap (λ k. numeral 2 k w) (sym same) ∙ sym value ∙ is
