-- Pairs of documents: every text is one or is refused for something, and not both, since each part is a document or has
-- a first fault.
use Rattle.std.proofs.Common.{◌≡◌, ◌⊎◌, ℕ, ◌+◌, ◌≤◌, List, length, Option, Some, None, refl, sym, ap, subst, ◌∙◌, inl, inr, arith, length-append}
use Rattle.grid_text.specs.Words.{Word, words_of_lines}
use Rattle.grid_text.specs.Script.{GridScript}
use Rattle.grid_text.specs.Document.{head, ended, Path, IsDocument}
use Rattle.grid_text.specs.Faults.{HaveFirstFault, IsFirstFault}
use Rattle.grid_text.specs.Pairs.{first_part, second_part, IsPair, PairFault, in_part, no_next, IsFirstPairFault, IsPairEnd}
use Rattle.grid_text.specs.Inner.Cuts.{AreParts, IsPartEnd}
use Rattle.grid_text.specs.declared.faults.TextFault.{TextFault}
use Rattle.grid_text.specs.declared.pairs.PairEnd.{PairEnd}
use Rattle.grid_text.specs.declared.pairs.PairEnd.TheVariants as stop
use Rattle.grid_text.proofs.Lines.CutLemmas.{first_part-whole, length-lines}
use Rattle.grid_text.proofs.Paths.JudgementLemmas.{one_script_of_lines, no_document_of_lines}
use Rattle.grid_text.proofs.Paths.OutcomeLemmas.{every_outcome, one_fault_of_lines}

same_later : (a b : List (List Word)) (o : Option (List (List Word))) → o ≡ Some a → o ≡ Some b → a ≡ b
same_later a b o x y = let both : Some a ≡ Some b = sym x ∙ y in cc

-- ---- every text
pub every_pair_text : (text : List ℕ) → ((s : GridScript) × (t : GridScript) × IsPair text s t)
    ⊎ ((f : PairFault) × (line : ℕ) × IsFirstPairFault text f line)
every_pair_text text = elim (every_outcome (first_part (words_of_lines text))) [
  | inl document ↦ second document.0 document.1 (second_part (words_of_lines text)) refl
  | inr faulty ↦ inr (in_part faulty.0, faulty.1, inl faulty.2)
]
  where
    second : (s : GridScript) → Path head (first_part (words_of_lines text)) (ended s) → (o : Option (List (List Word)))
        → second_part (words_of_lines text) ≡ o
        → ((s : GridScript) × (t : GridScript) × IsPair text s t)
        ⊎ ((f : PairFault) × (line : ℕ) × IsFirstPairFault text f line)
    second s path None none = inr (
      no_next,
      length (words_of_lines text) + 1,
      record {
        script = s;
        document = subst (λ ls. Path head ls (ended s)) (first_part-whole (words_of_lines text) none) path;
        none = none;
        counted = refl;
      },
    )
    second s path (Some later) parted = elim (every_outcome later) [
      | inl document ↦ inl (
        s,
        document.0,
        record { first = path; later = later; parted = parted; second = document.1 },
      )
      | inr faulty ↦ inr (
        in_part faulty.0,
        length (first_part (words_of_lines text)) + 1 + faulty.1,
        inr (record {
          script = s;
          first = path;
          later = later;
          parted = parted;
          number = faulty.1;
          faulty = faulty.2;
          counted = refl;
        }),
      )
    ]

-- ---- not both
pub no_pair : (text : List ℕ) (f : PairFault) (line : ℕ) (s t : GridScript) → IsFirstPairFault text f line
    → IsPair text s t → ⊥
no_pair text (in_part f) line s t (inl first) pair =
    no_document_of_lines (first_part (words_of_lines text)) f line s first pair.first
no_pair text (in_part f) line s t (inr second) pair =
    no_document_of_lines pair.later f second.number t
    (subst (λ ls. HaveFirstFault ls f second.number)
    (same_later second.later pair.later (second_part (words_of_lines text)) second.parted pair.parted) second.faulty)
    pair.second
no_pair text no_next line s t missing pair =
    let both : Some pair.later ≡ None = sym pair.parted ∙ missing.none in cc

-- ---- one
pub one_pair : (text : List ℕ) (s t u v : GridScript) → IsPair text s t → IsPair text u v → (s ≡ u) × (t ≡ v)
one_pair text s t u v p q = (
  one_script_of_lines (first_part (words_of_lines text)) s u p.first q.first,
  one_script_of_lines q.later t v
      (subst (λ ls. Path head ls (ended t))
      (same_later p.later q.later (second_part (words_of_lines text)) p.parted q.parted) p.second)
      q.second,
)

pub one_pair_fault : (text : List ℕ) (f g : PairFault) (line number : ℕ) → IsFirstPairFault text f line
    → IsFirstPairFault text g number → (f ≡ g) × (line ≡ number)
one_pair_fault text (in_part f) (in_part g) line number (inl x) (inl y) =
    let (same, at) = one_fault_of_lines (first_part (words_of_lines text)) f g line number x y in
    (ap in_part same, at)
one_pair_fault text (in_part f) (in_part g) line number (inl x) (inr y) =
    absurd (no_document_of_lines (first_part (words_of_lines text)) f line y.script x y.first)
one_pair_fault text (in_part f) (in_part g) line number (inr x) (inl y) =
    absurd (no_document_of_lines (first_part (words_of_lines text)) g number x.script y x.first)
one_pair_fault text (in_part f) (in_part g) line number (inr x) (inr y) =
    let (same, at) = one_fault_of_lines y.later f g x.number y.number
    (subst (λ ls. HaveFirstFault ls f x.number)
    (same_later x.later y.later (second_part (words_of_lines text)) x.parted y.parted) x.faulty) y.faulty in
    (ap in_part same, x.counted ∙ ap (λ n. length (first_part (words_of_lines text)) + 1 + n) at ∙ sym y.counted)
one_pair_fault text (in_part f) no_next line number (inl x) y =
    absurd (no_document_of_lines (words_of_lines text) f line y.script
    (subst (λ ls. HaveFirstFault ls f line) (first_part-whole (words_of_lines text) y.none) x) y.document)
one_pair_fault text (in_part f) no_next line number (inr x) y =
    let both : Some x.later ≡ None = sym x.parted ∙ y.none in cc
one_pair_fault text no_next (in_part g) line number x (inl y) =
    absurd (no_document_of_lines (words_of_lines text) g number x.script
    (subst (λ ls. HaveFirstFault ls g number) (first_part-whole (words_of_lines text) x.none) y) x.document)
one_pair_fault text no_next (in_part g) line number x (inr y) =
    let both : Some y.later ≡ None = sym y.parted ∙ x.none in cc
one_pair_fault text no_next no_next line number x y = (refl, x.counted ∙ sym y.counted)

-- ---- what the reader finds
-- a first fault is at most one line past the last
pub fault_line-bound : (text : List ℕ) (f : TextFault) (line : ℕ) → IsFirstFault text f line
    → line ≤ length text + 1
fault_line-bound text f line h =
    let few = length-lines text in
    let split = ap length h.split ∙ length-append h.before h.rest in
    let number = h.number in
    omega (arith, few, split, number)

-- without a line `next`
pub refused-whole : (text : List ℕ) (e : PairEnd) → second_part (words_of_lines text) ≡ None → IsPartEnd text 0 e
    → IsPairEnd text e
refused-whole text (stop.Refused f line) none (number, first, at) =
    let same : number ≡ line = omega (arith, at) in
    inl (subst (HaveFirstFault (first_part (words_of_lines text)) f) same
    (subst (λ ls. HaveFirstFault ls f number) (sym (first_part-whole (words_of_lines text) none)) first))
refused-whole text (stop.NoNext line) none never = absurd never
refused-whole text stop.NoMemory none free = tt

pub no_next-whole : (text : List ℕ) (s : GridScript) (line : ℕ) → second_part (words_of_lines text) ≡ None
    → line ≡ length (words_of_lines text) + 1 → IsDocument text s → IsFirstPairFault text no_next line
no_next-whole text s line none number document =
    record { script = s; document = document; none = none; counted = number }

module _ (text first second : List ℕ) (line : ℕ) (parts : AreParts text first second line) where
  -- in the first part
  pub refused-first : (e : PairEnd) → IsPartEnd first 0 e → IsPairEnd text e
  refused-first (stop.Refused f number) (own, faulty, at) =
      let same : own ≡ number = omega (arith, at) in
      inl (subst (HaveFirstFault (first_part (words_of_lines text)) f) same
      (subst (λ ls. HaveFirstFault ls f own) parts.before faulty))
  refused-first (stop.NoNext number) never = absurd never
  refused-first stop.NoMemory free = tt

  -- in the second
  pub refused-second : (s : GridScript) (e : PairEnd) → IsDocument first s → IsPartEnd second line e → IsPairEnd text e
  refused-second s (stop.Refused f number) document (own, faulty, at) =
      inr (record {
        script = s;
        first = subst (λ ls. Path head ls (ended s)) parts.before document;
        later = words_of_lines second;
        parted = parts.after;
        number = own;
        faulty = faulty;
        counted = at ∙ ap (λ k. k + own) (parts.number ∙ ap (λ ls. length ls + 1) parts.before);
      })
  refused-second s (stop.NoNext number) document never = absurd never
  refused-second s stop.NoMemory document free = tt

  -- in none
  pub pair-parts : (s t : GridScript) → IsDocument first s → IsDocument second t → IsPair text s t
  pair-parts s t d e = record {
    first = subst (λ ls. Path head ls (ended s)) parts.before d;
    later = words_of_lines second;
    parted = parts.after;
    second = e;
  }
