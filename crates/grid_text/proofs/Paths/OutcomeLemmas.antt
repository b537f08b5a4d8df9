-- Every text is a document or has a first fault, and no text has two first faults. The lines are gone through
-- from the head: a line without a fault leads on, so that either all lines lead to the end, or some line is the
-- first with a fault, or `end` is missing. Two paths over the same lines meet at each place, so that the first
-- fault of the one is that of the other.
use Rattle.std.proofs.Common.{◌≡◌, ◌⊎◌, ℕ, suc, ◌+◌, false, List, [], ◌∷◌, ◌++◌, length, Option, None, Some, refl, ap, subst, ◌∙◌, sym, inl, inr}
use Rattle.std.proofs.lemmas.List.{append-nil, append_assoc}
use Rattle.grid_text.specs.Words.{Word, words_of_lines}
use Rattle.grid_text.specs.Script.{GridScript}
use Rattle.grid_text.specs.Document.{Place, head, o_line, x_line, picture, body, ended, Leads, Path, IsDocument}
use Rattle.grid_text.specs.Faults.{line_fault, is_after_end, HaveFirstFault, IsFirstFault}
use Rattle.grid_text.specs.Inner.Reading.{IsPlace}
use Rattle.grid_text.specs.declared.faults.TextFault.{TextFault}
use Rattle.grid_text.specs.declared.faults.TextFault.TheVariants as fault
use Rattle.grid_text.proofs.Paths.FirstFaultLemmas.{HaveFault, HaveNoEnd, HaveFirstFault-fault, HaveFirstFault-no_end, HaveFirstFault-cases}
use Rattle.grid_text.proofs.Paths.PlaceLemmas.{IsPlace-next, IsPlace-path, line_fault-leads, leads-no_fault, one_place}
use Rattle.grid_text.proofs.Paths.JudgementLemmas.{Path-more, Path-rest, head_of, tail_of}

-- lines are those of a script, or have a first fault
abbrev pub Outcome : List (List Word) → Type 0
Outcome lines =
    ((s : GridScript) × Path head lines (ended s)) ⊎ ((f : TextFault) × (line : ℕ) × HaveFirstFault lines f line)

-- all lines are allowed, and `end` was not met
no_end : (lines : List (List Word)) (p : Place) → Path head lines p → is_after_end p ≡ false → Outcome lines
no_end lines p path open_end =
    inr (
      fault.NoEnd,
      length lines + 1,
      HaveFirstFault-no_end lines (length lines + 1)
          (record { place = p; path = path; not_ended = open_end; number = refl }),
    )

-- all lines are allowed
at_the_end : (lines : List (List Word)) (p : Place) → Path head lines p → Outcome lines
at_the_end lines (ended s) path = inl (s, path)
at_the_end lines head path = no_end lines head path refl
at_the_end lines (o_line v n) path = no_end lines (o_line v n) path refl
at_the_end lines (x_line v n o) path = no_end lines (x_line v n o) path refl
at_the_end lines (picture n o x) path = no_end lines (picture n o x) path refl
at_the_end lines (body s) path = no_end lines (body s) path refl

-- one line has a fault or leads on
one_line : (lines before after : List (List Word)) (words : List Word) (p : Place) → lines ≡ before ++ words ∷ after
    → Path head before p → ((q : Place) → Leads p words q → Outcome lines) → (o : Option TextFault)
    → line_fault p words ≡ o
    → Outcome lines
one_line lines before after words p e path next None none =
    let led = leads-no_fault p words (IsPlace-path head p before tt path) none in next led.0 led.1
one_line lines before after words p e path next (Some f) faulty =
    inr (
      f,
      length before + 1,
      HaveFirstFault-fault lines f (length before + 1) (record {
        before = before;
        words = words;
        after = after;
        place = p;
        split = e;
        path = path;
        faulty = faulty;
        number = refl;
      }),
    )

-- the lines that are left, from the place that those before lead to
from_place : (lines before after : List (List Word)) (p : Place) → lines ≡ before ++ after → Path head before p
    → Outcome lines
from_place lines before [] p e path =
    at_the_end lines p (subst (λ ls. Path head ls p) (sym (e ∙ append-nil before)) path)
from_place lines before (words ∷ after) p e path =
    one_line lines before after words p e path
    (λ q l. from_place lines (before ++ words ∷ []) after q (e ∙ sym (append_assoc before (words ∷ []) after))
    (Path-more head p q before words path l))
    (line_fault p words) refl

-- any lines
pub every_outcome : (lines : List (List Word)) → Outcome lines
every_outcome lines = from_place lines [] lines head refl refl

-- every text
pub every_text : (text : List ℕ)
    → ((s : GridScript) × IsDocument text s) ⊎ ((f : TextFault) × (line : ℕ) × IsFirstFault text f line)
every_text text = every_outcome (words_of_lines text)

-- ---- one first fault

-- the first faults of the same lines are one
same_fault : (p q r : Place) (a b after later : List (List Word)) (v w : List Word) (f g : TextFault) → IsPlace p
    → Path p a q → Path p b r
    → a ++ v ∷ after ≡ b ++ w ∷ later → line_fault q v ≡ Some f → line_fault r w ≡ Some g
    → (f ≡ g) × (length a ≡ length b)
unfolding head_of tail_of
same_fault p q r [] [] after later v w f g h s t e x y =
    let words : v ≡ w = ap (head_of v) e in
    let places : q ≡ r = sym s ∙ t in
    let both : Some f ≡ Some g = sym x ∙ ap (λ k. line_fault k v) places ∙ ap (line_fault r) words ∙ y in
    (cc, refl)
same_fault p q r [] (u ∷ b) after later v w f g h s t e x y =
    let words : v ≡ u = ap (head_of v) e in
    let none = line_fault-leads p t.0 u h t.1 in
    let clash : Some f ≡ None = sym x ∙ ap (λ k. line_fault k v) (sym s) ∙ ap (line_fault p) words ∙ none in
    cc
same_fault p q r (u ∷ a) [] after later v w f g h s t e x y =
    let words : u ≡ w = ap (head_of u) e in
    let none = line_fault-leads p s.0 u h s.1 in
    let clash : Some g ≡ None = sym y ∙ ap (λ k. line_fault k w) (sym t) ∙ ap (line_fault p) (sym words) ∙ none in
    cc
same_fault p q r (u ∷ a) (z ∷ b) after later v w f g h s t e x y =
    let words : u ≡ z = ap (head_of u) e in
    let next : s.0 ≡ t.0 = one_place p s.0 t.0 u h s.1 (subst (λ k. Leads p k t.0) (sym words) t.1) in
    let more = same_fault s.0 q r a b after later v w f g (IsPlace-next p s.0 u h s.1) s.2
    (subst (λ k. Path k b r) (sym next) t.2) (ap tail_of e) x y in
    (more.0, ap suc more.1)

-- if some line has a fault, not every line is allowed
not_open : (lines : List (List Word)) (f : TextFault) (line number : ℕ) → HaveFault lines f line
    → HaveNoEnd lines number → ⊥
not_open lines f line number first open_end =
    let path = Path-rest head first.place open_end.place first.before (first.words ∷ first.after) tt first.path
    (subst (λ ls. Path head ls open_end.place) first.split open_end.path) in
    let none = line_fault-leads first.place path.0 first.words
    (IsPlace-path head first.place first.before tt first.path) path.1 in
    let clash : Some f ≡ None = sym first.faulty ∙ none in
    cc

-- one first fault, in either way
one_fault_of_ways : (lines : List (List Word)) (f g : TextFault) (line number : ℕ)
    → HaveFault lines f line ⊎ (HaveNoEnd lines line × (f ≡ fault.NoEnd))
    → HaveFault lines g number ⊎ (HaveNoEnd lines number × (g ≡ fault.NoEnd)) → (f ≡ g) × (line ≡ number)
one_fault_of_ways lines f g line number (inl x) (inl y) =
    let both = same_fault head x.place y.place x.before y.before x.after y.after x.words y.words f g tt x.path y.path
    (sym x.split ∙ y.split) x.faulty y.faulty in
    (both.0, x.number ∙ ap (λ n. n + 1) both.1 ∙ sym y.number)
one_fault_of_ways lines f g line number (inl x) (inr y) = absurd (not_open lines f line number x y.0)
one_fault_of_ways lines f g line number (inr x) (inl y) = absurd (not_open lines g number line y x.0)
one_fault_of_ways lines f g line number (inr x) (inr y) = (x.1 ∙ sym y.1, x.0.number ∙ sym y.0.number)

-- lines have one first fault, at one line
pub one_fault_of_lines : (lines : List (List Word)) (f g : TextFault) (line number : ℕ) → HaveFirstFault lines f line
    → HaveFirstFault lines g number → (f ≡ g) × (line ≡ number)
one_fault_of_lines lines f g line number x y =
    one_fault_of_ways lines f g line number (HaveFirstFault-cases lines f line x)
    (HaveFirstFault-cases lines g number y)

-- so has a text
pub one_fault : (text : List ℕ) (f g : TextFault) (line number : ℕ) → IsFirstFault text f line
    → IsFirstFault text g number
    → (f ≡ g) × (line ≡ number)
one_fault text f g line number x y = one_fault_of_lines (words_of_lines text) f g line number x y
