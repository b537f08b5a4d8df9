-- The lines that were judged so far, and the laws of the judgement. The same lines lead from the head to one place,
-- so they are those of one script; and a line with a fault leads nowhere, so they have no first fault then.
use Rattle.std.proofs.Common.{◌≡◌, ◌⊎◌, ◌↔◌, ℕ, suc, ◌+◌, ◌<◌, ◌≤◌, Bool, true, false, cond, List, [], ◌∷◌, ◌++◌, length, map, None, Some, Result, Ok, Err, IfOk, refl, ap, subst, ◌∙◌, sym, arith, inl, inr, true≢false, length-append}
use Rattle.std.specs.Prelude.{◌==◌}
use Rattle.std.specs.List.{All}
use Rattle.std.proofs.lemmas.Bool.{cases_Bool}
use Rattle.std.proofs.lemmas.List.Elements.{All-push, All-tail}
use Rattle.std.proofs.lemmas.List.{append-nil, append_assoc}
use Rattle.grid_text.specs.Picture.{grid_of_rows}
use Rattle.grid_text.specs.Words.{Word, is_blank, lines_of, words_of, words_of_lines}
use Rattle.grid_text.specs.Script.{GridScript}
use Rattle.grid_text.specs.Document.{Place, head, o_line, x_line, picture, body, ended, body_of, below_row, LeadsOn, Leads, Path, IsDocument, IsHeadLine}
use Rattle.grid_text.specs.Faults.{line_fault, is_after_end, HaveFirstFault, IsFirstFault}
use Rattle.grid_text.specs.Inner.Reading.{IsPlace}
use Rattle.grid_text.specs.Inner.Next.{place_of, is_head, IsNextOn, IsNext}
use Rattle.grid_text.specs.declared.places.Place.{Place as StoredPlace}
use Rattle.grid_text.specs.declared.places.Place.TheVariants as stored
use Rattle.grid_text.specs.declared.faults.TextFault.{TextFault}
use Rattle.grid_text.specs.declared.faults.TextFault.TheVariants as fault
use Rattle.grid_text.proofs.Paths.FirstFaultLemmas.{HaveFault, HaveNoEnd, HaveFirstFault-no_end, HaveFirstFault-cases}
use Rattle.grid_text.proofs.Paths.PlaceLemmas.{filled-leads_on, IsPlace-next, IsPlace-path, line_fault-leads, line_fault-filled, leads-no_fault, one_place}

-- at the head all lines are blank; past it, the line where it begins is known
abbrev HasHead : List (List Word) → ℕ → Place → Type 0
HasHead lines grid_line head = All (λ words. is_blank words ≡ true) lines
HasHead lines grid_line p = IsHeadLine lines grid_line

-- the lines before the number lead to the place, and the rest is to be judged
pub record HasRead (text : List ℕ) (line grid_line : ℕ) (rest : List ℕ) (p : Place) : Type 0 where
  pub before : List (List Word)
  pub lines : words_of_lines text ≡ before ++ words_of_lines rest
  pub path : Path head before p
  pub number : line ≡ length before + 1
  pub room : length before + length rest ≤ length text
  pub place : IsPlace p
  pub begun : HasHead before grid_line p

-- at first
pub HasRead-none : (text : List ℕ) → HasRead text 1 1 text head
HasRead-none text = record {
  before = [];
  lines = refl;
  path = refl;
  number = refl;
  room = omega arith;
  place = tt;
  begun = λ k d l. absurd (omega (arith, l));
}

-- no line leads on to the head
below_row-head : (n : ℕ) (o x : List ℕ) → head ≡ below_row n o x → ⊥
below_row-head n o x e = elim (cases_Bool (length o == n)) [
  | inl all ↦ let at : head ≡ body_of 1 (grid_of_rows o x) =
      e ∙ ap (λ b. cond b (body_of 1 (grid_of_rows o x)) (picture n o x)) all in cc
  | inr more ↦ let at : head ≡ picture n o x =
      e ∙ ap (λ b. cond b (body_of 1 (grid_of_rows o x)) (picture n o x)) more in cc
]

leads_on-head : (p : Place) (words : List Word) → LeadsOn p words head → ⊥
leads_on-head head words (n, small, inl l) = let e = l.3 in cc
leads_on-head head words (n, small, inr l) = let e = l.1 in cc
leads_on-head (o_line v n) words l = let e = l.3 in cc
leads_on-head (x_line v n o) words l = let e = l.4 in cc
leads_on-head (picture n o x) words l = below_row-head n (l.0 ∷ o) (l.1 ∷ x) l.4
leads_on-head (body s) words (inl l) = let e = l.1 in cc
leads_on-head (body s) words (inr l) = let e = l.4 in cc
leads_on-head (ended s) words l = l

-- the line where the head begins is known at each place that a line leads on to
HasHead-leads_on : (lines : List (List Word)) (grid_line : ℕ) (p q : Place) (words : List Word) → LeadsOn p words q
    → IsHeadLine lines grid_line → HasHead lines grid_line q
HasHead-leads_on lines grid_line p head words l h = absurd (leads_on-head p words l)
HasHead-leads_on lines grid_line p q words l h = h

-- one more line after it
IsHeadLine-more : (lines : List (List Word)) (words : List Word) (grid_line : ℕ) → IsHeadLine lines grid_line
    → IsHeadLine (lines ++ words ∷ []) grid_line
IsHeadLine-more lines words grid_line h = record {
  before = h.before;
  words = h.words;
  after = h.after ++ words ∷ [];
  next = h.next;
  split = ap (λ ls. ls ++ words ∷ []) h.split ∙ append_assoc h.before (h.words ∷ h.after) (words ∷ []);
  blank = h.blank;
  leads = h.leads;
  number = h.number;
}

-- one more line
HasHead-more : (lines : List (List Word)) (words : List Word) (line grid_line : ℕ) (p q : Place)
    → line ≡ length lines + 1 → Leads p words q → HasHead lines grid_line p
    → HasHead (lines ++ words ∷ []) (cond (is_head p) line grid_line) q
HasHead-more lines words line grid_line head q number (inl stays) h =
    subst (HasHead (lines ++ words ∷ []) line) stays.1
    (All-push (λ ws. is_blank ws ≡ true) lines words h stays.0)
HasHead-more lines words line grid_line head q number (inr l) h =
    HasHead-leads_on (lines ++ words ∷ []) line head q words l (record {
      before = lines;
      words = words;
      after = [];
      next = q;
      split = refl;
      blank = h;
      leads = l;
      number = number;
    })
HasHead-more lines words line grid_line p q number (inl stays) h =
    subst (HasHead (lines ++ words ∷ []) grid_line) stays.1 (IsHeadLine-more lines words grid_line h)
HasHead-more lines words line grid_line p q number (inr l) h =
    HasHead-leads_on (lines ++ words ∷ []) grid_line p q words l (IsHeadLine-more lines words grid_line h)

-- one more line at the end of a path
pub Path-more : (p q r : Place) (lines : List (List Word)) (words : List Word) → Path p lines q → Leads q words r
    → Path p (lines ++ words ∷ []) r
Path-more p q r [] words e l = (r, subst (λ x. Leads x words r) (sym e) l, refl)
Path-more p q r (first ∷ lines) words path l = (path.0, path.1, Path-more path.0 q r lines words path.2 l)

-- one more line
pub HasRead-more : (text : List ℕ) (line grid_line begins : ℕ) (rest bytes after : List ℕ) (p q : Place)
    → HasRead text line grid_line rest p → begins ≡ cond (is_head p) line grid_line
    → lines_of rest ≡ bytes ∷ lines_of after → length after < length rest
    → Leads p (words_of bytes) q × IsPlace q → HasRead text (line + 1) begins after q
HasRead-more text line grid_line begins rest bytes after p q h from e shorter next =
    let room = h.room in
    let number = h.number in
    let more = length-append h.before (words_of bytes ∷ []) in
    record {
      before = h.before ++ words_of bytes ∷ [];
      lines =
          h.lines ∙ ap (λ ls. h.before ++ map words_of ls) e
          ∙ sym (append_assoc h.before (words_of bytes ∷ []) (words_of_lines after));
      path = Path-more head p q h.before (words_of bytes) h.path next.0;
      number = omega arith;
      room = omega arith;
      place = next.1;
      begun = subst (λ k. HasHead (h.before ++ words_of bytes ∷ []) k q) (sym from)
          (HasHead-more h.before (words_of bytes) line grid_line p q h.number next.0 h.begun);
    }

-- a line with a fault is the first
pub HasRead-fault : (text : List ℕ) (line grid_line : ℕ) (rest bytes after : List ℕ) (p : Place) (f : TextFault)
    → HasRead text line grid_line rest p → lines_of rest ≡ bytes ∷ lines_of after
    → line_fault p (words_of bytes) ≡ Some f → IsFirstFault text f line
HasRead-fault text line grid_line rest bytes after p f h e faulty = record {
  before = h.before;
  rest = words_of bytes ∷ words_of_lines after;
  place = p;
  split = h.lines ∙ ap (λ ls. h.before ++ map words_of ls) e;
  path = h.path;
  faulty = faulty;
  number = h.number;
}

-- all lines were read
pub HasRead-all : (text : List ℕ) (line grid_line : ℕ) (rest : List ℕ) (p : Place)
    → HasRead text line grid_line rest p → rest ≡ []
    → Path head (words_of_lines text) p × (line ≡ length (words_of_lines text) + 1)
HasRead-all text line grid_line rest p h none =
    let whole : words_of_lines text ≡ h.before =
    h.lines ∙ ap (λ r. h.before ++ words_of_lines r) none ∙ append-nil h.before in
    (subst (λ ls. Path head ls p) (sym whole) h.path, h.number ∙ ap (λ n. n + 1) (ap length (sym whole)))

-- after the end the line where the head begins is known
pub HasRead-head : (text : List ℕ) (line grid_line : ℕ) (rest : List ℕ) (s : GridScript)
    → HasRead text line grid_line rest (ended s) → rest ≡ [] → IsHeadLine (words_of_lines text) grid_line
HasRead-head text line grid_line rest s h none =
    let whole : words_of_lines text ≡ h.before =
    h.lines ∙ ap (λ r. h.before ++ words_of_lines r) none ∙ append-nil h.before in
    subst (λ ls. IsHeadLine ls grid_line) (sym whole) h.begun

-- `end` was not met
pub HasNoEnd-from_place : (text : List ℕ) (line grid_line : ℕ) (rest : List ℕ) (p : Place)
    → HasRead text line grid_line rest p
    → rest ≡ [] → is_after_end p ≡ false → IsFirstFault text fault.NoEnd line
HasNoEnd-from_place text line grid_line rest p h none not_ended =
    let all = HasRead-all text line grid_line rest p h none in
    HaveFirstFault-no_end (words_of_lines text) line
    (record { place = p; path = all.0; not_ended = not_ended; number = all.1 })

-- a place that is not stored as the head is not at the head
pub is_head-other : (p : StoredPlace) → (p ≡ stored.Head → ⊥) → is_head (place_of p) ≡ false
is_head-other stored.Head other = absurd (other refl)
is_head-other p other = refl

-- where the form of a line that is not blank leads, the line does
IsNext-on : (p : Place) (words : List Word) (r : Result StoredPlace TextFault) → is_blank words ≡ false
    → IsNextOn p words r → IsNext p words r
IsNext-on p words (Ok q) filled next = (inr next.0, next.1)
IsNext-on p words (Err f) filled faulty = line_fault-filled p words filled ∙ faulty

-- as the reader has it
pub next-read : {E : Type 0} (p : Place) (words line : List Word) (blank : Bool)
    (r : Result (Result StoredPlace TextFault) E) → words ≡ line → blank ≡ is_blank words → blank ≡ false
    → IfOk r (IsNextOn p words) → IfOk r (IsNext p line)
next-read p words line blank (Ok r) same tells filled next =
    subst (λ w. IsNext p w r) same (IsNext-on p words r (sym tells ∙ filled) next)
next-read p words line blank (Err e) same tells filled next = tt

-- ---- laws

-- the same lines lead to one place
pub one_end : (p q r : Place) (lines : List (List Word)) → IsPlace p → Path p lines q → Path p lines r → q ≡ r
one_end p q r [] h e f = sym e ∙ f
one_end p q r (words ∷ lines) h path other =
    let same = one_place p path.0 other.0 words h path.1 other.1 in
    one_end path.0 q r lines (IsPlace-next p path.0 words h path.1) path.2
    (subst (λ x. Path x lines r) (sym same) other.2)

-- the script of a place after the end
ended_script : GridScript → Place → GridScript
ended_script s (ended t) = t
ended_script s head = s
ended_script s (o_line v n) = s
ended_script s (x_line v n o) = s
ended_script s (picture n o x) = s
ended_script s (body t) = s

-- no lines are those of two scripts
pub one_script_of_lines : (lines : List (List Word)) (s t : GridScript) → Path head lines (ended s)
    → Path head lines (ended t)
    → s ≡ t
unfolding ended_script
one_script_of_lines lines s t d e = ap (ended_script s) (one_end head (ended s) (ended t) lines tt d e)

-- no text is a document of two scripts
pub one_script : (text : List ℕ) (s t : GridScript) → IsDocument text s → IsDocument text t → s ≡ t
one_script text s t d e = one_script_of_lines (words_of_lines text) s t d e

-- what follows some lines of a path
pub Path-rest : (p q r : Place) (before after : List (List Word)) → IsPlace p → Path p before q
    → Path p (before ++ after) r → Path q after r
Path-rest p q r [] after h e path = subst (λ x. Path x after r) e path
Path-rest p q r (words ∷ before) after h path whole =
    let same = one_place p whole.0 path.0 words h whole.1 path.1 in
    Path-rest path.0 q r before after (IsPlace-next p path.0 words h path.1) path.2
    (subst (λ x. Path x (before ++ after) r) same whole.2)

-- lines with a first fault are no document, in either way
no_document_of_ways : (lines : List (List Word)) (f : TextFault) (line : ℕ) (s : GridScript)
    → HaveFault lines f line ⊎ (HaveNoEnd lines line × (f ≡ fault.NoEnd)) → Path head lines (ended s) → ⊥
no_document_of_ways lines f line s (inl first) d =
    let path = Path-rest head first.place (ended s) first.before (first.words ∷ first.after) tt first.path
    (subst (λ ls. Path head ls (ended s)) first.split d) in
    let none = line_fault-leads first.place path.0 first.words
    (IsPlace-path head first.place first.before tt first.path) path.1 in
    let clash : Some f ≡ None = sym first.faulty ∙ none in
    cc
no_document_of_ways lines f line s (inr (open_end, e)) d =
    let same = one_end head open_end.place (ended s) lines tt open_end.path d in
    true≢false (sym (ap is_after_end same) ∙ open_end.not_ended)

pub no_document_of_lines : (lines : List (List Word)) (f : TextFault) (line : ℕ) (s : GridScript)
    → HaveFirstFault lines f line → Path head lines (ended s) → ⊥
no_document_of_lines lines f line s first d =
    no_document_of_ways lines f line s (HaveFirstFault-cases lines f line first) d

-- a text with a first fault is no document
pub no_document : (text : List ℕ) (f : TextFault) (line : ℕ) (s : GridScript) → IsFirstFault text f line
    → IsDocument text s → ⊥
no_document text f line s first d = no_document_of_lines (words_of_lines text) f line s first d

-- a line is allowed at a place that lines lead to exactly if it has no fault
pub allowed : (lines : List (List Word)) (p : Place) (words : List Word) → Path head lines p
    → (line_fault p words ≡ None) ↔ ((q : Place) × Leads p words q)
allowed lines p words path =
    let h = IsPlace-path head p lines tt path in
    ((λ none. leads-no_fault p words h none), (λ l. line_fault-leads p l.0 words h l.1))

-- and then leads to one place
pub one_place_of_path : (lines : List (List Word)) (p q r : Place) (words : List Word) → Path head lines p
    → Leads p words q → Leads p words r → q ≡ r
one_place_of_path lines p q r words path l m = one_place p q r words (IsPlace-path head p lines tt path) l m

-- ---- the line of the head

-- what stands first, and what follows
unfoldable pub head_of : List Word → List (List Word) → List Word
head_of d [] = d
head_of d (w ∷ ws) = w

unfoldable pub tail_of : List (List Word) → List (List Word)
tail_of [] = []
tail_of (w ∷ ws) = ws

-- the first line that is not blank is one
same_first : (a b after later : List (List Word)) (v w : List Word) → a ++ v ∷ after ≡ b ++ w ∷ later
    → All (λ words. is_blank words ≡ true) a → All (λ words. is_blank words ≡ true) b → is_blank v ≡ false
    → is_blank w ≡ false → length a ≡ length b
unfolding head_of tail_of
same_first [] [] after later v w e x y s t = refl
same_first [] (u ∷ b) after later v w e x y s t =
    absurd (true≢false (sym (y 0 [] (omega arith)) ∙ ap is_blank (sym (ap (head_of v) e)) ∙ s))
same_first (u ∷ a) [] after later v w e x y s t =
    absurd (true≢false (sym (x 0 [] (omega arith)) ∙ ap is_blank (ap (head_of u) e) ∙ t))
same_first (u ∷ a) (z ∷ b) after later v w e x y s t =
    ap suc (same_first a b after later v w (ap tail_of e) (All-tail (λ ws. is_blank ws ≡ true) u a x)
    (All-tail (λ ws. is_blank ws ≡ true) z b y) s t)

-- lines have one line of the head
one_head_of_lines : (lines : List (List Word)) (line number : ℕ) → IsHeadLine lines line → IsHeadLine lines number
    → line ≡ number
one_head_of_lines lines line number x y =
    x.number
    ∙ ap (λ k. k + 1) (same_first x.before y.before x.after y.after x.words y.words (sym x.split ∙ y.split) x.blank
    y.blank (filled-leads_on head x.next x.words tt x.leads) (filled-leads_on head y.next y.words tt y.leads))
    ∙ sym y.number

pub one_head : (text : List ℕ) (line number : ℕ) → IsHeadLine (words_of_lines text) line
    → IsHeadLine (words_of_lines text) number → line ≡ number
one_head text line number x y = one_head_of_lines (words_of_lines text) line number x y
