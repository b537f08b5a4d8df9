-- At a place that lines lead to, a line is allowed exactly if no row of the table holds, and then it leads to one
-- place. Both are shown place by place: the head and the O and X lines by their words, a picture by the columns of the
-- marks of its rows, the body by its commands. What
-- is known of the place (`IsPlace`) is handed on along the path. A blank line leaves the place and has no fault, and no
-- line of a form is blank.
use Rattle.std.proofs.Common.{◌≡◌, ◌≢◌, ℕ, ◌<◌, ◌^◌, true, false, cond, List, [], ◌∷◌, length, slice_index, map, None, Some, refl, ap, subst, ◌∙◌, sym, arith, inl, inr, true≢false}
use Rattle.std.specs.Prelude.{nat_le}
use Rattle.std.specs.List.{Contains}
use Rattle.std.specs.Fmt.{decimal}
use Rattle.std.proofs.lemmas.Fmt.{decimal_injective}
use Rattle.state_rank.specs.Bijection.{IsSize, IsBijection}
use Rattle.state_rank.proofs.MemberLemmas.{member_head, member_tail}
use Rattle.torus_geom.specs.Marks.{IsGrid}
use Rattle.grid_text.specs.Words.{Word, symbols, is_word, is_blank}
use Rattle.grid_text.specs.Script.{IsVersion, with_command}
use Rattle.grid_text.specs.Document.{Place, head, o_line, x_line, picture, body, body_of, below_row, ended, LeadsOn, Leads, Path, grid_word, o_word, x_word, picture_word}
use Rattle.grid_text.specs.Faults.{fault_in_table, line_fault}
use Rattle.grid_text.specs.Inner.Reading.{IsPlace}
use Rattle.grid_text.specs.Limits.{max_commands}
use Rattle.grid_text.specs.declared.faults.TextFault.TheVariants as fault
use Rattle.grid_text.proofs.Lines.ScriptLemmas.{IsScript-with_command, IsScript-no_command}
use Rattle.grid_text.proofs.Lines.ReadLemmas.{body-read}
use Rattle.std.proofs.lemmas.Bool.{lt-leb, cases_Bool}
use Rattle.grid_text.proofs.States.RepeatedLemmas.{below-IsBijection}
use Rattle.grid_text.proofs.Lines.CommandLemmas.{faultless, fault_in_table-faultless, fault_in_table-end, command-not_end}
use Rattle.grid_text.proofs.Lines.OneCommandLemmas.{command-filled, one_command}
use Rattle.grid_text.proofs.Lines.FaultLemmas.{fault_in_table-ended}
use Rattle.grid_text.proofs.Lines.WordLemmas.{is_word-same}
use Rattle.grid_text.proofs.Paths.HeadLemmas.{head-known, head-right, head-cases}
use Rattle.grid_text.proofs.Paths.PictureLemmas.{IsPartOfPicture-none, IsPartOfPicture-more, IsPlace-below_row, picture-right, picture-read, filled-row}
use Rattle.grid_text.proofs.Paths.MarkLemmas.{one_row}
use Rattle.grid_text.proofs.Paths.RowLemmas.{o_line-right, o_line-read, x_line-right, x_line-read}

-- the marks of an O and an X line are those of a grid
IsGrid-from_lines : (n : ℕ) (o x : List ℕ) → IsSize n → IsBijection n o → IsBijection n x
    → ((c : ℕ) → c < n → slice_index o c ≢ slice_index x c) → IsGrid (record { o = o; x = x })
IsGrid-from_lines n o x small bijection_o bijection_x apart =
    let long = bijection_o.long in
    record {
      is_size = subst IsSize (sym long) small;
      o = subst (λ m. IsBijection m o) (sym long) bijection_o;
      x = subst (λ m. IsBijection m x) (sym long) bijection_x;
      apart = λ c l. apart c (omega arith);
    }

-- a place that a form leads on to from a right one is right
IsPlace-leads_on : (p q : Place) (words : List Word) → IsPlace p → LeadsOn p words q → IsPlace q
IsPlace-leads_on head q words h (n, small, inl l) = subst IsPlace (sym l.3) (l.1, small)
IsPlace-leads_on head q words h (n, small, inr l) =
    subst IsPlace (sym l.1) (small, IsPartOfPicture-none n, omega (arith, small.least))
IsPlace-leads_on (o_line v n) q words h l = subst IsPlace (sym l.3) (h.0, h.1, l.1)
IsPlace-leads_on (x_line v n o) q words h l =
    subst IsPlace (sym l.4) (IsScript-no_command v (record { o = o; x = l.0 }) h.0
    (IsGrid-from_lines n o l.0 h.1 h.2 l.1 l.2))
IsPlace-leads_on (picture n o x) q words h l =
    subst IsPlace (sym l.4) (IsPlace-below_row n (l.0 ∷ o) (l.1 ∷ x) h.0
    (IsPartOfPicture-more n o x l.0 l.1 h.1 l.2) (omega (arith, h.2)))
IsPlace-leads_on (body s) q words h (inl l) = subst IsPlace (sym l.1) h
IsPlace-leads_on (body s) q words h (inr l) = subst IsPlace (sym l.4) (IsScript-with_command s l.0 h l.3 l.2)
IsPlace-leads_on (ended s) q words h l = absurd l

-- no command may follow the greatest number of them
few-last : (n : ℕ) → n < max_commands → nat_le max_commands n ≡ false
few-last n few = lt-leb max_commands n few

-- a line of a form that is allowed has no fault in the table
fault_in_table-leads_on : (p q : Place) (words : List Word) → IsPlace p → LeadsOn p words q
    → fault_in_table p words ≡ None
fault_in_table-leads_on head q words h (n, small, inl l) =
    ap (fault_in_table head) l.2 ∙ head-right (grid_word l.0) (head-known l.0 l.1) n small
fault_in_table-leads_on head q words h (n, small, inr l) =
    ap (fault_in_table head) l.0 ∙ head-right picture_word refl n small
fault_in_table-leads_on (o_line v n) q words h l = o_line-right v n l.0 words h.1 l.1 l.2
fault_in_table-leads_on (x_line v n o) q words h l = x_line-right v n o l.0 words h.1 h.2 l.1 l.2 l.3
fault_in_table-leads_on (picture n o x) q words h l =
    picture-right n o x words l.0 l.1 h.1 l.2 l.3 (filled-row n words l.0 l.1 (omega (arith, h.2)) l.3)
fault_in_table-leads_on (body s) q words h (inl l) = fault_in_table-end s words l.0
fault_in_table-leads_on (body s) q words h (inr l) =
    fault_in_table-faultless s h words (faultless s h words l.0 l.1 l.2)
    ∙ ap (λ b. cond b (Some fault.TooMany) None) (few-last (length s.commands) l.3)
fault_in_table-leads_on (ended s) q words h l = absurd l

-- a line without a fault in the table has such a form
leads_on-no_fault : (p : Place) (words : List Word) → IsPlace p → is_blank words ≡ false → fault_in_table p words ≡ None
    → (q : Place) × LeadsOn p words q
leads_on-no_fault head words h filled none =
    let r = head-cases words none in elim r.1.1 [
      | inl grid ↦ (o_line grid.0 r.0, (r.0, r.1.0, inl (grid.0, grid.1, grid.2, refl)))
      | inr drawn ↦ (picture r.0 [] [], (r.0, r.1.0, inr (drawn, refl)))
    ]
leads_on-no_fault (o_line v n) words h filled none =
    let r = o_line-read v n words h.1 none in (x_line v n r.0, (r.0, r.1.0, r.1.1, refl))
leads_on-no_fault (x_line v n o) words h filled none =
    let r = x_line-read v n o words h.1 h.2 none in
    (body_of v (record { o = o; x = r.0 }), (r.0, r.1.0, r.1.1, r.1.2, refl))
leads_on-no_fault (picture n o x) words h filled none =
    let r = picture-read n o x words filled none in
    (below_row n (r.0 ∷ o) (r.1.0 ∷ x), (r.0, r.1.0, r.1.1.0, r.1.1.1, refl))
leads_on-no_fault (body s) words h filled none = elim (body-read s h words none) [
  | inl last ↦ (ended s, inl (last, refl))
  | inr c ↦ (body (with_command s c.0), inr (c.0, c.1.0, c.1.1, c.1.2, refl))
]
leads_on-no_fault (ended s) words h filled none =
    let clash : Some fault.AfterEnd ≡ None = sym (fault_in_table-ended (ended s) words refl) ∙ none in cc

-- rows below n with the same decimal forms are the same
same_rows : (n : ℕ) (x y : List ℕ) → n < 2 ^ 64 → ((r : ℕ) → Contains x r → r < n) → ((r : ℕ) → Contains y r → r < n)
    → map decimal x ≡ map decimal y → x ≡ y
same_rows n [] [] fits small small_y e = refl
same_rows n [] (r ∷ y) fits small small_y e = cc
same_rows n (r ∷ x) [] fits small small_y e = cc
same_rows n (q ∷ x) (r ∷ y) fits small small_y e =
    let heads : decimal q ≡ decimal r = cc in
    let tails : map decimal x ≡ map decimal y = cc in
    let below = small q (member_head q x) in
    let below_y = small_y r (member_head r y) in
    let first = decimal_injective q r (omega arith) (omega arith) heads in
    let rest = same_rows n x y fits (λ a m. small a (member_tail q x a m))
    (λ a m. small_y a (member_tail r y a m)) tails in
    (λ i. first i ∷ rest i)

-- the words of a line, without the first
tails_of : (letter : Word) (v w : List Word) → letter ∷ v ≡ letter ∷ w → v ≡ w
tails_of letter v w e = cc

-- a first line of the head has one size
one_size : (word : Word) (n k : ℕ) → IsSize n → IsSize k → word ∷ decimal n ∷ [] ≡ word ∷ decimal k ∷ [] → n ≡ k
one_size word n k small small_k whole =
    let forms : decimal n ≡ decimal k = cc in
    let most = small.greatest in
    let most_k = small_k.greatest in
    decimal_injective n k (omega arith) (omega arith) forms

-- and one first word
other_words : (v w : Word) (n k : ℕ) → is_word v w ≡ false → v ∷ decimal n ∷ [] ≡ w ∷ decimal k ∷ [] → ⊥
other_words v w n k other whole =
    let first : v ≡ w = cc in
    true≢false (sym (is_word-same v) ∙ ap (is_word v) first ∙ other)

no_picture : (v n k : ℕ) → IsVersion v → grid_word v ∷ decimal n ∷ [] ≡ picture_word ∷ decimal k ∷ [] → ⊥
no_picture v n k is whole = other_words (grid_word v) picture_word n k (other is) whole
  where
    other : IsVersion v → is_word (grid_word v) picture_word ≡ false
    other (inl one) = ap (λ u. is_word (grid_word u) picture_word) one
    other (inr two) = ap (λ u. is_word (grid_word u) picture_word) two

-- so one version
one_version : (v w n k : ℕ) → IsVersion v → IsVersion w
    → grid_word v ∷ decimal n ∷ [] ≡ grid_word w ∷ decimal k ∷ [] → v ≡ w
one_version v w n k (inl a) (inl b) whole = a ∙ sym b
one_version v w n k (inr a) (inr b) whole = a ∙ sym b
one_version v w n k (inl a) (inr b) whole =
    absurd (other_words (grid_word v) (grid_word w) n k (λ i. is_word (grid_word (a i)) (grid_word (b i))) whole)
one_version v w n k (inr a) (inl b) whole =
    absurd (other_words (grid_word v) (grid_word w) n k (λ i. is_word (grid_word (a i)) (grid_word (b i))) whole)

-- the form of a line leads on to one place
one_place_on : (p q r : Place) (words : List Word) → IsPlace p → LeadsOn p words q → LeadsOn p words r → q ≡ r
one_place_on head q r words h (n, small, inl l) (k, small_k, inl m) =
    let version = one_version l.0 m.0 n k l.1 m.1 (sym l.2 ∙ m.2) in
    let size = one_size (grid_word m.0) n k small small_k
    (ap (λ v. grid_word v ∷ decimal n ∷ []) (sym version) ∙ sym l.2 ∙ m.2) in
    l.3 ∙ (λ i. o_line (version i) (size i)) ∙ sym m.3
one_place_on head q r words h (n, small, inl l) (k, small_k, inr m) = absurd (no_picture l.0 n k l.1 (sym l.2 ∙ m.0))
one_place_on head q r words h (n, small, inr l) (k, small_k, inl m) = absurd (no_picture m.0 k n m.1 (sym m.2 ∙ l.0))
one_place_on head q r words h (n, small, inr l) (k, small_k, inr m) =
    l.1 ∙ ap (λ i. picture i [] []) (one_size picture_word n k small small_k (sym l.0 ∙ m.0)) ∙ sym m.1
one_place_on (o_line v n) q r words h l m =
    let small = h.1.greatest in
    let same = same_rows n l.0 m.0 (omega arith) (below-IsBijection n l.0 l.1) (below-IsBijection n m.0 m.1)
    (tails_of o_word (map decimal l.0) (map decimal m.0) (sym l.2 ∙ m.2)) in
    l.3 ∙ ap (x_line v n) same ∙ sym m.3
one_place_on (x_line v n o) q r words h l m =
    let small = h.1.greatest in
    let same = same_rows n l.0 m.0 (omega arith) (below-IsBijection n l.0 l.1) (below-IsBijection n m.0 m.1)
    (tails_of x_word (map decimal l.0) (map decimal m.0) (sym l.3 ∙ m.3)) in
    l.4 ∙ ap (λ x. body_of v (record { o = o; x = x })) same ∙ sym m.4
one_place_on (picture n o x) q r words h l m =
    l.4 ∙ one_row n o x l.0 l.1 m.0 m.1 (symbols words) l.2 l.3 m.3 ∙ sym m.4
one_place_on (body s) q r words h (inl l) (inl m) = l.1 ∙ sym m.1
one_place_on (body s) q r words h (inl l) (inr m) = absurd (command-not_end s h words m.0 m.1 m.2 l.0)
one_place_on (body s) q r words h (inr l) (inl m) = absurd (command-not_end s h words l.0 l.1 l.2 m.0)
one_place_on (body s) q r words h (inr l) (inr m) =
    l.4 ∙ ap (λ c. body (with_command s c)) (one_command s h words l.0 m.0 l.1 l.2 m.1 m.2) ∙ sym m.4
one_place_on (ended s) q r words h l m = absurd l

-- ---- blank lines

-- they have no fault, and other lines that of the table
line_fault-blank : (p : Place) (words : List Word) → is_blank words ≡ true → line_fault p words ≡ None
unfolding line_fault
line_fault-blank p words blank = ap (λ b. cond b None (fault_in_table p words)) blank

pub line_fault-filled : (p : Place) (words : List Word) → is_blank words ≡ false
    → line_fault p words ≡ fault_in_table p words
unfolding line_fault
line_fault-filled p words filled = ap (λ b. cond b None (fault_in_table p words)) filled

-- a line of a form is not blank
pub filled-leads_on : (p q : Place) (words : List Word) → IsPlace p → LeadsOn p words q → is_blank words ≡ false
filled-leads_on head q words h (n, small, inl (v, inl one, e, led)) =
    ap is_blank e ∙ ap (λ u. is_blank (grid_word u ∷ decimal n ∷ [])) one
filled-leads_on head q words h (n, small, inl (v, inr two, e, led)) =
    ap is_blank e ∙ ap (λ u. is_blank (grid_word u ∷ decimal n ∷ [])) two
filled-leads_on head q words h (n, small, inr l) = ap is_blank l.0
filled-leads_on (o_line v n) q words h l = ap is_blank l.2
filled-leads_on (x_line v n o) q words h l = ap is_blank l.3
filled-leads_on (picture n o x) q words h l = filled-row n words l.0 l.1 (omega (arith, h.2)) l.3
filled-leads_on (body s) q words h (inl l) = ap is_blank l.0
filled-leads_on (body s) q words h (inr l) = command-filled words l.0 l.1
filled-leads_on (ended s) q words h l = absurd l

-- ---- lines

-- a place that a line leads to from a right one is right
pub IsPlace-next : (p q : Place) (words : List Word) → IsPlace p → Leads p words q → IsPlace q
IsPlace-next p q words h (inl stays) = subst IsPlace stays.1 h
IsPlace-next p q words h (inr l) = IsPlace-leads_on p q words h l

-- so is each place that lines lead to
pub IsPlace-path : (p q : Place) (lines : List (List Word)) → IsPlace p → Path p lines q → IsPlace q
IsPlace-path p q [] h e = subst IsPlace e h
IsPlace-path p q (words ∷ lines) h path = IsPlace-path path.0 q lines (IsPlace-next p path.0 words h path.1) path.2

-- a line that is allowed has no fault
pub line_fault-leads : (p q : Place) (words : List Word) → IsPlace p → Leads p words q → line_fault p words ≡ None
line_fault-leads p q words h (inl stays) = line_fault-blank p words stays.0
line_fault-leads p q words h (inr l) =
    line_fault-filled p words (filled-leads_on p q words h l) ∙ fault_in_table-leads_on p q words h l

-- a line without a fault is allowed
pub leads-no_fault : (p : Place) (words : List Word) → IsPlace p → line_fault p words ≡ None
    → (q : Place) × Leads p words q
leads-no_fault p words h none = elim (cases_Bool (is_blank words)) [
  | inl blank ↦ (p, inl (blank, refl))
  | inr filled ↦
      let on = leads_on-no_fault p words h filled (sym (line_fault-filled p words filled) ∙ none) in (on.0, inr on.1)
]

-- a line leads to one place
pub one_place : (p q r : Place) (words : List Word) → IsPlace p → Leads p words q → Leads p words r → q ≡ r
one_place p q r words h (inl stays) (inl other) = sym stays.1 ∙ other.1
one_place p q r words h (inl stays) (inr m) = absurd (true≢false (sym stays.0 ∙ filled-leads_on p r words h m))
one_place p q r words h (inr l) (inl stays) = absurd (true≢false (sym stays.0 ∙ filled-leads_on p q words h l))
one_place p q r words h (inr l) (inr m) = one_place_on p q r words h l m
