-- A text is cut where a line ends: the lines of the pieces, one after the other, are those of the text. The reader of
-- a pair of documents goes from line to line, and cuts the text before and after the first line `next`.
use Rattle.std.proofs.Common.{◌≡◌, ℕ, suc, ◌+◌, ◌<◌, ◌≤◌, Bool, true, false, cond, if◌then◌else◌, List, [], ◌∷◌, ◌++◌, length, length-append, map, take, ◌-◌, Some, None, codes, refl, sym, ap, ap₂, subst, ◌∙◌, inl, inr, arith}
use Rattle.std.specs.List.{All}
use Rattle.std.proofs.Math.Seq.{take-append_seam}
use Rattle.std.proofs.lemmas.List.{append-nil, append_assoc, length-map, map-append}
use Rattle.std.proofs.lemmas.List.Elements.{All-push, All-head, All-tail}
use Rattle.text_lines.specs.Parts.{is_among}
use Rattle.grid_text.specs.Words.{Word, parts, before_parts, without_return, lines_of, words_of, words_of_lines}
use Rattle.grid_text.specs.Pairs.{is_next, first_part, second_part}
use Rattle.grid_text.specs.Inner.Cuts.{IsTakenPart, EndsLine, HasFirstLine, IsCut, AreParts}
use Rattle.grid_text.proofs.Lines.PartLemmas.{parts-at, parts-none}

module _ (is_end : ℕ → Bool) where
  -- some bytes have a part
  parts-some : (bytes : List ℕ) → 0 < length bytes
      → (part : List ℕ) × (later : List (List ℕ)) × (parts is_end bytes ≡ part ∷ later)
  parts-some [] some = absurd (omega arith)
  parts-some (b ∷ bytes) some = by (is_end b) (parts is_end bytes)
    where
      by : (t : Bool) (ps : List (List ℕ))
          → (part : List ℕ) × (later : List (List ℕ)) × ((if t then [] ∷ ps else before_parts b ps) ≡ part ∷ later)
      by true ps = ([], ps, refl)
      by false [] = (b ∷ [], [], refl)
      by false (part ∷ ps) = (b ∷ part, ps, refl)

  -- the parts of two pieces, the first of which ends a part
  parts-append : (line rest : List ℕ) (end : ℕ) → is_end end ≡ true
      → parts is_end ((line ++ end ∷ []) ++ rest) ≡ parts is_end (line ++ end ∷ []) ++ parts is_end rest
  parts-append [] rest end here =
      ap (λ t. cond t ([] ∷ parts is_end rest) (before_parts end (parts is_end rest))) here
      ∙ sym (ap (λ t. (cond t ([] ∷ []) (before_parts end [])) ++ parts is_end rest) here)
  parts-append (b ∷ line) rest end here =
      let some = parts-some (line ++ end ∷ []) (omega (arith, length-append line (end ∷ []))) in
      ap (λ ps. if is_end b then [] ∷ ps else before_parts b ps) (parts-append line rest end here)
      ∙ by (is_end b) some.0 some.1 some.2
    where
      by : (t : Bool) (part : List ℕ) (later : List (List ℕ)) → parts is_end (line ++ end ∷ []) ≡ part ∷ later
          → (if t then [] ∷ (parts is_end (line ++ end ∷ []) ++ parts is_end rest)
          else before_parts b (parts is_end (line ++ end ∷ []) ++ parts is_end rest))
          ≡ (if t then [] ∷ parts is_end (line ++ end ∷ []) else before_parts b (parts is_end (line ++ end ∷ [])))
          ++ parts is_end rest
      by true part later is = refl
      by false part later is =
          ap (λ ps. before_parts b (ps ++ parts is_end rest)) is
          ∙ sym (ap (λ ps. before_parts b ps ++ parts is_end rest) is)

  -- there are no more parts than bytes
  length-parts : (bytes : List ℕ) → length (parts is_end bytes) ≤ length bytes
  length-parts [] = omega arith
  length-parts (b ∷ bytes) = by (is_end b) (parts is_end bytes) (length-parts bytes)
    where
      by : (t : Bool) (ps : List (List ℕ)) → length ps ≤ length bytes
          → length (if t then [] ∷ ps else before_parts b ps) ≤ suc (length bytes)
      by true ps l = omega (arith, l)
      by false [] l = omega (arith, l)
      by false (part ∷ ps) l = omega (arith, l)

-- there are no more lines than bytes
pub length-lines : (text : List ℕ) → length (words_of_lines text) ≤ length text
length-lines text =
    let few = length-parts (is_among (codes "\n")) text in
    let lines = length-map (parts (is_among (codes "\n")) text) without_return in
    let words = length-map (lines_of text) words_of in
    omega (arith, few, lines, words)

-- the lines of two pieces, the first of which ends a line
words_of_lines-append : (front rest : List ℕ) → EndsLine front
    → words_of_lines (front ++ rest) ≡ words_of_lines front ++ words_of_lines rest
words_of_lines-append front rest (line, end, here, is) =
    let ends : ℕ → Bool = is_among (codes "\n") in
    ap (λ f. words_of_lines (f ++ rest)) is
    ∙ ap (λ ps. map words_of (map without_return ps)) (parts-append (is_among (codes "\n")) line rest end here)
    ∙ ap (map words_of) (map-append without_return (parts (is_among (codes "\n")) (line ++ end ∷ []))
    (parts (is_among (codes "\n")) rest))
    ∙ map-append words_of (lines_of (line ++ end ∷ [])) (lines_of rest)
    ∙ ap (λ f. words_of_lines f ++ words_of_lines rest) (sym is)

-- the part that was taken is the first line
pub HasFirstLine-taken : (text part after : List ℕ) → IsTakenPart (codes "\n") text part after
    → HasFirstLine text (without_return part) after
HasFirstLine-taken text part after (inl found) = record {
  taken = part ++ found.end ∷ [];
  split = found.split ∙ sym (append_assoc part (found.end ∷ []) after);
  one = ap (map without_return) (parts-at (is_among (codes "\n")) part [] found.end found.none found.is_end);
  ends = inr (part, found.end, found.is_end, refl);
}
HasFirstLine-taken text part after (inr (whole, none, some, free)) = record {
  taken = text;
  split = sym (append-nil text) ∙ ap (λ a. text ++ a) (sym none);
  one = ap (map without_return) (parts-none (codes "\n") text some free) ∙ ap (λ p. without_return p ∷ []) (sym whole);
  ends = inl none;
}

-- ---- the lines so far
-- at first
pub IsCut-none : (text : List ℕ) → IsCut text text 1
IsCut-none text = record {
  front = [];
  split = refl;
  lines = refl;
  no_next = λ k d l. absurd (omega (arith, l));
  number = refl;
  room = omega arith;
  ends = inl refl;
}

module _ (text rest : List ℕ) (line : ℕ) (h : IsCut text rest line) where
  -- the lines of what was read and one piece more
  with_piece : (piece : List ℕ) → 0 < length rest
      → words_of_lines (h.front ++ piece) ≡ words_of_lines h.front ++ words_of_lines piece
  with_piece piece some = elim h.ends [
    | inl none ↦
        ap (λ f. words_of_lines (f ++ piece)) none ∙ ap (λ f. words_of_lines f ++ words_of_lines piece) (sym none)
    | inr later ↦ elim later [
      | inl done ↦ absurd (omega (arith, some, ap length done))
      | inr ends ↦ words_of_lines-append h.front piece ends
    ]
  ]

  -- the first line of the rest is not `next`
  pub IsCut-more : (bytes after : List ℕ) → lines_of rest ≡ bytes ∷ lines_of after → length after < length rest
      → HasFirstLine rest bytes after → is_next (words_of bytes) ≡ false → IsCut text after (line + 1)
  IsCut-more bytes after first shorter piece other =
      let room = h.room in
      let number = h.number in
      let one : words_of_lines piece.taken ≡ words_of bytes ∷ [] = ap (map words_of) piece.one in
      let new : words_of_lines (h.front ++ piece.taken) ≡ words_of_lines h.front ++ words_of bytes ∷ [] =
      with_piece piece.taken (omega (arith, shorter)) ∙ ap (λ ws. words_of_lines h.front ++ ws) one in
      let more = ap length new ∙ length-append (words_of_lines h.front) (words_of bytes ∷ []) in
      record {
        front = h.front ++ piece.taken;
        split = h.split ∙ ap (λ r. h.front ++ r) piece.split ∙ sym (append_assoc h.front piece.taken after);
        lines = h.lines ∙ ap (λ ls. words_of_lines h.front ++ map words_of ls) first
            ∙ sym (append_assoc (words_of_lines h.front) (words_of bytes ∷ []) (words_of_lines after))
            ∙ ap (λ ws. ws ++ words_of_lines after) (sym new);
        no_next = subst (All (λ words. is_next words ≡ false)) (sym new)
            (All-push (λ words. is_next words ≡ false) (words_of_lines h.front) (words_of bytes) h.no_next other);
        number = omega (arith, number, more);
        room = omega (arith, room, more, shorter);
        ends = elim piece.ends [
          | inl done ↦ inr (inl done)
          | inr ends ↦ inr (inr (
            h.front ++ ends.0,
            ends.1,
            ends.2,
            ap (λ f. h.front ++ f) ends.3 ∙ sym (append_assoc h.front ends.0 (ends.1 ∷ [])),
          ))
        ];
      }

-- the parts of lines with a line `next` after others
first_part-at : (before after : List (List Word)) (words : List Word) → All (λ ws. is_next ws ≡ false) before
    → is_next words ≡ true
    → (first_part (before ++ words ∷ after) ≡ before) × (second_part (before ++ words ∷ after) ≡ Some after)
first_part-at [] after words none here = (
  ap (λ t. cond t [] (words ∷ first_part after)) here,
  ap (λ t. cond t (Some after) (second_part after)) here,
)
first_part-at (ws ∷ before) after words none here =
    let other = All-head (λ ws. is_next ws ≡ false) ws before none in
    let later = first_part-at before after words (All-tail (λ ws. is_next ws ≡ false) ws before none) here in (
      ap (λ t. cond t [] (ws ∷ first_part (before ++ words ∷ after))) other ∙ ap (λ ls. ws ∷ ls) later.0,
      ap (λ t. cond t (Some (before ++ words ∷ after)) (second_part (before ++ words ∷ after))) other ∙ later.1,
    )

-- and with none
second_part-none : (lines : List (List Word)) → All (λ ws. is_next ws ≡ false) lines → second_part lines ≡ None
second_part-none [] none = refl
second_part-none (ws ∷ lines) none =
    ap (λ t. cond t (Some lines) (second_part lines)) (All-head (λ ws. is_next ws ≡ false) ws lines none)
    ∙ second_part-none lines (All-tail (λ ws. is_next ws ≡ false) ws lines none)

-- lines without a second part are the first
pub first_part-whole : (lines : List (List Word)) → second_part lines ≡ None → first_part lines ≡ lines
first_part-whole [] none = refl
first_part-whole (ws ∷ lines) none = by (is_next ws) none (first_part-whole lines)
  where
    by : (t : Bool) → cond t (Some lines) (second_part lines) ≡ None
        → (second_part lines ≡ None → first_part lines ≡ lines) → cond t [] (ws ∷ first_part lines) ≡ ws ∷ lines
    by true e later = cc
    by false e later = ap (λ ls. ws ∷ ls) (later e)

-- what stands before the rest
pub front-taken : (text front rest : List ℕ) → text ≡ front ++ rest → take (length text - length rest) text ≡ front
front-taken text front rest split =
    let whole = ap length split ∙ length-append front rest in
    let long : length text - length rest ≡ length front = omega (arith, whole) in
    ap₂ take long split ∙ take-append_seam front rest

-- the first line of the rest is `next`
pub AreParts-cut : (text rest bytes after front : List ℕ) (line : ℕ) (h : IsCut text rest line) → front ≡ h.front
    → lines_of rest ≡ bytes ∷ lines_of after → length after < length rest → is_next (words_of bytes) ≡ true
    → AreParts text front after line
AreParts-cut text rest bytes after front line h is first shorter here =
    let lines : words_of_lines text ≡ words_of_lines h.front ++ words_of bytes ∷ words_of_lines after =
    h.lines ∙ ap (λ ls. words_of_lines h.front ++ map words_of ls) first in
    let at = first_part-at (words_of_lines h.front) (words_of_lines after) (words_of bytes) h.no_next here in
    let whole = ap length h.split ∙ length-append h.front rest in
    let same = ap length is in
    record {
      before = ap words_of_lines is ∙ sym (ap first_part lines ∙ at.0);
      after = ap second_part lines ∙ at.1;
      number = h.number ∙ ap (λ f. length (words_of_lines f) + 1) (sym is);
      shorter = omega (arith, whole, same, shorter);
    }

-- there is no such line
pub second_part-cut : (text rest : List ℕ) (line : ℕ) → IsCut text rest line → rest ≡ []
    → (second_part (words_of_lines text) ≡ None) × (line ≡ length (words_of_lines text) + 1)
second_part-cut text rest line h done =
    let whole : words_of_lines text ≡ words_of_lines h.front =
    h.lines ∙ ap (λ r. words_of_lines h.front ++ words_of_lines r) done ∙ append-nil (words_of_lines h.front) in (
      ap second_part whole ∙ second_part-none (words_of_lines h.front) h.no_next,
      h.number ∙ ap (λ ls. length ls + 1) (sym whole),
    )
