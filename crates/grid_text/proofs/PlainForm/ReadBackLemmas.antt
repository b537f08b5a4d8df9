-- The plain form is read back. Words that are written have no byte that ends a line or a word (`IsPlainWord`), so that
-- the lines and words of the text are those that were written (`lines-plain`); and each line is allowed where it
-- stands, from the head over the commands to `end` (`commands-path`).
use Rattle.text_lines.specs.Parts.{is_among}
use Rattle.std.proofs.Common.{◌≡◌, ℕ, Bool, ◌+◌, ◌/◌, ◌%◌, ◌<◌, ◌≤◌, true, cond, false, List, [], ◌∷◌, ◌++◌, length, map, codes, refl, ap, subst, ◌∙◌, sym, arith, inl, inr, append_assoc, length-append}
use Rattle.std.specs.Prelude.{nat_le, ◌==◌, ◌||◌}
use Rattle.std.specs.List.{filter, flat_map}
use Rattle.std.proofs.lemmas.List.Sorted.{IsPermutation-refl}
use Rattle.std.specs.Fmt.{decimal}
use Rattle.std.proofs.lemmas.Bool.{cases_lt, and_parts, ne_eqb}
use Rattle.std.proofs.lemmas.Fmt.{decimal_digit, decimal_step}
use Rattle.state_rank.specs.States.{state_word}
use Rattle.state_rank.proofs.MemberLemmas.{member_head, member_tail}
use Rattle.std.specs.List.{Contains}
use Rattle.torus_geom.specs.Marks.{Marks, size}
use Rattle.grid_moves.specs.declared.turns.Side.{Side}
use Rattle.grid_moves.specs.declared.turns.Side.TheVariants.{Left, Right, Up, Down}
use Rattle.grid_symmetry.specs.declared.symmetries.Symmetry.TheVariants.{Flip, Half, Mirror, Marks as ExchangeMarks}
use Rattle.grid_text.specs.Words.{Word, parts, before_parts, is_filled, without_return, lines_of, words_of}
use Rattle.grid_text.specs.PlainForm.{after_space, line_of, command_line, plain_form}
use Rattle.pentagon_map.specs.declared.Corner.{Corner}
use Rattle.pentagon_map.specs.declared.Corner.TheVariants.{Over, Under}
use Rattle.grid_moves.specs.declared.commutations.Axis.{Axis}
use Rattle.grid_moves.specs.declared.commutations.Axis.TheVariants.{Cols, Rows}
use Rattle.stabilise.specs.declared.squares.Square.{Square}
use Rattle.stabilise.specs.declared.squares.Square.TheVariants.{Nw, Ne, Sw, Se}
use Rattle.grid_text.specs.declared.commands.Sign.{Sign}
use Rattle.grid_text.specs.declared.commands.Sign.TheVariants.{Plus, Minus}
use Rattle.grid_text.specs.declared.commands.Command.TheVariants as command
use Rattle.grid_text.specs.Limits.{max_commands}
use Rattle.grid_text.specs.Script.{GridScript, IsVersion, IsScript, AreAllowed, grid_after_all}
use Rattle.grid_text.specs.Document.{head, o_line, x_line, body, ended, end_word, Path, IsDocument, grid_word, o_word, x_word}
use Rattle.grid_text.proofs.Lines.PartLemmas.{is_space, parts-byte}
use Rattle.grid_text.proofs.Lines.KindLemmas.{IsGood, AreGood}
use Rattle.grid_text.proofs.Lines.CommandLemmas.{arguments-allowed}
use Rattle.grid_text.proofs.Lines.ScriptLemmas.{IsGrid-grid_in_force, IsScript-with_command, IsScript-no_command, grid_after_all-push}
use Rattle.grid_text.proofs.States.RepeatedLemmas.{below-IsBijection}
use Rattle.grid_text.specs.Commands.{sign_word, side_word, corner_word, square_word, axis_word, Argument, sign, side, corner, square, axis, number, first_of_two, state, argument_word, command_row, command_words, IsLineOf}
use Rattle.grid_text.specs.declared.commands.Command.{Command}
use Rattle.std.specs.List.{list_all}
use Rattle.std.proofs.lemmas.Bool.Decides.{nat_tests}
use Rattle.std.proofs.lemmas.List.{length-map, append-nil}

-- bytes past the space, so that they end neither a line nor a word
abbrev pub IsClean : List ℕ → Type 0
IsClean [] = Unit {0}
IsClean (b ∷ bytes) = (33 ≤ b) × IsClean bytes

-- clean bytes, and some
abbrev pub IsPlainWord : Word → Type 0
IsPlainWord w = IsClean w × (0 < length w)

abbrev pub ArePlainWords : List Word → Type 0
ArePlainWords [] = Unit {0}
ArePlainWords (w ∷ words) = IsPlainWord w × ArePlainWords words

-- no line feed and no carriage return, but spaces
abbrev IsOneLine : List ℕ → Type 0
IsOneLine [] = Unit {0}
IsOneLine (b ∷ bytes) = (32 ≤ b) × IsOneLine bytes

one_line-clean : (w : List ℕ) → IsClean w → IsOneLine w
one_line-clean [] h = tt
one_line-clean (b ∷ w) h = (omega (arith, h.0), one_line-clean w h.1)

one_line-append : (v w : List ℕ) → IsOneLine v → IsOneLine w → IsOneLine (v ++ w)
one_line-append [] w h k = k
one_line-append (b ∷ v) w h k = (h.0, one_line-append v w h.1 k)

one_line-after_space : (words : List Word) → ArePlainWords words → IsOneLine (after_space words)
one_line-after_space [] h = tt
one_line-after_space (w ∷ words) h =
    (omega arith, one_line-append w (after_space words) (one_line-clean w h.0.0) (one_line-after_space words h.1))

-- a byte that is not another
byte-other : (b c : ℕ) → c < b → (b == c) ≡ false
byte-other b c past = ne_eqb b c (λ e. omega (arith, past, e))

-- a line has no carriage return at its end
without_return-line : (l : List ℕ) → IsOneLine l → without_return l ≡ l
without_return-line [] h = refl
without_return-line (b ∷ []) h = ap (λ t. cond t [] (b ∷ [])) (byte-other b 13 (omega (arith, h.0)))
without_return-line (b ∷ c ∷ l) h = ap (λ r. b ∷ r) (without_return-line (c ∷ l) h.1)

-- the byte is a line feed, 10
abbrev is_line_feed : ℕ → Bool
is_line_feed = is_among (codes "\n")

-- the first line of a text
parts-line : (l rest : List ℕ) → IsOneLine l
    → parts is_line_feed (l ++ 10 ∷ rest) ≡ l ∷ parts is_line_feed rest
parts-line [] rest h = refl
parts-line (b ∷ l) rest h =
    parts-byte is_line_feed b (l ++ 10 ∷ rest) (ap (λ t. t || false) (byte-other b 10 (omega (arith, h.0))))
    ∙ ap (before_parts b) (parts-line l rest h.1)

lines_of-line : (l rest : List ℕ) → IsOneLine l → lines_of (l ++ 10 ∷ rest) ≡ l ∷ lines_of rest
lines_of-line l rest h =
    ap (map without_return) (parts-line l rest h) ∙ ap (λ first. first ∷ lines_of rest) (without_return-line l h)

-- a byte past the space is none, and no tab
not_space : (b : ℕ) → 33 ≤ b → is_space b ≡ false
not_space b past =
    ap (λ t. t || ((b == 9) || false)) (byte-other b 32 (omega (arith, past)))
    ∙ ap (λ t. t || false) (byte-other b 9 (omega (arith, past)))

-- the first word of a line
parts-word : (w rest : List ℕ) → IsClean w → parts is_space (w ++ 32 ∷ rest) ≡ w ∷ parts is_space rest
parts-word [] rest h = refl
parts-word (b ∷ w) rest h =
    parts-byte is_space b (w ++ 32 ∷ rest) (not_space b h.0) ∙ ap (before_parts b) (parts-word w rest h.1)

-- the last one
parts-last : (w : List ℕ) → IsClean w → 0 < length w → parts is_space (w ++ []) ≡ w ∷ []
parts-last [] h some = absurd (omega arith)
parts-last (b ∷ []) h some = parts-byte is_space b [] (not_space b h.0)
parts-last (b ∷ c ∷ w) h some =
    parts-byte is_space b ((c ∷ w) ++ []) (not_space b h.0)
    ∙ ap (before_parts b) (parts-last (c ∷ w) h.1 (omega arith))

-- all words
parts-words : (w : Word) (words : List Word) → IsPlainWord w → ArePlainWords words
    → parts is_space (w ++ after_space words) ≡ w ∷ words
parts-words w [] h k = parts-last w h.0 h.1
parts-words w (v ∷ words) h k =
    parts-word w (v ++ after_space words) h.0 ∙ ap (λ ps. w ∷ ps) (parts-words v words k.0 k.1)

filled : (words : List Word) → ArePlainWords words → filter is_filled words ≡ words
filled [] h = refl
filled ([] ∷ words) h = absurd (omega (arith, h.0.1))
filled ((b ∷ w) ∷ words) h = ap (λ ws. (b ∷ w) ∷ ws) (filled words h.1)

-- the lines of a text that begins with a plain line
pub lines-plain : (w : Word) (words : List Word) (rest : List ℕ) → IsPlainWord w → ArePlainWords words
    → map words_of (lines_of (line_of (w ∷ words) ++ rest)) ≡ (w ∷ words) ∷ map words_of (lines_of rest)
lines-plain w words rest h k =
    ap (λ t. map words_of (lines_of t)) (append_assoc (w ++ after_space words) (10 ∷ []) rest)
    ∙ ap (map words_of) (lines_of-line (w ++ after_space words) rest
    (one_line-append w (after_space words) (one_line-clean w h.0) (one_line-after_space words k)))
    ∙ ap (λ l. l ∷ map words_of (lines_of rest))
    (ap (filter is_filled) (parts-words w words h k) ∙ filled (w ∷ words) (h, k))

-- ---- the words that are written

plain_decimal : (n : ℕ) → n < 10 → IsPlainWord (decimal n)
plain_decimal n small = subst IsPlainWord (sym (decimal_digit n small)) ((omega arith, tt), omega arith)

plain_decimals : (rows : List ℕ) → ((r : ℕ) → Contains rows r → r < 10) → ArePlainWords (map decimal rows)
plain_decimals [] small = tt
plain_decimals (r ∷ rows) small =
    (plain_decimal r (small r (member_head r rows)), plain_decimals rows (λ q m. small q (member_tail r rows q m)))

clean_state : (x : List ℕ) → IsClean (state_word x)
clean_state [] = tt
clean_state (r ∷ x) = (omega arith, clean_state x)

clean_high : (w : List ℕ) → list_all (λ b. nat_le 33 b) w ≡ true → IsClean w
clean_high [] e = tt
clean_high (b ∷ w) e =
    let parts = and_parts (nat_le 33 b) (list_all (λ b. nat_le 33 b) w) e in
    let here : nat_le 33 b ≡ true = parts.0 in
    let high : 33 ≤ b = grind (arith, nat_tests) in
    (high, clean_high w parts.1)

closed : (w : Word) → list_all (λ b. nat_le 33 b) w ≡ true → 0 < length w → IsPlainWord w
closed w e some = (clean_high w e, some)

plain_sign : (v : Sign) → IsPlainWord (sign_word v)
plain_sign Plus = closed (codes "+") refl (omega arith)
plain_sign Minus = closed (codes "-") refl (omega arith)

plain_side : (v : Side) → IsPlainWord (side_word v)
plain_side Left = closed (codes "left") refl (omega arith)
plain_side Right = closed (codes "right") refl (omega arith)
plain_side Up = closed (codes "up") refl (omega arith)
plain_side Down = closed (codes "down") refl (omega arith)

plain_corner : (v : Corner) → IsPlainWord (corner_word v)
plain_corner Over = closed (codes "over") refl (omega arith)
plain_corner Under = closed (codes "under") refl (omega arith)

plain_square : (v : Square) → IsPlainWord (square_word v)
plain_square Nw = closed (codes "nw") refl (omega arith)
plain_square Ne = closed (codes "ne") refl (omega arith)
plain_square Sw = closed (codes "sw") refl (omega arith)
plain_square Se = closed (codes "se") refl (omega arith)

plain_axis : (v : Axis) → IsPlainWord (axis_word v)
plain_axis Cols = closed (codes "cols") refl (omega arith)
plain_axis Rows = closed (codes "rows") refl (omega arith)

-- the words of good arguments
plain_arguments : (n : ℕ) (arguments : List Argument) → 0 < n → n < 11 → AreGood n arguments
    → ArePlainWords (map argument_word arguments)
plain_arguments n [] some few h = tt
plain_arguments n (a ∷ arguments) some few h = (plain a h.0, plain_arguments n arguments some few h.1)
  where
    plain : (a : Argument) → IsGood n a → IsPlainWord (argument_word a)
    plain (sign v) k = plain_sign v
    plain (side v) k = plain_side v
    plain (corner v) k = plain_corner v
    plain (square v) k = plain_square v
    plain (axis v) k = plain_axis v
    plain (number c) k = plain_decimal c (omega (arith, k, few))
    plain (first_of_two c) k = plain_decimal c (omega (arith, k, few))
    plain (state x) k =
        let long = k.long in (clean_state x, omega (arith, some, long, length-map x (λ (q : ℕ). 48 + q)))

-- the first word of a command
plain_first : (c : Command) → IsPlainWord (command_row c).0
plain_first (command.Commute Cols c v) = closed (codes "cols") refl (omega arith)
plain_first (command.Commute Rows c v) = closed (codes "rows") refl (omega arith)
plain_first (command.Symm Flip) = closed (codes "flip") refl (omega arith)
plain_first (command.Symm Half) = closed (codes "half") refl (omega arith)
plain_first (command.Symm Mirror) = closed (codes "mirror") refl (omega arith)
plain_first (command.Symm ExchangeMarks) = closed (codes "marks") refl (omega arith)
plain_first c = closed (command_row c).0 refl (omega arith)

-- the words of a line that is written are those of the command
line-written : (c : Command) → IsLineOf (command_words c) c
line-written (command.Chain z) = (z, IsPermutation-refl z, refl)
line-written c = refl

-- the lines of the commands and `end` lead on from the commands before them
commands-path : (v : ℕ) (g : Marks) (done later : List Command)
    → IsScript (record { version = v; grid = g; commands = done })
    → AreAllowed (grid_after_all g done) later → length done + length later ≤ max_commands
    → Path (body (record { version = v; grid = g; commands = done }))
    (map words_of (lines_of (flat_map command_line later ++ line_of (end_word ∷ []))))
    (ended (record { version = v; grid = g; commands = done ++ later }))
commands-path v g done [] h all few = (
  ended (record { version = v; grid = g; commands = done }),
  inr (inl (refl, refl)),
  ap
      (λ cs. ended (record { version = v; grid = g; commands = cs })) (sym (append-nil done)),
)
commands-path v g done (c ∷ later) h all few =
    let s : GridScript = record { version = v; grid = g; commands = done } in
    let in_force = IsGrid-grid_in_force s h in
    let most = in_force.is_size.greatest in
    let words = map argument_word (command_row c).1 in
    let least = in_force.is_size.least in
    let plain = plain_arguments (size (grid_after_all g done)) (command_row c).1 (omega arith) (omega arith)
    (arguments-allowed (grid_after_all g done) c all.0) in
    let room : length done < max_commands = omega arith in
    let rest = commands-path v g (done ++ c ∷ []) later (IsScript-with_command s c h room all.0)
    (subst (λ f. AreAllowed f later) (sym (grid_after_all-push g done c)) all.1)
    (omega (arith, length-append done (c ∷ []))) in
    let lines = ap (λ t. map words_of (lines_of t))
    (append_assoc (command_line c) (flat_map command_line later) (line_of (end_word ∷ [])))
    ∙ lines-plain (command_row c).0 words (flat_map command_line later ++ line_of (end_word ∷ []))
    (plain_first c) plain in
    subst (λ ls. Path (body s) ls (ended (record { version = v; grid = g; commands = done ++ c ∷ later })))
    (sym lines) (
      body (record { version = v; grid = g; commands = done ++ c ∷ [] }),
      inr (inr (c, line-written c, all.0, room, refl)),
      subst (λ cs. Path (body (record { version = v; grid = g; commands = done ++ c ∷ [] }))
          (map words_of (lines_of (flat_map command_line later ++ line_of (end_word ∷ []))))
          (ended (record { version = v; grid = g; commands = cs }))) (append_assoc done (c ∷ []) later) rest,
    )

-- the word of a version
plain_version : (v : ℕ) → IsVersion v → IsPlainWord (grid_word v)
plain_version v (inl one) = subst (λ u. IsPlainWord (grid_word u)) (sym one) (closed (codes "grid") refl (omega arith))
plain_version v (inr two) = subst (λ u. IsPlainWord (grid_word u)) (sym two) (closed (codes "grid2") refl (omega arith))

-- the word of a size
plain_size : (n : ℕ) → n ≤ 10 → IsPlainWord (decimal n)
plain_size n small = elim (cases_lt n 10) [
  | inl low ↦ plain_decimal n low
  | inr high ↦
      let digits : decimal n ≡ (48 + n / 10) ∷ (48 + n % 10) ∷ [] =
      decimal_step n high (omega arith)
      ∙ ap (λ ds. ds ++ (48 + n % 10) ∷ []) (decimal_digit (n / 10) (omega arith)) in
      subst IsPlainWord (sym digits) ((omega arith, (omega arith, tt)), omega arith)
]

pub IsDocument-plain_form : (s : GridScript) → IsScript s → IsDocument (plain_form s) s
unfolding plain_form
IsDocument-plain_form s h =
    let n = size s.grid in
    let most = h.grid.is_size.greatest in
    let o = s.grid.o in
    let x = s.grid.x in
    let tail = flat_map command_line s.commands ++ line_of (end_word ∷ []) in
    let v = s.version in
    let l1 = line_of (grid_word v ∷ decimal n ∷ []) in
    let l2 = line_of (o_word ∷ map decimal o) in
    let l3 = line_of (x_word ∷ map decimal x) in
    let whole : plain_form s ≡ l1 ++ (l2 ++ (l3 ++ tail)) =
    append_assoc (l1 ++ l2 ++ l3) (flat_map command_line s.commands) (line_of (end_word ∷ []))
    ∙ append_assoc (l1 ++ l2) l3 tail ∙ append_assoc l1 l2 (l3 ++ tail) in
    let plain_o = plain_decimals o (λ r m. let b = below-IsBijection n o h.grid.o r m in omega arith) in
    let plain_x = plain_decimals x (λ r m. let b = below-IsBijection n x h.grid.x r m in omega arith) in
    let lines = ap (λ t. map words_of (lines_of t)) whole
    ∙ lines-plain (grid_word v) (decimal n ∷ []) (l2 ++ (l3 ++ tail)) (plain_version v h.version)
    (plain_size n h.grid.is_size.greatest, tt)
    ∙ ap (λ ls. (grid_word v ∷ decimal n ∷ []) ∷ ls)
    (lines-plain o_word (map decimal o) (l3 ++ tail) (closed o_word refl (omega arith)) plain_o
    ∙ ap (λ ls. (o_word ∷ map decimal o) ∷ ls)
    (lines-plain x_word (map decimal x) tail (closed x_word refl (omega arith)) plain_x)) in
    subst (λ ls. Path head ls (ended s)) (sym lines) (
      o_line v n,
      inr (n, h.grid.is_size, inl (v, h.version, refl, refl)),
      (
        x_line v n o,
        inr (o, h.grid.o, refl, refl),
        (
          body (record { version = s.version; grid = s.grid; commands = [] }),
          inr (x, h.grid.x, h.grid.apart, refl, refl),
          commands-path v s.grid [] s.commands (IsScript-no_command v s.grid h.version h.grid) h.allowed
              (omega (arith, h.few)),
        ),
      ),
    )
