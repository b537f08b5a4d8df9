-- What the reader of a body has read: a line with a fault, row by row of the table, or the words of a command that
-- may stand there. Each lemma takes what one part of the reader knows where it answers.
use Rattle.std.proofs.Common.{◌≡◌, ◌≢◌, ℕ, ◌+◌, ◌-◌, ◌<◌, ◌≤◌, true, false, not, ◌||◌, cond, List, [], ◌∷◌, ◌++◌, length, map, take, drop, get_or, Bor, Option, None, Some, Result, Ok, refl, ap, subst, ◌∙◌, sym, arith, inl, inr}
use Rattle.std.specs.Prelude.{is_none, ◌==◌}
use Rattle.std.specs.Option.{option_map_or}
use Rattle.std.specs.List.{list_any, find, Contains, All}
use Rattle.std.specs.List.Sorted.{IsPermutation, IsNonDecreasingBy}
use Rattle.std.proofs.lemmas.Bool.{cases_Bool, le-leb}
use Rattle.std.proofs.lemmas.List.{map-append}
use Rattle.std.proofs.lemmas.List.Elements.{All-contains, All-push, All-weaker}
use Rattle.std.proofs.lemmas.List.Sorted.{All-permutation, IsPermutation-sym, Contains-permutation}
use Rattle.std.proofs.Math.Bool.{or-false}
use Rattle.state_rank.specs.Bijection.{IsSize, IsBijection}
use Rattle.state_rank.specs.States.{rank, state_word}
use Rattle.torus_geom.specs.Marks.{Marks, size}
use Rattle.grid_moves.specs.Moves.{are_commuting}
use Rattle.grid_moves.specs.declared.commutations.Axis.{Axis}
use Rattle.grid_moves.specs.declared.commutations.Axis.TheVariants.{Cols, Rows}
use Rattle.pentagon_map.specs.declared.Corner.{Corner}
use Rattle.grid_text.specs.Limits.{max_commands}
use Rattle.grid_text.specs.Words.{Word, is_word, numeral, state_of}
use Rattle.grid_text.specs.States.{AreStates, AreAscending}
use Rattle.grid_text.specs.Commands.{sign_word, signs, side_word, sides, corner_word, corners, axis_word, IsLineOf, IsAllowed, IsStateOf}
use Rattle.grid_text.specs.Script.{GridScript, IsScript, grid_in_force}
use Rattle.grid_text.specs.Document.{body}
use Rattle.grid_text.specs.Faults.{Form, exactly, any_number_of, choice_of, number_between, state_of_size, is_bad_by, is_bad_count, has_bad, form_at, has_repeated, fails_to_commute, is_not_commuting, fault_in_table}
use Rattle.grid_text.specs.Inner.Kinds.{is_bad}
use Rattle.grid_text.specs.Inner.Reading.{example, keyword_word, keyword_form, stands_alone, IsReadLine, IsRead}
use Rattle.grid_text.specs.declared.commands.Sign.{Sign}
use Rattle.grid_moves.specs.declared.turns.Side.{Side}
use Rattle.grid_text.specs.declared.commands.Command.{Command}
use Rattle.grid_text.specs.declared.commands.Command.TheVariants as command
use Rattle.grid_text.specs.declared.keywords.TheConstants.{KEYWORDS}
use Rattle.grid_text.specs.declared.keywords.Keyword.{Keyword}
use Rattle.grid_text.specs.declared.keywords.Keyword.TheVariants as keyword
use Rattle.grid_text.specs.declared.faults.TextFault.{TextFault}
use Rattle.grid_text.specs.declared.faults.TextFault.TheVariants as fault
use Rattle.grid_text.proofs.Lines.WordLemmas.{numeral-found, state_of-found}
use Rattle.grid_text.proofs.Lines.KindLemmas.{count-other, list_any-never, word-find, bad-find, corner-good}
use Rattle.grid_text.proofs.Lines.KeywordLemmas.{unknown_word, form_at-keyword, form-stands_alone}
use Rattle.grid_text.proofs.Lines.SeenLemmas.{seen, seen-parts, seen-more}
use Rattle.grid_text.proofs.Lines.FaultLemmas.{fault_in_table-no_word, fault_in_table-bad_word, fault_in_table-count, fault_in_table-choice, fault_in_table-number, fault_in_table-state, fault_in_table-repeated, fault_in_table-commuting}
use Rattle.grid_text.proofs.Lines.CommandLemmas.{chain_words, states-good, faultless, fault_in_table-faultless}
use Rattle.grid_text.proofs.Lines.ReadLemmas.{IsStateOf-from_bijection}
use Rattle.grid_text.proofs.Lines.ScriptLemmas.{IsGrid-grid_in_force}
use Rattle.grid_text.proofs.States.ChainLemmas.{apart-states, AreStates-from_sorted}

-- ---- the first word

-- no word
pub fault_in_table-empty : (s : GridScript) (words : List Word) → words ≡ []
    → fault_in_table (body s) words ≡ Some fault.BadWord
fault_in_table-empty s words none = ap (fault_in_table (body s)) none ∙ fault_in_table-no_word (body s) refl

-- a word that is no keyword
pub unknown-read : (s : GridScript) (words : List (Bor (List ℕ))) (d : Bor (List ℕ)) (r : Option Keyword)
    → 1 ≤ length words
    → r ≡ find (λ k. is_word (keyword_word k) (get_or words 0 d).now) KEYWORDS → r ≡ None
    → fault_in_table (body s) (seen words) ≡ Some fault.BadWord
unknown-read s words d r some is none =
    ap (fault_in_table (body s)) (seen-parts words d some)
    ∙ fault_in_table-bad_word (body s) (get_or words 0 d).now (seen (take (length words - 1) (drop 1 words))) refl
    (unknown_word (size (grid_in_force s)) (get_or words 0 d).now (sym is ∙ none))

-- a keyword
pub keyword-first : (words : List (Bor (List ℕ))) (d : Bor (List ℕ)) (r : Option Keyword) (k : Keyword)
    → 1 ≤ length words
    → r ≡ find (λ j. is_word (keyword_word j) (get_or words 0 d).now) KEYWORDS → r ≡ Some k
    → seen words ≡ keyword_word k ∷ seen (take (length words - 1) (drop 1 words))
keyword-first words d r k some is found =
    seen-parts words d some
    ∙ ap (λ w. w ∷ seen (take (length words - 1) (drop 1 words)))
    (word-find keyword_word KEYWORDS (get_or words 0 d).now k (sym is ∙ found))

-- what is read at a keyword
pub key-read : (s : GridScript) (k key : Keyword) (words : List Word) (r : Result (Option Command) TextFault) → k ≡ key
    → IsRead s (keyword_word key ∷ words) r → IsRead s (keyword_word k ∷ words) r
key-read s k key words r same read = subst (λ j. IsRead s (keyword_word j ∷ words) r) (sym same) read

-- ---- one command too many

pub command-read : (s : GridScript) (words : List Word) (r : Result (Option Command) TextFault)
    (line : Option Command) (c : Command)
    → r ≡ Ok line → line ≡ Some c → IsRead s words r → IsLineOf words c × IsAllowed (grid_in_force s) c
command-read s words r line c is is_some read = subst (IsReadLine s words) is_some (subst (IsRead s words) is read)

pub many-read : (s : GridScript) → IsScript s → (words : List Word) (c : Command)
    → IsLineOf words c × IsAllowed (grid_in_force s) c
    → max_commands ≤ length s.commands → fault_in_table (body s) words ≡ Some fault.TooMany
many-read s h words c read many =
    fault_in_table-faultless s h words (faultless s h words c read.0 read.1)
    ∙ ap (λ b. cond b (Some fault.TooMany) None) (le-leb max_commands (length s.commands) many)

-- ---- lines of a number of words

module _ (s : GridScript) (arguments : List Word) where
  -- too few or too many words after a keyword
  pub key-count : (k : Keyword) (kinds : ℕ)
      → is_bad_count (keyword_form (size (grid_in_force s)) k) arguments ≡ not (kinds == length arguments)
      → length arguments ≢ kinds → fault_in_table (body s) (keyword_word k ∷ arguments) ≡ Some fault.BadCount
  key-count k kinds form other =
      fault_in_table-count (body s) (keyword_form (size (grid_in_force s)) k) (keyword_word k ∷ arguments) arguments
      refl (form_at-keyword s k) refl (form ∙ count-other kinds arguments other)

  -- a keyword that stands alone
  pub alone-count : (k : Keyword) → stands_alone k ≡ true → 0 < length arguments
      → fault_in_table (body s) (keyword_word k ∷ arguments) ≡ Some fault.BadCount
  alone-count k alone some =
      key-count k 0 (ap (λ f. is_bad_count f arguments) (form-stands_alone (size (grid_in_force s)) k alone))
      (λ e. omega (arith, e, some))

  pub alone-read : (k : Keyword) (line : Option Command) → stands_alone k ≡ true → line ≡ example k → arguments ≡ []
      → IsReadLine s (keyword_word k ∷ arguments) line
  alone-read k line alone is none =
      subst (IsReadLine s (keyword_word k ∷ arguments)) (sym is)
      (subst (λ a. IsReadLine s (keyword_word k ∷ a) (example k)) (sym none) (whole k alone))
    where
      whole : (k : Keyword) → stands_alone k ≡ true → IsReadLine s (keyword_word k ∷ []) (example k)
      whole keyword.Class e = let clash : false ≡ true = e in cc
      whole keyword.Border e = let clash : false ≡ true = e in cc
      whole keyword.Chain e = let clash : false ≡ true = e in cc
      whole keyword.Turn e = let clash : false ≡ true = e in cc
      whole keyword.Cols e = let clash : false ≡ true = e in cc
      whole keyword.Rows e = let clash : false ≡ true = e in cc
      whole keyword.Stab e = let clash : false ≡ true = e in cc
      whole keyword.Destab e = let clash : false ≡ true = e in cc
      whole keyword.Invert e = let clash : false ≡ true = e in cc
      whole keyword.End e = refl
      whole k e = (refl, tt)

-- ---- `class` and `turn`

module _ (s : GridScript) (arguments : List Word) (w : Word) (one : arguments ≡ w ∷ []) where
  -- a choice that is none
  pub class-choice : (r : Option Sign) → r ≡ find (λ v. is_word (sign_word v) w) signs → r ≡ None
      → fault_in_table (body s) (keyword_word keyword.Class ∷ arguments) ≡ Some fault.BadChoice
  class-choice r is none =
      ap (λ a. fault_in_table (body s) (keyword_word keyword.Class ∷ a)) one
      ∙ fault_in_table-choice (body s) (keyword_form (size (grid_in_force s)) keyword.Class)
      (keyword_word keyword.Class ∷ w ∷ [])
      (w ∷ []) refl refl refl refl
      (ap (λ b. b || false) (bad-find sign_word signs w (sym is ∙ none)))

  pub turn-choice : (r : Option Side) → r ≡ find (λ v. is_word (side_word v) w) sides → r ≡ None
      → fault_in_table (body s) (keyword_word keyword.Turn ∷ arguments) ≡ Some fault.BadChoice
  turn-choice r is none =
      ap (λ a. fault_in_table (body s) (keyword_word keyword.Turn ∷ a)) one
      ∙ fault_in_table-choice (body s) (keyword_form (size (grid_in_force s)) keyword.Turn)
      (keyword_word keyword.Turn ∷ w ∷ [])
      (w ∷ []) refl refl refl refl
      (ap (λ b. b || false) (bad-find side_word sides w (sym is ∙ none)))

  -- the choice that is made
  pub class-read : (r : Option Sign) (v : Sign) → r ≡ find (λ v. is_word (sign_word v) w) signs → r ≡ Some v
      → IsReadLine s (keyword_word keyword.Class ∷ arguments) (Some (command.Class v))
  class-read r v is some = (
    ap (λ a. keyword_word keyword.Class ∷ a)
        (one ∙ ap (λ u. u ∷ []) (word-find sign_word signs w v (sym is ∙ some))),
    tt,
  )

  pub turn-read : (r : Option Side) (v : Side) → r ≡ find (λ v. is_word (side_word v) w) sides → r ≡ Some v
      → IsReadLine s (keyword_word keyword.Turn ∷ arguments) (Some (command.Turn v))
  turn-read r v is some = (
    ap (λ a. keyword_word keyword.Turn ∷ a)
        (one ∙ ap (λ u. u ∷ []) (word-find side_word sides w v (sym is ∙ some))),
    tt,
  )

-- ---- `border`

-- a state of the size of a grid, if the reader knows the size by another name
state_of-at : (s : GridScript) (g : Marks) (m : ℕ) (w : Word) (r o : Option (List ℕ)) → m ≡ size g
    → g ≡ grid_in_force s → r ≡ state_of m w → r ≡ o
    → state_of (size (grid_in_force s)) w ≡ o
state_of-at s g m w r o long is value known = ap (λ k. state_of k w) (sym (long ∙ ap size is)) ∙ sym value ∙ known

module _ (s : GridScript) (g : Marks) (m : ℕ) (arguments : List Word) (w : Word) (r : Option (List ℕ))
    (one : arguments ≡ w ∷ [])
    (long : m ≡ size g) (is : g ≡ grid_in_force s) (value : r ≡ state_of m w) where
  -- a state that is none
  pub border-state : r ≡ None → fault_in_table (body s) (keyword_word keyword.Border ∷ arguments) ≡ Some fault.BadState
  border-state none =
      ap (λ a. fault_in_table (body s) (keyword_word keyword.Border ∷ a)) one
      ∙ fault_in_table-state (body s) (keyword_form (size (grid_in_force s)) keyword.Border)
      (keyword_word keyword.Border ∷ w ∷ [])
      (w ∷ []) refl refl refl refl refl refl refl refl
      (ap (λ o. is_none o || false) (state_of-at s g m w r None long is value none))

  -- the state
  pub border-read : IsScript s → (x : List ℕ) → r ≡ Some x
      → IsReadLine s (keyword_word keyword.Border ∷ arguments) (Some (command.Border x))
  border-read h x some =
      let read = state_of-found (size (grid_in_force s)) x w (state_of-at s g m w r (Some x) long is value some) in
      (ap (λ a. keyword_word keyword.Border ∷ a) (one ∙ ap (λ u. u ∷ []) read.0), IsStateOf-from_bijection s h x read.1)

-- ---- `cols` and `rows`

module _ (s : GridScript) (axis : Axis) (arguments : List Word) where
  -- the form of the lines that begin with the word for an axis
  abbrev commute_form : Form
  commute_form = exactly (number_between 0 (size (grid_in_force s) - 1) ∷ choice_of (map corner_word corners) ∷ [])

  known : form_at (body s) (axis_word axis) ≡ Some commute_form
  known = at axis
    where
      at : (a : Axis) → form_at (body s) (axis_word a) ≡ Some commute_form
      at Cols = refl
      at Rows = refl

  -- too few or too many words
  pub commute-count : length arguments ≢ 2 → fault_in_table (body s) (axis_word axis ∷ arguments) ≡ Some fault.BadCount
  commute-count other =
      fault_in_table-count (body s) commute_form (axis_word axis ∷ arguments) arguments refl known refl
      (count-other 2 arguments other)

  -- a choice that is none
  pub commute-choice : (w u : Word) (r : Option Corner) → arguments ≡ w ∷ u ∷ []
      → r ≡ find (λ v. is_word (corner_word v) u) corners → r ≡ None
      → fault_in_table (body s) (axis_word axis ∷ arguments) ≡ Some fault.BadChoice
  commute-choice w u r e is none =
      ap (λ a. fault_in_table (body s) (axis_word axis ∷ a)) e
      ∙ fault_in_table-choice (body s) commute_form (axis_word axis ∷ w ∷ u ∷ []) (w ∷ u ∷ []) refl known refl refl
      (ap (λ b. b || false) (bad-find corner_word corners u (sym is ∙ none)))

  module _ (g : Marks) (m : ℕ) (w u : Word) (v : Corner) (r : Option ℕ) (corner : Option Corner)
      (e : arguments ≡ w ∷ u ∷ [])
      (chosen : corner ≡ find (λ c. is_word (corner_word c) u) corners) (some : corner ≡ Some v)
      (long : m ≡ size g) (is : g ≡ grid_in_force s) (value : r ≡ numeral 0 (m - 1) w) where
    -- the words of the line
    line : arguments ≡ w ∷ corner_word v ∷ []
    line = e ∙ ap (λ c. w ∷ c ∷ []) (word-find corner_word corners u v (sym chosen ∙ some))

    -- the number that is read
    numbered : (o : Option ℕ) → r ≡ o → numeral 0 (size (grid_in_force s) - 1) w ≡ o
    numbered o known = ap (λ k. numeral 0 (k - 1) w) (sym (long ∙ ap size is)) ∙ sym value ∙ known

    choice : has_bad fault.BadChoice commute_form (w ∷ corner_word v ∷ []) ≡ false
    choice = or-false _ ∙ corner-good v

    -- a number that is none
    pub commute-number : r ≡ None → fault_in_table (body s) (axis_word axis ∷ arguments) ≡ Some fault.BadNumber
    commute-number none =
        ap (λ a. fault_in_table (body s) (axis_word axis ∷ a)) line
        ∙ fault_in_table-number (body s) commute_form (axis_word axis ∷ w ∷ corner_word v ∷ []) (w ∷ corner_word v ∷ [])
        refl known refl refl choice
        (ap (λ o. is_none o || false) (numbered None none))

    -- columns or rows that do not commute
    pub commute-commuting : (c : ℕ) → r ≡ Some c → are_commuting axis g c ≡ false
        → fault_in_table (body s) (axis_word axis ∷ arguments) ≡ Some fault.NotCommuting
    commute-commuting c found fails =
        ap (λ a. fault_in_table (body s) (axis_word axis ∷ a)) line
        ∙ fault_in_table-commuting (body s) commute_form (axis_word axis ∷ w ∷ corner_word v ∷ [])
        (w ∷ corner_word v ∷ []) refl known refl refl choice
        (ap (λ o. is_none o || false) (numbered (Some c) found)) refl refl refl refl
        (at axis (ap (λ k. are_commuting axis k c) (sym is) ∙ fails))
      where
        fails_at : (a : Axis) → are_commuting a (grid_in_force s) c ≡ false
            → fails_to_commute a (grid_in_force s) w ≡ true
        fails_at a f =
            ap (λ o. option_map_or (λ d. not (are_commuting a (grid_in_force s) d)) o false) (numbered (Some c) found)
            ∙ ap not f

        at : (a : Axis) → are_commuting a (grid_in_force s) c ≡ false
            → is_not_commuting (body s) (axis_word a ∷ w ∷ corner_word v ∷ []) ≡ true
        at Cols f = ap (λ b. b || false) (fails_at Cols f)
        at Rows f = fails_at Rows f

    -- columns or rows that commute
    pub commute-read : IsScript s → (c : ℕ) → r ≡ Some c → are_commuting axis g c ≡ true
        → IsReadLine s (axis_word axis ∷ arguments) (Some (command.Commute axis c v))
    commute-read h c found commuting =
        let read = numeral-found 0 (size (grid_in_force s) - 1) c w (numbered (Some c) found) in
        let high = read.2 in
        let least = (IsGrid-grid_in_force s h).is_size.least in (
          ap (λ a. axis_word axis ∷ a) (line ∙ ap (λ d. d ∷ corner_word v ∷ []) read.0),
          (omega arith, ap (λ k. are_commuting axis k c) (sym is) ∙ commuting),
        )

-- ---- `chain`

-- a word that is no state
chain-state : (s : GridScript) (arguments : List Word)
    → list_any (is_bad (state_of_size (size (grid_in_force s)))) arguments ≡ true
    → fault_in_table (body s) (keyword_word keyword.Chain ∷ arguments) ≡ Some fault.BadState
chain-state s arguments bad =
    let kind = state_of_size (size (grid_in_force s)) in
    fault_in_table-state (body s) (any_number_of kind) (keyword_word keyword.Chain ∷ arguments) arguments
    refl refl refl refl
    (list_any-never (is_bad_by fault.BadChoice kind) arguments (λ w. refl))
    (list_any-never (is_bad_by fault.BadNumber kind) arguments (λ w. refl)) refl refl bad

-- two states that are the same
chain-repeated : (s : GridScript) (arguments : List Word)
    → list_any (is_bad (state_of_size (size (grid_in_force s)))) arguments ≡ false
    → has_repeated arguments ≡ true
    → fault_in_table (body s) (keyword_word keyword.Chain ∷ arguments) ≡ Some fault.RepeatedState
chain-repeated s arguments good twice =
    let kind = state_of_size (size (grid_in_force s)) in
    fault_in_table-repeated (body s) (any_number_of kind) (keyword_word keyword.Chain ∷ arguments) arguments
    refl refl refl refl
    (list_any-never (is_bad_by fault.BadChoice kind) arguments (λ w. refl))
    (list_any-never (is_bad_by fault.BadNumber kind) arguments (λ w. refl)) refl refl good twice

-- one more state
pub states_of-more : (n : ℕ) (xs more : List (List ℕ)) (x : List ℕ) (words : List (Bor (List ℕ))) (i : ℕ)
    (d : Bor (List ℕ)) → i < length words
    → All (IsBijection n) xs × (seen (take i words) ≡ map state_word xs) → state_of n (get_or words i d).now ≡ Some x
    → more ≡ xs ++ x ∷ []
    → All (IsBijection n) more × (seen (take (i + 1) words) ≡ map state_word more)
states_of-more n xs more x words i d within so_far found appended =
    let read = state_of-found n x (get_or words i d).now found in (
      subst (All (IsBijection n)) (sym appended) (All-push (IsBijection n) xs x so_far.0 read.1),
      seen-more words i d within ∙ (λ j. so_far.1 j ++ read.0 j ∷ []) ∙ sym (map-append state_word xs (x ∷ []))
          ∙ ap (map state_word) (sym appended),
    )

module _ (s : GridScript) (g : Marks) (m : ℕ) (words : List Word) (long : m ≡ size g) (is : g ≡ grid_in_force s) where
  same : m ≡ size (grid_in_force s)
  same = long ∙ ap size is

  -- a word that is no state
  pub chain-none : list_any (is_bad (state_of_size m)) words ≡ true
      → fault_in_table (body s) (keyword_word keyword.Chain ∷ words) ≡ Some fault.BadState
  chain-none bad = chain-state s words (subst (λ k. list_any (is_bad (state_of_size k)) words ≡ true) same bad)

  module _ (h : IsScript s) (xs ys : List (List ℕ)) (read : All (IsBijection m) xs × (words ≡ map state_word xs))
      (permutation : IsPermutation xs ys) where
    -- the states of a line `chain`, sorted
    pub chain-read : (z : List (List ℕ)) → z ≡ ys → AreStates ys
        → IsReadLine s (keyword_word keyword.Chain ∷ words) (Some (command.Chain z))
    chain-read z equal states = (
      (
        xs,
        subst (IsPermutation xs) (sym equal) permutation,
        ap (λ w. keyword_word keyword.Chain ∷ w) read.1
            ∙ sym (chain_words xs),
      ),
      subst (λ u. All (IsStateOf (grid_in_force s)) u × AreAscending u) (sym equal) (
        All-weaker (IsBijection m) (IsStateOf (grid_in_force s))
            (λ x b. IsStateOf-from_bijection s h x (subst (λ k. IsBijection k x) same b)) ys
            (All-permutation (IsBijection m) xs ys permutation read.0),
        states.ascending,
      ),
    )

    -- states that do not ascend when sorted: two are the same
    pub chain-twice : IsNonDecreasingBy rank ys → (AreStates ys → ⊥)
        → fault_in_table (body s) (keyword_word keyword.Chain ∷ words) ≡ Some fault.RepeatedState
    chain-twice sorted none =
        let all : (x : List ℕ) → Contains xs x → IsBijection m x = λ x k. All-contains (IsBijection m) xs x read.0 k in
        chain-repeated s words
        (ap (list_any (is_bad (state_of_size (size (grid_in_force s))))) read.1
        ∙ states-good (size (grid_in_force s)) xs (λ x k. subst (λ j. IsBijection j x) same (all x k)))
        (elim (cases_Bool (has_repeated words)) [
          | inl t ↦ t
          | inr once ↦
              let once_xs = subst (λ w. has_repeated w ≡ false) read.1 once in
              absurd (none (AreStates-from_sorted m (subst IsSize (sym same)
              (IsGrid-grid_in_force s h).is_size) ys
              (λ x k. all x (Contains-permutation ys xs x (IsPermutation-sym xs ys permutation) k)) sorted
              (apart-states xs ys permutation once_xs)))
        ])
