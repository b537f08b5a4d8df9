-- Words that are the two options, each in one word or in two, are read without a fault.
use Rattle.std.proofs.Common.{◌≡◌, ℕ, Bool, true, false, List, [], ◌∷◌, ◌++◌, Some, None, Option, refl, sym, ap, subst, ◌∙◌, inl, inr, length, arith, zero, suc, append-nil, ◌<◌, ◌≤◌, ◌^◌, get_or}
use Rattle.std.specs.Fmt.{decimal}
use Rattle.std.proofs.lemmas.Fmt.{decimal_digit, first_decimal, decimal_nonempty}
use Rattle.std.specs.Str.{bytes_eq}
use Rattle.std.specs.Prelude.{fold, ◌==◌}
use Rattle.std.proofs.lemmas.Slice.Eq.{bytes_eq-Decides}
use Rattle.clap.specs.Walk.{Row, Text, Walk, option, walked, settled, settled_rows, used, has_row, nothing_held, with_default, finished, after_step, plain_word}
use Rattle.clap.specs.Faults.{walk_fault, turn_fault, settle_fault, flag_word_fault, step_fault, level_fault, defaults_fault, default_fault, check_fault}
use Rattle.clap.specs.Kinds.{Kinds, or_else}
use Rattle.std.proofs.lemmas.Bool.Decides.{nat_tests}
use Rattle.clap.specs.Lexer.{long_of, short_of}
use Rattle.grid_job.specs.declared.words.Flag.{Flag}
use Rattle.grid_job.specs.declared.words.Flag.TheVariants.{Size, Seed}
use Rattle.grid_job.specs.Inner.Parsing.{flag_id, dashes}
use Rattle.grid_job.proofs.Parsed.WordLemmas.{read_rule, shape, rules, held, ready, waits, not_long, idle_turn, waiting_turn, waiting_walked}
use Rattle.grid_job.proofs.Parsed.WalkLemmas.{final, option_word_of, IsOption, attached_walked, option_walked}

-- ---- words that are options are read
-- no value that is a number begins with a hyphen
starts-high : (n : ℕ) → n < 2 ^ 64 → 48 ≤ get_or (decimal n) 0 0
starts-high n fits = by_zero n fits refl
  where
    by_zero : (k : ℕ) → k < 2 ^ 64 → k ≡ n → 48 ≤ get_or (decimal k) 0 0
    by_zero zero below same =
        let digit = ap (λ ds. get_or ds 0 0) (decimal_digit 0 (omega arith)) in
        omega (arith, digit)
    by_zero (suc k) below same = let first = first_decimal (suc k) (omega arith) below in omega (arith, first)

pub record IsPlainWord (v : Text) : Type 0 where
  pub no_dashes : bytes_eq v dashes ≡ false
  pub no_long : long_of v ≡ None
  pub no_short : short_of v ≡ None

IsPlainWord-high : (v : Text) → 0 < length v → 48 ≤ get_or v 0 0 → IsPlainWord v
IsPlainWord-high [] some high = absurd (omega (arith, some))
IsPlainWord-high (d ∷ ds) some high = record {
  no_dashes = differs (bytes_eq (d ∷ ds) dashes) refl;
  no_long = rw no_hyphen refl;
  no_short = rw no_hyphen refl;
}
  where
    no_hyphen : (d == 45) ≡ false
    no_hyphen = grind (arith, nat_tests)

    differs : (b : Bool) → bytes_eq (d ∷ ds) dashes ≡ b → b ≡ false
    differs false e = refl
    differs true e =
        let same = (bytes_eq-Decides (d ∷ ds) dashes).0 e in
        let first : d ≡ 45 = ap (λ w. get_or w 0 0) same in
        absurd (omega (arith, first, high))

pub IsPlainWord-decimal : (n : ℕ) → n < 2 ^ 64 → IsPlainWord (decimal n)
IsPlainWord-decimal n fits = IsPlainWord-high (decimal n) (decimal_nonempty n fits) (starts-high n fits)

-- the words of an option are long words
long_attached : (f : Flag) (v : Text) → long_of (option_word_of f ++ 61 ∷ v) ≡ Some (flag_id f, Some v)
long_attached Size v = refl
long_attached Seed v = refl

long_alone : (f : Flag) → long_of (option_word_of f) ≡ Some (flag_id f, None)
long_alone Size = refl
long_alone Seed = refl

pub not_dashes : (f : Flag) (more : Text) → bytes_eq (option_word_of f ++ more) dashes ≡ false
not_dashes f more = by_test f (bytes_eq (option_word_of f ++ more) dashes) refl
  where
    longer : (f : Flag) → option_word_of f ++ more ≡ dashes → ⊥
    longer Size same = cc
    longer Seed same = cc

    by_test : (g : Flag) (b : Bool) → bytes_eq (option_word_of f ++ more) dashes ≡ b → b ≡ false
    by_test g false e = refl
    by_test g true e = absurd (longer f ((bytes_eq-Decides (option_word_of f ++ more) dashes).0 e))

-- from one place between options to the next, no word is at fault
record Passes (rows : List Row) (pending : Option (Text × List Text)) (words : List Text) (f : Flag) (v : Text)
    (rest : List Text) : Type 0 where
  rows_after : List Row
  pending_after : Option (Text × List Text)
  used_once : settled_rows rules pending_after rows_after
      ≡ used (read_rule f) (v ∷ []) (settled_rows rules pending rows)
  settles : settle_fault rules false (held rows_after pending_after) ≡ []
  same_fault : walk_fault shape [] (ready rows pending) words
      ≡ walk_fault shape [] (ready rows_after pending_after) rest
  same_walk : fold (walked rules []) (ready rows pending) words
      ≡ fold (walked rules []) (ready rows_after pending_after) rest

walk_step : (w next : Walk) (word : Text) (rest : List Text) → turn_fault shape [] w word ≡ []
    → walked rules [] w word ≡ next
    → walk_fault shape [] w (word ∷ rest) ≡ walk_fault shape [] next rest
unfolding walk_fault
walk_step w next word rest none walks = rw none (ap (λ v. walk_fault shape [] v rest) walks)

module _ (rows : List Row) (pending : Option (Text × List Text))
    (free : settle_fault rules false (held rows pending) ≡ []) where
  passes_attached : (f : Flag) (v : Text) (rest : List Text)
      → has_row (flag_id f) (settled_rows rules pending rows) ≡ false
      → Passes rows pending ((option_word_of f ++ 61 ∷ v) ∷ rest) f v rest
  passes_attached f v rest fresh =
      let word = option_word_of f ++ 61 ∷ v in
      let walks = attached_walked f v word rows pending (not_dashes f (61 ∷ v)) (long_attached f v) in
      record {
        rows_after = used (read_rule f) (v ∷ []) (settled_rows rules pending rows);
        pending_after = None;
        used_once = refl;
        settles = refl;
        same_fault = walk_step (ready rows pending) _ word rest (turn f fresh) walks;
        same_walk = ap (λ w. fold (walked rules []) w rest) walks;
      }
    where
      turn : (g : Flag) → has_row (flag_id g) (settled_rows rules pending rows) ≡ false
          → turn_fault shape [] (ready rows pending) (option_word_of g ++ 61 ∷ v) ≡ []
      turn Size none =
          idle_turn (option_word_of Size ++ 61 ∷ v) rows pending _ (not_dashes Size (61 ∷ v)) (long_attached Size v)
          ∙ rw (free, none) refl
      turn Seed none =
          idle_turn (option_word_of Seed ++ 61 ∷ v) rows pending _ (not_dashes Seed (61 ∷ v)) (long_attached Seed v)
          ∙ rw (free, none) refl

  passes_two : (f : Flag) (v : Text) (rest : List Text) → IsPlainWord v
      → has_row (flag_id f) (settled_rows rules pending rows) ≡ false
      → Passes rows pending (option_word_of f ∷ v ∷ rest) f v rest
  passes_two f v rest plain_word fresh =
      let now = settled_rows rules pending rows in
      let first = option_walked f (option_word_of f) rows pending (no_dash f) (long_alone f) in
      let second = value_walked f now in
      record {
        rows_after = now;
        pending_after = Some (flag_id f, v ∷ []);
        used_once = used_when_settled f now;
        settles = settled_use f now fresh;
        same_fault = walk_step (ready rows pending) (waits f now) (option_word_of f) (v ∷ rest) (turn f) first
            ∙ walk_step (waits f now) (ready now (Some (flag_id f, v ∷ []))) v rest (value_turn f now) second;
        same_walk =
            ap (λ w. fold (walked rules []) w (v ∷ rest)) first ∙ ap (λ w. fold (walked rules []) w rest) second;
      }
    where
      no_dash : (g : Flag) → bytes_eq (option_word_of g) dashes ≡ false
      no_dash g = ap (λ w. bytes_eq w dashes) (sym (append-nil (option_word_of g))) ∙ not_dashes g []

      turn : (g : Flag) → turn_fault shape [] (ready rows pending) (option_word_of g) ≡ []
      turn Size = idle_turn (option_word_of Size) rows pending _ (no_dash Size) (long_alone Size) ∙ rw free refl
      turn Seed = idle_turn (option_word_of Seed) rows pending _ (no_dash Seed) (long_alone Seed) ∙ rw free refl

      value_walked : (g : Flag) (now : List Row)
          → walked rules [] (waits g now) v ≡ ready now (Some (flag_id g, v ∷ []))
      value_walked Size now = waiting_walked Size v now None plain_word.no_dashes plain_word.no_long
          ∙ ap (λ m. after_step rules v (waits Size now) m.0 m.1)
          (not_long (option (flag_id Size)) v now (Some (flag_id Size, [])))
      value_walked Seed now = waiting_walked Seed v now None plain_word.no_dashes plain_word.no_long
          ∙ ap (λ m. after_step rules v (waits Seed now) m.0 m.1)
          (not_long (option (flag_id Seed)) v now (Some (flag_id Seed, [])))

      no_flags : (g : Flag) (now : List Row) → flag_word_fault rules false None v (waits g now).held ≡ []
      no_flags g now = rw plain_word.no_short refl

      value_turn : (g : Flag) (now : List Row) → turn_fault shape [] (waits g now) v ≡ []
      value_turn Size now = waiting_turn Size v now None plain_word.no_dashes plain_word.no_long
          ∙ rw (no_flags Size now)
          (ap (λ m. step_fault shape 1 m.0 m.1) (not_long (option (flag_id Size)) v now (Some (flag_id Size, []))))
      value_turn Seed now = waiting_turn Seed v now None plain_word.no_dashes plain_word.no_long
          ∙ rw (no_flags Seed now)
          (ap (λ m. step_fault shape 1 m.0 m.1) (not_long (option (flag_id Seed)) v now (Some (flag_id Seed, []))))

      used_when_settled : (g : Flag) (now : List Row)
          → settled_rows rules (Some (flag_id g, v ∷ [])) now ≡ used (read_rule g) (v ∷ []) now
      used_when_settled Size now = refl
      used_when_settled Seed now = refl

      settled_use : (g : Flag) (now : List Row) → has_row (flag_id g) now ≡ false
          → settle_fault rules false (held now (Some (flag_id g, v ∷ []))) ≡ []
      settled_use Size now none = rw none refl
      settled_use Seed now none = rw none refl

-- ---- both options
abbrev pub other : Flag → Flag
other Size = Seed
other Seed = Size

abbrev pub AreTwo : Flag → Text → Text → List Text → Type 0
AreTwo f a b args = (rest : List Text) × IsOption f a rest args × IsOption (other f) b [] rest

no_default_fault : (f : Flag) (rows : List Row) → default_fault rows (read_rule f) ≡ []
no_default_fault f rows = by_row (has_row (flag_id f) rows) refl
  where
    by_row : (b : Bool) → has_row (flag_id f) rows ≡ b → default_fault rows (read_rule f) ≡ []
    by_row true e = rw e refl
    by_row false e = rw e refl

no_defaults_fault : (rows : List Row) → defaults_fault rows rules ≡ []
unfolding defaults_fault
no_defaults_fault rows =
    ap (λ k. or_else k (or_else (default_fault (with_default rows (read_rule Size)) (read_rule Seed)) []))
    (no_default_fault Size rows)
    ∙ ap (λ k. or_else k []) (no_default_fault Seed (with_default rows (read_rule Size)))

level_free : (read : Kinds) (end : Walk) → read ≡ [] → settle_fault rules false end.held ≡ []
    → or_else read (or_else [] (or_else (settle_fault rules false end.held)
    (or_else (defaults_fault (settled rules end.held).rows rules)
    (check_fault shape (finished rules end.held) false)))) ≡ []
level_free read end none free = rw (none, free, no_defaults_fault (settled rules end.held).rows) refl

read_nothing : (w : Walk) → walk_fault shape [] w [] ≡ []
unfolding walk_fault
read_nothing w = refl

passes_option : (rows : List Row) (pending : Option (Text × List Text)) (f : Flag) (v : Text) (rest words : List Text)
    → settle_fault rules false (held rows pending) ≡ [] → has_row (flag_id f) (settled_rows rules pending rows) ≡ false
    → IsPlainWord v → IsOption f v rest words → Passes rows pending words f v rest
passes_option rows pending f v rest words free fresh plain_word (inl e) =
    subst (λ ws. Passes rows pending ws f v rest) (sym e) (passes_attached rows pending free f v rest fresh)
passes_option rows pending f v rest words free fresh plain_word (inr e) =
    subst (λ ws. Passes rows pending ws f v rest) (sym e) (passes_two rows pending free f v rest plain_word fresh)

fresh_other : (f : Flag) (a : Text) → has_row (flag_id (other f)) (used (read_rule f) (a ∷ []) []) ≡ false
fresh_other Size a = refl
fresh_other Seed a = refl

fresh_first : (f : Flag) → has_row (flag_id f) [] ≡ false
fresh_first f = refl

pub fault_of_two : (f : Flag) (a b : Text) (args : List Text) → IsPlainWord a → IsPlainWord b → AreTwo f a b args
    → (level_fault shape [] nothing_held args false [] ≡ [])
    × (final (ready [] None) args ≡ used (read_rule (other f)) (b ∷ []) (used (read_rule f) (a ∷ []) []))
fault_of_two f a b args plain_a plain_b two =
    let p = passes_option [] None f a two.0 args refl (fresh_first f) plain_a two.1 in
    let q = passes_option p.rows_after p.pending_after (other f) b [] two.0 p.settles
    (ap (has_row (flag_id (other f))) p.used_once ∙ fresh_other f a) plain_b two.2 in
    let end_is = p.same_walk ∙ q.same_walk in (
      level_free _ (fold (walked rules []) (ready [] None) args)
          (p.same_fault ∙ q.same_fault ∙ read_nothing (ready q.rows_after q.pending_after))
          (ap (λ v. settle_fault rules false v.held) end_is ∙ q.settles),
      ap (λ v. (settled rules v.held).rows) end_is ∙ q.used_once ∙ ap (used (read_rule (other f)) (b ∷ [])) p.used_once,
    )
