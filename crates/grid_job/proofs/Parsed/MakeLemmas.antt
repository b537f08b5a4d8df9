-- What `clap` reads is what `make` is asked for, in both directions.
use Rattle.std.proofs.Common.{◌≡◌, ◌⊎◌, ℕ, Bool, true, false, List, [], ◌∷◌, ◌++◌, Some, None, codes, refl, sym, ap, subst, ◌∙◌, inl, inr, length, arith, append-nil, ◌≤◌}
use Rattle.std.specs.Fmt.{decimal}
use Rattle.std.specs.Str.{bytes_eq}
use Rattle.std.proofs.lemmas.Bool.{false≢true}
use Rattle.clap.specs.Walk.{Row, Text, used, has_row, nothing_held, first_of}
use Rattle.clap.specs.Simple.{matches_of}
use Rattle.clap.specs.Faults.{fault_of, level_fault}
use Rattle.std.specs.List.{list_any}
use Rattle.grid_job.specs.Words.{word_at, least_value, greatest_value, AreOptions, IsMake}
use Rattle.grid_job.specs.declared.words.Flag.{Flag}
use Rattle.grid_job.specs.declared.words.Flag.TheVariants.{Size, Seed}
use Rattle.grid_job.specs.Inner.Parsing.{flag_id, make_command, dashes}
use Rattle.grid_job.proofs.Parsed.WordLemmas.{read_rule, shape, ready}
use Rattle.grid_job.proofs.Parsed.WalkLemmas.{final, NoDashes, option_word_of, IsOption}
use Rattle.grid_job.proofs.Parsed.ReadLemmas.{some_same, Reads, reads, ends_of_parse, level_of_app, rows_of_app}
use Rattle.grid_job.proofs.Parsed.PassLemmas.{IsPlainWord, IsPlainWord-decimal, not_dashes, other, AreTwo, fault_of_two}
use Rattle.grid_job.proofs.Parsed.OptionPlaceLemmas.{two_of_options, options_of_two}

-- ---- what a parse tells
module _ (w : Text) (args : List Text) (size seed : Text) (no_dashes : NoDashes args)
    (free : fault_of make_command (w ∷ args) ≡ [])
    (size_is : first_of (codes "size") (matches_of make_command (w ∷ args)) ≡ Some size)
    (seed_is : first_of (codes "seed") (matches_of make_command (w ∷ args)) ≡ Some seed) where
  -- both options were read, in one order or the other
  pub two_read : AreTwo Size size seed args ⊎ AreTwo Seed seed size args
  two_read = by_case (reads args no_dashes (ends_of_parse args (sym (level_of_app w args) ∙ free)))
    where
      size_at : (rows : List Row) → final (ready [] None) args ≡ rows → first_of (codes "size") rows ≡ Some size
      size_at rows e = ap (first_of (codes "size")) (sym (rows_of_app w args ∙ e)) ∙ size_is

      seed_at : (rows : List Row) → final (ready [] None) args ≡ rows → first_of (codes "seed") rows ≡ Some seed
      seed_at rows e = ap (first_of (codes "seed")) (sym (rows_of_app w args ∙ e)) ∙ seed_is

      by_one : (f : Flag) (a : Text) → final (ready [] None) args ≡ used (read_rule f) (a ∷ []) [] → ⊥
      by_one Size a e = let none : None ≡ Some seed = seed_at _ e in cc
      by_one Seed a e = let none : None ≡ Some size = size_at _ e in cc

      by_two : (f g : Flag) (a b : Text) (rest : List Text)
          → has_row (flag_id g) (used (read_rule f) (a ∷ []) []) ≡ false
          → IsOption f a rest args → IsOption g b [] rest
          → final (ready [] None) args ≡ used (read_rule g) (b ∷ []) (used (read_rule f) (a ∷ []) [])
          → AreTwo Size size seed args ⊎ AreTwo Seed seed size args
      by_two Size Size a b rest apart first second e = absurd (false≢true (sym apart))
      by_two Seed Seed a b rest apart first second e = absurd (false≢true (sym apart))
      by_two Size Seed a b rest apart first second e =
          let a_is : a ≡ size = some_same (size_at _ e) in
          let b_is : b ≡ seed = some_same (seed_at _ e) in
          inl (
            rest,
            subst (λ v. IsOption Size v rest args) a_is first,
            subst (λ v. IsOption Seed v [] rest) b_is second,
          )
      by_two Seed Size a b rest apart first second e =
          let a_is : a ≡ seed = some_same (seed_at _ e) in
          let b_is : b ≡ size = some_same (size_at _ e) in
          inr (
            rest,
            subst (λ v. IsOption Seed v rest args) a_is first,
            subst (λ v. IsOption Size v [] rest) b_is second,
          )

      by_case : Reads args → AreTwo Size size seed args ⊎ AreTwo Seed seed size args
      by_case (inl nothing) = let none : None ≡ Some size = size_at [] nothing in cc
      by_case (inr (inl one)) = absurd (by_one one.0 one.1 one.2)
      by_case (inr (inr both)) =
          by_two both.first both.second both.a both.b both.rest both.apart both.first_words both.second_words
          both.same_end

-- ---- the words of `make`, and the parse of them
NoDashes-from : (words : List Text) → list_any (λ w. bytes_eq w dashes) words ≡ false → NoDashes words
NoDashes-from [] none = tt
NoDashes-from (w ∷ ws) none = by_first (λ rest. NoDashes-from ws rest) (bytes_eq w dashes) refl
  where
    by_first : (list_any (λ w. bytes_eq w dashes) ws ≡ false → NoDashes ws) → (b : Bool) → bytes_eq w dashes ≡ b
        → NoDashes (w ∷ ws)
    by_first later true e = let bad : true ≡ false = rw e at none in absurd (false≢true (sym bad))
    by_first later false e = (e, later (rw e at none))

pub make_of_parse : (words : List Text) (n s : ℕ) → word_at words 0 ≡ codes "make"
    → list_any (λ w. bytes_eq w dashes) words ≡ false → fault_of make_command words ≡ []
    → first_of (codes "size") (matches_of make_command words) ≡ Some (decimal n)
    → first_of (codes "seed") (matches_of make_command words) ≡ Some (decimal s)
    → least_value Size ≤ n → n ≤ greatest_value Size → least_value Seed ≤ s → s ≤ greatest_value Seed → IsMake words n s
make_of_parse [] n s command none free size_is seed_is low_n high_n low_s high_s = cc
make_of_parse (w ∷ args) n s command none free size_is seed_is low_n high_n low_s high_s =
    elim (two_read w args (decimal n) (decimal s) (NoDashes-from (w ∷ args) none).1 free size_is seed_is) [
      | inl two ↦
          record { command = command; options = inl (options_of_two w Size n s low_n high_n low_s high_s args two) }
      | inr two ↦
          record { command = command; options = inr (options_of_two w Seed s n low_s high_s low_n high_n args two) }
    ]

pub record IsParsed (words : List Text) (n s : ℕ) : Type 0 where
  pub free : fault_of make_command words ≡ []
  pub size : first_of (codes "size") (matches_of make_command words) ≡ Some (decimal n)
  pub seed : first_of (codes "seed") (matches_of make_command words) ≡ Some (decimal s)
  pub least_words : 3 ≤ length words
  pub most_words : length words ≤ 5
  pub no_dashes : list_any (λ w. bytes_eq w dashes) words ≡ false

module _ (w : Text) (f : Flag) (a b : Text) (args : List Text) (command : w ≡ codes "make") (plain_a : IsPlainWord a)
    (plain_b : IsPlainWord b)
    (two : AreTwo f a b args) where
  read_both : (level_fault shape [] nothing_held args false [] ≡ [])
      × (final (ready [] None) args ≡ used (read_rule (other f)) (b ∷ []) (used (read_rule f) (a ∷ []) []))
  read_both = fault_of_two f a b args plain_a plain_b two

  two_free : fault_of make_command (w ∷ args) ≡ []
  two_free = level_of_app w args ∙ read_both.0

  two_rows : matches_of make_command (w ∷ args) ≡ used (read_rule (other f)) (b ∷ []) (used (read_rule f) (a ∷ []) [])
  two_rows = rows_of_app w args ∙ read_both.1

  no_dash_option : (g : Flag) → bytes_eq (option_word_of g) dashes ≡ false
  no_dash_option g = ap (λ u. bytes_eq u dashes) (sym (append-nil (option_word_of g))) ∙ not_dashes g []

  no_dash_command : bytes_eq w dashes ≡ false
  no_dash_command = ap (λ u. bytes_eq u dashes) command

  two_words : (3 ≤ length (w ∷ args)) × (length (w ∷ args) ≤ 5) × (list_any (λ u. bytes_eq u dashes) (w ∷ args) ≡ false)
  two_words = by_words two.0 two.1 two.2
    where
      by_words : (rest : List Text) → IsOption f a rest args → IsOption (other f) b [] rest
          → (3 ≤ length (w ∷ args)) × (length (w ∷ args) ≤ 5) × (list_any (λ u. bytes_eq u dashes) (w ∷ args) ≡ false)
      by_words rest (inl e) (inl d) =
          let is : args ≡ (option_word_of f ++ 61 ∷ a) ∷ (option_word_of (other f) ++ 61 ∷ b) ∷ [] =
          e ∙ ap (λ r. (option_word_of f ++ 61 ∷ a) ∷ r) d in
          rw is (
            omega arith,
            omega arith,
            rw (no_dash_command, not_dashes f (61 ∷ a), not_dashes (other f) (61 ∷ b)) refl,
          )
      by_words rest (inl e) (inr d) =
          let is : args ≡ (option_word_of f ++ 61 ∷ a) ∷ option_word_of (other f) ∷ b ∷ [] =
          e ∙ ap (λ r. (option_word_of f ++ 61 ∷ a) ∷ r) d in
          rw is (
            omega arith,
            omega arith,
            rw (no_dash_command, not_dashes f (61 ∷ a), no_dash_option (other f), plain_b.no_dashes) refl,
          )
      by_words rest (inr e) (inl d) =
          let is : args ≡ option_word_of f ∷ a ∷ (option_word_of (other f) ++ 61 ∷ b) ∷ [] =
          e ∙ ap (λ r. option_word_of f ∷ a ∷ r) d in
          rw is (
            omega arith,
            omega arith,
            rw (no_dash_command, no_dash_option f, plain_a.no_dashes, not_dashes (other f) (61 ∷ b)) refl,
          )
      by_words rest (inr e) (inr d) =
          let is : args ≡ option_word_of f ∷ a ∷ option_word_of (other f) ∷ b ∷ [] =
          e ∙ ap (λ r. option_word_of f ∷ a ∷ r) d in
          rw is (
            omega arith,
            omega arith,
            rw (no_dash_command, no_dash_option f, plain_a.no_dashes, no_dash_option (other f), plain_b.no_dashes) refl,
          )

-- a number within its bounds is a plain word
plain_option : (f : Flag) (v : ℕ) → v ≤ greatest_value f → IsPlainWord (decimal v)
plain_option Size v high = IsPlainWord-decimal v (omega (arith, high))
plain_option Seed v high = IsPlainWord-decimal v (omega (arith, high))

pub parse_of_make : (words : List Text) (n s : ℕ) → IsMake words n s → IsParsed words n s
parse_of_make words n s make = by_order make.options
  where
    parsed : (f : Flag) (a b : Text) (args : List Text) → words ≡ word_at words 0 ∷ args → IsPlainWord a → IsPlainWord b
        → AreTwo f a b args
        → first_of (codes "size") (used (read_rule (other f)) (b ∷ []) (used (read_rule f) (a ∷ []) []))
        ≡ Some (decimal n)
        → first_of (codes "seed") (used (read_rule (other f)) (b ∷ []) (used (read_rule f) (a ∷ []) []))
        ≡ Some (decimal s)
        → IsParsed words n s
    parsed f a b args split plain_a plain_b two size_is seed_is =
        let w = word_at words 0 in
        let all = two_words w f a b args make.command plain_a plain_b two in
        subst (λ ws. IsParsed ws n s) (sym split) (record {
          free = two_free w f a b args make.command plain_a plain_b two;
          size = ap (first_of (codes "size")) (two_rows w f a b args make.command plain_a plain_b two) ∙ size_is;
          seed = ap (first_of (codes "seed")) (two_rows w f a b args make.command plain_a plain_b two) ∙ seed_is;
          least_words = all.0;
          most_words = all.1;
          no_dashes = all.2;
        })

    by_order : AreOptions words Size n Seed s ⊎ AreOptions words Seed s Size n → IsParsed words n s
    by_order (inl h) =
        let two = two_of_options words Size n s h in
        parsed Size (decimal n) (decimal s) two.0 two.1 (plain_option Size n h.first.high)
        (plain_option Seed s h.second.high) two.2 refl refl
    by_order (inr h) =
        let two = two_of_options words Seed s n h in
        parsed Seed (decimal s) (decimal n) two.0 two.1 (plain_option Seed s h.first.high)
        (plain_option Size n h.second.high) two.2 refl refl
