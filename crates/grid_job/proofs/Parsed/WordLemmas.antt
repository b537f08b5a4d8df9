-- How `clap` takes one word of `make`: between two options, and behind the name of one.
use Rattle.std.proofs.Common.{◌≡◌, ◌⊎◌, ℕ, true, false, List, [], ◌∷◌, Some, None, Option, codes, refl, sym, ap, ◌∙◌, inl, inr, length, zero, suc}
use Rattle.std.specs.Str.{bytes_eq, chars}
use Rattle.std.specs.Prelude.{slice_get}
use Rattle.std.proofs.lemmas.Slice.Eq.{bytes_eq-Decides}
use Rattle.std.proofs.lemmas.Bool.{cases_Bool}
use Rattle.clap.specs.Walk.{Rule, Row, Text, Held, Walk, Waiting, idle, option, walked, arg_by_long, bundle_met, bundle, long_or_other, short_or_plain, after_flag, Outcome, plain, refused, after_step, plain_word}
use Rattle.clap.specs.Simple.{Shape, built}
use Rattle.clap.specs.Faults.{is_simple_and_free, turn_fault, long_fault, option_fault, flag_word_fault, step_fault}
use Rattle.clap.specs.Kinds.{Kinds, or_else}
use Rattle.clap.specs.Lexer.{long_of, short_of}
use Rattle.clap.specs.declared.error.kind.ErrorKind.{ErrorKind}
use Rattle.grid_job.specs.declared.words.Flag.{Flag}
use Rattle.grid_job.specs.declared.words.Flag.TheVariants.{Size, Seed}
use Rattle.grid_job.specs.Inner.Parsing.{flag_id, flag_rule, make_command, dashes}
use Rattle.clap.specs.declared.builder.value_parser.ValueParser.TheVariants as vp

abbrev pub read_rule : Flag → Rule
read_rule f =
    record (flag_rule f) { range = Some (record { start_inclusive = 1; end_inclusive = 1 }); parser = Some vp.String }

abbrev pub shape : Shape
shape = (built make_command).top

abbrev pub rules : List Rule
rules = read_rule Size ∷ read_rule Seed ∷ []

-- `clap` says of such a command which words it refuses, and what it finds
pub simple_and_free : is_simple_and_free make_command ≡ true
simple_and_free = refl

-- ---- kinds
pub cons≢nil : (k : ErrorKind) (ks : Kinds) → k ∷ ks ≡ [] → ⊥
cons≢nil k ks e = cc

pub or_else-first : (a b : Kinds) → or_else a b ≡ [] → a ≡ []
or_else-first [] b e = refl
or_else-first (k ∷ ks) b e = absurd (cons≢nil k ks e)

pub or_else-second : (a b : Kinds) → or_else a b ≡ [] → b ≡ []
or_else-second [] b e = e
or_else-second (k ∷ ks) b e = absurd (cons≢nil k ks e)

-- ---- names
pub known_name : (name : Text) → ((f : Flag) × (name ≡ flag_id f)) ⊎ (arg_by_long rules name ≡ None)
known_name name = elim (cases_Bool (bytes_eq (codes "size") name)) [
  | inl same ↦ inl (Size, sym ((bytes_eq-Decides (codes "size") name).0 same))
  | inr other ↦ elim (cases_Bool (bytes_eq (codes "seed") name)) [
    | inl same ↦ inl (Seed, sym ((bytes_eq-Decides (codes "seed") name).0 same))
    | inr neither ↦ inr (rw (other, neither) refl)
  ]
]

-- ---- the walk between two options
abbrev pub held : List Row → Option (Text × List Text) → Held
held rows pending = record { rows = rows; pending = pending; skip = 0 }

abbrev pub ready : List Row → Option (Text × List Text) → Walk
ready rows pending = record {
  held = held rows pending;
  waiting = idle;
  position = 1;
  is_trailing = false;
  stopped = None;
}

-- and behind `--size` or `--seed`
abbrev pub waits : Flag → List Row → Walk
waits f rows = record {
  held = held rows (Some (flag_id f, []));
  waiting = option (flag_id f);
  position = 1;
  is_trailing = false;
  stopped = None;
}

-- there are no short options
abbrev IsUnread : Held → Held × Outcome → Type 0
IsUnread h m = (m ≡ (h, plain)) ⊎ (m ≡ (h, refused))

bundle-unread : (flags : Text) (rows : List Row) (pending : Option (Text × List Text))
    → IsUnread (held rows pending) (bundle rules flags (held rows pending))
unfolding bundle_met
bundle-unread flags rows pending = unread (length flags)
  where
    first : (k : ℕ) (x : Option ℕ) → slice_get (chars flags) 0 ≡ x
        → IsUnread (held rows pending) (bundle_met rules (suc k) flags 0 plain (held rows pending))
    first k None e = inl (rw e refl)
    first k (Some x) e = inr (rw e refl)

    unread : (k : ℕ) → IsUnread (held rows pending) (bundle_met rules k flags 0 plain (held rows pending))
    unread zero = inl refl
    unread (suc k) = first k (slice_get (chars flags) 0) refl

-- so a word that is no long option is a plain word
plain_after : (waiting : Waiting) (w : Text) (h : Held) (m : Held × Outcome) → IsUnread h m
    → after_flag rules waiting w m.0 m.1 ≡ plain_word rules waiting w h
plain_after waiting w h m (inl e) = ap (λ q. after_flag rules waiting w q.0 q.1) e
plain_after waiting w h m (inr e) = ap (λ q. after_flag rules waiting w q.0 q.1) e

pub not_long : (waiting : Waiting) (w : Text) (rows : List Row) (pending : Option (Text × List Text))
    → long_or_other rules waiting w None (held rows pending) ≡ plain_word rules waiting w (held rows pending)
not_long waiting w rows pending = by_flags (short_of w) refl
  where
    by_flags : (o : Option Text) → short_of w ≡ o
        → short_or_plain rules waiting w (short_of w) (held rows pending)
        ≡ plain_word rules waiting w (held rows pending)
    by_flags None e = rw e refl
    by_flags (Some flags) e = ap (λ o. short_or_plain rules waiting w o (held rows pending)) e
        ∙ plain_after waiting w (held rows pending) (bundle rules flags (held rows pending))
        (bundle-unread flags rows pending)

-- a word between two options
pub idle_turn : (w : Text) (rows : List Row) (pending : Option (Text × List Text)) (o : Option (Text × Option Text))
    → bytes_eq w dashes ≡ false → long_of w ≡ o
    → turn_fault shape [] (ready rows pending) w
    ≡ or_else (flag_word_fault rules false o w (held rows pending))
    (step_fault shape 1 (long_or_other rules idle w o (held rows pending)).0
    (long_or_other rules idle w o (held rows pending)).1)
idle_turn w rows pending o no_dashes is = rw (no_dashes, is) refl

pub waiting_turn : (f : Flag) (w : Text) (rows : List Row) (o : Option (Text × Option Text))
    → bytes_eq w dashes ≡ false → long_of w ≡ o
    → turn_fault shape [] (waits f rows) w
    ≡ or_else (flag_word_fault rules false o w (waits f rows).held)
    (step_fault shape 1 (long_or_other rules (option (flag_id f)) w o (waits f rows).held).0
    (long_or_other rules (option (flag_id f)) w o (waits f rows).held).1)
waiting_turn f w rows o no_dashes is = rw (no_dashes, is) refl

pub idle_walked : (w : Text) (rows : List Row) (pending : Option (Text × List Text)) (o : Option (Text × Option Text))
    → bytes_eq w dashes ≡ false → long_of w ≡ o
    → walked rules [] (ready rows pending) w
    ≡ after_step rules w (ready rows pending) (long_or_other rules idle w o (held rows pending)).0
    (long_or_other rules idle w o (held rows pending)).1
unfolding walked
idle_walked w rows pending o no_dashes is = rw (no_dashes, is) refl

pub waiting_walked : (f : Flag) (w : Text) (rows : List Row) (o : Option (Text × Option Text))
    → bytes_eq w dashes ≡ false → long_of w ≡ o
    → walked rules [] (waits f rows) w
    ≡ after_step rules w (waits f rows) (long_or_other rules (option (flag_id f)) w o (waits f rows).held).0
    (long_or_other rules (option (flag_id f)) w o (waits f rows).held).1
unfolding walked
waiting_walked f w rows o no_dashes is = rw (no_dashes, is) refl

-- between two options stands a long option with a known name
pub idle_word : (w : Text) (rows : List Row) (pending : Option (Text × List Text)) → bytes_eq w dashes ≡ false
    → turn_fault shape [] (ready rows pending) w ≡ []
    → (f : Flag) × (val : Option Text) × (long_of w ≡ Some (flag_id f, val))
    × (option_fault rules false (read_rule f) val (held rows pending) ≡ [])
idle_word w rows pending no_dashes none =
    by_long (long_of w) refl (sym (idle_turn w rows pending (long_of w) no_dashes refl) ∙ none)
  where
    by_name : (name : Text) (val : Option Text) → ((f : Flag) × (name ≡ flag_id f)) ⊎ (arg_by_long rules name ≡ None)
        → long_of w ≡ Some (name, val) → long_fault rules false (arg_by_long rules name) val (held rows pending) ≡ []
        → (f : Flag) × (val : Option Text) × (long_of w ≡ Some (flag_id f, val))
        × (option_fault rules false (read_rule f) val (held rows pending) ≡ [])
    by_name name val (inl (Size, is)) e free = (
      Size,
      val,
      e ∙ ap (λ n. Some (n, val)) is,
      ap (λ n. long_fault rules false (arg_by_long rules n) val (held rows pending)) (sym is) ∙ free,
    )
    by_name name val (inl (Seed, is)) e free = (
      Seed,
      val,
      e ∙ ap (λ n. Some (n, val)) is,
      ap (λ n. long_fault rules false (arg_by_long rules n) val (held rows pending)) (sym is) ∙ free,
    )
    by_name name val (inr unknown) e free =
        absurd (cons≢nil _ _ (ap (λ a. long_fault rules false a val (held rows pending)) (sym unknown) ∙ free))

    by_long : (o : Option (Text × Option Text)) → long_of w ≡ o
        → or_else (flag_word_fault rules false o w (held rows pending))
        (step_fault shape 1 (long_or_other rules idle w o (held rows pending)).0
        (long_or_other rules idle w o (held rows pending)).1) ≡ []
        → (f : Flag) × (val : Option Text) × (long_of w ≡ Some (flag_id f, val))
        × (option_fault rules false (read_rule f) val (held rows pending) ≡ [])
    by_long None e free =
        let stray = or_else-second (flag_word_fault rules false None w (held rows pending)) _ free in
        absurd (cons≢nil _ _ (ap (λ m. step_fault shape 1 m.0 m.1) (sym (not_long idle w rows pending)) ∙ stray))
    by_long (Some p) e free = by_name p.0 p.1 (known_name p.0) e (or_else-first _ _ free)
