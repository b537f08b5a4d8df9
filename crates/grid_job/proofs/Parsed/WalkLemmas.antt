-- How it goes from one option to the next: what a walk without a fault has read.
use Rattle.std.proofs.Common.{◌≡◌, ◌⊎◌, true, false, List, [], ◌∷◌, ◌++◌, Some, None, Option, refl, sym, ap, ◌∙◌, inl, inr}
use Rattle.std.specs.Str.{bytes_eq}
use Rattle.std.specs.Prelude.{fold, ⊤}
use Rattle.std.proofs.lemmas.Bool.{cases_Bool}
use Rattle.clap.specs.Walk.{Row, Text, Held, Walk, option, walked, settled, settled_rows, used, has_row, arg_by_long, long_or_other, after_step}
use Rattle.clap.specs.Faults.{walk_fault, turn_fault, settle_fault, use_fault, long_fault, option_fault, flag_word_fault, step_fault}
use Rattle.clap.specs.Kinds.{or_else}
use Rattle.clap.specs.Lexer.{long_of}
use Rattle.grid_job.specs.declared.words.Flag.{Flag}
use Rattle.grid_job.specs.declared.words.Flag.TheVariants.{Size, Seed}
use Rattle.grid_job.specs.Inner.Parsing.{flag_id, dashes}
use Rattle.grid_job.proofs.Parsed.WordLemmas.{read_rule, shape, rules, cons≢nil, or_else-first, or_else-second, known_name, held, ready, waits, not_long, waiting_turn, idle_walked, waiting_walked, idle_word}

-- ---- a walk to the end of the words
pub record Ends (w : Walk) (words : List Text) : Type 0 where
  pub read : walk_fault shape [] w words ≡ []
  pub settles : settle_fault rules false (fold (walked rules []) w words).held ≡ []

abbrev pub final : Walk → List Text → List Row
final w words = (settled rules (fold (walked rules []) w words).held).rows

abbrev pub NoDashes : List Text → Type 0
NoDashes [] = ⊤
NoDashes (w ∷ ws) = (bytes_eq w dashes ≡ false) × NoDashes ws

pub Ends-turn : (w : Walk) (word : Text) (rest : List Text) → Ends w (word ∷ rest) → turn_fault shape [] w word ≡ []
unfolding walk_fault
Ends-turn w word rest e = or_else-first _ _ e.read

pub Ends-next : (w next : Walk) (word : Text) (rest : List Text) → walked rules [] w word ≡ next → Ends w (word ∷ rest)
    → Ends next rest
unfolding walk_fault
Ends-next w next word rest is e = record {
  read = ap (λ v. walk_fault shape [] v rest) (sym is) ∙ or_else-second (turn_fault shape [] w word) _ e.read;
  settles = ap (λ v. settle_fault rules false (fold (walked rules []) v rest).held) (sym is) ∙ e.settles;
}

pub final-next : (w next : Walk) (word : Text) (rest : List Text) → walked rules [] w word ≡ next
    → final w (word ∷ rest) ≡ final next rest
final-next w next word rest is = ap (λ v. final v rest) is

-- the option before is done with where the next begins
option_settles : (f : Flag) (val : Option Text) (h : Held) → option_fault rules false (read_rule f) val h ≡ []
    → settle_fault rules false h ≡ []
option_settles f None h free = free
option_settles f (Some v) h free = or_else-first _ _ free

pub Ends-settles : (rows : List Row) (pending : Option (Text × List Text)) (words : List Text) → NoDashes words
    → Ends (ready rows pending) words → settle_fault rules false (held rows pending) ≡ []
Ends-settles rows pending [] no_dashes e = e.settles
Ends-settles rows pending (w ∷ ws) no_dashes e =
    let word = idle_word w rows pending no_dashes.0 (Ends-turn (ready rows pending) w ws e) in
    option_settles word.0 word.1 (held rows pending) word.3

pub use_fresh : (f : Flag) (v : Text) (rows : List Row) → use_fault false (read_rule f) (v ∷ []) rows ≡ []
    → has_row (flag_id f) rows ≡ false
use_fresh f v rows free = elim (cases_Bool (has_row (flag_id f) rows)) [
  | inl has ↦ absurd (again f has free)
  | inr none ↦ none
]
  where
    again : (f : Flag) → has_row (flag_id f) rows ≡ true → use_fault false (read_rule f) (v ∷ []) rows ≡ [] → ⊥
    again Size has free = cons≢nil _ _ (rw has at free)
    again Seed has free = cons≢nil _ _ (rw has at free)

-- ---- one option
abbrev pub option_word_of : Flag → Text
option_word_of f = 45 ∷ 45 ∷ flag_id f

abbrev pub IsOption : Flag → Text → List Text → List Text → Type 0
IsOption f v rest words = (words ≡ (option_word_of f ++ 61 ∷ v) ∷ rest) ⊎ (words ≡ option_word_of f ∷ v ∷ rest)

pub record ReadsOption (rows : List Row) (pending : Option (Text × List Text)) (words : List Text) : Type 0 where
  pub flag : Flag
  pub value : Text
  pub rest : List Text
  pub words_are : IsOption flag value rest words
  pub fresh : has_row (flag_id flag) (settled_rows rules pending rows) ≡ false
  pub rows_after : List Row
  pub pending_after : Option (Text × List Text)
  pub used_once : settled_rows rules pending_after rows_after
      ≡ used (read_rule flag) (value ∷ []) (settled_rows rules pending rows)
  pub no_dashes : NoDashes rest
  pub ends : Ends (ready rows_after pending_after) rest
  pub same_end : final (ready rows pending) words ≡ final (ready rows_after pending_after) rest

-- with its value
pub attached_walked : (f : Flag) (v w : Text) (rows : List Row) (pending : Option (Text × List Text))
    → bytes_eq w dashes ≡ false
    → long_of w ≡ Some (flag_id f, Some v)
    → walked rules [] (ready rows pending) w
    ≡ ready (used (read_rule f) (v ∷ []) (settled_rows rules pending rows)) None
attached_walked Size v w rows pending no_dashes is = idle_walked w rows pending _ no_dashes is
attached_walked Seed v w rows pending no_dashes is = idle_walked w rows pending _ no_dashes is

pub option_walked : (f : Flag) (w : Text) (rows : List Row) (pending : Option (Text × List Text))
    → bytes_eq w dashes ≡ false
    → long_of w ≡ Some (flag_id f, None)
    → walked rules [] (ready rows pending) w ≡ waits f (settled_rows rules pending rows)
option_walked Size w rows pending no_dashes is = idle_walked w rows pending _ no_dashes is
option_walked Seed w rows pending no_dashes is = idle_walked w rows pending _ no_dashes is

-- behind an option stands its value
pub waiting_word : (f : Flag) (w : Text) (rows : List Row) → bytes_eq w dashes ≡ false
    → turn_fault shape [] (waits f rows) w ≡ []
    → walked rules [] (waits f rows) w ≡ ready rows (Some (flag_id f, w ∷ []))
waiting_word f w rows no_dashes none =
    by_long (long_of w) refl (sym (waiting_turn f w rows (long_of w) no_dashes refl) ∙ none)
  where
    value_read : (f : Flag) → long_of w ≡ None
        → walked rules [] (waits f rows) w ≡ ready rows (Some (flag_id f, w ∷ []))
    value_read Size e = waiting_walked Size w rows None no_dashes e
        ∙ ap (λ m. after_step rules w (waits Size rows) m.0 m.1)
        (not_long (option (flag_id Size)) w rows (Some (flag_id Size, [])))
    value_read Seed e = waiting_walked Seed w rows None no_dashes e
        ∙ ap (λ m. after_step rules w (waits Seed rows) m.0 m.1)
        (not_long (option (flag_id Seed)) w rows (Some (flag_id Seed, [])))

    unsettled : (f g : Flag) (val : Option Text) → option_fault rules false (read_rule g) val (waits f rows).held ≡ []
        → ⊥
    unsettled Size g val free = cons≢nil _ _ (option_settles g val (waits Size rows).held free)
    unsettled Seed g val free = cons≢nil _ _ (option_settles g val (waits Seed rows).held free)

    by_name : (name : Text) (val : Option Text) → ((g : Flag) × (name ≡ flag_id g)) ⊎ (arg_by_long rules name ≡ None)
        → long_fault rules false (arg_by_long rules name) val (waits f rows).held ≡ [] → ⊥
    by_name name val (inl (Size, is)) free =
        unsettled f Size val (ap (λ n. long_fault rules false (arg_by_long rules n) val (waits f rows).held) (sym is)
        ∙ free)
    by_name name val (inl (Seed, is)) free =
        unsettled f Seed val (ap (λ n. long_fault rules false (arg_by_long rules n) val (waits f rows).held) (sym is)
        ∙ free)
    by_name name val (inr unknown) free =
        cons≢nil _ _ (ap (λ a. long_fault rules false a val (waits f rows).held) (sym unknown) ∙ free)

    by_long : (o : Option (Text × Option Text)) → long_of w ≡ o
        → or_else (flag_word_fault rules false o w (waits f rows).held)
        (step_fault shape 1 (long_or_other rules (option (flag_id f)) w o (waits f rows).held).0
        (long_or_other rules (option (flag_id f)) w o (waits f rows).held).1) ≡ []
        → walked rules [] (waits f rows) w ≡ ready rows (Some (flag_id f, w ∷ []))
    by_long None e free = value_read f e
    by_long (Some p) e free = absurd (by_name p.0 p.1 (known_name p.0) (or_else-first _ _ free))
