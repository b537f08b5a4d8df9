-- From the words and the matches of `clap` to the numbers of `make`.
use Rattle.std.proofs.Common.{◌≡◌, ◌≢◌, ℕ, ◌≤◌, Bool, true, false, not, List, [], ◌∷◌, map, string_bytes, length, Global, String, get_or, ◌||◌, ◌↔◌, Option, None, Some, IfOk, IfSome, IfNone, IsTrue, Result, Ok, Err, refl, sym, ap, subst, ◌∙◌, inl, inr, arith, codes}
use Rattle.std.specs.Fmt.{decimal}
use Rattle.std.specs.List.{list_any}
use Rattle.std.specs.Prelude.{option_map}
use Rattle.std.specs.Borrow.{Bor}
use Rattle.std.specs.Str.{bytes_eq}
use Rattle.clap.proofs.WalkLemmas.{first_value-rows}
use Rattle.clap.specs.Faults.{fault_of}
use Rattle.std.proofs.lemmas.Bool.{false≢true}
use Rattle.std.proofs.lemmas.List.{length-map}
use Rattle.std.proofs.lemmas.Slice.Eq.{bytes_eq-Decides}
use Rattle.clap.specs.Kinds.{HasKind}
use Rattle.clap.specs.Matches.{first_value, found_of}
use Rattle.clap.specs.Simple.{matches_of}
use Rattle.clap.specs.Values.{kind_of}
use Rattle.clap.specs.Walk.{first_of, rows_of}
use Rattle.clap.specs.declared.error.Error.{Error}
use Rattle.std.specs.declared.alloc.AllocError.{AllocError}
use Rattle.clap.specs.declared.error.kind.ErrorKind.TheVariants.{OutOfMemory}
use Rattle.clap.specs.declared.parser.matches.ArgMatches.{ArgMatches}
use Rattle.grid_job.specs.Inner.Parsing.{flag_id, make_command, dashes, MayBeMake, HasValue}
use Rattle.grid_job.specs.Words.{least_value, greatest_value, IsMake}
use Rattle.grid_job.specs.declared.words.Flag.{Flag}
use Rattle.grid_job.specs.declared.words.Flag.TheVariants.{Size, Seed}
use Rattle.grid_job.proofs.Parsed.MakeLemmas.{make_of_parse, parse_of_make}

-- ---- the value of an option
module _ (m : ArgMatches) (f : Flag) (id : List ℕ) (r : Option (Bor (List ℕ))) (id_is : id ≡ flag_id f)
    (told : option_map (λ s. s.now) r ≡ first_value (found_of m) id) where
  first_is : first_of (flag_id f) (rows_of (found_of m)) ≡ option_map (λ s. s.now) r
  first_is = sym (told ∙ first_value-rows (found_of m) id ∙ ap (λ k. first_of k (rows_of (found_of m))) id_is)

  pub no_value : r ≡ None → (v : ℕ) → HasValue m f v → ⊥
  no_value none v h =
      let bad : None ≡ Some (decimal v) = ap (option_map (λ s. s.now)) (sym none) ∙ sym first_is ∙ h.first in
      cc

  module _ (text : Bor (List ℕ)) (bytes : List ℕ) (low high : ℕ) (some : r ≡ Some text) (same : bytes ≡ text.now)
      (low_is : low ≡ least_value f) (high_is : high ≡ greatest_value f) where
    text_is : first_of (flag_id f) (rows_of (found_of m)) ≡ Some bytes
    text_is = first_is ∙ ap (option_map (λ s. s.now)) some ∙ ap Some (sym same)

    pub has_value : (n : Option ℕ) → IfSome n (λ v. (bytes ≡ decimal v) × (low ≤ v) × (v ≤ high))
        → IfSome n (HasValue m f)
    has_value None h = tt
    has_value (Some v) h = record {
      first = text_is ∙ ap Some h.0;
      low = let least_is = h.1 in omega (arith, low_is, least_is);
      high = let greatest_is = h.2 in omega (arith, high_is, greatest_is);
    }

    pub lacks_value : (n : Option ℕ) → IfNone n ((v : ℕ) → low ≤ v → v ≤ high → bytes ≢ decimal v)
        → IfNone n ((v : ℕ) → HasValue m f v → ⊥)
    lacks_value (Some n) h = tt
    lacks_value None h = λ v has.
        let least_is = has.low in
        let greatest_is = has.high in
        h v (omega (arith, low_is, least_is)) (omega (arith, high_is, greatest_is))
        (same_text (sym text_is ∙ has.first))
      where
        same_text : {a b : List ℕ} → Some a ≡ Some b → a ≡ b
        same_text e = cc

-- ---- the words
any-map : (words : List (String Global)) → list_any (λ w. bytes_eq w dashes) (map (string_bytes {Z = Global}) words)
    ≡ list_any (λ w. bytes_eq (string_bytes {Z = Global} w) dashes) words
any-map [] = refl
any-map (w ∷ ws) = ap (λ b. bytes_eq (string_bytes {Z = Global} w) dashes || b) (any-map ws)

pub may_be_of_make : (words : List (List ℕ)) (n s : ℕ) → IsMake words n s → MayBeMake words
may_be_of_make words n s make =
    let parsed = parse_of_make words n s make in
    record {
      command = make.command;
      least_words = parsed.least_words;
      most_words = parsed.most_words;
      no_dashes = parsed.no_dashes;
    }

-- ---- what a parse that goes through has found
module _ (words : List (List ℕ)) (m : ArgMatches) (may_be : MayBeMake words) (free : fault_of make_command words ≡ [])
    (rows_are : rows_of (found_of m) ≡ matches_of make_command words) where
  pub make_found : (r : Option (ℕ × ℕ)) → IfSome r (λ p. HasValue m Size p.0 × HasValue m Seed p.1)
      → IfSome r (λ p. IsMake words p.0 p.1)
  make_found None h = tt
  make_found (Some p) h =
      make_of_parse words p.0 p.1 may_be.command may_be.no_dashes free
      (ap (first_of (codes "size")) (sym rows_are) ∙ h.0.first)
      (ap (first_of (codes "seed")) (sym rows_are) ∙ h.1.first)
      h.0.low h.0.high h.1.low h.1.high

  pub no_make_found : (r : Option (ℕ × ℕ))
      → IfNone r ((n s : ℕ) → HasValue m Size n → HasValue m Seed s → ⊥)
      → IfNone r ((n s : ℕ) → IsMake words n s → ⊥)
  no_make_found (Some p) h = tt
  no_make_found None h = λ n s make.
      let parsed = parse_of_make words n s make in
      let bounds = make_bounds make in
      h n s (record { first = ap (first_of (codes "size")) rows_are ∙ parsed.size; low = bounds.0; high = bounds.1 })
      (record { first = ap (first_of (codes "seed")) rows_are ∙ parsed.seed; low = bounds.2; high = bounds.3 })
    where
      make_bounds : {n s : ℕ} → IsMake words n s
          → (least_value Size ≤ n) × (n ≤ greatest_value Size) × (least_value Seed ≤ s) × (s ≤ greatest_value Seed)
      make_bounds make = elim make.options [
        | inl h ↦ (h.first.low, h.first.high, h.second.low, h.second.high)
        | inr h ↦ (h.second.low, h.second.high, h.first.low, h.first.high)
      ]

-- a parse of the words of `make` fails by memory alone
pub no_make_if_failed : (words : List (List ℕ)) (e : Error) (r : Result (Option (ℕ × ℕ)) AllocError)
    → IfOk r (λ asked. (asked ≡ None) × (kind_of e ≢ OutOfMemory)) → HasKind (fault_of make_command words) e
    → IfOk r (λ asked. IfNone asked ((n s : ℕ) → IsMake words n s → ⊥))
no_make_if_failed words e (Err memory) told fails = tt
no_make_if_failed words e (Ok asked) told fails = by_case asked
  where
    by_case : (asked : Option (ℕ × ℕ)) → IfNone asked ((n s : ℕ) → IsMake words n s → ⊥)
    by_case (Some p) = tt
    by_case None = λ n s make.
        let fault : HasKind [] e = subst (λ k. HasKind k e) (parse_of_make words n s make).free fails in
        elim fault [
          | inl memory ↦ told.1 memory
          | inr none ↦ none
        ]

pub may_be_told : (words : List (String Global)) (first : String Global) (has_dashes is_make : Bool)
    → first ≡ get_or words 0 first
    → 3 ≤ length words → length words ≤ 5
    → is_make ≡ bytes_eq (string_bytes {Z = Global} first) (codes "make") → is_make ≡ true
    → has_dashes ≡ list_any (λ w. bytes_eq (string_bytes {Z = Global} w) dashes) words
    → IsTrue (not has_dashes) ↔ MayBeMake (map (string_bytes {Z = Global}) words)
may_be_told [] first has_dashes is_make at some most told is_so dashes_told = absurd (omega (arith, some))
may_be_told (w ∷ ws) first has_dashes is_make at some most told is_so dashes_told = (
  λ none. record {
    command =
        ap (string_bytes {Z = Global}) (sym at)
        ∙ (bytes_eq-Decides (string_bytes {Z = Global} first) (codes "make")).0 (sym told ∙ is_so);
    least_words = subst (λ n. 3 ≤ n) (sym (length-map (w ∷ ws) (string_bytes {Z = Global}))) some;
    most_words = subst (λ n. n ≤ 5) (sym (length-map (w ∷ ws) (string_bytes {Z = Global}))) most;
    no_dashes = any-map (w ∷ ws) ∙ sym dashes_told ∙ not_true has_dashes none;
  },
  λ h. ap not (dashes_told ∙ sym (any-map (w ∷ ws)) ∙ h.no_dashes),
)
  where
    not_true : (b : Bool) → IsTrue (not b) → b ≡ false
    not_true false h = refl
    not_true true h = absurd (false≢true h)
