-- A walk without a fault that has read both options has read them once each, and nothing else.
use Rattle.std.proofs.Common.{◌≡◌, ◌⊎◌, ℕ, Bool, true, false, not, List, [], ◌∷◌, ◌++◌, Some, None, Option, refl, sym, ap, subst, ◌∙◌, inl, inr, arith, suc, append-nil}
use Rattle.std.specs.Prelude.{fold, if◌then◌else◌, ◌==◌, ◌+◌}
use Rattle.clap.proofs.FaultLemmas.{leaf_fault}
use Rattle.clap.specs.Walk.{Row, Text, walked, settled_rows, used, has_row, nothing_held, walk_from, with_default}
use Rattle.clap.specs.Simple.{built, matches_of}
use Rattle.clap.specs.Faults.{fault_of, walk_fault, settle_fault, option_fault, level_fault}
use Rattle.std.specs.List.{prefix_len}
use Rattle.std.proofs.lemmas.Bool.Decides.{nat_tests}
use Rattle.clap.specs.Lexer.{long_of, long_of_rest, name_and_value, strip_byte}
use Rattle.grid_job.specs.declared.words.Flag.{Flag}
use Rattle.grid_job.specs.declared.words.Flag.TheVariants.{Size, Seed}
use Rattle.grid_job.specs.Inner.Parsing.{flag_id, make_command}
use Rattle.grid_job.proofs.Parsed.WordLemmas.{read_rule, shape, rules, cons≢nil, or_else-first, or_else-second, held, ready, waits, idle_word}
use Rattle.grid_job.proofs.Parsed.WalkLemmas.{Ends, final, NoDashes, Ends-turn, Ends-next, final-next, Ends-settles, use_fresh, IsOption, ReadsOption, attached_walked, option_walked, waiting_word}

-- ---- the letters of an option
abbrev joined : Option Text → Text
joined None = []
joined (Some v) = 61 ∷ v

cut_again : (t : Text) → t ≡ (name_and_value t).0 ++ joined (name_and_value t).1
cut_again [] = refl
cut_again (x ∷ xs) = by_equals (cut_again xs) (x == 61) refl
  where
    by_equals : xs ≡ (name_and_value xs).0 ++ joined (name_and_value xs).1 → (b : Bool) → (x == 61) ≡ b
        → x ∷ xs ≡ (name_and_value (x ∷ xs)).0 ++ joined (name_and_value (x ∷ xs)).1
    by_equals parts true e =
        let is : x ≡ 61 = grind (arith, nat_tests) in
        ap (λ y. y ∷ xs) is ∙ rw e refl
    by_equals parts false e =
        let n = prefix_len (λ y. not (y == 61)) xs in
        let one : 1 + n ≡ suc n = omega arith in
        let more : suc n + 1 ≡ suc (n + 1) = omega arith in
        ap (λ ys. x ∷ ys) parts ∙ rw (e, one, more) refl

pub some_same : {X : Type 0} {a b : X} → Some a ≡ Some b → a ≡ b
some_same same = cc

none≢some : {X : Type 0} (x : X) → None ≡ Some x → ⊥
none≢some x e = cc

strip_again : (c : ℕ) (w r : Text) → strip_byte c w ≡ Some r → w ≡ c ∷ r
strip_again c [] r e = cc
strip_again c (x ∷ xs) r e = by_first (x == c) refl
  where
    by_first : (b : Bool) → (x == c) ≡ b → x ∷ xs ≡ c ∷ r
    by_first true same =
        let is : x ≡ c = grind (arith, nat_tests) in
        let rest : Some xs ≡ Some r = rw same at e in
        ap (λ y. y ∷ xs) is ∙ ap (λ ys. c ∷ ys) (some_same rest)
    by_first false other =
        absurd (none≢some r (rw other at e))

long_again : (w name : Text) (val : Option Text) → long_of w ≡ Some (name, val) → w ≡ 45 ∷ 45 ∷ name ++ joined val
long_again w name val e = by_first (strip_byte 45 w) refl
  where
    by_rest : (u rest : Text) → w ≡ 45 ∷ u → u ≡ 45 ∷ rest → long_of_rest rest ≡ Some (name, val)
        → w ≡ 45 ∷ 45 ∷ name ++ joined val
    by_rest u [] w_is u_is is = cc
    by_rest u (x ∷ xs) w_is u_is is =
        let parts : name_and_value (x ∷ xs) ≡ (name, val) = some_same is in
        w_is ∙ ap (λ r. 45 ∷ r) (u_is ∙ ap (λ r. 45 ∷ r) (cut_again (x ∷ xs) ∙ ap (λ q. q.0 ++ joined q.1) parts))

    by_second : (u : Text) (o : Option Text) → strip_byte 45 w ≡ Some u → strip_byte 45 u ≡ o
        → w ≡ 45 ∷ 45 ∷ name ++ joined val
    by_second u None first second =
        absurd (none≢some (name, val) (rw (first, second) at e))
    by_second u (Some rest) first second =
        by_rest u rest (strip_again 45 w u first) (strip_again 45 u rest second) (rw (first, second) at e)

    by_first : (o : Option Text) → strip_byte 45 w ≡ o → w ≡ 45 ∷ 45 ∷ name ++ joined val
    by_first None first =
        absurd (none≢some (name, val) (rw first at e))
    by_first (Some u) first = by_second u (strip_byte 45 u) first refl

-- ---- an option is read
module _ (rows : List Row) (pending : Option (Text × List Text)) (w : Text) (ws : List Text)
    (no_dashes : NoDashes (w ∷ ws))
    (e : Ends (ready rows pending) (w ∷ ws)) where
  read_attached : (f : Flag) (v : Text) → long_of w ≡ Some (flag_id f, Some v)
      → option_fault rules false (read_rule f) (Some v) (held rows pending) ≡ [] → ReadsOption rows pending (w ∷ ws)
  read_attached f v is free =
      let walks = attached_walked f v w rows pending no_dashes.0 is in
      let after = used (read_rule f) (v ∷ []) (settled_rows rules pending rows) in
      record {
        flag = f;
        value = v;
        rest = ws;
        words_are = inl (ap (λ x. x ∷ ws) (long_again w (flag_id f) (Some v) is));
        fresh =
            use_fresh f v (settled_rows rules pending rows)
            (or_else-second (settle_fault rules false (held rows pending)) _ free);
        rows_after = after;
        pending_after = None;
        used_once = refl;
        no_dashes = no_dashes.1;
        ends = Ends-next (ready rows pending) (ready after None) w ws walks e;
        same_end = final-next (ready rows pending) (ready after None) w ws walks;
      }

  read_two : (f : Flag) → long_of w ≡ Some (flag_id f, None) → ReadsOption rows pending (w ∷ ws)
  read_two f is =
      by_rest f ws no_dashes.1 (Ends-next (ready rows pending) (waits f (settled_rows rules pending rows)) w ws walks e)
      (final-next (ready rows pending) (waits f (settled_rows rules pending rows)) w ws walks) refl
    where
      walks : walked rules [] (ready rows pending) w ≡ waits f (settled_rows rules pending rows)
      walks = option_walked f w rows pending no_dashes.0 is

      unsettled : (f : Flag) → Ends (waits f (settled_rows rules pending rows)) [] → ⊥
      unsettled Size ends = cons≢nil _ _ ends.settles
      unsettled Seed ends = cons≢nil _ _ ends.settles

      used_when_settled : (f : Flag) (v : Text)
          → settled_rows rules (Some (flag_id f, v ∷ [])) (settled_rows rules pending rows)
          ≡ used (read_rule f) (v ∷ []) (settled_rows rules pending rows)
      used_when_settled Size v = refl
      used_when_settled Seed v = refl

      fresh_when_settled : (f : Flag) (v : Text)
          → settle_fault rules false (held (settled_rows rules pending rows) (Some (flag_id f, v ∷ []))) ≡ []
          → has_row (flag_id f) (settled_rows rules pending rows) ≡ false
      fresh_when_settled Size v free = use_fresh Size v (settled_rows rules pending rows) free
      fresh_when_settled Seed v free = use_fresh Seed v (settled_rows rules pending rows) free

      by_rest : (g : Flag) (us : List Text) → NoDashes us → Ends (waits f (settled_rows rules pending rows)) us
          → final (ready rows pending) (w ∷ ws) ≡ final (waits f (settled_rows rules pending rows)) us → ws ≡ us
          → ReadsOption rows pending (w ∷ ws)
      by_rest g [] none ends same_end is_rest = absurd (unsettled f ends)
      by_rest g (v ∷ rest) none ends same_end is_rest =
          let now = settled_rows rules pending rows in
          let walks_on = waiting_word f v now none.0 (Ends-turn (waits f now) v rest ends) in
          let next = Ends-next (waits f now) (ready now (Some (flag_id f, v ∷ []))) v rest walks_on ends in
          record {
            flag = f;
            value = v;
            rest = rest;
            words_are =
                inr (ap (λ us. w ∷ us) is_rest
                ∙ ap (λ x. x ∷ v ∷ rest)
                (long_again w (flag_id f) None is ∙ ap (λ n. 45 ∷ 45 ∷ n) (append-nil (flag_id f))));
            fresh = fresh_when_settled f v (Ends-settles now (Some (flag_id f, v ∷ [])) rest none.1 next);
            rows_after = now;
            pending_after = Some (flag_id f, v ∷ []);
            used_once = used_when_settled f v;
            no_dashes = none.1;
            ends = next;
            same_end = same_end ∙ final-next (waits f now) (ready now (Some (flag_id f, v ∷ []))) v rest walks_on;
          }

  read_option : ReadsOption rows pending (w ∷ ws)
  read_option = by_value word.0 word.1 word.2 word.3
    where
      word : (f : Flag) × (val : Option Text) × (long_of w ≡ Some (flag_id f, val))
          × (option_fault rules false (read_rule f) val (held rows pending) ≡ [])
      word = idle_word w rows pending no_dashes.0 (Ends-turn (ready rows pending) w ws e)

      by_value : (f : Flag) (val : Option Text) → long_of w ≡ Some (flag_id f, val)
          → option_fault rules false (read_rule f) val (held rows pending) ≡ [] → ReadsOption rows pending (w ∷ ws)
      by_value f None is free = read_two f is
      by_value f (Some v) is free = read_attached f v is free

-- ---- two options
-- all that a walk to the end of the words may have read: nothing, one option, or both
pub record ReadsBoth (words : List Text) : Type 0 where
  pub first : Flag
  pub second : Flag
  pub a : Text
  pub b : Text
  pub rest : List Text
  pub apart : has_row (flag_id second) (used (read_rule first) (a ∷ []) []) ≡ false
  pub first_words : IsOption first a rest words
  pub second_words : IsOption second b [] rest
  pub same_end : final (ready [] None) words ≡ used (read_rule second) (b ∷ []) (used (read_rule first) (a ∷ []) [])

abbrev pub Reads : List Text → Type 0
Reads words =
    (final (ready [] None) words ≡ [])
    ⊎ ((f : Flag) × (a : Text) × (final (ready [] None) words ≡ used (read_rule f) (a ∷ []) []))
    ⊎ ReadsBoth words

reads_option : (rows : List Row) (pending : Option (Text × List Text)) (words : List Text) → NoDashes words
    → Ends (ready rows pending) words → (words ≡ []) ⊎ ReadsOption rows pending words
reads_option rows pending [] no_dashes e = inl refl
reads_option rows pending (w ∷ ws) no_dashes e = inr (read_option rows pending w ws no_dashes e)

-- behind two options stands nothing
no_third : (f g h : Flag) (a b : Text) → has_row (flag_id g) (used (read_rule f) (a ∷ []) []) ≡ false
    → has_row (flag_id h) (used (read_rule g) (b ∷ []) (used (read_rule f) (a ∷ []) [])) ≡ false → ⊥
no_third Size Size h a b apart fresh = cc
no_third Seed Seed h a b apart fresh = cc
no_third Size Seed Size a b apart fresh = cc
no_third Size Seed Seed a b apart fresh = cc
no_third Seed Size Size a b apart fresh = cc
no_third Seed Size Seed a b apart fresh = cc

pub reads : (words : List Text) → NoDashes words → Ends (ready [] None) words → Reads words
reads words no_dashes e = from_first (reads_option [] None words no_dashes e)
  where
    from_third : (p : ReadsOption [] None words) (q : ReadsOption p.rows_after p.pending_after p.rest)
        → (q.rest ≡ []) ⊎ ReadsOption q.rows_after q.pending_after q.rest → Reads words
    from_third p q (inl none) = inr (inr (record {
      first = p.flag;
      second = q.flag;
      a = p.value;
      b = q.value;
      rest = p.rest;
      apart = ap (has_row (flag_id q.flag)) (sym p.used_once) ∙ q.fresh;
      first_words = p.words_are;
      second_words = subst (λ r. IsOption q.flag q.value r p.rest) none q.words_are;
      same_end = p.same_end ∙ q.same_end ∙ ap (final (ready q.rows_after q.pending_after)) none
          ∙ q.used_once ∙ ap (used (read_rule q.flag) (q.value ∷ [])) p.used_once;
    }))
    from_third p q (inr r) = absurd (no_third p.flag q.flag r.flag p.value q.value
        (ap (has_row (flag_id q.flag)) (sym p.used_once) ∙ q.fresh)
        (ap (has_row (flag_id r.flag)) (sym (q.used_once ∙ ap (used (read_rule q.flag) (q.value ∷ [])) p.used_once))
        ∙ r.fresh))

    from_second : (p : ReadsOption [] None words) → (p.rest ≡ []) ⊎ ReadsOption p.rows_after p.pending_after p.rest
        → Reads words
    from_second p (inl none) =
        inr (inl (p.flag, p.value, p.same_end ∙ ap (final (ready p.rows_after p.pending_after)) none ∙ p.used_once))
    from_second p (inr q) = from_third p q (reads_option q.rows_after q.pending_after q.rest q.no_dashes q.ends)

    from_first : (words ≡ []) ⊎ ReadsOption [] None words → Reads words
    from_first (inl none) = inl (ap (final (ready [] None)) none)
    from_first (inr p) = from_second p (reads_option p.rows_after p.pending_after p.rest p.no_dashes p.ends)

-- ---- the parse
-- a parse that fails by nothing has walked to the end
pub ends_of_parse : (words : List Text) → level_fault shape [] nothing_held words false [] ≡ []
    → Ends (ready [] None) words
ends_of_parse words free = record {
  read = or_else-first _ _ free;
  settles = or_else-first _ _ (or_else-second (walk_fault shape [] (walk_from nothing_held) words) _ free);
}

pub level_of_app : (word : Text) (args : List Text)
    → fault_of make_command (word ∷ args) ≡ level_fault shape [] nothing_held args false []
level_of_app word args = leaf_fault (built make_command) nothing_held args refl

pub rows_of_app : (word : Text) (args : List Text) → matches_of make_command (word ∷ args) ≡ final (ready [] None) args
rows_of_app word args = no_defaults (final (ready [] None) args)
  where
    both_ways : (b : Bool) (rows : List Row) → (if b then rows else rows) ≡ rows
    both_ways true rows = refl
    both_ways false rows = refl

    no_defaults : (rows : List Row) → fold with_default rows rules ≡ rows
    no_defaults rows = ap (λ r. with_default r (read_rule Seed)) (both_ways (has_row (flag_id Size) rows) rows)
        ∙ both_ways (has_row (flag_id Seed) rows) rows
