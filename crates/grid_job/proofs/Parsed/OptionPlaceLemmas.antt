-- Two options as a list of words, and as places in the words of `make`.
use Rattle.std.proofs.Common.{◌≡◌, ◌⊎◌, ℕ, List, [], ◌∷◌, ◌++◌, codes, refl, sym, ap, subst, ◌∙◌, inl, inr, length, arith, ◌≤◌}
use Rattle.std.specs.Fmt.{decimal}
use Rattle.std.specs.Prelude.{◌+◌}
use Rattle.clap.specs.Walk.{Text}
use Rattle.grid_job.specs.Words.{word_at, flag_word, least_value, greatest_value, IsOneWord, IsTwoWords, AreOptions}
use Rattle.grid_job.specs.declared.words.Flag.{Flag}
use Rattle.grid_job.specs.declared.words.Flag.TheVariants.{Size, Seed}
use Rattle.grid_job.proofs.Parsed.WalkLemmas.{option_word_of, IsOption}
use Rattle.grid_job.proofs.Parsed.PassLemmas.{other, AreTwo}

-- ---- the words of `make`
list-three : (ws : List Text) → length ws ≡ 3 → ws ≡ word_at ws 0 ∷ word_at ws 1 ∷ word_at ws 2 ∷ []
list-three [] e = absurd (omega (arith, e))
list-three (a ∷ []) e = absurd (omega (arith, e))
list-three (a ∷ b ∷ []) e = absurd (omega (arith, e))
list-three (a ∷ b ∷ c ∷ []) e = refl
list-three (a ∷ b ∷ c ∷ d ∷ ws) e = absurd (omega (arith, e))

list-four : (ws : List Text) → length ws ≡ 4 → ws ≡ word_at ws 0 ∷ word_at ws 1 ∷ word_at ws 2 ∷ word_at ws 3 ∷ []
list-four [] e = absurd (omega (arith, e))
list-four (a ∷ ws) e = ap (λ us. a ∷ us) (list-three ws (omega (arith, e)))

list-five : (ws : List Text) → length ws ≡ 5
    → ws ≡ word_at ws 0 ∷ word_at ws 1 ∷ word_at ws 2 ∷ word_at ws 3 ∷ word_at ws 4 ∷ []
list-five [] e = absurd (omega (arith, e))
list-five (a ∷ ws) e = ap (λ us. a ∷ us) (list-four ws (omega (arith, e)))

flag_word-is : (f : Flag) → flag_word f ≡ option_word_of f
flag_word-is Size = refl
flag_word-is Seed = refl

flag_value-is : (f : Flag) (v : Text) → flag_word f ++ codes "=" ++ v ≡ option_word_of f ++ 61 ∷ v
flag_value-is Size v = refl
flag_value-is Seed v = refl

-- the options are those of a list of words, and the other way round
module _ (ws : List Text) (f : Flag) (n s : ℕ) (h : AreOptions ws f n (other f) s) where
  pub two_of_options : (args : List Text) × (ws ≡ word_at ws 0 ∷ args) × AreTwo f (decimal n) (decimal s) args
  two_of_options = split h.first.words h.second.words
    where
      split : IsOneWord ws 1 f n h.between ⊎ IsTwoWords ws 1 f n h.between
          → IsOneWord ws h.between (other f) s (length ws) ⊎ IsTwoWords ws h.between (other f) s (length ws)
          → (args : List Text) × (ws ≡ word_at ws 0 ∷ args) × AreTwo f (decimal n) (decimal s) args
      split (inl p) (inl q) =
          let place = p.after in
          let long = q.after in (
            word_at ws 1 ∷ word_at ws 2 ∷ [],
            list-three ws (omega (arith, place, long)),
            (
              word_at ws 2 ∷ [],
              inl (ap (λ w. w ∷ word_at ws 2 ∷ []) (p.word ∙ flag_value-is f (decimal n))),
              inl (ap (λ w. w ∷ []) (ap (word_at ws) (sym place) ∙ q.word ∙ flag_value-is (other f) (decimal s))),
            ),
          )
      split (inl p) (inr q) =
          let place = p.after in
          let next : h.between + 1 ≡ 3 = omega (arith, place) in
          let long = q.after in (
            word_at ws 1 ∷ word_at ws 2 ∷ word_at ws 3 ∷ [],
            list-four ws (omega (arith, place, long)),
            (
              word_at ws 2 ∷ word_at ws 3 ∷ [],
              inl (ap (λ w. w ∷ word_at ws 2 ∷ word_at ws 3 ∷ []) (p.word ∙ flag_value-is f (decimal n))),
              inr (ap (λ w. w ∷ word_at ws 3 ∷ []) (ap (word_at ws) (sym place) ∙ q.first ∙ flag_word-is (other f))
                  ∙ ap (λ w. option_word_of (other f) ∷ w ∷ []) (ap (word_at ws) (sym next) ∙ q.second)),
            ),
          )
      split (inr p) (inl q) =
          let place = p.after in
          let long = q.after in (
            word_at ws 1 ∷ word_at ws 2 ∷ word_at ws 3 ∷ [],
            list-four ws (omega (arith, place, long)),
            (
              word_at ws 3 ∷ [],
              inr (ap (λ w. w ∷ word_at ws 2 ∷ word_at ws 3 ∷ []) (p.first ∙ flag_word-is f)
                  ∙ ap (λ w. option_word_of f ∷ w ∷ word_at ws 3 ∷ []) p.second),
              inl (ap (λ w. w ∷ []) (ap (word_at ws) (sym place) ∙ q.word ∙ flag_value-is (other f) (decimal s))),
            ),
          )
      split (inr p) (inr q) =
          let place = p.after in
          let next : h.between + 1 ≡ 4 = omega (arith, place) in
          let long = q.after in (
            word_at ws 1 ∷ word_at ws 2 ∷ word_at ws 3 ∷ word_at ws 4 ∷ [],
            list-five ws (omega (arith, place, long)),
            (
              word_at ws 3 ∷ word_at ws 4 ∷ [],
              inr (ap (λ w. w ∷ word_at ws 2 ∷ word_at ws 3 ∷ word_at ws 4 ∷ []) (p.first ∙ flag_word-is f)
                  ∙ ap (λ w. option_word_of f ∷ w ∷ word_at ws 3 ∷ word_at ws 4 ∷ []) p.second),
              inr (ap (λ w. w ∷ word_at ws 4 ∷ []) (ap (word_at ws) (sym place) ∙ q.first ∙ flag_word-is (other f))
                  ∙ ap (λ w. option_word_of (other f) ∷ w ∷ []) (ap (word_at ws) (sym next) ∙ q.second)),
            ),
          )

module _ (w : Text) (f : Flag) (n s : ℕ) (low_n : least_value f ≤ n) (high_n : n ≤ greatest_value f)
    (low_s : least_value (other f) ≤ s)
    (high_s : s ≤ greatest_value (other f)) where
  pub options_of_two : (args : List Text) → AreTwo f (decimal n) (decimal s) args
      → AreOptions (w ∷ args) f n (other f) s
  options_of_two args two = by_words two.0 two.1 two.2
    where
      by_words : (rest : List Text) → IsOption f (decimal n) rest args → IsOption (other f) (decimal s) [] rest
          → AreOptions (w ∷ args) f n (other f) s
      by_words rest (inl e) (inl d) =
          let is : args ≡ (option_word_of f ++ 61 ∷ decimal n) ∷ (option_word_of (other f) ++ 61 ∷ decimal s) ∷ [] =
          e ∙ ap (λ r. (option_word_of f ++ 61 ∷ decimal n) ∷ r) d in
          subst (λ us. AreOptions (w ∷ us) f n (other f) s) (sym is) (record {
            between = 2;
            first = record {
              low = low_n;
              high = high_n;
              words = inl (record { within = omega arith; word = sym (flag_value-is f (decimal n)); after = refl });
            };
            second = record {
              low = low_s;
              high = high_s;
              words =
                  inl (record { within = omega arith; word = sym (flag_value-is (other f) (decimal s)); after = refl });
            };
          })
      by_words rest (inl e) (inr d) =
          let is : args ≡ (option_word_of f ++ 61 ∷ decimal n) ∷ option_word_of (other f) ∷ decimal s ∷ [] =
          e ∙ ap (λ r. (option_word_of f ++ 61 ∷ decimal n) ∷ r) d in
          subst (λ us. AreOptions (w ∷ us) f n (other f) s) (sym is) (record {
            between = 2;
            first = record {
              low = low_n;
              high = high_n;
              words = inl (record { within = omega arith; word = sym (flag_value-is f (decimal n)); after = refl });
            };
            second = record {
              low = low_s;
              high = high_s;
              words =
                  inr (record {
                    within = omega arith;
                    first = sym (flag_word-is (other f));
                    second = refl;
                    after = refl;
                  });
            };
          })
      by_words rest (inr e) (inl d) =
          let is : args ≡ option_word_of f ∷ decimal n ∷ (option_word_of (other f) ++ 61 ∷ decimal s) ∷ [] =
          e ∙ ap (λ r. option_word_of f ∷ decimal n ∷ r) d in
          subst (λ us. AreOptions (w ∷ us) f n (other f) s) (sym is) (record {
            between = 3;
            first = record {
              low = low_n;
              high = high_n;
              words = inr (record { within = omega arith; first = sym (flag_word-is f); second = refl; after = refl });
            };
            second = record {
              low = low_s;
              high = high_s;
              words =
                  inl (record { within = omega arith; word = sym (flag_value-is (other f) (decimal s)); after = refl });
            };
          })
      by_words rest (inr e) (inr d) =
          let is : args ≡ option_word_of f ∷ decimal n ∷ option_word_of (other f) ∷ decimal s ∷ [] =
          e ∙ ap (λ r. option_word_of f ∷ decimal n ∷ r) d in
          subst (λ us. AreOptions (w ∷ us) f n (other f) s) (sym is) (record {
            between = 3;
            first = record {
              low = low_n;
              high = high_n;
              words = inr (record { within = omega arith; first = sym (flag_word-is f); second = refl; after = refl });
            };
            second = record {
              low = low_s;
              high = high_s;
              words =
                  inr (record {
                    within = omega arith;
                    first = sym (flag_word-is (other f));
                    second = refl;
                    after = refl;
                  });
            };
          })
