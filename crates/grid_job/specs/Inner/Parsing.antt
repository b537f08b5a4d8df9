-- The command of `clap` that reads the words of `make`.
--     flag_id f              the name of an option, without its hyphens
--     flag_rule f            the option, which takes one value
--     make_command           the command: the two options, and no help flag
--     dashes                 the word `--`
--     HasValue m f v         the first value that was found for an option is v, in decimal, and within its bounds
--     MayBeMake ws           the words begin with `make`, two, three or four follow, and none is `--`
use Rattle.std.specs.Prelude.{◌≡◌, ℕ, ◌≤◌, List, [], ◌∷◌, Some, true, false, length, codes}
use Rattle.std.specs.List.{list_any}
use Rattle.std.specs.Str.{bytes_eq}
use Rattle.std.specs.Fmt.{decimal}
use Rattle.clap.specs.Matches.{found_of}
use Rattle.clap.specs.Walk.{Rule, first_of, rows_of}
use Rattle.clap.specs.Simple.{App, new_rule, new_app, with_rule, on_top}
use Rattle.clap.specs.declared.builder.action.ArgAction.TheVariants.{Set}
use Rattle.clap.specs.declared.parser.matches.ArgMatches.{ArgMatches}
use Rattle.grid_job.specs.Words.{word_at, least_value, greatest_value}
use Rattle.grid_job.specs.declared.words.Flag.{Flag}
use Rattle.grid_job.specs.declared.words.Flag.TheVariants.{Size, Seed}

abbrev pub flag_id : Flag → List ℕ
flag_id Size = codes "size"
flag_id Seed = codes "seed"

abbrev pub flag_rule : Flag → Rule
flag_rule f = record (new_rule (flag_id f)) { long = Some (flag_id f); action = Some Set }

abbrev pub make_command : App
make_command =
    with_rule (with_rule (on_top (λ s. record s { disable_help_flag = true }) (new_app (codes "make")))
    (flag_rule Size)) (flag_rule Seed)

abbrev pub dashes : List ℕ
dashes = 45 ∷ 45 ∷ []

pub record MayBeMake (ws : List (List ℕ)) : Type 0 where
  pub command : word_at ws 0 ≡ codes "make"
  pub least_words : 3 ≤ length ws
  pub most_words : length ws ≤ 5
  pub no_dashes : list_any (λ w. bytes_eq w dashes) ws ≡ false

pub record HasValue (m : ArgMatches) (f : Flag) (v : ℕ) : Type 0 where
  pub first : first_of (flag_id f) (rows_of (found_of m)) ≡ Some (decimal v)
  pub low : least_value f ≤ v
  pub high : v ≤ greatest_value f
