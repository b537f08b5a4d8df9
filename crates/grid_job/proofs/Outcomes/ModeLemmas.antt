-- The words of a mode: they are those of no other.
use Rattle.std.proofs.Common.{◌≡◌, ℕ, ◌<◌, ◌≤◌, Bool, false, List, [], ◌∷◌, length, get_or, codes, Option, None, IfNone, IsTrue, sym, ap, subst, ◌∙◌, arith}
use Rattle.std.specs.Str.{bytes_eq}
use Rattle.std.proofs.lemmas.Bool.{false≢true}
use Rattle.std.proofs.lemmas.Slice.Eq.{bytes_eq-Decides}
use Rattle.grid_job.specs.Outcome.{IsForm}
use Rattle.grid_job.specs.Words.{word_at, IsMake}
use Rattle.grid_job.specs.declared.modes.Mode.{Mode}
use Rattle.grid_job.specs.declared.modes.Mode.TheVariants.{Run, Cert, Check, Compare, Make}

-- a list of one element
pub single-item : {X : Type 0} (xs : List X) (x : X) → 1 ≤ length xs → length xs < 2 → x ≡ get_or xs 0 x → xs ≡ x ∷ []
single-item [] x some one e = absurd (omega (arith, some))
single-item (y ∷ []) x some one e = ap (λ z. z ∷ []) (sym e)
single-item (y ∷ z ∷ ys) x some one e = absurd (omega (arith, one))

first-item : {a b : List ℕ} → a ∷ [] ≡ b ∷ [] → a ≡ b
first-item same = cc

-- one word is the command if its bytes are
pub command_alone : (words : List (List ℕ)) (word command : List ℕ) (told : Bool) → words ≡ word ∷ []
    → told ≡ bytes_eq word command
    → (IsTrue told → words ≡ command ∷ []) × (words ≡ command ∷ [] → IsTrue told)
command_alone words word command told one e =
    let decides = bytes_eq-Decides word command in (
      (λ yes. one ∙ ap (λ w. w ∷ []) (decides.0 (sym e ∙ yes))),
      (λ is_command. e ∙ decides.1 (first-item (sym one ∙ is_command))),
    )

-- words that ask for none of the modes
pub no_mode : (words : List (List ℕ)) → (words ≡ codes "run" ∷ [] → ⊥) → (words ≡ codes "cert" ∷ [] → ⊥)
    → (words ≡ codes "check" ∷ [] → ⊥) → (words ≡ codes "compare" ∷ [] → ⊥)
    → ((n s : ℕ) → IsMake words n s → ⊥) → (mode : Mode) → IsForm words mode → ⊥
no_mode words run cert check compare make Run form = run form
no_mode words run cert check compare make Cert form = cert form
no_mode words run cert check compare make Check form = check form
no_mode words run cert check compare make Compare form = compare form
no_mode words run cert check compare make (Make n s) form = make n s form

-- ---- the modes are told apart
-- the first word of each mode
abbrev pub mode_word : Mode → List ℕ
mode_word Run = codes "run"
mode_word Cert = codes "cert"
mode_word Check = codes "check"
mode_word Compare = codes "compare"
mode_word (Make n s) = codes "make"

first-word : (words : List (List ℕ)) (mode : Mode) → IsForm words mode → word_at words 0 ≡ mode_word mode
first-word words Run form = ap (λ ws. word_at ws 0) form
first-word words Cert form = ap (λ ws. word_at ws 0) form
first-word words Check form = ap (λ ws. word_at ws 0) form
first-word words Compare form = ap (λ ws. word_at ws 0) form
first-word words (Make n s) form = form.command

-- words do not ask for two modes whose first words differ
pub told_apart : (words : List (List ℕ)) (m k : Mode) → bytes_eq (mode_word m) (mode_word k) ≡ false → IsForm words m
    → IsForm words k → ⊥
told_apart words m k differ f g =
    let same : mode_word m ≡ mode_word k = sym (first-word words m f) ∙ first-word words k g in
    false≢true (sym differ ∙ (bytes_eq-Decides (mode_word m) (mode_word k)).1 same)

-- ---- the numbers of `make` that were not found
pub not_made : (P : ℕ → ℕ → Type 0) (made : Option (ℕ × ℕ)) → made ≡ None → IfNone made ((n s : ℕ) → P n s → ⊥)
    → (n s : ℕ) → P n s → ⊥
not_made P made is none = subst (λ o. IfNone o ((n s : ℕ) → P n s → ⊥)) is none
