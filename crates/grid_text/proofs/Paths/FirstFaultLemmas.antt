-- The two ways of having a first fault: a line has it, or all lines are allowed and `end` was not met.
use Rattle.std.proofs.Common.{◌≡◌, ◌⊎◌, ℕ, ◌+◌, Bool, true, false, cond, List, [], ◌∷◌, ◌++◌, length, None, Some, refl, sym, ap, subst, ◌∙◌, inl, inr}
use Rattle.std.proofs.lemmas.List.{append-nil}
use Rattle.grid_text.specs.Words.{Word}
use Rattle.grid_text.specs.Document.{Place, head, Path}
use Rattle.grid_text.specs.Faults.{line_fault, is_after_end, rest_fault, HaveFirstFault}
use Rattle.grid_text.specs.declared.faults.TextFault.{TextFault}
use Rattle.grid_text.specs.declared.faults.TextFault.TheVariants as fault

-- the line of this number has the fault, and those before it are allowed
pub record HaveFault (lines : List (List Word)) (f : TextFault) (line : ℕ) : Type 0 where
  pub before : List (List Word)
  pub words : List Word
  pub after : List (List Word)
  pub place : Place
  pub split : lines ≡ before ++ words ∷ after
  pub path : Path head before place
  pub faulty : line_fault place words ≡ Some f
  pub number : line ≡ length before + 1

-- every line is allowed, and `end` was not met
pub record HaveNoEnd (lines : List (List Word)) (line : ℕ) : Type 0 where
  pub place : Place
  pub path : Path head lines place
  pub not_ended : is_after_end place ≡ false
  pub number : line ≡ length lines + 1

pub HaveFirstFault-fault : (lines : List (List Word)) (f : TextFault) (line : ℕ) → HaveFault lines f line
    → HaveFirstFault lines f line
HaveFirstFault-fault lines f line h = record {
  before = h.before;
  rest = h.words ∷ h.after;
  place = h.place;
  split = h.split;
  path = h.path;
  faulty = h.faulty;
  number = h.number;
}

pub HaveFirstFault-no_end : (lines : List (List Word)) (line : ℕ) → HaveNoEnd lines line
    → HaveFirstFault lines fault.NoEnd line
HaveFirstFault-no_end lines line h = record {
  before = lines;
  rest = [];
  place = h.place;
  split = sym (append-nil lines);
  path = h.path;
  faulty = ap (λ b. cond b None (Some fault.NoEnd)) h.not_ended;
  number = h.number;
}

pub HaveFirstFault-cases : (lines : List (List Word)) (f : TextFault) (line : ℕ) → HaveFirstFault lines f line
    → HaveFault lines f line ⊎ (HaveNoEnd lines line × (f ≡ fault.NoEnd))
HaveFirstFault-cases lines f line h = by_rest h.rest h.split h.faulty
  where
    not_after : (b : Bool) → cond b None (Some fault.NoEnd) ≡ Some f → (b ≡ false) × (f ≡ fault.NoEnd)
    not_after true e = cc
    not_after false e = let same : fault.NoEnd ≡ f = cc in (refl, sym same)

    by_rest : (rest : List (List Word)) → lines ≡ h.before ++ rest → rest_fault h.place rest ≡ Some f
        → HaveFault lines f line ⊎ (HaveNoEnd lines line × (f ≡ fault.NoEnd))
    by_rest [] split faulty =
        let all : h.before ≡ lines = sym (split ∙ append-nil h.before) in
        let open_end = not_after (is_after_end h.place) faulty in
        inr (
          record {
            place = h.place;
            path = subst (λ ls. Path head ls h.place) all h.path;
            not_ended = open_end.0;
            number = h.number ∙ ap (λ ls. length ls + 1) all;
          },
          open_end.1,
        )
    by_rest (words ∷ after) split faulty =
        inl (record {
          before = h.before;
          words = words;
          after = after;
          place = h.place;
          split = split;
          path = h.path;
          faulty = faulty;
          number = h.number;
        })
