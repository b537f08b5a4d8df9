-- The first part of a list of bytes: what stands before the first place whose byte passes a test.
use Rattle.std.proofs.Common.{◌≡◌, ℕ, ◌+◌, ◌-◌, ◌<◌, cond, List, ◌∷◌, ◌++◌, length, take, drop, get_or, None, Some, sym, ap, ◌∙◌, arith, inl, inr, ltb, length-take-le}
use Rattle.std.specs.List.{position, position_or_len}
use Rattle.std.proofs.lemmas.Bool.{cases_Bool}
use Rattle.std.proofs.lemmas.Bool.Decides.{nat_tests}
use Rattle.std.proofs.lemmas.List.{take_all, length-drop, take-append-drop, drop_more, get_or-take}
use Rattle.std.proofs.lemmas.List.Quantifiers.{position-Some}
use Rattle.std.proofs.lemmas.List.Sums.{fails_before_first}
use Rattle.text_lines.specs.Parts.{is_among, HasNone, IsFirstPart}

-- no place is found: no byte passes
pub HasNone-position : (ends bytes : List ℕ) → position (is_among ends) bytes ≡ None → HasNone ends bytes
HasNone-position ends bytes e k d within = elim (cases_Bool (ltb first (length bytes))) [
  | inl here ↦ absurd (some_none first (sym (ap (λ b. cond b (Some first) None) here) ∙ e))
  | inr past ↦ fails_before_first (is_among ends) bytes k d (grind (arith, nat_tests))
]
  where
    first : ℕ
    first = position_or_len (is_among ends) bytes

    some_none : (i : ℕ) → Some i ≡ None → ⊥
    some_none i same = cc

-- a place is found: the bytes before it are the first part
pub IsFirstPart-position : (ends bytes : List ℕ) (at : ℕ) → position (is_among ends) bytes ≡ Some at
    → IsFirstPart ends bytes (take at bytes) (take (length bytes - (at + 1)) (drop (at + 1) bytes))
IsFirstPart-position ends bytes at e =
    let found = position-Some (is_among ends) bytes at 0 e in
    record {
      end = get_or bytes at 0;
      is_end = found.1;
      split = sym (take-append-drop at bytes)
          ∙ ap (λ r. take at bytes ++ r) (drop_more bytes at 0 found.0
          ∙ ap (λ r. get_or bytes at 0 ∷ r) (sym (take_all (length bytes - (at + 1)) (drop (at + 1) bytes)
          (omega (arith, length-drop (at + 1) bytes)))));
      none = λ k d within.
          let below : k < at = omega (arith, within, length-take-le at bytes (omega (arith, found.0))) in
          ap (is_among ends) (get_or-take at bytes k d below)
          ∙ (position-Some (is_among ends) bytes at d e).2 k below;
    }
