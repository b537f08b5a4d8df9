-- The parts of a list of bytes, each ended by a byte of some kind.
--     is_among ends b        the byte b is one of `ends`
--     HasNone ends bytes     none of the bytes is one of `ends`
--     IsFirstPart ends bytes part after
--                            the bytes are the part, then one of `ends`, and then those after it; the part has none
--                            of `ends`
use Rattle.std.specs.Prelude.{◌≡◌, ℕ, Bool, true, false, List, ◌∷◌, ◌++◌, ◌==◌}
use Rattle.std.specs.List.{All, list_any}

abbrev pub is_among : List ℕ → ℕ → Bool
is_among ends b = list_any (λ e. b == e) ends

abbrev pub HasNone : List ℕ → List ℕ → Type 0
HasNone ends bytes = All (λ b. is_among ends b ≡ false) bytes

pub record IsFirstPart (ends bytes part after : List ℕ) : Type 0 where
  pub end : ℕ
  pub is_end : is_among ends end ≡ true
  pub split : bytes ≡ part ++ end ∷ after
  pub none : HasNone ends part
