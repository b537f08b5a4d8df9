-- How a slice is stored: a key for each code that is live, a cell for each key, and arrows between keys.
--     no_key                            what stands for the key of a code that is not live
--     most_keys                         2^22: there are no more states of the greatest size than this
--     key_of keys c                     the key of a code, or `no_key`
--     is_live keys c                    the code has a key
--     maslov_at cells k                 the Maslov degree of the key k
--     slice_of keys cells links         the slice: live codes, each with the degree of its key and the
--                                       codes of the targets of its key
--     IsLiveKey keys cells k            the code of the key k has the key k
--     ListsLive keys cells k live       `live` has the cells before the place k whose codes have their
--                                       places as keys, each code once
--     IsStoredByKey keys cells links    live codes have keys that lead back to them, and only such keys
--                                       have arrows
--     IsFirst links cursor              no key before the cursor has an arrow out, and that at the cursor
--                                       has one, unless the cursor is past the last key
--     IsStored keys cells links cursor  these, and the slice keeps the two rules of a complex
use Rattle.std.specs.Prelude.{◌≡◌, ◌≢◌, ◌↔◌, ℕ, zero, suc, ℤ, ◌<◌, ◌≤◌, Bool, true, false, not, cond, eqb, List, [], ◌∷◌, map, length, get_or}
use Rattle.std.specs.List.{Contains, AllPairs}
use Rattle.std.specs.FinMap as fin
use Rattle.f2_algebra.specs.Chain.{Chain, of_codes}
use Rattle.f2_algebra.specs.Slice.{Slice, IsSlice}
use Rattle.sparse_complex.specs.declared.links.Links.{Links}
use Rattle.sparse_complex.specs.declared.slices.Cell.{Cell}
use Rattle.sparse_complex.specs.Inner.Lists.{no_id, head_at}
use Rattle.sparse_complex.specs.Inner.Graph.{AreListed, width, targets, has_arrow, no_cell, code_at}

abbrev pub no_key : ℕ
no_key = 4294967295

abbrev pub most_keys : ℕ
most_keys = 4194304

unfoldable pub key_of : List ℕ → ℕ → ℕ
key_of keys c = get_or keys c no_key

abbrev pub is_live : List ℕ → ℕ → Bool
is_live keys c = not (eqb (key_of keys c) no_key)

unfoldable pub maslov_at : List Cell → ℕ → ℤ
maslov_at cells k = (get_or cells k no_cell).maslov

-- the codes of the targets of a key
abbrev pub target_codes : List Cell → Links → ℕ → Chain
target_codes cells links k = of_codes (map (code_at cells) (targets links k))

abbrev pub entry_of : List ℕ → List Cell → Links → ℕ → ℕ × (ℤ × Chain)
entry_of keys cells links c = (c, (maslov_at cells (key_of keys c), target_codes cells links (key_of keys c)))

-- the live codes below n
abbrev pub entries_below : List ℕ → List Cell → Links → ℕ → List (ℕ × (ℤ × Chain))
entries_below keys cells links zero = []
entries_below keys cells links (suc n) =
    cond (is_live keys n) (entry_of keys cells links n ∷ entries_below keys cells links n)
    (entries_below keys cells links n)

unfoldable pub slice_of : List ℕ → List Cell → Links → Slice
slice_of keys cells links = fin.from_entries (entries_below keys cells links (length keys))

-- a key that leads back to itself by its code
abbrev pub IsLiveKey : List ℕ → List Cell → ℕ → Type 0
IsLiveKey keys cells k = key_of keys (code_at cells k) ≡ k

pub record ListsLive (keys : List ℕ) (cells : List Cell) (k : ℕ) (live : List Cell) : Type 0 where
  pub each : (c : Cell) → Contains live c ↔ ((key_of keys c.code < k) × (get_or cells (key_of keys c.code) no_cell ≡ c))
  pub once : AllPairs (λ b c. b.code ≢ c.code) live

-- all but the rules
pub record IsStoredByKey (keys : List ℕ) (cells : List Cell) (links : Links) : Type 0 where
  pub listed : AreListed links
  pub small : width links ≤ most_keys
  pub whole : length cells ≡ width links
  pub keyed : (c : ℕ) → is_live keys c ≡ true → (key_of keys c < width links) × (code_at cells (key_of keys c) ≡ c)
  pub ends : (p q : ℕ) → has_arrow links p q ≡ true → IsLiveKey keys cells p × IsLiveKey keys cells q

-- the key at the cursor is the first with an arrow out
pub record IsFirst (links : Links) (cursor : ℕ) : Type 0 where
  pub within : cursor ≤ width links
  pub none_before : (p q : ℕ) → p < cursor → has_arrow links p q ≡ false
  pub some_here : cursor < width links → eqb (head_at links.heads.items cursor).first_out no_id ≡ false

pub record IsStored (keys : List ℕ) (cells : List Cell) (links : Links) (cursor : ℕ) : Type 0 where
  pub by_key : IsStoredByKey keys cells links
  pub first : IsFirst links cursor
  pub rules : IsSlice (slice_of keys cells links)
