-- The parts of a slice while it is built from a complex D.
--     count_of c cells                how many cells have the code c
--     AreCells D n cells              the cells of the codes below n, each once, with their degrees
--     AreKeys keys cells              the key of a code is the place of its cell
--     AreLinksBelow D cells k links   the arrows of D out of the cells before the place k
use Rattle.std.specs.Prelude.{◌≡◌, ℕ, ℤ, ◌<◌, ◌≤◌, true, cond, ◌&&◌, eqb, nat_lt, List, length, is_some, sum_by}
use Rattle.std.specs.declared.option.Option.TheVariants.{Some}
use Rattle.std.specs.List.{All}
use Rattle.f2_algebra.specs.Complex.{Complex, arrow}
use Rattle.sparse_complex.specs.declared.links.Links.{Links}
use Rattle.sparse_complex.specs.declared.slices.Cell.{Cell}
use Rattle.sparse_complex.specs.Inner.Graph.{AreListed, width, has_arrow, code_at}
use Rattle.sparse_complex.specs.Inner.Stored.{most_keys, key_of, is_live}

-- how many cells have the code
abbrev pub count_of : ℕ → List Cell → ℕ
count_of c cells = sum_by (λ x. cond (eqb x.code c) 1 0) cells

pub record AreCells (D : Complex ℤ) (n : ℕ) (cells : List Cell) : Type 0 where
  pub few : length cells ≤ n
  pub degrees : All (λ x. D.degree x.code ≡ Some x.maslov) cells
  pub counts : (c : ℕ) → count_of c cells ≡ cond (nat_lt c n && is_some (D.degree c)) 1 0

pub record AreKeys (keys : List ℕ) (cells : List Cell) : Type 0 where
  pub small : length cells ≤ most_keys
  pub placed : (k : ℕ) → k < length cells → key_of keys (code_at cells k) ≡ k
  pub live : (c : ℕ) → is_live keys c ≡ true → (key_of keys c < length cells) × (code_at cells (key_of keys c) ≡ c)

pub record AreLinksBelow (D : Complex ℤ) (cells : List Cell) (k : ℕ) (links : Links) : Type 0 where
  pub listed : AreListed links
  pub whole : width links ≡ length cells
  pub arrows : (p q : ℕ)
      → has_arrow links p q ≡ ((nat_lt p k && nat_lt q (length cells)) && arrow D (code_at cells p) (code_at cells q))
