-- Numbers.
use Rattle.std.proofs.Common.{◌≡◌, ℕ, ℤ, zero, suc, ◌+◌, ◌-◌, ◌*◌, ◌%◌, ◌^◌, ◌<◌, ◌≤◌, List, [], ◌∷◌, ◌++◌, length, take, drop, swap, slice_index, refl, ap, ap₂, subst, ◌∙◌, sym, arith, add-one, append_assoc, length-append, min, bit_or, ◌+ℤ◌, ◌-ℤ◌}
use Rattle.std.proofs.lemmas.Int.{ints}
use Rattle.std.proofs.lemmas.List.{length-take-le, get_or-take, get_or_append_left, get_or-append_right, take-append-drop}
use Rattle.std.proofs.lemmas.Nat.{one_shl}
use Rattle.std.proofs.Math.Seq.{take-append_seam, drop-append_seam}
use Rattle.f2_algebra.specs.Bigraded.{at_alexander}
use Rattle.state_rank.specs.Bijection.{IsBijection, ascending}
use Rattle.state_rank.specs.Blocks.{IsBlock}
use Rattle.state_rank.specs.States.{unrank, factorial}
use Rattle.state_rank.proofs.BlockLemmas.{IsBlock-whole, IsParted, IsParted-start, IsBlock-part, IsParted-next, swap-next, first-state}
use Rattle.state_rank.proofs.LehmerLemmas.{factorial_positive}
use Rattle.state_rank.proofs.RankLemmas.{IsBijection-unrank}
use Rattle.state_rank.proofs.SwapLemmas.{IsBijection-swap}
use Rattle.torus_geom.specs.Inner.GridComplex.{grid_complex}
use Rattle.torus_geom.specs.Marks.{Marks, size, IsGrid}
use Rattle.gradings.specs.Sums.{weight, least, sum_before, rows_used}
use Rattle.sparse_complex.specs.declared.builds.Branch.{Branch}
use Rattle.sparse_complex.specs.declared.slices.Cell.{Cell}
use Rattle.sparse_complex.specs.Inner.Visits.{IsBranch, AreFirstCells}
use Rattle.sparse_complex.proofs.VisitLemmas.{branch-within, length-left, rows_used-alike, sum_before-alike}

min_below : (k n : ℕ) → 0 < n → min k (n - 1) < n
min_below k n some = grind arith

min_low : (k n : ℕ) → k ≤ n → min k n ≡ k
min_low k n l = grind arith

pub products : (f m c : ℕ) → f ≤ m → f * c ≤ m * c
products f m c l = grind arith

pub base_added : (first front count base front_next : ℕ) → base ≡ first + front * count → front_next ≡ front + 1
    → base + count ≡ first + front_next * count
base_added first front count base front_next e f =
    let product : front_next * count ≡ front * count + count = ap (λ k. k * count) f ∙ omega arith in
    omega arith

-- ---- the parts of a branch
-- the parts before the row of `first` on the column are gone through
pub record IsGoneThrough (g : Marks) (a : ℤ) (b : Branch) (count next base : ℕ) (first : List ℕ)
    (cells : List Cell) : Type 0 where
  pub front : List ℕ
  pub back : List ℕ
  pub parted : IsParted (size g) (take b.column b.first) (drop b.column b.first) front back base
  pub passed : length front + (b.column + 1) ≡ next
  pub first_is : (r : ℕ) (later : List ℕ) → back ≡ r ∷ later → first ≡ take b.column b.first ++ r ∷ (front ++ later)
  pub state : IsBijection (size g) first
  base_is : base ≡ b.base + length front * count
  pub cells_below : AreFirstCells (at_alexander a (grid_complex g)) base cells

-- the branch of the next part
abbrev pub part_of : Branch → List ℕ → ℕ → ℕ → ℕ → ℤ → Branch
part_of b first used count base left =
    record { first = first; column = b.column + 1; used = used; left = left; base = base; count = count }

module _ (g : Marks) (grid : IsGrid g) (a : ℤ) (b : Branch) (s : IsBranch g a b) (some : b.column < size g) (count : ℕ)
    (count_is : count ≡ factorial (size g - b.column - 1)) where
  rows_left : length (drop b.column b.first) ≡ size g - b.column
  rows_left = length-left g grid a b s

  -- before the first part
  pub gone-start : (cells : List Cell) → AreFirstCells (at_alexander a (grid_complex g)) b.base cells
      → IsGoneThrough g a b count (b.column + 1) b.base b.first cells
  gone-start cells below =
      record {
        front = [];
        back = drop b.column b.first;
        parted =
            IsParted-start (size g) (take b.column b.first) (drop b.column b.first) b.base s.block
            (let e = rows_left in omega arith);
        passed = omega arith;
        first_is = λ r later e.
            sym (take-append-drop b.column b.first) ∙ ap (λ xs. take b.column b.first ++ xs) e;
        state = s.state;
        base_is = omega arith;
        cells_below = below;
      }

  module _ (next base : ℕ) (first : List ℕ) (cells : List Cell) (t : IsGoneThrough g a b count next base first cells)
      (more : next < size g + 1) where
    abbrev p : List ℕ
    p = take b.column b.first

    length-p : length (take b.column b.first) ≡ b.column
    length-p = let e = s.state.long in length-take-le b.column b.first (omega arith)

    -- there is one more
    one_more : (r : ℕ) × (later : List ℕ) × (t.back ≡ r ∷ later)
    one_more = by t.back refl
      where
        by : (back : List ℕ) → t.back ≡ back → (r : ℕ) × (later : List ℕ) × (t.back ≡ r ∷ later)
        by [] e =
            let all = ap length t.parted.split ∙ length-append t.front t.back
            ∙ ap (λ xs. length t.front + length xs) e in
            let rows = rows_left in let passed = t.passed in absurd (omega arith)
        by (r ∷ later) e = (r, later, e)

    abbrev r : ℕ
    r = one_more.0

    abbrev later : List ℕ
    later = one_more.1

    parted : IsParted (size g) (take b.column b.first) (drop b.column b.first) t.front (one_more.0 ∷ one_more.1) base
    parted =
        subst (λ back. IsParted (size g) (take b.column b.first) (drop b.column b.first) t.front back base)
        one_more.2 t.parted

    first_is : first ≡ take b.column b.first ++ one_more.0 ∷ (t.front ++ one_more.1)
    first_is = t.first_is one_more.0 one_more.1 one_more.2

    -- with p and the row in front
    first_begins : first ≡ (take b.column b.first ++ one_more.0 ∷ []) ++ (t.front ++ one_more.1)
    first_begins = first_is ∙ sym (append_assoc (take b.column b.first) (one_more.0 ∷ []) (t.front ++ one_more.1))

    length-begun : length (take b.column b.first ++ one_more.0 ∷ []) ≡ b.column + 1
    length-begun =
        length-append (take b.column b.first) (one_more.0 ∷ []) ∙ ap (λ k. k + 1) length-p

    row_is : slice_index first b.column ≡ one_more.0
    row_is =
        ap (λ z. slice_index z b.column) first_is
        ∙ get_or-append_right (take b.column b.first) (one_more.0 ∷ (t.front ++ one_more.1)) b.column
        b.column 0 length-p
        (omega arith)
        ∙ ap (λ k. slice_index (one_more.0 ∷ (t.front ++ one_more.1)) k) (none b.column)
      where
        none : (m : ℕ) → m - m ≡ 0
        none m = omega arith

    alike : (d : ℕ) → d < b.column → slice_index first d ≡ slice_index b.first d
    alike d below =
        let e = length-p in
        ap (λ z. slice_index z d) first_is
        ∙ get_or_append_left (take b.column b.first) (one_more.0 ∷ (t.front ++ one_more.1)) 0 d (omega arith)
        ∙ get_or-take b.column b.first d 0 below

    block : IsBlock (size g) (take (b.column + 1) first) (drop (b.column + 1) first) base
    block =
        let begun : take (b.column + 1) first ≡ take b.column b.first ++ one_more.0 ∷ [] =
        (λ i. take (sym length-begun i) (first_begins i))
        ∙ take-append_seam (take b.column b.first ++ one_more.0 ∷ []) (t.front ++ one_more.1) in
        let rest : drop (b.column + 1) first ≡ t.front ++ one_more.1 =
        (λ i. drop (sym length-begun i) (first_begins i))
        ∙ drop-append_seam (take b.column b.first ++ one_more.0 ∷ []) (t.front ++ one_more.1) in
        subst (λ (e : List ℕ × List ℕ). IsBlock (size g) e.0 e.1 base) (λ i. (sym begun i, sym rest i))
        (IsBlock-part (size g) (take b.column b.first) (drop b.column b.first) t.front one_more.0
        one_more.1 base parted)

    -- the next part is a branch
    pub IsBranch-part : (row used : ℕ) (w left : ℤ) → row ≡ slice_index first b.column
        → used ≡ bit_or b.used (1 * 2 ^ row % 2 ^ 64) → w ≡ weight g b.column row → left ≡ b.left -ℤ w
        → IsBranch g a (part_of b first used count base left)
    IsBranch-part row used w left row_read used_is w_is left_is =
        let one : b.column + 1 ≡ suc b.column = add-one b.column in
        let fits = grid.is_size.greatest in
        let low : row < size g = subst (λ k. k < size g) (sym row_read) (t.state.small b.column some) in
        record {
          grid = grid;
          state = t.state;
          within = omega arith;
          block = block;
          count = count_is ∙ ap factorial (less (size g) b.column);
          used =
              used_is
              ∙ ap₂ (λ m k. bit_or m k)
              (s.used ∙ sym (rows_used-alike b.column b.first first alike))
              (one_shl row 64 (omega arith) ∙ ap (λ k. 2 ^ k) row_read)
              ∙ ap (λ c. rows_used c first) (sym one);
          left =
              let same = sum_before-alike g b.column b.first first alike in
              let weighs : w ≡ weight g b.column (slice_index first b.column) =
              w_is ∙ ap (weight g b.column) row_read in
              let next_sum : sum_before g (b.column + 1) first
              ≡ weight g b.column (slice_index first b.column) +ℤ sum_before g b.column first =
              ap (λ c. sum_before g c first) one in
              let was = s.left in
              omega (arith, ints);
        }
      where
        less : (n c : ℕ) → n - c - 1 ≡ n - (c + 1)
        less n c = omega arith

    -- and when it is gone through, the others are ahead
    pub gone-next : (new : List ℕ) (cells_new : List Cell) → new ≡ swap first b.column (min next (size g - 1))
        → AreFirstCells (at_alexander a (grid_complex g)) (base + count) cells_new
        → IsGoneThrough g a b count (next + 1) (base + count) new cells_new
    gone-next new cells_new new_is below =
        let rows = rows_left in
        let front_long : length (t.front ++ one_more.0 ∷ []) ≡ length t.front + 1 =
        length-append t.front (one_more.0 ∷ []) in
        let passed = t.passed in
        let is = t.base_is in
        let one_less : length (drop b.column b.first) - 1 ≡ size g - b.column - 1 = omega arith in
        record {
          front = t.front ++ one_more.0 ∷ [];
          back = one_more.1;
          parted =
              subst (λ k. IsParted (size g) (take b.column b.first) (drop b.column b.first) (t.front ++ one_more.0 ∷ [])
              one_more.1 (base + k)) (ap factorial one_less ∙ sym count_is)
              (IsParted-next (size g) (take b.column b.first) (drop b.column b.first) t.front one_more.0 one_more.1 base
              parted);
          passed = omega arith;
          first_is = λ q rest e. new_is ∙ swapped q rest e;
          state =
              subst (IsBijection (size g)) (sym new_is)
              (IsBijection-swap (size g) first b.column (min next (size g - 1)) some
              (min_below next (size g) (omega arith))
              t.state);
          base_is = base_added b.base (length t.front) count base (length (t.front ++ one_more.0 ∷ [])) is front_long;
          cells_below = below;
        }
      where
        swapped : (q : ℕ) (rest : List ℕ) → one_more.1 ≡ q ∷ rest
            → swap first b.column (min next (size g - 1))
            ≡ take b.column b.first ++ q ∷ ((t.front ++ one_more.0 ∷ []) ++ rest)
        swapped q rest e =
            let long : size g - b.column ≡ length t.front + suc (length one_more.1) =
            sym rows_left ∙ ap length parted.split ∙ length-append t.front (one_more.0 ∷ one_more.1) in
            let some_more : length one_more.1 ≡ suc (length rest) = ap length e in
            let passed = t.passed in
            let place : min next (size g - 1) ≡ length (take b.column b.first) + 1 + length t.front =
            let c = length-p in min_low next (size g - 1) (omega arith) ∙ omega arith in
            (λ i. swap (first_with i) (sym length-p i) (place i))
            ∙ swap-next (take b.column b.first) one_more.0 t.front q rest
          where
            first_with : first ≡ take b.column b.first ++ one_more.0 ∷ (t.front ++ q ∷ rest)
            first_with = first_is ∙ ap (λ xs. take b.column b.first ++ one_more.0 ∷ (t.front ++ xs)) e

  -- the parts together are the branch
  parts_whole : (size g - b.column) * count ≡ b.count
  unfolding factorial
  parts_whole = product (size g - b.column) refl
    where
      product : (m : ℕ) → m ≡ size g - b.column → m * count ≡ b.count
      product zero e = absurd (omega arith)
      product (suc m) e =
          ap (λ k. suc m * k) (count_is ∙ ap factorial (before (size g - b.column) m e))
          ∙ sym (s.count ∙ ap factorial (sym e))
        where
          before : (n m : ℕ) → suc m ≡ n → n - 1 ≡ m
          before n m e = omega arith

  -- so the indices of a part are below those of all states
  pub part_within : (next base : ℕ) (first : List ℕ) (cells : List Cell)
      → IsGoneThrough g a b count next base first cells
      → next < size g + 1 → base + count ≤ factorial (size g)
  part_within next base first cells t more =
      let all = branch-within g grid a b s in
      let passed = t.passed in
      let is = base_added b.base (length t.front) count base (length t.front + 1) t.base_is refl in
      let most = products (length t.front + 1) (size g - b.column) count (omega arith) in
      let whole = parts_whole in
      omega arith

  -- when all parts are gone through, so is the branch
  pub gone-end : (next base : ℕ) (first : List ℕ) (cells : List Cell) → IsGoneThrough g a b count next base first cells
      → next ≡ size g + 1 → AreFirstCells (at_alexander a (grid_complex g)) (b.base + b.count) cells
  gone-end next base first cells t last =
      let passed = t.passed in
      let all : length t.front ≡ size g - b.column = omega arith in
      subst (λ n. AreFirstCells (at_alexander a (grid_complex g)) n cells)
      (t.base_is ∙ ap (λ k. b.base + k * count) all ∙ ap (λ k. b.base + k) parts_whole) t.cells_below

-- ---- the whole visit
-- all states are a branch
pub IsBranch-all : (g : Marks) (a : ℤ) (first : List ℕ) (left : ℤ) (count n : ℕ) → IsGrid g → n ≡ size g
    → first ≡ unrank n 0 → left ≡ a -ℤ least g → count ≡ factorial n
    → IsBranch g a (record { first = first; column = 0; used = 0; left = left; base = 0; count = count })
IsBranch-all g a first left count n grid long first_is left_is count_is =
    let is : first ≡ unrank (size g) 0 = first_is ∙ ap (λ m. unrank m 0) long in
    let lowest : first ≡ ascending (size g) = is ∙ first-state (size g) in
    record {
      grid = grid;
      state = subst (IsBijection (size g)) (sym is) (IsBijection-unrank (size g) 0 (factorial_positive (size g)));
      within = omega arith;
      block = subst (λ xs. IsBlock (size g) [] xs 0) (sym lowest) (IsBlock-whole (size g));
      count = count_is ∙ ap factorial (long ∙ same (size g));
      used = refl;
      left = omega (arith, ints);
    }
  where
    same : (m : ℕ) → m ≡ m - 0
    same m = omega arith
