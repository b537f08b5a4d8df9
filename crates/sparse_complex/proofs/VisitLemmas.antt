-- The visit of the states of one degree, branch by branch.
use Rattle.std.proofs.Common.{◌≡◌, inr, inl, slice_index_or, Some, ℕ, ℤ, zero, suc, ◌+◌, ◌-◌, ◌/◌, ◌^◌, ◌<◌, ◌≤◌, List, [], ◌∷◌, ◌++◌, length, map, take, drop, slice_index, None, refl, ap, ap₂, subst, ◌∙◌, sym, arith, length-append, bit_or, ◌+ℤ◌}
use Rattle.std.proofs.lemmas.Bool.{cases_lt}
use Rattle.std.proofs.lemmas.Int.{ints}
use Rattle.std.proofs.lemmas.List.{length-take-le, length-drop, get_or-take, get_or_append_left, get_or-append_right, length-map, take-append-drop}
use Rattle.std.proofs.Math.Nat.{mul-div_cancel_left}
use Rattle.f2_algebra.specs.Complex.{Complex}
use Rattle.f2_algebra.specs.Bigraded.{at_alexander}
use Rattle.state_rank.specs.Bijection.{IsBijection}
use Rattle.state_rank.specs.Blocks.{IsBlock}
use Rattle.state_rank.specs.States.{unrank, factorial, arrangements}
use Rattle.state_rank.proofs.BlockLemmas.{unrank-block, unrank-in_block}
use Rattle.state_rank.proofs.OrderLemmas.{length-states, length-arrangements}
use Rattle.state_rank.proofs.RankLemmas.{IsBijection-unrank}
use Rattle.torus_geom.specs.Inner.GridComplex.{grid_complex}
use Rattle.torus_geom.specs.Marks.{Marks, size, IsGrid}
use Rattle.torus_geom.proofs.Sums.SumLemmas.{sum_below_same}
use Rattle.gradings.proofs.WeightLemmas.{alexander-weights}
use Rattle.gradings.specs.Sums.{weight, sum_before, rows_used}
use Rattle.sparse_complex.specs.declared.builds.Branch.{Branch}
use Rattle.sparse_complex.specs.declared.slices.Cell.{Cell}
use Rattle.sparse_complex.specs.Inner.Visits.{IsBranch, AreFirstCells}
use Rattle.sparse_complex.proofs.BuildLemmas.{AreCells-skip, AreCells-push, AreCells-none, cell-below}
use Rattle.sparse_complex.proofs.GridPartLemmas.{degree-other}

-- ---- lists that begin alike
pub rows_used-alike : (c : ℕ) (x z : List ℕ) → ((d : ℕ) → d < c → slice_index z d ≡ slice_index x d)
    → rows_used c z ≡ rows_used c x
rows_used-alike zero x z h = refl
rows_used-alike (suc c) x z h =
    ap₂ (λ m r. bit_or m (2 ^ r)) (rows_used-alike c x z (λ d l. h d (omega arith))) (h c (omega arith))

pub sum_before-alike : (g : Marks) (c : ℕ) (x z : List ℕ) → ((d : ℕ) → d < c → slice_index z d ≡ slice_index x d)
    → sum_before g c z ≡ sum_before g c x
sum_before-alike g c x z h =
    sum_below_same c (λ d. weight g d (slice_index z d)) (λ d. weight g d (slice_index x d))
    (λ d l. ap (weight g d) (h d l))

-- a code that is no cell adds nothing
pub AreFirstCells-skip : (D : Complex ℤ) (n : ℕ) (cells : List Cell) → AreFirstCells D n cells → D.degree n ≡ None
    → AreFirstCells D (n + 1) cells
AreFirstCells-skip D n cells s none =
    record { are_cells = AreCells-skip D n cells s.are_cells none; rising = s.rising }

-- one that is a cell is the last
pub AreFirstCells-push : (D : Complex ℤ) (n : ℕ) (cells : List Cell) → AreFirstCells D n cells → (m : ℤ)
    → D.degree n ≡ Some m → AreFirstCells D (n + 1) (cells ++ record { code = n; maslov = m } ∷ [])
AreFirstCells-push D n cells s m live =
    record {
      are_cells = AreCells-push D n cells s.are_cells m live;
      rising = λ k d l.
          let long = length-append cells (record { code = n; maslov = m } ∷ []) in
          elim (cases_lt (k + 1) (length cells)) [
            | inl p ↦
                let a = get_or_append_left cells (record { code = n; maslov = m } ∷ []) d k (omega arith) in
                let b = get_or_append_left cells (record { code = n; maslov = m } ∷ []) d (k + 1) p in
                subst (λ (e : Cell × Cell). e.0.code < e.1.code) (λ i. (sym a i, sym b i)) (s.rising k d p)
            | inr p ↦
                let a = get_or_append_left cells (record { code = n; maslov = m } ∷ []) d k (omega arith) in
                let b : slice_index_or (cells ++ record { code = n; maslov = m } ∷ []) (k + 1) d
                ≡ record { code = n; maslov = m } =
                get_or-append_right cells (record { code = n; maslov = m } ∷ []) (length cells) (k + 1) d refl p
                ∙ ap (λ j. slice_index_or (record { code = n; maslov = m } ∷ []) j d)
                (none (k + 1) (length cells) (omega arith)) in
                subst (λ (e : Cell × Cell). e.0.code < e.1.code) (λ i. (sym a i, sym b i))
                (cell-below D n cells s.are_cells k d (omega arith))
          ];
    }
  where
    none : (i n : ℕ) → i ≡ n → i - n ≡ 0
    none i n e = omega arith

pub AreFirstCells-none : (D : Complex ℤ) → AreFirstCells D 0 []
AreFirstCells-none D = record { are_cells = AreCells-none D; rising = λ k d l. absurd (omega arith) }

pub AreFirstCells-same : (D : Complex ℤ) (n : ℕ) (cells cells_too : List Cell) → cells_too ≡ cells
    → AreFirstCells D n cells → AreFirstCells D n cells_too
AreFirstCells-same D n cells cells_too e s = subst (AreFirstCells D n) (sym e) s

-- codes that are no cells add nothing
AreFirstCells-skip_all : (D : Complex ℤ) (base : ℕ) (cells : List Cell) → AreFirstCells D base cells → (m : ℕ)
    → ((k : ℕ) → base ≤ k → k < base + m → D.degree k ≡ None) → AreFirstCells D (base + m) cells
AreFirstCells-skip_all D base cells s zero none = subst (λ n. AreFirstCells D n cells) (sym (zero_more base)) s
  where
    zero_more : (n : ℕ) → n + 0 ≡ n
    zero_more n = omega arith
AreFirstCells-skip_all D base cells s (suc m) none =
    subst (λ n. AreFirstCells D n cells) (moved base m)
    (AreFirstCells-skip D (base + m) cells (AreFirstCells-skip_all D base cells s m (λ k l h. none k l (omega arith)))
    (none (base + m) (omega arith) (omega arith)))
  where
    moved : (n m : ℕ) → n + m + 1 ≡ n + suc m
    moved n m = omega arith

-- ---- a branch
module _ (g : Marks) (grid : IsGrid g) (a : ℤ) (b : Branch) (s : IsBranch g a b) where
  pub begin : List ℕ
  begin = take b.column b.first

  length-begin : length (take b.column b.first) ≡ b.column
  length-begin = let e = s.state.long in let l = s.within in length-take-le b.column b.first (omega arith)

  pub length-left : length (drop b.column b.first) ≡ size g - b.column
  length-left = length-drop b.column b.first ∙ ap (λ n. n - b.column) s.state.long

  -- its states have indices
  pub branch-within : b.base + b.count ≤ factorial (size g)
  branch-within =
      let all = sym (length-states (size g)) ∙ ap length s.block.parts
      ∙ length-append s.block.earlier
      (map (λ y. take b.column b.first ++ y) (arrangements (length (drop b.column b.first)) (drop b.column b.first))
      ++ s.block.later)
      ∙ ap (λ k. length s.block.earlier + k)
      (length-append
      (map (λ y. take b.column b.first ++ y) (arrangements (length (drop b.column b.first)) (drop b.column b.first)))
      s.block.later) in
      let here = length-map (arrangements (length (drop b.column b.first)) (drop b.column b.first))
      (λ y. take b.column b.first ++ y)
      ∙ length-arrangements (length (drop b.column b.first)) (drop b.column b.first) s.block.rises refl in
      let many : factorial (length (drop b.column b.first)) ≡ b.count = ap factorial length-left ∙ sym s.count in
      let first = s.block.count in
      omega arith

  -- its states begin as the first of them
  branch-alike : (k : ℕ) → b.base ≤ k → k < b.base + b.count
      → (d : ℕ) → d < b.column → slice_index (unrank (size g) k) d ≡ slice_index b.first d
  branch-alike k low high d below =
      let many : factorial (length (drop b.column b.first)) ≡ b.count = ap factorial length-left ∙ sym s.count in
      let (y, is) =
      unrank-in_block (size g) (take b.column b.first) (drop b.column b.first) b.base k s.block low (omega arith) in
      let e = length-begin in
      ap (λ z. slice_index z d) is
      ∙ get_or_append_left (take b.column b.first) y 0 d (omega arith)
      ∙ get_or-take b.column b.first d 0 below

  -- if the sum that is left cannot be reached, it has no cell
  pub branch-none : ((z : List ℕ) (c : ℕ) → IsBijection (size g) z → c ≤ size g → rows_used c z ≡ b.used
      → b.left +ℤ sum_before g c z ≡ sum_before g (size g) z → ⊥)
      → (cells : List Cell) → AreFirstCells (at_alexander a (grid_complex g)) b.base cells
      → AreFirstCells (at_alexander a (grid_complex g)) (b.base + b.count) cells
  branch-none cannot cells below =
      AreFirstCells-skip_all (at_alexander a (grid_complex g)) b.base cells below b.count
      (λ k low high.
      let within = branch-within in
      let z = unrank (size g) k in
      let state : IsBijection (size g) z = IsBijection-unrank (size g) k (omega arith) in
      let same = sum_before-alike g b.column b.first z (branch-alike k low high) in
      degree-other g a k (omega arith)
      (λ e.
      let degree = alexander-weights g grid z state in
      let left = s.left in
      cannot z b.column state s.within (rows_used-alike b.column b.first z (branch-alike k low high) ∙ sym s.used)
      (omega (arith, ints))))

  -- the one state of a branch whose columns are all behind
  pub branch-leaf : b.column ≡ size g → (b.first ≡ unrank (size g) b.base) × (b.count ≡ 1)
  unfolding factorial
  branch-leaf all =
      let none : drop b.column b.first ≡ [] = nothing (drop b.column b.first) (length-left ∙ omega arith) in
      let whole : take b.column b.first ≡ b.first =
      sym (append-none (take b.column b.first)) ∙ ap (λ r. take b.column b.first ++ r) (sym none)
      ∙ take-append-drop b.column b.first in
      let block : IsBlock (size g) (take b.column b.first) [] b.base =
      subst (λ r. IsBlock (size g) (take b.column b.first) r b.base) none s.block in (
        sym (unrank-block (size g) (take b.column b.first) b.base block ∙ whole),
        s.count ∙ ap factorial (left_none (size g) b.column all),
      )
    where
      nothing : (xs : List ℕ) → length xs ≡ 0 → xs ≡ []
      nothing [] e = refl
      nothing (x ∷ xs) e = absurd (omega arith)

      append-none : (xs : List ℕ) → xs ++ [] ≡ xs
      append-none [] = refl
      append-none (x ∷ xs) = ap (λ ys. x ∷ ys) (append-none xs)

      left_none : (n c : ℕ) → c ≡ n → n - c ≡ 0
      left_none n c e = omega arith

  -- so many states have the parts of a branch
  part-count : b.column < size g → b.count / (size g - b.column) ≡ factorial (size g - b.column - 1)
  unfolding factorial
  part-count some =
      let m = size g - b.column - 1 in
      let left : size g - b.column ≡ suc m = omega arith in
      ap₂ (λ x y. x / y) (s.count ∙ ap factorial left) left
      ∙ mul-div_cancel_left (factorial m) {n = suc m} (omega arith)

-- a branch that is no leaf has a column ahead
pub parts_fit : (g : Marks) (a : ℤ) (b : Branch) → IsBranch g a b → (n : ℕ) → n ≡ length b.first → (b.column ≡ n → ⊥)
    → b.column < size g
parts_fit g a b s n long other = let within = s.within in let e = s.state.long in omega arith

pub part_divisor : (g : Marks) (grid : IsGrid g) (a : ℤ) (b : Branch) (s : IsBranch g a b) → b.column < size g
    → (n parts : ℕ) → n ≡ length b.first → parts ≡ n - b.column
    → b.count / parts ≡ factorial (size g - b.column - 1)
part_divisor g grid a b s some n parts long is =
    ap (λ m. b.count / m) (is ∙ ap (λ m. m - b.column) (long ∙ s.state.long)) ∙ part-count g grid a b s some
