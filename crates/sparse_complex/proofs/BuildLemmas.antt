-- Building a slice: its cells, code by code; their keys; and the arrows, cell by cell.
use Rattle.std.proofs.Common.{◌≡◌, ℕ, zero, suc, ℤ, ◌+◌, ◌<◌, ◌≤◌, Bool, true, false, cond, ◌&&◌, ◌||◌, eqb, ltb, List, [], ◌∷◌, ◌++◌, length, length-append, le_trans, get_or, Some, None, is_some, refl, sym, ap, ap₂, subst, ◌∙◌, arith}
use Rattle.std.specs.List.Sorted.{IsPermutation}
use Rattle.std.proofs.lemmas.List.{get_or_default}
use Rattle.std.proofs.lemmas.Bool.{eq-eqb, eqb-true, lt-ltb, ltb-true, ltb-false}
use Rattle.std.proofs.lemmas.List.Elements.{All-nil, All-push}
use Rattle.std.proofs.lemmas.List.Sorted.{All-permutation, sum_by-IsPermutation, length_permutation}
use Rattle.std.proofs.lemmas.List.Sums.{sum_by-cons, sum_by-append}
use Rattle.f2_algebra.specs.Complex.{Complex}
use Rattle.state_rank.specs.declared.TheConstants.{MAX_SIZE}
use Rattle.state_rank.specs.States.{factorial}
use Rattle.state_rank.proofs.LehmerLemmas.{factorial_grows}
use Rattle.sparse_complex.specs.declared.slices.Cell.{Cell}
use Rattle.sparse_complex.specs.Inner.Graph.{no_cell, code_at}
use Rattle.sparse_complex.specs.Inner.Stored.{most_keys, maslov_at}
use Rattle.sparse_complex.specs.Inner.Built.{count_of, AreCells}
use Rattle.f2_algebra.proofs.Chains.Tables.{eqb_comm}

-- ---- the visit of the states
-- the number of states is not large
pub states_fit_keys : (n : ℕ) → n ≤ MAX_SIZE → factorial n ≤ most_keys
unfolding factorial
states_fit_keys n m = let grown = factorial_grows n MAX_SIZE m in omega arith

-- ---- cells of a code
pub ltb-next : (c n : ℕ) → ltb c (n + 1) ≡ (ltb c n || eqb c n)
ltb-next c n = grind arith

pub count_of-cons : (c : ℕ) (x : Cell) (cells : List Cell)
    → count_of c (x ∷ cells) ≡ cond (eqb x.code c) 1 0 + count_of c cells
count_of-cons c x cells = sum_by-cons (λ y. cond (eqb y.code c) 1 0) x cells

count-head : (c : ℕ) (x : Cell) (cells : List Cell) → eqb x.code c ≡ true
    → count_of c (x ∷ cells) ≡ suc (count_of c cells)
count-head c x cells e = count_of-cons c x cells ∙ ap (λ b. cond b 1 0 + count_of c cells) e ∙ omega arith

pub count_of-other : (c : ℕ) (x : Cell) (cells : List Cell) → eqb x.code c ≡ false
    → count_of c (x ∷ cells) ≡ count_of c cells
count_of-other c x cells e = count_of-cons c x cells ∙ ap (λ b. cond b 1 0 + count_of c cells) e ∙ omega arith

count-more : (c : ℕ) (x : Cell) (cells : List Cell) → count_of c cells ≤ count_of c (x ∷ cells)
count-more c x cells = by (eqb x.code c) refl
  where
    by : (b : Bool) → eqb x.code c ≡ b → count_of c cells ≤ count_of c (x ∷ cells)
    by true e = let h : count_of c (x ∷ cells) ≡ suc (count_of c cells) = count-head c x cells e in omega arith
    by false e = let h : count_of c (x ∷ cells) ≡ count_of c cells = count_of-other c x cells e in omega arith

-- the cell at a place is counted
count-at : (cells : List Cell) (k : ℕ) (c : ℕ) → k < length cells → code_at cells k ≡ c → 1 ≤ count_of c cells
unfolding code_at
count-at [] k c l e = absurd (omega arith)
count-at (x ∷ cells) zero c l e =
    let h : count_of c (x ∷ cells) ≡ suc (count_of c cells) = count-head c x cells (eq-eqb x.code c e) in omega arith
count-at (x ∷ cells) (suc k) c l e = le_trans (count-at cells k c (omega arith) e) (count-more c x cells)

-- and if two places have one code it is counted twice
count-two : (cells : List Cell) (j k c : ℕ) → j < k → k < length cells → code_at cells j ≡ c → code_at cells k ≡ c
    → 2 ≤ count_of c cells
unfolding code_at
count-two [] j k c m l d e = absurd (omega arith)
count-two (x ∷ cells) j zero c m l d e = absurd (omega arith)
count-two (x ∷ cells) zero (suc k) c m l d e =
    let h : count_of c (x ∷ cells) ≡ suc (count_of c cells) = count-head c x cells (eq-eqb x.code c d) in
    let r : 1 ≤ count_of c cells = count-at cells k c (omega arith) e in
    omega arith
count-two (x ∷ cells) (suc j) (suc k) c m l d e =
    le_trans (count-two cells j k c (omega arith) (omega arith) d e) (count-more c x cells)

-- a code that is counted has a place
place-of : (cells : List Cell) (c : ℕ) → 1 ≤ count_of c cells → (k : ℕ) × (k < length cells) × (code_at cells k ≡ c)
unfolding code_at
place-of [] c h = absurd (omega arith)
place-of (x ∷ cells) c h = by (eqb x.code c) refl (place-of cells c)
  where
    by : (b : Bool) → eqb x.code c ≡ b → (1 ≤ count_of c cells → (k : ℕ) × (k < length cells) × (code_at cells k ≡ c))
        → (k : ℕ) × (k < length (x ∷ cells)) × (code_at (x ∷ cells) k ≡ c)
    by true e r = (0, omega arith, eqb-true x.code c e)
    by false e r =
        let d : count_of c (x ∷ cells) ≡ count_of c cells = count_of-other c x cells e in
        let (k, l, is) = r (omega arith) in
        (suc k, omega arith, is)

code_at-read : (cells : List Cell) (k : ℕ) → code_at cells k ≡ (get_or cells k no_cell).code
unfolding code_at
code_at-read cells k = refl

maslov_at-read : (cells : List Cell) (k : ℕ) → maslov_at cells k ≡ (get_or cells k no_cell).maslov
unfolding maslov_at
maslov_at-read cells k = refl

module _ (D : Complex ℤ) (n : ℕ) (cells : List Cell) (s : AreCells D n cells) where
  one_or_none : (b : Bool) → cond b 1 0 ≤ 1
  one_or_none true = omega arith
  one_or_none false = omega arith

  -- the degree of the cell at a place
  pub degree-at : (k : ℕ) → k < length cells → D.degree (code_at cells k) ≡ Some (maslov_at cells k)
  degree-at k l = ap D.degree (code_at-read cells k) ∙ s.degrees k no_cell l ∙ ap Some (sym (maslov_at-read cells k))

  -- its code is below n
  pub code-below : (k : ℕ) → k < length cells → code_at cells k < n
  code-below k l = by (ltb (code_at cells k) n) refl
    where
      by : (b : Bool) → ltb (code_at cells k) n ≡ b → code_at cells k < n
      by true e = ltb-true (code_at cells k) n e
      by false e =
          let z : count_of (code_at cells k) cells ≡ 0 =
          s.counts (code_at cells k) ∙ ap (λ b. cond (b && is_some (D.degree (code_at cells k))) 1 0) e in
          let one = count-at cells k (code_at cells k) l refl in
          absurd (omega arith)

  -- no other place has it
  pub once : (j k : ℕ) → j < length cells → k < length cells → code_at cells j ≡ code_at cells k → j ≡ k
  once j k l m e = by (ltb j k) refl (ltb k j) refl
    where
      two : (j k : ℕ) → j < k → k < length cells → code_at cells j ≡ code_at cells k → ⊥
      two j k a b e =
          let t = count-two cells j k (code_at cells k) a b e refl in
          let o : count_of (code_at cells k) cells ≤ 1 =
          subst (λ m. m ≤ 1) (sym (s.counts (code_at cells k)))
          (one_or_none (ltb (code_at cells k) n && is_some (D.degree (code_at cells k)))) in
          omega arith

      by : (b : Bool) → ltb j k ≡ b → (d : Bool) → ltb k j ≡ d → j ≡ k
      by true p d q = absurd (two j k (ltb-true j k p) m e)
      by false p true q = absurd (two k j (ltb-true k j q) l (sym e))
      by false p false q = let a = ltb-false j k p in let b = ltb-false k j q in omega arith

  -- each cell has a place
  pub every : (c : ℕ) → c < n → is_some (D.degree c) ≡ true → (k : ℕ) × (k < length cells) × (code_at cells k ≡ c)
  every c l h =
      let e : count_of c cells ≡ 1 = s.counts c ∙ ap₂ (λ a b. cond (a && b) 1 0) (lt-ltb c n l) h in
      place-of cells c (omega arith)

  -- a code that is no cell adds nothing
  pub AreCells-skip : D.degree n ≡ None → AreCells D (n + 1) cells
  AreCells-skip none = record {
    few = let f = s.few in omega arith;
    degrees = s.degrees;
    counts = λ c. s.counts c ∙ ap (λ b. cond b 1 0) (more c (eqb c n) refl (ltb c n))
        ∙ ap (λ b. cond (b && is_some (D.degree c)) 1 0) (sym (ltb-next c n));
  }
    where
      more : (c : ℕ) (e : Bool) → eqb c n ≡ e → (b : Bool)
          → (b && is_some (D.degree c)) ≡ ((b || e) && is_some (D.degree c))
      more c true h true = refl
      more c true h false = sym (ap (λ d. is_some (D.degree d)) (eqb-true c n h) ∙ ap is_some none)
      more c false h true = refl
      more c false h false = refl

  -- one that is a cell adds itself
  pub AreCells-push : (m : ℤ) → D.degree n ≡ Some m → AreCells D (n + 1) (cells ++ record { code = n; maslov = m } ∷ [])
  AreCells-push m live = record {
    few = let f = s.few in let e = length-append cells (record { code = n; maslov = m } ∷ []) in omega arith;
    degrees = All-push (λ x. D.degree x.code ≡ Some x.maslov) cells (record { code = n; maslov = m }) s.degrees live;
    counts = λ c.
        sum_by-append (λ (x : Cell). cond (eqb x.code c) 1 0) cells (record { code = n; maslov = m } ∷ [])
        ∙ ap₂ (λ a b. a + b) (s.counts c)
        (count_of-cons c (record { code = n; maslov = m }) [] ∙ last (cond (eqb n c) 1 0)
        ∙ ap (λ b. cond b 1 0) (eqb_comm n c))
        ∙ more c (eqb c n) refl (ltb c n) refl
        ∙ ap (λ b. cond (b && is_some (D.degree c)) 1 0) (sym (ltb-next c n));
  }
    where
      last : (k : ℕ) → k + 0 ≡ k
      last k = omega arith

      more : (c : ℕ) (e : Bool) → eqb c n ≡ e → (b : Bool) → ltb c n ≡ b
          → cond (b && is_some (D.degree c)) 1 0 + cond (eqb c n) 1 0
          ≡ cond ((b || eqb c n) && is_some (D.degree c)) 1 0
      more c true h true i = let l = ltb-true c n i in let e = eqb-true c n h in absurd (omega arith)
      more c true h false i =
          ap (λ e. 0 + cond e 1 0) h
          ∙ sym (ap (λ e. cond (e && is_some (D.degree c)) 1 0) h
          ∙ ap (λ d. cond d 1 0) (ap (λ d. is_some (D.degree d)) (eqb-true c n h) ∙ ap is_some live))
      more c false h true i =
          ap (λ e. cond (is_some (D.degree c)) 1 0 + cond e 1 0) h ∙ last (cond (is_some (D.degree c)) 1 0)
      more c false h false i = ap (λ e. 0 + cond e 1 0) h ∙ sym (ap (λ e. cond (e && is_some (D.degree c)) 1 0) h)

  -- the order of the cells does not matter
  pub AreCells-sorted : (sorted : List Cell) → IsPermutation cells sorted → AreCells D n sorted
  AreCells-sorted sorted p = record {
    few = let f = s.few in let e = length_permutation cells sorted p in omega arith;
    degrees = All-permutation (λ x. D.degree x.code ≡ Some x.maslov) cells sorted p s.degrees;
    counts = λ c. sum_by-IsPermutation (λ x. cond (eqb x.code c) 1 0) cells sorted p ∙ s.counts c;
  }

-- each has a code below n
pub cell-below : (D : Complex ℤ) (n : ℕ) (cells : List Cell) → AreCells D n cells → (k : ℕ) (d : Cell)
    → k < length cells
    → (get_or cells k d).code < n
unfolding code_at
cell-below D n cells s k d l =
    subst (λ (e : Cell). e.code < n) (get_or_default cells k no_cell d l) (code-below D n cells s k l)

-- no code comes twice
pub cells-apart : (D : Complex ℤ) (n : ℕ) (cells : List Cell) → AreCells D n cells → (j k : ℕ) (d : Cell) → j < k
    → k < length cells → (get_or cells j d).code ≡ (get_or cells k d).code → ⊥
unfolding code_at
cells-apart D n cells s j k d l m e =
    let same : j ≡ k = once D n cells s j k (omega arith) m
    (ap (λ (x : Cell). x.code) (get_or_default cells j no_cell d (omega arith)) ∙ e
    ∙ ap (λ (x : Cell). x.code) (get_or_default cells k d no_cell m)) in
    absurd (omega arith)

pub AreCells-none : (D : Complex ℤ) → AreCells D 0 []
AreCells-none D = record {
  few = omega arith;
  degrees = All-nil (λ x. D.degree x.code ≡ Some x.maslov);
  counts = λ c. sym (ap (λ b. cond (b && is_some (D.degree c)) 1 0) (none c));
}
  where
    none : (c : ℕ) → ltb c 0 ≡ false
    none c = grind arith

AreCells-same : (D : Complex ℤ) (n : ℕ) (cells cells_too : List Cell) → cells_too ≡ cells → AreCells D n cells
    → AreCells D n cells_too
AreCells-same D n cells cells_too e s = subst (AreCells D n) (sym e) s
