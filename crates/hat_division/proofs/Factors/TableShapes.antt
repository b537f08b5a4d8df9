-- Lists of rows in an order, each with a key and a rank, for rows and keys of any kind: they are told by their ranks.
use Rattle.std.proofs.Common.{◌≡◌, ◌↔◌, ◌⊎◌, ℕ, zero, suc, ◌+◌, ◌<◌, ◌≤◌, ℤ, pos, Bool, true, false, if◌then◌else◌, List, [], ◌∷◌, All, AllPairs, Contains, IsTrue, inl, inr, refl, sym, ap, subst, ◌∙◌, arith}
use Rattle.std.specs.Prelude.{◌≤ℤ◌, int_lt}
use Rattle.std.specs.List.{sum_by}
use Rattle.std.proofs.lemmas.Bool.{cases_Bool, cases_lt, false≢true}
use Rattle.std.proofs.lemmas.Int.{ints}
use Rattle.std.proofs.lemmas.List.Elements.{All-head, All-tail, All-cons, All-nil}
use Rattle.std.proofs.lemmas.List.Sums.{sum_by-cons}
use Rattle.f2_algebra.proofs.Cancelling.LogLemmas.{none_where}
use Rattle.state_rank.proofs.MemberLemmas.{member_cases, member_head, member_tail, no_member, pairs_cons, pairs_head, pairs_tail}
use Rattle.hat_division.proofs.Factors.FactorLemmas.{IsZeroAbove}

-- a row is a key and a rank; keys have an order and a height
pub record TableShape (R K : Type 0) : Type 0 where
  pub key : R → K
  pub rank : R → ℕ
  pub make : K → ℕ → R
  pub key_made : (k : K) (n : ℕ) → key (make k n) ≡ k
  pub rank_made : (k : K) (n : ℕ) → rank (make k n) ≡ n
  pub made : (row : R) → make (key row) (rank row) ≡ row
  pub same : K → K → Bool
  pub same_is : (k l : K) → (same k l ≡ true) ↔ (k ≡ l)
  pub before : K → K → Bool
  pub before_itself : (k : K) → before k k ≡ false
  pub before_later : (k l m : K) → before k l ≡ true → before l m ≡ true → before k m ≡ true
  pub before_or : (k l : K) → (before k l ≡ true) ⊎ ((before l k ≡ true) ⊎ (k ≡ l))
  pub height : K → ℤ

module _ {R K : Type 0} (T : TableShape R K) where
  abbrev pub part_at : R → K → ℕ
  part_at row k = if T.same (T.key row) k then T.rank row else 0

  -- the rank at a key
  pub ranks_of : List R → K → ℕ
  ranks_of rows k = sum_by (λ row. if T.same (T.key row) k then T.rank row else 0) rows

  pub ranks_of-sum : (rows : List R) (k : K)
      → ranks_of rows k ≡ sum_by (λ row. if T.same (T.key row) k then T.rank row else 0) rows
  unfolding ranks_of
  ranks_of-sum rows k = refl

  abbrev pub AreOrdered : List R → Type 0
  AreOrdered rows = AllPairs (λ p q. IsTrue (T.before (T.key p) (T.key q))) rows

  pub record ArePositive (rows : List R) : Type 0 where
    pub ordered : AllPairs (λ p q. IsTrue (T.before (T.key p) (T.key q))) rows
    pub positive : All (λ row. 1 ≤ T.rank row) rows

  abbrev comes : R → R → Type 0
  comes p q = IsTrue (T.before (T.key p) (T.key q))

  -- ---- ranks
  pub ranks_of-nil : (k : K) → ranks_of [] k ≡ 0
  unfolding ranks_of
  ranks_of-nil k = refl

  pub ranks_of-cons : (row : R) (rows : List R) (k : K) → ranks_of (row ∷ rows) k ≡ part_at row k + ranks_of rows k
  unfolding ranks_of
  ranks_of-cons row rows k = sum_by-cons (λ row. if T.same (T.key row) k then T.rank row else 0) row rows

  pub part_at-here : (row : R) (k : K) → T.key row ≡ k → part_at row k ≡ T.rank row
  part_at-here row k e = ap (λ b. if b then T.rank row else 0) ((T.same_is (T.key row) k).1 e)

  pub part_at-elsewhere : (row : R) (k : K) → (T.key row ≡ k → ⊥) → part_at row k ≡ 0
  part_at-elsewhere row k other =
      ap (λ b. if b then T.rank row else 0)
      (none_where (T.same (T.key row) k) (λ h. other ((T.same_is (T.key row) k).0 h)))

  -- a key is that of the row or not
  pub key_or : (row : R) (k : K) → (T.key row ≡ k) ⊎ (T.key row ≡ k → ⊥)
  key_or row k = elim (cases_Bool (T.same (T.key row) k)) [
    | inl h ↦ inl ((T.same_is (T.key row) k).0 h)
    | inr h ↦ inr (λ e. false≢true (sym h ∙ (T.same_is (T.key row) k).1 e))
  ]

  pub ranks_of-none : (rows : List R) (k : K) → ((row : R) → Contains rows row → T.key row ≡ k → ⊥)
      → ranks_of rows k ≡ 0
  ranks_of-none [] k none = ranks_of-nil k
  ranks_of-none (row ∷ rows) k none =
      let rest = ranks_of-none rows k (λ r inside. none r (member_tail row rows r inside)) in
      let own = part_at-elsewhere row k (none row (member_head row rows)) in
      let split = ranks_of-cons row rows k in
      omega arith

  pub row_found : (rows : List R) (k : K) → 0 < ranks_of rows k → (row : R) × Contains rows row × (T.key row ≡ k)
  row_found [] k h = let none = ranks_of-nil k in absurd (omega arith)
  row_found (row ∷ rows) k h = elim (key_or row k) [
    | inl e ↦ (row, member_head row rows, e)
    | inr other ↦
        let own = part_at-elsewhere row k other in
        let split = ranks_of-cons row rows k in
        let found = row_found rows k (omega arith) in
        (found.0, member_tail row rows found.0 found.1, found.2)
  ]

  -- a key does not come before itself
  pub apart : (k l : K) → T.before k l ≡ true → k ≡ l → ⊥
  apart k l h e = false≢true (sym (T.before_itself l) ∙ ap (λ m. T.before m l) (sym e) ∙ h)

  -- what comes after the first row has other keys
  tail_none : (row : R) (rows : List R) → AreOrdered (row ∷ rows) → ranks_of rows (T.key row) ≡ 0
  tail_none row rows ordered =
      ranks_of-none rows (T.key row)
      (λ r inside e. apart (T.key row) (T.key r) (pairs_head comes row rows ordered r inside) (sym e))

  pub ranks_of-first : (row : R) (rows : List R) → AreOrdered (row ∷ rows)
      → ranks_of (row ∷ rows) (T.key row) ≡ T.rank row
  ranks_of-first row rows ordered =
      let split = ranks_of-cons row rows (T.key row) in
      let own = part_at-here row (T.key row) refl in
      let rest = tail_none row rows ordered in
      omega arith

  -- a row that comes before the first has no rank there
  before_all : (row next : R) (rows : List R) → AreOrdered (next ∷ rows) → T.before (T.key row) (T.key next) ≡ true
      → ranks_of (next ∷ rows) (T.key row) ≡ 0
  before_all row next rows ordered h = ranks_of-none (next ∷ rows) (T.key row) (λ r inside e.
      elim (member_cases next rows r inside) [
        | inl is ↦ apart (T.key row) (T.key next) h (sym e ∙ ap T.key (sym is))
        | inr later ↦
            apart (T.key row) (T.key r)
            (T.before_later (T.key row) (T.key next) (T.key r) h (pairs_head comes next rows ordered r later)) (sym e)
      ])

  pub ArePositive-tail : (row : R) (rows : List R) → ArePositive (row ∷ rows) → ArePositive rows
  ArePositive-tail row rows h = record {
    ordered = pairs_tail comes row rows h.ordered;
    positive = All-tail (λ r. 1 ≤ T.rank r) row rows h.positive;
  }

  first_positive : (row : R) (rows : List R) → ArePositive (row ∷ rows) → 1 ≤ T.rank row
  first_positive row rows h = All-head (λ r. 1 ≤ T.rank r) row rows h.positive

  -- ---- lists with the same ranks
  same_first : (p q : R) (ps qs : List R) → ArePositive (p ∷ ps) → ArePositive (q ∷ qs)
      → ((k : K) → ranks_of (p ∷ ps) k ≡ ranks_of (q ∷ qs) k) → p ≡ q
  same_first p q ps qs hp hq same =
      let p_first = ranks_of-first p ps hp.ordered in
      let q_first = ranks_of-first q qs hq.ordered in
      let p_some = first_positive p ps hp in
      let q_some = first_positive q qs hq in
      elim (T.before_or (T.key p) (T.key q)) [
        | inl h ↦
            let none = before_all p q qs hq.ordered h in let both = same (T.key p) in absurd (omega arith)
        | inr other ↦ elim other [
          | inl h ↦
              let none = before_all q p ps hp.ordered h in let both = same (T.key q) in absurd (omega arith)
          | inr e ↦
              let ranks : T.rank p ≡ T.rank q =
              sym p_first ∙ same (T.key p) ∙ ap (ranks_of (q ∷ qs)) e ∙ q_first in
              sym (T.made p) ∙ (λ i. T.make (e i) (ranks i)) ∙ T.made q
        ]
      ]

  pub same_rows : (ps qs : List R) → ArePositive ps → ArePositive qs
      → ((k : K) → ranks_of ps k ≡ ranks_of qs k) → ps ≡ qs
  same_rows [] [] hp hq same = refl
  same_rows [] (q ∷ qs) hp hq same =
      let none = ranks_of-nil (T.key q) in
      let first = ranks_of-first q qs hq.ordered in
      let some = first_positive q qs hq in
      let both = same (T.key q) in
      absurd (omega arith)
  same_rows (p ∷ ps) [] hp hq same =
      let none = ranks_of-nil (T.key p) in
      let first = ranks_of-first p ps hp.ordered in
      let some = first_positive p ps hp in
      let both = same (T.key p) in
      absurd (omega arith)
  same_rows (p ∷ ps) (q ∷ qs) hp hq same =
      let first = same_first p q ps qs hp hq same in
      let later = same_rows ps qs (ArePositive-tail p ps hp) (ArePositive-tail q qs hq) (λ k.
      let both = same k in
      let parts : part_at p k ≡ part_at q k = ap (λ r. part_at r k) first in
      let at_p = ranks_of-cons p ps k in
      let at_q = ranks_of-cons q qs k in
      omega arith) in
      λ i. first i ∷ later i

  -- ---- a member has a rank
  pub ranks_of-member : (rows : List R) (row : R) → ArePositive rows → Contains rows row
      → 1 ≤ ranks_of rows (T.key row)
  ranks_of-member [] row h inside = absurd (no_member row inside)
  ranks_of-member (x ∷ rows) row h inside =
      let rest = ranks_of-member rows row (ArePositive-tail x rows h) in
      let some = first_positive x rows h in
      let split = ranks_of-cons x rows (T.key row) in
      elim (member_cases x rows row inside) [
        | inl e ↦
            let own = part_at-here x (T.key row) (ap T.key e) in omega arith
        | inr later ↦ let more = rest later in omega arith
      ]

  -- no row is higher than this
  pub top_of : (rows : List R) → (top : ℤ) × ((row : R) → Contains rows row → T.height (T.key row) ≤ℤ top)
  top_of [] = (pos 0, λ row inside. absurd (no_member row inside))
  top_of (x ∷ rows) =
      let later = top_of rows in
      let high = higher later.0 (T.height (T.key x)) in (
        high.0,
        λ row inside. elim (member_cases x rows row inside) [
          | inl e ↦ subst (λ r. T.height (T.key r) ≤ℤ high.0) e high.2
          | inr further ↦
              let below = later.1 row further in
              let over = high.1 in
              omega (arith, ints)
        ],
      )
    where
      not_less : (a b : ℤ) → int_lt a b ≡ false → b ≤ℤ a
      not_less a b h = grind (arith, ints)

      less : (a b : ℤ) → int_lt a b ≡ true → a ≤ℤ b
      less a b h = grind (arith, ints)

      alike : (a : ℤ) → a ≤ℤ a
      alike a = omega (arith, ints)

      higher : (a b : ℤ) → (c : ℤ) × (a ≤ℤ c) × (b ≤ℤ c)
      higher a b = elim (cases_Bool (int_lt a b)) [
        | inl h ↦ (b, less a b h, alike b)
        | inr h ↦ (a, alike a, not_less a b h)
      ]

  pub zero_above_top : (rows : List R) → IsZeroAbove T.height (top_of rows).0 (ranks_of rows)
  zero_above_top rows k above = elim (cases_lt 0 (ranks_of rows k)) [
    | inl some ↦
        let found = row_found rows k some in
        let below = (top_of rows).1 found.0 found.1 in
        let at = ap T.height found.2 in
        absurd (omega (arith, ints))
    | inr none ↦ omega arith
  ]

  -- ---- the rows with other ranks, those of rank 0 left out
  push_row : ℕ → K → List R → List R
  push_row zero k rest = rest
  push_row (suc n) k rest = T.make k (suc n) ∷ rest

  module _ (r : K → ℕ) where
    pub with_ranks : List R → List R
    with_ranks [] = []
    with_ranks (row ∷ rows) = push_row (r (T.key row)) (T.key row) (with_ranks rows)

    -- each is at a key of the list
    member_of_with_ranks : (rows : List R) (s : R) → Contains (with_ranks rows) s
        → (row : R) × Contains rows row × (T.key row ≡ T.key s)
    unfolding with_ranks push_row
    member_of_with_ranks [] s inside = absurd (no_member s inside)
    member_of_with_ranks (x ∷ rows) s inside =
        by (r (T.key x)) (member_of_with_ranks rows s) inside
      where
        by : (n : ℕ)
            → (Contains (with_ranks rows) s → (row : R) × Contains rows row × (T.key row ≡ T.key s))
            → Contains (push_row n (T.key x) (with_ranks rows)) s
            → (row : R) × Contains (x ∷ rows) row × (T.key row ≡ T.key s)
        by zero later inside = let t = later inside in (t.0, member_tail x rows t.0 t.1, t.2)
        by (suc n) later inside =
            elim (member_cases (T.make (T.key x) (suc n)) (with_ranks rows) s inside) [
              | inl e ↦ (x, member_head x rows, sym (T.key_made (T.key x) (suc n)) ∙ ap T.key e)
              | inr further ↦ let t = later further in (t.0, member_tail x rows t.0 t.1, t.2)
            ]

    -- they are in order
    pub ArePositive-with_ranks : (rows : List R) → AreOrdered rows → ArePositive (with_ranks rows)
    unfolding with_ranks push_row
    ArePositive-with_ranks [] ordered = record { ordered = λ i j d l m. absurd (omega arith); positive = All-nil _ }
    ArePositive-with_ranks (x ∷ rows) ordered =
        by (r (T.key x)) (ArePositive-with_ranks rows (pairs_tail comes x rows ordered))
      where
        by : (n : ℕ) → ArePositive (with_ranks rows) → ArePositive (push_row n (T.key x) (with_ranks rows))
        by zero rest = rest
        by (suc n) rest =
            let new = T.make (T.key x) (suc n) in
            let at = T.key_made (T.key x) (suc n) in
            let size = T.rank_made (T.key x) (suc n) in
            record {
              ordered = pairs_cons comes new (with_ranks rows) (λ s inside.
                  let t = member_of_with_ranks rows s inside in
                  let first = pairs_head comes x rows ordered t.0 t.1 in
                  (λ i. T.before (at i) (sym t.2 i)) ∙ first) rest.ordered;
              positive = All-cons (λ row. 1 ≤ T.rank row) new (with_ranks rows) (omega arith) rest.positive;
            }

    -- if the list has no row, they have none
    with_ranks-none : (rows : List R) (k : K) → ((row : R) → Contains rows row → T.key row ≡ k → ⊥)
        → ranks_of (with_ranks rows) k ≡ 0
    with_ranks-none rows k none = ranks_of-none (with_ranks rows) k (λ s inside e.
        let t = member_of_with_ranks rows s inside in none t.0 t.1 (t.2 ∙ e))

    -- if it has one, they have the other rank
    with_ranks-there : (rows : List R) → AreOrdered rows → (row : R) → Contains rows row
        → ranks_of (with_ranks rows) (T.key row) ≡ r (T.key row)
    unfolding with_ranks push_row
    with_ranks-there [] ordered row inside = absurd (no_member row inside)
    with_ranks-there (x ∷ rows) ordered row inside =
        let rest = with_ranks-there rows (pairs_tail comes x rows ordered) row in
        elim (member_cases x rows row inside) [
          | inl e ↦ subst
              (λ s. ranks_of (push_row (r (T.key x)) (T.key x) (with_ranks rows)) (T.key s) ≡ r (T.key s)) e
              (here (r (T.key x)) refl)
          | inr later ↦
              further (r (T.key x)) (apart (T.key x) (T.key row) (pairs_head comes x rows ordered row later))
              ∙ rest later
        ]
      where
        none_after : ranks_of (with_ranks rows) (T.key x) ≡ 0
        none_after = with_ranks-none rows (T.key x)
            (λ s inside e. apart (T.key x) (T.key s) (pairs_head comes x rows ordered s inside) (sym e))

        here : (n : ℕ) → r (T.key x) ≡ n
            → ranks_of (push_row n (T.key x) (with_ranks rows)) (T.key x) ≡ r (T.key x)
        here zero e = none_after ∙ sym e
        here (suc n) e =
            let new = T.make (T.key x) (suc n) in
            let split = ranks_of-cons new (with_ranks rows) (T.key x) in
            let own = part_at-here new (T.key x) (T.key_made (T.key x) (suc n)) in
            let size = T.rank_made (T.key x) (suc n) in
            let none = none_after in
            omega arith

        further : (n : ℕ) → (T.key x ≡ T.key row → ⊥)
            → ranks_of (push_row n (T.key x) (with_ranks rows)) (T.key row) ≡ ranks_of (with_ranks rows) (T.key row)
        further zero other = refl
        further (suc n) other =
            let new = T.make (T.key x) (suc n) in
            let split = ranks_of-cons new (with_ranks rows) (T.key row) in
            let own = part_at-elsewhere new (T.key row)
            (λ e. other (sym (T.key_made (T.key x) (suc n)) ∙ e)) in
            omega arith

    -- ranks that are 0 if the list has none are those of a list in order
    pub ranks_of-with_ranks : (rows : List R) → ArePositive rows
        → ((k : K) → ranks_of rows k ≡ 0 → r k ≡ 0) → (k : K) → ranks_of (with_ranks rows) k ≡ r k
    ranks_of-with_ranks rows positive under k = elim (cases_lt 0 (ranks_of rows k)) [
      | inl some ↦
          let t = row_found rows k some in
          subst (λ l. ranks_of (with_ranks rows) l ≡ r l) t.2 (with_ranks-there rows positive.ordered t.0 t.1)
      | inr none ↦
          with_ranks-none rows k (λ row inside e.
          let some = ranks_of-member rows row positive inside in
          let at = ap (ranks_of rows) e in
          absurd (omega arith))
          ∙ sym (under k (omega arith))
    ]
