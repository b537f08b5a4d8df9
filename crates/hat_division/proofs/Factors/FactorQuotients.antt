-- Quotients of tables of any kind by factors 1 + s: there is at most one, and it is known whether there is one. One
-- factor is divided at a time: what is left of each rank, from the top down, is each quotient that there is; two tests
-- at each row tell whether it is one.
use Rattle.std.proofs.Common.{◌≡◌, ◌↔◌, ◌⊎◌, ℕ, ◌+◌, ◌<◌, ◌≤◌, List, [], ◌∷◌, ◌++◌, Contains, inl, inr, refl, sym, ap, subst, ◌∙◌, arith}
use Rattle.std.proofs.lemmas.Bool.{cases_eq, cases_lt}
use Rattle.state_rank.proofs.MemberLemmas.{member_cases, member_head, member_tail, no_member}
use Rattle.hat_division.specs.Factors.{times_one, times_all}
use Rattle.hat_division.proofs.Factors.FactorLemmas.{IsStepUp, AreStepsUp, IsZeroAbove, times_all-ge, times_all-cancel, left_after, left_after-le, left_after-is}
use Rattle.hat_division.proofs.Factors.TableShapes.{TableShape, ranks_of, ArePositive, row_found, same_rows, top_of, zero_above_top, with_ranks, ArePositive-with_ranks, ranks_of-with_ranks}

-- a property of all members, or a member without it
decide_all : {A : Type 0} (P : A → Type 0) → ((a : A) → P a ⊎ (P a → ⊥)) → (xs : List A)
    → ((a : A) → Contains xs a → P a) ⊎ ((a : A) × Contains xs a × (P a → ⊥))
decide_all P each [] = inl (λ a inside. absurd (no_member a inside))
decide_all P each (x ∷ xs) =
    let later = decide_all P each xs in
    elim (each x) [
      | inr fails ↦ inr (x, member_head x xs, fails)
      | inl held ↦ elim later [
        | inr f ↦ inr (f.0, member_tail x xs f.0 f.1, f.2)
        | inl all ↦ inl (λ a inside. elim (member_cases x xs a inside) [
          | inl e ↦ subst P e held
          | inr further ↦ all a further
        ])
      ]
    ]

module _ {R K : Type 0} (T : TableShape R K) where
  -- the rows are those of a table, and their product with the factors is the other table
  pub record IsQuotientOf (ups : List (K → K)) (rows quotient : List R) : Type 0 where
    pub positive : ArePositive T quotient
    pub product : (k : K) → ranks_of T rows k ≡ times_all ups (ranks_of T quotient) k

  -- a quotient has no more
  pub quotient-le : (ups : List (K → K)) (rows q : List R) → IsQuotientOf ups rows q → (k : K)
      → ranks_of T q k ≤ ranks_of T rows k
  quotient-le ups rows q h k = let product = h.product k in let less = times_all-ge ups (ranks_of T q) k in omega arith

  zero_above : (ups : List (K → K)) (rows q : List R) → IsQuotientOf ups rows q
      → IsZeroAbove T.height (top_of T rows).0 (ranks_of T q)
  zero_above ups rows q h k above =
      let less = quotient-le ups rows q h k in let none = zero_above_top T rows k above in omega arith

  -- ---- there is at most one quotient
  pub one_quotient : (ups : List (K → K)) → AreStepsUp T.height ups → (rows p q : List R) → IsQuotientOf ups rows p
      → IsQuotientOf ups rows q → p ≡ q
  one_quotient ups steps rows p q hp hq =
      same_rows T p q hp.positive hq.positive
      (times_all-cancel T.height (top_of T rows).0 ups steps (ranks_of T p) (ranks_of T q) (zero_above ups rows p hp)
      (zero_above ups rows q hq) (λ k. sym (hp.product k) ∙ hq.product k))

  -- ---- a table is a quotient of itself by no factor
  pub quotient_none : (rows : List R) → ArePositive T rows → IsQuotientOf [] rows rows
  quotient_none rows positive = record { positive = positive; product = λ k. refl }

  -- ---- one factor more
  module _ (up : K → K) (ups : List (K → K)) (rows : List R) (positive : ArePositive T rows) where
    -- from the quotients, one after the other
    pub quotient_further : (p q : List R) → IsQuotientOf ups rows p → IsQuotientOf (up ∷ []) p q
        → IsQuotientOf (up ∷ ups) rows q
    quotient_further p q hp hq = record {
      positive = hq.positive;
      product = λ k. hp.product k ∙ (λ i. times_all ups (λ l. hq.product l i) k);
    }

    -- a quotient by one factor more is one of a quotient
    pub quotient_before : (q : List R) → IsQuotientOf (up ∷ ups) rows q
        → (p : List R) × IsQuotientOf ups rows p × IsQuotientOf (up ∷ []) p q
    quotient_before q h =
        let r : K → ℕ = times_one up (ranks_of T q) in
        let is = ranks_of-with_ranks T r rows positive (λ k none.
        let product = h.product k in let less = times_all-ge ups r k in omega arith) in (
          with_ranks T r rows,
          record {
            positive = ArePositive-with_ranks T r rows positive.ordered;
            product = λ k. h.product k ∙ (λ i. times_all ups (λ l. sym (is l) i) k);
          },
          record { positive = h.positive; product = is },
        )

    -- if there is none by some factors, there is none by one more
    pub none_further : ((p : List R) → IsQuotientOf ups rows p → ⊥) → (q : List R) → IsQuotientOf (up ∷ ups) rows q → ⊥
    none_further none q h = let before = quotient_before q h in none before.0 before.1

    -- of a quotient by some factors, the quotients by one more
    pub quotient_next : AreStepsUp T.height ups → (p q : List R) → IsQuotientOf ups rows p
        → IsQuotientOf (up ∷ []) p q ↔ IsQuotientOf (up ∷ ups) rows q
    quotient_next steps p q hp = (
      quotient_further p q hp,
      λ h.
          let before = quotient_before q h in
          subst (λ t. IsQuotientOf (up ∷ []) t q) (one_quotient ups steps rows before.0 p before.1 hp) before.2,
    )

  -- ---- several factors more
  module _ (ups : List (K → K)) (steps : AreStepsUp T.height ups) (rows : List R) (positive : ArePositive T rows) where
    -- of a quotient by some factors, the quotients by further ones
    pub quotients_next : (vs : List (K → K)) (p q : List R) → IsQuotientOf ups rows p
        → IsQuotientOf vs p q ↔ IsQuotientOf (vs ++ ups) rows q
    quotients_next [] p q hp = (
      λ h. subst (IsQuotientOf ups rows) (same_rows T p q hp.positive h.positive h.product) hp,
      λ h.
          let same = one_quotient ups steps rows p q hp h in
          record { positive = h.positive; product = λ k. ap (λ xs. ranks_of T xs k) same },
    )
    quotients_next (v ∷ vs) p q hp = (
      λ h.
          let mid = quotient_before v vs p hp.positive q h in
          quotient_further v (vs ++ ups) rows positive mid.0 q ((quotients_next vs p mid.0 hp).0 mid.1) mid.2,
      λ h.
          let mid = quotient_before v (vs ++ ups) rows positive q h in
          quotient_further v vs p hp.positive mid.0 q ((quotients_next vs p mid.0 hp).1 mid.1) mid.2,
    )

    -- if there is none by some factors, there is none by more
    pub none_next : (vs : List (K → K)) → ((p : List R) → IsQuotientOf ups rows p → ⊥) → (q : List R)
        → IsQuotientOf (vs ++ ups) rows q → ⊥
    none_next [] none = none
    none_next (v ∷ vs) none = none_further v (vs ++ ups) rows positive (none_next vs none)

  -- ---- division by one factor
  module _ (up : K → K) (step : IsStepUp T.height up) (rows : List R) (positive : ArePositive T rows) where
    -- what is left of the ranks, from the top down
    left : K → ℕ
    left = left_after T.height (top_of T rows).0 up step (ranks_of T rows)

    left-le : (k : K) → left k ≤ ranks_of T rows k
    unfolding left
    left-le k = left_after-le T.height (top_of T rows).0 up step (ranks_of T rows) k

    left-is : (q : List R) → IsQuotientOf (up ∷ []) rows q → (k : K) → left k ≡ ranks_of T q k
    unfolding left
    left-is q h k =
        left_after-is T.height (top_of T rows).0 up step (ranks_of T rows) (ranks_of T q)
        (zero_above (up ∷ []) rows q h)
        h.product k

    candidate : List R
    candidate = with_ranks T left rows

    candidate-ranks : (k : K) → ranks_of T candidate k ≡ left k
    unfolding candidate
    candidate-ranks k =
        ranks_of-with_ranks T left rows positive (λ l none. let less = left-le l in omega arith) k

    -- at a row: its rank is that of the product, and if it is in the quotient there is a row one step down
    abbrev IsRight : R → Type 0
    IsRight row =
        (ranks_of T rows (T.key row) ≡ left (T.key row) + left (up (T.key row)))
        × ((left (T.key row) ≡ 0) ⊎ (0 < ranks_of T rows (step.down (T.key row))))

    decide_row : (row : R) → IsRight row ⊎ (IsRight row → ⊥)
    decide_row row =
        elim (cases_eq (ranks_of T rows (T.key row)) (left (T.key row) + left (up (T.key row)))) [
          | inr differs ↦ inr (λ h. differs h.0)
          | inl e ↦ elim (cases_eq (left (T.key row)) 0) [
            | inl none ↦ inl (e, inl none)
            | inr some ↦ elim (cases_lt 0 (ranks_of T rows (step.down (T.key row)))) [
              | inl there ↦ inl (e, inr there)
              | inr gone ↦ inr (λ h. elim h.1 [
                | inl z ↦ some z
                | inr there ↦ absurd (omega arith)
              ])
            ]
          ]
        ]

    -- if all rows are right, it is the quotient
    candidate_is : ((row : R) → Contains rows row → IsRight row) → IsQuotientOf (up ∷ []) rows candidate
    unfolding candidate
    candidate_is all = record {
      positive = ArePositive-with_ranks T left rows positive.ordered;
      product = λ k. at k ∙ (λ i. sym (candidate-ranks k) i + sym (candidate-ranks (up k)) i);
    }
      where
        at : (k : K) → ranks_of T rows k ≡ left k + left (up k)
        at k = elim (cases_lt 0 (ranks_of T rows k)) [
          | inl some ↦
              let t = row_found T rows k some in
              subst (λ l. ranks_of T rows l ≡ left l + left (up l)) t.2 (all t.0 t.1).0
          | inr none ↦
              let here = left-le k in
              let over : left (up k) ≡ 0 = elim (cases_lt 0 (left (up k))) [
                | inl some ↦
                    let less = left-le (up k) in
                    let t = row_found T rows (up k) (omega arith) in
                    elim (all t.0 t.1).1 [
                      | inl z ↦ let same = ap left t.2 in absurd (omega arith)
                      | inr there ↦
                          let back = ap (λ l. ranks_of T rows (step.down l)) t.2 ∙ ap (ranks_of T rows) (step.back k) in
                          absurd (omega arith)
                    ]
                | inr no_left ↦ omega arith
              ] in
              omega arith
        ]

    -- if there is a quotient, all rows are right
    right_of : (q : List R) → IsQuotientOf (up ∷ []) rows q → (row : R) → IsRight row
    right_of q h row =
        let k = T.key row in
        let here = left-is q h k in
        let over = left-is q h (up k) in
        let product = h.product k in
        let under = h.product (step.down k) in
        let forth = ap (ranks_of T q) (step.forth k) in (
          omega arith,
          elim (cases_eq (left k) 0) [
            | inl none ↦ inl none
            | inr some ↦ inr (omega arith)
          ],
        )

    pub decide_one : ((q : List R) × IsQuotientOf (up ∷ []) rows q) ⊎ ((q : List R) → IsQuotientOf (up ∷ []) rows q → ⊥)
    decide_one = elim (decide_all IsRight decide_row rows) [
      | inl all ↦ inl (candidate, candidate_is all)
      | inr wrong ↦ inr (λ q h. wrong.2 (right_of q h wrong.0))
    ]

  -- ---- a table has a quotient or has none
  pub decide_quotient : (ups : List (K → K)) → AreStepsUp T.height ups → (rows : List R) → ArePositive T rows
      → ((q : List R) × IsQuotientOf ups rows q) ⊎ ((q : List R) → IsQuotientOf ups rows q → ⊥)
  decide_quotient [] steps rows positive = inl (rows, quotient_none rows positive)
  decide_quotient (up ∷ ups) steps rows positive = elim (decide_quotient ups steps.1 rows positive) [
    | inr none ↦ inr (none_further up ups rows positive none)
    | inl p ↦ elim (decide_one up steps.0 p.0 p.1.positive) [
      | inl q ↦ inl (q.0, quotient_further up ups rows positive p.0 q.0 p.1 q.1)
      | inr none ↦ inr (λ q h. none q ((quotient_next up ups rows positive steps.1 p.0 q p.1).1 h))
    ]
  ]
