-- Division of rows of any kind as a program goes about it: row by row from the top, and by one factor after another.
use Rattle.std.proofs.Common.{◌≡◌, ℕ, zero, suc, ◌+◌, ◌-◌, ◌<◌, ◌≤◌, true, List, [], ◌∷◌, ◌++◌, length, get_or, take, drop, All, Contains, inl, inr, sym, ap, ap₂, subst, ◌∙◌, add-one, arith}
use Rattle.std.proofs.Math.Seq.{drop-cons}
use Rattle.std.proofs.lemmas.Bool.{cases_lt}
use Rattle.std.proofs.lemmas.List.{take_more, take_all, take-append-drop}
use Rattle.std.proofs.lemmas.List.Elements.{Contains-get_or}
use Rattle.hat_division.specs.Factors.{copies}
use Rattle.hat_division.proofs.Factors.FactorLemmas.{IsStepUp, AreStepsUp}
use Rattle.hat_division.proofs.Factors.TableShapes.{TableShape, ArePositive, ranks_of, ranks_of-member, row_found}
use Rattle.hat_division.proofs.Factors.FactorQuotients.{IsQuotientOf, quotient_next, none_next}
use Rattle.hat_division.proofs.Factors.QuotientSteps.{IsCandidateFor, ranks_of-row, candidate_none, candidate_fails, candidate_kept, candidate_pushed, candidate_is, candidate_is_not}

module _ {R K : Type 0} (T : TableShape R K) where
  -- ---- rows at the keys of others: xs has a rank wherever ys has
  module _ (xs ys : List R) (positive : ArePositive T ys)
      (under : (k : K) → ranks_of T xs k ≡ 0 → ranks_of T ys k ≡ 0) where
    -- each row of ys has a row of xs at its key
    pub row_among : (r : R) → Contains ys r → (t : R) × Contains xs t × (T.key t ≡ T.key r)
    row_among r inside =
        let some = ranks_of-member T ys r positive inside in
        elim (cases_lt 0 (ranks_of T xs (T.key r))) [
          | inl there ↦ row_found T xs (T.key r) there
          | inr none ↦ let gone = under (T.key r) (omega arith) in absurd (omega arith)
        ]

    -- so what holds of rows by their keys goes over
    pub all_among : (P : R → Type 0) → ((t r : R) → T.key t ≡ T.key r → P t → P r) → All P xs → All P ys
    all_among P by_key all k d l =
        let t = row_among (get_or ys k d) (Contains-get_or ys k d l) in
        let (j, lj, is) = t.1 in
        by_key t.0 (get_or ys k d) t.2 (subst P is (all j t.0 lj))

  module _ (up : K → K) (step : IsStepUp T.height up) (rows : List R) (positive : ArePositive T rows) where
    -- ---- one factor after another
    copies_AreStepsUp : (e : ℕ) → AreStepsUp T.height (copies e up)
    copies_AreStepsUp zero = tt
    copies_AreStepsUp (suc e) = (step, copies_AreStepsUp e)

    pub power_next : (j : ℕ) (p q : List R) → IsQuotientOf T (copies j up) rows p → IsQuotientOf T (up ∷ []) p q
        → IsQuotientOf T (copies (j + 1) up) rows q
    power_next j p q hp hq =
        subst (λ n. IsQuotientOf T (copies n up) rows q) (sym (add-one j))
        ((quotient_next T up (copies j up) rows positive (copies_AreStepsUp j) p q hp).0 hq)

    copies-add : (a b : ℕ) → copies (a + b) up ≡ copies a up ++ copies b up
    copies-add zero b = ap (λ n. copies n up) (let e : 0 + b ≡ b = omega arith in e)
    copies-add (suc a) b =
        ap (λ n. copies n up) (let e : suc a + b ≡ suc (a + b) = omega arith in e)
        ∙ ap (λ l. up ∷ l) (copies-add a b)

    pub power_none : (e j : ℕ) (p : List R) → j < e → IsQuotientOf T (copies j up) rows p
        → ((q : List R) → IsQuotientOf T (up ∷ []) p q → ⊥) → (q : List R) → IsQuotientOf T (copies e up) rows q → ⊥
    power_none e j p l hp none q h =
        let all : e ≡ (e - suc j) + suc j = omega arith in
        let parts : copies e up ≡ copies (e - suc j) up ++ copies (suc j) up =
        ap (λ n. copies n up) all ∙ copies-add (e - suc j) (suc j) in
        none_next T (copies (suc j) up) (copies_AreStepsUp (suc j)) rows positive (copies (e - suc j) up)
        (λ r hr. none r ((quotient_next T up (copies j up) rows positive (copies_AreStepsUp j) p r hp).1 hr)) q
        (subst (λ ups. IsQuotientOf T ups rows q) parts h)

    -- ---- one row after another
    module _ (earlier : (k : K) → T.before (up k) k ≡ true) where
      pub row_none : IsCandidateFor T up rows (take 0 rows) []
      row_none = candidate_none T up step earlier rows positive

      module _ (n : ℕ) (row : R) (inside : n < length rows) (is : row ≡ get_or rows n row) (c : List R)
          (so_far : IsCandidateFor T up rows (take n rows) c) (above : ℕ)
          (above_is : above ≡ ranks_of T c (up (T.key row)))
        where
          whole : rows ≡ take n rows ++ row ∷ drop (n + 1) rows
          whole =
              sym (take-append-drop n rows)
              ∙ ap (λ l. take n rows ++ l)
              (drop-cons rows n row inside ∙ ap₂ (λ r k. r ∷ drop k rows) (sym is) (sym (add-one n)))

          taken : take (n + 1) rows ≡ take n rows ++ row ∷ []
          taken = take_more rows n row inside ∙ ap (λ r. take n rows ++ r ∷ []) (sym is)

          pub row_fails : T.rank row < above → (q : List R) → IsQuotientOf T (up ∷ []) rows q → ⊥
          row_fails less q h =
              let at = above_is in
              candidate_fails T up step earlier rows positive (take n rows) row (drop (n + 1) rows) whole c so_far
              (omega arith) q h

          pub row_kept : T.rank row ≤ above → above ≤ T.rank row → IsCandidateFor T up rows (take (n + 1) rows) c
          row_kept more enough =
              let at = above_is in
              subst (λ done. IsCandidateFor T up rows done c) (sym taken)
              (candidate_kept T up step earlier rows positive (take n rows) row (drop (n + 1) rows) whole c so_far
              (omega arith))

          pub row_pushed : (new : R) → T.key new ≡ T.key row → T.rank new ≡ T.rank row - above → above < T.rank row
              → IsCandidateFor T up rows (take (n + 1) rows) (c ++ new ∷ [])
          row_pushed new at_key left less =
              let at = above_is in
              subst (λ done. IsCandidateFor T up rows done (c ++ new ∷ [])) (sym taken)
              (candidate_pushed T up step earlier rows positive (take n rows) row (drop (n + 1) rows) whole c so_far new
              at_key (left ∙ ap (λ a. T.rank row - a) at) (omega arith))

    -- at the end all rows are taken
    pub all_taken : (n : ℕ) (c : List R) → IsCandidateFor T up rows (take n rows) c → length rows ≤ n
        → IsCandidateFor T up rows rows c
    all_taken n c so_far all = subst (λ done. IsCandidateFor T up rows done c) (take_all n rows all) so_far

    -- a candidate has no more than the table
    pub candidate_under : (c : List R) → IsCandidateFor T up rows rows c → (k : K) → ranks_of T c k ≤ ranks_of T rows k
    candidate_under c all k = elim (cases_lt 0 (ranks_of T rows k)) [
      | inl some ↦
          let (t, inside, is) = row_found T rows k some in
          let right = all.right t inside in
          let own = ranks_of-row T rows t positive.ordered inside in
          subst (λ l. ranks_of T c l ≤ ranks_of T rows l) is (omega arith)
      | inr none ↦ let gone = all.under k (omega arith) in omega arith
    ]

    -- ---- at the end
    module _ (earlier : (k : K) → T.before (up k) k ≡ true) (c : List R) (all : IsCandidateFor T up rows rows c) where
      -- if each of its rows has a row of the table one step down, it is the quotient
      pub quotient_found : All (λ row. 1 ≤ ranks_of T rows (step.down (T.key row))) c → IsQuotientOf T (up ∷ []) rows c
      quotient_found lower = candidate_is T up step earlier rows positive c all (λ r inside.
          let (k, l, is) = inside in subst (λ s. 1 ≤ ranks_of T rows (step.down (T.key s))) is (lower k r l))

      -- and else there is none
      pub no_quotient : (All (λ row. 1 ≤ ranks_of T rows (step.down (T.key row))) c → ⊥) → (q : List R)
          → IsQuotientOf T (up ∷ []) rows q → ⊥
      no_quotient not_lower q h = not_lower (λ k d l.
          let r = get_or c k d in
          elim (cases_lt 0 (ranks_of T rows (step.down (T.key r)))) [
            | inl some ↦ omega arith
            | inr none ↦
                absurd (candidate_is_not T up step earlier rows positive c all r (Contains-get_or c k d l)
                (omega arith) q h)
          ])
