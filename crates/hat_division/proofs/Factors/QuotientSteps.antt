-- A quotient by one factor, made row by row from the top: what the program keeps while it goes through the rows, and
-- what it knows at the end. The candidate has, at the keys of the rows so far, the ranks of each quotient that there
-- is.
use Rattle.std.proofs.Common.{◌≡◌, ◌+◌, ◌-◌, ◌<◌, ◌≤◌, true, List, [], ◌∷◌, ◌++◌, AllPairs, Contains, IsTrue, inl, inr, refl, sym, ap, subst, ◌∙◌, arith}
use Rattle.std.proofs.lemmas.Bool.{cases_lt}
use Rattle.std.proofs.lemmas.List.Elements.{Contains-append_right, Contains-append_cases, All-push, All-nil}
use Rattle.state_rank.proofs.MemberLemmas.{member_cases, member_head, no_member, pairs_append, pairs_cons, pairs_head, pairs_tail}
use Rattle.hat_division.proofs.Factors.FactorLemmas.{IsStepUp}
use Rattle.hat_division.proofs.Factors.TableShapes.{TableShape, ranks_of, ranks_of-nil, ranks_of-cons, ranks_of-none, ranks_of-member, ranks_of-first, part_at, part_at-here, part_at-elsewhere, key_or, apart, ArePositive, row_found}
use Rattle.hat_division.proofs.Factors.FactorQuotients.{IsQuotientOf, quotient-le}

-- what is kept when the rows of `done`, the first of the rows, were looked at
pub record IsCandidateFor {R K : Type 0} (T : TableShape R K) (up : K → K) (rows done c : List R) : Type 0 where
  pub positive_so_far : ArePositive T c
  pub under : (k : K) → ranks_of T done k ≡ 0 → ranks_of T c k ≡ 0
  pub right : (row : R) → Contains done row
      → ranks_of T c (T.key row) + ranks_of T c (up (T.key row)) ≡ T.rank row
  pub same : (q : List R) → IsQuotientOf T (up ∷ []) rows q → (row : R) → Contains done row
      → ranks_of T q (T.key row) ≡ ranks_of T c (T.key row)

module _ {R K : Type 0} (T : TableShape R K) where
  abbrev comes : R → R → Type 0
  comes p q = IsTrue (T.before (T.key p) (T.key q))

  -- ---- ranks of lists in order
  pub ranks_of-append : (xs ys : List R) (k : K) → ranks_of T (xs ++ ys) k ≡ ranks_of T xs k + ranks_of T ys k
  ranks_of-append [] ys k = let none = ranks_of-nil T k in omega arith
  ranks_of-append (x ∷ xs) ys k =
      let left = ranks_of-cons T x (xs ++ ys) k in
      let right = ranks_of-cons T x xs k in
      let rest = ranks_of-append xs ys k in
      omega arith

  pub ranks_of-push : (xs : List R) (y : R) (k : K) → ranks_of T (xs ++ y ∷ []) k ≡ ranks_of T xs k + part_at T y k
  ranks_of-push xs y k =
      let split = ranks_of-append xs (y ∷ []) k in
      let one = ranks_of-cons T y [] k in
      let none = ranks_of-nil T k in
      omega arith

  -- the rank at the key of a row is that of the row
  pub ranks_of-row : (rows : List R) (row : R) → AllPairs comes rows → Contains rows row
      → ranks_of T rows (T.key row) ≡ T.rank row
  ranks_of-row [] row ordered inside = absurd (no_member row inside)
  ranks_of-row (x ∷ rows) row ordered inside =
      let rest = ranks_of-row rows row (pairs_tail comes x rows ordered) in
      elim (member_cases x rows row inside) [
        | inl e ↦ subst (λ r. ranks_of T (x ∷ rows) (T.key r) ≡ T.rank r) e (ranks_of-first T x rows ordered)
        | inr later ↦
            let split = ranks_of-cons T x rows (T.key row) in
            let other = part_at-elsewhere T x (T.key row)
            (apart T (T.key x) (T.key row) (pairs_head comes x rows ordered row later)) in
            let same = rest later in
            omega arith
      ]

  module _ (up : K → K) (step : IsStepUp T.height up) (earlier : (k : K) → T.before (up k) k ≡ true) (rows : List R)
      (positive : ArePositive T rows) where
    pub candidate_none : IsCandidateFor T up rows [] []
    candidate_none = record {
      positive_so_far = record { ordered = λ i j d l m. absurd (omega arith); positive = All-nil _ };
      under = λ k e. ranks_of-nil T k;
      right = λ row inside. absurd (no_member row inside);
      same = λ q h row inside. absurd (no_member row inside);
    }

    -- ---- one row
    module _ (done : List R) (row : R) (rest : List R) (whole : rows ≡ done ++ row ∷ rest) (c : List R)
        (so_far : IsCandidateFor T up rows done c) where
      abbrev k : K
      k = T.key row

      ordered_whole : AllPairs comes (done ++ row ∷ rest)
      ordered_whole = subst (AllPairs comes) whole positive.ordered

      in_whole : (r : R) → Contains (done ++ row ∷ rest) r → Contains rows r
      in_whole r inside = subst (λ xs. Contains xs r) (sym whole) inside

      -- rows of the first list come before those of the second
      across : (xs ys : List R) → AllPairs comes (xs ++ ys) → (p q : R) → Contains xs p → Contains ys q → comes p q
      across [] ys h p q in_x in_y = absurd (no_member p in_x)
      across (x ∷ xs) ys h p q in_x in_y =
          let later = across xs ys (pairs_tail comes x (xs ++ ys) h) p q in
          elim (member_cases x xs p in_x) [
            | inl e ↦
                subst (λ r. comes r q) e (pairs_head comes x (xs ++ ys) h q (Contains-append_right xs ys q in_y))
            | inr inside ↦ later inside in_y
          ]

      before_row : (r : R) → Contains done r → T.before (T.key r) k ≡ true
      before_row r inside = across done (row ∷ rest) ordered_whole r row inside (member_head row rest)

      -- no row of `done` has the key
      done_none : ranks_of T done k ≡ 0
      done_none = ranks_of-none T done k (λ r inside. apart T (T.key r) k (before_row r inside))

      row_rank : ranks_of T rows k ≡ T.rank row
      row_rank = ranks_of-row rows row positive.ordered
          (in_whole row (Contains-append_right done (row ∷ rest) row (member_head row rest)))

      -- no row from this one on is one step up
      up_done : (r : R) → Contains rows r → T.key r ≡ up k → Contains done r
      up_done r inside e =
          let comes_first : T.before (T.key r) k ≡ true = ap (λ l. T.before l k) e ∙ earlier k in
          elim (Contains-append_cases done (row ∷ rest) r (subst (λ xs. Contains xs r) whole inside)) [
            | inl before ↦ before
            | inr later ↦ elim (member_cases row rest r later) [
              | inl is ↦ absurd (apart T (T.key r) k comes_first (ap T.key (sym is)))
              | inr further ↦
                  let next = across (done ++ row ∷ []) rest
                  (subst (AllPairs comes) (sym (joined done row rest)) ordered_whole) row r
                  (Contains-append_right done (row ∷ []) row (member_head row [])) further in
                  absurd (apart T k k (T.before_later k (T.key r) k next comes_first) refl)
            ]
          ]
        where
          joined : (xs : List R) (y : R) (ys : List R) → (xs ++ y ∷ []) ++ ys ≡ xs ++ y ∷ ys
          joined [] y ys = refl
          joined (x ∷ xs) y ys = ap (λ l. x ∷ l) (joined xs y ys)

      -- one step up, the candidate has the rank of each quotient
      up_same : (q : List R) → IsQuotientOf T (up ∷ []) rows q → ranks_of T q (up k) ≡ ranks_of T c (up k)
      up_same q h = elim (cases_lt 0 (ranks_of T rows (up k))) [
        | inl some ↦
            let t = row_found T rows (up k) some in
            subst (λ l. ranks_of T q l ≡ ranks_of T c l) t.2 (so_far.same q h t.0 (up_done t.0 t.1 t.2))
        | inr none ↦
            let less = quotient-le T (up ∷ []) rows q h (up k) in
            let gone = so_far.under (up k) (none_done none) in
            omega arith
      ]
        where
          none_done : ranks_of T rows (up k) ≤ 0 → ranks_of T done (up k) ≡ 0
          none_done none =
              let split = ap (λ xs. ranks_of T xs (up k)) whole
              ∙ ranks_of-append done (row ∷ rest) (up k) in omega arith

      -- what each quotient has here is the rest of the rank
      pub rest_of_rank : (q : List R) → IsQuotientOf T (up ∷ []) rows q
          → ranks_of T q k + ranks_of T c (up k) ≡ T.rank row
      rest_of_rank q h =
          let product = h.product k in let is = row_rank in let over = up_same q h in omega arith

      -- there is none if the rank is less than what comes from one step up
      pub candidate_fails : T.rank row < ranks_of T c (up k) → (q : List R) → IsQuotientOf T (up ∷ []) rows q → ⊥
      candidate_fails less q h = let sum = rest_of_rank q h in absurd (omega arith)

      -- the row is done if the candidate has the rest of its rank there, and is the same elsewhere
      looked_at : (new : List R) → ArePositive T new → ranks_of T c (up k) ≤ T.rank row
          → ranks_of T new k ≡ T.rank row - ranks_of T c (up k)
          → ((l : K) → (k ≡ l → ⊥) → ranks_of T new l ≡ ranks_of T c l)
          → IsCandidateFor T up rows (done ++ row ∷ []) new
      looked_at new positive_new enough here elsewhere = record {
        positive_so_far = positive_new;
        under = λ l none.
            let split = ranks_of-push done row l in
            elim (key_or T row l) [
              | inl e ↦
                  let own = part_at-here T row l e in
                  let some = ranks_of-member T rows row positive
                  (in_whole row (Contains-append_right done (row ∷ rest) row (member_head row rest))) in
                  let is = row_rank in
                  absurd (omega arith)
              | inr other ↦ elsewhere l other ∙ so_far.under l (omega arith)
            ];
        right = λ r inside. elim (Contains-append_cases done (row ∷ []) r inside) [
          | inl before ↦
              let first = before_row r before in
              let here_same = elsewhere (T.key r) (λ e. apart T (T.key r) k first (sym e)) in
              let up_is = elsewhere (up (T.key r))
              (λ e. apart T (up (T.key r)) k
              (T.before_later (up (T.key r)) (T.key r) k (earlier (T.key r)) first) (sym e)) in
              let old = so_far.right r before in
              omega arith
          | inr own ↦ elim (member_cases row [] r own) [
            | inr none ↦ absurd (no_member r none)
            | inl e ↦ subst (λ s. ranks_of T new (T.key s) + ranks_of T new (up (T.key s)) ≡ T.rank s) e
                (let up_is = elsewhere (up k) (λ e. apart T (up k) k (earlier k) (sym e)) in omega arith)
          ]
        ];
        same = λ q h r inside. elim (Contains-append_cases done (row ∷ []) r inside) [
          | inl before ↦
              so_far.same q h r before
              ∙ sym (elsewhere (T.key r) (λ e. apart T (T.key r) k (before_row r before) (sym e)))
          | inr own ↦ elim (member_cases row [] r own) [
            | inr none ↦ absurd (no_member r none)
            | inl e ↦ subst (λ s. ranks_of T q (T.key s) ≡ ranks_of T new (T.key s)) e
                (let sum = rest_of_rank q h in omega arith)
          ]
        ];
      }

      -- the candidate has nothing here so far
      here_none : ranks_of T c k ≡ 0
      here_none = so_far.under k done_none

      -- nothing is left of the rank: no row is added
      pub candidate_kept : T.rank row ≡ ranks_of T c (up k) → IsCandidateFor T up rows (done ++ row ∷ []) c
      candidate_kept e =
          let none = here_none in
          looked_at c so_far.positive_so_far (omega arith) (omega arith) (λ l other. refl)

      -- the rows of the candidate come before this one
      candidate_before : (r : R) → Contains c r → T.before (T.key r) k ≡ true
      candidate_before r inside = elim (cases_lt 0 (ranks_of T done (T.key r))) [
        | inl some ↦
            let t = row_found T done (T.key r) some in
            subst (λ l. T.before l k ≡ true) t.2 (before_row t.0 t.1)
        | inr none ↦
            let gone = so_far.under (T.key r) (omega arith) in
            let some = ranks_of-member T c r so_far.positive_so_far inside in
            absurd (omega arith)
      ]

      -- the row with the rest of its rank is added
      pub candidate_pushed : (new : R) → T.key new ≡ k → T.rank new ≡ T.rank row - ranks_of T c (up k)
          → ranks_of T c (up k) < T.rank row → IsCandidateFor T up rows (done ++ row ∷ []) (c ++ new ∷ [])
      candidate_pushed new at rest_is less =
          let none = here_none in
          looked_at (c ++ new ∷ [])
          (record {
            ordered = pairs_append comes c (new ∷ []) so_far.positive_so_far.ordered
                (pairs_cons comes new [] (λ r inside. absurd (no_member r inside)) (λ i j d l m. absurd (omega arith)))
                (λ p q in_c in_new. elim (member_cases new [] q in_new) [
                  | inr gone ↦ absurd (no_member q gone)
                  | inl e ↦ subst (λ r. comes p r) e (ap (λ l. T.before (T.key p) l) at ∙ candidate_before p in_c)
                ]);
            positive = All-push (λ r. 1 ≤ T.rank r) c new so_far.positive_so_far.positive (omega arith);
          })
          (omega arith)
          (let split = ranks_of-push c new k in let own = part_at-here T new k at in omega arith)
          (λ l other. let split = ranks_of-push c new l in
          let away = part_at-elsewhere T new l (λ e. other (sym at ∙ e)) in omega arith)

    -- ---- at the end
    module _ (c : List R) (all : IsCandidateFor T up rows rows c) where
      -- if each of its rows has a row of the table one step down, it is the quotient
      pub candidate_is : ((r : R) → Contains c r → 0 < ranks_of T rows (step.down (T.key r)))
          → IsQuotientOf T (up ∷ []) rows c
      candidate_is downs = record {
        positive = all.positive_so_far;
        product = λ k. elim (cases_lt 0 (ranks_of T rows k)) [
          | inl some ↦
              let t = row_found T rows k some in
              subst (λ l. ranks_of T rows l ≡ ranks_of T c l + ranks_of T c (up l)) t.2
              (ranks_of-row rows t.0 positive.ordered t.1 ∙ sym (all.right t.0 t.1))
          | inr none ↦
              let here = all.under k (omega arith) in
              let over : ranks_of T c (up k) ≡ 0 = elim (cases_lt 0 (ranks_of T c (up k))) [
                | inl some ↦
                    let t = row_found T c (up k) some in
                    let under = downs t.0 t.1 in
                    let back = ap (λ l. ranks_of T rows (step.down l)) t.2 ∙ ap (ranks_of T rows) (step.back k) in
                    absurd (omega arith)
                | inr gone ↦ omega arith
              ] in
              omega arith
        ];
      }

      -- if one has none, there is no quotient
      pub candidate_is_not : (r : R) → Contains c r → ranks_of T rows (step.down (T.key r)) ≡ 0 → (q : List R)
          → IsQuotientOf T (up ∷ []) rows q → ⊥
      candidate_is_not r inside none q h =
          let own = ranks_of-member T c r all.positive_so_far inside in
          elim (cases_lt 0 (ranks_of T rows (T.key r))) [
            | inl some ↦
                let t = row_found T rows (T.key r) some in
                let same : ranks_of T q (T.key r) ≡ ranks_of T c (T.key r) =
                subst (λ l. ranks_of T q l ≡ ranks_of T c l) t.2 (all.same q h t.0 t.1) in
                let product = h.product (step.down (T.key r)) in
                let forth = ap (ranks_of T q) (step.forth (T.key r)) in
                absurd (omega arith)
            | inr gone ↦ let none_there = all.under (T.key r) (omega arith) in absurd (omega arith)
          ]
