-- One more at a key: a row in order is put in its place, or the rank of the row at the key is raised by one.
use Rattle.std.proofs.Common.{◌≡◌, ◌⊎◌, ℕ, zero, suc, ◌+◌, ◌<◌, ◌≤◌, Bool, true, false, if◌then◌else◌, List, [], ◌∷◌, ◌++◌, length, get_or, take, drop, set, Contains, IsTrue, inl, inr, refl, sym, ap, subst, ◌∙◌, arith}
use Rattle.std.proofs.lemmas.Bool.{false≢true}
use Rattle.std.proofs.lemmas.List.{take-append-drop}
use Rattle.std.proofs.lemmas.List.Elements.{All-head, All-tail, All-cons, Contains-get_or, Contains-append_left, Contains-append_right, Contains-append_cases}
use Rattle.state_rank.proofs.MemberLemmas.{member_cases, member_head, member_tail, no_member, pairs_cons, pairs_head, pairs_tail}
use Rattle.hat_division.proofs.Factors.TableShapes.{TableShape, ranks_of, ranks_of-cons, part_at, part_at-here, part_at-elsewhere, key_or, ArePositive, ArePositive-tail}
use Rattle.hat_division.proofs.Factors.QuotientSteps.{ranks_of-append}

module _ {R K : Type 0} (T : TableShape R K) where
  abbrev comes : R → R → Type 0
  comes p q = IsTrue (T.before (T.key p) (T.key q))

  -- one at the key, none elsewhere
  abbrev pub one_at : K → K → ℕ
  one_at k l = if T.same k l then 1 else 0

  -- ---- a new row
  pub ranks_of-insert : (old : List R) (p : ℕ) (r : R) (l : K)
      → ranks_of T (take p old ++ r ∷ drop p old) l ≡ ranks_of T old l + part_at T r l
  ranks_of-insert old p r l =
      let first = ranks_of-append T (take p old) (r ∷ drop p old) l in
      let second = ranks_of-cons T r (drop p old) l in
      let whole = ap (λ xs. ranks_of T xs l) (sym (take-append-drop p old))
      ∙ ranks_of-append T (take p old) (drop p old) l in
      omega arith

  next_after : (r x : R) → T.before (T.key x) (T.key r) ≡ false → (T.key x ≡ T.key r → ⊥) → comes r x
  next_after r x not_before other = elim (T.before_or (T.key r) (T.key x)) [
    | inl h ↦ h
    | inr either ↦ elim either [
      | inl h ↦ absurd (false≢true (sym not_before ∙ h))
      | inr e ↦ absurd (other (sym e))
    ]
  ]

  in_list : (xs : List R) (p : ℕ) (r y : R) → Contains (take p xs ++ r ∷ drop p xs) y → (r ≡ y) ⊎ Contains xs y
  in_list xs p r y inside =
      elim (Contains-append_cases (take p xs) (r ∷ drop p xs) y inside) [
        | inl before ↦ inr (subst (λ l. Contains l y) (take-append-drop p xs)
            (Contains-append_left (take p xs) (drop p xs) y before))
        | inr later ↦ elim (member_cases r (drop p xs) y later) [
          | inl e ↦ inl e
          | inr after ↦ inr (subst (λ l. Contains l y) (take-append-drop p xs)
              (Contains-append_right (take p xs) (drop p xs) y after))
        ]
      ]

  pub ArePositive-insert : (old : List R) (p : ℕ) (r : R) → ArePositive T old → 1 ≤ T.rank r → p ≤ length old
      → ((k : ℕ) (d : R) → k < p → T.before (T.key (get_or old k d)) (T.key r) ≡ true)
      → ((d : R) → p < length old → T.before (T.key (get_or old p d)) (T.key r) ≡ false)
      → ((d : R) → p < length old → T.key (get_or old p d) ≡ T.key r → ⊥)
      → ArePositive T (take p old ++ r ∷ drop p old)
  ArePositive-insert [] zero r h some within before rest free = record {
    ordered = pairs_cons comes r [] (λ y inside. absurd (no_member y inside)) h.ordered;
    positive = All-cons (λ row. 1 ≤ T.rank row) r [] some h.positive;
  }
  ArePositive-insert [] (suc p) r h some within before rest free = absurd (omega arith)
  ArePositive-insert (x ∷ xs) zero r h some within before rest free =
      let first = next_after r x (rest x (omega arith)) (free x (omega arith)) in
      record {
        ordered = pairs_cons comes r (x ∷ xs) (λ y inside. elim (member_cases x xs y inside) [
          | inl e ↦ subst (λ z. comes r z) e first
          | inr later ↦ T.before_later (T.key r) (T.key x) (T.key y) first (pairs_head comes x xs h.ordered y later)
        ]) h.ordered;
        positive = All-cons (λ row. 1 ≤ T.rank row) r (x ∷ xs) some h.positive;
      }
  ArePositive-insert (x ∷ xs) (suc p) r h some within before rest free =
      let later = ArePositive-insert xs p r (ArePositive-tail T x xs h) some (omega arith)
      (λ k d l. before (suc k) d (omega arith)) (λ d l. rest d (omega arith)) (λ d l. free d (omega arith)) in
      record {
        ordered = pairs_cons comes x (take p xs ++ r ∷ drop p xs) (λ y inside. elim (in_list xs p r y inside) [
          | inl e ↦ subst (λ z. comes x z) e (before 0 x (omega arith))
          | inr old ↦ pairs_head comes x xs h.ordered y old
        ]) later.ordered;
        positive = All-cons (λ row. 1 ≤ T.rank row) x (take p xs ++ r ∷ drop p xs)
            (All-head (λ row. 1 ≤ T.rank row) x xs h.positive) later.positive;
      }

  -- ---- a rank raised by one
  raised_part : (x r : R) (l : K) → T.key r ≡ T.key x → T.rank r ≡ T.rank x + 1
      → part_at T r l ≡ part_at T x l + one_at (T.key r) l
  raised_part x r l at more = elim (key_or T r l) [
    | inl e ↦
        let new = part_at-here T r l e in
        let old = part_at-here T x l (sym at ∙ e) in
        let one : one_at (T.key r) l ≡ 1 = at_one (T.same (T.key r) l) ((T.same_is (T.key r) l).1 e) in
        omega arith
    | inr other ↦
        let new = part_at-elsewhere T r l other in
        let old = part_at-elsewhere T x l (λ e. other (at ∙ e)) in
        let none : one_at (T.key r) l ≡ 0 = none_at (T.same (T.key r) l) (λ h. other ((T.same_is (T.key r) l).0 h)) in
        omega arith
  ]
    where
      at_one : (b : Bool) → b ≡ true → ◌≡◌ {A = ℕ} (if b then 1 else 0) 1
      at_one true h = refl
      at_one false h = absurd (false≢true h)

      none_at : (b : Bool) → (b ≡ true → ⊥) → ◌≡◌ {A = ℕ} (if b then 1 else 0) 0
      none_at true h = absurd (h refl)
      none_at false h = refl

  pub ranks_of-raised : (old : List R) (p : ℕ) (r d : R) (l : K) → p < length old → T.key r ≡ T.key (get_or old p d)
      → T.rank r ≡ T.rank (get_or old p d) + 1 → ranks_of T (set old p r) l ≡ ranks_of T old l + one_at (T.key r) l
  ranks_of-raised [] p r d l within at more = absurd (omega arith)
  ranks_of-raised (x ∷ xs) zero r d l within at more =
      let new = ranks_of-cons T r xs l in
      let old = ranks_of-cons T x xs l in
      let part = raised_part x r l at more in
      omega arith
  ranks_of-raised (x ∷ xs) (suc p) r d l within at more =
      let later = ranks_of-raised xs p r d l (omega arith) at more in
      let new = ranks_of-cons T x (set xs p r) l in
      let old = ranks_of-cons T x xs l in
      omega arith

  member_of_set : (xs : List R) (p : ℕ) (r y : R) → Contains (set xs p r) y → (r ≡ y) ⊎ Contains xs y
  member_of_set [] p r y inside = inr inside
  member_of_set (x ∷ xs) zero r y inside = elim (member_cases r xs y inside) [
    | inl e ↦ inl e
    | inr later ↦ inr (member_tail x xs y later)
  ]
  member_of_set (x ∷ xs) (suc p) r y inside =
      let rest = member_of_set xs p r y in
      elim (member_cases x (set xs p r) y inside) [
        | inl e ↦ inr (subst (Contains (x ∷ xs)) e (member_head x xs))
        | inr later ↦ elim (rest later) [ inl e ↦ inl e | inr m ↦ inr (member_tail x xs y m) ]
      ]

  pub ArePositive-raised : (old : List R) (p : ℕ) (r d : R) → ArePositive T old → p < length old
      → T.key r ≡ T.key (get_or old p d) → 1 ≤ T.rank r → ArePositive T (set old p r)
  ArePositive-raised [] p r d h within at some = absurd (omega arith)
  ArePositive-raised (x ∷ xs) zero r d h within at some = record {
    ordered = pairs_cons comes r xs
        (λ y inside. ap (λ k. T.before k (T.key y)) at ∙ pairs_head comes x xs h.ordered y inside)
        (pairs_tail comes x xs h.ordered);
    positive = All-cons (λ row. 1 ≤ T.rank row) r xs some (All-tail (λ row. 1 ≤ T.rank row) x xs h.positive);
  }
  ArePositive-raised (x ∷ xs) (suc p) r d h within at some =
      let later = ArePositive-raised xs p r d (ArePositive-tail T x xs h) (omega arith) at some in
      record {
        ordered = pairs_cons comes x (set xs p r) (λ y inside. elim (member_of_set xs p r y inside) [
          | inl e ↦
              ap (λ z. T.before (T.key x) (T.key z)) (sym e) ∙ ap (T.before (T.key x)) at
              ∙ pairs_head comes x xs h.ordered (get_or xs p d) (Contains-get_or xs p d (omega arith))
          | inr old ↦ pairs_head comes x xs h.ordered y old
        ]) later.ordered;
        positive = All-cons (λ row. 1 ≤ T.rank row) x (set xs p r)
            (All-head (λ row. 1 ≤ T.rank row) x xs h.positive) later.positive;
      }
