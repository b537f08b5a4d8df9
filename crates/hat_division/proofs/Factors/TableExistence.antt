-- If each key of a finite number has a rank, and all others have the rank 0, there is a list of rows in order with
-- these ranks.
use Rattle.std.proofs.Common.{◌≡◌, ◌⊎◌, ℕ, zero, suc, ◌<◌, ◌≤◌, true, List, [], ◌∷◌, Contains, IsTrue, inl, inr, refl, sym, ap, subst, ◌∙◌, arith}
use Rattle.std.proofs.lemmas.Bool.{cases_eq}
use Rattle.std.proofs.lemmas.List.Elements.{All-head, All-tail, All-cons, All-nil}
use Rattle.state_rank.proofs.MemberLemmas.{member_cases, member_head, member_tail, no_member, pairs_cons, pairs_head, pairs_tail}
use Rattle.hat_division.proofs.Factors.TableShapes.{TableShape, ranks_of, ArePositive, ranks_of-member, with_ranks, ArePositive-with_ranks, ranks_of-with_ranks}

module _ {R K : Type 0} (T : TableShape R K) where
  abbrev comes : R → R → Type 0
  comes p q = IsTrue (T.before (T.key p) (T.key q))

  -- ---- a row put in its place, unless one is at its key
  place : (r x : R) (xs rest : List R)
      → (T.before (T.key r) (T.key x) ≡ true) ⊎ ((T.before (T.key x) (T.key r) ≡ true) ⊎ (T.key r ≡ T.key x)) → List R
  place r x xs rest (inl h) = r ∷ x ∷ xs
  place r x xs rest (inr (inl h)) = x ∷ rest
  place r x xs rest (inr (inr h)) = x ∷ xs

  put : R → List R → List R
  put r [] = r ∷ []
  put r (x ∷ xs) = place r x xs (put r xs) (T.before_or (T.key r) (T.key x))

  member_of_put : (r : R) (xs : List R) (y : R) → Contains (put r xs) y → (r ≡ y) ⊎ Contains xs y
  unfolding put place
  member_of_put r [] y inside = elim (member_cases r [] y inside) [ inl e ↦ inl e | inr h ↦ inr h ]
  member_of_put r (x ∷ xs) y inside =
      by (T.before_or (T.key r) (T.key x)) (member_of_put r xs y) inside
    where
      by : (o : (T.before (T.key r) (T.key x) ≡ true) ⊎ ((T.before (T.key x) (T.key r) ≡ true) ⊎ (T.key r ≡ T.key x)))
          → (Contains (put r xs) y → (r ≡ y) ⊎ Contains xs y)
          → Contains (place r x xs (put r xs) o) y → (r ≡ y) ⊎ Contains (x ∷ xs) y
      by (inl h) later inside = elim (member_cases r (x ∷ xs) y inside) [ inl e ↦ inl e | inr k ↦ inr k ]
      by (inr (inl h)) later inside = elim (member_cases x (put r xs) y inside) [
        | inl e ↦ inr (subst (Contains (x ∷ xs)) e (member_head x xs))
        | inr k ↦ elim (later k) [ inl e ↦ inl e | inr m ↦ inr (member_tail x xs y m) ]
      ]
      by (inr (inr h)) later inside = inr inside

  put_keeps : (r : R) (xs : List R) (y : R) → Contains xs y → Contains (put r xs) y
  unfolding put place
  put_keeps r [] y inside = absurd (no_member y inside)
  put_keeps r (x ∷ xs) y inside = by (T.before_or (T.key r) (T.key x)) (put_keeps r xs y)
    where
      by : (o : (T.before (T.key r) (T.key x) ≡ true) ⊎ ((T.before (T.key x) (T.key r) ≡ true) ⊎ (T.key r ≡ T.key x)))
          → (Contains xs y → Contains (put r xs) y) → Contains (place r x xs (put r xs) o) y
      by (inl h) later = member_tail r (x ∷ xs) y inside
      by (inr (inl h)) later = elim (member_cases x xs y inside) [
        | inl e ↦ subst (Contains (x ∷ put r xs)) e (member_head x (put r xs))
        | inr k ↦ member_tail x (put r xs) y (later k)
      ]
      by (inr (inr h)) later = inside

  -- a row is at the key
  abbrev HasKey : List R → K → Type 0
  HasKey xs k = (y : R) × Contains xs y × (T.key y ≡ k)

  put_has : (r : R) (xs : List R) → HasKey (put r xs) (T.key r)
  unfolding put place
  put_has r [] = (r, member_head r [], refl)
  put_has r (x ∷ xs) = by (T.before_or (T.key r) (T.key x)) (put_has r xs)
    where
      by : (o : (T.before (T.key r) (T.key x) ≡ true) ⊎ ((T.before (T.key x) (T.key r) ≡ true) ⊎ (T.key r ≡ T.key x)))
          → HasKey (put r xs) (T.key r) → HasKey (place r x xs (put r xs) o) (T.key r)
      by (inl h) later = (r, member_head r (x ∷ xs), refl)
      by (inr (inl h)) later = (later.0, member_tail x (put r xs) later.0 later.1, later.2)
      by (inr (inr h)) later = (x, member_head x xs, sym h)

  put_positive : (r : R) (xs : List R) → 1 ≤ T.rank r → ArePositive T xs → ArePositive T (put r xs)
  unfolding put place
  put_positive r [] some h = record {
    ordered = pairs_cons comes r [] (λ y inside. absurd (no_member y inside)) h.ordered;
    positive = All-cons (λ row. 1 ≤ T.rank row) r [] some h.positive;
  }
  put_positive r (x ∷ xs) some h =
      by (T.before_or (T.key r) (T.key x)) (put_positive r xs some (record {
        ordered = pairs_tail comes x xs h.ordered;
        positive = All-tail (λ row. 1 ≤ T.rank row) x xs h.positive;
      }))
    where
      by : (o : (T.before (T.key r) (T.key x) ≡ true) ⊎ ((T.before (T.key x) (T.key r) ≡ true) ⊎ (T.key r ≡ T.key x)))
          → ArePositive T (put r xs) → ArePositive T (place r x xs (put r xs) o)
      by (inl before) later = record {
        ordered = pairs_cons comes r (x ∷ xs) (λ y inside. elim (member_cases x xs y inside) [
          | inl e ↦ subst (λ z. comes r z) e before
          | inr k ↦ T.before_later (T.key r) (T.key x) (T.key y) before (pairs_head comes x xs h.ordered y k)
        ]) h.ordered;
        positive = All-cons (λ row. 1 ≤ T.rank row) r (x ∷ xs) some h.positive;
      }
      by (inr (inl after)) later = record {
        ordered = pairs_cons comes x (put r xs) (λ y inside. elim (member_of_put r xs y inside) [
          | inl e ↦ subst (λ z. comes x z) e after
          | inr k ↦ pairs_head comes x xs h.ordered y k
        ]) later.ordered;
        positive = All-cons (λ row. 1 ≤ T.rank row) x (put r xs)
            (All-head (λ row. 1 ≤ T.rank row) x xs h.positive) later.positive;
      }
      by (inr (inr same)) later = h

  -- ---- rows at all keys of a finite number
  all_keys : (n : ℕ) (f : ℕ → K) → (xs : List R) × ArePositive T xs × ((s : ℕ) → s < n → HasKey xs (f s))
  all_keys zero f =
      ([], record { ordered = λ i j d l m. absurd (omega arith); positive = All-nil _ }, λ s l. absurd (omega arith))
  all_keys (suc n) f =
      let before = all_keys n f in
      let new = T.make (f n) 1 in
      let one = T.rank_made (f n) 1 in (
        put new before.0,
        put_positive new before.0 (omega arith) before.1,
        λ s l. elim (cases_eq s n) [
          | inl e ↦
              let has = put_has new before.0 in (has.0, has.1, has.2 ∙ T.key_made (f n) 1 ∙ ap f (sym e))
          | inr other ↦ let has = before.2 s (omega arith) in (has.0, put_keeps new before.0 has.0 has.1, has.2)
        ],
      )

  -- the table of ranks that are 0 at all other keys
  pub some_table : (n : ℕ) (f : ℕ → K) (r : K → ℕ) → ((k : K) → ((s : ℕ) → s < n → f s ≡ k → ⊥) → r k ≡ 0)
      → (xs : List R) × ArePositive T xs × ((k : K) → ranks_of T xs k ≡ r k)
  some_table n f r elsewhere =
      let keys = all_keys n f in (
        with_ranks T r keys.0,
        ArePositive-with_ranks T r keys.0 keys.1.ordered,
        ranks_of-with_ranks T r keys.0 keys.1 (λ k none. elsewhere k (λ s l e.
            let has = keys.2 s l in
            let some = ranks_of-member T keys.0 has.0 keys.1 has.1 in
            let at = ap (ranks_of T keys.0) (has.2 ∙ e) in
            omega arith)),
      )
