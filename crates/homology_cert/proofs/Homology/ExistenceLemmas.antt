-- Each grid has a table.
-- Route: each bidegree has a rank. All degrees of states lie between two bounds; the rows of the table are those of all
-- bidegrees between them whose rank is above 0, Alexander degrees descending, and at each of them Maslov degrees.
use Rattle.std.proofs.Common.{◌≡◌, ℕ, zero, suc, ◌+◌, ◌-◌, ◌<◌, ◌≤◌, ℤ, pos, negsuc, neg_ℤ, ◌-ℤ◌, ◌≤ℤ◌, true, false, eqb, List, [], ◌∷◌, map, ◌⊎◌, inl, inr, sym, ap, subst, ◌∙◌, arith}
use Rattle.std.specs.Prelude.{◌<ℤ◌, int_lt}
use Rattle.std.specs.List.{Contains, AllPairs, flat_map}
use Rattle.std.proofs.lemmas.Bool.{cases_Bool, eqb-true}
use Rattle.std.proofs.lemmas.Int.{ints}
use Rattle.state_rank.specs.Bijection.{ascending}
use Rattle.state_rank.specs.States.{factorial, unrank}
use Rattle.state_rank.proofs.MemberLemmas.{no_member, member_head, member_cases, Contains-map, Contains-flat_map, member_of_flat_map, pairs_map, pairs_flat_map}
use Rattle.state_rank.proofs.OrderLemmas.{Contains-ascending, ascending_rises}
use Rattle.torus_geom.specs.Marks.{Marks, size, IsGrid}
use Rattle.torus_geom.specs.Degrees.{maslov_o, alexander}
use Rattle.torus_geom.specs.Inner.CodeHomology.{IsHomologyRank, IsHomologyTable}
use Rattle.f2_algebra.specs.Bigraded.{StandsBefore}
use Rattle.torus_geom.specs.Homology.{Row}
use Rattle.homology_cert.proofs.Homology.SliceRanks.{one_homology_rank}
use Rattle.homology_cert.proofs.Homology.TableLemmas.{no_homology}
use Rattle.homology_cert.proofs.Homology.LawLemmas.{some_homology_rank}

-- ---- bounds
abbrev pub IsBetween : ℕ → ℤ → Type 0
IsBetween b z = (neg_ℤ (pos b) ≤ℤ z) × (z ≤ℤ pos b)

between-wider : (b c : ℕ) (z : ℤ) → b ≤ c → IsBetween b z → IsBetween c z
between-wider b c z wider h = (omega (arith, ints, wider, h.0), omega (arith, ints, wider, h.1))

own_bound : (z : ℤ) → (b : ℕ) × IsBetween b z
own_bound (pos k) = (k, (omega (arith, ints), omega (arith, ints)))
own_bound (negsuc k) = (suc k, (omega (arith, ints), omega (arith, ints)))

bound_below : (n : ℕ) (f : ℕ → ℤ) → (b : ℕ) × ((s : ℕ) → s < n → IsBetween b (f s))
bound_below zero f = (0, λ s below. absurd (omega (arith, below)))
bound_below (suc n) f =
    let before = bound_below n f in
    let last = own_bound (f n) in (
      before.0 + last.0,
      λ s below. elim (cases_Bool (eqb s n)) [
        | inl is ↦
            subst (λ k. IsBetween (before.0 + last.0) (f k)) (sym (eqb-true s n is))
            (between-wider last.0 (before.0 + last.0) (f n) (omega arith) last.1)
        | inr is_not ↦
            between-wider before.0 (before.0 + last.0) (f s) (omega arith) (before.1 s (below-other s n below is_not))
      ],
    )
  where
    below-other : (s n : ℕ) → s < suc n → eqb s n ≡ false → s < n
    below-other s n below is_not = grind arith

not_high : (b : ℕ) (z : ℤ) → int_lt (pos b) z ≡ false → z ≤ℤ pos b
not_high b z h = grind (arith, ints)

too_high : (b : ℕ) (z : ℤ) → int_lt (pos b) z ≡ true → IsBetween b z → ⊥
too_high b z h within = let high = within.1 in grind (arith, ints)

not_low : (b : ℕ) (z : ℤ) → int_lt z (neg_ℤ (pos b)) ≡ false → neg_ℤ (pos b) ≤ℤ z
not_low b z h = grind (arith, ints)

too_low : (b : ℕ) (z : ℤ) → int_lt z (neg_ℤ (pos b)) ≡ true → IsBetween b z → ⊥
too_low b z h within = let low = within.0 in grind (arith, ints)

between_or_not : (b : ℕ) (z : ℤ) → IsBetween b z ⊎ (IsBetween b z → ⊥)
between_or_not b z = elim (cases_Bool (int_lt (pos b) z)) [
  | inl h ↦ inr (too_high b z h)
  | inr h ↦ elim (cases_Bool (int_lt z (neg_ℤ (pos b)))) [
    | inl k ↦ inr (too_low b z k)
    | inr k ↦ inl (not_low b z k, not_high b z h)
  ]
]

-- ---- the numbers between the bounds, the greatest first
pub window : ℕ → List ℤ
window b = map (λ k. pos b -ℤ pos k) (ascending (b + b + 1))

pub window-falls : (b : ℕ) → AllPairs (λ x y. y <ℤ x) (window b)
unfolding window
window-falls b =
    pairs_map (λ (i j : ℕ). i < j) (λ x y. y <ℤ x) (λ k. pos b -ℤ pos k) (ascending (b + b + 1))
    (λ i j less. omega (arith, ints, less)) (ascending_rises (b + b + 1))

place_in : (b : ℕ) (z : ℤ) → IsBetween b z → (k : ℕ) × (k < b + b + 1) × (pos b -ℤ pos k ≡ z)
place_in b (pos k) within = let high = within.1 in (b - k, omega (arith, ints, high), omega (arith, ints, high))
place_in b (negsuc k) within = let low = within.0 in (b + suc k, omega (arith, ints, low), omega (arith, ints, low))

pub Contains-window : (b : ℕ) (z : ℤ) → IsBetween b z → Contains (window b) z
unfolding window
Contains-window b z within =
    let place = place_in b z within in
    subst (Contains (map (λ k. pos b -ℤ pos k) (ascending (b + b + 1)))) place.2
    (Contains-map (λ k. pos b -ℤ pos k) (ascending (b + b + 1)) place.0
    (Contains-ascending (b + b + 1) place.0 place.1))

-- ---- the rows
-- the row of a bidegree with this rank, if that is above 0
row_of : ℤ → ℤ → ℕ → List Row
row_of m a zero = []
row_of m a (suc d) = (m, a, suc d) ∷ []

row_of-pairs : (m a : ℤ) (d : ℕ) → AllPairs (λ (p q : Row). StandsBefore (p.0, p.1) (q.0, q.1)) (row_of m a d)
unfolding row_of
row_of-pairs m a zero = λ i j e l k. absurd (omega (arith, k))
row_of-pairs m a (suc d) = λ i j e l k. absurd (omega (arith, l, k))

member_of_row : (m a : ℤ) (d : ℕ) (row : Row) → Contains (row_of m a d) row → (0 < d) × ((m, a, d) ≡ row)
unfolding row_of
member_of_row m a zero row inside = absurd (no_member row inside)
member_of_row m a (suc d) row inside = elim (member_cases (m, a, suc d) [] row inside) [
  | inl same ↦ (omega arith, same)
  | inr later ↦ absurd (no_member row later)
]

Contains-row_of : (m a : ℤ) (d : ℕ) → 0 < d → Contains (row_of m a d) (m, a, d)
unfolding row_of
Contains-row_of m a zero positive = absurd (omega (arith, positive))
Contains-row_of m a (suc d) positive = member_head (m, a, suc d) []

module _ (g : Marks) (grid : IsGrid g) (b : ℕ) where
  rank_of : ℤ → ℤ → ℕ
  rank_of m a = (some_homology_rank g grid m a).0

  rows_at : ℤ → List Row
  rows_at a = flat_map (λ m. row_of m a (rank_of m a)) (window b)

  all_rows : List Row
  all_rows = flat_map rows_at (window b)

  member_of_rows_at : (a : ℤ) (row : Row) → Contains (rows_at a) row
      → (m : ℤ) × (0 < rank_of m a) × ((m, a, rank_of m a) ≡ row)
  unfolding rows_at
  member_of_rows_at a row inside =
      let found = member_of_flat_map (λ m. row_of m a (rank_of m a)) (window b) row inside in
      let told = member_of_row found.0 a (rank_of found.0 a) row found.2 in
      (found.0, told.0, told.1)

  rows_at-ordered : (a : ℤ) → AllPairs (λ (p q : Row). StandsBefore (p.0, p.1) (q.0, q.1)) (rows_at a)
  unfolding rows_at
  rows_at-ordered a =
      pairs_flat_map (λ x y. y <ℤ x) (λ (p q : Row). StandsBefore (p.0, p.1) (q.0, q.1))
      (λ m. row_of m a (rank_of m a)) (window b) (window-falls b)
      (λ m inside. row_of-pairs m a (rank_of m a))
      (λ m n less p q in_m in_n.
      let at_m = (member_of_row m a (rank_of m a) p in_m).1 in
      let at_n = (member_of_row n a (rank_of n a) q in_n).1 in
      inr (
        ap (λ r. r.1) (sym at_n) ∙ ap (λ r. r.1) at_m,
        subst (λ x. q.0 <ℤ x) (ap (λ r. r.0) at_m) (subst (λ x. x <ℤ m) (ap (λ r. r.0) at_n) less),
      ))

  all_rows-ordered : AllPairs (λ (p q : Row). StandsBefore (p.0, p.1) (q.0, q.1)) all_rows
  unfolding all_rows
  all_rows-ordered =
      pairs_flat_map (λ x y. y <ℤ x) (λ (p q : Row). StandsBefore (p.0, p.1) (q.0, q.1)) rows_at (window b)
      (window-falls b)
      (λ a inside. rows_at-ordered a)
      (λ a c less p q in_a in_c.
      let at_a = (member_of_rows_at a p in_a).2 in
      let at_c = (member_of_rows_at c q in_c).2 in
      inl (subst (λ x. q.1 <ℤ x) (ap (λ r. r.1) at_a) (subst (λ x. x <ℤ a) (ap (λ r. r.1) at_c) less)))

  -- each row has its rank
  row-holds : (m a : ℤ) (d : ℕ) → Contains all_rows (m, a, d) → (0 < d) × IsHomologyRank g m a d
  unfolding all_rows rank_of
  row-holds m a d inside =
      let column = member_of_flat_map rows_at (window b) (m, a, d) inside in
      let row = member_of_rows_at column.0 (m, a, d) column.2 in
      let rank = (some_homology_rank g grid row.0 column.0).1 in (
        subst (λ r. 0 < r.2) row.2 row.1,
        subst (λ r. IsHomologyRank g r.0 r.1 r.2) row.2 rank,
      )

  -- if the degrees of all states lie between the bounds, each bidegree with a rank above 0 has its row
  row-found : (m a : ℤ) (d : ℕ) → IsBetween b m → IsBetween b a → 0 < d → IsHomologyRank g m a d
      → Contains all_rows (m, a, d)
  unfolding all_rows rows_at rank_of
  row-found m a d in_m in_a positive held =
      let rank = some_homology_rank g grid m a in
      let same = one_homology_rank g m a rank.0 d rank.1 held in
      let row =
      subst (λ e. Contains (row_of m a rank.0) (m, a, e)) same
      (Contains-row_of m a rank.0 (subst (λ e. 0 < e) (sym same) positive)) in
      Contains-flat_map rows_at (window b) a (m, a, d) (Contains-window b a in_a)
      (Contains-flat_map (λ n. row_of n a (rank_of n a)) (window b) m (m, a, d) (Contains-window b m in_m) row)

pub exists_homology_table : (g : Marks) → IsGrid g → (rows : List Row) × IsHomologyTable g rows
exists_homology_table g grid =
    let n = factorial (size g) in
    let maslov = bound_below n (λ s. maslov_o g (unrank (size g) s)) in
    let alexander = bound_below n (λ s. alexander g (unrank (size g) s)) in
    let b = maslov.0 + alexander.0 in
    let in_maslov : (m a : ℤ) (d : ℕ) → 0 < d → IsHomologyRank g m a d → IsBetween b m =
    λ m a d positive held. elim (between_or_not b m) [
      | inl is ↦ is
      | inr is_not ↦
          absurd (no_homology g (record { m = m; a = a; rank = d })
          (λ s below e. is_not (subst (IsBetween b) (ap (λ p. p.0) e)
          (between-wider maslov.0 b _ (omega arith) (maslov.1 s below))))
          (record { positive = positive; rank = held }))
    ] in
    let in_alexander : (m a : ℤ) (d : ℕ) → 0 < d → IsHomologyRank g m a d → IsBetween b a =
    λ m a d positive held. elim (between_or_not b a) [
      | inl is ↦ is
      | inr is_not ↦
          absurd (no_homology g (record { m = m; a = a; rank = d })
          (λ s below e. is_not (subst (IsBetween b) (ap (λ p. p.1) e)
          (between-wider alexander.0 b _ (omega arith) (alexander.1 s below))))
          (record { positive = positive; rank = held }))
    ] in (
      all_rows g grid b,
      record {
        ordered = all_rows-ordered g grid b;
        complete = λ m a d. (
          row-holds g grid b m a d,
          λ told. row-found g grid b m a d (in_maslov m a d told.0 told.1)
              (in_alexander m a d told.0 told.1) told.0 told.1,
        );
      },
    )
