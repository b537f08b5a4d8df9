-- The table of a grid: from the map of its ranks to rows in order. Each Alexander degree of a state is done
-- in turn; at the others no state stands, so each rank there is 0.
use Rattle.std.proofs.Common.{◌≡◌, ℕ, ◌<◌, ◌^◌, ℤ, pos, neg_ℤ, ◌≤ℤ◌, Bool, true, false, List, [], ◌∷◌, map, length, get_or, All, Contains, Some, None, ◌⊎◌, inl, inr, refl, sym, ap, subst, ◌∙◌, arith}
use Rattle.std.specs.Prelude.{◌<ℤ◌, int_lt}
use Rattle.std.specs.List.{AllByRecursion}
use Rattle.std.specs.List.Sorted.{IsStrictlySortedBy}
use Rattle.std.specs.Map.{lookup}
use Rattle.std.specs.Option.{unwrap_or, IfSome}
use Rattle.std.specs.Ordering.{int_cmp, int_eq, is_lt}
use Rattle.std.specs.declared.cmp.Ordering.TheVariants.{Less}
use Rattle.std.specs.BTreeMap as tree
use Rattle.std.specs.BTreeSet.{BTreeSet}
use Rattle.std.proofs.lemmas.Bool.{cases_Bool, false≢true, ltb-true}
use Rattle.std.proofs.lemmas.Bool.Decides.{Decides-int_eq}
use Rattle.std.proofs.lemmas.Cmp.{int_cmp_total, tied_itself}
use Rattle.std.proofs.lemmas.Int.{ints}
use Rattle.std.proofs.lemmas.List.{length-map, get_or-map}
use Rattle.std.proofs.lemmas.List.Elements.{All-nil, Contains-get_or}
use Rattle.std.proofs.lemmas.Map.Lookups.{exact_signed}
use Rattle.std.proofs.lemmas.Map.Views.{btree_set_contains_iff}
use Rattle.f2_algebra.specs.Chain.{Chain, holds, nothing, ◌⊕◌}
use Rattle.f2_algebra.specs.Complex.{Complex, IsRank}
use Rattle.f2_algebra.specs.Bigraded.{StandsBefore}
use Rattle.f2_algebra.proofs.Ranks.OrderLemmas.{Decides-stands_before}
use Rattle.f2_algebra.proofs.Cancelling.LogLemmas.{none_where}
use Rattle.f2_algebra.proofs.Ranks.RankLemmas.{degree-nothing}
use Rattle.f2_algebra.proofs.Cancelling.Cancellation.{border-nothing}
use Rattle.f2_algebra.proofs.Chains.Sets.{same_chain, holds-nothing}
use Rattle.f2_algebra.proofs.Chains.Sums.{add_self}
use Rattle.state_rank.specs.States.{factorial, unrank}
use Rattle.state_rank.proofs.MemberLemmas.{member_cases, member_tail, no_member}
use Rattle.torus_geom.specs.Marks.{Marks, size}
use Rattle.torus_geom.specs.Degrees.{alexander, bidegree}
use Rattle.torus_geom.specs.Inner.GridComplex.{grid_complex}
use Rattle.torus_geom.specs.Inner.CodeHomology.{IsHomologyRank, IsHomologyTable}
use Rattle.torus_geom.specs.Homology.{Row}
use Rattle.sparse_complex.specs.declared.slices.Cell.{Cell}
use Rattle.hat_division.specs.Table.{bidegree_of, homology_row, IsTable}
use Rattle.hat_division.specs.declared.tables.TableRow.{TableRow}
use Rattle.gradings.specs.Degrees.{IsSmallDegree}
use Rattle.rectangles.proofs.Homology.GradedStates.{value_if}
use Rattle.homology_cert.specs.Tables.{HasSmallDegrees}
use Rattle.gradings.specs.Degrees.{bidegree_cmp}
use Rattle.hat_division.specs.RankMaps.{bidegree_key, Ranks, rank_in}
use Rattle.homology_cert.specs.Inner.Ranks.{AreSmall, HasHomology, HasDegrees, HasRanks, AreCounted, IsTold, IsDone, AreRows}
use Rattle.homology_cert.proofs.Homology.CountLemmas.{told-counted, told-other}
use Rattle.homology_cert.proofs.Homology.SliceRanks.{one_homology_rank}
use Rattle.f2_algebra.proofs.Chains.Lists.{below-map}

-- ---- degrees that no state has
no_marks : (ps : List Bool) → length ps ≡ 0 → ps ≡ []
no_marks [] e = refl
no_marks (p ∷ ps) e = absurd (omega arith)

module _ {G : Type 0} (C : Complex G) (m : G) (none : (s : ℕ) → C.degree s ≡ Some m → ⊥) where
  no_chain : (z : Chain) → ((s : ℕ) → holds z s ≡ true → C.degree s ≡ Some m) → z ≡ nothing
  no_chain z of = same_chain z nothing (λ q. none_where (holds z q) (λ h. none q (of q h)) ∙ sym (holds-nothing q))

  -- in a degree with no cell the rank is 0
  pub rank-no_cell : IsRank C m 0
  rank-no_cell = (
    [],
    record {
      cycles = All-nil _;
      one_subset = λ z c.
          let empty = no_chain z c.0 in (
            [],
            (
              refl,
              (
                nothing,
                degree-nothing C (C.up m),
                border-nothing C ∙ sym (ap (λ y. y ⊕ nothing) empty ∙ add_self nothing),
              ),
            ),
            λ ps f. no_marks ps f.0,
          );
    },
    refl,
  )

-- a row of the table is at the degree of some state: it is at no degree that no state has
pub no_homology : (g : Marks) (row : TableRow)
    → ((s : ℕ) → s < factorial (size g) → bidegree g (unrank (size g) s) ≡ (row.m, row.a) → ⊥) → HasHomology g row → ⊥
no_homology g row none held =
    let empty : IsHomologyRank g row.m row.a 0 = rank-no_cell (grid_complex g) (row.m, row.a) (λ s e.
    let told = value_if _ (bidegree g (unrank (size g) s)) (row.m, row.a) e in
    none s (ltb-true s (factorial (size g)) told.0) told.1) in
    let zero_rank = one_homology_rank g row.m row.a row.rank 0 held.rank empty in
    let positive = held.positive in
    omega (arith, zero_rank, positive)

too_high : (d : ℤ) → int_lt (pos 1000) d ≡ true → IsSmallDegree d → ⊥
too_high d h s = let k = s.high in grind (arith, ints)

too_low : (d : ℤ) → int_lt d (neg_ℤ (pos 1000)) ≡ true → IsSmallDegree d → ⊥
too_low d h s = let k = s.low in grind (arith, ints)

not_low : (d : ℤ) → int_lt d (neg_ℤ (pos 1000)) ≡ false → neg_ℤ (pos 1000) ≤ℤ d
not_low d h = grind (arith, ints)

not_high : (d : ℤ) → int_lt (pos 1000) d ≡ false → d ≤ℤ pos 1000
not_high d h = grind (arith, ints)

-- a degree is small or not
small_or_not : (d : ℤ) → IsSmallDegree d ⊎ (IsSmallDegree d → ⊥)
small_or_not d = elim (cases_Bool (int_lt (pos 1000) d)) [
  | inl h ↦ inr (too_high d h)
  | inr h ↦ elim (cases_Bool (int_lt d (neg_ℤ (pos 1000)))) [
    | inl k ↦ inr (too_low d k)
    | inr k ↦ inl (record { low = not_low d k; high = not_high d h })
  ]
]

-- the degrees of a row of the table are small
pub small_degrees : (g : Marks) → AreSmall g → (row : TableRow) → HasHomology g row → HasSmallDegrees row
small_degrees g small row held = record {
  maslov = elim (small_or_not row.m) [
    | inl is ↦ is
    | inr is_not ↦
        absurd (no_homology g row (λ s l e. is_not (subst IsSmallDegree (ap (λ d. d.0) e) (small.maslov s l))) held)
  ];
  alexander = elim (small_or_not row.a) [
    | inl is ↦ is
    | inr is_not ↦
        absurd (no_homology g row (λ s l e. is_not (subst IsSmallDegree (ap (λ d. d.1) e)
        (small.alexander s l))) held)
  ];
}

-- ---- the Alexander degrees, one by one
-- before the first, the map has nothing, and the ranks at degrees that no state has are 0
pub done-none : (g : Marks) (degrees : BTreeSet ℤ) (ranks : Ranks) → tree.IsEmpty ranks
    → HasDegrees g (factorial (size g)) degrees → IsDone g degrees.keys ranks
done-none g degrees ranks empty has = record {
  done = λ a unseen. record {
    told = λ m. subst (IsHomologyRank g m a) (sym (nothing_at a m)) (rank-no_cell (grid_complex g) (m, a) (λ s e.
        let told = value_if _ (bidegree g (unrank (size g) s)) (m, a) e in
        unseen (seen a s (ltb-true s (factorial (size g)) told.0) (ap (λ (d : ℤ × ℤ). d.1) told.1))));
    small = λ m. subst (λ k. k < 2 ^ 32) (sym (nothing_at a m)) (omega arith);
  };
  fresh = λ a m waiting. no_value a m;
  positive = λ a m. subst (λ o. IfSome o (λ d. 0 < d)) (sym (no_value a m)) tt;
}
  where
    no_value : (a m : ℤ) → tree.get bidegree_cmp ranks (bidegree_key (m, a)) ≡ None
    no_value a m = ap (λ es. lookup (tree.is_at (bidegree_cmp (bidegree_key (m, a)))) es) empty

    nothing_at : (a m : ℤ) → rank_in ranks a m ≡ 0
    nothing_at a m = ap (λ o. unwrap_or o 0) (no_value a m)

    seen : (a : ℤ) (s : ℕ) → s < factorial (size g) → alexander g (unrank (size g) s) ≡ a → Contains degrees.keys a
    seen a s l e =
        subst (λ b. Contains degrees.keys b) e
        ((btree_set_contains_iff int_cmp_total exact_signed degrees (alexander g (unrank (size g) s))).0
        (has.found s l))

not_later : (a : ℤ) (left : List ℤ) → AllByRecursion (λ b. int_cmp a b ≡ Less) left → Contains left a → ⊥
not_later a [] h inside = no_member a inside
not_later a (b ∷ left) h inside = elim (member_cases b left a inside) [
  | inl is ↦
      false≢true (sym (ap is_lt (tied_itself int_cmp_total a)) ∙ ap (λ c. is_lt (int_cmp a c)) (sym is)
      ∙ ap is_lt h.0)
  | inr later ↦ not_later a left h.1 later
]

-- the degrees that are left, in order
abbrev pub AreLeft : Marks → List ℤ → Ranks → Type 0
AreLeft g left ranks = IsStrictlySortedBy int_cmp left × IsDone g left ranks

-- the next degree is done
pub done-next : (g : Marks) (a : ℤ) (left : List ℤ) (cells : List Cell) (old new : Ranks) → HasRanks g a cells
    → AreCounted a cells old new → AreLeft g (a ∷ left) old → AreLeft g left new
unfolding IsStrictlySortedBy
done-next g a left cells old new has counted so_far = (
  so_far.0.1,
  record {
    done = λ b gone. elim (same_or_not b) [
      | inl is ↦ subst (IsTold g new) (sym is) (told-counted g a cells old new has counted)
      | inr other ↦
          told-other g a b cells old new other counted
          (so_far.1.done b (λ inside. elim (member_cases a left b inside) [
            | inl is ↦ other (sym is)
            | inr later ↦ gone later
          ]))
    ];
    fresh = λ b m waiting.
        counted.others b m (λ is. not_later a left so_far.0.0 (subst (λ c. Contains left c) is waiting))
        ∙ so_far.1.fresh b m (member_tail a left b waiting);
    positive = counted.positive;
  },
)
  where
    same_or_not : (b : ℤ) → (b ≡ a) ⊎ (b ≡ a → ⊥)
    same_or_not b = elim (cases_Bool (int_eq b a)) [
      | inl h ↦ inl ((Decides-int_eq b a).0 h)
      | inr h ↦ inr (λ e. false≢true (sym h ∙ (Decides-int_eq b a).1 e))
    ]

-- ---- the order of integers
lt-from_test : (x y : ℤ) → int_lt x y ≡ true → x <ℤ y
lt-from_test x y h = grind (arith, ints)

eq-from_tests : (x y : ℤ) → int_lt x y ≡ false → int_lt y x ≡ false → x ≡ y
eq-from_tests x y h k = grind (arith, ints)

-- of two integers one is less, or they are the same
order_of : (x y : ℤ) → (x ≡ y) ⊎ ((x <ℤ y) ⊎ (y <ℤ x))
order_of x y = elim (cases_Bool (int_lt x y)) [
  | inl h ↦ inr (inl (lt-from_test x y h))
  | inr h ↦ elim (cases_Bool (int_lt y x)) [
    | inl k ↦ inr (inr (lt-from_test y x k))
    | inr k ↦ inl (eq-from_tests x y h k)
  ]
]

-- ---- the whole table
-- a row of three numbers
table_row : Row → TableRow
table_row r = record { m = r.0; a = r.1; rank = r.2 }

module _ (g : Marks) (small : AreSmall g) (rows : List TableRow) (all : AreRows g rows) where
  holds_homology : (k : ℕ) (d : TableRow) → k < length rows → HasHomology g (get_or rows k d)
  holds_homology k d l = (all.complete (get_or rows k d)).0 (Contains-get_or rows k d l)

  -- the rows are those of a table
  pub rows-homology_table : IsTable rows
  rows-homology_table = record {
    ordered = all.ordered;
    ranks = λ k d l.
        let positive = (holds_homology k d l).positive in
        let low_rank = all.ranks k d l in
        record { positive = omega (arith, positive); bounded = omega (arith, low_rank) };
  }

  -- their degrees are small
  pub rows-small : All HasSmallDegrees rows
  rows-small k d l = small_degrees g small (get_or rows k d) (holds_homology k d l)

  at_map : (k : ℕ) (r : Row) → k < length rows
      → get_or (map homology_row rows) k r ≡ homology_row (get_or rows k (table_row r))
  at_map k r l = get_or-map homology_row rows k (table_row r) r l

  shorter : (k : ℕ) → k < length (map homology_row rows) → k < length rows
  shorter k l = omega (arith, l, length-map rows homology_row)

  -- they are the homology table of the grid
  pub rows-homology : IsHomologyTable g (map homology_row rows)
  unfolding table_row
  rows-homology = record {
    ordered = λ i j d l within.
        let j_in = shorter j within in
        let i_in : i < length rows = omega (arith, l, j_in) in
        let before =
        (Decides-stands_before (bidegree_of (get_or rows i (table_row d)))
        (bidegree_of (get_or rows j (table_row d)))).0
        (all.ordered i j (table_row d) l j_in) in
        subst (λ (t : Row × Row). StandsBefore (t.0.0, t.0.1) (t.1.0, t.1.1))
        (λ k. (sym (at_map i d i_in) k, sym (at_map j d j_in) k)) before;
    complete = λ m a d. (
      λ inside.
          let k_in = shorter inside.0 inside.1 in
          let same : homology_row (get_or rows inside.0 (table_row (m, a, d))) ≡ (m, a, d) =
          sym (at_map inside.0 (m, a, d) k_in) ∙ inside.2 in
          let held = holds_homology inside.0 (table_row (m, a, d)) k_in in (
            subst (λ e. 0 < e) (ap (λ r. r.2) same) held.positive,
            subst (λ r. IsHomologyRank g r.0 r.1 r.2) same held.rank,
          ),
      λ told.
          let row = table_row (m, a, d) in
          let held : HasHomology g row = record { positive = told.0; rank = told.1 } in
          let inside = (all.complete row).1 held in (
            inside.0,
            below-map homology_row rows inside.0 inside.1,
            at_map inside.0 (m, a, d) inside.1
                ∙ ap homology_row inside.2,
          ),
    );
  }
