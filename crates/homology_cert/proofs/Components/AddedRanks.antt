-- The ranks by component add up to the ranks by Alexander degree.
-- Route: a log of the slice that leaves no arrow counts both; each cell that it leaves has the degrees of one row.
use Rattle.std.proofs.Common.{◌≡◌, ◌≢◌, ℕ, ◌+◌, ◌<◌, ℤ, pos, Bool, true, false, ◌&&◌, cond, if◌then◌else◌, List, [], ◌∷◌, length, AllPairs, Contains, Some, is_some, inl, inr, refl, sym, ap, subst, ◌∙◌, arith}
use Rattle.std.specs.Prelude.{◌*ℤ◌}
use Rattle.std.specs.List.{filter, sum_by}
use Rattle.std.specs.Ordering.{int_eq}
use Rattle.std.proofs.lemmas.Bool.{cases_Bool, eqb-true, false≢true, and_parts, and_from}
use Rattle.std.proofs.lemmas.Bool.Decides.{Decides-int_eq}
use Rattle.std.proofs.lemmas.List.Sums.{sum_by-cons}
use Rattle.f2_algebra.specs.Chain.{codes, of_codes, holds, nothing}
use Rattle.f2_algebra.specs.Complex.{Complex, IsComplex}
use Rattle.f2_algebra.specs.Cancel.{Entry, IsLog, after}
use Rattle.f2_algebra.specs.Bigraded.{at_alexander}
use Rattle.f2_algebra.specs.Certificate.{IsAllCells}
use Rattle.f2_algebra.proofs.Chains.Cardinality.{cardinality-length, cardinality-of_codes}
use Rattle.f2_algebra.proofs.Chains.Sets.{any, any-filter, IsApart, holds-of_codes}
use Rattle.f2_algebra.proofs.Ranks.Existence.{Reduced, reduce}
use Rattle.f2_algebra.proofs.Ranks.RankLemmas.{rank_of_log}
use Rattle.f2_algebra.proofs.Ranks.Bigraded.{at_alexander_IsComplex, rank_at_alexander}
use Rattle.f2_algebra.proofs.Certificates.Verdict.{value_of}
use Rattle.f2_algebra.proofs.Cancelling.Cancellation.{same_some}
use Rattle.state_rank.specs.States.{factorial, unrank}
use Rattle.state_rank.proofs.RankLemmas.{IsBijection-unrank}
use Rattle.state_rank.proofs.MemberLemmas.{count, member_cases, member_head, member_tail, no_member, pairs_head, pairs_tail}
use Rattle.torus_geom.specs.Degrees.{maslov_o, alexander}
use Rattle.torus_geom.specs.Inner.GridComplex.{grid_complex}
use Rattle.torus_geom.specs.Inner.CodeHomology.{IsHomologyRank}
use Rattle.torus_geom.specs.Marks.{Marks, size, IsGrid}
use Rattle.std.proofs.lemmas.Map.Views.{Contains-from_any}
use Rattle.state_rank.proofs.OrderLemmas.{member_of_ascending, ascending_rises}
use Rattle.cancel.proofs.ListLemmas.{any-Contains}
use Rattle.cancel.proofs.MapLemmas.{IsApart-pairs}
use Rattle.rectangles.proofs.Law.GridComplexLemmas.{grid_complex_rules}
use Rattle.multi_degree.specs.ComponentDegrees.{component_degrees, total_degree}
use Rattle.homology_cert.specs.ComponentHomology.{ComponentRow, added_rank}
use Rattle.homology_cert.specs.Inner.CodeComponents.{multidegree, IsComponentRank, IsComponentTable}
use Rattle.state_rank.specs.Bijection.{ascending}
use Rattle.rectangles.proofs.Homology.GridCells.{any-ascending}
use Rattle.homology_cert.proofs.Components.LeftCells.{left-state}
use Rattle.hat_division.specs.DegreeLists.{stands_before_by_component}
use Rattle.multi_degree.proofs.DegreeLaws.{total_degree-component_degrees}
use Rattle.hat_division.proofs.Multi.DegreeListLemmas.{same_multidegree, same_multidegree-is, multidegree_before-itself}
use Rattle.homology_cert.proofs.Components.ComponentRanks.{IsApart-filter, one_component_rank, component_rank_counted}
use Rattle.homology_cert.proofs.Components.ComponentTables.{RowStandsBefore}
use Rattle.homology_cert.proofs.Components.CountedCells.{some_count}
use Rattle.homology_cert.proofs.Homology.SliceRanks.{IsReduction, slice-below, left-slice}

-- ---- sums over lists
sum_by-members : {X : Type 0} (f h : X → ℕ) (xs : List X) → ((x : X) → Contains xs x → f x ≡ h x)
    → sum_by f xs ≡ sum_by h xs
sum_by-members f h [] same = refl
sum_by-members f h (x ∷ xs) same =
    sum_by-cons f x xs
    ∙ (λ i. same x (member_head x xs) i + sum_by-members f h xs (λ y inside. same y (member_tail x xs y inside)) i)
    ∙ sym (sum_by-cons h x xs)

sum_by-zero : {X : Type 0} (f : X → ℕ) (xs : List X) → ((x : X) → Contains xs x → f x ≡ 0) → sum_by f xs ≡ 0
sum_by-zero f [] none = refl
sum_by-zero f (x ∷ xs) none =
    let split = sum_by-cons f x xs in
    let own = none x (member_head x xs) in
    let rest = sum_by-zero f xs (λ y inside. none y (member_tail x xs y inside)) in
    omega arith

sum_by-add : {X : Type 0} (f h : X → ℕ) (xs : List X) → sum_by (λ x. f x + h x) xs ≡ sum_by f xs + sum_by h xs
sum_by-add f h [] = omega arith
sum_by-add f h (x ∷ xs) =
    let both = sum_by-cons (λ y. f y + h y) x xs in
    let first = sum_by-cons f x xs in
    let second = sum_by-cons h x xs in
    let rest = sum_by-add f h xs in
    omega arith

-- one element passes, and no other
module _ {X : Type 0} (R : X → X → Type 0) (p : X → Bool) (x : X)
    (apart : (y : X) → p y ≡ true → (R x y → ⊥) × (R y x → ⊥)) (passes : p x ≡ true) where
  one_passes : (xs : List X) → AllPairs R xs → Contains xs x → sum_by (λ y. if p y then 1 else 0) xs ≡ 1
  one_passes [] ordered inside = absurd (no_member x inside)
  one_passes (y ∷ xs) ordered inside = elim (member_cases y xs x inside) [
    | inl e ↦
        let none = sum_by-zero (λ z. if p z then 1 else 0) xs (λ z later.
        not_one (p z) (λ h. (apart z h).0 (subst (λ t. R t z) e (pairs_head R y xs ordered z later)))) in
        let own : ◌≡◌ {A = ℕ} (if p y then 1 else 0) 1 = is_one (p y) (ap p e ∙ passes) in
        let split = sum_by-cons (λ z. if p z then 1 else 0) y xs in
        omega arith
    | inr later ↦
        let none : ◌≡◌ {A = ℕ} (if p y then 1 else 0) 0 =
        not_one (p y) (λ h. (apart y h).1 (pairs_head R y xs ordered x later)) in
        let rest = one_passes xs (pairs_tail R y xs ordered) later in
        let split = sum_by-cons (λ z. if p z then 1 else 0) y xs in
        omega arith
  ]
    where
      is_one : (b : Bool) → b ≡ true → ◌≡◌ {A = ℕ} (if b then 1 else 0) 1
      is_one true h = refl
      is_one false h = absurd (false≢true h)

      not_one : (b : Bool) → (b ≡ true → ⊥) → ◌≡◌ {A = ℕ} (if b then 1 else 0) 0
      not_one true h = absurd (h refl)
      not_one false h = refl

-- ---- what is counted by one test is counted by the tests of all rows, if each member passes one
module _ {X : Type 0} (at : X → Bool) (test : X → ℕ → Bool) (pass : ℕ → Bool) (rows : List X) where
  abbrev one_here : ℕ → X → ℕ
  one_here s r = if at r && test r s then 1 else 0

  more : (p : ℕ → Bool) (s : ℕ) (xs : List ℕ) → count p (s ∷ xs) ≡ (if p s then 1 else 0) + count p xs
  more p s xs = by (p s)
    where
      by : (b : Bool) → length (cond b (s ∷ filter p xs) (filter p xs)) ≡ (if b then 1 else 0) + length (filter p xs)
      by true = omega arith
      by false = omega arith

  split : (s : ℕ) (xs : List ℕ) (r : X)
      → (if at r then count (test r) (s ∷ xs) else 0) ≡ one_here s r + (if at r then count (test r) xs else 0)
  split s xs r = by (at r) (test r s) (count (test r) (s ∷ xs)) (count (test r) xs) (more (test r) s xs)
    where
      by : (b c : Bool) (n k : ℕ) → n ≡ (if c then 1 else 0) + k
          → (if b then n else 0) ≡ (if b && c then 1 else 0) + (if b then k else 0)
      by true c n k e = e
      by false c n k e = omega arith

  counted_by_rows : (xs : List ℕ)
      → ((s : ℕ) → Contains xs s → sum_by (one_here s) rows ≡ (if pass s then 1 else 0))
      → sum_by (λ r. if at r then count (test r) xs else 0) rows ≡ count pass xs
  counted_by_rows [] one = sum_by-zero (λ r. if at r then count (test r) [] else 0) rows (λ r inside. none (at r))
    where
      none : (b : Bool) → ◌≡◌ {A = ℕ} (if b then 0 else 0) 0
      none true = refl
      none false = refl
  counted_by_rows (s ∷ xs) one =
      sum_by-members (λ r. if at r then count (test r) (s ∷ xs) else 0)
      (λ r. one_here s r + (if at r then count (test r) xs else 0)) rows (λ r inside. split s xs r)
      ∙ sum_by-add (one_here s) (λ r. if at r then count (test r) xs else 0) rows
      ∙ (λ i. one s (member_head s xs) i + counted_by_rows xs (λ t inside. one t (member_tail s xs t inside)) i)
      ∙ sym (more pass s xs)

-- ---- the codes below a number, each once
any-below : (n s : ℕ) → any s (ascending n) ≡ true → s < n
any-below n s h = member_of_ascending n s (Contains-from_any (λ a b. eqb-true a b) s (ascending n) h)

ascending-apart : (n : ℕ) → IsApart (ascending n)
ascending-apart n = IsApart-pairs (ascending n) (λ i j d l m. apart_by (ascending_rises n i j d l m))
  where
    apart_by : {r s : ℕ} → r < s → r ≢ s
    apart_by l e = omega arith

-- ---- the ranks
module _ (g : Marks) (grid : IsGrid g) (a : ℤ) where
  abbrev slice : Complex ℤ
  slice = at_alexander a (grid_complex g)

  rules : IsComplex slice
  rules = at_alexander_IsComplex a (grid_complex g) refl (grid_complex_rules g grid)

  abbrev all_codes : List ℕ
  all_codes = ascending (factorial (size g))

  some_reduction : Reduced slice
  some_reduction =
      reduce slice rules all_codes (λ s live. any-ascending (factorial (size g)) s (slice-below g a s live))

  module _ (log : List Entry) (stands : IsLog slice log) (bare : (s : ℕ) → (after slice log).targets s ≡ nothing) where
    reduction : IsReduction g a (after slice log) log
    reduction = record { stands = stands; is_after = refl; no_arrow = bare }

    abbrev is_left : ℕ → Bool
    is_left s = is_some ((after slice log).degree s)

    abbrev left_codes : List ℕ
    left_codes = filter is_left all_codes

    apart : IsApart left_codes
    apart = IsApart-filter is_left all_codes (ascending-apart (factorial (size g)))

    listed : (s : ℕ) → is_left s ≡ true → any s left_codes ≡ true
    listed s live =
        any-filter s is_left all_codes
        ∙ and_from (any s all_codes) (is_left s)
        (any-ascending (factorial (size g)) s
        (slice-below g a s (sym (ap is_some (left-slice g grid a (after slice log) log reduction s live)) ∙ live))) live

    -- a listed code is a state of the slice, with its degree
    told : (s : ℕ) → any s left_codes ≡ true
        → (s < factorial (size g)) × ((after slice log).degree s ≡ Some (maslov_o g (unrank (size g) s)))
        × (alexander g (unrank (size g) s) ≡ a)
    told s inside =
        let live = (and_parts (any s all_codes) (is_left s) (sym (any-filter s is_left all_codes) ∙ inside)).1 in
        let value = value_of ((after slice log).degree s) live in
        let state = left-state g grid a (after slice log) log reduction s value.0 value.1 in
        (state.0, value.1 ∙ ap Some (sym state.1), state.2)

    abbrev has_maslov : ℤ → ℕ → Bool
    has_maslov m s = int_eq (maslov_o g (unrank (size g) s)) m

    -- the rank by Alexander degree
    homology : (m : ℤ) → IsHomologyRank g m a (count (has_maslov m) left_codes)
    homology m =
        let cells = of_codes (filter (has_maslov m) left_codes) in
        let is : (s : ℕ) → holds cells s ≡ (any s left_codes && has_maslov m s) =
        λ s. holds-of_codes (filter (has_maslov m) left_codes) s ∙ any-filter s (has_maslov m) left_codes in
        let all : IsAllCells (after slice log) m cells = λ s. (
          λ h.
              let (inside, passes) = and_parts (any s left_codes) (has_maslov m s) (sym (is s) ∙ h) in
              (told s inside).1 ∙ ap Some ((Decides-int_eq (maslov_o g (unrank (size g) s)) m).0 passes),
          λ e.
              let inside = listed s (ap is_some e) in
              is s
              ∙ and_from (any s left_codes) (has_maslov m s) inside
              ((Decides-int_eq (maslov_o g (unrank (size g) s)) m).1
              (same_some (maslov_o g (unrank (size g) s)) m (sym (told s inside).1 ∙ e))),
        ) in
        subst (IsHomologyRank g m a)
        (sym (cardinality-length cells)
        ∙ cardinality-of_codes (filter (has_maslov m) left_codes) (IsApart-filter (has_maslov m) left_codes apart))
        ((rank_at_alexander a (grid_complex g) refl m (length (codes cells))).0
        (rank_of_log slice rules log stands bare m cells all))

    -- the rank by component
    abbrev has_degrees : ComponentRow → ℕ → Bool
    has_degrees r s = same_multidegree (multidegree g (unrank (size g) s)) (r.0, r.1)

    component : (r : ComponentRow) → total_degree r.1 ≡ pos 2 *ℤ a
        → IsComponentRank g r.0 r.1 (count (has_degrees r) left_codes)
    component r sum =
        component_rank_counted g grid a log stands bare r.0 r.1 sum left_codes apart listed (has_degrees r)
        (λ s inside. (
          λ h.
              let same = (same_multidegree-is (multidegree g (unrank (size g) s)) (r.0, r.1)).0 h in (
                (told s inside).1 ∙ ap Some (ap (λ (p : ℤ × List ℤ). p.0) same),
                ap (λ (p : ℤ × List ℤ). p.1) same,
              ),
          λ h.
              let first = same_some (maslov_o g (unrank (size g) s)) r.0 (sym (told s inside).1 ∙ h.0) in
              let second = h.1 in
              (same_multidegree-is (multidegree g (unrank (size g) s)) (r.0, r.1)).1 (λ i. (first i, second i)),
        ))

    module _ (rows : List ComponentRow) (table : IsComponentTable g rows) (m : ℤ) where
      abbrev is_at : ComponentRow → Bool
      is_at r = int_eq r.0 m && int_eq (total_degree r.1) (pos 2 *ℤ a)

      -- a listed code of this Maslov degree has the degrees of one row
      one_row : (s : ℕ) → Contains left_codes s → has_maslov m s ≡ true
          → sum_by (λ r. if is_at r && has_degrees r s then 1 else 0) rows ≡ 1
      one_row s inside passes =
          let x = unrank (size g) s in
          let there = any-Contains left_codes s inside in
          let state = told s there in
          let maslov = (Decides-int_eq (maslov_o g x) m).0 passes in
          let sum : total_degree (component_degrees g x) ≡ pos 2 *ℤ a =
          total_degree-component_degrees g grid x (IsBijection-unrank (size g) s state.0)
          ∙ ap (λ b. pos 2 *ℤ b) state.2 in
          let ds = component_degrees g x in
          let own : has_degrees (m, ds, 0) s ≡ true =
          (same_multidegree-is (multidegree g x) (m, ds)).1 (λ i. (maslov i, ds)) in
          let n = count (has_degrees (m, ds, 0)) left_codes in
          let some : 0 < n = some_count (has_degrees (m, ds, 0)) left_codes s inside own in
          let row : ComponentRow = (m, ds, n) in
          let stands_there : Contains rows row = (table.complete m ds n).1 (some, component (m, ds, 0) sum) in
          one_passes RowStandsBefore (λ r. is_at r && has_degrees r s) row
          (λ y h.
          let same : multidegree g x ≡ (y.0, y.1) =
          (same_multidegree-is (multidegree g x) (y.0, y.1)).0 (and_parts (is_at y) (has_degrees y s) h).1 in
          let key : (m, ds) ≡ (y.0, y.1) = (λ i. (sym maslov i, ds)) ∙ same in (
            λ before. false≢true (sym (multidegree_before-itself (m, ds))
                ∙ subst (λ p. stands_before_by_component (m, ds) p ≡ true) (sym key) before),
            λ before. false≢true (sym (multidegree_before-itself (m, ds))
                ∙ subst (λ p. stands_before_by_component p (m, ds) ≡ true) (sym key) before),
          ))
          (and_from (is_at row) (has_degrees row s)
          (and_from (int_eq m m) (int_eq (total_degree ds) (pos 2 *ℤ a)) ((Decides-int_eq m m).1 refl)
          ((Decides-int_eq (total_degree ds) (pos 2 *ℤ a)).1 sum)) own)
          rows table.ordered stands_there

      -- and of another, of none
      no_row : (s : ℕ) → has_maslov m s ≡ false → sum_by (λ r. if is_at r && has_degrees r s then 1 else 0) rows ≡ 0
      no_row s fails = sum_by-zero (λ r. if is_at r && has_degrees r s then 1 else 0) rows (λ r inside.
          none (is_at r && has_degrees r s) (λ h.
          let (here, same) = and_parts (is_at r) (has_degrees r s) h in
          let at_m =
          (Decides-int_eq r.0 m).0 (and_parts (int_eq r.0 m) (int_eq (total_degree r.1) (pos 2 *ℤ a)) here).0 in
          let key = (same_multidegree-is (multidegree g (unrank (size g) s)) (r.0, r.1)).0 same in
          false≢true (sym fails
          ∙ (Decides-int_eq (maslov_o g (unrank (size g) s)) m).1 (ap (λ (p : ℤ × List ℤ). p.0) key ∙ at_m))))
        where
          none : (b : Bool) → (b ≡ true → ⊥) → ◌≡◌ {A = ℕ} (if b then 1 else 0) 0
          none true h = absurd (h refl)
          none false h = refl

      each_once : (s : ℕ) → Contains left_codes s
          → sum_by (λ r. if is_at r && has_degrees r s then 1 else 0) rows ≡ (if has_maslov m s then 1 else 0)
      each_once s inside = elim (cases_Bool (has_maslov m s)) [
        | inl h ↦ one_row s inside h ∙ sym (yes (has_maslov m s) h)
        | inr h ↦ no_row s h ∙ sym (no (has_maslov m s) h)
      ]
        where
          yes : (b : Bool) → b ≡ true → ◌≡◌ {A = ℕ} (if b then 1 else 0) 1
          yes true h = refl
          yes false h = absurd (false≢true h)

          no : (b : Bool) → b ≡ false → ◌≡◌ {A = ℕ} (if b then 1 else 0) 0
          no true h = absurd (false≢true (sym h))
          no false h = refl

      -- the ranks of the rows are the numbers of listed codes
      ranks_counted : added_rank rows m a ≡ sum_by (λ r. if is_at r then count (has_degrees r) left_codes else 0) rows
      ranks_counted = sum_by-members (λ r. if is_at r then r.2 else 0)
          (λ r. if is_at r then count (has_degrees r) left_codes else 0) rows
          (λ r inside. elim (cases_Bool (is_at r)) [
            | inl h ↦
                let sum = (Decides-int_eq (total_degree r.1) (pos 2 *ℤ a)).0
                (and_parts (int_eq r.0 m) (int_eq (total_degree r.1) (pos 2 *ℤ a)) h).1 in
                let held = ((table.complete r.0 r.1 r.2).0 inside).1 in
                let same = one_component_rank g grid r.0 r.1 r.2 (count (has_degrees r) left_codes) held
                (component r sum) in
                ap (λ n. if is_at r then n else 0) same
            | inr h ↦
                (λ i. if h i then r.2 else 0) ∙ sym (λ i. if h i then count (has_degrees r) left_codes else 0)
          ])

      added : IsHomologyRank g m a (added_rank rows m a)
      added = subst (IsHomologyRank g m a)
          (sym (ranks_counted ∙ counted_by_rows is_at has_degrees (has_maslov m) rows left_codes
          each_once)) (homology m)

-- the rows of one Maslov degree whose degrees add up to twice a have the rank at a together
pub ranks_add_up : (g : Marks) → IsGrid g → (rows : List ComponentRow) → IsComponentTable g rows → (m a : ℤ)
    → IsHomologyRank g m a (added_rank rows m a)
ranks_add_up g grid rows table m a =
    let reduced = some_reduction g grid a in added g grid a reduced.0 reduced.1 reduced.2 rows table m
