-- Cells counted in rows, one after another.
use Rattle.std.proofs.Common.{◌≡◌, ℕ, ◌+◌, ◌<◌, ◌≤◌, ◌^◌, ℤ, Bool, true, false, cond, if◌then◌else◌, List, [], ◌∷◌, ◌++◌, length, get_or, All, Contains, inl, inr, refl, sym, ap, subst, ◌∙◌, arith}
use Rattle.std.proofs.lemmas.Bool.{cases_Bool, false≢true}
use Rattle.std.proofs.lemmas.List.Elements.{Contains-get_or}
use Rattle.state_rank.proofs.MemberLemmas.{count, count-yes, count-no, count-append, member_cases, member_head, member_tail, no_member}
use Rattle.gradings.specs.Degrees.{IsSmallDegree}
use Rattle.state_rank.specs.States.{unrank}
use Rattle.torus_geom.specs.Components.{components}
use Rattle.torus_geom.specs.Marks.{Marks, size}
use Rattle.sparse_complex.specs.declared.slices.Cell.{Cell}
use Rattle.multi_degree.specs.ComponentDegrees.{component_degrees}
use Rattle.hat_division.specs.MultiTable.{degrees_of, component_rank_at, ArePositive, IsCounted}
use Rattle.homology_cert.specs.Inner.Left.{cell_degrees, cell_count, IsCell, IsKey, AreCounted}
use Rattle.hat_division.specs.declared.multi_tables.MultiRow.{MultiRow}
use Rattle.hat_division.proofs.Multi.DegreeListLemmas.{same_multidegree, same_multidegree-is}
use Rattle.hat_division.proofs.Multi.DividedRows.{component_rank_at-row}

-- ---- how many cells have some degrees
count_one : {A : Type 0} (p : A → Bool) (x : A) → count p (x ∷ []) ≡ (if p x then 1 else 0)
count_one p x = by (p x)
  where
    by : (b : Bool) → length (cond b (x ∷ []) []) ≡ (if b then 1 else 0)
    by true = refl
    by false = refl

pub cell_count-push : (g : Marks) (k : ℤ × List ℤ) (xs : List Cell) (c : Cell)
    → cell_count g k (xs ++ c ∷ []) ≡ cell_count g k xs + (if same_multidegree (cell_degrees g c) k then 1 else 0)
cell_count-push g k xs c =
    count-append (λ x. same_multidegree (cell_degrees g x) k) xs (c ∷ [])
    ∙ ap (λ n. cell_count g k xs + n) (count_one (λ x. same_multidegree (cell_degrees g x) k) c)

-- no more than there are cells
count_at_most : {A : Type 0} (p : A → Bool) (xs : List A) → count p xs ≤ length xs
count_at_most p [] = omega arith
count_at_most p (x ∷ xs) =
    let rest = count_at_most p xs in
    elim (cases_Bool (p x)) [
      | inl h ↦ let more = count-yes p x xs h in omega arith
      | inr h ↦ let same = count-no p x xs h in omega arith
    ]

pub cell_count-most : (g : Marks) (k : ℤ × List ℤ) (xs : List Cell) → cell_count g k xs ≤ length xs
cell_count-most g k xs = count_at_most (λ x. same_multidegree (cell_degrees g x) k) xs

-- if one is counted, one has the degrees
some_counted : {A : Type 0} (p : A → Bool) (xs : List A) → 0 < count p xs → (x : A) × Contains xs x × (p x ≡ true)
some_counted p [] h = absurd (omega arith)
some_counted p (x ∷ xs) h = elim (cases_Bool (p x)) [
  | inl e ↦ (x, member_head x xs, e)
  | inr e ↦
      let same = count-no p x xs e in
      let found = some_counted p xs (omega arith) in
      (found.0, member_tail x xs found.0 found.1, found.2)
]

-- if one has them, one is counted
pub some_count : {A : Type 0} (p : A → Bool) (xs : List A) (x : A) → Contains xs x → p x ≡ true → 0 < count p xs
some_count p [] x inside h = absurd (no_member x inside)
some_count p (y ∷ xs) x inside h =
    let later = some_count p xs x in
    elim (cases_Bool (p y)) [
      | inl e ↦ let more = count-yes p y xs e in omega arith
      | inr e ↦ elim (member_cases y xs x inside) [
        | inl is ↦ absurd (false≢true (sym e ∙ ap p is ∙ h))
        | inr inside_xs ↦ let same = count-no p y xs e in let some = later inside_xs h in omega arith
      ]
    ]

pub some_cell : (g : Marks) (k : ℤ × List ℤ) (xs : List Cell) → 0 < cell_count g k xs
    → (c : Cell) × Contains xs c × (cell_degrees g c ≡ k)
some_cell g k xs h =
    let found = some_counted (λ x. same_multidegree (cell_degrees g x) k) xs h in
    (found.0, found.1, (same_multidegree-is (cell_degrees g found.0) k).0 found.2)

-- ---- one after another
pub counted-none : (g : Marks) (rows : List MultiRow) → ArePositive rows → AreCounted g [] rows rows
counted-none g rows h = record {
  positive = h;
  ranks = λ k. omega arith;
  keys = λ k l. absurd (omega arith);
}

pub counted-next : (g : Marks) (xs : List Cell) (c : Cell) (first old new : List MultiRow)
    → IsCounted (cell_degrees g c) old new → IsKey g (cell_degrees g c) → AreCounted g xs first old
    → AreCounted g (xs ++ c ∷ []) first new
counted-next g xs c first old new one key before = record {
  positive = one.positive;
  ranks = λ k.
      let more = one.ranks k in
      let so_far = before.ranks k in
      let push = cell_count-push g k xs c in
      omega arith;
  keys = λ k some.
      let push = cell_count-push g k xs c in
      elim (cases_Bool (same_multidegree (cell_degrees g c) k)) [
        | inl h ↦ subst (IsKey g) ((same_multidegree-is (cell_degrees g c) k).0 h) key
        | inr h ↦
            let none : (if same_multidegree (cell_degrees g c) k then 1 else 0) ≡ 0 = no_one _ h in
            before.keys k (omega arith)
      ];
}
  where
    no_one : (b : Bool) → b ≡ false → ◌≡◌ {A = ℕ} (if b then 1 else 0) 0
    no_one true h = absurd (false≢true (sym h))
    no_one false h = refl

-- a cell whose degrees were found
pub counted-cell : (g : Marks) (xs : List Cell) (c : Cell) (first old new : List MultiRow) (m : ℤ) (d : List ℤ)
    (x : List ℕ) → IsCell g c → x ≡ unrank (size g) c.code → m ≡ c.maslov → d ≡ component_degrees g x
    → All IsSmallDegree d → length d ≡ components g → IsCounted (m, d) old new → AreCounted g xs first old
    → AreCounted g (xs ++ c ∷ []) first new
counted-cell g xs c first old new m d x is x_is m_is d_is small many one before =
    let maslov = m_is ∙ sym is.maslov in
    let degrees = d_is ∙ ap (component_degrees g) x_is in
    let key : (m, d) ≡ cell_degrees g c = λ i. (maslov i, degrees i) in
    counted-next g xs c first old new (subst (λ k. IsCounted k old new) key one)
    (subst (IsKey g) key (record {
      state = (c.code, is.state, is.maslov ∙ sym m_is);
      small = small;
      count = many;
    })) before

-- ---- the ranks stay small
pub counted-small : (g : Marks) (xs : List Cell) (first rows : List MultiRow) → AreCounted g xs first rows
    → ((k : ℤ × List ℤ) → component_rank_at first k < 2 ^ 32) → length xs < 2 ^ 32 → All (λ row. row.rank < 2 ^ 48) rows
counted-small g xs first rows h low few j d l =
    let row = get_or rows j d in
    let own = component_rank_at-row rows row (degrees_of row) h.positive.ordered (Contains-get_or rows j d l) refl in
    let sum = h.ranks (degrees_of row) in
    let less = low (degrees_of row) in
    let most = cell_count-most g (degrees_of row) xs in
    omega arith
