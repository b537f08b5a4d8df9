-- The loops: over the rows of a table and over the states.
use Rattle.std.proofs.Common.{◌≡◌, ℕ, zero, suc, ◌+◌, ◌*◌, ◌<◌, ◌≤◌, Bool, true, false, List, [], ◌∷◌, ◌++◌, length, map, get_or, take, All, if◌then◌else◌, inl, inr, refl, sym, ap, ap₂, subst, ◌∙◌, arith, add-one}
use Rattle.std.specs.Prelude.{◌<ℤ◌, ◌⊎◌, ◌&&◌, ◌||◌, int_lt}
use Rattle.std.proofs.Math.IntN.{ℤ, pos, neg_ℤ, ◌+ℤ◌}
use Rattle.std.proofs.Common.{◌≤ℤ◌}
use Rattle.std.proofs.lemmas.Bool.{and_parts, cases_eq, false_from_ne_true}
use Rattle.std.proofs.lemmas.List.Elements.{All-head, All-tail}
use Rattle.std.proofs.lemmas.Bool.Decides.{Decides-int_eq}
use Rattle.std.proofs.lemmas.Int.{ints}
use Rattle.std.proofs.lemmas.List.{take_all, take_more, map-append}
use Rattle.std.specs.Ordering.{int_eq}
use Rattle.state_rank.specs.States.{factorial, unrank}
use Rattle.torus_geom.proofs.Sums.SumLemmas.{sum_below_vanishes}
use Rattle.torus_geom.specs.Counts.{sum_below}
use Rattle.torus_geom.specs.Degrees.{maslov_o, alexander}
use Rattle.torus_geom.specs.Marks.{Marks, size}
use Rattle.hat_division.specs.Product.{IsSmall}
use Rattle.hat_division.specs.Table.{AreOrdered, bidegree_of}
use Rattle.f2_algebra.specs.Bigraded.{stands_before}
use Rattle.hat_division.specs.declared.tables.TableRow.{TableRow}
use Rattle.gradings.specs.Degrees.{IsSmallDegree}
use Rattle.hat_division.specs.Table.{homology_row}
use Rattle.grid_euler.specs.Euler.{is_even, signed, alternating_sum, row_part, euler_part, euler_number}
use Rattle.grid_euler.specs.Inner.Sums.{places, AreSums, Vanishes}
use Rattle.grid_euler.proofs.StateSums.{sum_of-append, euler_number-codes}
use Rattle.grid_euler.proofs.PlaceLemmas.{AreSums-same, order_told, place_at}

-- ---- the sign of a rank
pub signed-low : (m : ℤ) (d b : ℕ) → d ≤ b → neg_ℤ (pos b) ≤ℤ signed m d
signed-low m d b l = by (is_even m)
  where
    by : (e : Bool) → neg_ℤ (pos b) ≤ℤ (if e then pos d else neg_ℤ (pos d))
    by true = omega (arith, ints)
    by false = omega (arith, ints)

pub signed-high : (m : ℤ) (d b : ℕ) → d ≤ b → signed m d ≤ℤ pos b
signed-high m d b l = by (is_even m)
  where
    by : (e : Bool) → (if e then pos d else neg_ℤ (pos d)) ≤ℤ pos b
    by true = omega (arith, ints)
    by false = omega (arith, ints)

-- ---- rows of a table
-- one row more
pub alternating_sum-more : (rows : List TableRow) (k : ℕ) (d : TableRow) → k < length rows → (a : ℤ)
    → row_part a (homology_row (get_or rows k d)) +ℤ alternating_sum (map homology_row (take k rows)) a
    ≡ alternating_sum (map homology_row (take (k + 1) rows)) a
alternating_sum-more rows k d l a =
    sym (ap (λ rs. alternating_sum (map homology_row rs) a) (take_more rows k d l)
    ∙ ap (λ rs. alternating_sum rs a) (map-append homology_row (take k rows) (get_or rows k d ∷ []))
    ∙ sum_of-append (row_part a) (map homology_row (take k rows)) (homology_row (get_or rows k d)))

-- both degrees of a small row
pub maslov_of_row-small : (row : TableRow) → IsSmall row → IsSmallDegree row.m
maslov_of_row-small row s = record { low = s.maslov_low; high = s.maslov_high }

pub alexander_of_row-small : (row : TableRow) → IsSmall row → IsSmallDegree row.a
alexander_of_row-small row s = record { low = s.alexander_low; high = s.alexander_high }

-- rows in order have rising numbers, below 2001 times 2001
number : (row : TableRow) → IsSmall row → ℕ
number row s = (place_at row.m (maslov_of_row-small row s)).0 + (place_at row.a (alexander_of_row-small row s)).0 * 2001

number-below : (row : TableRow) (s : IsSmall row) → number row s < 4004001
unfolding number
number-below row s =
    let m_low = (place_at row.m (maslov_of_row-small row s)).1 in
    let a_low = (place_at row.a (alexander_of_row-small row s)).1 in
    omega arith

number-rises : (p q : TableRow) (s : IsSmall p) (t : IsSmall q) → stands_before (bidegree_of p) (bidegree_of q) ≡ true
    → number p s < number q t
unfolding number
number-rises p q s t before = by (int_lt q.a p.a) refl
  where
    higher : int_lt q.a p.a ≡ true
        → (place_at p.a (alexander_of_row-small p s)).0 < (place_at q.a (alexander_of_row-small q t)).0
    higher e =
        let less = (order_told q.a p.a).0 e in
        let at_p = (place_at p.a (alexander_of_row-small p s)).2 in
        let at_q = (place_at q.a (alexander_of_row-small q t)).2 in
        omega (arith, ints)

    by : (b : Bool) → int_lt q.a p.a ≡ b
        → (place_at p.m (maslov_of_row-small p s)).0 + (place_at p.a (alexander_of_row-small p s)).0 * 2001
        < (place_at q.m (maslov_of_row-small q t)).0 + (place_at q.a (alexander_of_row-small q t)).0 * 2001
    by true e =
        let above = higher e in
        let m_low = (place_at p.m (maslov_of_row-small p s)).1 in
        omega arith
    by false e =
        let parts = and_parts (int_eq q.a p.a) (int_lt q.m p.m)
        (sym (ap (λ b. b || (int_eq q.a p.a && int_lt q.m p.m)) e) ∙ before) in
        let same = (Decides-int_eq q.a p.a).0 parts.0 in
        let less = (order_told q.m p.m).0 parts.1 in
        let at_p = (place_at p.a (alexander_of_row-small p s)).2 in
        let at_q = (place_at q.a (alexander_of_row-small q t)).2 in
        let m_p = (place_at p.m (maslov_of_row-small p s)).2 in
        let m_q = (place_at q.m (maslov_of_row-small q t)).2 in
        let level : (place_at p.a (alexander_of_row-small p s)).0 ≡ (place_at q.a (alexander_of_row-small q t)).0 =
        omega (arith, ints) in
        let lower : (place_at p.m (maslov_of_row-small p s)).0 < (place_at q.m (maslov_of_row-small q t)).0 =
        omega (arith, ints) in
        omega arith

-- so there are few
pub few_rows : (rows : List TableRow) → AreOrdered rows → (small : All IsSmall rows) → (k : ℕ) → (l : k < length rows)
    → k < 4004001
few_rows rows ordered small k l =
    let up = rises k l in let end = number-below (get_or rows k none) (small k none l) in omega arith
  where
    none : TableRow
    none = record { m = pos 0; a = pos 0; rank = 0 }

    rises : (k : ℕ) → (l : k < length rows) → k ≤ number (get_or rows k none) (small k none l)
    rises zero l = omega arith
    rises (suc k) l =
        let below : k < length rows = omega arith in
        let before = rises k below in
        let more = number-rises (get_or rows k none) (get_or rows (suc k) none) (small k none below)
        (small (suc k) none l) (ordered k (suc k) none (omega arith) l) in
        omega arith

-- if no row has the degree, the sum is 0
pub alternating_sum-vanishes : (rows : List TableRow) → All IsSmall rows
    → Vanishes (alternating_sum (map homology_row rows))
alternating_sum-vanishes [] small a far = refl
alternating_sum-vanishes (row ∷ rows) small a far =
    let first = All-head IsSmall row rows small in
    let apart : int_eq row.a a ≡ false =
    false_from_ne_true _ (λ t. off row.a a (alexander_of_row-small row first) ((Decides-int_eq row.a a).0 t) far) in
    ap₂ (λ b z. (if b then signed row.m row.rank else pos 0) +ℤ z) apart
    (alternating_sum-vanishes rows (All-tail IsSmall row rows small) a far)
  where
    off : (x a : ℤ) → IsSmallDegree x → x ≡ a → (pos 1000 <ℤ a) ⊎ (a <ℤ neg_ℤ (pos 1000)) → ⊥
    off x a s e (inl h) = let high = s.high in omega (arith, ints)
    off x a s e (inr h) = let low = s.low in omega (arith, ints)

-- ---- states
-- the Alexander degrees of the states before a code are small
abbrev pub AreSmallBefore : Marks → ℕ → Type 0
AreSmallBefore g k = (code : ℕ) → code < k → IsSmallDegree (alexander g (unrank (size g) code))

pub small_none : (g : Marks) → AreSmallBefore g 0
small_none g code l = absurd (omega arith)

pub small_more : (g : Marks) (k : ℕ) (a : ℤ) → a ≡ alexander g (unrank (size g) k) → IsSmallDegree a
    → AreSmallBefore g k → AreSmallBefore g (k + 1)
small_more g k a is s before code l = elim (cases_eq code k) [
  | inl e ↦ subst IsSmallDegree (is ∙ ap (λ n. alexander g (unrank (size g) n)) (sym e)) s
  | inr ne ↦ before code (omega arith)
]

-- no state has a degree past these
pub euler_number-vanishes : (g : Marks) (k : ℕ) → k ≡ factorial (size g) → AreSmallBefore g k
    → Vanishes (euler_number g)
euler_number-vanishes g k all small a far =
    euler_number-codes g a ∙ sum_below_vanishes (factorial (size g)) _
    (λ code l. ap (λ b. if b then signed (maslov_o g (unrank (size g) code)) 1
    else pos 0) (false_from_ne_true _ (λ t. off (alexander g (unrank (size g) code)) (small code (omega arith))
    ((Decides-int_eq (alexander g (unrank (size g) code)) a).0 t) far)))
  where
    off : (x : ℤ) → IsSmallDegree x → x ≡ a → (pos 1000 <ℤ a) ⊎ (a <ℤ neg_ℤ (pos 1000)) → ⊥
    off x s e (inl h) = let high = s.high in omega (arith, ints)
    off x s e (inr h) = let low = s.low in omega (arith, ints)

-- the states before a code
abbrev pub euler_before : Marks → ℕ → ℤ → ℤ
euler_before g k a = sum_below k (λ code. euler_part g a (unrank (size g) code))

-- ---- one term more
pub row_added : (rows : List TableRow) (k : ℕ) (d : TableRow) → k < length rows → (a term : ℤ) (new : List ℤ)
    → a ≡ (get_or rows k d).a → term ≡ signed (get_or rows k d).m (get_or rows k d).rank
    → AreSums (λ b. (if int_eq a b then term else pos 0) +ℤ alternating_sum (map homology_row (take k rows)) b) new
    → AreSums (alternating_sum (map homology_row (take (k + 1) rows))) new
row_added rows k d l a term new at is h =
    AreSums-same _ _ new (λ b.
    (λ i. (if int_eq (at i) b then (is i) else pos 0) +ℤ alternating_sum (map homology_row (take k rows)) b)
    ∙ alternating_sum-more rows k d l b) h

pub state_added : (g : Marks) (k : ℕ) (m a e term : ℤ) (new : List ℤ)
    → a ≡ alexander g (unrank (size g) k) → e ≡ a → m ≡ maslov_o g (unrank (size g) k) → term ≡ signed m 1
    → AreSums (λ b. (if int_eq e b then term else pos 0) +ℤ euler_before g k b) new
    → AreSums (euler_before g (k + 1)) new
state_added g k m a e term new a_is e_is m_is is h =
    AreSums-same _ _ new (λ b.
    (λ i. (if int_eq ((e_is ∙ a_is) i) b then ((is ∙ ap (λ z. signed z 1) m_is) i) else pos 0) +ℤ euler_before g k b)
    ∙ ap (λ n. euler_before g n b) (sym (add-one k))) h

-- all rows
pub all_rows : (rows : List TableRow) (k : ℕ) (sums : List ℤ) → length rows ≤ k
    → AreSums (alternating_sum (map homology_row (take k rows))) sums
    → AreSums (alternating_sum (map homology_row rows)) sums
all_rows rows k sums l h = subst (λ rs. AreSums (alternating_sum (map homology_row rs)) sums) (take_all k rows l) h

-- all states
pub all_states : (g : Marks) (k : ℕ) (sums : List ℤ) → k ≡ factorial (size g) → AreSums (euler_before g k) sums
    → AreSums (euler_number g) sums
all_states g k sums e h =
    AreSums-same (euler_before g (factorial (size g))) (euler_number g) sums (λ a. sym (euler_number-codes g a))
    (subst (λ n. AreSums (euler_before g n) sums) e h)

-- ---- what a loan of all numbers writes back
whole : (new rest : List ℤ) (n : ℕ) → length new ≡ n → take n (new ++ rest) ≡ new
whole [] rest zero e = refl
whole [] rest (suc n) e = absurd (omega arith)
whole (x ∷ xs) rest zero e = absurd (omega arith)
whole (x ∷ xs) rest (suc n) e = ap (λ ys. x ∷ ys) (whole xs rest n (omega arith))

pub written_back : (new old rest : List ℤ) (n : ℕ) → length new ≡ places → length old ≡ places → n ≡ length old
    → take n (new ++ rest) ≡ new
written_back new old rest n e f l = whole new rest n (omega arith)
