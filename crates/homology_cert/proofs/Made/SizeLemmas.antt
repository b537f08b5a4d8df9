-- How long the text of a certificate can be, whose cells have no more pairs than states, and whose sets have states
-- alone.
--
-- Cells of other bidegrees have other states, so all cells together count at most as many states as there are, and a
-- cell with its pairs is at most twice as many entries as it has states. A set has at most 720 states, each with at
-- most seven bytes.
use Rattle.std.proofs.Common.{◌≡◌, ◌≢◌, ℕ, zero, suc, ◌+◌, ◌*◌, ◌<◌, ◌≤◌, ◌^◌, Bool, true, false, cond, ◌&&◌, ◌||◌, inl, inr, List, [], ◌∷◌, ◌++◌, length, get_or, codes, ℤ, pos, negsuc, AllPairs, Contains, IsTrue, refl, sym, ap, ap₂, subst, ◌∙◌, arith, length-append}
use Rattle.std.specs.Prelude.{int_lt}
use Rattle.std.specs.Ordering.{int_eq}
use Rattle.std.specs.List.{filter, flat_map, sum_by, slice_index}
use Rattle.std.specs.Fmt.{decimal, signed_decimal}
use Rattle.std.proofs.lemmas.Bool.{cases_Bool, cases_lt}
use Rattle.std.proofs.lemmas.Fmt.{length-decimal-le, decimal_digit}
use Rattle.std.proofs.lemmas.Int.{ints}
use Rattle.std.proofs.lemmas.List.{length-map}
use Rattle.std.proofs.lemmas.List.Sums.{sum_by-cons}
use Rattle.f2_algebra.specs.Chain.{Chain, codes as ranks}
use Rattle.f2_algebra.specs.Certificate.{CyclePair, StepPair}
use Rattle.f2_algebra.specs.Bigraded.{stands_before}
use Rattle.f2_algebra.proofs.Chains.Lists.{rising-codes, rises}
use Rattle.f2_algebra.proofs.Certificates.Span.{Every}
use Rattle.f2_algebra.proofs.Certificates.Certificate.{Every-All, every_weaker}
use Rattle.f2_algebra.proofs.Certificates.LogCertificate.{Pairwise, pairwise, every_both}
use Rattle.f2_algebra.proofs.Ranks.Pigeonhole.{pigeonhole}
use Rattle.state_rank.specs.Bijection.{ascending, IsBijection}
use Rattle.state_rank.specs.States.{factorial, unrank, state_word}
use Rattle.state_rank.proofs.LehmerLemmas.{factorial_grows}
use Rattle.state_rank.proofs.MemberLemmas.{length-flat_map, pairs_weaker}
use Rattle.state_rank.proofs.RankLemmas.{length-unrank}
use Rattle.torus_geom.specs.Marks.{Marks, size, IsGrid}
use Rattle.torus_geom.specs.Degrees.{bidegree}
use Rattle.gradings.specs.Degrees.{IsSmallDegree}
use Rattle.homology_cert.specs.CertificateCodes.{Cell, Certificate}
use Rattle.homology_cert.specs.Inner.CodeCertificates.{AreStates, HasCycleStates, HasStepStates, HasPairStates, entry_count}
use Rattle.homology_cert.specs.Certificates.{AreSmallDegrees}
use Rattle.homology_cert.specs.CertificateTests.{same_degree}
use Rattle.homology_cert.specs.Inner.CodeTests.{has_bidegree, state_count_at}
use Rattle.homology_cert.specs.CertificateText.{marks_line, degree_line, certificate_head_lines, text_of_lines}
use Rattle.homology_cert.specs.Inner.CodeText.{cycle_lines, step_lines, cell_lines, certificate_text}
use Rattle.text_lines.specs.Inner.CodeLines.{set_line}
use Rattle.homology_cert.proofs.Texts.TextLemmas.{text_of_lines-append, certificate_text-parts}
use Rattle.homology_cert.proofs.Certified.CertifiedLemmas.{same_degree-is}
use Rattle.state_rank.proofs.OrderLemmas.{length-ascending}

-- ---- states and cells
-- the sum of numbers of cells
abbrev pub total : {X : Type 0} → (X → ℕ) → List X → ℕ
total f [] = 0
total f (x ∷ xs) = f x + total f xs

-- it is that of std
pub total-sum_by : {X : Type 0} (f : X → ℕ) (xs : List X) → sum_by f xs ≡ total f xs
total-sum_by f [] = refl
total-sum_by f (x ∷ xs) = sum_by-cons f x xs ∙ ap (λ n. f x + n) (total-sum_by f xs)

-- sums of two numbers
total-add : {X : Type 0} (f h k : X → ℕ) (xs : List X) → ((x : X) → f x ≡ h x + k x)
    → total f xs ≡ total h xs + total k xs
total-add f h k [] e = refl
total-add f h k (x ∷ xs) e = let here = e x in let later = total-add f h k xs e in omega (arith, here, later)

-- of numbers that are not more
pub total-bound : {X : Type 0} (f h : X → ℕ) (xs : List X) → Every (λ x. f x ≤ h x) xs → total f xs ≤ total h xs
total-bound f h [] e = omega arith
total-bound f h (x ∷ xs) e = let here = e.0 in let later = total-bound f h xs e.1 in omega (arith, here, later)

-- 1 for yes, 0 for no
abbrev number : Bool → ℕ
number b = cond b 1 0

module _ (g : Marks) where
  -- if no cell has the bidegree, none counts
  none_later : (e : ℤ × ℤ) (cells : List Cell) → Every (λ (c : Cell). same_degree e c.at ≡ false) cells
      → total (λ (c : Cell). number (same_degree e c.at)) cells ≡ 0
  none_later e [] h = refl
  none_later e (c ∷ cells) h = ap₂ (λ b n. number b + n) h.0 (none_later e cells h.1)

  -- a bidegree is that of at most one cell
  at_most_one : (e : ℤ × ℤ) (cells : List Cell) → Pairwise (λ (p q : Cell). p.at ≢ q.at) cells
      → total (λ (c : Cell). number (same_degree e c.at)) cells ≤ 1
  at_most_one e [] apart = omega arith
  at_most_one e (c ∷ cells) apart = by_test (same_degree e c.at) refl (at_most_one e cells apart.1)
    where
      by_test : (b : Bool) → same_degree e c.at ≡ b → total (λ (d : Cell). number (same_degree e d.at)) cells ≤ 1
          → number (same_degree e c.at) + total (λ (d : Cell). number (same_degree e d.at)) cells ≤ 1
      by_test true is later =
          let none = none_later e cells (every_weaker (λ (q : Cell). c.at ≢ q.at)
          (λ (q : Cell). same_degree e q.at ≡ false) cells (λ q other. never q other) apart.0) in
          let one = ap number is in
          omega (arith, none, one)
        where
          never : (q : Cell) → c.at ≢ q.at → same_degree e q.at ≡ false
          never q other = elim (cases_Bool (same_degree e q.at)) [
            | inl h ↦ absurd (other (sym ((same_degree-is e c.at).0 is) ∙ (same_degree-is e q.at).0 h))
            | inr h ↦ h
          ]
      by_test false is later = let one = ap number is in omega (arith, one, later)

  -- how many of the codes have the bidegree of a cell
  abbrev count_in : List ℕ → Cell → ℕ
  count_in xs c = length (filter (has_bidegree g c.at) xs)

  -- one code more
  one_more : (x : ℕ) (xs : List ℕ) (c : Cell) → count_in (x ∷ xs) c ≡ number (has_bidegree g c.at x) + count_in xs c
  one_more x xs c = by_test (has_bidegree g c.at x)
    where
      by_test : (b : Bool) → length (cond b (x ∷ filter (has_bidegree g c.at) xs) (filter (has_bidegree g c.at) xs)) ≡
          number b + count_in xs c
      by_test true = omega arith
      by_test false = omega arith

  -- all cells together count no more codes than there are
  counts_within : (cells : List Cell) → Pairwise (λ (p q : Cell). p.at ≢ q.at) cells → (xs : List ℕ)
      → total (count_in xs) cells ≤ length xs
  counts_within cells apart [] = none cells
    where
      none : (cs : List Cell) → total (count_in []) cs ≤ 0
      none [] = omega arith
      none (c ∷ cs) = let later = none cs in omega (arith, later)
  counts_within cells apart (x ∷ xs) =
      let parts = total-add (count_in (x ∷ xs)) (λ (c : Cell). number (has_bidegree g c.at x)) (count_in xs) cells
      (one_more x xs) in
      let here = at_most_one (bidegree g (unrank (size g) x)) cells apart in
      let later = counts_within cells apart xs in
      omega (arith, parts, here, later)

-- cells in order have different bidegrees
ordered-apart : (p q : Cell) → IsTrue (stands_before p.at q.at) → p.at ≢ q.at
ordered-apart p q h same = loop p.at.0 p.at.1 q.at.0 q.at.1 (ap (λ (d : ℤ × ℤ). d.0) same)
    (ap (λ (d : ℤ × ℤ). d.1) same) h
  where
    loop : (m a n b : ℤ) → m ≡ n → a ≡ b → (int_lt b a || (int_eq b a && int_lt n m)) ≡ true → ⊥
    loop m a n b e f h = grind (arith, ints)

-- at most 720 states
pub few_states : (n : ℕ) → n ≤ 6 → factorial n ≤ 720
unfolding factorial
few_states n small = let grown = factorial_grows n 6 small in omega (arith, grown)

-- cells with no more pairs than states have few entries
module _ (g : Marks) (small : size g ≤ 6) (cells : List Cell)
    (ordered : AllPairs (λ (p q : Cell). IsTrue (stands_before p.at q.at)) cells)
    (some : Every (λ (c : Cell). state_count_at g c.at ≢ 0) cells)
    (most : Every (λ (c : Cell). length c.cycles + length c.steps ≤ state_count_at g c.at) cells) where
  -- the cells together count at most all states
  states_within : total (λ (c : Cell). state_count_at g c.at) cells ≤ 720
  states_within =
      let within = counts_within g cells (pairwise (λ (p q : Cell). p.at ≢ q.at) cells
      (pairs_weaker (λ (p q : Cell). IsTrue (stands_before p.at q.at)) (λ (p q : Cell). p.at ≢ q.at) cells
      ordered-apart ordered))
      (ascending (factorial (size g))) in
      let long = length-ascending (factorial (size g)) in
      let few = few_states (size g) small in
      omega (arith, within, long, few)

  -- so they have few entries
  pub few_entries : entry_count cells ≤ 1440
  few_entries =
      let at_sum = total-sum_by (λ (c : Cell). 1 + length c.cycles + length c.steps) cells in
      let twice = total-bound (λ (c : Cell). 1 + length c.cycles + length c.steps)
      (λ (c : Cell). state_count_at g c.at + state_count_at g c.at) cells
      (every_both (λ (c : Cell). state_count_at g c.at ≢ 0)
      (λ (c : Cell). length c.cycles + length c.steps ≤ state_count_at g c.at)
      (λ (c : Cell). 1 + length c.cycles + length c.steps ≤ state_count_at g c.at + state_count_at g c.at) cells
      (λ c one many. entries (state_count_at g c.at) (length c.cycles) (length c.steps) one many) some most) in
      let doubled = total-add (λ (c : Cell). state_count_at g c.at + state_count_at g c.at)
      (λ (c : Cell). state_count_at g c.at) (λ (c : Cell). state_count_at g c.at) cells (λ c. refl) in
      let within = states_within in
      omega (arith, at_sum, twice, doubled, within)
    where
      entries : (n k l : ℕ) → n ≢ 0 → k + l ≤ n → 1 + k + l ≤ n + n
      entries zero k l one many = absurd (one refl)
      entries (suc n) k l one many = omega (arith, many)

-- ---- texts
-- the codes of a set of states are few
few_codes : (g : Marks) (z : Chain) → size g ≤ 6 → AreStates g z → length (ranks z) ≤ 720
few_codes g z small states =
    let few = few_states (size g) small in
    let within = pigeonhole (length (ranks z)) (factorial (size g)) (slice_index (ranks z)) (λ i l. states i 0 l) one in
    omega (arith, few, within)
  where
    one : (i j : ℕ) → i < length (ranks z) → j < length (ranks z) → slice_index (ranks z) i ≡ slice_index (ranks z) j
        → i ≡ j
    one i j l k e = elim (cases_lt i j) [
      | inl less ↦ let up = rises (ranks z) (rising-codes z) i j less k in absurd (omega (arith, e, up))
      | inr more ↦ elim (cases_lt j i) [
        | inl less ↦ let up = rises (ranks z) (rising-codes z) j i less l in absurd (omega (arith, e, up))
        | inr same ↦ omega arith
      ]
    ]

-- 720 states of seven bytes
product_within : (k n : ℕ) → k ≤ 720 → n ≤ 7 → k * n ≤ 5040
product_within k n few small = grind arith

-- the line of a set
set_line-bound : (g : Marks) (word : List ℕ) (z : Chain) → size g ≤ 6 → length word ≤ 7 → AreStates g z
    → length (set_line word (size g) z) ≤ 5047
set_line-bound g word z small short states =
    let long = length-append word (flat_map (λ s. 32 ∷ state_word (unrank (size g) s)) (ranks z)) in
    let each = length-flat_map (λ s. 32 ∷ state_word (unrank (size g) s)) (size g + 1) (ranks z)
    (λ s inside. one s (below s inside)) in
    let product = product_within (length (ranks z)) (size g + 1) (few_codes g z small states) (omega (arith, small)) in
    omega (arith, long, each, product, short)
  where
    below : (s : ℕ) → Contains (ranks z) s → s < factorial (size g)
    below s (k, within, is) = subst (λ t. t < factorial (size g)) is (states k s within)

    one : (s : ℕ) → s < factorial (size g) → length (32 ∷ state_word (unrank (size g) s)) ≡ size g + 1
    one s l = let long = length-map (unrank (size g) s) (λ (r : ℕ). 48 + r)
        ∙ length-unrank (size g) s l in omega (arith, long)

-- two lines of sets
two_lines : (a b : List ℕ) → length a ≤ 5047 → length b ≤ 5047 → length (text_of_lines (a ∷ b ∷ [])) ≤ 10096
two_lines a b short also =
    let first = length-append (a ++ 10 ∷ []) ((b ++ 10 ∷ []) ++ []) in
    let one = length-append a (10 ∷ []) in
    let second = length-append (b ++ 10 ∷ []) [] in
    let other = length-append b (10 ∷ []) in
    omega (arith, first, one, second, other, short, also)

-- the lines of things that each have a short text
lines_bound : {X : Type 0} (lines : X → List (List ℕ)) (k : ℕ) (xs : List X)
    → Every (λ x. length (text_of_lines (lines x)) ≤ k) xs → length (text_of_lines (flat_map lines xs)) ≤ k * length xs
lines_bound lines k [] h = omega arith
lines_bound lines k (x ∷ xs) h =
    let both = ap length (text_of_lines-append (lines x) (flat_map lines xs))
    ∙ length-append (text_of_lines (lines x)) (text_of_lines (flat_map lines xs)) in
    let later = lines_bound lines k xs h.1 in
    let here = h.0 in
    let product : k * suc (length xs) ≡ k * length xs + k = omega arith in
    omega (arith, both, later, here, product)

-- a small number takes few bytes
signed-bound : (z : ℤ) → IsSmallDegree z → length (signed_decimal z) ≤ 5
signed-bound (pos n) small = let high = small.high in let low : n < 10 ^ 4 = omega (arith, ints, high) in let short =
    length-decimal-le 4 n (omega arith) low (omega (arith, low)) in omega (arith, short)
signed-bound (negsuc n) small = let high = small.low in let low : suc n < 10 ^ 4 =
    omega (arith, ints, high) in let short = length-decimal-le 4 (suc n) (omega arith) low (omega (arith, low)) in omega
    (arith, short)

-- the line of a bidegree
degree_line-bound : (d : ℤ × ℤ) → AreSmallDegrees d → length (degree_line d) ≤ 16
degree_line-bound d small =
    let m = signed-bound d.0 small.maslov in
    let a = signed-bound d.1 small.alexander in
    let whole = length-append ((codes "cell " ++ signed_decimal d.0) ++ codes " ") (signed_decimal d.1) in
    let front = length-append (codes "cell " ++ signed_decimal d.0) (codes " ") in
    let first = length-append (codes "cell ") (signed_decimal d.0) in
    omega (arith, m, a, whole, front, first)

-- the text of a cell
cell-bound : (g : Marks) (cell : Cell) → size g ≤ 6 → AreSmallDegrees cell.at → HasPairStates g cell
    → length (text_of_lines (cell_lines (size g) cell)) ≤ 10096 * (1 + length cell.cycles + length cell.steps)
cell-bound g cell small degrees states =
    let line = degree_line-bound cell.at degrees in
    let cycles = lines_bound (cycle_lines (size g)) 10096 cell.cycles
    (every_weaker (HasCycleStates g) (λ (p : CyclePair). length (text_of_lines (cycle_lines (size g) p)) ≤ 10096)
    cell.cycles
    (λ p s. two_lines (set_line (codes "cycle") (size g) p.cycle) (set_line (codes "cocycle") (size g) p.cocycle)
    (set_line-bound g (codes "cycle") p.cycle small (omega arith) s.cycle)
    (set_line-bound g (codes "cocycle") p.cocycle small (omega arith) s.cocycle))
    (Every-All (HasCycleStates g) cell.cycles states.cycles)) in
    let steps = lines_bound (step_lines (size g)) 10096 cell.steps
    (every_weaker (HasStepStates g) (λ (p : StepPair). length (text_of_lines (step_lines (size g) p)) ≤ 10096)
    cell.steps
    (λ p s. two_lines (set_line (codes "step") (size g) p.step) (set_line (codes "probe") (size g) p.probe)
    (set_line-bound g (codes "step") p.step small (omega arith) s.step)
    (set_line-bound g (codes "probe") p.probe small (omega arith) s.probe))
    (Every-All (HasStepStates g) cell.steps states.steps)) in
    let first = length-append (degree_line cell.at ++ 10 ∷ [])
    (text_of_lines (flat_map (cycle_lines (size g)) cell.cycles ++ flat_map (step_lines (size g)) cell.steps)) in
    let one = length-append (degree_line cell.at) (10 ∷ []) in
    let both = ap length (text_of_lines-append (flat_map (cycle_lines (size g)) cell.cycles)
    (flat_map (step_lines (size g)) cell.steps)) ∙ length-append
    (text_of_lines (flat_map (cycle_lines (size g)) cell.cycles))
    (text_of_lines (flat_map (step_lines (size g)) cell.steps)) in
    omega (arith, line, cycles, steps, first, one, both)

-- the text of all cells
cells-bound : (g : Marks) (cells : List Cell) → size g ≤ 6 → Every (λ (c : Cell). AreSmallDegrees c.at) cells
    → Every (HasPairStates g) cells
    → length (text_of_lines (flat_map (cell_lines (size g)) cells)) ≤ 10096 * total
    (λ (c : Cell). 1 + length c.cycles + length c.steps) cells
cells-bound g [] small degrees states = omega arith
cells-bound g (c ∷ cells) small degrees states =
    let both = ap length (text_of_lines-append (cell_lines (size g) c) (flat_map (cell_lines (size g)) cells))
    ∙ length-append (text_of_lines (cell_lines (size g) c)) (text_of_lines (flat_map (cell_lines (size g)) cells))
    in
    let here = cell-bound g c small degrees.0 states.0 in
    let later = cells-bound g cells small degrees.1 states.1 in
    omega (arith, both, here, later)

-- the line of marks
marks_line-bound : (n : ℕ) (letter : List ℕ) (rows : List ℕ) → n ≤ 6 → length letter ≡ 1 → IsBijection n rows
    → length (marks_line letter rows) ≤ 13
marks_line-bound n letter rows small one bijection =
    let each = length-flat_map (λ (r : ℕ). 32 ∷ decimal r) 2 rows (λ r inside. short r (below r inside)) in
    let whole = length-append letter (flat_map (λ (r : ℕ). 32 ∷ decimal r) rows) in
    let long = bijection.long in
    omega (arith, each, whole, long, small, one)
  where
    below : (r : ℕ) → Contains rows r → r < 10
    below r (k, within, is) =
        let long = bijection.long in
        let low = bijection.small k (omega (arith, long, within)) in
        omega (arith, small, low, row k r within is)
      where
        same_default : (xs : List ℕ) (k d e : ℕ) → k < length xs → get_or xs k d ≡ get_or xs k e
        same_default [] k d e l = absurd (omega arith)
        same_default (x ∷ xs) zero d e l = refl
        same_default (x ∷ xs) (suc k) d e l = same_default xs k d e (omega (arith, l))

        row : (k r : ℕ) → k < length rows → get_or rows k r ≡ r → slice_index rows k ≡ r
        row k r within is = same_default rows k 0 r within ∙ is

    short : (r : ℕ) → r < 10 → length (32 ∷ decimal r) ≡ 2
    short r l = let digit = ap length (decimal_digit r l) in omega (arith, digit)

-- the first lines
head-bound : (g : Marks) → IsGrid g → size g ≤ 6 → length (text_of_lines (certificate_head_lines g)) ≤ 50
head-bound g grid small =
    let o = marks_line-bound (size g) (codes "O") g.o small refl grid.o in
    let x = marks_line-bound (size g) (codes "X") g.x small refl grid.x in
    let digit = ap length (decimal_digit (size g) (omega (arith, small))) in
    let number = length-append (codes "grid ") (decimal (size g)) in
    let last = length-append (marks_line (codes "X") g.x) (10 ∷ []) in
    let last_end = length-append (marks_line (codes "X") g.x ++ 10 ∷ []) [] in
    let third = length-append (marks_line (codes "O") g.o) (10 ∷ []) in
    let rest = length-append (marks_line (codes "O") g.o ++ 10 ∷ []) (text_of_lines (marks_line (codes "X") g.x ∷ []))
    in
    let second = length-append (codes "grid " ++ decimal (size g)) (10 ∷ []) in
    let more = length-append ((codes "grid " ++ decimal (size g)) ++ 10 ∷ [])
    (text_of_lines (marks_line (codes "O") g.o ∷ marks_line (codes "X") g.x ∷ [])) in
    omega (arith, o, x, digit, number, last, last_end, third, rest, second, more)

-- the text of a certificate with few entries is short
pub short_text : (c : Certificate) → IsGrid c.grid → size c.grid ≤ 6
    → Every (λ (cell : Cell). AreSmallDegrees cell.at) c.cells → Every (HasPairStates c.grid) c.cells
    → entry_count c.cells ≤ 1440
    → length (certificate_text c) < 16777216
short_text c grid small degrees states few =
    let parts = ap length (certificate_text-parts c) in
    let outer = length-append (text_of_lines (certificate_head_lines c.grid) ++ text_of_lines
    (flat_map (cell_lines (size c.grid)) c.cells)) (codes "end\n") in
    let inner = length-append (text_of_lines (certificate_head_lines c.grid))
    (text_of_lines (flat_map (cell_lines (size c.grid)) c.cells)) in
    let head = head-bound c.grid grid small in
    let cells = cells-bound c.grid c.cells small degrees states in
    let sum = total-sum_by (λ (cell : Cell). 1 + length cell.cycles + length cell.steps) c.cells in
    omega (arith, parts, outer, inner, head, cells, sum, few)
