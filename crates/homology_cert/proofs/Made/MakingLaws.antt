-- Each grid of size at most six has a certificate that passes, with a short text.
--
-- Each slice has a log that leaves no arrow (f2_algebra). The cells are made from these, for each bidegree between the
-- bounds that some state has, the greatest first.
use Rattle.std.proofs.Common.{◌≡◌, ◌≢◌, ℕ, ◌+◌, ◌<◌, ◌≤◌, Bool, true, false, ◌&&◌, ◌||◌, List, [], ◌∷◌, map, length, get_or, ℤ, ◌<ℤ◌, AllPairs, Contains, IsTrue, refl, sym, ap, subst, ◌∙◌, arith, inl, inr}
use Rattle.std.specs.Prelude.{int_lt}
use Rattle.std.specs.Ordering.{int_eq}
use Rattle.std.specs.List.{filter, flat_map, list_any}
use Rattle.std.proofs.lemmas.Int.{ints}
use Rattle.std.proofs.lemmas.List.Elements.{Contains-get_or}
use Rattle.f2_algebra.specs.Cancel.{after}
use Rattle.f2_algebra.specs.Bigraded.{stands_before}
use Rattle.f2_algebra.proofs.Ranks.Existence.{Reduced, reduce}
use Rattle.f2_algebra.proofs.Ranks.Bigraded.{at_alexander_IsComplex}
use Rattle.f2_algebra.proofs.Certificates.Span.{Every}
use Rattle.f2_algebra.proofs.Certificates.Certificate.{Every-All, all_from, every_weaker}
use Rattle.cancel.proofs.ListLemmas.{any-Contains}
use Rattle.state_rank.specs.Bijection.{ascending}
use Rattle.state_rank.specs.States.{factorial, unrank}
use Rattle.state_rank.proofs.MemberLemmas.{no_member, member_head, member_cases, Contains-flat_map, member_of_flat_map, member_of_filter, Contains-filter, pairs_flat_map}
use Rattle.state_rank.proofs.OrderLemmas.{Contains-ascending, member_of_ascending}
use Rattle.state_rank.proofs.RankLemmas.{IsBijection-unrank}
use Rattle.torus_geom.specs.Marks.{Marks, size, IsGrid}
use Rattle.torus_geom.specs.Degrees.{bidegree}
use Rattle.torus_geom.specs.Inner.GridComplex.{grid_complex}
use Rattle.torus_geom.proofs.Sums.AllBelowLemmas.{all_below-true}
use Rattle.rectangles.proofs.Law.GridComplexLemmas.{grid_complex_rules}
use Rattle.gradings.proofs.TableLemmas.{maslov_small, alexander_small}
use Rattle.homology_cert.specs.CertificateCodes.{Cell, Certificate}
use Rattle.homology_cert.specs.Inner.CodeCertificates.{HasPairStates, IsCertificate, entry_count}
use Rattle.homology_cert.specs.Certificates.{AreSmallDegrees}
use Rattle.homology_cert.specs.Inner.CodeTests.{has_bidegree, state_count_at, verdict_of}
use Rattle.homology_cert.specs.Inner.CodeText.{certificate_text}
use Rattle.homology_cert.specs.Inner.Making.{left_codes, cycle_pair, steps_after, IsMadeCell, AreMade}
use Rattle.homology_cert.specs.declared.verdicts.CertVerdict.TheVariants.{Yes}
use Rattle.homology_cert.proofs.Homology.SliceRanks.{slice_of, slice-below}
use Rattle.homology_cert.proofs.Certified.CertifiedLemmas.{same_degree-is}
use Rattle.homology_cert.proofs.Homology.ExistenceLemmas.{window, window-falls, Contains-window}
use Rattle.homology_cert.proofs.Made.SizeLemmas.{few_entries, short_text}
use Rattle.homology_cert.proofs.Made.MadeLemmas.{states_here, some_here, small_here, pair_states, verdict_of-made}

-- ---- made cells are a certificate
module _ (g : Marks) (grid : IsGrid g) (small : size g ≤ 6) (cells : List Cell) (made : AreMade g cells) where
  -- the certificate
  abbrev c : Certificate
  c = record { grid = g; cells = cells }

  -- each cell is made
  each_made : Every (IsMadeCell g) cells
  each_made = Every-All (IsMadeCell g) cells made.each

  -- the bidegrees are small
  small_degrees : Every (λ (cell : Cell). AreSmallDegrees cell.at) cells
  small_degrees =
      every_weaker (IsMadeCell g) (λ (cell : Cell). AreSmallDegrees cell.at) cells (small_here g grid) each_made

  -- the sets are sets of states
  states : Every (HasPairStates g) cells
  states = every_weaker (IsMadeCell g) (HasPairStates g) cells (pair_states g grid) each_made

  -- a cell has no more pairs than states
  no_more : (cell : Cell) → IsMadeCell g cell → length cell.cycles + length cell.steps ≤ state_count_at g cell.at
  no_more cell is = let counted = states_here g grid cell is in omega (arith, counted)

  -- there are few entries
  few : entry_count cells ≤ 1440
  few = few_entries g small cells made.ordered
      (every_weaker (IsMadeCell g) (λ (cell : Cell). state_count_at g cell.at ≢ 0) cells (some_here g grid) each_made)
      (every_weaker (IsMadeCell g) (λ (cell : Cell). length cell.cycles + length cell.steps ≤ state_count_at g cell.at)
      cells no_more each_made)

  -- they are the cells of a certificate
  pub made_certificate : IsCertificate c
  made_certificate = record {
    grid = grid;
    small = small;
    ordered = made.ordered;
    degrees = all_from (λ (cell : Cell). AreSmallDegrees cell.at) cells small_degrees;
    states = all_from (HasPairStates g) cells states;
    few = let low = few in omega (arith, low);
  }

  -- whose text is short
  pub made_short : length (certificate_text c) < 16777216
  made_short = short_text c grid small small_degrees states few

-- ---- a cell for a bidegree
module _ (g : Marks) (grid : IsGrid g) where
  -- a log of the slice that leaves no arrow
  reduced : (a : ℤ) → Reduced (slice_of g a)
  reduced a = reduce (slice_of g a) (at_alexander_IsComplex a (grid_complex g) refl (grid_complex_rules g grid))
      (ascending (factorial (size g)))
      (λ s live. any-Contains (ascending (factorial (size g))) s
      (Contains-ascending (factorial (size g)) s (slice-below g a s live)))

  -- the cell of a bidegree, by this log
  cell_at : ℤ × ℤ → Cell
  cell_at d =
      let log = (reduced d.1).0 in
      record {
        at = d;
        cycles = map (cycle_pair log) (left_codes g (after (slice_of g d.1) log) d.0);
        steps =
            steps_after (has_bidegree g d) [] log;
      }

  -- if some state has the bidegree, it is made
  cell_at-made : (d : ℤ × ℤ) (s : ℕ) → s < factorial (size g) → bidegree g (unrank (size g) s) ≡ d
      → IsMadeCell g (cell_at d)
  unfolding cell_at
  cell_at-made d s below is = record {
    state = s;
    below = below;
    is_state = is;
    log = (reduced d.1).0;
    left = after (slice_of g d.1) (reduced d.1).0;
    stands = (reduced d.1).1;
    is_after = refl;
    no_arrow = (reduced d.1).2;
    cycles = refl;
    steps = refl;
  }

  -- it has the bidegree
  at-cell_at : (d : ℤ × ℤ) → (cell_at d).at ≡ d
  unfolding cell_at
  at-cell_at d = refl

  -- the states of a bidegree, and a cell if there are some
  abbrev found : ℤ × ℤ → List ℕ
  found d = filter (has_bidegree g d) (ascending (factorial (size g)))

  -- the cell, if there are such states
  cell_if : ℤ × ℤ → List ℕ → List Cell
  cell_if d [] = []
  cell_if d (s ∷ xs) = cell_at d ∷ []

  -- a cell that is there is the cell of the bidegree, and has a state
  member_of_cell_if : (d : ℤ × ℤ) (xs : List ℕ) (cell : Cell) → Contains (cell_if d xs) cell
      → (cell_at d ≡ cell) × ((s : ℕ) × Contains xs s)
  unfolding cell_if
  member_of_cell_if d [] cell inside = absurd (no_member cell inside)
  member_of_cell_if d (s ∷ xs) cell inside = elim (member_cases (cell_at d) [] cell inside) [
    | inl same ↦ (same, (s, member_head s xs))
    | inr later ↦ absurd (no_member cell later)
  ]

  -- if there is a state, the cell is there
  Contains-cell_if : (d : ℤ × ℤ) (xs : List ℕ) (s : ℕ) → Contains xs s → Contains (cell_if d xs) (cell_at d)
  unfolding cell_if
  Contains-cell_if d [] s inside = absurd (no_member s inside)
  Contains-cell_if d (x ∷ xs) s inside = member_head (cell_at d) []

  -- there is at most one
  cell_if-pairs : (d : ℤ × ℤ) (xs : List ℕ) → AllPairs (λ (p q : Cell). IsTrue (stands_before p.at q.at)) (cell_if d xs)
  unfolding cell_if
  cell_if-pairs d [] i j e l k = absurd (omega (arith, k))
  cell_if-pairs d (x ∷ xs) i j e l k = absurd (omega (arith, l, k))

  -- ---- all cells
  column : ℤ → List Cell
  column a = flat_map (λ m. cell_if (m, a) (found (m, a))) (window 1000)

  -- the cells of all
  all_cells : List Cell
  all_cells = flat_map column (window 1000)

  -- a cell of an Alexander degree is that of some Maslov degree
  member_of_column : (a : ℤ) (cell : Cell) → Contains (column a) cell
      → (m : ℤ) × (cell_at (m, a) ≡ cell) × ((s : ℕ) × Contains (found (m, a)) s)
  unfolding column
  member_of_column a cell inside =
      let (m, within, kept) = member_of_flat_map (λ m. cell_if (m, a) (found (m, a))) (window 1000) cell inside in
      let (same, some) = member_of_cell_if (m, a) (found (m, a)) cell kept in
      (m, same, some)

  -- its bidegree
  at_of : (m a : ℤ) (cell : Cell) → cell_at (m, a) ≡ cell → cell.at ≡ (m, a)
  at_of m a cell is = ap (λ (e : Cell). e.at) (sym is) ∙ at-cell_at (m, a)

  -- of two cells of one Alexander degree that of the higher Maslov degree comes first
  in_column : (p q : Cell) (m n a : ℤ) → cell_at (m, a) ≡ p → cell_at (n, a) ≡ q → n <ℤ m
      → IsTrue (stands_before p.at q.at)
  in_column p q m n a at_p at_q less = first p.at.0 p.at.1 q.at.0 q.at.1 (ap (λ (d : ℤ × ℤ). d.0) (at_of m a p at_p))
      (ap (λ (d : ℤ × ℤ). d.1) (at_of m a p at_p)) (ap (λ (d : ℤ × ℤ). d.0) (at_of n a q at_q))
      (ap (λ (d : ℤ × ℤ). d.1) (at_of n a q at_q))
    where
      first : (x y z w : ℤ) → x ≡ m → y ≡ a → z ≡ n → w ≡ a → (int_lt w y || (int_eq w y && int_lt z x)) ≡ true
      first x y z w e f h k = grind (arith, ints)

  -- of two others that of the higher Alexander degree
  in_columns : (p q : Cell) (m n a b : ℤ) → cell_at (m, a) ≡ p → cell_at (n, b) ≡ q → b <ℤ a
      → IsTrue (stands_before p.at q.at)
  in_columns p q m n a b at_p at_q less = first p.at.0 p.at.1 q.at.0 q.at.1 (ap (λ (d : ℤ × ℤ). d.1) (at_of m a p at_p))
      (ap (λ (d : ℤ × ℤ). d.1) (at_of n b q at_q))
    where
      first : (x y z w : ℤ) → y ≡ a → w ≡ b → (int_lt w y || (int_eq w y && int_lt z x)) ≡ true
      first x y z w f k = grind (arith, ints)

  -- the cells of an Alexander degree are in order
  column-ordered : (a : ℤ) → AllPairs (λ (p q : Cell). IsTrue (stands_before p.at q.at)) (column a)
  unfolding column
  column-ordered a =
      pairs_flat_map (λ x y. y <ℤ x) (λ (p q : Cell). IsTrue (stands_before p.at q.at))
      (λ m. cell_if (m, a) (found (m, a)))
      (window 1000) (window-falls 1000)
      (λ m inside. cell_if-pairs (m, a) (found (m, a)))
      (λ m n less p q in_m in_n. in_column p q m n a (member_of_cell_if (m, a) (found (m, a)) p in_m).0
      (member_of_cell_if (n, a) (found (n, a)) q in_n).0 less)

  -- and so are all
  all_cells-ordered : AllPairs (λ (p q : Cell). IsTrue (stands_before p.at q.at)) all_cells
  unfolding all_cells
  all_cells-ordered =
      pairs_flat_map (λ x y. y <ℤ x) (λ (p q : Cell). IsTrue (stands_before p.at q.at)) column (window 1000)
      (window-falls 1000)
      (λ a inside. column-ordered a)
      (λ a b less p q in_a in_b.
      let at_p = member_of_column a p in_a in
      let at_q = member_of_column b q in_b in
      in_columns p q at_p.0 at_q.0 a b at_p.1 at_q.1 less)

  -- each cell is made
  member-made : (cell : Cell) → Contains all_cells cell → IsMadeCell g cell
  unfolding all_cells
  member-made cell inside =
      let (a, within, kept) = member_of_flat_map column (window 1000) cell inside in
      let (m, is, (s, stood)) = member_of_column a cell kept in
      let (state, passed) = member_of_filter (has_bidegree g (m, a)) (ascending (factorial (size g))) s stood in
      subst (IsMadeCell g) is (cell_at-made (m, a) s (member_of_ascending (factorial (size g)) s state)
      ((same_degree-is (bidegree g (unrank (size g) s)) (m, a)).0 passed))

  -- the bidegree of each state has a cell
  has_cell : (s : ℕ) → s < factorial (size g) → Contains all_cells (cell_at (bidegree g (unrank (size g) s)))
  unfolding all_cells column
  has_cell s below =
      let x = unrank (size g) s in
      let d = bidegree g x in
      let maslov = maslov_small g grid x (IsBijection-unrank (size g) s below) in
      let second = alexander_small g grid x (IsBijection-unrank (size g) s below) in
      Contains-flat_map column (window 1000) d.1 (cell_at d) (Contains-window 1000 d.1 (second.low, second.high))
      (Contains-flat_map (λ m. cell_if (m, d.1) (found (m, d.1))) (window 1000) d.0 (cell_at d)
      (Contains-window 1000 d.0 (maslov.low, maslov.high))
      (Contains-cell_if d (found d) s (Contains-filter (has_bidegree g d) (ascending (factorial (size g))) s
      (Contains-ascending (factorial (size g)) s below) ((same_degree-is d d).1 refl))))

  -- a member that passes is found
  any_from : (p : Cell → Bool) (cells : List Cell) (cell : Cell) → Contains cells cell → p cell ≡ true
      → list_any p cells ≡ true
  any_from p [] cell inside h = absurd (no_member cell inside)
  any_from p (first ∷ cells) cell inside h = elim (member_cases first cells cell inside) [
    | inl e ↦ ap (λ b. b || list_any p cells) (ap p e ∙ h)
    | inr later ↦ ap (λ b. p first || b) (any_from p cells cell later h) ∙ either (p first)
  ]
    where
      either : (b : Bool) → (b || true) ≡ true
      either true = refl
      either false = refl

  -- the cells are made and none is missing
  are_made : AreMade g all_cells
  are_made = record {
    ordered = all_cells-ordered;
    each = λ k d l. member-made (get_or all_cells k d) (Contains-get_or all_cells k d l);
    complete = all_below-true (factorial (size g)) (λ s. list_any (λ (cell : Cell). has_bidegree g cell.at s) all_cells)
        (λ s below.
        let e = bidegree g (unrank (size g) s) in
        any_from (λ (cell : Cell). has_bidegree g cell.at s) all_cells (cell_at e) (has_cell s below)
        ((same_degree-is e (cell_at e).at).1 (sym (at-cell_at e))));
  }

-- each grid of size at most six has a certificate that passes, whose text has less than 2^24 bytes
pub exists_certificate : (h : Marks) → IsGrid h → size h ≤ 6
    → (c : Certificate) × IsCertificate c × (c.grid ≡ h) × (verdict_of c ≡ Yes) ×
    (length (certificate_text c) < 16777216)
exists_certificate h grid small = (
  record { grid = h; cells = all_cells h grid },
  made_certificate h grid small (all_cells h grid) (are_made h grid),
  refl,
  verdict_of-made h grid (all_cells h grid) (are_made h grid),
  made_short h grid small (all_cells h grid) (are_made h grid),
)
