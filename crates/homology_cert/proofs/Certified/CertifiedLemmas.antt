-- A certificate with the verdict yes implies the table of ranks of its grid.
--
-- The facts of each cell (PassingLemmas) are those that `f2_algebra` asks of a cell of a certificate of the grid
-- complex: chains whose states have the bidegree are chains of this degree, borders are those of the complex, and as
-- many states as are counted are its cells of this degree. So the number of cycle pairs of a cell is the rank in its
-- bidegree, and the rank is 0 if there is no cell. The rows are in order because the cells are.
use Rattle.std.proofs.Common.{◌≡◌, ◌≢◌, ℕ, zero, suc, ◌+◌, ◌<◌, Bool, true, false, not, ◌&&◌, ◌||◌, eqb, List, [], ◌∷◌, length, get_or, ℤ, pos, ◌+ℤ◌, ◌-ℤ◌, Any, All, AllPairs, Contains, IsTrue, ◌↔◌, if◌then◌else◌, inl, inr, refl, sym, ap, ap₂, subst, ◌∙◌, is_some, nat_lt, arith}
use Rattle.std.specs.List.{filter, list_any, list_all}
use Rattle.std.specs.Ordering.{int_eq}
use Rattle.std.specs.declared.option.Option.TheVariants.{None, Some}
use Rattle.std.proofs.Math.Bool.{or-true}
use Rattle.std.proofs.lemmas.Bool.{and_parts, true≢false, false≢true, lt-ltb, ltb-true, eqb-true, eq-eqb, ne_eqb, not-true}
use Rattle.std.proofs.lemmas.Bool.Decides.{Decides-int_eq}
use Rattle.std.proofs.lemmas.Int.{ints}
use Rattle.std.proofs.lemmas.Map.Views.{Contains-from_any}
use Rattle.f2_algebra.specs.Chain.{Chain, holds, codes, nothing, pairs_oddly}
use Rattle.f2_algebra.specs.Complex.{Complex, AllOfDegree, IsCycle, IsComplex, IsRank, border as border_in}
use Rattle.f2_algebra.specs.Bigraded.{up_m, stands_before, StandsBefore}
use Rattle.f2_algebra.specs.Certificate.{CyclePair, StepPair, IsAllCells, AreCyclePairs, AreStepPairs, IsCertCell, Passes, steps_at}
use Rattle.f2_algebra.proofs.Ranks.OrderLemmas.{Decides-stands_before}
use Rattle.f2_algebra.proofs.Chains.Sets.{any, IsApart, same_chain, holds-codes, holds-nothing, pairs_oddly-weight, weight-nothing, each_code}
use Rattle.f2_algebra.proofs.Cancelling.Cancellation.{same_some}
use Rattle.f2_algebra.proofs.Ranks.Existence.{cells_of, cells_of-all, has_degree as has_degree_in}
use Rattle.f2_algebra.proofs.Ranks.RankLemmas.{one_rank}
use Rattle.f2_algebra.proofs.Certificates.Span.{Every}
use Rattle.f2_algebra.proofs.Certificates.Certificate.{all_from}
use Rattle.f2_algebra.proofs.Certificates.LogCertificate.{pairs_from}
use Rattle.f2_algebra.proofs.Certificates.CertificateRanks.{rank_of_cell, rank_elsewhere}
use Rattle.state_rank.specs.Bijection.{ascending}
use Rattle.state_rank.specs.States.{factorial, unrank}
use Rattle.state_rank.proofs.OrderLemmas.{member_of_ascending, ascending_rises}
use Rattle.state_rank.proofs.MemberLemmas.{member_cases, no_member, Contains-map, member_of_map, Contains-filter, member_of_filter, pairs_map, pairs_filter, count-same, pairs_weaker}
use Rattle.torus_geom.specs.Marks.{Marks, size, IsGrid}
use Rattle.torus_geom.specs.Degrees.{bidegree}
use Rattle.torus_geom.specs.Inner.CodeBorder.{border_of_state, border}
use Rattle.torus_geom.specs.Inner.GridComplex.{grid_complex}
use Rattle.torus_geom.specs.Homology.{Row}
use Rattle.torus_geom.specs.Inner.CodeHomology.{IsHomologyTable, IsHomologyRank}
use Rattle.torus_geom.proofs.Sums.AllBelowLemmas.{at_all_below}
use Rattle.rectangles.proofs.Square.BorderLemmas.{border-grid_complex}
use Rattle.rectangles.proofs.Law.GridComplexLemmas.{grid_complex_rules}
use Rattle.homology_cert.specs.CertificateCodes.{Cell, Certificate}
use Rattle.homology_cert.specs.Inner.CodeCertificates.{AreStates, HasCycleStates, HasStepStates, HasPairStates, IsCertificate}
use Rattle.homology_cert.specs.CertificateTests.{same_degree, one_below}
use Rattle.homology_cert.specs.Inner.CodeTests.{has_bidegree, all_have, state_count_at, is_empty_chain, is_cocycle, verdict_of, certified_rows}
use Rattle.homology_cert.specs.declared.verdicts.CertVerdict.TheVariants.{Yes}
use Rattle.cancel.proofs.MapLemmas.{IsApart-pairs}
use Rattle.rectangles.proofs.Homology.GridCells.{has_all_cells}
use Rattle.homology_cert.proofs.Certified.PassingLemmas.{PassesCycle, PassesStep, PassesCell, ArePairedApart, member_of_all, passes_of_yes}
use Rattle.f2_algebra.proofs.Chains.Cardinality.{cardinality-length, cardinality-of_codes}

-- ---- degrees
pub same_degree-is : (d e : ℤ × ℤ) → (same_degree d e ≡ true) ↔ (d ≡ e)
same_degree-is d e = (
  λ h.
      let (first, second) = and_parts (int_eq d.0 e.0) (int_eq d.1 e.1) h in
      let m = (Decides-int_eq d.0 e.0).0 first in
      let a = (Decides-int_eq d.1 e.1).0 second in
      λ i. (m i, a i),
  λ e_is. ap₂ (λ s t. s && t) ((Decides-int_eq d.0 e.0).1 (ap (λ (t : ℤ × ℤ). t.0) e_is))
      ((Decides-int_eq d.1 e.1).1 (ap (λ (t : ℤ × ℤ). t.1) e_is)),
)

pub tested_code : (p : ℕ → Bool) (z : Chain) → list_all p (codes z) ≡ true → (s : ℕ) → holds z s ≡ true → p s ≡ true
tested_code p z all s held =
    member_of_all p (codes z) all s (Contains-from_any (λ a b. eqb-true a b) s (codes z) (sym (holds-codes z s) ∙ held))

pub nothing_of_empty : (z : Chain) → is_empty_chain z ≡ true → z ≡ nothing
nothing_of_empty z h =
    same_chain z nothing (λ s. holds-codes z s ∙ ap (any s) (no_codes (codes z) h) ∙ sym (holds-nothing s))
  where
    no_codes : (xs : List ℕ) → eqb (length xs) 0 ≡ true → xs ≡ []
    no_codes [] h = refl
    no_codes (x ∷ xs) h = let long = eqb-true (length (x ∷ xs)) 0 h in absurd (omega arith)

module _ (g : Marks) (grid : IsGrid g) where
  abbrev pub G : Complex (ℤ × ℤ)
  G = grid_complex g

  pub degree_of_state : (s : ℕ) → s < factorial (size g) → G.degree s ≡ Some (bidegree g (unrank (size g) s))
  degree_of_state s within =
      ap (λ b. if b then Some (bidegree g (unrank (size g) s)) else None) (lt-ltb s (factorial (size g)) within)

  pub state_of_degree : (s : ℕ) (d : ℤ × ℤ) → G.degree s ≡ Some d → s < factorial (size g)
  state_of_degree s d is = by_test (nat_lt s (factorial (size g))) refl
    where
      by_test : (b : Bool) → nat_lt s (factorial (size g)) ≡ b → s < factorial (size g)
      by_test true e = ltb-true s (factorial (size g)) e
      by_test false e = cc (sym (ap (λ b. if b then Some (bidegree g (unrank (size g) s)) else None) e) ∙ is)

  -- a state with the bidegree has this degree in the complex
  pub degree_of_test : (d : ℤ × ℤ) (s : ℕ) → s < factorial (size g) → has_bidegree g d s ≡ true → G.degree s ≡ Some d
  degree_of_test d s within h =
      degree_of_state s within ∙ ap Some ((same_degree-is (bidegree g (unrank (size g) s)) d).0 h)

  pub all_of_degree : (d : ℤ × ℤ) (z : Chain) → AreStates g z → all_have g d z ≡ true → AllOfDegree G d z
  all_of_degree d z states h s held =
      degree_of_test d s (each_code (λ code. code < factorial (size g)) z states s held)
      (tested_code (has_bidegree g d) z h s held)

  -- ---- pairs
  no_border : (z : Chain) → is_empty_chain (border g z) ≡ true → border_in G z ≡ nothing
  no_border z h = border-grid_complex g z ∙ nothing_of_empty (border g z) h

  even_with_borders : (f : Chain) → is_cocycle g f ≡ true → (s : ℕ) → pairs_oddly (G.targets s) f ≡ false
  even_with_borders f h s = by_test (nat_lt s (factorial (size g))) refl
    where
      by_test : (b : Bool) → nat_lt s (factorial (size g)) ≡ b → pairs_oddly (G.targets s) f ≡ false
      by_test true e =
          ap (λ b. pairs_oddly (if b then border_of_state g (unrank (size g) s) else nothing) f) e
          ∙ not-true _ (at_all_below (factorial (size g)) (λ t. not
          (pairs_oddly (border_of_state g (unrank (size g) t)) f)) h s (ltb-true s (factorial (size g)) e))
      by_test false e =
          ap (λ b. pairs_oddly (if b then border_of_state g (unrank (size g) s) else nothing) f) e
          ∙ pairs_oddly-weight nothing f ∙ weight-nothing (holds f)

  with_states : {X : Type 0} (P Q R : X → Type 0) (xs : List X) → ((x : X) → P x → Q x → R x) → All P xs → Every Q xs
      → All R xs
  with_states P Q R xs f p q k d l = f (get_or xs k d) (p k d l) (all_from Q xs q k d l)

  pub are_cycle_pairs : (d : ℤ × ℤ) (cell : Cell) → HasPairStates g cell → Every (PassesCycle g d) cell.cycles
      → AllPairs ArePairedApart cell.cycles → AreCyclePairs G d cell.cycles
  are_cycle_pairs d cell states passes apart = record {
    cycles = with_states (HasCycleStates g) (PassesCycle g d) (λ (p : CyclePair). IsCycle G d p.cycle) cell.cycles
        (λ p s t. (all_of_degree d p.cycle s.cycle t.cycle_degree, no_border p.cycle t.cycle)) states.cycles passes;
    cocycle_degrees =
        with_states (HasCycleStates g) (PassesCycle g d) (λ (p : CyclePair). AllOfDegree G d p.cocycle) cell.cycles
        (λ p s t. all_of_degree d p.cocycle s.cocycle t.cocycle_degree) states.cycles passes;
    cocycles =
        with_states (HasCycleStates g) (PassesCycle g d)
        (λ (p : CyclePair). (s : ℕ) → pairs_oddly (G.targets s) p.cocycle ≡ false) cell.cycles
        (λ p s t. even_with_borders p.cocycle t.cocycle) states.cycles passes;
    own = with_states (HasCycleStates g) (PassesCycle g d)
        (λ (p : CyclePair). pairs_oddly p.cycle p.cocycle ≡ true) cell.cycles (λ p s t. t.own) states.cycles passes;
    others = apart;
  }

  below_up : (d e : ℤ × ℤ) → e ≡ one_below d → up_m e ≡ d
  below_up d e is = ap up_m is ∙ (λ i. (back d.0 i, d.1))
    where
      back : (m : ℤ) → (m -ℤ pos 1) +ℤ pos 1 ≡ m
      back m = omega (arith, ints)

  pub are_step_pairs : (d : ℤ × ℤ) (cell : Cell) → HasPairStates g cell → Every (PassesStep g d) cell.steps
      → AllPairs (λ (p q : StepPair). pairs_oddly (border g q.step) p.probe ≡ false) cell.steps
      → AreStepPairs G d cell.steps
  are_step_pairs d cell states passes apart = record {
    steps = with_states (HasStepStates g) (PassesStep g d) (λ (p : StepPair). AllOfDegree G d p.step) cell.steps
        (λ p s t. all_of_degree d p.step s.step t.step_degree) states.steps passes;
    probe_degrees =
        with_states (HasStepStates g) (PassesStep g d)
        (λ (p : StepPair). (s : ℕ) → holds p.probe s ≡ true → (n : ℤ × ℤ) × (G.degree s ≡ Some n) × (G.up n ≡ d))
        cell.steps
        (λ p s t. probe_below p s t) states.steps passes;
    own = with_states (HasStepStates g) (PassesStep g d)
        (λ (p : StepPair). pairs_oddly (border_in G p.step) p.probe ≡ true) cell.steps
        (λ p s t. ap (λ z. pairs_oddly z p.probe) (border-grid_complex g p.step) ∙ t.own) states.steps passes;
    later = λ i j e l m. ap (λ z. pairs_oddly z (get_or cell.steps i e).probe)
        (border-grid_complex g (get_or cell.steps j e).step) ∙ apart i j e l m;
  }
    where
      probe_below : (p : StepPair) → HasStepStates g p → PassesStep g d p → (s : ℕ) → holds p.probe s ≡ true
          → (n : ℤ × ℤ) × (G.degree s ≡ Some n) × (G.up n ≡ d)
      probe_below p states passes s held = (
        one_below d,
        all_of_degree (one_below d) p.probe states.probe passes.probe_degree s held,
        below_up d (one_below d) refl,
      )

  -- ---- the states of a bidegree
  -- the cells of a bidegree are as many as the states that are counted
  pub cells_at : (d : ℤ × ℤ) → (cells : Chain) × IsAllCells G d cells × (length (codes cells) ≡ state_count_at g d)
  cells_at d = (
    cells_of same_degree same_degree-is G xs d,
    cells_of-all same_degree same_degree-is G xs (has_all_cells g) d,
    sym (cardinality-length _) ∙ cardinality-of_codes (filter (λ s. has_degree_in same_degree d (G.degree s)) xs) apart
        ∙ count-same (λ s. has_degree_in same_degree d (G.degree s)) (has_bidegree g d) xs
        (λ s inside. ap (has_degree_in same_degree d)
        (degree_of_state s (member_of_ascending (factorial (size g)) s inside))),
  )
    where
      xs : List ℕ
      xs = ascending (factorial (size g))

      apart : IsApart (filter (λ s. has_degree_in same_degree d (G.degree s)) xs)
      apart = IsApart-pairs _ (pairs_filter (λ a b. a ≢ b) _ xs
          (pairs_weaker (λ a b. a < b) (λ a b. a ≢ b) xs (λ a b l e. omega (arith, l, e))
          (ascending_rises (factorial (size g)))))

-- ---- the table
module _ (c : Certificate) (is : IsCertificate c) (told : verdict_of c ≡ Yes) where
  abbrev g : Marks
  g = c.grid

  abbrev C : Complex (ℤ × ℤ)
  C = grid_complex c.grid

  rules : IsComplex C
  rules = grid_complex_rules c.grid is.grid

  cell_count : (cell : Cell) → PassesCell c cell
      → (cells : Chain) × IsAllCells C cell.at cells × (length (codes cells) ≢ 0)
      × (length (codes cells)
      ≡ length cell.cycles + length cell.steps + length (steps_at same_degree c.cells (C.up cell.at)))
  cell_count cell passes =
      let (cells, all, counted) = cells_at c.grid is.grid cell.at in
      let (some, right) = and_parts (not (eqb (state_count_at c.grid cell.at) 0)) _ passes.count in (
        cells,
        all,
        (λ none. true≢false (sym some ∙ ap not (eq-eqb (state_count_at c.grid cell.at) 0 (sym counted ∙ none)))),
        counted ∙ eqb-true _ _ right,
      )

  cert_cell : (cell : Cell) → HasPairStates c.grid cell → PassesCell c cell → IsCertCell same_degree C c.cells cell
  cert_cell cell states passes = record {
    count = cell_count cell passes;
    cycle_pairs =
        are_cycle_pairs c.grid is.grid cell.at cell states passes.cycles
        (pairs_from ArePairedApart cell.cycles passes.cycles_apart);
    step_pairs =
        are_step_pairs c.grid is.grid cell.at cell states passes.steps
        (pairs_from (λ (p q : StepPair). pairs_oddly (border c.grid q.step) p.probe
        ≡ false) cell.steps passes.steps_apart);
  }

  -- a cell of the bidegree of a state, found by the test
  at_bidegree : (d : ℤ × ℤ) (cells : List Cell) → list_any (λ (cell : Cell). same_degree d cell.at) cells ≡ true
      → Any (λ (cell : Cell). cell.at ≡ d) cells
  at_bidegree d [] h = absurd (false≢true h)
  at_bidegree d (cell ∷ cells) h =
      by_test (same_degree d cell.at) refl
      (λ (k : list_any (λ (e : Cell). same_degree d e.at) cells ≡ true). at_bidegree d cells k)
    where
      by_test : (b : Bool) → same_degree d cell.at ≡ b
          → (list_any (λ (e : Cell). same_degree d e.at) cells ≡ true → Any (λ (e : Cell). e.at ≡ d) cells)
          → Any (λ (e : Cell). e.at ≡ d) (cell ∷ cells)
      by_test true e later = (0, cell, omega arith, refl, sym ((same_degree-is d cell.at).0 e))
      by_test false e later =
          let (k, found, within, at, same) =
          later (sym (ap (λ b. b || list_any (λ (e : Cell). same_degree d e.at) cells) e) ∙ h) in
          (suc k, found, omega arith, at, same)

  passes : Passes same_degree C c.cells
  passes =
      let shown = passes_of_yes c told in (
        with_states c.grid is.grid (HasPairStates c.grid) (PassesCell c)
            (IsCertCell same_degree C c.cells) c.cells cert_cell is.states shown.0,
        λ s d at.
            let within = state_of_degree c.grid is.grid s d at in
            let here =
            at_all_below (factorial (size c.grid))
            (λ t. list_any (λ (cell : Cell). has_bidegree c.grid cell.at t) c.cells) shown.1 s within in
            let bidegree_is = degree_of_state c.grid is.grid s within in
            at_bidegree d c.cells (ap (λ e. list_any (λ (cell : Cell). same_degree e cell.at) c.cells)
            (same_some d _ (sym at ∙ bidegree_is)) ∙ here),
      )

  abbrev row_of : Cell → Row
  row_of cell = (cell.at.0, cell.at.1, length cell.cycles)

  abbrev has_cycles : Cell → Bool
  has_cycles cell = not (eqb (length cell.cycles) 0)

  -- the number of cycle pairs of a cell is the rank in its bidegree
  rank_at_cell : (cell : Cell) → Contains c.cells cell → IsRank C cell.at (length cell.cycles)
  rank_at_cell cell (k, within, at) =
      rank_of_cell same_degree same_degree-is C rules c.cells passes cell
      (subst (IsCertCell same_degree C c.cells) at (passes.0 k cell within))

  some_cycles : (cell : Cell) → has_cycles cell ≡ true → 0 < length cell.cycles
  some_cycles cell h = by_length (length cell.cycles) h
    where
      by_length : (n : ℕ) → not (eqb n 0) ≡ true → 0 < n
      by_length zero h = absurd (false≢true h)
      by_length (suc n) h = omega arith

  found : (p : Cell → Bool) (cells : List Cell) (cell : Cell) → Contains cells cell → p cell ≡ true
      → list_any p cells ≡ true
  found p [] cell inside h = absurd (no_member cell inside)
  found p (first ∷ cells) cell inside h = elim (member_cases first cells cell inside) [
    | inl e ↦ ap (λ b. b || list_any p cells) (ap p e ∙ h)
    | inr later ↦ ap (λ b. p first || b) (found p cells cell later h) ∙ or-true (p first)
  ]

  no_cell_at : (d : ℤ × ℤ) (cells : List Cell) → list_any (λ (cell : Cell). same_degree d cell.at) cells ≡ false
      → Any (λ (cell : Cell). cell.at ≡ d) cells → ⊥
  no_cell_at d cells h (k, cell, within, at, same) =
      true≢false (sym (found (λ (e : Cell). same_degree d e.at) cells cell (k, within, at)
      ((same_degree-is d cell.at).1 (sym same))) ∙ h)

  told_row : (m a : ℤ) (d : ℕ) → Contains (certified_rows c.cells) (m, a, d) → (0 < d) × IsHomologyRank c.grid m a d
  told_row m a d inside =
      let (cell, kept, e) = member_of_map row_of (filter has_cycles c.cells) _ inside in
      let (member, some) = member_of_filter has_cycles c.cells cell kept in
      subst (λ (t : Row). (0 < t.2) × IsRank C (t.0, t.1) t.2) e (some_cycles cell some, rank_at_cell cell member)

  row_of_rank : (m a : ℤ) (d : ℕ) → 0 < d → IsHomologyRank c.grid m a d → Contains (certified_rows c.cells) (m, a, d)
  row_of_rank m a d positive rank = by_test (list_any (λ (cell : Cell). same_degree (m, a) cell.at) c.cells) refl
    where
      at : ℤ × ℤ
      at = (m, a)

      some : (n : ℕ) → 0 < n → not (eqb n 0) ≡ true
      some n h = ap not (ne_eqb n 0 (λ e. omega (arith, h, e)))

      by_test : (b : Bool) → list_any (λ (cell : Cell). same_degree (m, a) cell.at) c.cells ≡ b
          → Contains (certified_rows c.cells) (m, a, d)
      by_test true h =
          let (k, cell, within, inside, same) = at_bidegree at c.cells h in
          let member : Contains c.cells cell = (k, within, inside) in
          let length_is =
          one_rank C at d (length cell.cycles) rank
          (subst (λ (e : ℤ × ℤ). IsRank C e (length cell.cycles)) same (rank_at_cell cell member)) in
          let kept =
          Contains-filter has_cycles c.cells cell member
          (some (length cell.cycles) (subst (λ n. 0 < n) length_is positive)) in
          let row : row_of cell ≡ (m, a, d) = λ i. ((same i).0, (same i).1, sym length_is i) in
          subst (Contains (certified_rows c.cells)) row (Contains-map row_of (filter has_cycles c.cells) cell kept)
      by_test false h =
          let none =
          one_rank C at d 0 rank (rank_elsewhere same_degree same_degree-is C rules c.cells passes at
          (no_cell_at at c.cells h)) in
          absurd (omega arith)

  -- the rows are the table of the ranks of the grid
  pub table_of_certificate : IsHomologyTable c.grid (certified_rows c.cells)
  table_of_certificate = record {
    ordered =
        pairs_map (λ (p q : Cell). IsTrue (stands_before p.at q.at)) (λ (p q : Row). StandsBefore (p.0, p.1) (q.0, q.1))
        row_of (filter has_cycles c.cells) (λ p q. (Decides-stands_before p.at q.at).0)
        (pairs_filter (λ (p q : Cell). IsTrue (stands_before p.at q.at)) has_cycles c.cells is.ordered);
    complete = λ m a d. (told_row m a d, λ h. row_of_rank m a d h.0 h.1);
  }
